-- Code of an application by one numbering of its instances fits its types, and leads from no GET route to a write, where that of another does.
use Rattle.std.proofs.Common.{◌≡◌, ℕ, zero, suc, Bool, List, [], ◌∷◌, length, map, All, Contains, Option, Some, refl, sym, ap, subst, ◌∙◌}
use Rattle.std.specs.Prelude.{slice_get}
use Rattle.std.specs.List.{AllZip, AllByRecursion}
use Rattle.std.specs.Str.{IsUtf8}
use Rattle.std.proofs.lemmas.List.Elements.{All-from_recursion, recursion_from_All}
use Rattle.ur_values.specs.declared.types.ValueType.{ValueType}
use Rattle.ur_values.specs.declared.types.ValueType.TheVariants as ty
use Rattle.ur_values.specs.declared.schema.Schema.{Schema}
use Rattle.ur_sql.specs.Typing.{QueryFits, ChangeFits}
use Rattle.ur_tags.specs.declared.routes.Route.{Route}
use Rattle.ur_tags.specs.declared.routes.Handlers.{Handlers}
use Rattle.ur_terms.specs.declared.term.Function.{Function}
use Rattle.ur_terms.specs.Shape.{Deed, calls, deeds, WritesFrom}
use Rattle.ur_terms.specs.Types.{Signature, HasType, FitsFunction, function_type}
use Rattle.ur_tree.specs.declared.typed.Typed.{Typed}
use Rattle.ur_tree.specs.declared.typed.Function as source
use Rattle.ur_tree.specs.declared.typed.Variant.{Variant}
use Rattle.ur_tree.specs.declared.closed.Closed.{Closed}
use Rattle.ur_tree.specs.declared.closed.Instance.{Instance}
use Rattle.ur_meaning.specs.Unfolds.{Unfolds}
use Rattle.ur_meaning.specs.Instances.{IsNumbered}
use Rattle.ur_source.specs.Reading.{Names, closed_type, result_type}
use Rattle.ur_source.specs.Items.{exp, scope_of}
use Rattle.ur_source.specs.Source.{language}
use Rattle.ur_source.specs.Instances.{value_params, IsFunctionOf, IsTarget, IsVariant, IsClosedAs, IsClosed}
use Rattle.ur_code.specs.declared.code.Code.{Code}
use Rattle.ur_code.specs.declared.code.Cookie.{Cookie}
use Rattle.ur_code.specs.RowType.{kind_type, query_type}
use Rattle.ur_code.specs.RouteTypes.{route_params}
use Rattle.ur_code.specs.Fits.{signature, route_type, FitsRoute, IsBasicCookie, Fits}
use Rattle.ur_mono.specs.Mono.{IsCodeOf, cookie_of}
use Rattle.ur_effects.specs.Writes.{IsWrite}
use Rattle.ur_effects.specs.Refused.{GetNeverWrites}
use Rattle.ur_compile.specs.Passes.{IsOfEach}
use Rattle.ur_compile.proofs.Renumbered.{some_of, beside, before, mapped_at, partner, with_functions, typed, IsAlike, called, change, number, cookie, alike}

-- ---- what code has whatever the numbering

-- all but the functions and the targets of routes
record SameBut (p q : Code) : Type 0 where
  schema : q.schema ≡ p.schema
  handlers : q.handlers ≡ p.handlers
  names : q.names ≡ p.names
  variants : q.variants ≡ p.variants
  cookies : q.cookies ≡ p.cookies
  queries : q.queries ≡ p.queries
  changes : q.changes ≡ p.changes

one_variant : (names : Names) (vs : List Variant) (xs ys : List (ℕ × Option ValueType)) → AllZip (IsVariant names) vs xs
    → AllZip (IsVariant names) vs ys → ys ≡ xs
one_variant names [] [] [] a b = refl
one_variant names [] [] (y ∷ ys) a b = absurd b
one_variant names [] (x ∷ xs) ys a b = absurd a
one_variant names (v ∷ vs) [] ys a b = absurd a
one_variant names (v ∷ vs) (x ∷ xs) [] a b = absurd b
one_variant names (v ∷ vs) (x ∷ xs) (y ∷ ys) ((d, o), as_) ((d', o'), bs) =
    let first : y.0 ≡ x.0 = d' ∙ sym d in
    let second : y.1 ≡ x.1 = o' ∙ sym o in
    ap (λ (n : ℕ). (n, y.1) ∷ ys) first ∙ ap (λ (o : Option ValueType). (x.0, o) ∷ ys) second ∙ ap (λ zs. x ∷ zs) (one_variant names vs xs ys as_ bs)

same_but : (app : Typed) (c d : Closed) (p q : Code) (is ds : List Instance) → IsClosedAs app c is → IsClosedAs app d ds → IsCodeOf c p
    → IsCodeOf d q → SameBut p q
same_but app c d p q is ds a b x y =
    let cookies : d.cookies ≡ c.cookies = b.cookies ∙ sym a.cookies in
    record {
      schema = y.schema ∙ b.schema ∙ sym a.schema ∙ sym x.schema;
      handlers = y.handlers ∙ b.handlers ∙ sym a.handlers ∙ sym x.handlers;
      names = y.names ∙ b.names ∙ sym a.names ∙ sym x.names;
      variants = y.variants ∙ one_variant app.names app.variants c.variants d.variants a.variants b.variants ∙ sym x.variants;
      cookies = y.cookies ∙ ap (map cookie_of) cookies ∙ sym x.cookies;
      queries = y.queries ∙ b.queries ∙ sym a.queries ∙ sym x.queries;
      changes = y.changes ∙ b.changes ∙ sym a.changes ∙ sym x.changes;
    }

same_signature : (p q : Code) → SameBut p q → signature q ≡ with_functions (signature p) (map function_type q.functions)
same_signature p q s =
    let fs : List (List ValueType × ValueType) = map function_type q.functions in
    ap (λ z. record {
      names = z;
      variants = q.variants;
      cookies = map (λ c. kind_type c.of) q.cookies;
      queries = map query_type q.queries;
      changes = map (λ u. map kind_type u.params) q.changes;
      sequences = length q.schema.sequences;
      routes = map route_type q.handlers.routes;
      functions = fs;
    }) s.names
    ∙ ap (λ z. record {
      names = p.names;
      variants = z;
      cookies = map (λ c. kind_type c.of) q.cookies;
      queries = map query_type q.queries;
      changes = map (λ u. map kind_type u.params) q.changes;
      sequences = length q.schema.sequences;
      routes = map route_type q.handlers.routes;
      functions = fs;
    }) s.variants
    ∙ ap (λ z. record {
      names = p.names;
      variants = p.variants;
      cookies = map (λ c. kind_type c.of) z;
      queries = map query_type q.queries;
      changes = map (λ u. map kind_type u.params) q.changes;
      sequences = length q.schema.sequences;
      routes = map route_type q.handlers.routes;
      functions = fs;
    }) s.cookies
    ∙ ap (λ z. record {
      names = p.names;
      variants = p.variants;
      cookies = map (λ c. kind_type c.of) p.cookies;
      queries = map query_type z;
      changes = map (λ u. map kind_type u.params) q.changes;
      sequences = length q.schema.sequences;
      routes = map route_type q.handlers.routes;
      functions = fs;
    }) s.queries
    ∙ ap (λ z. record {
      names = p.names;
      variants = p.variants;
      cookies = map (λ c. kind_type c.of) p.cookies;
      queries = map query_type p.queries;
      changes = map (λ u. map kind_type u.params) z;
      sequences = length q.schema.sequences;
      routes = map route_type q.handlers.routes;
      functions = fs;
    }) s.changes
    ∙ ap (λ (z : Schema). record {
      names = p.names;
      variants = p.variants;
      cookies = map (λ c. kind_type c.of) p.cookies;
      queries = map query_type p.queries;
      changes = map (λ u. map kind_type u.params) p.changes;
      sequences = length z.sequences;
      routes = map route_type q.handlers.routes;
      functions = fs;
    }) s.schema
    ∙ ap (λ (z : Handlers). record {
      names = p.names;
      variants = p.variants;
      cookies = map (λ c. kind_type c.of) p.cookies;
      queries = map query_type p.queries;
      changes = map (λ u. map kind_type u.params) p.changes;
      sequences = length p.schema.sequences;
      routes = map route_type z.routes;
      functions = fs;
    }) s.handlers

-- an element of a list of which something holds
every_at : {A : Type 0} (P : A → Type 0) (xs : List A) → AllByRecursion P xs → (i : ℕ) (x : A) → slice_get xs i ≡ Some x → P x
every_at P [] a i x e = absurd (cc)
every_at P (y ∷ ys) (p, a) zero x e = subst P (some_of y x e) p
every_at P (y ∷ ys) (p, a) (suc i) x e = every_at P ys a i x e

-- ---- two numberings of an application's instances

module _ (app : Typed) (is ds : List Instance) (fs gs : List Function)
    (functions : AllZip (IsFunctionOf app is) is fs) (others : AllZip (IsFunctionOf app ds) ds gs) where
  -- an instance's functions by its two numbers
  record Pair (k : Instance) (j h : ℕ) : Type 0 where
    f : Function
    g : Function
    is_f : slice_get fs j ≡ Some f
    is_g : slice_get gs h ≡ Some g
    of_f : IsFunctionOf app is k f
    of_g : IsFunctionOf app ds k g

  pair : (k : Instance) (j h : ℕ) → slice_get is j ≡ Some k → slice_get ds h ≡ Some k → Pair k j h
  pair k j h e e' =
      let a = beside (IsFunctionOf app is) is fs functions j k e in
      let b = beside (IsFunctionOf app ds) ds gs others h k e' in
      record { f = a.0; g = b.0; is_f = a.1; is_g = b.1; of_f = a.2; of_g = b.2 }

  one_source : (k : Instance) (f g : Function) (a : IsFunctionOf app is k f) (b : IsFunctionOf app ds k g) → b.function ≡ a.function
  one_source k f g a b = some_of b.function a.function (sym b.is_function ∙ a.is_function)

  same_params : (k : Instance) (f g : Function) → IsFunctionOf app is k f → IsFunctionOf app ds k g → g.params ≡ f.params
  same_params k f g a b =
      b.params ∙ ap (λ (z : source.Function). map (closed_type app.names k.cons) (value_params z.params)) (one_source k f g a b) ∙ sym a.params

  same_result : (k : Instance) (f g : Function) → IsFunctionOf app is k f → IsFunctionOf app ds k g → g.result ≡ f.result
  same_result k f g a b =
      ap (λ (z : Bool × ValueType). z.1) (b.result ∙ ap (λ (z : source.Function). result_type app.names k.cons z.result) (one_source k f g a b) ∙ sym a.result)

  same_type : (k : Instance) (f g : Function) → IsFunctionOf app is k f → IsFunctionOf app ds k g → function_type g ≡ function_type f
  same_type k f g a b = ap (λ (z : List ValueType). (z, g.result)) (same_params k f g a b) ∙ ap (λ (z : ValueType). (f.params, z)) (same_result k f g a b)

  same_types : (k : Instance) (j h : ℕ) → slice_get is j ≡ Some k → slice_get ds h ≡ Some k
      → slice_get (map function_type fs) j ≡ slice_get (map function_type gs) h
  same_types k j h e e' =
      let c = pair k j h e e' in
      mapped_at function_type fs j c.f c.is_f ∙ ap Some (sym (same_type k c.f c.g c.of_f c.of_g)) ∙ sym (mapped_at function_type gs h c.g c.is_g)

  -- the body of one instance unfolds by both
  same_body : (k : Instance) (f g : Function) (a : IsFunctionOf app is k f) (b : IsFunctionOf app ds k g)
      → Unfolds (language app) ds (exp (scope_of k) a.function.body) g.body
  same_body k f g a b = subst (λ (z : source.Function). Unfolds (language app) ds (exp (scope_of k) z.body) g.body) (one_source k f g a b) b.body

  -- ---- types

  function_fits : (sig : Signature) → sig.functions ≡ map function_type fs → (k : Instance) (f g : Function) → IsFunctionOf app is k f → IsFunctionOf app ds k g
      → FitsFunction sig f → FitsFunction (with_functions sig (map function_type gs)) g
  function_fits sig e k f g a b fits =
      let its = with_functions sig (map function_type gs) in
      let types : (l : Instance) (j h : ℕ) → slice_get is j ≡ Some l → slice_get ds h ≡ Some l
      → slice_get sig.functions j ≡ slice_get (map function_type gs) h =
      λ l j h x y. ap (λ z. slice_get z j) e ∙ same_types l j h x y in
      let has : HasType its f.params g.body f.result =
      typed (language app) is ds sig (map function_type gs) types (exp (scope_of k) a.function.body) f.body g.body a.body
      (same_body k f g a b) f.params f.result fits in
      subst (λ (z : ValueType). HasType its g.params g.body z) (sym (same_result k f g a b))
      (subst (λ (z : List ValueType). HasType its z g.body f.result) (sym (same_params k f g a b)) has)

  each_fits : (sig : Signature) → sig.functions ≡ map function_type fs → All (FitsFunction sig) fs → (ks : List Instance) (hs : List Function)
      → AllZip (IsFunctionOf app ds) ks hs
      → ((h : ℕ) (k : Instance) → slice_get ks h ≡ Some k → IsNumbered is k) → AllByRecursion (FitsFunction (with_functions sig (map function_type gs))) hs
  each_fits sig e all [] [] z n = tt
  each_fits sig e all [] (h ∷ hs) z n = absurd z
  each_fits sig e all (k ∷ ks) [] z n = absurd z
  each_fits sig e all (k ∷ ks) (h ∷ hs) (r, z) n =
      let at = n 0 k refl in
      let found = beside (IsFunctionOf app is) is fs functions at.0 k at.1 in (
        function_fits sig e k found.0 h found.2 r (every_at (FitsFunction sig) fs (recursion_from_All (FitsFunction sig) fs all) at.0 found.0 found.1),
        each_fits sig e all ks hs z (λ i l x. n (suc i) l x),
      )

  -- ---- deeds

  of_call : (x : Deed) (h : ℕ) → IsAlike is ds x (calls h) → (k : Instance) × (j : ℕ) × (x ≡ calls j) × (slice_get is j ≡ Some k) × (slice_get ds h ≡ Some k)
  of_call _ _ (called k j h a b) = (k, j, refl, a, b)

  of_write : (x w : Deed) → IsAlike is ds x w → IsWrite w → x ≡ w
  of_write _ _ change i = refl
  of_write _ _ number i = refl
  of_write _ _ cookie i = refl
  of_write _ _ (called k j h a b) i = elim i [ ]

  writes_too : (w : Deed) → IsWrite w → (h : ℕ) (chain : List ℕ) → WritesFrom gs w h chain → (k : Instance) (j : ℕ) → slice_get is j ≡ Some k
      → slice_get ds h ≡ Some k
      → (other : List ℕ) × WritesFrom fs w j other
  writes_too w i _ _ (WritesFrom.here h g e c) k j a b =
      let at = pair k j h a b in
      let same : g ≡ at.g = some_of g at.g (sym e ∙ at.is_g) in
      let z = alike (language app) is ds (exp (scope_of k) at.of_f.function.body) at.f.body at.g.body at.of_f.body (same_body k at.f at.g at.of_f at.of_g) in
      let x = partner (IsAlike is ds) (deeds at.f.body) (deeds at.g.body) z w (subst (λ (y : Function). Contains (deeds y.body) w) same c) in
      (j ∷ [], WritesFrom.here j at.f at.is_f (subst (Contains (deeds at.f.body)) (of_write x.0 w x.2 i) x.1))
  writes_too w i _ _ (WritesFrom.through h h' g chain e c more) k j a b =
      let at = pair k j h a b in
      let same : g ≡ at.g = some_of g at.g (sym e ∙ at.is_g) in
      let z = alike (language app) is ds (exp (scope_of k) at.of_f.function.body) at.f.body at.g.body at.of_f.body (same_body k at.f at.g at.of_f at.of_g) in
      let x = partner (IsAlike is ds) (deeds at.f.body) (deeds at.g.body) z (calls h') (subst (λ (y : Function). Contains (deeds y.body) (calls h')) same c) in
      let l = of_call x.0 h' x.2 in
      let rest = writes_too w i h' chain more l.0 l.1 l.3 l.4 in
      (j ∷ rest.0, WritesFrom.through j l.1 at.f rest.0 at.is_f (subst (Contains (deeds at.f.body)) l.2 x.1) rest.1)

-- ---- routes

module _ (app : Typed) (p q : Code) (is ds : List Instance) (functions : AllZip (IsFunctionOf app is) is p.functions)
    (others : AllZip (IsFunctionOf app ds) ds q.functions) where
  route_fits : (r : Route) (t j h : ℕ) → IsTarget is t j → IsTarget ds t h → FitsRoute p r j → FitsRoute q r h
  route_fits r t j h a b fit =
      let k : Instance = record { function = t; cons = []; fixed = [] } in
      let at = pair app is ds p.functions q.functions functions others k j h a b in
      let same : fit.function ≡ at.f = some_of fit.function at.f (sym fit.is_function ∙ at.is_f) in
      record {
        function = at.g;
        is_function = at.is_g;
        params =
            same_params app is ds p.functions q.functions functions others k at.f at.g at.of_f at.of_g
            ∙ subst (λ (z : Function). z.params ≡ route_params r) same fit.params;
        page =
            same_result app is ds p.functions q.functions functions others k at.f at.g at.of_f at.of_g
            ∙ subst (λ (z : Function). z.result ≡ ty.Page) same fit.page;
        no_form = fit.no_form;
      }

  routes_fit : (rs : List Route) (ts js hs : List ℕ) → AllZip (FitsRoute p) rs js → AllZip (IsTarget is) ts js → AllZip (IsTarget ds) ts hs
      → AllZip (FitsRoute q) rs hs
  routes_fit [] [] [] [] a b c = tt
  routes_fit [] [] [] (h ∷ hs) a b c = absurd c
  routes_fit [] (t ∷ ts) [] hs a b c = absurd b
  routes_fit [] ts (j ∷ js) hs a b c = absurd a
  routes_fit (r ∷ rs) ts [] hs a b c = absurd a
  routes_fit (r ∷ rs) [] (j ∷ js) hs a b c = absurd b
  routes_fit (r ∷ rs) (t ∷ ts) (j ∷ js) [] a b c = absurd c
  routes_fit (r ∷ rs) (t ∷ ts) (j ∷ js) (h ∷ hs) (a, as_) (b, bs) (c, cs) = (route_fits r t j h b c a, routes_fit rs ts js hs as_ bs cs)

-- ---- the laws

fits_of_each : (app : Typed) (c d : Closed) (p q : Code) → IsClosed app c → IsClosed app d → IsCodeOf c p → IsCodeOf d q → Fits p → Fits q
fits_of_each app c d p q (is, a) (ds, b) x y fits = record {
  functions = subst (λ z. All (FitsFunction z) q.functions) (sym sig) (All-from_recursion (FitsFunction its) q.functions
      (each_fits app is ds p.functions q.functions functions others (signature p) refl fits.functions ds q.functions others numbered));
  queries = subst (λ z. All (QueryFits z) q.queries) (sym same.schema) (subst (λ z. All (QueryFits p.schema) z) (sym same.queries) fits.queries);
  changes = subst (λ z. All (ChangeFits z) q.changes) (sym same.schema) (subst (λ z. All (ChangeFits p.schema) z) (sym same.changes) fits.changes);
  routes = subst (λ (z : Handlers). AllZip (FitsRoute q) z.routes q.targets) (sym same.handlers)
      (routes_fit app p q is ds functions others p.handlers.routes app.targets p.targets q.targets fits.routes
      (subst (λ z. AllZip (IsTarget is) app.targets z) (sym x.targets) a.targets) (subst (λ z. AllZip (IsTarget ds) app.targets z) (sym y.targets) b.targets));
  tables = subst (λ (z : Schema). All (λ shape. IsUtf8 shape.name) z.tables) (sym same.schema) fits.tables;
  cookies = subst (λ (z : List Cookie). All IsBasicCookie z) (sym same.cookies) fits.cookies;
} where
  same : SameBut p q
  same = same_but app c d p q is ds a b x y

  functions : AllZip (IsFunctionOf app is) is p.functions
  functions = subst (λ z. AllZip (IsFunctionOf app is) is z) (sym x.functions) a.functions

  others : AllZip (IsFunctionOf app ds) ds q.functions
  others = subst (λ z. AllZip (IsFunctionOf app ds) ds z) (sym y.functions) b.functions

  its : Signature
  its = with_functions (signature p) (map function_type q.functions)

  sig : signature q ≡ its
  sig = same_signature p q same

  numbered : (h : ℕ) (k : Instance) → slice_get ds h ≡ Some k → IsNumbered is k
  numbered h k e = a.instances_are.all k (b.instances_are.only h k e)

gets_of_each : (app : Typed) (c d : Closed) (p q : Code) → IsClosed app c → IsClosed app d → IsCodeOf c p → IsCodeOf d q → GetNeverWrites p → GetNeverWrites q
gets_of_each app c d p q (is, a) (ds, b) x y none chain w writes =
    let at = writes.is_target in
    let t =
    before (IsTarget ds) app.targets q.targets
    (subst (λ z. AllZip (IsTarget ds) app.targets z) (sym y.targets) b.targets) at.number writes.target at.is_target in
    let j = beside (IsTarget is) app.targets p.targets (subst (λ z. AllZip (IsTarget is) app.targets z) (sym x.targets) a.targets) at.number t.0 t.1 in
    let k : Instance = record { function = t.0; cons = []; fixed = [] } in
    let found = writes_too app is ds p.functions q.functions functions others w writes.is_write writes.target chain writes.writes k j.0 j.2 t.2 in
    none found.0 w (record {
      target = j.0;
      is_target = record {
        number = at.number;
        route = at.route;
        is_route = subst (λ (z : Handlers). slice_get z.routes at.number ≡ Some at.route) same.handlers at.is_route;
        has_get = at.has_get;
        is_target = j.1;
      };
      is_write = writes.is_write;
      writes = found.1;
    }) where
      same : SameBut p q
      same = same_but app c d p q is ds a b x y

      functions : AllZip (IsFunctionOf app is) is p.functions
      functions = subst (λ z. AllZip (IsFunctionOf app is) is z) (sym x.functions) a.functions

      others : AllZip (IsFunctionOf app ds) ds q.functions
      others = subst (λ z. AllZip (IsFunctionOf app ds) ds z) (sym y.functions) b.functions

pub fits : IsOfEach Fits
fits app c p a x h d q b y = fits_of_each app c d p q a b x y h

pub gets : IsOfEach GetNeverWrites
gets app c p a x h d q b y = gets_of_each app c d p q a b x y h

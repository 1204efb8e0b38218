-- The declarations with bodies, `val`s and groups of functions, are those of the rules.
use Rattle.std.proofs.lemmas.Bool.Decides.{nat_tests}
use Rattle.std.proofs.Common.{arith, ◌≡◌, ◌∙◌, refl, sym, ap, ap₂, subst, Bool, true, false, Some, List, [], ◌∷◌, ℕ, ◌+◌, length, map}
use Rattle.std.specs.Prelude.{◌<◌, nat_lt, option_map, option_and_then, slice_get}
use Rattle.ur_syntax.specs.declared.con.Con.{Con}
use Rattle.ur_syntax.specs.declared.decl.DeclForm.TheVariants as decl
use Rattle.ur_syntax.specs.declared.decl.FunDef.{FunDef}
use Rattle.ur_syntax.specs.declared.exp.Exp.{Exp as WrittenExp}
use Rattle.ur_rows.specs.declared.normal.NormalType.{NormalType}
use Rattle.ur_tree.specs.declared.exp.Exp.{Exp}
use Rattle.ur_tree.specs.declared.typed.Typed.{Typed}
use Rattle.ur_tree.specs.declared.typed.Function.{Function}
use Rattle.ur_tree.specs.declared.typed.ModuleVal.{ModuleVal}
use Rattle.ur_tree.specs.Heads.{declared_of}
use Rattle.ur_tree.specs.IsStatic.{is_static}
use Rattle.ur_tree.specs.Occurrences.{occurrences}
use Rattle.ur_tree.specs.App.{FunctionIsTyped, ValIsTyped}
use Rattle.ur_typed_rules.specs.Names.{Names}
use Rattle.ur_typed_rules.specs.Scopes.{wants}
use Rattle.ur_typed_rules.specs.Rules.{if_so}
use Rattle.ur_typed_rules.proofs.Options.{some_of, opened, opened_if, mapped}
use Rattle.ur_typed.specs.Project.{Place, env_at, names_at, statements, with_function, with_val, FunctionResolves, FunctionsResolve, AreNamed, DeclResolves}
use Rattle.ur_typed.specs.Project as project
use Rattle.ur_typed.specs.Resolves.{Resolves}
use Rattle.ur_typed.specs.Typed.{AreFunctions, AreBodies, all_occurrences}
use Rattle.ur_typed.specs.Typed as source
use Rattle.ur_typed.specs.Rules.{Out}
use Rattle.ur_typed.specs.Walking.{typed}
use Rattle.ur_typed.specs.Declaring.{FunctionHead, Sofar, Bodies, Heading, world_behind, top_scope, heading_out, with_head, headings_out, val_type_out, with_val_of, body_scope, with_body, with_val_body, body_out, group_out, val_body_out}
use Rattle.ur_typed_laws.specs.Judged.{Numbered, TypedIsSound}
use Rattle.ur_typed_laws.proofs.Numbers.{numbered_none, numbered_both}
use Rattle.ur_typed_laws.proofs.Written.{headed}
use Rattle.ur_typed_laws.proofs.Declared.{val_of}
use Rattle.ur_typed_laws.proofs.Going.{body_of, right_side}
use Rattle.ur_typed_laws.proofs.Extending.{Begins}
use Rattle.ur_typed_laws.proofs.Begun.{begins_before, begun_last, longer}
use Rattle.ur_typed_laws.proofs.Holding.{Holds, Tallied, Grows, grows_self, grows_on, a_function, head_grows, val_grows}
use Rattle.ur_typed_laws.proofs.Kinding.{ArePlain, FunctionsArePlain}
use Rattle.ur_typed_laws.proofs.Writing.{HeadIs, heading_told, ValTypeIs, val_type_told}
use Rattle.ur_typed_laws.proofs.Walking.{Widens, HasStatements, map_got, BodyIs, body_told, ValBodyIs, val_body_told}

-- the bodies so far, and the statements in them, begin those of `app`
pub record HoldsBodies (app : Typed) (b : Bodies) : Type 0 where
  pub functions : Begins b.functions (map body_of app.functions)
  pub vals : Begins b.vals (map right_side app.vals)
  pub statements : HasStatements app b.sites

-- ---- what is typed so far

abbrev pub FunctionsTyped : Typed → ℕ → ℕ → Type 0
FunctionsTyped app most n = (k : ℕ) (d : Function) → k < n → slice_get app.functions k ≡ Some d → FunctionIsTyped (declared_of app) most d

abbrev pub ValsTyped : Typed → ℕ → ℕ → Type 0
ValsTyped app most n = (k : ℕ) (v : ModuleVal) → k < n → slice_get app.vals k ≡ Some v → ValIsTyped (declared_of app) most k v

is_below : (n m : ℕ) → nat_lt n m ≡ true → n < m
is_below n m h = grind (arith, nat_tests, h)

is_last : (k n : ℕ) → nat_lt k n ≡ false → k < n + 1 → n ≡ k
is_last k n h l = grind (arith, nat_tests, h, l)

-- one more element, at the place behind those before
pub one_more : {A : Type 0} (P : ℕ → A → Type 0) (xs : List A) (n : ℕ) (a : A) → slice_get xs n ≡ Some a → P n a → ((k : ℕ) (x : A) → k < n → slice_get xs k ≡ Some x → P k x) → (k : ℕ) (x : A) → k < n + 1 → slice_get xs k ≡ Some x → P k x
one_more {A} P xs n a g p f k x l h = by_place (nat_lt k n) refl where
  by_place : (b : Bool) → nat_lt k n ≡ b → P k x
  by_place true e = f k x (is_below k n e) h
  by_place false e =
      let i : n ≡ k = is_last k n e l in
      subst (P k) (some_of (sym g ∙ (ap (slice_get xs) i ∙ h))) (subst (λ m. P m a) i p)

-- ---- the parts of an element

abbrev made_of : FunctionHead → Exp → Function
made_of h b = record { «module» = h.«module»; name = h.name; cons = h.head.cons; params = h.head.params; result = h.head.result; body = b }

-- a function whose head and body are told
function_got : (fs : List Function) (n : ℕ) (h : FunctionHead) (b : Exp) → slice_get (map headed fs) n ≡ Some h → slice_get (map body_of fs) n ≡ Some b → slice_get fs n ≡ Some (made_of h b)
function_got fs n h b i j =
    let k : (d : Function) × (slice_get fs n ≡ Some d) × (headed d ≡ h) = map_got headed fs n h i in
    let l : (d : Function) × (slice_get fs n ≡ Some d) × (body_of d ≡ b) = map_got body_of fs n b j in
    let e : k.0 ≡ l.0 = some_of (sym k.1 ∙ l.1) in
    k.1 ∙ ap (λ z. Some z) (ap₂ made_of k.2 (ap body_of e ∙ l.2))

abbrev a_val : NormalType → Exp → ModuleVal
a_val t b = record { of = t; body = b }

val_got : (vs : List ModuleVal) (n : ℕ) (t : NormalType) (b : Exp) → slice_get (map val_of vs) n ≡ Some t → slice_get (map right_side vs) n ≡ Some b → slice_get vs n ≡ Some (a_val t b)
val_got vs n t b i j =
    let k : (d : ModuleVal) × (slice_get vs n ≡ Some d) × (val_of d ≡ t) = map_got val_of vs n t i in
    let l : (d : ModuleVal) × (slice_get vs n ≡ Some d) × (right_side d ≡ b) = map_got right_side vs n b j in
    let e : k.0 ≡ l.0 = some_of (sym k.1 ∙ l.1) in
    k.1 ∙ ap (λ z. Some z) (ap₂ a_val k.2 (ap right_side e ∙ l.2))

-- ---- one function

-- a function of a group behind `q`, whose body stands at that place
record FunctionGoes (app : Typed) (most home : ℕ) (q : Place) (n : ℕ) (f : FunDef) (b c : Bodies) : Type 0 where
  function : Function
  got : slice_get app.functions n ≡ Some function
  resolves : FunctionResolves app most home q f function
  typed : FunctionIsTyped (declared_of app) most function
  numbered : Numbered b.sites (occurrences function.body) c.sites
  held : HoldsBodies app b

function_goes : TypedIsSound → (app : Typed) (most home : ℕ) (z : Sofar) → Widens app most z → (n : ℕ) (f : FunDef) (h : Heading) → heading_out most (names_at z.place) f ≡ Some h → slice_get (map headed app.functions) n ≡ Some (a_function home f.name h.head) → ArePlain f.con_params →
    (b : Bodies) (o : Out) → length b.functions ≡ n → typed (world_behind most z) f.body.form (body_scope h) b.sites (wants h.head.result) ≡ Some o → HoldsBodies app (with_body b o) → FunctionGoes app most home z.place n f b (with_body b o)
function_goes sound app most home z w n f h e g a b o l t k =
    let i : HeadIs most (names_at z.place) f h = heading_told most (names_at z.place) f h e in
    let j : BodyIs app most z.place (declared_of app) f.body.form (body_scope h) b.sites h.head.result o = body_told sound app most z w f.body.form (body_scope h) b.sites h.head.result o t k.statements in
    let d : Function = made_of (a_function home f.name h.head) o.exp in
    record {
      function = d;
      got = function_got app.functions n (a_function home f.name h.head) o.exp g (begun_last b.functions (map body_of app.functions) o.exp n k.functions l);
      resolves = record {
        after = i.after;
        locals = i.locals;
        cons = i.cons;
        params = i.params;
        result = i.result;
        body = subst (λ (s : Names). Resolves (statements app) most z.place.globals (declared_of app) s f.body.form o.exp) i.scope j.resolves;
        name = refl;
        place = refl;
      };
      typed = record { head = i.fits a; body = j.fits };
      numbered = j.numbered;
      held = record { functions = begins_before b.functions (o.exp ∷ []) (map body_of app.functions) k.functions; vals = k.vals; statements = j.held };
    }

-- ---- groups

-- the heads of a group, from that number on
abbrev pub HeadsStand : Typed → ℕ → ℕ → Names → ℕ → List FunDef → Type 0
HeadsStand app most home names n [] = Unit {0}
HeadsStand app most home names n (f ∷ fs) = ((h : Heading) × (heading_out most names f ≡ Some h) × (slice_get (map headed app.functions) n ≡ Some (a_function home f.name h.head))) × HeadsStand app most home names (n + 1) fs

pub record GroupHeads (app : Typed) (most home : ℕ) (fs : List FunDef) (z y : Sofar) : Type 0 where
  pub grows : Grows app z y
  pub named : AreNamed z.place fs y.place
  pub names : names_at y.place ≡ names_at z.place
  pub functions : y.place.functions ≡ z.place.functions + length fs
  pub vals : y.place.vals ≡ z.place.vals
  pub variants : y.variants ≡ z.variants
  pub stand : Holds app y → Tallied z → HeadsStand app most home (names_at z.place) z.place.functions fs

none_more : (n : ℕ) → n ≡ n + length {A = FunDef} []
none_more n = omega arith

one_longer : (n : ℕ) (f : FunDef) (fs : List FunDef) → (n + 1) + length fs ≡ n + length (f ∷ fs)
one_longer n f fs = omega arith

pub headings_told : (app : Typed) (most home : ℕ) (fs : List FunDef) (z y : Sofar) → headings_out most home fs z ≡ Some y → GroupHeads app most home fs z y
headings_told app most home [] z y h = subst (GroupHeads app most home [] z) (some_of h) (record { grows = grows_self app z; named = project.AreNamed.none; names = refl; functions = none_more z.place.functions; vals = refl; variants = refl; stand = λ k t. tt })
headings_told app most home (f ∷ fs) z y h =
    let i : (g : Heading) × (heading_out most (names_at z.place) f ≡ Some g) × (headings_out most home fs (with_head home f z g) ≡ Some y) = opened _ _ y h in
    let x : Sofar = with_head home f z i.0 in
    let g : Grows app z x = head_grows app home f z i.0 in
    let r : GroupHeads app most home fs x y = headings_told app most home fs x y i.2 in
    record {
      grows = grows_on g r.grows;
      named = project.AreNamed.one r.named;
      names = r.names;
      functions = r.functions ∙ one_longer z.place.functions f fs;
      vals = r.vals;
      variants = r.variants;
      stand = λ k t. ((i.0, i.1, begun_last z.functions (map headed app.functions) (a_function home f.name i.0.head) z.place.functions (r.grows.held k).functions t.functions), r.stand k (g.tallied t));
    }

-- there are as many bodies more as functions
pub group_counts : (most : ℕ) (z : Sofar) (fs : List FunDef) (b c : Bodies) (n : ℕ) → group_out most z fs b ≡ Some c → length b.functions ≡ n → (length c.functions ≡ n + length fs) × (c.vals ≡ b.vals)
group_counts most z [] b c n e l = (ap (λ z. length z.functions) (sym (some_of e)) ∙ (l ∙ none_more n), ap (λ z. z.vals) (sym (some_of e)))
group_counts most z (f ∷ fs) b c n e l =
    let i : (x : Bodies) × (option_and_then (body_out most z f b) (heading_out most (names_at z.place) f) ≡ Some x) × (group_out most z fs x ≡ Some c) = opened _ _ c e in
    let j : (g : Heading) × (heading_out most (names_at z.place) f ≡ Some g) × (body_out most z f b g ≡ Some i.0) = opened _ _ i.0 i.1 in
    let o : (x : Out) × (typed (world_behind most z) f.body.form (body_scope j.0) b.sites (wants j.0.head.result) ≡ Some x) × (with_body b x ≡ i.0) = mapped _ _ i.0 j.2 in
    let r : (length c.functions ≡ (n + 1) + length fs) × (c.vals ≡ b.vals) = group_counts most z fs (with_body b o.0) c (n + 1) (ap (group_out most z fs) o.2 ∙ i.2) (longer b.functions o.0.exp n l) in
    (r.0 ∙ one_longer n f fs, r.1)

-- the bodies of a group
pub record GroupGoes (app : Typed) (most home : ℕ) (q : Place) (n : ℕ) (fs : List FunDef) (b c : Bodies) : Type 0 where
  pub own : List Exp
  pub functions : AreFunctions app n fs own
  pub resolve : FunctionsResolve app most home q n fs
  pub numbered : Numbered b.sites (all_occurrences own) c.sites
  pub typed : FunctionsTyped app most n → FunctionsTyped app most (n + length fs)
  pub held : HoldsBodies app b

pub group_goes : TypedIsSound → (app : Typed) (most home : ℕ) (z : Sofar) → Widens app most z → (n : ℕ) (fs : List FunDef) → HeadsStand app most home (names_at z.place) n fs → FunctionsArePlain fs → (b c : Bodies) → length b.functions ≡ n → group_out most z fs b ≡ Some c → HoldsBodies app c →
    GroupGoes app most home z.place n fs b c
group_goes sound app most home z w n [] hs a b c l e k =
    let i : b ≡ c = some_of e in
    let m : n ≡ n + length {A = FunDef} [] = none_more n in
    subst (GroupGoes app most home z.place n [] b) i (record {
      own = [];
      functions = source.AreFunctions.none;
      resolve = project.FunctionsResolve.none;
      numbered = numbered_none b.sites;
      typed = λ t. subst (FunctionsTyped app most) m t;
      held = subst (HoldsBodies app) (sym i) k;
    })
group_goes sound app most home z w n (f ∷ fs) hs a b c l e k =
    let i : (x : Bodies) × (option_and_then (body_out most z f b) (heading_out most (names_at z.place) f) ≡ Some x) × (group_out most z fs x ≡ Some c) = opened _ _ c e in
    let h : Heading = hs.0.0 in
    let j : (g : Heading) × (heading_out most (names_at z.place) f ≡ Some g) × (body_out most z f b g ≡ Some i.0) = opened _ _ i.0 i.1 in
    let same : j.0 ≡ h = some_of (sym j.1 ∙ hs.0.1) in
    let o : (x : Out) × (typed (world_behind most z) f.body.form (body_scope h) b.sites (wants h.head.result) ≡ Some x) × (with_body b x ≡ i.0) = mapped _ _ i.0 (subst (λ g. body_out most z f b g ≡ Some i.0) same j.2) in
    let m : length (with_body b o.0).functions ≡ n + 1 = longer b.functions o.0.exp n l in
    let r : GroupGoes app most home z.place (n + 1) fs (with_body b o.0) c = group_goes sound app most home z w (n + 1) fs hs.1 a.1 (with_body b o.0) c m (ap (group_out most z fs) o.2 ∙ i.2) k in
    let g : FunctionGoes app most home z.place n f b (with_body b o.0) = function_goes sound app most home z w n f h hs.0.1 hs.0.2 a.0 b o.0 l o.1 r.held in
    let q : (n + 1) + length fs ≡ n + length (f ∷ fs) = one_longer n f fs in
    record {
      own = g.function.body ∷ r.own;
      functions = source.AreFunctions.one {d = g.function} {es = r.own} g.got r.functions;
      resolve = project.FunctionsResolve.one {d = g.function} g.got g.resolves r.resolve;
      numbered = numbered_both {st = b.sites} {su = (with_body b o.0).sites} {sv = c.sites} {a = occurrences g.function.body} {b = all_occurrences r.own} g.numbered r.numbered;
      typed = λ t. subst (FunctionsTyped app most) q (r.typed (one_more (λ k d. FunctionIsTyped (declared_of app) most d) app.functions n g.function g.got g.typed t));
      held = g.held;
    }

-- ---- `val`s

pub record ValGoes (app : Typed) (most home : ℕ) (x : List ℕ) (w : Con) (e : WrittenExp) (z y : Sofar) (b c : Bodies) : Type 0 where
  pub right : ModuleVal
  pub got : slice_get app.vals z.place.vals ≡ Some right
  pub resolves : DeclResolves app most home z.place (decl.Val x w e) y.place
  pub numbered : Numbered b.sites (occurrences right.body) c.sites
  pub typed : ValIsTyped (declared_of app) most z.place.vals right
  pub functions : y.place.functions ≡ z.place.functions
  pub vals : y.place.vals ≡ z.place.vals + 1
  pub variants : y.variants ≡ z.variants
  pub held : HoldsBodies app b

-- what is declared, and the right side, of a `val`
record ValOut (most : ℕ) (x : List ℕ) (w : Con) (e : WrittenExp) (z y : Sofar) (b c : Bodies) : Type 0 where
  of : NormalType
  out : Out
  written : ValTypeIs most (env_at z.place) w of
  declared : with_val_of x z of ≡ y
  walked : typed (world_behind most z) e.form (top_scope z) b.sites (wants of) ≡ Some out
  static : is_static out.exp ≡ true
  added : with_val_body b out ≡ c

val_out : (most : ℕ) (x : List ℕ) (w : Con) (e : WrittenExp) (z y : Sofar) (b c : Bodies) → option_map (with_val_of x z) (val_type_out most w z) ≡ Some y → option_and_then (val_body_out most z e.form b) (val_type_out most w z) ≡ Some c → ValOut most x w e z y b c
val_out most x w e z y b c h k =
    let i : (t : NormalType) × (val_type_out most w z ≡ Some t) × (with_val_of x z t ≡ y) = mapped _ _ y h in
    let j : (t : NormalType) × (val_type_out most w z ≡ Some t) × (val_body_out most z e.form b t ≡ Some c) = opened _ _ c k in
    let same : j.0 ≡ i.0 = some_of (sym j.1 ∙ i.1) in
    let o : (p : Out) × (typed (world_behind most z) e.form (top_scope z) b.sites (wants i.0) ≡ Some p) × (if_so (is_static p.exp) (Some (with_val_body b p)) ≡ Some c) = opened _ _ c (subst (λ t. val_body_out most z e.form b t ≡ Some c) same j.2) in
    let q : (is_static o.0.exp ≡ true) × (Some (with_val_body b o.0) ≡ Some c) = opened_if (is_static o.0.exp) (Some (with_val_body b o.0)) c o.2 in
    record { of = i.0; out = o.0; written = val_type_told most w z i.0 i.1; declared = i.2; walked = o.1; static = q.0; added = some_of q.1 }

pub val_grown : (app : Typed) (most : ℕ) (x : List ℕ) (w : Con) (z y : Sofar) → option_map (with_val_of x z) (val_type_out most w z) ≡ Some y → Grows app z y
val_grown app most x w z y h = let i : (t : NormalType) × (val_type_out most w z ≡ Some t) × (with_val_of x z t ≡ y) = mapped _ _ y h in subst (Grows app z) i.2 (val_grows app x z i.0)

pub val_counts : (most : ℕ) (x : List ℕ) (w : Con) (e : WrittenExp) (z y : Sofar) (b c : Bodies) → option_map (with_val_of x z) (val_type_out most w z) ≡ Some y → option_and_then (val_body_out most z e.form b) (val_type_out most w z) ≡ Some c →
    length b.functions ≡ z.place.functions → length b.vals ≡ z.place.vals → (length c.functions ≡ y.place.functions) × (length c.vals ≡ y.place.vals)
val_counts most x w e z y b c h k f v =
    let o : ValOut most x w e z y b c = val_out most x w e z y b c h k in
    (ap (λ u. length u.functions) (sym o.added) ∙ (f ∙ ap (λ u. u.place.functions) o.declared), ap (λ u. length u.vals) (sym o.added) ∙ (longer b.vals o.out.exp z.place.vals v ∙ ap (λ u. u.place.vals) o.declared))

pub val_goes : TypedIsSound → (app : Typed) (most home : ℕ) (x : List ℕ) (w : Con) (e : WrittenExp) (z y : Sofar) (b c : Bodies) → Widens app most z → option_map (with_val_of x z) (val_type_out most w z) ≡ Some y → option_and_then (val_body_out most z e.form b) (val_type_out most w z) ≡ Some c →
    Holds app y → Tallied z → HoldsBodies app c → length b.vals ≡ z.place.vals → ValGoes app most home x w e z y b c
val_goes sound app most home x w e z y b c wide h k hold tally held l =
    let o : ValOut most x w e z y b c = val_out most x w e z y b c h k in
    let hold' : Holds app (with_val_of x z o.of) = subst (Holds app) (sym o.declared) hold in
    let held' : HoldsBodies app (with_val_body b o.out) = subst (HoldsBodies app) (sym o.added) held in
    let i : ValBodyIs app most z e.form (top_scope z) b.sites o.of o.out = val_body_told sound app most z wide e.form (top_scope z) b.sites o.of o.out o.walked held'.statements in
    let v : ModuleVal = a_val o.of o.out.exp in
    let g : slice_get app.vals z.place.vals ≡ Some v = val_got app.vals z.place.vals o.of o.out.exp (begun_last z.vals (map val_of app.vals) o.of z.place.vals hold'.vals tally.vals) (begun_last b.vals (map right_side app.vals) o.out.exp z.place.vals held'.vals l) in
    record {
      right = v;
      got = g;
      resolves = subst (λ (u : Sofar). DeclResolves app most home z.place (decl.Val x w e) u.place) o.declared (project.DeclResolves.val o.written.writes i.resolves g);
      numbered = subst (λ (u : Bodies). Numbered b.sites (occurrences o.out.exp) u.sites) o.added i.numbered;
      typed = record { written = o.written.is_type; placed = o.written.placed; static = o.static; body = i.fits };
      functions = ap (λ (u : Sofar). u.place.functions) (sym o.declared);
      vals = ap (λ (u : Sofar). u.place.vals) (sym o.declared);
      variants = ap (λ (u : Sofar). u.variants) (sym o.declared);
      held = record { functions = held'.functions; vals = begins_before b.vals (o.out.exp ∷ []) (map right_side app.vals) held'.vals; statements = i.held };
    }

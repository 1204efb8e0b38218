-- Names of variables, functions and `val`s: what they give, and what breaks their rules.
use Rattle.std.proofs.Common.{◌≡◌, refl, ap, ap₂, sym, ◌∙◌, subst, ℕ, ◌+◌, arith, ◌<◌, nat_le, Bool, true, false, ◌&&◌, if◌then◌else◌, List, [], ◌∷◌, map, Option, Some, None, Err, Bor}
use Rattle.std.specs.Prelude.{codes, option_map, option_and_then, slice_get, bytes_eq}
use Rattle.std.specs.List.{list_all}
use Rattle.std.proofs.lemmas.Option.{slice_get-map}
use Rattle.ur_base.specs.Stopping.{IfRefused}
use Rattle.ur_base.specs.declared.refusal.Refusal.{Refusal}
use Rattle.ur_base.specs.declared.refusal.Stop.{Stop}
use Rattle.ur_base.specs.declared.refusal.Stop.TheVariants as stop
use Rattle.ur_syntax.specs.Names.{own, member, same_con, looked_up, or_own, seen, name_text}
use Rattle.ur_syntax.specs.declared.con.Con.{Con}
use Rattle.ur_syntax.specs.declared.con.ConName.{ConName}
use Rattle.ur_syntax.specs.declared.kind.Kind.{Kind}
use Rattle.ur_syntax.specs.declared.exp.ExpForm.{ExpForm}
use Rattle.ur_syntax.specs.declared.exp.ExpForm.TheVariants as e
use Rattle.ur_rows.specs.declared.normal.Normal.{Normal}
use Rattle.ur_rows.specs.declared.normal.Normal.TheVariants as normal
use Rattle.ur_rows.specs.declared.normal.NormalType.{NormalType}
use Rattle.ur_rows.specs.Apart.{Assumptions}
use Rattle.ur_rows.specs.Kinded.{is_of_kind}
use Rattle.ur_rows.specs.Nodes.{type_nodes, most_nodes}
use Rattle.ur_rows.specs.Put.{instance_type, instance_row}
use Rattle.ur_tree.specs.declared.exp.Exp.TheVariants as exp
use Rattle.ur_tree.specs.declared.typed.ConParam.{ConParam}
use Rattle.ur_rows_normal.specs.Arguments.{are_normal}
use Rattle.ur_tree.specs.Env.{Env, variables, con_is_plain, kinds_of, rows_apart}
use Rattle.ur_tree.specs.Heads.{function_type}
use Rattle.ur_tree.specs.Typing.{keeps_arrows}
use Rattle.ur_typed_rules.specs.Names.{Declared as DeclaredAs, function, val, declared, local_at}
use Rattle.ur_typed_rules.specs.Scopes.{World, Scope, Mode}
use Rattle.ur_typed_rules.specs.Tests.{is_apart, con_rows_are_apart, have_kinds, obligations_met, are_arguments, are_apart, rows_are_apart, row_rows_are_apart}
use Rattle.ur_typed_rules.specs.Faults.{Fault, TellsType, unknown, not_so, too_large}
use Rattle.ur_typed_rules.specs.Rules.{if_so}
use Rattle.ur_typed_rules.specs.Meeting.{MeetsCon}
use Rattle.ur_typed_rules.specs.Arguments as arguments
use Rattle.ur_typed_rules.specs.Arguments.{BreaksKinds, BreaksGiven, of_other_kinds, given_unmet, given_repeats, IsUnmet}
use Rattle.ur_typed_rules.proofs.Options.{some_of}
use Rattle.ur_typed.specs.Rules.{Sites, Out, gives, local_or, declared_out, var_out, function_out, function_at, function_named, as_function_number, if_unbound, without_arguments}
use Rattle.ur_typed.specs.Walking.{walk}
use Rattle.ur_typed.specs.Faults.{given_to}
use Rattle.ur_typed.specs.Causes.{Breaks, unsettled, grows, outside, no_name, no_member, bad_instance, loses_arrow}
use Rattle.ur_check_scopes.specs.declared.around.Around.{Around}
use Rattle.ur_check_scopes.specs.declared.names.Means.{Means}
use Rattle.ur_check_scopes.specs.declared.names.Named.{Named}
use Rattle.ur_check_scopes.specs.declared.names.Key.{Key}
use Rattle.ur_check_scopes.specs.declared.names.Key.TheVariants as key
use Rattle.ur_check_scopes.specs.declared.locals.Place.{Place}
use Rattle.ur_check_scopes.specs.declared.locals.Place.TheVariants as place
use Rattle.ur_check_scopes.specs.declared.world.FunctionHead.{FunctionHead}
use Rattle.ur_check_scopes.specs.declared.world.Head.{Head as HeldHead}
use Rattle.ur_check_scopes.specs.Views.{Stands, StandsFor, Refuses, StopIs, IsLarge, env_in, head_in, locals_in, values_in, fixed_in, means_in, itself, name_in, names_onto, names_in, key_in}
use Rattle.ur_check_rules.specs.declared.out.Out.{Out as HeldOut}
use Rattle.ur_check_rules.specs.declared.values.Applied.{Applied}
use Rattle.ur_check_rules.specs.Views.{out_with}
use Rattle.ur_check_rules.specs.Callees.{named_by, IsFree, IsApplied}
use Rattle.ur_check_rules.proofs.Settling.{most_is, is-large}

-- ---- locals

abbrev pub LocalGives : List ℕ → Place → HeldOut → Type 0
LocalGives x p o = (w : World) (s : Scope) (st : Sites) → StandsFor x 0 0 s.names.locals s.env.values s.env.fixed (Some p) → var_out w s st x ≡ Some (out_with o st)

abbrev pub LocalTells : List ℕ → Place → Refusal → Type 0
LocalTells x p r = (names : List (List ℕ)) (w : World) (s : Scope) (st : Sites) (m : Mode) → StandsFor x 0 0 s.names.locals s.env.values s.env.fixed (Some p) → Refuses names (Breaks names w s st (e.Var x) m) r

none-plus : (k : ℕ) → 0 + k ≡ k
none-plus k = omega arith

value-out : (w : World) (s : Scope) (st : Sites) (x : List ℕ) (n k : ℕ) (t of : NormalType) (o : HeldOut) → n ≡ k → local_at x s.names.locals ≡ Some (false, n) → slice_get s.env.values k ≡ Some t → of ≡ t → gives of (exp.Variable n) st ≡ Some (out_with o st) →
    var_out w s st x ≡ Some (out_with o st)
value-out w s st x n k t of o e l v is g =
    ap (local_or w s st x) l ∙ ap (option_and_then (λ z. gives z (exp.Variable n) st)) (ap (slice_get s.env.values) e ∙ v) ∙ ap (λ z. gives z (exp.Variable n) st) (sym is) ∙ g

fixed-out : (w : World) (s : Scope) (st : Sites) (x : List ℕ) (n k : ℕ) (t of : NormalType) (o : HeldOut) → n ≡ k → local_at x s.names.locals ≡ Some (true, n) → slice_get s.env.fixed k ≡ Some t → of ≡ t → gives of (exp.Fixed n) st ≡ Some (out_with o st) →
    var_out w s st x ≡ Some (out_with o st)
fixed-out w s st x n k t of o e l v is g =
    ap (local_or w s st x) l ∙ ap (option_and_then (λ z. gives z (exp.Fixed n) st)) (ap (slice_get s.env.fixed) e ∙ v) ∙ ap (λ z. gives z (exp.Fixed n) st) (sym is) ∙ g

pub variable-gives : (x : List ℕ) (p : Place) (n : ℕ) (t : Bor NormalType) (of : NormalType) (o : HeldOut) → p ≡ place.Variable n t → of ≡ t.now → ((st : Sites) → gives of (exp.Variable n) st ≡ Some (out_with o st)) → LocalGives x p o
variable-gives x p n t of o e is g w s st h =
    let k : StandsFor x 0 0 s.names.locals s.env.values s.env.fixed (Some (place.Variable n t)) = subst (λ z. StandsFor x 0 0 s.names.locals s.env.values s.env.fixed (Some z)) e h in
    value-out w s st x n k.0 t.now of o (k.1 ∙ none-plus k.0) k.2 k.3 is (g st)

pub fixed-gives : (x : List ℕ) (p : Place) (n : ℕ) (t : Bor NormalType) (of : NormalType) (o : HeldOut) → p ≡ place.Fixed n t → of ≡ t.now → ((st : Sites) → gives of (exp.Fixed n) st ≡ Some (out_with o st)) → LocalGives x p o
fixed-gives x p n t of o e is g w s st h =
    let k : StandsFor x 0 0 s.names.locals s.env.values s.env.fixed (Some (place.Fixed n t)) = subst (λ z. StandsFor x 0 0 s.names.locals s.env.values s.env.fixed (Some z)) e h in
    fixed-out w s st x n k.0 t.now of o (k.1 ∙ none-plus k.0) k.2 k.3 is (g st)

pub hidden-told : (x : List ℕ) (p : Place) (s : Stop) → p ≡ place.Hidden → ((names : List (List ℕ)) → StopIs names (not_so x (codes "no value from outside")) s) → IfRefused {A = Unit {0}} (Err s) (LocalTells x p)
hidden-told x p (stop.Refused r) e t = λ names w s st m h.
    let k : StandsFor x 0 0 s.names.locals s.env.values s.env.fixed (Some place.Hidden) = subst (λ z. StandsFor x 0 0 s.names.locals s.env.values s.env.fixed (Some z)) e h in
    (not_so x (codes "no value from outside"), outside (subst (λ z. local_at x s.names.locals ≡ Some (false, z)) (none-plus k.0) k.1) (ap (option_and_then (λ z. gives z (exp.Variable k.0) st)) k.2), t names)
hidden-told x p stop.Memory e t = tt

-- what a name stands for in the scope that the code holds is what it stands for in that of the definitions
pub place-there : (a : Around) (x : List ℕ) (found : Option Place) (p : Place) → found ≡ Some p → StandsFor x 0 0 (locals_in a.scope.locals) (values_in a.scope.locals) (fixed_in a.scope.locals) found → (w : World) (s : Scope) → Stands a w s → StandsFor x 0 0 s.names.locals s.env.values s.env.fixed (Some p)
place-there a x found p e k w s h =
    subst (λ z. StandsFor x 0 0 z s.env.values s.env.fixed (Some p)) (sym h.locals)
    (subst (λ z. StandsFor x 0 0 (locals_in a.scope.locals) z s.env.fixed (Some p)) (sym h.values)
    (subst (λ z. StandsFor x 0 0 (locals_in a.scope.locals) (values_in a.scope.locals) z (Some p)) (sym h.fixed)
    (subst (λ z. StandsFor x 0 0 (locals_in a.scope.locals) (values_in a.scope.locals) (fixed_in a.scope.locals) z) e k)))

pub free-there : (a : Around) (x : List ℕ) (found : Option Place) → found ≡ None → StandsFor x 0 0 (locals_in a.scope.locals) (values_in a.scope.locals) (fixed_in a.scope.locals) found → (w : World) (s : Scope) → Stands a w s → local_at x s.names.locals ≡ None
free-there a x found e k w s h =
    ap (local_at x) h.locals ∙ subst (λ z. StandsFor x 0 0 (locals_in a.scope.locals) (values_in a.scope.locals) (fixed_in a.scope.locals) z) e k

bound-at : (x : List ℕ) (s : Scope) (p : Place) → StandsFor x 0 0 s.names.locals s.env.values s.env.fixed (Some p) → (i : Bool × ℕ) × (local_at x s.names.locals ≡ Some i)
bound-at x s (place.Variable n t) k = ((false, n), k.2)
bound-at x s (place.Fixed n t) k = ((true, n), k.2)
bound-at x s place.Hidden k = ((false, 0 + k.0), k.1)

-- ---- declared names

onto-means : {A B : Type 0} (f : A → B) (x : ConName) (ns : List (Named A)) (ls : List (ConName × A)) (bs : List (ConName × B)) → looked_up x bs ≡ option_map f (looked_up x ls) → looked_up x (names_onto f ns bs) ≡ option_map f (looked_up x (names_onto itself ns ls))
onto-means f x [] ls bs h = h
onto-means f x (n ∷ ns) ls bs h = onto-means f x ns ((name_in n, n.of) ∷ ls) ((name_in n, f n.of) ∷ bs) (one-means f (same_con x (name_in n)) n.of (looked_up x ls) (looked_up x bs) h) where
  one-means : {A B : Type 0} (f : A → B) (b : Bool) (a : A) (p : Option A) (q : Option B) → q ≡ option_map f p → (if b then Some (f a) else q) ≡ option_map f (if b then Some a else p)
  one-means f true a p q h = refl
  one-means f false a p q h = h

or-means : {A B : Type 0} (f : A → B) (m : List ℕ) (x : ConName) (ls : List (ConName × A)) (bs : List (ConName × B)) (p : Option A) (q : Option B) → q ≡ option_map f p → looked_up (member m x.name) bs ≡ option_map f (looked_up (member m x.name) ls) →
    or_own m x bs q ≡ option_map f (or_own m x ls p)
or-means f m x ls bs (Some a) q e h = ap (or_own m x bs) e
or-means f m x ls bs None q e h = ap (or_own m x bs) e ∙ h

if-means : {A B : Type 0} (f : A → B) (b : Bool) (p : Option A) (q : Option B) → q ≡ option_map f p → (if b then None else q) ≡ option_map f (if b then None else p)
if-means f true p q h = refl
if-means f false p q h = h

-- what a name means is found among the names with what they mean
pub seen-means : {A B : Type 0} (f : A → B) (m : List ℕ) (k : Key) (ns : List (Named A)) → seen m (key_in k) (names_in f ns) ≡ option_map f (seen m (key_in k) (names_in itself ns))
seen-means f m (key.Own x) ns = or-means f m (own x.now) (names_in itself ns) (names_in f ns) (looked_up (own x.now) (names_in itself ns)) (looked_up (own x.now) (names_in f ns)) (onto-means f (own x.now) ns [] [] refl) (onto-means f (member m x.now) ns [] [] refl)
seen-means f m (key.Member h x) ns = if-means f (bytes_eq h.now m) (looked_up (member h.now x.now) (names_in itself ns)) (looked_up (member h.now x.now) (names_in f ns)) (onto-means f (member h.now x.now) ns [] [] refl)

pub declared-values : (a : Around) (k : Key) (w : World) (s : Scope) → Stands a w s → declared w.globals (key_in k) w.globals.values ≡ option_map means_in (seen a.world.now.env.home (key_in k) (names_in itself a.world.now.values))
declared-values a k w s h = ap (λ z. declared z.globals (key_in k) z.globals.values) h.world ∙ seen-means means_in a.world.now.env.home k a.world.now.values

pub declared-tags : (a : Around) (k : Key) (w : World) (s : Scope) → Stands a w s → declared w.globals (key_in k) w.globals.constructors ≡ seen a.world.now.env.home (key_in k) (names_in itself a.world.now.constructors)
declared-tags a k w s h = ap (λ z. declared z.globals (key_in k) z.globals.constructors) h.world

-- what a name that is found means
pub means-there : (a : Around) (k : Key) (m : Means) → seen a.world.now.env.home (key_in k) (names_in itself a.world.now.values) ≡ Some m → (w : World) (s : Scope) → Stands a w s → declared w.globals (key_in k) w.globals.values ≡ Some (means_in m)
means-there a k m e w s h = declared-values a k w s h ∙ ap (option_map means_in) e

-- what the code finds of a name is what the definitions find
pub seen-there : {A : Type 0} (home h : List ℕ) (k : Key) (names ns : List (Named A)) (o p : Option A) → h ≡ home → ns ≡ names → o ≡ seen h (key_in k) (names_in itself ns) → o ≡ p → seen home (key_in k) (names_in itself names) ≡ p
seen-there {A} home h k names ns o p e f g i = ap₂ (λ (x : List ℕ) (z : List (Named A)). seen x (key_in k) (names_in itself z)) (sym e) (sym f) ∙ sym g ∙ i

-- ---- functions that are named

pub named-free : (k : Key) (w : World) (s : Scope) (n : ℕ) → IsFree k s → declared w.globals (key_in k) w.globals.values ≡ Some (function n) → function_at w s (named_by k) ≡ Some (n, [])
named-free (key.Own x) w s n f e = ap (option_map without_arguments) (ap (λ z. if_unbound z (option_and_then as_function_number (declared w.globals (own x.now) w.globals.values))) f ∙ ap (option_and_then as_function_number) e)
named-free (key.Member m x) w s n f e = ap (option_map without_arguments) (ap (option_and_then as_function_number) e)

pub named-alone : (k : Key) → given_to (named_by k) ≡ []
named-alone (key.Own x) = refl
named-alone (key.Member m x) = refl

pub free-function : (w : World) (s : Scope) (x : List ℕ) (f : Option ℕ) → local_at x s.names.locals ≡ None → f ≡ option_and_then as_function_number (declared w.globals (own x) w.globals.values) → f ≡ function_named w s (e.Var x)
free-function w s x f h g = g ∙ sym (ap (λ z. if_unbound z (option_and_then as_function_number (declared w.globals (own x) w.globals.values))) h)

pub bound-function : (w : World) (s : Scope) (x : List ℕ) (p : Place) → StandsFor x 0 0 s.names.locals s.env.values s.env.fixed (Some p) → None ≡ function_named w s (e.Var x)
bound-function w s x p h =
    let i : (i : Bool × ℕ) × (local_at x s.names.locals ≡ Some i) = bound-at x s p h in
    sym (ap (λ z. if_unbound z (option_and_then as_function_number (declared w.globals (own x) w.globals.values))) i.1)

pub not-named : (w : World) (s : Scope) (x : ExpForm) → ((y : List ℕ) → x ≡ e.Var y → ⊥) → ((m y : List ℕ) → x ≡ e.Member m y → ⊥) → None ≡ function_named w s x
not-named w s (e.Var y) h k = absurd (h y refl)
not-named w s (e.Member m y) h k = absurd (k m y refl)
not-named w s _ h k = refl

pub function-found : (a : Around) (k : Key) (f : Option ℕ) (o : Option Means) → seen a.world.now.env.home (key_in k) (names_in itself a.world.now.values) ≡ o → f ≡ option_and_then as_function_number (option_map means_in o) → (w : World) (s : Scope) → Stands a w s → f ≡ option_and_then as_function_number (declared w.globals (key_in k) w.globals.values)
function-found a k f o e g w s h = g ∙ ap (option_and_then as_function_number) (ap (option_map means_in) (sym e) ∙ sym (declared-values a k w s h))

-- ---- `val`s

pub val-gives : (a : Around) (n : ℕ) (t of : NormalType) (o : HeldOut) → slice_get a.world.now.vals n ≡ Some t → of ≡ t → ((st : Sites) → gives of (exp.Val n) st ≡ Some (out_with o st)) → (w : World) (s : Scope) (st : Sites) → Stands a w s → declared_out w s st (val n) ≡ Some (out_with o st)
val-gives a n t of o e is g w s st h =
    ap (λ (z : World). option_and_then (λ t. gives t (exp.Val n) st) (slice_get z.declared.vals n)) h.world ∙ ap (option_and_then (λ t. gives t (exp.Val n) st)) e ∙ ap (λ z. gives z (exp.Val n) st) (sym is) ∙ g st

-- ---- heads of functions

pub head-there : (a : Around) (n : ℕ) (f : FunctionHead) → slice_get a.world.now.functions n ≡ Some f → (w : World) (s : Scope) → Stands a w s → slice_get w.declared.functions n ≡ Some (head_in f.head)
head-there a n f e w s k = ap (λ (z : World). slice_get z.declared.functions n) k.world ∙ slice_get-map (λ (f : FunctionHead). head_in f.head) a.world.now.functions n ∙ ap (option_map (λ (f : FunctionHead). head_in f.head)) e

pub bare-applied : (w : World) (s : Scope) (x : ExpForm) (a : Applied) (k : ℕ) → a.number ≡ k → a.given ≡ [] → a.args ≡ [] → function_at w s x ≡ Some (k, []) → given_to x ≡ [] → IsApplied w s x a
bare-applied w s x a k n g r e f = record {
  at = e ∙ ap₂ (λ (i : ℕ) (z : List Normal). Some (i, z)) (sym n) (sym r);
  given = ap (map (λ (c : Bor Con). c.now)) g ∙ sym f;
  ordered = ap are_normal r;
}

-- ---- functions that are not applied

con-same : (d c : Env) → d.known ≡ c.known → (a : Normal) → con_rows_are_apart d a ≡ con_rows_are_apart c a
con-same d c n (normal.Type t) = ap (λ z. rows_are_apart z t) n
con-same d c n (normal.Row r) = ap (λ z. are_apart z r && row_rows_are_apart z r) n
con-same d c n (normal.Name l) = refl
con-same d c n (normal.Fn' k _ b) = refl

kind-same : (d c : Env) → d.kinds ≡ c.kinds → (a : Normal) (k : Kind) → is_of_kind (variables d) a k ≡ is_of_kind (variables c) a k
kind-same d c e a k = ap (λ z. is_of_kind (record { free = z; bound = [] }) a k) e

pub have-same : (d c : Env) → d.kinds ≡ c.kinds → d.known ≡ c.known → (args : List Normal) (ks : List Kind) → have_kinds d args ks ≡ have_kinds c args ks
have-same d c e n [] [] = refl
have-same d c e n [] (k ∷ ks) = refl
have-same d c e n (a ∷ args) [] = refl
have-same d c e n (a ∷ args) (k ∷ ks) =
    ap (λ z. z && (con_rows_are_apart d a && (con_is_plain a && have_kinds d args ks))) (kind-same d c e a k)
    ∙ ap (λ z. is_of_kind (variables c) a k && (z && (con_is_plain a && have_kinds d args ks))) (con-same d c n a)
    ∙ ap (λ z. is_of_kind (variables c) a k && (con_rows_are_apart c a && (con_is_plain a && z))) (have-same d c e n args ks)

met-same : (d c : Env) → d.known ≡ c.known → (args : List Normal) (wanted : Assumptions) → obligations_met d args wanted ≡ obligations_met c args wanted
met-same d c n args wanted = ap (λ z. list_all (λ p. is_apart z (instance_row args p.0) (instance_row args p.1)) wanted) n

pub arguments-same : (d c : Env) → d.kinds ≡ c.kinds → d.known ≡ c.known → (cons : List ConParam) (args : List Normal) → are_arguments d cons args ≡ are_arguments c cons args
arguments-same d c e n cons args = ap₂ (λ x y. x && y) (have-same d c e n args (kinds_of cons)) (met-same d c n args (rows_apart cons))

kinds-there : (d c : Env) → d.kinds ≡ c.kinds → d.known ≡ c.known → (args : List Normal) (ks : List Kind) (f : Fault) → BreaksKinds d args ks f → BreaksKinds c args ks f
kinds-there d c e n _ _ _ arguments.con_lacks = arguments.con_lacks
kinds-there d c e n _ _ _ arguments.con_exceeds = arguments.con_exceeds
kinds-there d c e n _ _ _ (arguments.con_other_kind {a = a} {k = k} h) = arguments.con_other_kind (sym (kind-same d c e a k) ∙ h)
kinds-there d c e n _ _ _ (arguments.con_meets {a = a} {r = r} {t = t} m) = arguments.con_meets (subst (λ z. MeetsCon z a r t) n m)
kinds-there d c e n _ _ _ (arguments.con_not_plain h) = arguments.con_not_plain h
kinds-there d c e n _ _ f (arguments.con_later {args = args} {ks = ks} b) = arguments.con_later (kinds-there d c e n args ks f b)

pub given-there : (d c : Env) → d.kinds ≡ c.kinds → d.known ≡ c.known → (given : List Con) (args : List Normal) (cons : List ConParam) (f : Fault) → BreaksGiven d given args cons f → BreaksGiven c given args cons f
given-there d c e n given args cons f (of_other_kinds b) = of_other_kinds (kinds-there d c e n args (kinds_of cons) f b)
given-there d c e n given args cons _ (given_unmet {a = a} {b = b} h) = given_unmet (subst (λ z. IsUnmet z args (rows_apart cons) a b) n h)
given-there d c e n given args cons _ (given_repeats g r h) = given_repeats g r (sym (arguments-same d c e n cons args) ∙ h)

pub passed-made : (a : Around) (n : ℕ) (args : List Normal) (head : HeldHead) (t whole : NormalType) → are_arguments (env_in a.scope.cons) head.cons args ≡ true → keeps_arrows args head.params ≡ true → whole ≡ function_type (head_in head) → t ≡ instance_type args whole →
    (w : World) (s : Scope) (st : Sites) → Stands a w s → slice_get w.declared.functions n ≡ Some (head_in head) → function_out w s st (n, args) ≡ gives t (exp.Function n args) st
passed-made a n args head t whole ok keeps is e w s st h f =
    ap (option_and_then (λ z. if_so (are_arguments s.env z.cons args && keeps_arrows args z.params) (gives (instance_type args (function_type z)) (exp.Function n args) st))) f
    ∙ ap₂ (λ x y. if_so (x && y) (gives (instance_type args (function_type (head_in head))) (exp.Function n args) st)) (arguments-same s.env (env_in a.scope.cons) h.kinds h.known head.cons args ∙ ok) keeps
    ∙ ap (λ z. gives z (exp.Function n args) st) (sym (e ∙ ap (instance_type args) is))

fun-function : (w : World) (s : Scope) (st : Sites) (d : Option DeclaredAs) (f : ℕ × List Normal) → option_map without_arguments (option_and_then as_function_number d) ≡ Some f → option_and_then (declared_out w s st) d ≡ function_out w s st f
fun-function w s st (Some (function k)) f h = ap (function_out w s st) (some_of h)
fun-function w s st (Some (val v)) f h = cc
fun-function w s st None f h = cc

var-function : (w : World) (s : Scope) (st : Sites) (x : List ℕ) (l : Option (Bool × ℕ)) (f : ℕ × List Normal) → option_map without_arguments (if_unbound l (option_and_then as_function_number (declared w.globals (own x) w.globals.values))) ≡ Some f → local_or w s st x l ≡ function_out w s st f
var-function w s st x (Some i) f h = cc
var-function w s st x None f h = fun-function w s st (declared w.globals (own x) w.globals.values) f h

-- the walk of what names a function
pub walk-function : (w : World) (s : Scope) (st : Sites) (x : ExpForm) (m : Mode) (f : ℕ × List Normal) → function_at w s x ≡ Some f → walk w x s st m ≡ function_out w s st f
walk-function w s st (e.Var x) m f h = var-function w s st x (local_at x s.names.locals) f h
walk-function w s st (e.Member n x) m f h = fun-function w s st (declared w.globals (member n x) w.globals.values) f h
walk-function w s st (e.ConApp' _ x c) m f h = ap (option_and_then (function_out w s st)) h
walk-function w s st _ m f h = cc

abbrev pub PassedTells : Around → Applied → HeldHead → Refusal → Type 0
PassedTells a f head r = (w : World) (s : Scope) (st : Sites) (x : ExpForm) (m : Mode) → Stands a w s → slice_get w.declared.functions f.number ≡ Some (head_in head) → IsApplied w s x f → Refuses a.world.now.datatype_names (Breaks a.world.now.datatype_names w s st x m) r

pub passed-unfit : (a : Around) (f : Applied) (head : HeldHead) (r : Refusal) → Refuses a.world.now.datatype_names (BreaksGiven (env_in a.scope.cons) (map (λ c. c.now) f.given) f.args head.cons) r → PassedTells a f head r
passed-unfit a f head r (c, b, t) w s st x m h eh is =
    (c, bad_instance is.at eh (given-there (env_in a.scope.cons) s.env (sym h.kinds) (sym h.known) (given_to x) f.args head.cons c (subst (λ z. BreaksGiven (env_in a.scope.cons) z f.args head.cons c) is.given b)), t)

pub unfit-there : (names : List (List ℕ)) (env : Env) (g h : List (Bor Con)) (args more : List Normal) (cons wanted : List ConParam) (r : Refusal) → g ≡ h → args ≡ more → cons ≡ wanted → Refuses names (BreaksGiven env (map (λ (c : Bor Con). c.now) g) args cons) r →
    Refuses names (BreaksGiven env (map (λ (c : Bor Con). c.now) h) more wanted) r
unfit-there names env g h args more cons wanted r i j k t =
    subst (λ z. Refuses names (BreaksGiven env (map (λ (c : Bor Con). c.now) z) more wanted) r) i
    (subst (λ z. Refuses names (BreaksGiven env (map (λ (c : Bor Con). c.now) g) z wanted) r) j (subst (λ z. Refuses names (BreaksGiven env (map (λ (c : Bor Con). c.now) g) args z) r) k t))

pub passed-loses : (a : Around) (f : Applied) (head : HeldHead) (s : Stop) → keeps_arrows f.args head.params ≡ false → ((names : List (List ℕ)) → StopIs names (not_so (codes "a function with static parameters") (codes "all arguments")) s) →
    IfRefused {A = Unit {0}} (Err s) (PassedTells a f head)
passed-loses a f head (stop.Refused r) h t = λ w s st x m stands eh is. (not_so (codes "a function with static parameters") (codes "all arguments"), loses_arrow is.at eh h, t a.world.now.datatype_names)
passed-loses a f head stop.Memory h t = tt

pub passed-large : (a : Around) (f : Applied) (head : HeldHead) (whole : NormalType) → are_arguments (env_in a.scope.cons) head.cons f.args ≡ true → keeps_arrows f.args head.params ≡ true → whole ≡ function_type (head_in head) → (r : Refusal) → IsLarge r → most_nodes < type_nodes (instance_type f.args whole) →
    PassedTells a f head r
passed-large a f head whole ok keeps is r large over w s st x m h eh at =
    let o : Out = record { of = instance_type f.args whole; exp = exp.Function f.number f.args; sites = st } in (
      too_large,
      unsettled {o = o} (walk-function w s st x m (f.number, f.args) at.at ∙ passed-made a f.number f.args head (instance_type f.args whole) whole ok keeps is refl w s st h eh)
          (grows (ap (nat_le (type_nodes (instance_type f.args whole))) (most_is a w s h) ∙ is-large (type_nodes (instance_type f.args whole)) 65536 over)),
      large,
    )

-- ---- refusals of names

pub unknown-told : (a : Around) (k : Key) (s : Stop) (text : List ℕ) → seen a.world.now.env.home (key_in k) (names_in itself a.world.now.values) ≡ None → ((names : List (List ℕ)) → StopIs names (unknown text) s) → text ≡ name_text (key_in k).home (key_in k).name →
    IfRefused {A = Unit {0}} (Err s) (λ r. (w : World) (s : Scope) (st : Sites) (m : Mode) → Stands a w s → IsFree k s → Refuses a.world.now.datatype_names (Breaks a.world.now.datatype_names w s st (named_by k) m) r)
unknown-told a (key.Own x) (stop.Refused r) text h t is = λ w s st m stands free. (unknown x.now, no_name free (declared-values a (key.Own x) w s stands ∙ ap (option_map means_in) h), subst (λ z. TellsType a.world.now.datatype_names r (unknown z)) is (t a.world.now.datatype_names))
unknown-told a (key.Member n x) (stop.Refused r) text h t is = λ w s st m stands free. (unknown (name_text (Some n.now) x.now), no_member (declared-values a (key.Member n x) w s stands ∙ ap (option_map means_in) h), subst (λ z. TellsType a.world.now.datatype_names r (unknown z)) is (t a.world.now.datatype_names))
unknown-told a (key.Own x) stop.Memory text h t is = tt
unknown-told a (key.Member n x) stop.Memory text h t is = tt

-- The body of a function or `val` of a typed source is what the walk gives, from the statements before it.
use Rattle.std.proofs.lemmas.List.{length-append}
use Rattle.std.proofs.Common.{arith, ◌≡◌, ◌∙◌, refl, sym, ap, ap₂, subst, Bool, true, false, true≢false, Some, List, [], ◌∷◌, ◌++◌, ℕ, ◌+◌, length, map, take}
use Rattle.std.specs.Prelude.{◌≤◌, slice_get}
use Rattle.ur_syntax.specs.declared.con.Con.{Con}
use Rattle.ur_syntax.specs.declared.decl.Decl.{Decl}
use Rattle.ur_syntax.specs.declared.decl.DeclForm.{DeclForm}
use Rattle.ur_syntax.specs.declared.decl.DeclForm.TheVariants as decl
use Rattle.ur_syntax.specs.declared.decl.FunDef.{FunDef}
use Rattle.ur_syntax.specs.declared.exp.Exp.{Exp as WrittenExp}
use Rattle.ur_syntax.specs.declared.exp.ExpForm.{ExpForm}
use Rattle.ur_sql.specs.declared.query.Query.{Query}
use Rattle.ur_sql.specs.declared.change.Change.{Change}
use Rattle.ur_rows.specs.declared.normal.NormalType.{NormalType}
use Rattle.ur_tree.specs.declared.exp.Exp.{Exp}
use Rattle.ur_tree.specs.declared.typed.Typed.{Typed}
use Rattle.ur_tree.specs.declared.typed.Function.{Function}
use Rattle.ur_tree.specs.declared.typed.ModuleVal.{ModuleVal}
use Rattle.ur_tree.specs.Heads.{Declared as Heads, head_of, declared_of}
use Rattle.ur_tree.specs.Env.{Env}
use Rattle.ur_tree.specs.Occurrences.{occurrences}
use Rattle.ur_tree.specs.Typing.{Checks}
use Rattle.ur_tree.specs.App.{AppIsTyped, BodyFits, FunctionIsTyped, nothing_in_scope, within_body}
use Rattle.ur_typed_rules.specs.Names.{Names, WritesType}
use Rattle.ur_typed_rules.specs.Scopes.{World, Scope, Mode, wants}
use Rattle.ur_typed_rules.proofs.Options.{some_of}
use Rattle.ur_typed.specs.Resolves.{Statements, Resolves}
use Rattle.ur_typed.specs.Project.{Place, env_at, names_at, statements, FunctionResolves, DeclResolves}
use Rattle.ur_typed.specs.Project as project
use Rattle.ur_typed.specs.Typed.{IsVal, HasNoBody, AreFunctions, AreBodies, sites_in, updates_in, all_occurrences}
use Rattle.ur_typed.specs.Typed as source
use Rattle.ur_typed.specs.Rules.{Sites}
use Rattle.ur_typed.specs.Walking.{typed}
use Rattle.ur_typed_laws.specs.Judged.{Fills, stated}
use Rattle.ur_typed_laws.proofs.Numbers.{sites_of_both, updates_of_both}
use Rattle.ur_typed_laws.specs.Walked.{scope_at, out_of, Starts, IsWalked}
use Rattle.ur_typed_laws.proofs.Walked.{starts_left, starts_right}
use Rattle.ur_typed_laws.proofs.Whole.{source_is_walked}
use Rattle.ur_typed_laws.proofs.Lists.{all_at}
use Rattle.ur_typed_laws.proofs.Wider.{wider}
use Rattle.ur_typed_laws.proofs.Written.{body_names}

-- ---- what a body sees

-- all that is declared by type but the statements
abbrev pub bare : Typed → Heads
bare app = record {
  variants = map (λ v. (v.datatype, v.arg)) app.variants;
  cookies = map (λ c. c.1) app.cookies;
  vals = map (λ v. v.of) app.vals;
  functions = map head_of app.functions;
  sequences = length app.schema.sequences;
  queries = [];
  changes = [];
}

abbrev pub world : List (List ℕ) → Heads → ℕ → Place → World
world ff hs most p = record { globals = p.globals; declared = hs; fields = ff; most = most }

-- with so many `val`s alone
abbrev pub with_vals : ℕ → Heads → Heads
with_vals n hs = record { variants = hs.variants; cookies = hs.cookies; vals = take n hs.vals; functions = hs.functions; sequences = hs.sequences; queries = hs.queries; changes = hs.changes }

-- the names and heads are those of a source
pub record IsOf (app : Typed) (ff : List (List ℕ)) (hs : Heads) : Type 0 where
  pub names : ff ≡ app.names
  pub heads : hs ≡ bare app

seen : (app : Typed) (ff : List (List ℕ)) (hs : Heads) → IsOf app ff hs → (most : ℕ) (p : Place) → (stated (statements app) (world ff hs most p)).declared ≡ declared_of app
seen app ff hs i most p = ap₂ (λ f h. (stated (statements app) (world f h most p)).declared) i.names i.heads

seen_before : (app : Typed) (ff : List (List ℕ)) (hs : Heads) → IsOf app ff hs → (most n : ℕ) (p : Place) → (stated (statements app) (world ff (with_vals n hs) most p)).declared ≡ with_vals n (declared_of app)
seen_before app ff hs i most n p = ap₂ (λ f h. (stated (statements app) (world f (with_vals n h) most p)).declared) i.names i.heads

-- ---- the walk of a body

body_walked : (app : Typed) (w : World) (hs : Heads) → (stated (statements app) w).declared ≡ hs → (names : Names) (x : ExpForm) (b : Exp) (t : NormalType) (env : Env) → Resolves (statements app) w.most w.globals hs names x b → BodyFits hs w.most env b t →
    (st : Sites) → Fills w (statements app) st → Starts st (occurrences b) → IsWalked w (statements app) x (scope_at names env) st (wants t) b t
body_walked app w hs e names x b t env r f st g s =
    source_is_walked w (statements app) names x b (subst (λ h. Resolves (statements app) w.most w.globals h names x b) (sym e) r) env (wants t) t (refl, subst (λ h. Checks h w.most env b t) (sym e) f.0, f.1) st g s

-- two walks of one expression from the same statements
pub same_walk : (w : World) (x : ExpForm) (s r : Scope) (st : Sites) (t u : NormalType) (b c : Exp) (d e : Statements) → s ≡ r → t ≡ u → (i : IsWalked w d x s st (wants t) b t) (k : IsWalked w e x r st (wants u) c u) → (b ≡ c) × (i.sites ≡ k.sites)
same_walk w x s r st t u b c d e es et i k =
    let h : Some (out_of t b i.sites) ≡ Some (out_of u c k.sites) = sym i.walked ∙ (ap₂ (λ z v. typed w x z st (wants v)) es et ∙ k.walked) in
    (ap (λ o. o.exp) (some_of h), ap (λ o. o.sites) (some_of h))

-- ---- the statements so far

-- the statements so far are a source's, and those of the bodies that are left go on from there to the last one
pub record Carried (app : Typed) (ff : List (List ℕ)) (st : Sites) (rest : List Exp) : Type 0 where
  pub names : app.names ≡ ff
  pub queries : (n : ℕ) (q : Query) → slice_get st.queries n ≡ Some (Some q) → slice_get app.queries n ≡ Some q
  pub changes : (n : ℕ) (u : Change) → slice_get st.changes n ≡ Some (Some u) → slice_get app.changes n ≡ Some u
  pub starts : Starts st (all_occurrences rest)
  pub many_queries : length st.queries + length (sites_in (all_occurrences rest)) ≡ length app.queries
  pub many_changes : length st.changes + length (updates_in (all_occurrences rest)) ≡ length app.changes

pub filling : {app : Typed} {ff : List (List ℕ)} {st : Sites} {rest : List Exp} → Carried app ff st rest → (w : World) → w.fields ≡ ff → Fills w (statements app) st
filling c w e = record { names = c.names ∙ sym e; queries = c.queries; changes = c.changes }

many : {A : Type 0} (x y xs : List A) (a b both : List ℕ) (n : ℕ) → y ≡ x ++ xs → length a ≡ length xs → both ≡ a ++ b → length x + length both ≡ n → length y + length b ≡ n
many x y xs a b both n e l i h =
    let j : length y ≡ length x + length xs = ap length e ∙ length-append x xs in
    let k : length both ≡ length a + length b = ap length i ∙ length-append a b in
    omega (arith, l, h, j, k)

pub carried_on : {app : Typed} {ff : List (List ℕ)} {st : Sites} {b : Exp} {rest : List Exp} {w : World} {x : ExpForm} {s : Scope} {m : Mode} {t : NormalType} → Carried app ff st (b ∷ rest) → (i : IsWalked w (statements app) x s st m b t) → Carried app ff i.sites rest
carried_on {app} {ff} {st} {b} {rest} c i = record {
  names = c.names;
  queries = i.fills.queries;
  changes = i.fills.changes;
  starts = starts_right (occurrences b) (all_occurrences rest) c.starts i.numbered;
  many_queries = many st.queries i.sites.queries i.numbered.queries (sites_in (occurrences b)) (sites_in (all_occurrences rest)) (sites_in (all_occurrences (b ∷ rest))) (length app.queries) i.numbered.all_queries i.numbered.how_many_sites (sites_of_both (occurrences b) (all_occurrences rest)) c.many_queries;
  many_changes = many st.changes i.sites.changes i.numbered.changes (updates_in (occurrences b)) (updates_in (all_occurrences rest)) (updates_in (all_occurrences (b ∷ rest))) (length app.changes) i.numbered.all_changes i.numbered.how_many_updates (updates_of_both (occurrences b) (all_occurrences rest)) c.many_changes;
}

-- ---- which declarations have bodies

abbrev has_body : DeclForm → Bool
has_body (decl.Val x c e) = true
has_body (decl.Fun fs) = true
has_body _ = false

abbrev pub is_val : DeclForm → Bool
is_val (decl.Val x c e) = true
is_val _ = false

a_val : (f : DeclForm) → IsVal f → (has_body f ≡ true) × (is_val f ≡ true)
a_val _ source.IsVal.val = (refl, refl)

no_body : (f : DeclForm) → HasNoBody f → (has_body f ≡ false) × (is_val f ≡ false)
no_body _ source.HasNoBody.con = (refl, refl)
no_body _ source.HasNoBody.type_ = (refl, refl)
no_body _ source.HasNoBody.datatype = (refl, refl)
no_body _ source.HasNoBody.table = (refl, refl)
no_body _ source.HasNoBody.sequence = (refl, refl)
no_body _ source.HasNoBody.cookie = (refl, refl)

abbrev functions_of : DeclForm → List FunDef
functions_of (decl.Fun fs) = fs
functions_of _ = []

pub bodies_other : (app : Typed) (f v : ℕ) (d : Decl) (ds : List Decl) (g w : ℕ) (bs : List Exp) → HasNoBody d.form → AreBodies app f v (d ∷ ds) g w bs → AreBodies app f v ds g w bs
bodies_other app f v d ds g w _ n (source.AreBodies.val i h r) = absurd (true≢false (sym (a_val d.form i).0 ∙ (no_body d.form n).0))
bodies_other app f v d ds g w _ n (source.AreBodies.functions e h r) = absurd (true≢false (sym (ap has_body e) ∙ (no_body d.form n).0))
bodies_other app f v d ds g w _ n (source.AreBodies.other k r) = r

-- the body of a `val`, and those behind it
pub record ValBody (app : Typed) (f v : ℕ) (ds : List Decl) (g w : ℕ) (bs : List Exp) : Type 0 where
  pub val : ModuleVal
  pub rest : List Exp
  pub got : slice_get app.vals v ≡ Some val
  pub bodies : AreBodies app f (v + 1) ds g w rest
  pub is : bs ≡ val.body ∷ rest

pub bodies_val : (app : Typed) (f v : ℕ) (d : Decl) (ds : List Decl) (g w : ℕ) (bs : List Exp) → is_val d.form ≡ true → AreBodies app f v (d ∷ ds) g w bs → ValBody app f v ds g w bs
bodies_val app f v d ds g w _ j (source.AreBodies.val {m = m} {bodies = bs} i h r) = record { val = m; rest = bs; got = h; bodies = r; is = refl }
bodies_val app f v d ds g w _ j (source.AreBodies.functions e h r) = absurd (true≢false (sym j ∙ ap is_val e))
bodies_val app f v d ds g w _ j (source.AreBodies.other k r) = absurd (true≢false (sym j ∙ (no_body d.form k).1))

-- the bodies of a group, and those behind it
pub record GroupBodies (app : Typed) (f v : ℕ) (fs : List FunDef) (ds : List Decl) (g w : ℕ) (bs : List Exp) : Type 0 where
  pub own : List Exp
  pub rest : List Exp
  pub functions : AreFunctions app f fs own
  pub bodies : AreBodies app (f + length fs) v ds g w rest
  pub is : bs ≡ own ++ rest

pub bodies_functions : (app : Typed) (f v : ℕ) (d : Decl) (fs : List FunDef) (ds : List Decl) (g w : ℕ) (bs : List Exp) → d.form ≡ decl.Fun fs → AreBodies app f v (d ∷ ds) g w bs → GroupBodies app f v fs ds g w bs
bodies_functions app f v d fs ds g w _ j (source.AreBodies.val i h r) = absurd (true≢false (sym (a_val d.form i).1 ∙ ap is_val j))
bodies_functions app f v d fs ds g w _ j (source.AreBodies.functions {fs = gs} {own = own} {bodies = bs} e h r) =
    let i : gs ≡ fs = ap functions_of (sym e ∙ j) in
    record { own = own; rest = bs; functions = subst (λ z. AreFunctions app f z own) i h; bodies = subst (λ z. AreBodies app (f + length z) v ds g w bs) i r; is = refl }
bodies_functions app f v d fs ds g w _ j (source.AreBodies.other k r) = absurd (true≢false (sym (ap has_body j) ∙ (no_body d.form k).0))

pub bodies_end : (app : Typed) (f v g w : ℕ) (bs : List Exp) → AreBodies app f v [] g w bs → bs ≡ []
bodies_end app f v _ _ _ source.AreBodies.none = refl

-- ---- the body of a function, and of a `val`

le : (n : ℕ) → n ≤ n
le n = omega arith

pub function_walked : (app : Typed) (ff : List (List ℕ)) (hs : Heads) → IsOf app ff hs → (most home : ℕ) (q : Place) (n : ℕ) (f : FunDef) (d : Function) (x : FunctionResolves app most home q f d) → AppIsTyped most app → slice_get app.functions n ≡ Some d →
    (st : Sites) (rest : List Exp) → Carried app ff st (d.body ∷ rest) → IsWalked (world ff hs most q) (statements app) f.body.form (scope_at (body_names x) (within_body (head_of d))) st (wants d.result) d.body d.result
function_walked app ff hs i most home q n f d x t h st rest c =
    let u : FunctionIsTyped (declared_of app) most d = all_at (FunctionIsTyped (declared_of app) most) app.functions n d t.functions h in
    body_walked app (world ff hs most q) (declared_of app) (seen app ff hs i most q) (body_names x) f.body.form d.body d.result (within_body (head_of d)) x.body u.body st (filling c (world ff hs most q) refl) (starts_left (occurrences d.body) (all_occurrences rest) c.starts)

-- a `val` whose body is walked, and what is behind it
pub record ValIsWalked (app : Typed) (ff : List (List ℕ)) (hs : Heads) (most : ℕ) (p : Place) (c : Con) (x : ExpForm) (st : Sites) (ds : List Decl) (g w : ℕ) (bs : List Exp) : Type 0 where
  pub body : ValBody app p.functions p.vals ds g w bs
  pub writes : WritesType most (env_at p) c body.val.of
  pub walked : IsWalked (world ff (with_vals p.vals hs) most p) (statements app) x (scope_at (names_at p) nothing_in_scope) st (wants body.val.of) body.val.body body.val.of
  pub on : Carried app ff walked.sites body.rest

pub val_walked : (app : Typed) (ff : List (List ℕ)) (hs : Heads) → IsOf app ff hs → (most home : ℕ) (p : Place) (x : List ℕ) (c : Con) (e : WrittenExp) (q : Place) → DeclResolves app most home p (decl.Val x c e) q → AppIsTyped most app →
    (d : Decl) → d.form ≡ decl.Val x c e → (ds : List Decl) (g w : ℕ) (bs : List Exp) → AreBodies app p.functions p.vals (d ∷ ds) g w bs → (st : Sites) → Carried app ff st bs → ValIsWalked app ff hs most p c e.form st ds g w bs
val_walked app ff hs i most home p x c e _ (project.DeclResolves.val {d = v} wt r l) t d ef ds g w bs b st cd =
    let z : ValBody app p.functions p.vals ds g w bs = bodies_val app p.functions p.vals d ds g w bs (ap is_val ef) b in
    let s : v ≡ z.val = some_of (sym l ∙ z.got) in
    let c' : Carried app ff st (z.val.body ∷ z.rest) = subst (Carried app ff st) z.is cd in
    let r' : Resolves (statements app) most p.globals (with_vals p.vals (declared_of app)) (names_at p) e.form z.val.body = wider {hs = declared_of app} {ks = with_vals p.vals (declared_of app)} (le most) refl (subst (λ y. Resolves (statements app) most p.globals (declared_of app) (names_at p) e.form y.body) s r) in
    let k : IsWalked (world ff (with_vals p.vals hs) most p) (statements app) e.form (scope_at (names_at p) nothing_in_scope) st (wants z.val.of) z.val.body z.val.of =
    body_walked app (world ff (with_vals p.vals hs) most p) (with_vals p.vals (declared_of app)) (seen_before app ff hs i most p.vals p) (names_at p) e.form z.val.body z.val.of nothing_in_scope r' (t.vals p.vals z.val z.got).body st (filling c' (world ff (with_vals p.vals hs) most p) refl) (starts_left (occurrences z.val.body) (all_occurrences z.rest) c'.starts) in
    record { body = z; writes = subst (λ y. WritesType most (env_at p) c y.of) s wt; walked = k; on = carried_on c' k }

-- The bodies of a typed source are what the function of bodies gives, behind what is declared before them.
use Rattle.std.proofs.lemmas.Option.{slice_get-map}
use Rattle.std.proofs.Common.{arith, Option, None, ◌≡◌, ◌∙◌, refl, sym, ap, subst, Some, List, [], ◌∷◌, ◌++◌, ℕ, ◌+◌, length, map, take}
use Rattle.std.specs.Prelude.{option_map, option_and_then, slice_get}
use Rattle.ur_syntax.specs.declared.con.Con.{Con}
use Rattle.ur_syntax.specs.declared.decl.Variant.{Variant as WrittenVariant}
use Rattle.ur_syntax.specs.declared.decl.Decl.{Decl}
use Rattle.ur_syntax.specs.declared.decl.DeclForm.{DeclForm}
use Rattle.ur_syntax.specs.declared.decl.DeclForm.TheVariants as decl
use Rattle.ur_syntax.specs.declared.decl.FunDef.{FunDef}
use Rattle.ur_syntax.specs.declared.exp.Exp.{Exp as WrittenExp}
use Rattle.ur_syntax.specs.declared.exp.ExpForm.{ExpForm}
use Rattle.ur_rows.specs.declared.normal.NormalType.{NormalType}
use Rattle.ur_tree.specs.declared.exp.Exp.{Exp}
use Rattle.ur_tree.specs.declared.typed.Typed.{Typed}
use Rattle.ur_tree.specs.declared.typed.Function.{Function}
use Rattle.ur_tree.specs.Heads.{Declared as Heads, head_of, declared_of}
use Rattle.ur_tree.specs.IsStatic.{is_static}
use Rattle.ur_tree.specs.App.{AppIsTyped, FunctionIsTyped, nothing_in_scope, within_body}
use Rattle.ur_typed_rules.specs.Scopes.{World, Scope, Mode, wants}
use Rattle.ur_typed_rules.proofs.Options.{some_of, then_some}
use Rattle.ur_typed.specs.Project.{Place, names_at, statements, with_val, with_variant, FunctionResolves, FunctionsResolve, VariantsResolve, DeclResolves}
use Rattle.ur_typed.specs.Project as project
use Rattle.ur_typed.specs.Typed.{HasNoBody, AreFunctions, AreBodies}
use Rattle.ur_typed.specs.Typed as source
use Rattle.ur_typed.specs.Rules.{Sites, Out}
use Rattle.ur_typed.specs.Walking.{typed}
use Rattle.ur_typed.specs.Declaring.{Sofar, declared_so_far, world_behind, heading_out, val_type_out, Bodies, with_body, with_val_body, body_out, group_out, val_body_out, bodies_out}
use Rattle.ur_typed_laws.specs.Judged.{AreFilled}
use Rattle.ur_typed_laws.specs.Walked.{scope_at, out_of, IsWalked}
use Rattle.ur_typed_laws.proofs.Walked.{so_true}
use Rattle.ur_typed_laws.proofs.Lists.{all_at}
use Rattle.ur_typed_laws.proofs.Written.{body_names}
use Rattle.ur_typed_laws.proofs.Declared.{named_counts}
use Rattle.ur_typed_laws.proofs.Bodies.{bare, world, with_vals, IsOf, Carried, carried_on, bodies_other, GroupBodies, bodies_functions, function_walked, ValIsWalked, val_walked}
use Rattle.ur_typed_laws.proofs.Going.{body_of, right_side}
use Rattle.ur_typed_laws.specs.Led.{a_world, Agree}
use Rattle.ur_typed_laws.proofs.Led.{walk_is_led}
use Rattle.ur_typed_laws.proofs.Standing.{take_more, sofar, heading_of, heading_is, val_type_is}
use Rattle.ur_typed_laws.proofs.Counting.{Ready, agree_all, agree_vals}

-- so many bodies of a source, and the statements so far
abbrev the_bodies : List Exp → List Exp → Sites → Bodies
the_bodies f v st = record { functions = f; vals = v; sites = st }

abbrev pub bodies : Typed → ℕ → ℕ → Sites → Bodies
bodies app f v st = the_bodies (take f (map body_of app.functions)) (take v (map right_side app.vals)) st

-- the statements so far are a source's, and a statement stands in each place
pub record Held (app : Typed) (st : Sites) (rest : List Exp) : Type 0 where
  pub carried : Carried app app.names st rest
  pub queries : AreFilled st.queries
  pub changes : AreFilled st.changes

filled_both : {A : Type 0} (xs ys : List (Option A)) → AreFilled xs → AreFilled ys → AreFilled (xs ++ ys)
filled_both [] ys f g = g
filled_both (None ∷ xs) ys f g = absurd f
filled_both (Some a ∷ xs) ys f g = filled_both xs ys f g

held_on : {app : Typed} {st : Sites} {b : Exp} {rest : List Exp} {w : World} {x : ExpForm} {s : Scope} {m : Mode} {t : NormalType} → Held app st (b ∷ rest) → (i : IsWalked w (statements app) x s st m b t) → Held app i.sites rest
held_on {st = st} h i = record {
  carried = carried_on h.carried i;
  queries = subst AreFilled (sym i.numbered.all_queries) (filled_both st.queries i.numbered.queries h.queries i.numbered.filled_queries);
  changes = subst AreFilled (sym i.numbered.all_changes) (filled_both st.changes i.numbered.changes h.changes i.numbered.filled_changes);
}

own_names : (app : Typed) → IsOf app app.names (bare app)
own_names app = record { names = refl; heads = refl }

-- what is walked where more is declared is what is typed behind a place
walked_behind : (app : Typed) (most home : ℕ) (p : Place) → Ready app home p → (hs : Heads) → Agree p.globals hs (declared_so_far (sofar app p)) → (x : ExpForm) (s : Scope) (st : Sites) (m : Mode) (o : Out) → typed (world app.names hs most p) x s st m ≡ Some o → typed (world_behind most (sofar app p)) x s st m ≡ Some o
walked_behind app most home p r hs g x s st m o h =
    subst (λ z. typed (a_world p.globals z most (declared_so_far (sofar app p))) x s st m ≡ Some o) (sym r.fields) ((walk_is_led p.globals app.names most hs (declared_so_far (sofar app p)) g x s st m).on o h)

-- ---- functions

record GroupIs (app : Typed) (most : ℕ) (q : Place) (n f v : ℕ) (fs : List FunDef) (st : Sites) (rest : List Exp) : Type 0 where
  sites : Sites
  held : Held app sites rest
  out : group_out most (sofar app q) fs (bodies app n v st) ≡ Some (bodies app f v sites)

function_is : (app : Typed) (most home : ℕ) (q : Place) → Ready app home q → (n v : ℕ) (f : FunDef) (d : Function) (x : FunctionResolves app most home q f d) → AppIsTyped most app → slice_get app.functions n ≡ Some d → (st su : Sites) →
    typed (world app.names (bare app) most q) f.body.form (scope_at (body_names x) (within_body (head_of d))) st (wants d.result) ≡ Some (out_of d.result d.body su) →
    option_and_then (body_out most (sofar app q) f (bodies app n v st)) (heading_out most (names_at q) f) ≡ Some (bodies app (n + 1) v su)
function_is app most home q r n v f d x t g st su h =
    let u : FunctionIsTyped (declared_of app) most d = all_at (FunctionIsTyped (declared_of app) most) app.functions n d t.functions g in
    let k : typed (world_behind most (sofar app q)) f.body.form (scope_at (body_names x) (within_body (head_of d))) st (wants d.result) ≡ Some (out_of d.result d.body su) =
    walked_behind app most home q r (bare app) (agree_all app q r.counted) f.body.form (scope_at (body_names x) (within_body (head_of d))) st (wants d.result) (out_of d.result d.body su) h in
    then_some (body_out most (sofar app q) f (bodies app n v st)) _ (heading_of x) _ (heading_is x u.head) (ap (option_map (with_body (bodies app n v st))) k
    ∙ ap (λ z. Some (the_bodies z (take v (map right_side app.vals)) su)) (take_more n (map body_of app.functions) d.body (slice_get-map body_of app.functions n ∙ ap (option_map body_of) g)))

group_is : (app : Typed) (most home : ℕ) → AppIsTyped most app → (q : Place) → Ready app home q → (n v : ℕ) (fs : List FunDef) → FunctionsResolve app most home q n fs → (own rest : List Exp) → AreFunctions app n fs own → (st : Sites) → Held app st (own ++ rest) → GroupIs app most q n (n + length fs) v fs st rest
group_is app most home t q r n v _ project.FunctionsResolve.none _ rest source.AreFunctions.none st c =
    let e : n ≡ n + length {A = FunDef} [] = omega arith in record { sites = st; held = c; out = ap (λ k. Some (bodies app k v st)) e }
group_is app most home t q r n v _ (project.FunctionsResolve.one {f = f} {d = d₀} {fs = fs} g x xs) _ rest (source.AreFunctions.one {d = d} {es = own} k ks) st c =
    let x' : FunctionResolves app most home q f d = subst (λ z. FunctionResolves app most home q f z) (some_of (sym g ∙ k)) x in
    let i : IsWalked (world app.names (bare app) most q) (statements app) f.body.form (scope_at (body_names x') (within_body (head_of d))) st (wants d.result) d.body d.result = function_walked app app.names (bare app) (own_names app) most home q n f d x' t k st (own ++ rest) c.carried in
    let l : GroupIs app most q (n + 1) ((n + 1) + length fs) v fs i.sites rest = group_is app most home t q r (n + 1) v fs xs own rest ks i.sites (held_on c i) in
    let e : (n + 1) + length fs ≡ n + length (f ∷ fs) = omega arith in
    record { sites = l.sites; held = l.held; out = then_some (group_out most (sofar app q) fs) _ (bodies app (n + 1) v i.sites) _ (function_is app most home q r n v f d x' t k st i.sites i.walked) (l.out ∙ ap (λ z. Some (bodies app z v l.sites)) e) }

-- ---- declarations

-- the bodies of a declaration, and those that are left behind it
pub record Went (app : Typed) (most : ℕ) (form : DeclForm) (z after : Sofar) (b : Bodies) (f v : ℕ) (ds : List Decl) (fa va : ℕ) : Type 0 where
  pub sites : Sites
  pub rest : List Exp
  pub held : Held app sites rest
  pub are_bodies : AreBodies app f v ds fa va rest
  pub out : bodies_out most form z after b ≡ Some (bodies app f v sites)

variants_count : (app : Typed) (most k : ℕ) (p : Place) (vs : List WrittenVariant) (q : Place) → VariantsResolve app most k p vs q → (p.functions ≡ q.functions) × (p.vals ≡ q.vals)
variants_count app most k p _ _ project.VariantsResolve.none = (refl, refl)
variants_count app most k p _ q (project.VariantsResolve.plain {v = v} {vs = vs} e h r) = variants_count app most k (with_variant v.name p) vs q r
variants_count app most k p _ q (project.VariantsResolve.with {v = v} {vs = vs} e w h r) = variants_count app most k (with_variant v.name p) vs q r

moved : {app : Typed} {most : ℕ} {form : DeclForm} {z after : Sofar} {b : Bodies} {f g v w : ℕ} {ds : List Decl} {fa va : ℕ} → f ≡ g → v ≡ w → Went app most form z after b f v ds fa va → Went app most form z after b g w ds fa va
moved {app} {most} {form} {z} {after} {b} {f} {g} {v} {w} {ds} {fa} {va} e i x = subst (λ k. Went app most form z after b g k ds fa va) i (subst (λ k. Went app most form z after b k v ds fa va) e x)

passed : (app : Typed) (most : ℕ) (form : DeclForm) (z after : Sofar) (p : Place) (d : Decl) (ds : List Decl) (fa va : ℕ) (xs : List Exp) (st : Sites) → HasNoBody d.form → bodies_out most form z after (bodies app p.functions p.vals st) ≡ Some (bodies app p.functions p.vals st) → AreBodies app p.functions p.vals (d ∷ ds) fa va xs →
    Held app st xs → Went app most form z after (bodies app p.functions p.vals st) p.functions p.vals ds fa va
passed app most form z after p d ds fa va xs st n o b c = record { sites = st; rest = xs; held = c; are_bodies = bodies_other app p.functions p.vals d ds fa va xs n b; out = o }

val_is : (app : Typed) (most home : ℕ) → AppIsTyped most app → (p : Place) → Ready app home p → (x : List ℕ) (c : Con) (e : WrittenExp) (after : Sofar) (ds : List Decl) (fa va : ℕ) (xs : List Exp) (st : Sites) → AreFilled st.queries → AreFilled st.changes → ValIsWalked app app.names (bare app) most p c e.form st ds fa va xs →
    Went app most (decl.Val x c e) (sofar app p) after (bodies app p.functions p.vals st) p.functions (p.vals + 1) ds fa va
val_is app most home t p r x c e after ds fa va xs st fq fc i =
    let u : NormalType = i.body.val.of in
    let s : Scope = scope_at (names_at p) nothing_in_scope in
    let o : Out = out_of u i.body.val.body i.walked.sites in
    let k : typed (world_behind most (sofar app p)) e.form s st (wants u) ≡ Some o = walked_behind app most home p r (with_vals p.vals (bare app)) (agree_vals app p r.counted) e.form s st (wants u) o i.walked.walked in
    let l : val_type_out most c (sofar app p) ≡ Some u = val_type_is app most p c u i.writes (t.vals p.vals i.body.val i.body.got).written (t.vals p.vals i.body.val i.body.got).placed in
    record {
      sites = i.walked.sites;
      rest = i.body.rest;
      held = record {
        carried = i.on;
        queries = subst AreFilled (sym i.walked.numbered.all_queries) (filled_both st.queries i.walked.numbered.queries fq i.walked.numbered.filled_queries);
        changes = subst AreFilled (sym i.walked.numbered.all_changes) (filled_both st.changes i.walked.numbered.changes fc i.walked.numbered.filled_changes);
      };
      are_bodies = i.body.bodies;
      out = then_some (val_body_out most (sofar app p) e.form (bodies app p.functions p.vals st)) _ u _ l
          (then_some _ _ o _ k (so_true (is_static i.body.val.body) (Some (with_val_body (bodies app p.functions p.vals st) o)) (t.vals p.vals i.body.val i.body.got).static
          ∙ ap (λ z. Some (the_bodies (take p.functions (map body_of app.functions)) z i.walked.sites)) (take_more p.vals (map right_side app.vals) i.body.val.body (slice_get-map right_side app.vals p.vals ∙ ap (option_map right_side) i.body.got))));
    }

functions_are : (app : Typed) (most home : ℕ) → AppIsTyped most app → (p q : Place) → Ready app home q → (z : Sofar) (fs : List FunDef) → FunctionsResolve app most home q p.functions fs → (ds : List Decl) (fa va : ℕ) (xs : List Exp) (st : Sites) → Held app st xs →
    GroupBodies app p.functions p.vals fs ds fa va xs → Went app most (decl.Fun fs) z (sofar app q) (bodies app p.functions p.vals st) (p.functions + length fs) p.vals ds fa va
functions_are app most home t p q r z fs x ds fa va xs st c i =
    let l : GroupIs app most q p.functions (p.functions + length fs) p.vals fs st i.rest = group_is app most home t q r p.functions p.vals fs x i.own i.rest i.functions st (subst (Held app st) i.is c) in
    record { sites = l.sites; rest = i.rest; held = l.held; are_bodies = i.bodies; out = l.out }

pub decl_bodies : (app : Typed) (most home : ℕ) → AppIsTyped most app → (p : Place) (d : Decl) (form : DeclForm) (q : Place) → DeclResolves app most home p form q → d.form ≡ form → Ready app home p → Ready app home q → (ds : List Decl) (fa va : ℕ) (xs : List Exp) (st : Sites) →
    AreBodies app p.functions p.vals (d ∷ ds) fa va xs → Held app st xs → Went app most form (sofar app p) (sofar app q) (bodies app p.functions p.vals st) q.functions q.vals ds fa va
decl_bodies app most home t p d _ _ (project.DeclResolves.con i j) e r r' ds fa va xs st b c = passed app most _ _ _ p d ds fa va xs st (subst HasNoBody (sym e) source.HasNoBody.con) refl b c
decl_bodies app most home t p d _ _ (project.DeclResolves.type_ i j) e r r' ds fa va xs st b c = passed app most _ _ _ p d ds fa va xs st (subst HasNoBody (sym e) source.HasNoBody.type_) refl b c
decl_bodies app most home t p d _ q (project.DeclResolves.datatype {vs = vs} i x) e r r' ds fa va xs st b c =
    let k : (p.functions ≡ q.functions) × (p.vals ≡ q.vals) = variants_count app most p.datatypes _ vs q x in
    moved k.0 k.1 (passed app most _ _ _ p d ds fa va xs st (subst HasNoBody (sym e) source.HasNoBody.datatype) refl b c)
decl_bodies app most home t p d _ _ (project.DeclResolves.table i j k l) e r r' ds fa va xs st b c = passed app most _ _ _ p d ds fa va xs st (subst HasNoBody (sym e) source.HasNoBody.table) refl b c
decl_bodies app most home t p d _ _ (project.DeclResolves.sequence i j) e r r' ds fa va xs st b c = passed app most _ _ _ p d ds fa va xs st (subst HasNoBody (sym e) source.HasNoBody.sequence) refl b c
decl_bodies app most home t p d _ _ (project.DeclResolves.cookie i o j k) e r r' ds fa va xs st b c =
    passed app most _ _ _ p d ds fa va xs st (subst HasNoBody (sym e) source.HasNoBody.cookie) refl b c
decl_bodies app most home t p d _ _ (project.DeclResolves.val {x = x} {c = w} {e = z} i j k) e r r' ds fa va xs st b c =
    val_is app most home t p r x w z (sofar app (with_val x p)) ds fa va xs st c.queries c.changes (val_walked app app.names (bare app) (own_names app) most home p x w z (with_val x p) (project.DeclResolves.val i j k) t d e ds fa va xs b st c.carried)
decl_bodies app most home t p d _ q (project.DeclResolves.functions {fs = fs} n x) e r r' ds fa va xs st b c =
    let k = named_counts p fs q n in moved k.0 k.1 (functions_are app most home t p q r' (sofar app p) fs x ds fa va xs st c (bodies_functions app p.functions p.vals d fs ds fa va xs e b))

-- Two typed sources of a project have the same bodies: they are walked side by side, from the same statements.
use Rattle.std.proofs.lemmas.Option.{slice_get-map}
use Rattle.std.proofs.Common.{arith, ◌≡◌, ◌∙◌, refl, sym, ap, ap₂, subst, Option, Some, List, [], ◌∷◌, ◌++◌, ℕ, ◌+◌, length, map}
use Rattle.std.specs.Prelude.{option_map}
use Rattle.ur_syntax.specs.declared.con.Con.{Con}
use Rattle.ur_syntax.specs.declared.decl.Decl.{Decl}
use Rattle.ur_syntax.specs.declared.decl.DeclForm.{DeclForm}
use Rattle.ur_syntax.specs.declared.decl.FunDef.{FunDef}
use Rattle.ur_syntax.specs.declared.decl.Module.{Module}
use Rattle.ur_syntax.specs.declared.decl.Variant.{Variant as WrittenVariant}
use Rattle.ur_syntax.specs.declared.exp.Exp.{Exp as WrittenExp}
use Rattle.ur_tree.specs.declared.exp.Exp.{Exp}
use Rattle.ur_tree.specs.declared.typed.Typed.{Typed}
use Rattle.ur_tree.specs.declared.typed.Function.{Function}
use Rattle.ur_tree.specs.declared.typed.ModuleVal.{ModuleVal}
use Rattle.ur_tree.specs.Heads.{Declared as Heads, head_of}
use Rattle.ur_tree.specs.App.{AppIsTyped, nothing_in_scope, within_body}
use Rattle.ur_typed_rules.proofs.Options.{some_of}
use Rattle.ur_typed.specs.Project.{Place, env_at, names_at, enter, statements, with_variant, FunctionResolves, FunctionsResolve, VariantsResolve, DeclResolves, DeclsResolve, ModulesResolve}
use Rattle.ur_typed.specs.Project as project
use Rattle.ur_typed.specs.Typed.{HasNoBody, AreFunctions, AreBodies, all_decls}
use Rattle.ur_typed.specs.Typed as source
use Rattle.ur_typed.specs.Rules.{Sites}
use Rattle.ur_typed_laws.specs.Judged.{AreFilled}
use Rattle.ur_typed_laws.proofs.Numbers.{filled_both}
use Rattle.ur_typed_laws.specs.Walked.{scope_at, IsWalked}
use Rattle.ur_typed_laws.proofs.Lists.{Agree, agree_more}
use Rattle.ur_typed_laws.proofs.Written.{one_type, body_names, SameFunction, one_function}
use Rattle.ur_typed_laws.proofs.Declared.{SameHeads, always, decl_step, named_counts}
use Rattle.ur_typed_laws.proofs.Bodies.{IsOf, world, with_vals, same_walk, Carried, carried_on, bodies_other, GroupBodies, bodies_functions, function_walked, ValIsWalked, val_walked}

abbrev pub body_of : Function → Exp
body_of d = d.body

abbrev pub right_side : ModuleVal → Exp
right_side v = v.body

-- Two sources of one project that agree on what is declared.
pub record Both (a b : Typed) (most : ℕ) (ff : List (List ℕ)) (hs : Heads) : Type 0 where
  pub same : SameHeads a b
  pub of_a : IsOf a ff hs
  pub of_b : IsOf b ff hs
  pub typed_a : AppIsTyped most a
  pub typed_b : AppIsTyped most b

-- Both are walked up to these functions and `val`s, and these are their bodies that are left.
pub record Going (a b : Typed) (ff : List (List ℕ)) (f v : ℕ) (st : Sites) (xs ys : List Exp) : Type 0 where
  pub left : Carried a ff st xs
  pub right : Carried b ff st ys
  pub filled_queries : AreFilled st.queries
  pub filled_changes : AreFilled st.changes
  pub functions : Agree f (map body_of a.functions) (map body_of b.functions)
  pub vals : Agree v (map right_side a.vals) (map right_side b.vals)

-- They are walked behind some declarations; where the bodies that are left are the same, so were those before.
pub record Gone (a b : Typed) (ff : List (List ℕ)) (f v : ℕ) (rest : List Decl) (fa va fb vb : ℕ) (xs ys : List Exp) : Type 0 where
  pub sites : Sites
  pub in_a : List Exp
  pub in_b : List Exp
  pub going : Going a b ff f v sites in_a in_b
  pub bodies_a : AreBodies a f v rest fa va in_a
  pub bodies_b : AreBodies b f v rest fb vb in_b
  pub back : in_a ≡ in_b → xs ≡ ys

filled_on : {A : Type 0} (x y xs : List (Option A)) → y ≡ x ++ xs → AreFilled x → AreFilled xs → AreFilled y
filled_on x y xs e f g = subst AreFilled (sym e) (filled_both x xs f g)

-- ---- functions

-- a group is walked
record GroupGone (a b : Typed) (ff : List (List ℕ)) (f v : ℕ) (own other xs ys : List Exp) : Type 0 where
  sites : Sites
  going : Going a b ff f v sites xs ys
  same : own ≡ other

group_going : (a b : Typed) (most : ℕ) (ff : List (List ℕ)) (hs : Heads) → Both a b most ff hs → (home : ℕ) (q : Place) (n v : ℕ) (fs : List FunDef) → FunctionsResolve a most home q n fs → FunctionsResolve b most home q n fs →
    (own other xs ys : List Exp) → AreFunctions a n fs own → AreFunctions b n fs other → (st : Sites) → Going a b ff n v st (own ++ xs) (other ++ ys) → GroupGone a b ff (n + length fs) v own other xs ys
group_going a b most ff hs u home q n v _ project.FunctionsResolve.none project.FunctionsResolve.none _ _ xs ys source.AreFunctions.none source.AreFunctions.none st g =
    let e : n ≡ n + length {A = FunDef} [] = omega arith in subst (λ k. GroupGone a b ff k v [] [] xs ys) e (record { sites = st; going = g; same = refl })
group_going a b most ff hs u home q n v _ (project.FunctionsResolve.one {f = f} {d = d₀} {fs = fs} h x r) (project.FunctionsResolve.one {d = e₀} h' y r') _ _ xs ys (source.AreFunctions.one {d = d} {es = own} k s) (source.AreFunctions.one {d = e} {es = other} k' s') st g =
    let x' : FunctionResolves a most home q f d = subst (λ z. FunctionResolves a most home q f z) (some_of (sym h ∙ k)) x in
    let y' : FunctionResolves b most home q f e = subst (λ z. FunctionResolves b most home q f z) (some_of (sym h' ∙ k')) y in
    let i : IsWalked (world ff hs most q) (statements a) f.body.form (scope_at (body_names x') (within_body (head_of d))) st _ d.body d.result = function_walked a ff hs u.of_a most home q n f d x' u.typed_a k st (own ++ xs) g.left in
    let j : IsWalked (world ff hs most q) (statements b) f.body.form (scope_at (body_names y') (within_body (head_of e))) st _ e.body e.result = function_walked b ff hs u.of_b most home q n f e y' u.typed_b k' st (other ++ ys) g.right in
    let m : SameFunction x' y' = one_function x' y' in
    let w : (d.body ≡ e.body) × (i.sites ≡ j.sites) = same_walk (world ff hs most q) f.body.form (scope_at (body_names x') (within_body (head_of d))) (scope_at (body_names y') (within_body (head_of e))) st d.result e.result d.body e.body (statements a) (statements b)
    (ap₂ (λ z t. scope_at z (within_body t)) m.names (ap (λ z. z.head) m.head)) (ap (λ z. z.head.result) m.head) i j in
    let g' : Going a b ff (n + 1) v i.sites (own ++ xs) (other ++ ys) = record {
      left = carried_on g.left i;
      right = subst (λ z. Carried b ff z (other ++ ys)) (sym w.1) (carried_on g.right j);
      filled_queries = filled_on st.queries i.sites.queries i.numbered.queries i.numbered.all_queries g.filled_queries i.numbered.filled_queries;
      filled_changes = filled_on st.changes i.sites.changes i.numbered.changes i.numbered.all_changes g.filled_changes i.numbered.filled_changes;
      functions = agree_more n (map body_of a.functions) (map body_of b.functions) d.body g.functions (slice_get-map body_of a.functions n ∙ ap (option_map body_of) k) (slice_get-map body_of b.functions n ∙ (ap (option_map body_of) k' ∙ ap (λ z. Some z) (sym w.0)));
      vals = g.vals;
    } in
    let l : GroupGone a b ff ((n + 1) + length fs) v own other xs ys = group_going a b most ff hs u home q (n + 1) v fs r r' own other xs ys s s' i.sites g' in
    let c : (n + 1) + length fs ≡ n + length (f ∷ fs) = omega arith in
    subst (λ z. GroupGone a b ff z v (d.body ∷ own) (e.body ∷ other) xs ys) c (record { sites = l.sites; going = l.going; same = ap₂ (λ z zs. z ∷ zs) w.0 l.same })

-- ---- declarations

variants_counts : (app : Typed) (most k : ℕ) (p : Place) (vs : List WrittenVariant) (q : Place) → VariantsResolve app most k p vs q → (p.functions ≡ q.functions) × (p.vals ≡ q.vals)
variants_counts app most k p _ _ project.VariantsResolve.none = (refl, refl)
variants_counts app most k p _ q (project.VariantsResolve.plain {v = v} {vs = vs} e h r) = variants_counts app most k (with_variant v.name p) vs q r
variants_counts app most k p _ q (project.VariantsResolve.with {v = v} {vs = vs} e w h r) = variants_counts app most k (with_variant v.name p) vs q r

passed_over : (a b : Typed) (ff : List (List ℕ)) (f v : ℕ) (d : Decl) (ds : List Decl) (fa va fb vb : ℕ) (xs ys : List Exp) (st : Sites) → HasNoBody d.form → AreBodies a f v (d ∷ ds) fa va xs → AreBodies b f v (d ∷ ds) fb vb ys → Going a b ff f v st xs ys → Gone a b ff f v ds fa va fb vb xs ys
passed_over a b ff f v d ds fa va fb vb xs ys st n x y g = record { sites = st; in_a = xs; in_b = ys; going = g; bodies_a = bodies_other a f v d ds fa va xs n x; bodies_b = bodies_other b f v d ds fb vb ys n y; back = λ e. e }

moved : (a b : Typed) (ff : List (List ℕ)) (f g v w : ℕ) (ds : List Decl) (fa va fb vb : ℕ) (xs ys : List Exp) → f ≡ g → v ≡ w → Gone a b ff f v ds fa va fb vb xs ys → Gone a b ff g w ds fa va fb vb xs ys
moved a b ff f g v w ds fa va fb vb xs ys e i x = subst (λ z. Gone a b ff g z ds fa va fb vb xs ys) i (subst (λ z. Gone a b ff z v ds fa va fb vb xs ys) e x)

val_going : (a b : Typed) (most : ℕ) (ff : List (List ℕ)) (hs : Heads) → Both a b most ff hs → (p : Place) (c : Con) (x : WrittenExp) (ds : List Decl) (fa va fb vb : ℕ) (xs ys : List Exp) (st : Sites) → Going a b ff p.functions p.vals st xs ys →
    ValIsWalked a ff hs most p c x.form st ds fa va xs → ValIsWalked b ff hs most p c x.form st ds fb vb ys → Gone a b ff p.functions (p.vals + 1) ds fa va fb vb xs ys
val_going a b most ff hs u p c x ds fa va fb vb xs ys st g i j =
    let w : (i.body.val.body ≡ j.body.val.body) × (i.walked.sites ≡ j.walked.sites) = same_walk (world ff (with_vals p.vals hs) most p) x.form (scope_at (names_at p) nothing_in_scope) (scope_at (names_at p) nothing_in_scope) st i.body.val.of j.body.val.of i.body.val.body j.body.val.body (statements a) (statements b)
    refl (one_type most (env_at p) c i.body.val.of j.body.val.of i.writes j.writes) i.walked j.walked in
    record {
      sites = i.walked.sites;
      in_a = i.body.rest;
      in_b = j.body.rest;
      going = record {
        left = i.on;
        right = subst (λ z. Carried b ff z j.body.rest) (sym w.1) j.on;
        filled_queries = filled_on st.queries i.walked.sites.queries i.walked.numbered.queries i.walked.numbered.all_queries g.filled_queries i.walked.numbered.filled_queries;
        filled_changes = filled_on st.changes i.walked.sites.changes i.walked.numbered.changes i.walked.numbered.all_changes g.filled_changes i.walked.numbered.filled_changes;
        functions = g.functions;
        vals = agree_more p.vals (map right_side a.vals) (map right_side b.vals) i.body.val.body g.vals (slice_get-map right_side a.vals p.vals ∙ ap (option_map right_side) i.body.got) (slice_get-map right_side b.vals p.vals ∙ (ap (option_map right_side) j.body.got ∙ ap (λ z. Some z) (sym w.0)));
      };
      bodies_a = i.body.bodies;
      bodies_b = j.body.bodies;
      back = λ e. i.body.is ∙ (ap₂ (λ z zs. z ∷ zs) w.0 e ∙ sym j.body.is);
    }

functions_going : (a b : Typed) (most : ℕ) (ff : List (List ℕ)) (hs : Heads) → Both a b most ff hs → (home : ℕ) (p q : Place) (fs : List FunDef) → FunctionsResolve a most home q p.functions fs → FunctionsResolve b most home q p.functions fs →
    (ds : List Decl) (fa va fb vb : ℕ) (xs ys : List Exp) (st : Sites) → Going a b ff p.functions p.vals st xs ys → GroupBodies a p.functions p.vals fs ds fa va xs → GroupBodies b p.functions p.vals fs ds fb vb ys → Gone a b ff (p.functions + length fs) p.vals ds fa va fb vb xs ys
functions_going a b most ff hs u home p q fs r r' ds fa va fb vb xs ys st g i j =
    let g' : Going a b ff p.functions p.vals st (i.own ++ i.rest) (j.own ++ j.rest) = subst (λ z. Going a b ff p.functions p.vals st z (j.own ++ j.rest)) i.is (subst (λ z. Going a b ff p.functions p.vals st xs z) j.is g) in
    let l : GroupGone a b ff (p.functions + length fs) p.vals i.own j.own i.rest j.rest = group_going a b most ff hs u home q p.functions p.vals fs r r' i.own j.own i.rest j.rest i.functions j.functions st g' in
    record { sites = l.sites; in_a = i.rest; in_b = j.rest; going = l.going; bodies_a = i.bodies; bodies_b = j.bodies; back = λ e. i.is ∙ (ap₂ (λ z w. z ++ w) l.same e ∙ sym j.is) }

decl_going : (a b : Typed) (most : ℕ) (ff : List (List ℕ)) (hs : Heads) → Both a b most ff hs → (home : ℕ) (p : Place) (d : Decl) (form : DeclForm) (q : Place) → DeclResolves a most home p form q → DeclResolves b most home p form q → d.form ≡ form →
    (ds : List Decl) (fa va fb vb : ℕ) (xs ys : List Exp) (st : Sites) → AreBodies a p.functions p.vals (d ∷ ds) fa va xs → AreBodies b p.functions p.vals (d ∷ ds) fb vb ys → Going a b ff p.functions p.vals st xs ys → Gone a b ff q.functions q.vals ds fa va fb vb xs ys
decl_going a b most ff hs u home p d _ _ (project.DeclResolves.con i j) y e ds fa va fb vb xs ys st ba bb g = passed_over a b ff p.functions p.vals d ds fa va fb vb xs ys st (subst HasNoBody (sym e) source.HasNoBody.con) ba bb g
decl_going a b most ff hs u home p d _ _ (project.DeclResolves.type_ i j) y e ds fa va fb vb xs ys st ba bb g = passed_over a b ff p.functions p.vals d ds fa va fb vb xs ys st (subst HasNoBody (sym e) source.HasNoBody.type_) ba bb g
decl_going a b most ff hs u home p d _ q (project.DeclResolves.datatype {vs = vs} i r) y e ds fa va fb vb xs ys st ba bb g =
    let c : (p.functions ≡ q.functions) × (p.vals ≡ q.vals) = variants_counts a most p.datatypes _ vs q r in
    moved a b ff p.functions q.functions p.vals q.vals ds fa va fb vb xs ys c.0 c.1 (passed_over a b ff p.functions p.vals d ds fa va fb vb xs ys st (subst HasNoBody (sym e) source.HasNoBody.datatype) ba bb g)
decl_going a b most ff hs u home p d _ _ (project.DeclResolves.table i j k l) y e ds fa va fb vb xs ys st ba bb g = passed_over a b ff p.functions p.vals d ds fa va fb vb xs ys st (subst HasNoBody (sym e) source.HasNoBody.table) ba bb g
decl_going a b most ff hs u home p d _ _ (project.DeclResolves.sequence i j) y e ds fa va fb vb xs ys st ba bb g = passed_over a b ff p.functions p.vals d ds fa va fb vb xs ys st (subst HasNoBody (sym e) source.HasNoBody.sequence) ba bb g
decl_going a b most ff hs u home p d _ _ (project.DeclResolves.cookie i o j k) y e ds fa va fb vb xs ys st ba bb g =
    passed_over a b ff p.functions p.vals d ds fa va fb vb xs ys st (subst HasNoBody (sym e) source.HasNoBody.cookie) ba bb g
decl_going a b most ff hs u home p d _ _ (project.DeclResolves.val {x = x} {c = c} {e = z} i j k) y e ds fa va fb vb xs ys st ba bb g =
    val_going a b most ff hs u p c z ds fa va fb vb xs ys st g
    (val_walked a ff hs u.of_a most home p x c z _ (project.DeclResolves.val i j k) u.typed_a d e ds fa va xs ba st g.left)
    (val_walked b ff hs u.of_b most home p x c z _ y u.typed_b d e ds fb vb ys bb st g.right)
decl_going a b most ff hs u home p d _ q (project.DeclResolves.functions {fs = fs} n r) (project.DeclResolves.functions n' r') e ds fa va fb vb xs ys st ba bb g =
    let c = named_counts p fs q n in
    moved a b ff (p.functions + length fs) q.functions p.vals q.vals ds fa va fb vb xs ys c.0 c.1
    (functions_going a b most ff hs u home p q fs r r' ds fa va fb vb xs ys st g (bodies_functions a p.functions p.vals d fs ds fa va xs e ba) (bodies_functions b p.functions p.vals d fs ds fb vb ys e bb))

decls_going : (a b : Typed) (most : ℕ) (ff : List (List ℕ)) (hs : Heads) → Both a b most ff hs → (home : ℕ) (p : Place) (ds : List Decl) (q z : Place) → DeclsResolve a most home p ds q → DeclsResolve b most home p ds z →
    (rest : List Decl) (fa va fb vb : ℕ) (xs ys : List Exp) (st : Sites) → AreBodies a p.functions p.vals (ds ++ rest) fa va xs → AreBodies b p.functions p.vals (ds ++ rest) fb vb ys → Going a b ff p.functions p.vals st xs ys → Gone a b ff q.functions q.vals rest fa va fb vb xs ys
decls_going a b most ff hs u home p _ _ _ project.DeclsResolve.none project.DeclsResolve.none rest fa va fb vb xs ys st ba bb g = record { sites = st; in_a = xs; in_b = ys; going = g; bodies_a = ba; bodies_b = bb; back = λ e. e }
decls_going a b most ff hs u home p _ q z (project.DeclsResolve.one {q = q'} {d = d} {ds = ds} x r) (project.DeclsResolve.one {q = z'} y s) rest fa va fb vb xs ys st ba bb g =
    let i : q' ≡ z' = (decl_step a b u.same.modules most home p d.form q' z' x y (always a b u.same p)).same in
    let l : Gone a b ff q'.functions q'.vals (ds ++ rest) fa va fb vb xs ys = decl_going a b most ff hs u home p d d.form q' x (subst (λ v. DeclResolves b most home p d.form v) (sym i) y) refl (ds ++ rest) fa va fb vb xs ys st ba bb g in
    let m : Gone a b ff q.functions q.vals rest fa va fb vb l.in_a l.in_b = decls_going a b most ff hs u home q' ds q z r (subst (λ v. DeclsResolve b most home v ds z) (sym i) s) rest fa va fb vb l.in_a l.in_b l.sites l.bodies_a l.bodies_b l.going in
    record { sites = m.sites; in_a = m.in_a; in_b = m.in_b; going = m.going; bodies_a = m.bodies_a; bodies_b = m.bodies_b; back = λ e. l.back (m.back e) }

decls_end : (a b : Typed) → SameHeads a b → (most home : ℕ) (p : Place) (ds : List Decl) (q z : Place) → DeclsResolve a most home p ds q → DeclsResolve b most home p ds z → q ≡ z
decls_end a b s most home p _ _ _ project.DeclsResolve.none project.DeclsResolve.none = refl
decls_end a b s most home p _ q z (project.DeclsResolve.one {q = q'} {d = d} {ds = ds} x r) (project.DeclsResolve.one {q = z'} y t) =
    let i : q' ≡ z' = (decl_step a b s.modules most home p d.form q' z' x y (always a b s p)).same in
    decls_end a b s most home q' ds q z r (subst (λ v. DeclsResolve b most home v ds z) (sym i) t)

pub modules_going : (a b : Typed) (most : ℕ) (ff : List (List ℕ)) (hs : Heads) → Both a b most ff hs → (n : ℕ) (p : Place) (names : List (List ℕ)) (modules : List Module) (q z : Place) → ModulesResolve a most n p names modules q → ModulesResolve b most n p names modules z →
    (fa va fb vb : ℕ) (xs ys : List Exp) (st : Sites) → AreBodies a p.functions p.vals (all_decls modules) fa va xs → AreBodies b p.functions p.vals (all_decls modules) fb vb ys → Going a b ff p.functions p.vals st xs ys → Gone a b ff q.functions q.vals [] fa va fb vb xs ys
modules_going a b most ff hs u n p _ _ _ _ project.ModulesResolve.none project.ModulesResolve.none fa va fb vb xs ys st ba bb g = record { sites = st; in_a = xs; in_b = ys; going = g; bodies_a = ba; bodies_b = bb; back = λ e. e }
modules_going a b most ff hs u n p _ _ q z (project.ModulesResolve.one {q = q'} {m = m} {names = names} {x = x} {modules = modules} h r rs) (project.ModulesResolve.one {q = z'} h' s ss) fa va fb vb xs ys st ba bb g =
    let i : q' ≡ z' = decls_end a b u.same most n (enter m p) x.decls q' z' r s in
    let l : Gone a b ff q'.functions q'.vals (all_decls modules) fa va fb vb xs ys = decls_going a b most ff hs u n (enter m p) x.decls q' z' r s (all_decls modules) fa va fb vb xs ys st ba bb g in
    let k : Gone a b ff q.functions q.vals [] fa va fb vb l.in_a l.in_b = modules_going a b most ff hs u (n + 1) q' names modules q z rs (subst (λ v. ModulesResolve b most (n + 1) v names modules z) (sym i) ss) fa va fb vb l.in_a l.in_b l.sites l.bodies_a l.bodies_b l.going in
    record { sites = k.sites; in_a = k.in_a; in_b = k.in_b; going = k.going; bodies_a = k.bodies_a; bodies_b = k.bodies_b; back = λ e. l.back (k.back e) }

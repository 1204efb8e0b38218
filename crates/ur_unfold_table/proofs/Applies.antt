-- What is applied.
use Rattle.std.proofs.Common.{◌≡◌, ℕ, ℤ, Bool, true, false, List, [], ◌∷◌, ◌++◌, map, get_or, Option, None, Some, refl, sym, ap, ap₂, subst, ◌∙◌}
use Rattle.std.proofs.lemmas.Option.{slice_get-get_or}
use Rattle.ur_rows.specs.declared.normal.Normal.TheVariants as normal
use Rattle.ur_rows.specs.Made.{unit}
use Rattle.ur_values.specs.declared.value.Value.TheVariants as v
use Rattle.ur_tree.specs.declared.exp.Exp.{Exp}
use Rattle.ur_tree.specs.declared.exp.Exp.TheVariants as x
use Rattle.ur_tree.specs.declared.closed.Static.{Static, Static-F, out-Static}
use Rattle.ur_tree.specs.declared.closed.Static.TheOpen as o
use Rattle.ur_tree.specs.declared.closed.Static.TheVariants as st
use Rattle.ur_tree.specs.declared.closed.StaticField.{StaticField}
use Rattle.ur_meaning.specs.Form.{no_form}
use Rattle.ur_source.specs.Reading.{Cons}
use Rattle.ur_source.specs.Static.{static_record}
use Rattle.ur_source.specs.Items.{Source, Scope, applied_form}
use Rattle.ur_unfold_static.specs.declared.node.Lambda.{Lambda}
use Rattle.ur_unfold_static.specs.declared.node.Node.{Node}
use Rattle.ur_unfold_static.specs.declared.node.Node.TheVariants as node
use Rattle.ur_unfold_static.specs.declared.node.Scope.{Scope as Numbers}
use Rattle.ur_unfold_static.specs.Held.{Held, Written, con_at, static_at, field_of, lambda_with, static_of_node, NodeFits}
use Rattle.ur_unfold_static.specs.Lists.{written}
use Rattle.ur_unfold_static.specs.Scopes.{Statics, IsAt, AreAt, MayBeAt}
use Rattle.ur_unfold_pieces.proofs.Lists.{below_at}
use Rattle.ur_unfold_table.specs.declared.calls.Applied.{Applied}
use Rattle.ur_unfold_table.specs.declared.calls.Applied.TheVariants as applied
use Rattle.ur_unfold_table.specs.Applying.{IsApplied, IsAppliedOpen, IsPushed}

abbrev OpenStatic : Type 0
OpenStatic = Static-F Static StaticField

-- ---- an argument that is added

pub pushed_no : {A : Type 0} (table : List A) (b : Bool) (s : Option A) (js : List ℕ) → b ≡ false → IsPushed table b s js js true
pushed_no table b s js e = subst (λ b. IsPushed table b s js js true) (sym e) (refl, refl)

pub pushed_none : {A : Type 0} (table : List A) (b : Bool) (s : Option A) (o : Option ℕ) (js : List ℕ) → b ≡ true → o ≡ None → MayBeAt table o s → IsPushed table b s js js false
pushed_none table b s o js e f m = subst (λ b. IsPushed table b s js js false) (sym e) (subst (λ p. MayBeAt table p s) f m)

pub pushed_some : {A : Type 0} (table : List A) (b : Bool) (s : Option A) (o : Option ℕ) (j : ℕ) (js ks : List ℕ) → b ≡ true → o ≡ Some j → MayBeAt table o s → ks ≡ js ++ j ∷ [] → IsPushed table b s js ks true
pushed_some {A} table b s o j js ks e f m n =
    let at : MayBeAt table (Some j) s = subst (λ p. MayBeAt table p s) f m in
    subst (λ b. IsPushed table b s js ks true) (sym e) (j, at.0, n, at.1, at.2)

-- ---- what a node is where it is applied

module _ (held : Held) where
  at_node : (what : Applied) (n : Node) (s : Static) (y : OpenStatic) → out-Static (static_of_node held n) ≡ y → IsAppliedOpen held what y → static_of_node held n ≡ s → IsApplied held what s
  at_node what n s y e h is = subst (λ t. IsAppliedOpen held what (out-Static t)) is (subst (IsAppliedOpen held what) (sym e) h)

  pub applied-Int : (n : ℤ) (s : Static) → static_of_node held (node.Int n) ≡ s → IsApplied held applied.Nothing s
  applied-Int n s is = at_node applied.Nothing (node.Int n) s (o.Literal (v.Int n)) (st.outs-Literal (v.Int n)) tt is

  pub applied-Str : (t : List ℕ) (s : Static) → static_of_node held (node.Str t) ≡ s → IsApplied held applied.Nothing s
  applied-Str t s is = at_node applied.Nothing (node.Str t) s (o.Literal (v.Str t)) (st.outs-Literal (v.Str t)) tt is

  pub applied-Bool : (b : Bool) (s : Static) → static_of_node held (node.Bool b) ≡ s → IsApplied held applied.Nothing s
  applied-Bool b s is = at_node applied.Nothing (node.Bool b) s (o.Literal (v.Bool b)) (st.outs-Literal (v.Bool b)) tt is

  pub applied-Record : (fs : _) (s : Static) → static_of_node held (node.Record fs) ≡ s → IsApplied held applied.Nothing s
  applied-Record fs s is = at_node applied.Nothing (node.Record fs) s (o.Record (map (field_of held.statics) fs)) (st.outs-Record (map (field_of held.statics) fs)) tt is

  pub applied-Function : (k : ℕ) (js ks : List ℕ) (s : Static) → NodeFits held (node.Function k js) → ks ≡ js → static_of_node held (node.Function k js) ≡ s → IsApplied held (applied.Function k ks) s
  applied-Function k js ks s fits e is =
      at_node (applied.Function k ks) (node.Function k js) s (o.Function k (map (con_at held.cons) js)) (st.outs-Function k (map (con_at held.cons) js))
      (refl, subst (λ l. AreAt held.cons l (map (con_at held.cons) js)) (sym e) (below_at (normal.Type unit) held.cons js fits)) is

  pub applied-Lambda : (Q : Static → Type 0) (l : ℕ) (js fs : List ℕ) (s : Static) → NodeFits held (node.Lambda l js fs) → static_of_node held (node.Lambda l js fs) ≡ s
      → ((w : Written) (cs : Cons) (ss : Statics) → IsAt held.lambdas l w → AreAt held.cons js cs → AreAt held.statics fs ss → Q (st.Lambda w.0 w.1 cs ss)) → Q s
  applied-Lambda Q l js fs s fits is go =
      let w = get_or held.lambdas l ([], x.Unit) in
      let at = slice_get-get_or held.lambdas l ([], x.Unit) fits.0 in
      subst Q (sym (ap (λ y. lambda_with y (map (con_at held.cons) js) (map (static_at held.statics) fs)) at) ∙ is)
      (go w (map (con_at held.cons) js) (map (static_at held.statics) fs) at (below_at (normal.Type unit) held.cons js fits.1) (below_at (static_record []) held.statics fs fits.2))

  -- a lambda with numbers of what its names stand for
  pub lambda_applied : (lambda : Lambda) (numbers : Numbers) (w : Written) (cs : Cons) (ss : Statics) → written lambda ≡ w → AreAt held.cons numbers.cons cs → AreAt held.statics numbers.fixed ss
      → IsApplied held (applied.Lambda lambda numbers) (st.Lambda w.0 w.1 cs ss)
  lambda_applied lambda numbers w cs ss e h g = subst (IsAppliedOpen held (applied.Lambda lambda numbers)) (sym (st.outs-Lambda w.0 w.1 cs ss)) (ap (λ y. y.0) e, ap (λ y. y.1) e, h, g)

  -- ---- what it says

  pub function_of : (k : ℕ) (js : List ℕ) (y : OpenStatic) → IsAppliedOpen held (applied.Function k js) y → (cs : Cons) × AreAt held.cons js cs × (out-Static (st.Function k cs) ≡ y)
  function_of k js (o.Function l cs) h = (cs, h.1, st.outs-Function k cs ∙ ap (λ n. o.Function n cs) h.0)
  function_of k js (o.Literal y) h = absurd h
  function_of k js (o.Lambda params body cs fs) h = absurd h
  function_of k js (o.Record fs) h = absurd h

  pub lambda_of : (lambda : Lambda) (numbers : Numbers) (y : OpenStatic) → IsAppliedOpen held (applied.Lambda lambda numbers) y
      → (cs : Cons) × (ss : Statics) × AreAt held.cons numbers.cons cs × AreAt held.statics numbers.fixed ss × (out-Static (st.Lambda lambda.params.now lambda.body.now cs ss) ≡ y)
  lambda_of lambda numbers (o.Lambda params body cs fs) h = (cs, fs, h.2, h.3, st.outs-Lambda lambda.params.now lambda.body.now cs fs ∙ ap₂ (λ p b. o.Lambda p b cs fs) h.0 h.1)
  lambda_of lambda numbers (o.Literal y) h = absurd h
  lambda_of lambda numbers (o.Function k cs) h = absurd h
  lambda_of lambda numbers (o.Record fs) h = absurd h

  pub nothing_applied : (p : Source) (scope : Scope) (args : List Exp) (y : OpenStatic) → IsAppliedOpen held applied.Nothing y → applied_form p scope args y ≡ no_form
  nothing_applied p scope args (o.Literal y) h = refl
  nothing_applied p scope args (o.Record fs) h = refl
  nothing_applied p scope args (o.Function k cs) h = absurd h
  nothing_applied p scope args (o.Lambda params body cs fs) h = absurd h

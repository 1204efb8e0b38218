-- What is applied.
use Rattle.std.specs.Prelude.{◌≡◌, ℕ, Bool, true, false, List, [], ◌∷◌, ◌++◌, Option, Some, None}
use Rattle.ur_tree.specs.declared.closed.Static.{Static, Static-F, out-Static}
use Rattle.ur_tree.specs.declared.closed.Static.TheOpen as st
use Rattle.ur_tree.specs.declared.closed.StaticField.{StaticField}
use Rattle.ur_tree.specs.declared.exp.Exp.{Exp}
use Rattle.ur_tree.specs.declared.exp.Param.{Param}
use Rattle.ur_source.specs.Items.{if_value}
use Rattle.ur_unfold_static.specs.Held.{Held}
use Rattle.ur_unfold_static.specs.Scopes.{IsAt, AreAt}
use Rattle.ur_unfold_table.specs.declared.calls.Applied.{Applied}
use Rattle.ur_unfold_table.specs.declared.calls.Applied.TheVariants as applied

abbrev pub IsAppliedOpen : Held → Applied → Static-F Static StaticField → Type 0
IsAppliedOpen held (applied.Function k js) (st.Function l cons) = (k ≡ l) × AreAt held.cons js cons
IsAppliedOpen held (applied.Lambda lambda scope) (st.Lambda params body cons fixed) =
    (lambda.params.now ≡ params) × (lambda.body.now ≡ body) × AreAt held.cons scope.cons cons × AreAt held.statics scope.fixed fixed
IsAppliedOpen held applied.Nothing (st.Literal x) = Unit {0}
IsAppliedOpen held applied.Nothing (st.Record fs) = Unit {0}
IsAppliedOpen held _ _ = ⊥

-- a function with closed constructors, a lambda with what its names stand for, or what cannot be applied
abbrev pub IsApplied : Held → Applied → Static → Type 0
IsApplied held what s = IsAppliedOpen held what (out-Static s)

-- numbers that may be there, for what may be there
abbrev pub AreMayBeAt : {A : Type 0} → List A → Option (List ℕ) → Option (List A) → Type 0
AreMayBeAt table None xs = xs ≡ None
AreMayBeAt {A} table (Some js) xs = (ys : List A) × AreAt table js ys × (xs ≡ Some ys)

-- the argument of a static parameter is added where it is static, and no other
abbrev pub IsPushed : {A : Type 0} → List A → Bool → Option A → List ℕ → List ℕ → Bool → Type 0
IsPushed table false s old new is = (is ≡ true) × (new ≡ old)
IsPushed {A} table true s old new true = (j : ℕ) × (y : A) × (new ≡ old ++ j ∷ []) × IsAt table j y × (s ≡ Some y)
IsPushed table true s old new false = (s ≡ None)

-- an argument that may be there, where its parameter is one for values
abbrev pub one_value : Param → Option Exp → List Exp
one_value q None = []
one_value q (Some e) = if_value q.fixed e []

-- Each column is there, and its value has its kind.
use Rattle.std.proofs.Common.{◌≡◌, ◌∙◌, ℕ, List, Option, Some, refl, sym, subst}
use Rattle.std.specs.Prelude.{IfSome, IsSome, slice_get}
use Rattle.ur_values.specs.declared.schema.ColumnKind.{ColumnKind}
use Rattle.ur_sql.specs.declared.scalar.Scalar.{Scalar}
use Rattle.ur_sql.specs.Typing.{Kinds, HasKind}
use Rattle.ur_verify.specs.Scope.{scope}
use Rattle.ur_verify.proofs.Loops.{all_step, all_end, all_not, never, not_so}
use Rattle.ur_verify.proofs.changes.sets_fit.Goals as goal

abbrev IsFitting : Kinds → List ColumnKind → ℕ × Scalar → Type 0
IsFitting ks columns set = IfSome (slice_get columns set.0) (HasKind ks set.1) × IsSome (slice_get columns set.0)

fitting : (ks : Kinds) (e : Scalar) (k : ColumnKind) (o : Option ColumnKind) → o ≡ Some k → HasKind ks e k → IfSome o (HasKind ks e) × IsSome o
fitting ks e k o is h = subst (λ z. IfSome z (HasKind ks e) × IsSome z) (sym is) (h, refl)

pub loop-set-preserved : goal.loop-set-preserved
loop-set-preserved c =
    all_step (IsFitting (scope c.args.params.now c.args.items.now) c.args.columns.now) c.args.sets.now c.loop-set.set-index c.set-item.result c.loop-set-test.true c.set-item.is
    (fitting (scope c.args.params.now c.args.items.now) c.set-item.result.1 c.in-Some.kind _ (sym c.kind_at.ensures ∙ c.in-Some.is) (c.has_kind.ensures.0 c.if-not-has_kind.false))
    c.loop-set.invariant

pub returns : goal.returns
returns c = ((λ e. all_end (IsFitting (scope c.args.params.now c.args.items.now) c.args.columns.now) c.args.sets.now c.loop-set.set-index c.loop-set-test.false c.loop-set.invariant), (λ a. refl))

given : (ks : Kinds) (e : Scalar) (k : ColumnKind) (o : Option ColumnKind) → o ≡ Some k → IfSome o (HasKind ks e) × IsSome o → HasKind ks e k
given ks e k o is f = (subst (λ z. IfSome z (HasKind ks e) × IsSome z) is f).0

pub returns-then-not-has_kind : goal.returns-then-not-has_kind
returns-then-not-has_kind c =
    never (λ a. all_not (IsFitting (scope c.args.params.now c.args.items.now) c.args.columns.now) c.args.sets.now c.loop-set.set-index c.set-item.result
    c.loop-set-test.true c.set-item.is
    (λ f. not_so _ c.has_kind.ensures c.if-not-has_kind.true
    (given (scope c.args.params.now c.args.items.now) c.set-item.result.1 c.in-Some.kind _ (sym c.kind_at.ensures ∙ c.in-Some.is) f)) a)

use Rattle.std.proofs.Common.{◌≡◌, ◌∙◌, ℕ, false, sym, ap, subst, take_all}
use Rattle.std.proofs.lemmas.List.Elements.{All-more}
use Rattle.ur_sqltype.specs.Expression.{is_optional}
use Rattle.ur_sqltype.specs.Table.{kind_at, HasNoOption}
use Rattle.ur_sqltype.proofs.keys.optional_place.Goals as goal

pub loop-place-preserved : goal.loop-place-preserved
loop-place-preserved c =
    All-more (λ (n : ℕ). is_optional (kind_at c.args.columns.now n) ≡ false) c.args.places.now c.loop-place.place-index _ c.loop-place-test.true
    c.loop-place.invariant
    (ap is_optional (sym c.kind_at.ensures) ∙ sym c.is_optional.ensures ∙ c.if-is_optional.false)

pub returns : goal.returns
returns c = subst (HasNoOption c.args.columns.now) (take_all c.loop-place.place-index c.args.places.now c.loop-place-test.false) c.loop-place.invariant

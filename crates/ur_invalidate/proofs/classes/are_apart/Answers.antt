-- Each constant is apart.
use Rattle.std.proofs.Common.{◌≡◌, ℕ, List, length, refl, subst, sym, ◌∙◌, true≢false, All}
use Rattle.std.proofs.lemmas.List.{take_all}
use Rattle.std.proofs.lemmas.List.Elements.{All-more, All-get_or}
use Rattle.ur_values.specs.declared.value.Value.{Value}
use Rattle.ur_congruence.specs.Terms.{HasTerm}
use Rattle.ur_invalidate.specs.Stages.{IsApart}
use Rattle.ur_invalidate.proofs.classes.are_apart.Goals as goal

pub is_apart-requires : goal.is_apart-requires
is_apart-requires c =
    subst (λ (x : Value × ℕ). HasTerm c.args.closure.now (x.1)) (sym c.constant-item.is)
    (All-get_or (λ (x : Value × ℕ). HasTerm c.args.closure.now (x.1)) c.args.constants.now c.loop-constant.constant-index c.constant-item.result
    c.loop-constant-test.true c.requires)

pub loop-constant-preserved : goal.loop-constant-preserved
loop-constant-preserved c =
    All-more (IsApart c.args.closure.now) c.args.constants.now c.loop-constant.constant-index c.constant-item.result c.loop-constant-test.true
    c.loop-constant.invariant
    (subst (IsApart c.args.closure.now) c.constant-item.is (c.is_apart.ensures.0 c.if-not-is_apart.false))

pub returns : goal.returns
returns c = (
  (λ e. subst (All (IsApart c.args.closure.now)) (take_all c.loop-constant.constant-index c.args.constants.now c.loop-constant-test.false)
      c.loop-constant.invariant),
  (λ a. refl),
)

pub returns-then-not-is_apart : goal.returns-then-not-is_apart
returns-then-not-is_apart c = (
  λ e. absurd (true≢false (sym e)),
  λ all. absurd (true≢false (sym (c.is_apart.ensures.1
      (subst (IsApart c.args.closure.now) (sym c.constant-item.is)
      (All-get_or (IsApart c.args.closure.now) c.args.constants.now c.loop-constant.constant-index c.constant-item.result c.loop-constant-test.true all)))
      ∙ c.if-not-is_apart.true)),
)

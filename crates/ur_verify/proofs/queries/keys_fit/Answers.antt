-- Each key has a kind.
use Rattle.std.proofs.Common.{refl}
use Rattle.ur_sql.specs.declared.query.OrderKey.{OrderKey}
use Rattle.ur_sql.specs.Typing.{HasSomeKind}
use Rattle.ur_verify.specs.Scope.{scope}
use Rattle.ur_verify.proofs.Loops.{all_step, all_end, all_not, never, not_so}
use Rattle.ur_verify.proofs.queries.keys_fit.Goals as goal

pub loop-key-preserved : goal.loop-key-preserved
loop-key-preserved c =
    all_step (λ (k : OrderKey). HasSomeKind (scope c.args.params.now c.args.items.now) k.by) c.args.keys.now c.loop-key.key-index c.key-item.result c.loop-key-test.true c.key-item.is
    (c.has_some_kind.ensures.0 c.if-not-has_some_kind.false) c.loop-key.invariant

pub returns : goal.returns
returns c = ((λ e. all_end (λ (k : OrderKey). HasSomeKind (scope c.args.params.now c.args.items.now) k.by) c.args.keys.now c.loop-key.key-index c.loop-key-test.false c.loop-key.invariant), (λ a. refl))

pub returns-then-not-has_some_kind : goal.returns-then-not-has_some_kind
returns-then-not-has_some_kind c =
    never (λ a. all_not (λ (k : OrderKey). HasSomeKind (scope c.args.params.now c.args.items.now) k.by) c.args.keys.now c.loop-key.key-index c.key-item.result c.loop-key-test.true c.key-item.is
    (λ h. not_so _ c.has_some_kind.ensures c.if-not-has_some_kind.true h) a)

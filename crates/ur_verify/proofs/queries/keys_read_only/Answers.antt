-- Each key reads only these columns.
use Rattle.std.proofs.Common.{refl}
use Rattle.ur_sql.specs.declared.query.OrderKey.{OrderKey}
use Rattle.ur_sql.specs.Typing.{ReadsOnly}
use Rattle.ur_verify.proofs.Loops.{all_step, all_end}
use Rattle.ur_verify.proofs.queries.keys_read_only.Goals as goal

pub loop-key-preserved : goal.loop-key-preserved
loop-key-preserved c =
    all_step (λ (k : OrderKey). ReadsOnly c.args.group.now k.by) c.args.keys.now c.loop-key.key-index c.key-item.result c.loop-key-test.true c.key-item.is
    (c.reads_only.ensures.0 c.if-not-reads_only.false) c.loop-key.invariant

pub returns : goal.returns
returns c = ((λ e. all_end (λ (k : OrderKey). ReadsOnly c.args.group.now k.by) c.args.keys.now c.loop-key.key-index c.loop-key-test.false c.loop-key.invariant), (λ a. refl))

use Rattle.std.proofs.Common.{◌<◌, length, set, ap, ◌∙◌, arith}
use Rattle.std.proofs.lemmas.List.Edits.{map_over_more}
use Rattle.ur_keeper.specs.Sequences.{rolled_back_sequence}
use Rattle.ur_keeper.proofs.held.roll_back_sequences.Goals as goal

pub loop-i-preserved : goal.loop-i-preserved
loop-i-preserved c =
    let within : c.loop-i.i < length c.args.sequences.now.items = omega (arith, c.args.sequences.now.ok.0) in
    ap (set c.loop-i.sequences.items c.loop-i.i) c.rollback.ensures
    ∙ map_over_more rolled_back_sequence c.args.sequences.now.items c.loop-i.sequences.items c.loop-i.i c.index_mut.result.now within c.loop-i.invariant c.index_mut.ensures.value

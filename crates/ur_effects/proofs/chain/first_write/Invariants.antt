use Rattle.std.proofs.Common.{All, take}
use Rattle.ur_effects.specs.Acts.{IsCall}
use Rattle.ur_effects.proofs.chain.first_write.Given as goal

abbrev pub invariant-loop-act : goal.invariant-loop-act
invariant-loop-act l = All IsCall (take l.act-index l.acts)

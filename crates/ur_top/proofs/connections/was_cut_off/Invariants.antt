use Rattle.std.proofs.Common.{take, All}
use Rattle.ur_headline.specs.Counting.{IsCutOff}
use Rattle.ur_io.specs.declared.session.SessionEnd.{SessionEnd}
use Rattle.ur_top.proofs.connections.was_cut_off.Given as goal

abbrev pub invariant-loop-session : goal.invariant-loop-session
invariant-loop-session l = All (λ (s : SessionEnd). IsCutOff s → ⊥) (take l.session-index l.sessions)

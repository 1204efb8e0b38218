use Rattle.std.proofs.Common.{ap, subst}
use Rattle.std.specs.Option.{option_copied}
use Rattle.ur_check_scopes.specs.Views.{mode_of}
use Rattle.ur_check_walk.specs.Leading.{FirstLeads}
use Rattle.ur_check_walk.proofs.Leading.{down-more}
use Rattle.ur_check_walk.proofs.begun.descended.Goals as goal

pub loop-turn-init : goal.loop-turn-init
loop-turn-init c = λ a st su x m l. l

pub loop-turn-preserved : goal.loop-turn-preserved
loop-turn-preserved c =
    down-more c.args.begun.now c.loop-turn.begun c.kept.new.begun c.args.from c.loop-turn.next c.in-Some.first c.in_ok-kept-in-Some.ensures.0 (mode_of (option_copied c.as_ref.result)) c.in-Some.way (ap mode_of c.as_ref.ensures.value)
    (subst (FirstLeads c.loop-turn.next.e.now.form (mode_of (option_copied c.as_ref.result))) c.in-Some.is c.in_ok-part.ensures) c.in_ok-kept-in-Some.ensures.1 c.loop-turn.invariant

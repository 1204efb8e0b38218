use Rattle.std.proofs.Common.{[], sym, ap, ◌∙◌}
use Rattle.ur_terms.specs.Run.{outcome_of}
use Rattle.ur_machine_frames.specs.Plays.{until, held, no_store}
use Rattle.bench.proofs.runs.call.Goals as goal

pub run_call-pause-requires : goal.run_call-pause-requires
run_call-pause-requires c = λ stuck.
    c.requires (held [] [] no_store [] 4294967295) (ap (λ l. outcome_of until c.args.functions.now 0 c.args.args (held l [] no_store [] 4294967295)) (sym c.new-carried.ensures) ∙ stuck)

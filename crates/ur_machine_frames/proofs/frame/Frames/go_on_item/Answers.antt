use Rattle.std.proofs.Common.{refl, sym, ap, ◌∙◌}
use Rattle.std.specs.Option.{option_copied}
use Rattle.ur_terms.specs.Run.{outcome_of}
use Rattle.ur_machine_frames.specs.declared.frame.Frame.TheVariants as frame
use Rattle.ur_machine_frames.specs.Plays.{until}
use Rattle.ur_machine_frames.specs.Steps.{going}
use Rattle.ur_machine_frames.proofs.Leading.{not_stuck}
use Rattle.ur_machine_frames.proofs.Views.{stuck_item}
use Rattle.ur_machine_frames.proofs.Giving.{resumes_known, resumes_safe}
use Rattle.ur_machine_frames.proofs.frame.Frames.go_on_item.Goals as goal

pub unreachable-requires : goal.unreachable-requires
unreachable-requires g c = resumes_known c.args.functions.now c.args.self.now (frame.Item c.args.done c.args.rest) c.args.value (λ other x s. refl) (sym c.requires.stands ∙ ap (λ o. option_copied o) c.in-None.is) c.requires.safe

pub unreachable-requires-in_default : goal.unreachable-requires-in_default
unreachable-requires-in_default g c = not_stuck c.args.functions.now c.args.self.now (going c.args.functions.now (frame.Item c.args.done c.args.rest) c.in-Some.place.now c.args.value)
    (resumes_safe c.args.functions.now c.args.self.now (frame.Item c.args.done c.args.rest) c.in-Some.place.now c.args.value (λ other x s. refl) (sym c.requires.stands ∙ ap (λ o. option_copied o) c.in-Some.is) c.requires.safe)
    (stuck_item until (outcome_of until c.args.functions.now) c.in-Some.place.now c.args.done c.args.rest c.args.self.now.values c.args.value _ c.in_default.not-Each)

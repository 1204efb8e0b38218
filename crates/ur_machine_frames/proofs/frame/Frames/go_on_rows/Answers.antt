use Rattle.std.proofs.Common.{refl, sym, ap, ◌∙◌}
use Rattle.std.specs.Option.{option_copied}
use Rattle.ur_machine_frames.specs.declared.frame.Frame.TheVariants as frame
use Rattle.ur_machine_frames.proofs.Giving.{resumes_known}
use Rattle.ur_machine_frames.proofs.frame.Frames.go_on_rows.Goals as goal

pub unreachable-requires : goal.unreachable-requires
unreachable-requires g c = resumes_known c.args.functions.now c.args.self.now frame.Rows c.args.value (λ other x s. refl) (sym c.requires.stands ∙ ap (λ o. option_copied o) c.in-None.is) c.requires.safe

use Rattle.std.proofs.Common.{ap, sym, ◌∙◌}
use Rattle.std.specs.Ordering.{is_gt}
use Rattle.ur_machine_frames.specs.Plays.{nothing}
use Rattle.ur_terms.specs.declared.term.Op.TheVariants as op
use Rattle.ur_terms.specs.Ops.{does}
use Rattle.ur_terms.specs.State.{Done}
use Rattle.ur_values.specs.declared.value.Value.TheVariants as v
use Rattle.ur_machine_operations.proofs.comparing.greater.Goals as goal

pub two-a-requires : goal.two-a-requires
two-a-requires c = (_, c.requires.1)

pub returns : goal.returns
returns c = λ s. ap (λ l. does nothing op.Greater l s) c.two-a.ensures ∙ ap (λ b. Done (v.Bool (b)) s) (sym (c.is_gt.ensures ∙ ap is_gt c.compare_values.ensures))

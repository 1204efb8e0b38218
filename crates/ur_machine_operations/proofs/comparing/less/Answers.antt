use Rattle.std.proofs.Common.{ap, sym, ◌∙◌}
use Rattle.ur_machine_frames.specs.Plays.{nothing}
use Rattle.ur_terms.specs.declared.term.Op.TheVariants as op
use Rattle.ur_terms.specs.Ops.{does}
use Rattle.ur_terms.specs.State.{Done}
use Rattle.ur_values.specs.declared.value.Value.TheVariants as v
use Rattle.ur_machine_operations.proofs.comparing.less.Goals as goal

pub two-a-requires : goal.two-a-requires
two-a-requires c = (_, c.requires.1)

pub returns : goal.returns
returns c = λ s. ap (λ l. does nothing op.Less l s) c.two-a.ensures ∙ ap (λ b. Done (v.Bool (b)) s) (sym c.is_less.ensures)

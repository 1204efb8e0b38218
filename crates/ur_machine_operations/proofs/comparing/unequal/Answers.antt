use Rattle.std.proofs.Common.{not, ap, sym, ◌∙◌}
use Rattle.std.specs.Ordering.{is_eq}
use Rattle.ur_machine_frames.specs.Plays.{nothing}
use Rattle.ur_terms.specs.declared.term.Op.TheVariants as op
use Rattle.ur_terms.specs.Ops.{does}
use Rattle.ur_terms.specs.State.{Done}
use Rattle.ur_values.specs.declared.value.Value.TheVariants as v
use Rattle.ur_machine_operations.proofs.comparing.unequal.Goals as goal

pub two-a-requires : goal.two-a-requires
two-a-requires c = (_, c.requires.1)

pub returns : goal.returns
returns c = λ s. ap (λ l. does nothing op.Unequal l s) c.two-a.ensures ∙ ap (λ b. Done (v.Bool (not b)) s) (sym (c.is_eq.ensures ∙ ap is_eq c.compare_values.ensures))

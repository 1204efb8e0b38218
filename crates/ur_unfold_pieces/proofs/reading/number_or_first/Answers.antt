use Rattle.std.proofs.Common.{sym, ap, ◌∙◌}
use Rattle.std.specs.Prelude.{unwrap_or}
use Rattle.ur_rows.specs.declared.normal.Label.TheVariants as label
use Rattle.ur_unfold_pieces.specs.Reading.{numbered}
use Rattle.ur_unfold_pieces.proofs.Labels.{or_first}
use Rattle.ur_unfold_pieces.proofs.reading.number_or_first.Goals as goal

pub returns-in-Some : goal.returns-in-Some
returns-in-Some c = sym (or_first c.args.names.now c.args.label.now c.as_slice.result.now _ (c.in-Literal.is ∙ ap label.Literal (sym c.as_slice.ensures)) c.in_ok-number-in-Literal.ensures ∙ ap (λ m. unwrap_or m (numbered 0)) c.in-Some.is)

pub returns-in-None : goal.returns-in-None
returns-in-None c = sym (or_first c.args.names.now c.args.label.now c.as_slice.result.now _ (c.in-Literal.is ∙ ap label.Literal (sym c.as_slice.ensures)) c.in_ok-number-in-Literal.ensures ∙ ap (λ m. unwrap_or m (numbered 0)) c.in-None.is)

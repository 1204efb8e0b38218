use Rattle.std.proofs.Common.{sym, ap, ◌∙◌}
use Rattle.ur_rows.specs.declared.normal.Label.{Label}
use Rattle.ur_rows.specs.declared.normal.Label.TheVariants as label
use Rattle.ur_rows.specs.declared.normal.Normal.TheVariants as normal
use Rattle.ur_rows.specs.Put.{as_label, instance}
use Rattle.ur_source.specs.Items.{text_of}
use Rattle.ur_unfold_static.specs.Scopes.{cons_of}
use Rattle.ur_unfold_pieces.proofs.Labels.{label-Free}
use Rattle.ur_unfold_pieces.proofs.constructors.closed_label.Goals as goal

pub returns-in-Free : goal.returns-in-Free
returns-in-Free c = c.name_at.ensures ∙ sym (ap (λ (l : Label). text_of (as_label (instance (cons_of c.args.closing.now c.args.scope.now) (normal.Name l)))) (c.in-Variable.is ∙ ap label.Variable c.in-Free.is) ∙ label-Free (cons_of c.args.closing.now c.args.scope.now) c.in-Free.n)

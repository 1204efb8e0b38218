use Rattle.std.proofs.Common.{Some, sym, ap, ◌∙◌}
use Rattle.std.specs.Option.{option_copied}
use Rattle.ur_rows.specs.declared.normal.Normal.TheVariants as normal
use Rattle.ur_rows.specs.Put.{as_label, instance}
use Rattle.ur_source.specs.Reading.{Cons}
use Rattle.ur_source.specs.Items.{text_of}
use Rattle.ur_unfold_pieces.proofs.Scoped.{scope_cons}
use Rattle.ur_unfold_pieces.proofs.pieces_reading.text_in.Goals as goal

pub returns-in-None-closed_label : goal.returns-in-None-closed_label
returns-in-None-closed_label c = λ around at.
    sym (ap option_copied c.in-None-closed_label.is) ∙ c.closed_label.ensures ∙ ap (λ (cs : Cons). text_of (as_label (instance cs (normal.Name c.args.label.now))))
    (scope_cons c.args.table.now c.args.scope around c.in-Some.within.now (sym c.get.ensures.value ∙ ap option_copied c.in-Some.is) at)

pub returns-in_ok-text-in-Some-closed_label : goal.returns-in_ok-text-in-Some-closed_label
returns-in_ok-text-in-Some-closed_label c = λ around at.
    ap Some c.in_ok-text-in-Some-closed_label.ensures ∙ sym (ap option_copied c.in-Some-closed_label.is) ∙ c.closed_label.ensures ∙ ap (λ (cs : Cons). text_of (as_label (instance cs (normal.Name c.args.label.now))))
    (scope_cons c.args.table.now c.args.scope around c.in-Some.within.now (sym c.get.ensures.value ∙ ap option_copied c.in-Some.is) at)

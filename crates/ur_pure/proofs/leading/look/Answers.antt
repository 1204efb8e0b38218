use Rattle.std.proofs.Common.{◌≡◌, List, Bool, Some, false, true, sym, ap, ap₂, ◌∙◌, rules}
use Rattle.ur_pure.specs.declared.act.Act.{Act}
use Rattle.ur_pure.specs.Spread.{due}
use Rattle.ur_pure.proofs.Marking.{look_idle, look_marks}
use Rattle.ur_pure.proofs.leading.look.Goals as goal

pub returns-then-not-is_due : goal.returns-then-not-is_due
returns-then-not-is_due c =
    let off : c.is_due.result ≡ false = search rules in
    look_idle c.args.all.now c.args.asks c.args.place c.args.marks.now c.acts_at.result.now c.acts_at.ensures
    (ap₂ (λ (marks : List Bool) (acts : List Act). due c.args.asks marks acts) (sym c.as_slice-2.ensures) (sym c.as_slice.ensures) ∙ sym c.is_due.ensures ∙ off)

pub returns : goal.returns
returns c =
    let off : c.mark_at.result ≡ false = search rules in
    let on : c.is_due.result ≡ true = search rules in
    look_marks c.args.all.now c.args.asks c.args.place c.args.marks.now c.set.new.self c.acts_at.result.now (c.mark_at.ensures ∙ ap Some off) c.acts_at.ensures
    (ap₂ (λ (marks : List Bool) (acts : List Act). due c.args.asks marks acts) (sym c.as_slice-2.ensures) (sym c.as_slice.ensures) ∙ sym c.is_due.ensures
    ∙ on) c.set.ensures

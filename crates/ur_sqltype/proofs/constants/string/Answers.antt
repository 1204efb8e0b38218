use Rattle.std.proofs.Common.{◌∙◌, ap, sym}
use Rattle.std.specs.Str.{is_utf8}
use Rattle.ur_sqltype.proofs.Leaves.{string-kinded, string-fault}
use Rattle.ur_sqltype.proofs.constants.string.Goals as goal

pub returns-then-is_text-clause-kinded : goal.returns-then-is_text-clause-kinded
returns-then-is_text-clause-kinded c =
    string-kinded c.args.within.now c.args.text.now c.in_ok-copy.copy c.in_ok-made.made (sym (ap is_utf8 c.as_slice.ensures) ∙ sym c.is_text.ensures ∙ c.if-is_text.true) (c.in_ok-copy.ensures ∙ c.as_slice-then-is_text.ensures) c.in_ok-made.ensures

pub returns-clause-refused : goal.returns-clause-refused
returns-clause-refused c = string-fault c.args.within.now c.args.text.now c.in_ok-misfit.field-0 (sym (ap is_utf8 c.as_slice.ensures) ∙ sym c.is_text.ensures ∙ c.if-is_text.false) c.in_ok-misfit.ensures

use Rattle.std.proofs.Common.{◌∙◌, ap, sym}
use Rattle.ur_check_forms.proofs.Marking.{element-made}
use Rattle.ur_check_forms.specs.Views.{records_in}
use Rattle.ur_typed.specs.Markups.{one_mark}
use Rattle.ur_check_walk.proofs.markup.element_mark.Goals as goal

pub returns : goal.returns
returns c = λ st. ap (λ z. one_mark c.args.inner.row (records_in c.args.inner.waiting) z st) (sym (element-made c.args.word c.args.inner.marks)) ∙ c.in_ok-made.ensures st

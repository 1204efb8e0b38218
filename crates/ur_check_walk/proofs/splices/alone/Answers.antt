use Rattle.std.proofs.Common.{◌∙◌, ap, sym}
use Rattle.ur_check_forms.specs.Views.{records_in}
use Rattle.ur_typed.specs.Markups.{one_mark}
use Rattle.ur_check_walk.proofs.splices.alone.Goals as goal

pub returns : goal.returns
returns c = λ st. ap (λ z. one_mark c.args.row (records_in z) c.args.mark st) (sym c.new-waiting.ensures) ∙ c.in_ok-made.ensures st

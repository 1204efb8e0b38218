use Rattle.std.proofs.Common.{ap, sym, ◌∙◌, []}
use Rattle.ur_rows.specs.Kinded.{label_is_in}
use Rattle.ur_check_walk.proofs.fields.is_label.Goals as goal

pub returns : goal.returns
returns c = λ w s st. c.label_is_in.ensures 0 ∙ ap (λ z. label_is_in (record { free = z; bound = [] }) c.args.label.now) (sym st.kinds)

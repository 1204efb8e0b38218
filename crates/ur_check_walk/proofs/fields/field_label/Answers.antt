use Rattle.ur_check_walk.proofs.Records.{stray-told}
use Rattle.ur_check_walk.proofs.fields.field_label.Goals as goal

pub returns-clause-refused : goal.returns-clause-refused
returns-clause-refused c =
    stray-told c.args.around.now c.args.name.now c.in_ok-label.label c.is_label.result c.unkinded.result c.if-is_label.false c.is_label.ensures (λ w s st. c.in_ok-label.ensures s.names.cons st.cons) c.unkinded.ensures

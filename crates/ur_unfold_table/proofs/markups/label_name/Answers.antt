use Rattle.std.proofs.Common.{◌≡◌}
use Rattle.ur_source.specs.Items.{label_name}
use Rattle.ur_unfold_table.proofs.Forming.{not_given}
use Rattle.ur_unfold_table.proofs.markups.label_name.Goals as goal

pub returns-in_err-name_in : goal.returns-in_err-name_in
returns-in_err-name_in c = λ around at.
    not_given (λ n. n ≡ label_name c.args.table.now.typed.now.names around.cons c.args.label.now) c.from_residual.result c.in_err-name_in.field-0.0 c.from_residual.ensures.1 (c.in_err-name_in.ensures around at)

pub returns-in_err-text_in-in-Some : goal.returns-in_err-text_in-in-Some
returns-in_err-text_in-in-Some c = λ around at.
    not_given (λ n. n ≡ label_name c.args.table.now.typed.now.names around.cons c.args.label.now) c.from_residual-in_err-text_in-in-Some.result c.in_err-text_in-in-Some.field-0.0 c.from_residual-in_err-text_in-in-Some.ensures.1
    (c.in_err-text_in-in-Some.ensures around at)

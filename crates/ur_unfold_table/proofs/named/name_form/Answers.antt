use Rattle.std.proofs.Common.{sym, ap, ◌∙◌}
use Rattle.std.specs.Option.{option_copied}
use Rattle.ur_unfold_table.proofs.Naming.{name_opens}
use Rattle.ur_unfold_table.proofs.named.name_form.Goals as goal

pub returns-in-None-clause-form : goal.returns-in-None-clause-form
returns-in-None-clause-form c = λ is. name_opens c.args.table.now c.static_form.new.table c.args.scope c.args.e.now c.args.k c.args.cons.now c.static_form.result is c.static_form.ensures.form

pub returns-then-not-is_empty-clause-form : goal.returns-then-not-is_empty-clause-form
returns-then-not-is_empty-clause-form c = λ is.
    name_opens c.args.table.now c.static_form-then-not-is_empty.new.table c.args.scope c.args.e.now c.args.k c.args.cons.now c.static_form-then-not-is_empty.result is c.static_form-then-not-is_empty.ensures.form

pub returns-else-not-is_empty-clause-form : goal.returns-else-not-is_empty-clause-form
returns-else-not-is_empty-clause-form c = λ is.
    c.constant_name.ensures.form c.in-Some.function.now (sym c.get.ensures.value ∙ ap option_copied c.in-Some.is) (c.is_empty.ensures.0 c.if-not-is_empty.false) is

use Rattle.std.proofs.Common.{ap, ap₂, sym, subst, ◌∙◌}
use Rattle.ur_syntax.specs.declared.exp.ExpForm.TheVariants as e
use Rattle.ur_typed.specs.Faults.{BreaksNamed}
use Rattle.ur_check_scopes.specs.Views.{StopTells}
use Rattle.ur_check_walk.proofs.Passing.{nothing-named}
use Rattle.ur_check_walk.proofs.instances.no_name.Goals as goal

pub returns-in-Var : goal.returns-in-Var
returns-in-Var c = λ given w s st. subst (λ z. StopTells c.args.around.now.world.now.datatype_names (BreaksNamed w s z) c.no_value.result) (sym (c.in-Var.is ∙ ap e.Var (sym c.as_slice-own.ensures))) (c.no_value.ensures w s st)

pub returns-in-Member : goal.returns-in-Member
returns-in-Member c = λ given w s st. subst (λ z. StopTells c.args.around.now.world.now.datatype_names (BreaksNamed w s z) c.undeclared.result) (sym (c.in-Member.is ∙ ap₂ e.Member (sym c.as_slice-home.ensures) (sym c.as_slice-name.ensures))) (c.undeclared.ensures w s st tt)

pub returns-in_default : goal.returns-in_default
returns-in_default c = nothing-named c.args.around.now c.args.e.now.form c.not_named.result c.in_default.not-Var c.in_default.not-Member c.not_named.ensures

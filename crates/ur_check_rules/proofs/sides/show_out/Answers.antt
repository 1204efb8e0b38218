use Rattle.std.proofs.Common.{sym, ◌∙◌}
use Rattle.ur_check_rules.proofs.Sided.{shown-made, shown-told}
use Rattle.ur_check_rules.proofs.sides.show_out.Goals as goal

pub returns-then-is_basic-clause-shown : goal.returns-then-is_basic-clause-shown
returns-then-is_basic-clause-shown c = shown-made c.args.out c.in_ok-made.made (sym c.is_basic.ensures ∙ c.if-is_basic.true) c.in_ok-made.ensures

pub returns-clause-refused : goal.returns-clause-refused
returns-clause-refused c = shown-told c.args.around.now.world.now.datatype_names c.args.out c.not_basic.result (sym c.is_basic.ensures ∙ c.if-is_basic.false) c.not_basic.ensures

use Rattle.std.proofs.Common.{sym, ◌∙◌}
use Rattle.ur_tree.specs.Typing.{are_static_at}
use Rattle.ur_check_rules.specs.Views.{args_with}
use Rattle.ur_check_rules.proofs.Params.{static-told}
use Rattle.ur_check_rules.proofs.calls.are_static.Goals as goal

pub returns-clause-refused : goal.returns-clause-refused
returns-clause-refused c = static-told (are_static_at c.args.params.now (args_with c.args.args.now).1) c.not_so.result (sym c.are_static_at.ensures ∙ c.if-are_static_at.false) c.not_so.ensures

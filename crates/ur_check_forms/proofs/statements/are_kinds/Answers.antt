use Rattle.std.proofs.Common.{sym, ◌∙◌}
use Rattle.ur_check_forms.proofs.Stating.{other-told}
use Rattle.ur_check_forms.proofs.statements.are_kinds.Goals as goal

pub returns-then-not-is_kind-clause-refused : goal.returns-then-not-is_kind-clause-refused
returns-then-not-is_kind-clause-refused c =
    other-told c.args.names.now c.args.types.now c.loop-i.i c.index-types-i.result c.no_kind.result c.loop-i-test.true c.index-types-i.is (sym c.is_kind.ensures ∙ c.if-not-is_kind.true) c.no_kind.ensures

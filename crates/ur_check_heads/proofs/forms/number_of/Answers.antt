use Rattle.std.proofs.Common.{sym, ◌∙◌}
use Rattle.ur_check_heads.proofs.Forming.{at-place, named-so}
use Rattle.ur_check_heads.proofs.forms.number_of.Goals as goal

pub returns-then-is_named : goal.returns-then-is_named
returns-then-is_named c = at-place c.args.names.now c.loop-i.i c.in_ok-at.at c.index-names-i.result c.args.name.now c.loop-i-test.true c.index-names-i.is c.in_ok-at.ensures (named-so c.is_named.result c.index-names-i.result c.args.name.now c.is_named.ensures c.if-is_named.true)

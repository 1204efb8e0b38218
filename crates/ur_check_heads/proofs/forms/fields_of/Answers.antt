use Rattle.ur_check_heads.proofs.Forming.{all-none, fields-past, fields-end}
use Rattle.ur_check_heads.specs.Forms.{HasName}
use Rattle.ur_check_heads.proofs.forms.fields_of.Goals as goal

pub loop-i-preserved : goal.loop-i-preserved
loop-i-preserved c = fields-past c.args.names.now c.args.row.now c.loop-i.form _ c.loop-i.i c.index-row-i.result c.in_ok-field.field c.in_ok-push.ensures.ok c.loop-i-test.true c.index-row-i.is c.in_ok-field.ensures.named c.in_ok-field.ensures.part c.loop-i.invariant

pub returns-clause-named : goal.returns-clause-named
returns-clause-named c = c.loop-i.invariant.0

pub returns-clause-parts : goal.returns-clause-parts
returns-clause-parts c = fields-end c.args.names.now c.args.row.now c.loop-i.form c.loop-i.i c.loop-i-test.false c.loop-i.invariant

use Rattle.ur_check_forms.proofs.Stating.{asked}
use Rattle.ur_check_forms.proofs.statements.query_at.Goals as goal

pub returns-clause-asked : goal.returns-clause-asked
returns-clause-asked c = asked c.args.around.now c.args.query.now c.args.antiquotes.now c.args.at c.in_ok-typed.typed.core c.in_ok-typed.typed.row _ _ c.in_ok-typed.ensures.typed c.in_ok-keep_query.ensures

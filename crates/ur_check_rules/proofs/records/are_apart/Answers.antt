use Rattle.ur_check_scopes.specs.Views.{env_in}
use Rattle.ur_check_rules.specs.Written.{written_names}
use Rattle.ur_check_rules.proofs.Recorded.{told-again}
use Rattle.ur_check_rules.proofs.records.are_apart.Goals as goal

pub returns-in-Err-clause-refused : goal.returns-in-Err-clause-refused
returns-in-Err-clause-refused c =
    let names = c.args.around.now.world.now.datatype_names in
    let known = (env_in c.args.around.now.scope.cons).known in
    told-again names known (written_names c.args.written.now) c.args.row.now c.in-Err.stop c.not_all_apart.result c.in-Err.ensures.refused (c.not_all_apart.ensures names known c.args.row.now)

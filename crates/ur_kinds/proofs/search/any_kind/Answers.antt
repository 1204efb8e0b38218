use Rattle.ur_syntax.specs.HasKind.{scope_in}
use Rattle.ur_kinds.proofs.Searching.{any-kinded, any-refused}
use Rattle.ur_kinds.proofs.search.any_kind.Goals as goal

pub returns-in-Err-clause-kinded : goal.returns-in-Err-clause-kinded
returns-in-Err-clause-kinded c = any-kinded (scope_in c.args.env.now) c.args.con.now.span c.args.con.now.form c.in-Err.stop c.but_names.result c.but_names.ensures c.in-Err.ensures.refused

pub returns-in-Err-clause-refused : goal.returns-in-Err-clause-refused
returns-in-Err-clause-refused c = any-refused (scope_in c.args.env.now) c.args.con.now.span c.args.con.now.form c.in-Err.stop c.but_names.result c.but_names.ensures c.in-Err.ensures.refused

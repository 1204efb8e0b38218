use Rattle.ur_rows_reduce.specs.Arguments.{args_of}
use Rattle.ur_rows_normal.specs.Walk.{key_of}
use Rattle.ur_rows_normal.proofs.Naming.{named-found, named-none}
use Rattle.ur_rows_normal.proofs.words.named.Goals as goal

pub returns-in_ok-form-in-Some : goal.returns-in_ok-form-in-Some
returns-in_ok-form-in-Some c = named-found c.applied.result c.args.scope.now (key_of c.args.key.now) c.args.x.now (args_of c.args.args.now) c.in-Some.found.depth c.saturating_sub.result c.in-Some.found.held.now c.in_ok-form-in-Some.form c.in-Some.ensures c.saturating_sub.ensures c.in_ok-form-in-Some.ensures c.applied.ensures

pub returns-in-None : goal.returns-in-None
returns-in-None c = named-none c.word_with.result c.args.scope.now (key_of c.args.key.now) c.args.x.now (args_of c.args.args.now) c.in-None.ensures c.word_with.ensures

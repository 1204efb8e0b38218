-- The refusals of the files that are told.
use Rattle.std.proofs.Common.{Err}
use Rattle.ur_compile.proofs.Refusing.{code_named, end_refused, told_refused}
use Rattle.ur_compile.proofs.compiling.compile.Goals as goal

pub returns-in-Ok-clause-refused : goal.returns-in-Ok-clause-refused
returns-in-Ok-clause-refused g c =
    told_refused (g.S.Shelf.told c.args.shelf.now) c.args.project.now c.in-Ok.loaded c.of_loaded.result c.in-Ok.ensures.loaded c.of_loaded.ensures.refused

pub returns-in-Err-clause-refused : goal.returns-in-Err-clause-refused
returns-in-Err-clause-refused g c =
    end_refused (g.S.Shelf.told c.args.shelf.now) c.args.project.now c.in-Err.end c.from.result c.from.ensures c.refused_is_not_loaded.ensures c.in-Err.ensures.refused

pub returns-in-Ok-clause-named : goal.returns-in-Ok-clause-named
returns-in-Ok-clause-named g c = code_named c.of_loaded.result

pub returns-in-Err-clause-named : goal.returns-in-Err-clause-named
returns-in-Err-clause-named g c = code_named {A = Unit {0}} (Err c.from.result)

use Rattle.ur_rows_reduce.proofs.Holding.{union-right, union-left, union-larges}
use Rattle.ur_rows_reduce.proofs.held.union.Goals as goal

pub returns-in_ok-both-in-Large-right : goal.returns-in_ok-both-in-Large-right
returns-in_ok-both-in-Large-right c = union-right c.args.left c.args.right c.in-Small.r c.in-Small.a c.in-Large-right.o c.in_ok-outline-in-Large-right.field-0 c.in_ok-both-in-Large-right.field-0 c.in-Small.is c.in-Large-right.is c.in_ok-outline-in-Large-right.ensures c.in_ok-both-in-Large-right.ensures

pub returns-in_ok-both-in-Small-right-2 : goal.returns-in_ok-both-in-Small-right-2
returns-in_ok-both-in-Small-right-2 c = union-left c.args.left c.args.right c.in-Small-right-2.s c.in-Small-right-2.field-1 c.in-Large.o c.in_ok-outline-in-Small-right-2.field-0 c.in_ok-both-in-Small-right-2.field-0 c.in-Large.is c.in-Small-right-2.is c.in_ok-outline-in-Small-right-2.ensures c.in_ok-both-in-Small-right-2.ensures

pub returns-in_ok-both-in-Large-right-2 : goal.returns-in_ok-both-in-Large-right-2
returns-in_ok-both-in-Large-right-2 c = union-larges c.args.left c.args.right c.in-Large.o c.in-Large-right-2.p c.in_ok-both-in-Large-right-2.field-0 c.in-Large.is c.in-Large-right-2.is c.in_ok-both-in-Large-right-2.ensures

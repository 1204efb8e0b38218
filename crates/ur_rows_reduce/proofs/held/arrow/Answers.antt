use Rattle.std.proofs.Common.{subst, ◌<◌}
use Rattle.ur_rows.specs.Nodes.{type_nodes, most_nodes}
use Rattle.ur_rows_reduce.proofs.Holding.{arrow-is, arrow-small}
use Rattle.ur_rows_reduce.proofs.held.arrow.Goals as goal

pub returns-in-Some-left_of_type : goal.returns-in-Some-left_of_type
returns-in-Some-left_of_type c = λ s t h k. arrow-small _ _ c.in-Some-left_of_type.field-0 c.in_ok-type_height-in-Some-b.field-0 (arrow-is c.args.a c.args.b c.in-Some.s c.in-Some-b.t c.in_ok-s-in-Some-b.s c.in_ok-t-in-Some-b.t s t c.in-Some.is c.in-Some-b.is c.in_ok-s-in-Some-b.ensures c.in_ok-t-in-Some-b.ensures h k) c.in-Some-left_of_type.ensures c.in_ok-type_height-in-Some-b.ensures

pub returns-in-None-left_of_type : goal.returns-in-None-left_of_type
returns-in-None-left_of_type c = λ s t h k. subst (λ z. most_nodes < type_nodes z) (arrow-is c.args.a c.args.b c.in-Some.s c.in-Some-b.t c.in_ok-s-in-Some-b.s c.in_ok-t-in-Some-b.t s t c.in-Some.is c.in-Some-b.is c.in_ok-s-in-Some-b.ensures c.in_ok-t-in-Some-b.ensures h k) c.in-None-left_of_type.ensures

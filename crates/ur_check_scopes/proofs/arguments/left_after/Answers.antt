use Rattle.std.proofs.Common.{subst}
use Rattle.ur_rows.specs.Nodes.{type_nodes}
use Rattle.ur_check_scopes.specs.Arguments.{IsLeft}
use Rattle.ur_check_scopes.proofs.Nodes.{left-none, left-more, left-after}
use Rattle.ur_check_scopes.proofs.arguments.left_after.Goals as goal

pub returns-in-Some-left_of_type : goal.returns-in-Some-left_of_type
returns-in-Some-left_of_type c = λ used h. left-after used c.in-Some.nodes (type_nodes c.args.of.now) c.in-Some-left_of_type.rest c.checked_sub.result (subst (IsLeft used) c.in-Some.is h) c.in-Some-left_of_type.ensures c.checked_sub.ensures

pub returns-in-None-left_of_type : goal.returns-in-None-left_of_type
returns-in-None-left_of_type c = λ used h. left-none used c.in-Some.nodes (type_nodes c.args.of.now) (subst (IsLeft used) c.in-Some.is h) c.in-None-left_of_type.ensures

pub returns-in-None : goal.returns-in-None
returns-in-None c = λ used h. left-more used (type_nodes c.args.of.now) (subst (IsLeft used) c.in-None.is h)

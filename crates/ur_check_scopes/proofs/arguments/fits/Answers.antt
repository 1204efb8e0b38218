use Rattle.std.proofs.Common.{subst}
use Rattle.ur_rows.specs.Nodes.{type_nodes}
use Rattle.ur_check_scopes.specs.Arguments.{IsLeft}
use Rattle.ur_check_scopes.proofs.Nodes.{fits-none, fits-some}
use Rattle.ur_check_scopes.proofs.arguments.fits.Goals as goal

pub returns-in-Some : goal.returns-in-Some
returns-in-Some c = λ used h. fits-some used c.in-Some.nodes (type_nodes c.args.of.now) c.left_of_type.result c.is_some.result (subst (IsLeft used) c.in-Some.is h) c.left_of_type.ensures c.is_some.ensures

pub returns-in-None : goal.returns-in-None
returns-in-None c = λ used h. fits-none used (type_nodes c.args.of.now) (subst (IsLeft used) c.in-None.is h)

use Rattle.std.proofs.Common.{sym, subst}
use Rattle.ur_typed_rules.specs.Faults as faults
use Rattle.ur_check_scopes.specs.Meeting.{two_parts}
use Rattle.ur_check_scopes.specs.Views.{StopIs}
use Rattle.ur_check_scopes.proofs.Judging.{met-twice}
use Rattle.ur_check_scopes.proofs.apart.met.Goals as goal

pub returns-in-Some : goal.returns-in-Some
returns-in-Some c =
    let names = c.args.around.now.world.now.datatype_names in
    met-twice names c.args.con.now (two_parts c.args.found.now) c.twice.result c.in-Some.name.now (sym c.in-Some.ensures)
    (subst (λ z. StopIs names (faults.twice z) c.twice.result) c.as_slice.ensures (c.twice.ensures names))

use Rattle.std.proofs.Common.{map}
use Rattle.std.specs.Prelude.{option_map}
use Rattle.ur_disjoint.specs.Tests.{pair}
use Rattle.ur_check_scopes.specs.Meeting.{two_parts}
use Rattle.ur_check_scopes.proofs.Meeting.{field-met, mapped-met, arrow-met}
use Rattle.ur_check_scopes.proofs.apart.+meeting.Goals as goal

pub met_in_part-returns-in-Field : goal.met_in_part-returns-in-Field
met_in_part-returns-in-Field t c = field-met (map pair c.args.assumed.now) c.args.part.now _ _ c.get.result.now (option_map two_parts c.met_in_type.result) c.in-Field.is c.get.ensures c.met_in_type.ensures

pub met_in_part-returns-in-Mapped : goal.met_in_part-returns-in-Mapped
met_in_part-returns-in-Mapped t c = mapped-met (map pair c.args.assumed.now) c.args.part.now _ _ c.get-in-Mapped.result.now (option_map two_parts c.met_in_type-in-Mapped.result) c.in-Mapped.is c.get-in-Mapped.ensures c.met_in_type-in-Mapped.ensures

pub met_in_type-returns-in-None : goal.met_in_type-returns-in-None
met_in_type-returns-in-None t c = arrow-met (map pair c.args.assumed.now) c.args.of.now _ _ c.get-in-Arrow.result.now c.get-in-None.result.now (option_map two_parts c.met_in_type-in-None.result)
    c.in-Arrow.is c.get-in-Arrow.ensures c.get-in-None.ensures c.in-None.ensures c.met_in_type-in-None.ensures

use Rattle.ur_check.proofs.Excluding.{caused-none}
use Rattle.ur_check.proofs.laws.caused_is_none.Goals as goal

pub returns : goal.returns
returns c = caused-none c.faulty_is_not_kinded.ensures c.faulty_project_is_none.ensures c.none_has_no_source.ensures

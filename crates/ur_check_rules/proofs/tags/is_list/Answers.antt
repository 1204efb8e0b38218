use Rattle.ur_check_rules.proofs.Tagging.{is-list}
use Rattle.ur_check_rules.proofs.tags.is_list.Goals as goal

pub returns-in-Many : goal.returns-in-Many
returns-in-Many c = is-list c.args.of.now _ c.in-Many.is

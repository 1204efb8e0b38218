use Rattle.ur_check_rules.proofs.Tagging.{is-option}
use Rattle.ur_check_rules.proofs.tags.is_option.Goals as goal

pub returns-in-Opt : goal.returns-in-Opt
returns-in-Opt c = is-option c.args.of.now _ c.in-Opt.is

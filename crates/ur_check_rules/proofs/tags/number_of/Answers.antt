use Rattle.std.proofs.Common.{◌∙◌, None}
use Rattle.ur_check_rules.proofs.Naming.{seen-there}
use Rattle.ur_check_rules.proofs.Tagging.{number-told}
use Rattle.ur_check_rules.proofs.tags.number_of.Goals as goal

pub returns-in_ok-name-in-None-clause-refused : goal.returns-in_ok-name-in-None-clause-refused
returns-in_ok-name-in-None-clause-refused c =
    let a = c.args.around.now in
    number-told a c.args.key.now c.unknown.result c.as_slice-text.result.now
    (seen-there a.world.now.env.home c.as_slice-home.result.now c.args.key.now a.world.now.constructors c.as_slice.result.now c.seen.result None c.as_slice-home.ensures c.as_slice.ensures c.seen.ensures c.in-None.is)
    (c.as_slice-text.ensures ∙ c.in_ok-name-in-None.ensures) c.unknown.ensures

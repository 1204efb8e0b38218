use Rattle.std.proofs.Common.{ap, sym, ◌∙◌, [], Some}
use Rattle.std.specs.Option.{option_copied}
use Rattle.ur_check_walk.proofs.Lambdas.{twice-told, once-told}
use Rattle.ur_check_walk.proofs.bound.are_once.Goals as goal

pub returns-in-Some-clause-refused : goal.returns-in-Some-clause-refused
returns-in-Some-clause-refused c = twice-told c.args.locals.now c.as_slice-text.result.now c.twice.result (sym c.repeated_name.ensures ∙ ap option_copied c.in-Some.is ∙ ap Some (sym c.as_slice-text.ensures)) (c.twice.ensures [])

pub returns-in-None-clause-ok : goal.returns-in-None-clause-ok
returns-in-None-clause-ok c = once-told c.args.locals.now (sym c.repeated_name.ensures ∙ ap option_copied c.in-None.is)

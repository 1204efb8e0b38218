use Rattle.std.proofs.Common.{ap, sym, ◌∙◌, [], map, Some}
use Rattle.std.specs.Option.{option_copied}
use Rattle.ur_typed_rules.specs.Repeats.{twice_of}
use Rattle.ur_check_scopes.specs.declared.locals.Local.{Local}
use Rattle.ur_check_cases.proofs.Telling.{twice-says}
use Rattle.ur_check_cases.proofs.patterns.are_once.Goals as goal

pub returns-in-Some-clause-refused : goal.returns-in-Some-clause-refused
returns-in-Some-clause-refused c = twice-says c.twice.result (twice_of (map (λ (l : Local). l.name) c.args.locals.now)) c.as_slice-text.result.now
    (sym c.repeated_name.ensures ∙ ap option_copied c.in-Some.is ∙ ap Some (sym c.as_slice-text.ensures)) (c.twice.ensures [])

pub returns-in-None-clause-ok : goal.returns-in-None-clause-ok
returns-in-None-clause-ok c = sym c.repeated_name.ensures ∙ ap option_copied c.in-None.is

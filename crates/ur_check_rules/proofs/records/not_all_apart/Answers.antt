use Rattle.std.proofs.Common.{ap, sym, ◌∙◌, subst}
use Rattle.std.specs.Option.{option_copied}
use Rattle.ur_typed_rules.specs.Arguments.{BreaksFields}
use Rattle.ur_typed_rules.specs.Faults.{twice}
use Rattle.ur_typed_rules.proofs.Repeats.{twice-stands}
use Rattle.ur_check_scopes.specs.Views.{StopIs, StopTells}
use Rattle.ur_check_rules.specs.Written.{written_names}
use Rattle.ur_check_rules.proofs.Recorded.{kept-told, twice-told}
use Rattle.ur_check_rules.proofs.records.not_all_apart.Goals as goal

pub returns-in-Some : goal.returns-in-Some
returns-in-Some c = λ names known row h. twice-told names known (written_names c.args.written.now) row c.in-Some.name.now c.twice.result c.in-Refused.refusal
    (twice-stands (written_names c.args.written.now) c.in-Some.name.now (sym c.repeated.ensures ∙ ap option_copied c.in-Some.is)) (subst (λ z. StopTells names (BreaksFields known row) z) c.in-Refused.is h)
    (subst (λ z. StopIs names (twice z) c.twice.result) c.as_slice.ensures (c.twice.ensures names))

pub returns-in-None : goal.returns-in-None
returns-in-None c = λ names known row h. kept-told names known (written_names c.args.written.now) row c.in-Refused.refusal (subst (λ z. StopTells names (BreaksFields known row) z) c.in-Refused.is h)

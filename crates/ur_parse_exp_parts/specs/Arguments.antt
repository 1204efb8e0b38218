-- Arguments of applications.
use Rattle.ur_base.specs.declared.refusal.Span.{Span}
use Rattle.ur_parse_rules.specs.Parts as parts
use Rattle.ur_parse_exp_parts.specs.declared.argument.Given.{Given}
use Rattle.ur_parse_exp_parts.specs.declared.argument.Given.TheVariants as given

abbrev pub given_of : Given → parts.Given
given_of (given.Value a) = parts.value a
given_of (given.Type t) = parts.type t

-- with its span
abbrev pub given_at : Span → parts.Given → parts.GivenAt
given_at span g = record { span = span; given = g }

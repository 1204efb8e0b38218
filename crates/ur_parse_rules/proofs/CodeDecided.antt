-- The code of antiquotes is read in one way.
use Rattle.std.specs.Prelude.{refl}
use Rattle.ur_parse_rules.proofs.Once.{Decided}
use Rattle.ur_parse_rules.specs.Quoted.{Quoting, expressions, raw}
use Rattle.ur_parse_rules.specs.CodeParts.{CodePart, pieces, piece}
use Rattle.ur_parse_rules.specs.Parts.{of_quote, of_code}
use Rattle.ur_parse_rules.specs.Language.{language}
use Rattle.ur_parse_rules.proofs.Table.{by_table}
use Rattle.ur_parse_rules.proofs.Choice.{choice}

pub quote_decided : (q : Quoting) → Decided language choice (of_quote q)
quote_decided expressions = by_table choice (of_quote expressions) (λ a k w h. h) refl refl
quote_decided raw = by_table choice (of_quote raw) (λ a k w h. h) refl refl

pub code_decided : (p : CodePart) → Decided language choice (of_code p)
code_decided pieces = by_table choice (of_code pieces) (λ a k w h. h) refl refl
code_decided piece = by_table choice (of_code piece) (λ a k w h. h) refl refl

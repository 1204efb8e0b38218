-- The operators of each level, and comparisons.
use Rattle.std.specs.Prelude.{◌≡◌, ◌+◌, ℕ, List, Option, Some, None}
use Rattle.ur_lex.specs.declared.token.Symbol.{Symbol}
use Rattle.ur_lex.specs.declared.token.Symbol.TheVariants as symbol
use Rattle.ur_lex.specs.declared.token.TokenKind.{TokenKind}
use Rattle.ur_lex.specs.declared.token.TokenKind.TheVariants as token
use Rattle.ur_lex.specs.declared.token.Lexeme.{Lexeme}
use Rattle.ur_syntax.specs.declared.exp.Binary.{Binary}
use Rattle.ur_syntax.specs.declared.exp.Binary.TheVariants as op
use Rattle.ur_parse_rules.specs.Places.{IsAt, Other, OfKind}
use Rattle.ur_parse_rules.specs.ExpParts as e
use Rattle.ur_parse_con.specs.declared.operator.Level.{Level}
use Rattle.ur_parse_con.specs.declared.operator.Level.TheVariants as level
use Rattle.ur_parse_con.specs.declared.operator.Sign.{Sign}
use Rattle.ur_parse_con.specs.declared.operator.Sign.TheVariants as signs

-- the level of the grammar
abbrev pub level_of : Level → e.Level
level_of level.Disjunction = e.disjunction
level_of level.Conjunction = e.conjunction
level_of level.Append = e.append
level_of level.Sum = e.sum
level_of level.Product = e.product

-- the operator that a symbol is at each level
abbrev pub disjunction_sign : Symbol → Option Sign
disjunction_sign symbol.OrOr = Some (signs.Infix op.Or)
disjunction_sign _ = None

abbrev pub conjunction_sign : Symbol → Option Sign
conjunction_sign symbol.AndAnd = Some (signs.Infix op.And)
conjunction_sign _ = None

abbrev pub append_sign : Symbol → Option Sign
append_sign symbol.Caret = Some (signs.Infix op.Append)
append_sign symbol.DoublePlus = Some (signs.Infix op.Concat)
append_sign symbol.DoubleMinus = Some signs.Remove
append_sign _ = None

abbrev pub sum_sign : Symbol → Option Sign
sum_sign symbol.Plus = Some (signs.Infix op.Add)
sum_sign symbol.Minus = Some (signs.Infix op.Sub)
sum_sign _ = None

abbrev pub product_sign : Symbol → Option Sign
product_sign symbol.Star = Some (signs.Infix op.Mul)
product_sign symbol.Slash = Some (signs.Infix op.Div)
product_sign symbol.Percent = Some (signs.Infix op.Rem)
product_sign _ = None

abbrev pub sign : Level → Symbol → Option Sign
sign level.Disjunction s = disjunction_sign s
sign level.Conjunction s = conjunction_sign s
sign level.Append s = append_sign s
sign level.Sum s = sum_sign s
sign level.Product s = product_sign s

abbrev pub sign_of : Level → TokenKind → Option Sign
sign_of l (token.Symbol s) = sign l s
sign_of l _ = None

-- the comparison that a symbol is
abbrev pub compared : Symbol → Option Binary
compared symbol.Eq = Some op.Eq
compared symbol.Ne = Some op.Ne
compared symbol.Lt = Some op.Lt
compared symbol.Le = Some op.Le
compared symbol.Gt = Some op.Gt
compared symbol.Ge = Some op.Ge
compared _ = None

abbrev pub comparison_of : TokenKind → Option Binary
comparison_of (token.Symbol s) = compared s
comparison_of _ = None

-- the symbol of an operator stands at the place, or none of the level
abbrev pub SignAt : List Lexeme → ℕ → Level → Option Sign → Type 0
SignAt tokens i l None = Other tokens i (λ t. (o : Sign) × (sign_of l t.kind ≡ Some o))
SignAt tokens i l (Some o) = (s : Symbol) × IsAt tokens i (i + 1) (OfKind (token.Symbol s)) × (sign l s ≡ Some o)

abbrev pub ComparisonAt : List Lexeme → ℕ → Option Binary → Type 0
ComparisonAt tokens i None = Other tokens i (λ t. (o : Binary) × (comparison_of t.kind ≡ Some o))
ComparisonAt tokens i (Some o) = (s : Symbol) × IsAt tokens i (i + 1) (OfKind (token.Symbol s)) × (compared s ≡ Some o)

-- The rules of the code of antiquotes.
use Rattle.std.specs.Prelude.{Bool, true, false, not, ◌||◌, List, [], ◌∷◌, ◌++◌}
use Rattle.ur_lex.specs.declared.token.Symbol.{Symbol}
use Rattle.ur_lex.specs.declared.token.Symbol.TheVariants as symbol
use Rattle.ur_lex.specs.declared.token.TokenKind.TheVariants as token
use Rattle.ur_lex.specs.declared.token.Lexeme.{Lexeme}
use Rattle.ur_parse_rules.specs.Rules.{among, Rule}
use Rattle.ur_parse_rules.specs.Places.{starts}
use Rattle.ur_parse_rules.specs.Classes.{member}
use Rattle.ur_parse_rules.specs.Quoted.{Quoting, expressions, raw, Code}
use Rattle.ur_parse_rules.specs.ExpParts as e
use Rattle.ur_parse_rules.specs.CodeParts.{CodePart, pieces, piece}
use Rattle.ur_parse_rules.specs.Parts.{Tree}
use Rattle.ur_parse_rules.specs.Ends.{symbols, plain_kinds}
use Rattle.ur_parse_rules.specs.Forms.{rule, exp_slot, code_slot}

-- An expression begins with `[` only as `[]`: so `{[e]}` is no `{e}`.
abbrev pub begins_well : List Lexeme → Bool
begins_well [] = true
begins_well (t ∷ ts) = not (member (symbols (symbol.LBracket ∷ [])) t.kind t.content) || starts (member (symbols (symbol.RBracket ∷ []))) ts

-- tokens in brackets, the brackets among them
abbrev pub bracketed : Symbol → Symbol → Rule Tree (List Lexeme)
bracketed a b = rule (among (token.Symbol a ∷ []) ∷ code_slot pieces ∷ among (token.Symbol b ∷ []) ∷ []) (λ (l, (ts, (r, _))). l ∷ ts ++ r ∷ [])

abbrev pub code_rules : CodePart → List (Rule Tree (List Lexeme))
code_rules pieces =
    rule [] (λ _. []) ∷
    rule (code_slot piece ∷ code_slot pieces ∷ []) (λ (a, (as_, _)). a ++ as_) ∷ []
code_rules piece =
    bracketed symbol.LParen symbol.RParen ∷ bracketed symbol.LBracket symbol.RBracket ∷ bracketed symbol.LBrace symbol.RBrace ∷
    rule (among plain_kinds ∷ []) (λ (t, _). t ∷ []) ∷ []

abbrev pub quote_rules : (q : Quoting) → List (Rule Tree (Code q))
quote_rules expressions = rule (exp_slot e.exp ∷ []) (λ (a, _). a.exp) ∷ []
quote_rules raw = record { slots = code_slot piece ∷ code_slot pieces ∷ []; spanned = false; allows = λ (a, (as_, _)). begins_well (a ++ as_); build = λ _ (a, (as_, _)). record { tokens = a ++ as_; nesting = 0 } } ∷ []

-- Small texts under the definitions.
use Rattle.std.proofs.Common.{◌≡◌, ◌-◌, ◌^◌, true, false, [], ◌∷◌, Some, None, refl, inl, inr, arith}
use Rattle.std.specs.Prelude.{codes}
use Rattle.ur_lex.specs.declared.mode.Mode.TheVariants as place
use Rattle.ur_lex.specs.declared.pieces.Alphabet.TheVariants as alphabets
use Rattle.ur_lex.specs.declared.token.Symbol.TheVariants as symbol
use Rattle.ur_lex.specs.declared.token.TokenKind.TheVariants as kind
use Rattle.ur_lex.specs.Modes.{turn, turned}
use Rattle.ur_lex.specs.Spelling.{IsSpelled, end, more, is_lower, decimal_value}
use Rattle.ur_lex.specs.Lexing.{Lexes, finished, token, lexeme, after_comments}
use Rattle.ur_lex.specs.Scanning.{first_piece}
use Rattle.ur_lex.proofs.Quotes.{name_front}

-- `(* (* *) *)x`, `(* (* *)` and `(*)` behind their first two bytes
nested : after_comments 1 (codes " (* *) *)x") ≡ Some (codes "x")
nested = refl

still_open : after_comments 1 (codes " (* *)") ≡ None
still_open = refl

three_bytes : after_comments 1 (codes ")") ≡ None
three_bytes = refl

-- names
primed : is_lower (codes "a'b") ≡ true
primed = refl

alone : is_lower (codes "_") ≡ false
alone = refl

word_of_the_language : is_lower (codes "let") ≡ false
word_of_the_language = refl

-- the greatest int
greatest : decimal_value (codes "9223372036854775807") ≡ 2 ^ 63 - 1
greatest = refl

-- an entity is XML text that stands for its character, and a copyright sign is none
less : IsSpelled place.Markup kind.XmlText (codes "<") (codes "&lt;")
less = (λ e. cc, more (inr (inr (inl (refl, refl)))) end)

no_entity : first_piece alphabets.Xml (codes "&copy;") ≡ None
no_entity = refl

-- a brace in a tag opens the language, and its match goes back to the tag
into_code : turned (turn (kind.Symbol symbol.LBrace) place.Tag) (place.Tag ∷ place.Markup ∷ place.Code ∷ []) ≡ place.Code ∷ place.Tag ∷ place.Markup ∷ place.Code ∷ []
into_code = refl

out_of_code : turned (turn (kind.Symbol symbol.RBrace) place.Code) (place.Code ∷ place.Tag ∷ place.Markup ∷ place.Code ∷ []) ≡ place.Tag ∷ place.Markup ∷ place.Code ∷ []
out_of_code = refl

-- a file of one name
one_name : Lexes 0 (place.Code ∷ []) 0 (codes "a'b") (lexeme 0 0 kind.Lower (codes "a'b") 3 ∷ [])
one_name = token kind.Lower (codes "a'b") 3 (name_front kind.Lower (codes "a'b") 3 (omega arith) refl refl (refl, refl) (λ rest. tt)) (finished refl)

-- The rule that is chosen.
use Rattle.std.specs.Prelude.{◌≡◌, ℕ, Bool, true, false, if◌then◌else◌, List, [], ◌∷◌, drop, refl}
use Rattle.std.proofs.Common.{◌∙◌}
use Rattle.ur_lex.specs.declared.token.Keyword.TheVariants as keyword
use Rattle.ur_lex.specs.declared.token.Symbol.TheVariants as symbol
use Rattle.ur_lex.specs.declared.token.TokenKind.TheVariants as token
use Rattle.ur_lex.specs.declared.token.Lexeme.{Lexeme}
use Rattle.ur_parse_rules.specs.Rules.{Stops}
use Rattle.ur_parse_rules.specs.Places.{Other, OfKind, starts}
use Rattle.ur_parse_rules.proofs.Choices.{if_true, if_false}
use Rattle.ur_parse_rules.specs.Classes.{member, all_of, keyword_class}
use Rattle.ur_parse_rules.specs.ConParts.{con, arrow, concat, app, args, arg, row, row_field, row_value, fields, record_field}
use Rattle.ur_parse_rules.specs.declared.parse_rules_place.ConPlace.{ConPlace}
use Rattle.ur_parse_rules.specs.declared.parse_rules_place.ConPlace.TheVariants as places
use Rattle.ur_parse_rules.specs.Constructors.{keys_of, within}
use Rattle.ur_parse_rules.specs.Parts.{of_con}
use Rattle.ur_parse_rules.specs.Ends.{con_args}
use Rattle.ur_parse_rules.proofs.Choice.{choice}
use Rattle.ur_parse_rules.proofs.Places.{missing}
use Rattle.ur_parse_rules.proofs.Tests.{false_true}

-- ---- the rule that is chosen

only_one : (b : Bool) → let z : ℕ = if b then 0 else 0 in z ≡ 0
only_one true = refl
only_one false = refl

pub single_arrow : (keys : Bool) (ts : List Lexeme) → choice (of_con (arrow keys)) ts ≡ 0
single_arrow keys [] = refl
single_arrow keys (t ∷ ts) = only_one _

pub single_concat : (keys : Bool) (ts : List Lexeme) → choice (of_con (concat keys)) ts ≡ 0
single_concat keys [] = refl
single_concat keys (t ∷ ts) = only_one _

pub single_app : (keys : Bool) (ts : List Lexeme) → choice (of_con (app keys)) ts ≡ 0
single_app keys [] = refl
single_app keys (t ∷ ts) = only_one _

pub single_arg : (keys : Bool) (ts : List Lexeme) → choice (of_con (arg keys)) ts ≡ 0
single_arg keys [] = refl
single_arg keys (t ∷ ts) = only_one _

pub single_field : (ts : List Lexeme) → choice (of_con row_field) ts ≡ 0
single_field [] = refl
single_field (t ∷ ts) = only_one _

pub single_record_field : (ts : List Lexeme) → choice (of_con record_field) ts ≡ 0
single_record_field [] = refl
single_record_field (t ∷ ts) = only_one _

second_one : (b : Bool) → let z : ℕ = if b then 1 else 1 in z ≡ 1
second_one true = refl
second_one false = refl

no_fn : (place : ConPlace) (ts : List Lexeme) → Stops (member (keyword_class keyword.Fn ∷ [])) ts → choice (of_con (con place)) ts ≡ 1
no_fn place [] s = refl
no_fn place (t ∷ ts) s = if_false 0 s ∙ second_one _

pub no_lambda : (place : ConPlace) {tokens : List Lexeme} {i : ℕ} → Other tokens i (OfKind (token.Keyword keyword.Fn)) → choice (of_con (con place)) (drop i tokens) ≡ 1
no_lambda place o = no_fn place _ (missing refl o)

pub keys_within : (place : ConPlace) → keys_of (within place) ≡ keys_of place
keys_within places.BeforeKeys = refl
keys_within places.Plain = refl
keys_within places.Beside = refl

pub an_argument : (keys : Bool) (ts : List Lexeme) → starts (member (con_args keys)) ts ≡ true → choice (of_con (args keys)) ts ≡ 1
an_argument keys [] e = false_true e
an_argument keys (t ∷ ts) e = if_true 0 e

not_closed : (ts : List Lexeme) → Stops (member (all_of (token.Symbol symbol.RBracket) ∷ [])) ts → choice (of_con row) ts ≡ 1
not_closed [] s = refl
not_closed (t ∷ ts) s = if_false 0 s ∙ second_one _

pub row_goes_on : {tokens : List Lexeme} {i : ℕ} → Other tokens i (OfKind (token.Symbol symbol.RBracket)) → choice (of_con row) (drop i tokens) ≡ 1
row_goes_on o = not_closed _ (missing refl o)

not_braced : (ts : List Lexeme) → Stops (member (all_of (token.Symbol symbol.RBrace) ∷ [])) ts → choice (of_con fields) ts ≡ 1
not_braced [] s = refl
not_braced (t ∷ ts) s = if_false 0 s ∙ second_one _

pub fields_go_on : {tokens : List Lexeme} {i : ℕ} → Other tokens i (OfKind (token.Symbol symbol.RBrace)) → choice (of_con fields) (drop i tokens) ≡ 1
fields_go_on o = not_braced _ (missing refl o)

no_equals : (ts : List Lexeme) → Stops (member (all_of (token.Symbol symbol.Eq) ∷ [])) ts → choice (of_con row_value) ts ≡ 0
no_equals [] s = refl
no_equals (t ∷ ts) s = if_false 1 s

pub no_value : {tokens : List Lexeme} {i : ℕ} → Other tokens i (OfKind (token.Symbol symbol.Eq)) → choice (of_con row_value) (drop i tokens) ≡ 0
no_value o = no_equals _ (missing refl o)

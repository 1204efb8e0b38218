-- Sets of tokens, told by their kinds and words.
use Rattle.std.specs.Prelude.{ℕ, Bool, true, false, not, ◌&&◌, ◌||◌, ◌==◌, List, [], ◌∷◌}
use Rattle.std.specs.Str.{bytes_eq}
use Rattle.ur_lex.specs.declared.token.Keyword.{Keyword}
use Rattle.ur_lex.specs.declared.token.Symbol.{Symbol}
use Rattle.ur_lex.specs.declared.token.TokenKind.{TokenKind}
use Rattle.ur_lex.specs.declared.token.TokenKind.TheVariants as token
use Rattle.ur_lex.specs.Spelling.{Text, is_among}
use Rattle.ur_parse_rules.specs.KindNumbers.{kind_number}

-- a test of a token's content
pub data Test : Type 0 where
  every : Test
  just : Text → Test
  but : List Text → Test
  by : (Text → Bool) → Test

abbrev pub passes : Test → Text → Bool
passes every w = true
passes (just u) w = bytes_eq w u
passes (but us) w = not (is_among us w)
passes (by ok) w = ok w

-- the tokens of a kind, by its number, whose content passes a test
pub record Class : Type 0 where
  pub kind : ℕ
  pub test : Test

abbrev pub Classes : Type 0
Classes = List Class

abbrev pub in_class : Class → TokenKind → Text → Bool
in_class c k w = (c.kind == kind_number k) && passes c.test w

-- whether a token is in one of the classes
abbrev pub member : Classes → TokenKind → Text → Bool
member [] k w = false
member (c ∷ cs) k w = in_class c k w || member cs k w

-- all tokens of a kind
abbrev pub all_of : TokenKind → Class
all_of k = record { kind = kind_number k; test = every }

abbrev pub symbol_class : Symbol → Class
symbol_class s = all_of (token.Symbol s)

abbrev pub keyword_class : Keyword → Class
keyword_class k = all_of (token.Keyword k)

-- one word
abbrev pub word_class : TokenKind → Text → Class
word_class k w = record { kind = kind_number k; test = just w }

-- the tokens of a kind whose content passes a test
abbrev pub named_class : TokenKind → (Text → Bool) → Class
named_class k ok = record { kind = kind_number k; test = by ok }

-- all but some words
abbrev pub but_class : TokenKind → List Text → Class
but_class k ws = record { kind = kind_number k; test = but ws }

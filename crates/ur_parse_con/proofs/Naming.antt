-- What arguments begin with, and what stands behind a constructor.
use Rattle.std.specs.Prelude.{◌≡◌, Bool, true, false, ◌||◌, List, [], ◌∷◌, refl}
use Rattle.std.proofs.Common.{sym, ◌∙◌}
use Rattle.ur_lex.specs.declared.token.Keyword.{Keyword}
use Rattle.ur_lex.specs.declared.token.Keyword.TheVariants as keyword
use Rattle.ur_lex.specs.declared.token.Symbol.{Symbol}
use Rattle.ur_lex.specs.declared.token.Symbol.TheVariants as symbol
use Rattle.ur_lex.specs.declared.token.TokenKind.{TokenKind}
use Rattle.ur_lex.specs.declared.token.TokenKind.TheVariants as token
use Rattle.ur_lex.specs.declared.token.Lexeme.{Lexeme}
use Rattle.ur_lex.specs.Spelling.{Text}
use Rattle.ur_parse_rules.specs.Rules.{Stops}
use Rattle.ur_parse_rules.specs.Places.{starts}
use Rattle.ur_parse_rules.specs.Classes.{member, in_class, symbol_class}
use Rattle.ur_parse_rules.specs.Ends.{con_args, con_more}
use Rattle.ur_parse_rules.specs.Words.{is_free}
use Rattle.ur_parse_rules.proofs.Tests.{false_true}
use Rattle.ur_parse_con.specs.Names.{begins_symbol, begins_argument}

-- ---- what arguments begin with

or_none : (a : Bool) → (a || false) ≡ a
or_none true = refl
or_none false = refl

symbol_begins : (keys : Bool) (s : Symbol) (w : Text) → member (con_args keys) (token.Symbol s) w ≡ begins_symbol s
symbol_begins keys symbol.Hash w = refl
symbol_begins keys symbol.LBracket w = refl
symbol_begins keys symbol.LBrace w = refl
symbol_begins keys symbol.Dollar w = refl
symbol_begins keys symbol.LParen w = refl
symbol_begins keys _ w = refl

keyword_begins : (keys : Bool) (k : Keyword) (w : Text) → member (con_args keys) (token.Keyword k) w ≡ false
keyword_begins keys keyword.And w = refl
keyword_begins keys _ w = refl

pub begins_is : (keys : Bool) (k : TokenKind) (w : Text) → member (con_args keys) k w ≡ begins_argument keys k w
begins_is keys token.Lower w = refl
begins_is keys token.Upper w = or_none (is_free keys w)
begins_is keys (token.Symbol s) w = symbol_begins keys s w
begins_is keys (token.Keyword k) w = keyword_begins keys k w
begins_is keys (token.Int n) w = refl
begins_is keys token.Str w = refl
begins_is keys token.SqlText w = refl
begins_is keys token.XmlText w = refl
begins_is keys token.Word w = refl

skipped : (a b : Bool) → (a || false) ≡ false → b ≡ (a || b)
skipped true b e = false_true (sym e)
skipped false b e = refl

-- behind a constructor of a row
pub goes_on_by : (ts : List Lexeme) → Stops (member (symbol_class symbol.Arrow ∷ [])) ts → Stops (member (symbol_class symbol.DoublePlus ∷ [])) ts → starts (member (con_args false)) ts ≡ starts (member (con_more false)) ts
goes_on_by [] a b = refl
goes_on_by (t ∷ ts) a b = skipped (in_class (symbol_class symbol.DoublePlus) t.kind t.content) (member (con_args false) t.kind t.content) b
    ∙ skipped (in_class (symbol_class symbol.Arrow) t.kind t.content) (member (symbol_class symbol.DoublePlus ∷ con_args false) t.kind t.content) a

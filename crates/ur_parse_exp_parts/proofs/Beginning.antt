-- What expressions begin with.
use Rattle.std.specs.Prelude.{◌≡◌, Bool, true, false, ◌||◌, List, [], ◌∷◌, refl}
use Rattle.std.proofs.Common.{sym}
use Rattle.ur_lex.specs.declared.token.Keyword.{Keyword}
use Rattle.ur_lex.specs.declared.token.Keyword.TheVariants as keyword
use Rattle.ur_lex.specs.declared.token.Symbol.{Symbol}
use Rattle.ur_lex.specs.declared.token.Symbol.TheVariants as symbol
use Rattle.ur_lex.specs.declared.token.TokenKind.{TokenKind}
use Rattle.ur_lex.specs.declared.token.TokenKind.TheVariants as token
use Rattle.ur_lex.specs.declared.token.Lexeme.{Lexeme}
use Rattle.ur_lex.specs.Spelling.{Text}
use Rattle.ur_parse_rules.specs.Places.{starts}
use Rattle.ur_parse_rules.specs.Classes.{member}
use Rattle.ur_parse_rules.specs.Words.{is_name}
use Rattle.ur_parse_rules.specs.Ends.{exp_args}
use Rattle.ur_parse_rules.proofs.Starts.{base_starts, post_starts}
use Rattle.ur_parse_exp_parts.specs.Begins.{opens, opens_let, opens_post, begins_base, begins_post, begins_argument}

or_none : (a : Bool) → (a || false) ≡ a
or_none true = refl
or_none false = refl

-- ---- arguments

symbol_begins : (s : Symbol) (w : Text) → member exp_args (token.Symbol s) w ≡ opens_post s
symbol_begins symbol.LParen w = refl
symbol_begins _ w = refl

keyword_begins : (k : Keyword) (w : Text) → member exp_args (token.Keyword k) w ≡ opens_let k
keyword_begins keyword.Let w = refl
keyword_begins _ w = refl

pub begins_is : (k : TokenKind) (w : Text) → member exp_args k w ≡ begins_argument k
begins_is (token.Symbol s) w = symbol_begins s w
begins_is (token.Keyword k) w = keyword_begins k w
begins_is (token.Int n) w = refl
begins_is token.Lower w = refl
begins_is token.Upper w = refl
begins_is token.Str w = refl
begins_is token.SqlText w = refl
begins_is token.XmlText w = refl
begins_is token.Word w = refl

-- ---- atoms

base_symbol : (first : Bool) (s : Symbol) (w : Text) → member (base_starts first) (token.Symbol s) w ≡ opens s
base_symbol first symbol.LParen w = refl
base_symbol first _ w = refl

base_keyword : (first : Bool) (k : Keyword) (w : Text) → member (base_starts first) (token.Keyword k) w ≡ opens_let k
base_keyword first keyword.Let w = refl
base_keyword first _ w = refl

pub base_is : (first : Bool) (k : TokenKind) (w : Text) → member (base_starts first) k w ≡ begins_base first k w
base_is first (token.Symbol s) w = base_symbol first s w
base_is first (token.Keyword k) w = base_keyword first k w
base_is first (token.Int n) w = refl
base_is first token.Lower w = or_none (is_name first w)
base_is first token.Upper w = refl
base_is first token.Str w = refl
base_is first token.SqlText w = refl
base_is first token.XmlText w = refl
base_is first token.Word w = refl

post_symbol : (first : Bool) (s : Symbol) (w : Text) → member (post_starts first) (token.Symbol s) w ≡ opens_post s
post_symbol first symbol.LParen w = refl
post_symbol first _ w = refl

post_keyword : (first : Bool) (k : Keyword) (w : Text) → member (post_starts first) (token.Keyword k) w ≡ opens_let k
post_keyword first keyword.Let w = refl
post_keyword first _ w = refl

pub post_is : (first : Bool) (k : TokenKind) (w : Text) → member (post_starts first) k w ≡ begins_post first k w
post_is first (token.Symbol s) w = post_symbol first s w
post_is first (token.Keyword k) w = post_keyword first k w
post_is first (token.Int n) w = refl
post_is first token.Lower w = or_none (is_name first w)
post_is first token.Upper w = or_none (is_name first w)
post_is first token.Str w = refl
post_is first token.SqlText w = refl
post_is first token.XmlText w = refl
post_is first token.Word w = refl

pub base_begins : (first : Bool) (ts : List Lexeme) → starts (begins_base first) ts ≡ starts (member (base_starts first)) ts
base_begins first [] = refl
base_begins first (t ∷ ts) = sym (base_is first t.kind t.content)

pub post_begins : (first : Bool) (ts : List Lexeme) → starts (begins_post first) ts ≡ starts (member (post_starts first)) ts
post_begins first [] = refl
post_begins first (t ∷ ts) = sym (post_is first t.kind t.content)

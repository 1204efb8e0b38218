-- Words for the contracts of what reads single tokens.
use Rattle.std.specs.Prelude.{◌≡◌, ◌≢◌, ℕ, ◌+◌, ◌≤◌, Bool, true, false, not, ◌&&◌, ◌||◌, ◌==◌, if◌then◌else◌, List, [], ◌∷◌, length, take, drop, slice_index, Option, Some, None, map}
use Rattle.std.specs.Borrow.{Bor}
use Rattle.std.specs.Str.{bytes_eq}
use Rattle.ur_lex.specs.declared.bytes.Class.{Class}
use Rattle.ur_lex.specs.declared.bytes.Class.TheVariants as class
use Rattle.ur_lex.specs.declared.front.Found.{Found}
use Rattle.ur_lex.specs.declared.front.Front.{Front}
use Rattle.ur_lex.specs.declared.front.Front.TheVariants as front
use Rattle.ur_lex.specs.declared.mode.Mode.{Mode}
use Rattle.ur_lex.specs.declared.pieces.Alphabet.{Alphabet}
use Rattle.ur_lex.specs.declared.token.Keyword.{Keyword}
use Rattle.ur_lex.specs.declared.token.Symbol.{Symbol}
use Rattle.ur_lex.specs.declared.token.Symbol.TheVariants as symbol
use Rattle.ur_lex.specs.declared.token.TokenKind.{TokenKind}
use Rattle.ur_lex.specs.declared.token.TokenKind.TheVariants as kind
use Rattle.ur_lex.specs.Spelling.{Text}
use Rattle.ur_lex.specs.Spelling.{is_small, is_capital, is_in_name, is_digit, is_in_word, is_plain, table, symbol_text, stands_in, IsPiece, IsSpelled, Reads}
use Rattle.ur_lex.specs.Lexing.{IsFront, IsSeparator}

-- a byte of a name, of a number, or of a tag's word
abbrev pub is_in : Class → ℕ → Bool
is_in class.Name b = is_in_name b
is_in class.Digit b = is_digit b
is_in class.Word b = is_in_word b

-- a name of the language may begin so
abbrev pub starts_name : ℕ → Bool
starts_name b = is_small b || is_capital b || b == 95

-- a token of the language that begins so is a symbol
abbrev pub starts_symbol : ℕ → Bool
starts_symbol b = not (starts_name b || is_digit b || b == 34 || b == 39)

-- the bytes begin with this front
abbrev pub is_front : Text → Text → Bool
is_front [] bytes = true
is_front (f ∷ fs) [] = false
is_front (f ∷ fs) (b ∷ bytes) = f == b && is_front fs bytes

-- the symbol is a token of the mode, and the bytes begin with it
abbrev pub is_symbol : Mode → Text → Symbol → Bool
is_symbol mode bytes s = stands_in s mode && is_front (symbol_text s) bytes

-- the rows of a table of keywords
abbrev pub keywords_in : List (Bor Text × Keyword) → List (Text × Keyword)
keywords_in = map (λ r. (r.0.now, r.1))

-- the keyword that a table has for a word
abbrev pub listed_keyword : List (Text × Keyword) → Text → Option Keyword
listed_keyword [] word = None
listed_keyword (r ∷ rs) word = if bytes_eq word r.0 then Some r.1 else listed_keyword rs word

-- all symbols, the longest first
abbrev pub symbols : List Symbol
symbols = symbol.XmlEmpty ∷ symbol.XmlClose ∷ symbol.XmlOpen ∷ symbol.DoubleColon ∷ symbol.Ne ∷ symbol.Le ∷ symbol.Ge ∷ symbol.Arrow ∷ symbol.FatArrow ∷ symbol.LeftArrow ∷ symbol.DoublePlus ∷ symbol.DoubleMinus ∷ symbol.AndAnd ∷ symbol.OrOr ∷ symbol.TagClose ∷ symbol.TagEmpty ∷ symbol.LParen ∷ symbol.RParen ∷ symbol.LBracket ∷ symbol.RBracket ∷ symbol.LBrace ∷ symbol.RBrace ∷ symbol.Comma ∷ symbol.Semicolon ∷ symbol.Colon ∷ symbol.Eq ∷ symbol.Lt ∷ symbol.Gt ∷ symbol.Tilde ∷ symbol.Plus ∷ symbol.Minus ∷ symbol.Star ∷ symbol.Slash ∷ symbol.Percent ∷ symbol.Caret ∷ symbol.Dot ∷ symbol.Hash ∷ symbol.Dollar ∷ symbol.Underscore ∷ symbol.Bar ∷ []

-- no symbol of the mode is a front of the bytes
abbrev pub NoSymbol : Mode → Text → Type 0
NoSymbol mode bytes = (s : Symbol) → is_symbol mode bytes s ≡ false

-- the symbol is a front of the bytes, and no longer one is
abbrev pub IsLongestSymbol : Mode → Text → Symbol → Type 0
IsLongestSymbol mode bytes s = (is_symbol mode bytes s ≡ true) × ((t : Symbol) → is_symbol mode bytes t ≡ true → length (symbol_text t) ≤ length (symbol_text s))

-- the length of a table's text with which the bytes begin, and what it stands for
abbrev pub listed_piece : List (Text × Text) → Text → Option (ℕ × Text)
listed_piece [] bytes = None
listed_piece (p ∷ ps) bytes = if is_front p.0 bytes then Some (length p.0, p.1) else listed_piece ps bytes

-- the rows of a table of texts that stand for others
abbrev pub rows_in : List (Bor Text × Bor Text) → List (Text × Text)
rows_in = map (λ r. (r.0.now, r.1.now))

-- a byte that stands for itself
abbrev pub plain_piece : Alphabet → Text → Option (ℕ × Text)
plain_piece alphabet [] = None
plain_piece alphabet (b ∷ bytes) = if is_plain alphabet b then Some (1, b ∷ []) else None

-- the first of two that is there
abbrev pub first_of : Option (ℕ × Text) → Option (ℕ × Text) → Option (ℕ × Text)
first_of None q = q
first_of (Some p) q = Some p

-- the length of the piece with which the bytes begin, and what it stands for
abbrev pub first_piece : Alphabet → Text → Option (ℕ × Text)
first_piece alphabet bytes = first_of (listed_piece (table alphabet) bytes) (plain_piece alphabet bytes)

-- The first bytes are pieces, and no piece follows.
pub record IsReading (alphabet : Alphabet) (content : Text) (len : ℕ) (bytes : Text) : Type 0 where
  pub within : len ≤ length bytes
  pub reads : Reads (IsPiece alphabet) (take len bytes) content
  pub end : first_piece alphabet (drop len bytes) ≡ None

-- behind the first byte stand pieces, and then that byte again
abbrev pub IsClosed : Alphabet → Text → ℕ → Text → Type 0
IsClosed alphabet content len bytes = (n : ℕ) × (len ≡ n + 2) × IsReading alphabet content n (drop 1 bytes) × (slice_index (drop 1 bytes) n ≡ slice_index bytes 0)

-- behind the first byte stand pieces, and then another byte or none
abbrev pub IsUnclosed : Alphabet → Text → Type 0
IsUnclosed alphabet bytes = (n : ℕ) × (content : Text) × IsReading alphabet content n (drop 1 bytes) × (slice_index (drop 1 bytes) n ≢ slice_index bytes 0)

-- each token with which the bytes begin is a symbol
abbrev pub OnlySymbols : Mode → Text → Type 0
OnlySymbols mode bytes = (what : TokenKind) (content : Text) (n : ℕ) → IsSpelled mode what content (take n bytes) →
    (s : Symbol) × (what ≡ kind.Symbol s) × (take n bytes ≡ symbol_text s) × (stands_in s mode ≡ true)

-- a token that was found, or that there is none
abbrev pub IsFound : Mode → Text → Option Found → Type 0
IsFound mode bytes None = (what : TokenKind) (content : Text) (len : ℕ) → IsFront mode what content len bytes → ⊥
IsFound mode bytes (Some found) = IsFront mode found.kind found.content found.len bytes

-- what bytes begin with
abbrev pub IsFirst : Mode → Text → Front → Type 0
IsFirst mode bytes (front.Gap len) = (0 + 1 ≤ len) × (len ≤ length bytes) × IsSeparator mode len bytes
IsFirst mode bytes (front.Token found) = IsFront mode found.kind found.content found.len bytes
IsFirst mode bytes front.Nothing = ((len : ℕ) → IsSeparator mode len bytes → ⊥) × ((what : TokenKind) (content : Text) (len : ℕ) → IsFront mode what content len bytes → ⊥)

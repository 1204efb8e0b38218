-- A file cut into its tokens.
use Rattle.std.specs.Prelude.{◌≡◌, ◌⊎◌, ℕ, zero, suc, ◌+◌, ◌^◌, ◌<◌, ◌≤◌, Bool, true, false, ◌&&◌, ◌||◌, ◌==◌, if◌then◌else◌, List, [], ◌∷◌, length, take, drop, slice_index, slice_get, slice_range, EachIndex, Option, Some, None}
use Rattle.std.specs.List.{list_all}
use Rattle.std.specs.Str.{IsUtf8}
use Rattle.ur_base.specs.declared.refusal.Refusal.{Refusal}
use Rattle.ur_base.specs.Stopping.{Says}
use Rattle.ur_lex.specs.declared.mode.Mode.{Mode}
use Rattle.ur_lex.specs.declared.mode.Mode.TheVariants as place
use Rattle.ur_lex.specs.declared.token.Symbol.{Symbol}
use Rattle.ur_lex.specs.declared.token.Symbol.TheVariants as symbol
use Rattle.ur_lex.specs.declared.token.TokenKind.{TokenKind}
use Rattle.ur_lex.specs.declared.token.TokenKind.TheVariants as kind
use Rattle.ur_lex.specs.declared.token.Lexeme.{Lexeme}
use Rattle.ur_lex.specs.Modes.{turn, turned, is_code}
use Rattle.ur_lex.specs.Spelling.{Text}
use Rattle.ur_lex.specs.Spelling.{IsSpelled, is_small}

-- space, tab, CR or LF
abbrev pub is_blank : ℕ → Bool
is_blank b = b == 32 || b == 9 || b == 13 || b == 10

-- `(*` comes next
abbrev pub opens_comment : Text → Bool
opens_comment bytes = slice_index bytes 0 == 40 && slice_index bytes 1 == 42

-- what is left after as many open comments have been closed
abbrev pub after_comments : ℕ → Text → Option Text
after_comments zero bytes = Some bytes
after_comments (suc n) [] = None
after_comments (suc n) (a ∷ []) = None
after_comments (suc n) (a ∷ b ∷ bytes) =
    if a == 40 && b == 42 then after_comments (suc (suc n)) bytes else (if a == 42 && b == 41 then after_comments n bytes else after_comments (suc n) (b ∷ bytes))

-- the first byte is a blank
abbrev pub IsBlank : ℕ → Text → Type 0
IsBlank len bytes = (len ≡ 1) × (is_blank (slice_index bytes 0) ≡ true)

-- the first bytes are `(* .. *)` with the comments in it
abbrev pub IsComment : ℕ → Text → Type 0
IsComment len bytes = (opens_comment bytes ≡ true) × (len ≤ length bytes) × (after_comments 1 (drop 2 bytes) ≡ Some (drop len bytes))

-- The first bytes stand between tokens: in the language blanks and comments, in a tag blanks, in XML text nothing.
abbrev pub IsSeparator : Mode → ℕ → Text → Type 0
IsSeparator place.Code len bytes = IsBlank len bytes ⊎ IsComment len bytes
IsSeparator place.Tag len bytes = IsBlank len bytes
IsSeparator place.Markup len bytes = ⊥

-- no longer front of the bytes is a token
abbrev pub IsLongest : Mode → ℕ → Text → Type 0
IsLongest mode len bytes = (n : ℕ) (what : TokenKind) (content : Text) → len < n → n ≤ length bytes → IsSpelled mode what content (take n bytes) → ⊥

-- whether this byte may stand behind a symbol: in XML text a tag's begin has a word directly after it
abbrev pub may_follow : Mode → Symbol → ℕ → Bool
may_follow place.Markup symbol.Lt b = is_small b
may_follow place.Markup symbol.TagClose b = is_small b
may_follow _ _ b = true

-- What is asked of a token and of the bytes behind it. An int is at most 9223372036854775807. Behind an sqltext no quote
-- stands, which would be a doubled one.
abbrev pub IsAllowed : Mode → TokenKind → Text → Type 0
IsAllowed place.Code (kind.Int n) rest = n < 2 ^ 63
IsAllowed place.Code kind.SqlText rest = (slice_index rest 0 == 39) ≡ false
IsAllowed mode (kind.Symbol s) rest = may_follow mode s (slice_index rest 0) ≡ true
IsAllowed _ _ _ = Unit {0}

-- the first bytes are this token
pub record IsFront (mode : Mode) (what : TokenKind) (content : Text) (len : ℕ) (bytes : Text) : Type 0 where
  pub within : len ≤ length bytes
  pub spelled : IsSpelled mode what content (take len bytes)
  pub longest : IsLongest mode len bytes
  pub allowed : IsAllowed mode what (drop len bytes)
  pub no_comment : mode ≡ place.Code → opens_comment bytes ≡ false

-- a token at its place
abbrev pub lexeme : ℕ → ℕ → TokenKind → Text → ℕ → Lexeme
lexeme file at what content len = record { kind = what; content = content; span = record { file = file; from = at; to = at + len } }

-- These bytes of the file, from the place `at` on and in these modes, are these tokens.
pub data Lexes (file : ℕ) : List Mode → ℕ → Text → List Lexeme → Type 0 where
  -- at the end no XML text and no tag is open
  finished : {modes : List Mode} {at : ℕ} → list_all is_code modes ≡ true → Lexes file modes at [] []
  separator : {mode : Mode} {modes : List Mode} {at : ℕ} {bytes : Text} {tokens : List Lexeme} (len : ℕ) →
      IsSeparator mode len bytes → Lexes file (mode ∷ modes) (at + len) (drop len bytes) tokens → Lexes file (mode ∷ modes) at bytes tokens
  token : {mode : Mode} {modes : List Mode} {at : ℕ} {bytes : Text} {tokens : List Lexeme} (what : TokenKind) (content : Text) (len : ℕ) →
      IsFront mode what content len bytes → Lexes file (turned (turn what mode) (mode ∷ modes)) (at + len) (drop len bytes) tokens →
      Lexes file (mode ∷ modes) at bytes (lexeme file at what content len ∷ tokens)

-- the file is UTF-8, and these are its tokens
abbrev pub IsTokens : ℕ → Text → List Lexeme → Type 0
IsTokens file bytes tokens = IsUtf8 bytes × Lexes file (place.Code ∷ []) 0 bytes tokens

-- Each token is a piece of the file, behind the piece before it.
abbrev pub AreSlices : Text → List Lexeme → Type 0
AreSlices bytes tokens = EachIndex tokens (λ i. (t : Lexeme) → slice_get tokens i ≡ Some t →
    (t.span.«from» < t.span.to) × (t.span.to ≤ length bytes)
    × ((mode : Mode) × IsSpelled mode t.kind t.content (slice_range bytes t.span.«from» t.span.to))
    × ((u : Lexeme) → slice_get tokens (i + 1) ≡ Some u → t.span.to ≤ u.span.«from»))

-- Why a file has no tokens: it is not UTF-8, or something in it is no token. The name of a file that is not UTF-8 is
-- filled in by the caller.
abbrev pub ExplainsNoTokens : ℕ → Text → Refusal → Type 0
ExplainsNoTokens file bytes r = ((r.code ≡ 3) × (r.right ≡ []) × (IsUtf8 bytes → ⊥))
    ⊎ (Says r 4 [] [] × IsUtf8 bytes × ((tokens : List Lexeme) → IsTokens file bytes tokens → ⊥))

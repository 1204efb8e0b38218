-- What the first byte of a token tells.
use Rattle.std.proofs.Common.{◌≡◌, ℕ, Bool, true, false, ◌||◌, ◌==◌, not, ◌∷◌, length, drop, Some, None, refl, sym, ap, ◌∙◌, arith, inl, inr}
use Rattle.std.specs.Prelude.{slice_index, ◌⊎◌}
use Rattle.std.specs.List.{list_all}
use Rattle.std.proofs.lemmas.Bool.Decides.{nat_tests}
use Rattle.ur_lex.specs.declared.mode.Mode.TheVariants as place
use Rattle.ur_lex.specs.declared.pieces.Alphabet.TheVariants as alphabets
use Rattle.ur_lex.specs.declared.token.Keyword.{Keyword}
use Rattle.ur_lex.specs.declared.token.Keyword.TheVariants as keyword
use Rattle.ur_lex.specs.declared.token.Symbol.{Symbol}
use Rattle.ur_lex.specs.declared.token.Symbol.TheVariants as symbol
use Rattle.ur_lex.specs.declared.token.TokenKind.{TokenKind}
use Rattle.ur_lex.specs.declared.token.TokenKind.TheVariants as kind
use Rattle.ur_lex.specs.Spelling.{Text}
use Rattle.ur_lex.specs.Spelling.{IsSpelled, IsQuoted, IsPiece, Reads, end, more, is_small, is_capital, is_digit, is_in_name, is_in_word, keyword_text, symbol_text, stands_in}
use Rattle.ur_lex.specs.Lexing.{is_blank}
use Rattle.ur_lex.specs.Scanning.{first_piece, starts_name, starts_symbol}
use Rattle.ur_lex.proofs.Texts.{and_left, and_right}
use Rattle.ur_lex.proofs.Readings.{first_of_piece}

-- ---- keywords and symbols

pub keyword_start : (k : Keyword) → is_small (slice_index (keyword_text k) 0) ≡ true
keyword_start keyword.And = refl
keyword_start _ = refl

keyword_rest : (k : Keyword) → list_all is_in_name (drop 1 (keyword_text k)) ≡ true
keyword_rest keyword.And = refl
keyword_rest _ = refl

symbol_rest : (s : Symbol) → (not (starts_name (slice_index (symbol_text s) 0)) || list_all is_in_name (drop 1 (symbol_text s))) ≡ true
symbol_rest symbol.LParen = refl
symbol_rest _ = refl

symbol_start : (s : Symbol) → (is_digit (slice_index (symbol_text s) 0) || slice_index (symbol_text s) 0 == 34 || slice_index (symbol_text s) 0 == 39 || is_small (slice_index (symbol_text s) 0) || is_blank (slice_index (symbol_text s) 0)) ≡ false
symbol_start symbol.LParen = refl
symbol_start _ = refl

-- no symbol begins so
pub starts_as : (s : Symbol) (b : ℕ) (w : Text) → b ∷ w ≡ symbol_text s → (is_digit b || b == 34 || b == 39 || is_small b || is_blank b) ≡ false
starts_as s b w t = ap (λ z. let h = slice_index z 0 in is_digit h || h == 34 || h == 39 || is_small h || is_blank h) t ∙ symbol_start s

-- a symbol that is a token of XML text begins with `<` or `{`
markup_start : (s : Symbol) → stands_in s place.Markup ≡ true → (slice_index (symbol_text s) 0 == 60 || slice_index (symbol_text s) 0 == 123) ≡ true
markup_start symbol.LBrace h = refl
markup_start symbol.Lt h = refl
markup_start symbol.TagClose h = refl
markup_start symbol.XmlClose h = refl
markup_start _ h = absurd (cc)

-- ---- the language

-- what begins as a name goes on as a name
pub code_name : (k : TokenKind) (c : Text) (b : ℕ) (w : Text) → starts_name b ≡ true → IsSpelled place.Code k c (b ∷ w) → list_all is_in_name w ≡ true
code_name kind.Lower c b w h (e, t) = and_right (is_small b || b == 95) _ (and_left _ _ t)
code_name kind.Upper c b w h (e, t) = and_right (is_capital b) _ t
code_name (kind.Int n) c b w h (e, t, v) = let d : is_digit b ≡ true = and_left _ _ t in absurd (grind (arith, nat_tests))
code_name kind.Str c b w h (i, e, r) = let p : b ≡ 34 = cc in absurd (grind (arith, nat_tests))
code_name kind.SqlText c b w h (i, e, r) = let p : b ≡ 39 = cc in absurd (grind (arith, nat_tests))
code_name kind.XmlText c b w h t = absurd t
code_name kind.Word c b w h t = absurd t
code_name (kind.Keyword k) c b w h (e, t) = ap (λ z. list_all is_in_name (drop 1 z)) t ∙ keyword_rest k
code_name (kind.Symbol s) c b w h (e, t, st) =
    let f : (not (starts_name b) || list_all is_in_name w) ≡ true = ap (λ z. not (starts_name (slice_index z 0)) || list_all is_in_name (drop 1 z)) t ∙ symbol_rest s in
    rw h at f

-- what begins as a number goes on as a number
pub code_digit : (k : TokenKind) (c : Text) (b : ℕ) (w : Text) → is_digit b ≡ true → IsSpelled place.Code k c (b ∷ w) → list_all is_digit w ≡ true
code_digit kind.Lower c b w h (e, t) = let d : (is_small b || b == 95) ≡ true = and_left _ _ (and_left _ _ t) in absurd (grind (arith, nat_tests))
code_digit kind.Upper c b w h (e, t) = let d : is_capital b ≡ true = and_left _ _ t in absurd (grind (arith, nat_tests))
code_digit (kind.Int n) c b w h (e, t, v) = and_right (is_digit b) _ t
code_digit kind.Str c b w h (i, e, r) = let p : b ≡ 34 = cc in absurd (grind (arith, nat_tests))
code_digit kind.SqlText c b w h (i, e, r) = let p : b ≡ 39 = cc in absurd (grind (arith, nat_tests))
code_digit kind.XmlText c b w h t = absurd t
code_digit kind.Word c b w h t = absurd t
code_digit (kind.Keyword k) c b w h (e, t) = let f : is_small b ≡ true = ap (λ z. is_small (slice_index z 0)) t ∙ keyword_start k in absurd (grind (arith, nat_tests))
code_digit (kind.Symbol s) c b w h (e, t, st) = let f = starts_as s b w t in absurd (grind (arith, nat_tests))

-- a token that begins with a double quote is a string
pub code_string : (k : TokenKind) (c : Text) (b : ℕ) (w : Text) → b ≡ 34 → IsSpelled place.Code k c (b ∷ w) → (k ≡ kind.Str) × IsQuoted 34 alphabets.Str c (b ∷ w)
code_string kind.Lower c b w h (e, t) = let d : (is_small b || b == 95) ≡ true = and_left _ _ (and_left _ _ t) in absurd (grind (arith, nat_tests))
code_string kind.Upper c b w h (e, t) = let d : is_capital b ≡ true = and_left _ _ t in absurd (grind (arith, nat_tests))
code_string (kind.Int n) c b w h (e, t, v) = let d : is_digit b ≡ true = and_left _ _ t in absurd (grind (arith, nat_tests))
code_string kind.Str c b w h t = (refl, t)
code_string kind.SqlText c b w h (i, e, r) = let p : b ≡ 39 = cc in absurd (omega arith)
code_string kind.XmlText c b w h t = absurd t
code_string kind.Word c b w h t = absurd t
code_string (kind.Keyword k) c b w h (e, t) = let f : is_small b ≡ true = ap (λ z. is_small (slice_index z 0)) t ∙ keyword_start k in absurd (grind (arith, nat_tests))
code_string (kind.Symbol s) c b w h (e, t, st) = let f = starts_as s b w t in absurd (grind (arith, nat_tests))

-- a token that begins with a quote is an sqltext
pub code_sql : (k : TokenKind) (c : Text) (b : ℕ) (w : Text) → b ≡ 39 → IsSpelled place.Code k c (b ∷ w) → (k ≡ kind.SqlText) × IsQuoted 39 alphabets.Sql c (b ∷ w)
code_sql kind.Lower c b w h (e, t) = let d : (is_small b || b == 95) ≡ true = and_left _ _ (and_left _ _ t) in absurd (grind (arith, nat_tests))
code_sql kind.Upper c b w h (e, t) = let d : is_capital b ≡ true = and_left _ _ t in absurd (grind (arith, nat_tests))
code_sql (kind.Int n) c b w h (e, t, v) = let d : is_digit b ≡ true = and_left _ _ t in absurd (grind (arith, nat_tests))
code_sql kind.SqlText c b w h t = (refl, t)
code_sql kind.Str c b w h (i, e, r) = let p : b ≡ 34 = cc in absurd (omega arith)
code_sql kind.XmlText c b w h t = absurd t
code_sql kind.Word c b w h t = absurd t
code_sql (kind.Keyword k) c b w h (e, t) = let f : is_small b ≡ true = ap (λ z. is_small (slice_index z 0)) t ∙ keyword_start k in absurd (grind (arith, nat_tests))
code_sql (kind.Symbol s) c b w h (e, t, st) = let f = starts_as s b w t in absurd (grind (arith, nat_tests))

-- any other token of the language is a symbol
pub code_symbol : (k : TokenKind) (c : Text) (b : ℕ) (w : Text) → starts_symbol b ≡ true → IsSpelled place.Code k c (b ∷ w) →
    (s : Symbol) × (k ≡ kind.Symbol s) × (b ∷ w ≡ symbol_text s) × (stands_in s place.Code ≡ true)
code_symbol kind.Lower c b w h (e, t) = let d : (is_small b || b == 95) ≡ true = and_left _ _ (and_left _ _ t) in absurd (grind (arith, nat_tests))
code_symbol kind.Upper c b w h (e, t) = let d : is_capital b ≡ true = and_left _ _ t in absurd (grind (arith, nat_tests))
code_symbol (kind.Int n) c b w h (e, t, v) = let d : is_digit b ≡ true = and_left _ _ t in absurd (grind (arith, nat_tests))
code_symbol kind.Str c b w h (i, e, r) = let p : b ≡ 34 = cc in absurd (grind (arith, nat_tests))
code_symbol kind.SqlText c b w h (i, e, r) = let p : b ≡ 39 = cc in absurd (grind (arith, nat_tests))
code_symbol kind.XmlText c b w h t = absurd t
code_symbol kind.Word c b w h t = absurd t
code_symbol (kind.Keyword k) c b w h (e, t) = let f : is_small b ≡ true = ap (λ z. is_small (slice_index z 0)) t ∙ keyword_start k in absurd (grind (arith, nat_tests))
code_symbol (kind.Symbol s) c b w h (e, t, st) = (s, refl, t, st)

-- ---- XML text

no_piece_bracket : (b : ℕ) (w : Text) → (b ≡ 60) ⊎ (b ≡ 123) → first_piece alphabets.Xml (b ∷ w) ≡ None
no_piece_bracket b w (inl e) = rw e refl
no_piece_bracket b w (inr e) = rw e refl

no_bracket : (b : ℕ) (w : Text) (n : ℕ) (m : Text) → (b == 60 || b == 123) ≡ true → Some (n, m) ≡ first_piece alphabets.Xml (b ∷ w) → ⊥
no_bracket b w n m h f =
    let e : (b ≡ 60) ⊎ (b ≡ 123) = grind (arith, nat_tests) in
    let g = no_piece_bracket b w e in
    cc

no_bracket_at : (b : ℕ) (w : Text) (t : Bool) → (b == 60 || b == 123) ≡ t → (n : ℕ) (m : Text) → Some (n, m) ≡ first_piece alphabets.Xml (b ∷ w) → t ≡ false
no_bracket_at b w false h n m f = refl
no_bracket_at b w true h n m f = absurd (no_bracket b w n m h f)

text_start_at : (i c : Text) → Reads (IsPiece alphabets.Xml) i c → (b : ℕ) (w : Text) → i ≡ b ∷ w → (b == 60 || b == 123) ≡ false
text_start_at i c end b w e = absurd (cc)
text_start_at i c (more {spelled = s} {meant = m} {bytes = x} p r) b w e =
    let f = sym (first_of_piece alphabets.Xml s m x p) ∙ ap (first_piece alphabets.Xml) e in
    no_bracket_at b w _ refl (length s) m f

-- XML text begins with neither `<` nor `{`
pub text_start : (b : ℕ) (w c : Text) → Reads (IsPiece alphabets.Xml) (b ∷ w) c → (b == 60 || b == 123) ≡ false
text_start b w c r = text_start_at (b ∷ w) c r b w refl

-- a token that begins with `<` or `{` is a symbol
pub markup_symbol : (k : TokenKind) (c : Text) (b : ℕ) (w : Text) → (b == 60 || b == 123) ≡ true → IsSpelled place.Markup k c (b ∷ w) →
    (s : Symbol) × (k ≡ kind.Symbol s) × (b ∷ w ≡ symbol_text s) × (stands_in s place.Markup ≡ true)
markup_symbol kind.XmlText c b w h (e, t) = let f = text_start b w c t in absurd (cc)
markup_symbol (kind.Symbol s) c b w h (e, t, st) = (s, refl, t, st)
markup_symbol kind.Lower c b w h t = absurd t
markup_symbol kind.Upper c b w h t = absurd t
markup_symbol (kind.Int n) c b w h t = absurd t
markup_symbol kind.Str c b w h t = absurd t
markup_symbol kind.SqlText c b w h t = absurd t
markup_symbol kind.Word c b w h t = absurd t
markup_symbol (kind.Keyword k) c b w h t = absurd t

-- any other token is XML text
pub markup_text : (k : TokenKind) (c : Text) (b : ℕ) (w : Text) → (b == 60 || b == 123) ≡ false → IsSpelled place.Markup k c (b ∷ w) →
    (k ≡ kind.XmlText) × Reads (IsPiece alphabets.Xml) (b ∷ w) c
markup_text kind.XmlText c b w h (e, t) = (refl, t)
markup_text (kind.Symbol s) c b w h (e, t, st) = let f : (b == 60 || b == 123) ≡ true = ap (λ z. slice_index z 0 == 60 || slice_index z 0 == 123) t ∙ markup_start s st in absurd (cc)
markup_text kind.Lower c b w h t = absurd t
markup_text kind.Upper c b w h t = absurd t
markup_text (kind.Int n) c b w h t = absurd t
markup_text kind.Str c b w h t = absurd t
markup_text kind.SqlText c b w h t = absurd t
markup_text kind.Word c b w h t = absurd t
markup_text (kind.Keyword k) c b w h t = absurd t

-- ---- tags

-- what begins as a word goes on as a word
pub tag_word : (k : TokenKind) (c : Text) (b : ℕ) (w : Text) → is_small b ≡ true → IsSpelled place.Tag k c (b ∷ w) → list_all is_in_word w ≡ true
tag_word kind.Word c b w h (e, t) = and_right (is_small b) _ t
tag_word kind.Str c b w h (i, e, r) = let p : b ≡ 34 = cc in absurd (grind (arith, nat_tests))
tag_word (kind.Symbol s) c b w h (e, t, st) = let f = starts_as s b w t in absurd (grind (arith, nat_tests))
tag_word kind.Lower c b w h t = absurd t
tag_word kind.Upper c b w h t = absurd t
tag_word (kind.Int n) c b w h t = absurd t
tag_word kind.SqlText c b w h t = absurd t
tag_word kind.XmlText c b w h t = absurd t
tag_word (kind.Keyword k) c b w h t = absurd t

-- a token that begins with a double quote is a string
pub tag_string : (k : TokenKind) (c : Text) (b : ℕ) (w : Text) → b ≡ 34 → IsSpelled place.Tag k c (b ∷ w) → (k ≡ kind.Str) × IsQuoted 34 alphabets.Attr c (b ∷ w)
tag_string kind.Word c b w h (e, t) = let d : is_small b ≡ true = and_left _ _ t in absurd (grind (arith, nat_tests))
tag_string kind.Str c b w h t = (refl, t)
tag_string (kind.Symbol s) c b w h (e, t, st) = let f = starts_as s b w t in absurd (grind (arith, nat_tests))
tag_string kind.Lower c b w h t = absurd t
tag_string kind.Upper c b w h t = absurd t
tag_string (kind.Int n) c b w h t = absurd t
tag_string kind.SqlText c b w h t = absurd t
tag_string kind.XmlText c b w h t = absurd t
tag_string (kind.Keyword k) c b w h t = absurd t

-- any other token is a symbol
pub tag_symbol : (k : TokenKind) (c : Text) (b : ℕ) (w : Text) → (is_small b || b == 34) ≡ false → IsSpelled place.Tag k c (b ∷ w) →
    (s : Symbol) × (k ≡ kind.Symbol s) × (b ∷ w ≡ symbol_text s) × (stands_in s place.Tag ≡ true)
tag_symbol kind.Word c b w h (e, t) = let d : is_small b ≡ true = and_left _ _ t in absurd (grind (arith, nat_tests))
tag_symbol kind.Str c b w h (i, e, r) = let p : b ≡ 34 = cc in absurd (grind (arith, nat_tests))
tag_symbol (kind.Symbol s) c b w h (e, t, st) = (s, refl, t, st)
tag_symbol kind.Lower c b w h t = absurd t
tag_symbol kind.Upper c b w h t = absurd t
tag_symbol (kind.Int n) c b w h t = absurd t
tag_symbol kind.SqlText c b w h t = absurd t
tag_symbol kind.XmlText c b w h t = absurd t
tag_symbol (kind.Keyword k) c b w h t = absurd t

-- From what a reader finds to a front of the bytes.
use Rattle.std.proofs.Common.{◌≡◌, ◌≢◌, ℕ, ◌+◌, ◌<◌, zero, suc, Bool, true, false, ◌||◌, ◌==◌, [], ◌∷◌, length, take, drop, Option, Some, None, Result, Ok, Err, refl, sym, ap, subst, ◌∙◌, arith}
use Rattle.std.specs.Prelude.{slice_index, IfOk, MatchOption}
use Rattle.std.proofs.lemmas.Bool.Decides.{nat_tests}
use Rattle.std.proofs.lemmas.List.{get_or-drop}
use Rattle.ur_lex.specs.declared.front.Found.{Found}
use Rattle.ur_lex.specs.declared.mode.Mode.{Mode}
use Rattle.ur_lex.specs.declared.mode.Mode.TheVariants as place
use Rattle.ur_lex.specs.declared.pieces.Alphabet.TheVariants as alphabets
use Rattle.ur_lex.specs.declared.token.Symbol.{Symbol}
use Rattle.ur_lex.specs.declared.token.TokenKind.{TokenKind}
use Rattle.ur_lex.specs.declared.token.TokenKind.TheVariants as kind
use Rattle.ur_lex.specs.Spelling.{Text}
use Rattle.ur_lex.specs.Spelling.{is_small, is_capital, is_digit, symbol_text}
use Rattle.ur_lex.specs.Lexing.{IsFront, may_follow, opens_comment}
use Rattle.ur_lex.specs.Scanning.{IsFound, IsClosed, IsUnclosed, OnlySymbols, IsLongestSymbol, starts_symbol}
use Rattle.ur_lex.proofs.Firsts.{code_symbol, markup_symbol, tag_symbol}
use Rattle.ur_lex.proofs.Fronts.{some_token, mark_front, bad_mark}
use Rattle.ur_lex.proofs.Quotes.{string_front, no_string, sql_front, no_sql, attr_front, no_attr}

pub if_ok3 : {X Y : Type 0} (r : Result X Y) (P Q R S : X → Type 0) → ((x : X) → P x → Q x → R x → S x) → IfOk r P → IfOk r Q → IfOk r R → IfOk r S
if_ok3 (Ok x) P Q R S f p q s = f x p q s
if_ok3 (Err e) P Q R S f p q s = p

-- a front by other names for its parts
pub front_of : {m : Mode} {k l : TokenKind} {c d : Text} {n p : ℕ} {bytes : Text} → l ≡ k → d ≡ c → p ≡ n → IsFront m k c n bytes → IsFront m l d p bytes
front_of {m} {k} {l} {c} {d} {n} {p} {bytes} a b e f =
    subst (λ z. IsFront m z d p bytes) (sym a) (subst (λ z. IsFront m k z p bytes) (sym b) (subst (λ z. IsFront m k c z bytes) (sym e) f))

-- ---- quotes

pub string_found : (bytes : Text) → slice_index bytes 0 ≡ 34 → (o : Option Found) → MatchOption o (IsUnclosed alphabets.Str bytes) (λ f. (f.kind ≡ kind.Str) × IsClosed alphabets.Str f.content f.len bytes) → IsFound place.Code bytes o
string_found bytes e None h = no_string bytes e h
string_found bytes e (Some f) (k, t) = front_of k refl refl (string_front bytes f.content f.len e t)

pub sql_found : (bytes : Text) → slice_index bytes 0 ≡ 39 → (o : Option Found) → MatchOption o (IsUnclosed alphabets.Sql bytes) (λ f. (f.kind ≡ kind.SqlText) × IsClosed alphabets.Sql f.content f.len bytes) → IsFound place.Code bytes o
sql_found bytes e None h = no_sql bytes e h
sql_found bytes e (Some f) (k, t) = front_of k refl refl (sql_front bytes f.content f.len e t)

pub attr_found : (bytes : Text) → slice_index bytes 0 ≡ 34 → (o : Option Found) → MatchOption o (IsUnclosed alphabets.Attr bytes) (λ f. (f.kind ≡ kind.Str) × IsClosed alphabets.Attr f.content f.len bytes) → IsFound place.Tag bytes o
attr_found bytes e None h = no_attr bytes e h
attr_found bytes e (Some f) (k, t) = front_of k refl refl (attr_front bytes f.content f.len e t)

-- ---- symbols

behind : (bytes : Text) (n : ℕ) → slice_index bytes n ≡ slice_index (drop n bytes) 0
behind bytes n = let e : n ≡ n + 0 = omega arith in ap (λ z. slice_index bytes z) e ∙ sym (get_or-drop n bytes 0 0)

pub mark_found : (m : Mode) (bytes : Text) (s : Symbol) → OnlySymbols m bytes → IsLongestSymbol m bytes s → may_follow m s (slice_index bytes (length (symbol_text s))) ≡ true →
    (m ≡ place.Code → opens_comment bytes ≡ false) → IsFront m (kind.Symbol s) (symbol_text s) (length (symbol_text s)) bytes
mark_found m bytes s only l f free = mark_front m bytes s only l (ap (may_follow m s) (sym (behind bytes (length (symbol_text s)))) ∙ f) free

pub mark_missed : (m : Mode) (bytes : Text) (s : Symbol) → OnlySymbols m bytes → IsLongestSymbol m bytes s → may_follow m s (slice_index bytes (length (symbol_text s))) ≡ false →
    (k : TokenKind) (c : Text) (n : ℕ) → IsFront m k c n bytes → ⊥
mark_missed m bytes s only l f = bad_mark m bytes s only l (ap (may_follow m s) (sym (behind bytes (length (symbol_text s)))) ∙ f)

pub code_only : (bytes : Text) → 0 < length bytes → starts_symbol (slice_index bytes 0) ≡ true → OnlySymbols place.Code bytes
code_only [] l h k c n s = absurd (omega (arith, l))
code_only (b ∷ w) l h k c zero s = absurd (some_token place.Code k c s)
code_only (b ∷ w) l h k c (suc n) s = code_symbol k c b (take n w) h s

pub markup_only : (bytes : Text) → 0 < length bytes → (slice_index bytes 0 == 60 || slice_index bytes 0 == 123) ≡ true → OnlySymbols place.Markup bytes
markup_only [] l h k c n s = absurd (omega (arith, l))
markup_only (b ∷ w) l h k c zero s = absurd (some_token place.Markup k c s)
markup_only (b ∷ w) l h k c (suc n) s = markup_symbol k c b (take n w) h s

pub tag_only : (bytes : Text) → 0 < length bytes → (is_small (slice_index bytes 0) || slice_index bytes 0 == 34) ≡ false → OnlySymbols place.Tag bytes
tag_only [] l h k c n s = absurd (omega (arith, l))
tag_only (b ∷ w) l h k c zero s = absurd (some_token place.Tag k c s)
tag_only (b ∷ w) l h k c (suc n) s = tag_symbol k c b (take n w) h s

other_byte : (b : ℕ) → is_small b ≡ false → is_capital b ≡ false → (b ≡ 95 → ⊥) → is_digit b ≡ false → (b ≡ 34 → ⊥) → (b ≡ 39 → ⊥) → starts_symbol b ≡ true
other_byte b s k n d q r = grind (arith, nat_tests)

pub other_start : (b first : ℕ) (s k d : Bool) → first ≡ b → s ≡ is_small first → s ≡ false → k ≡ is_capital first → k ≡ false → first ≢ 95 → d ≡ is_digit first → d ≡ false → first ≢ 34 → first ≢ 39 → starts_symbol b ≡ true
other_start b first s k d e hs fs hk fk n hd fd q r = other_byte b (sym (ap is_small e) ∙ sym hs ∙ fs) (sym (ap is_capital e) ∙ sym hk ∙ fk) (λ z. n (e ∙ z)) (sym (ap is_digit e) ∙ sym hd ∙ fd) (λ z. q (e ∙ z)) (λ z. r (e ∙ z))

-- What ends before a token, by the classes of tokens that go on.
use Rattle.std.specs.Prelude.{◌≡◌, ℕ, Bool, true, false, List, [], ◌∷◌, drop, slice_get, Some, refl}
use Rattle.std.specs.Str.{bytes_eq}
use Rattle.std.proofs.Common.{sym, ◌∙◌}
use Rattle.std.proofs.lemmas.Slice.Eq.{bytes_eq-Decides}
use Rattle.ur_lex.specs.declared.token.TokenKind.{TokenKind}
use Rattle.ur_lex.specs.declared.token.Lexeme.{Lexeme}
use Rattle.ur_lex.specs.Spelling.{Text}
use Rattle.ur_parse_rules.specs.Rules.{Stops}
use Rattle.ur_parse_rules.specs.KindNumbers.{kind_number, all_kinds}
use Rattle.ur_parse_rules.specs.Places.{IsAt, Other, OfKind, Spelled}
use Rattle.ur_parse_rules.proofs.Choices.{kind_is}
use Rattle.ur_parse_rules.specs.Classes.{Classes, member, in_class, word_class}
use Rattle.ur_parse_rules.proofs.Tests.{is_not, or_true, and_left, and_right, within, inside}

-- where nothing of some classes stands, nothing of classes within them does
pub stops_within : (a b : Classes) → within a b ≡ true → (ts : List Lexeme) → Stops (member b) ts → Stops (member a) ts
stops_within a b i [] s = tt
stops_within a b i (t ∷ ts) s = is_not (member a t.kind t.content) (λ m. sym s ∙ inside a b t.kind t.content i m)

-- a token that does not go on stands there
pub stops_at : {tokens : List Lexeme} {i j : ℕ} {k : TokenKind} (g : TokenKind → Text → Bool) → IsAt tokens i j (OfKind k) → ((w : Text) → g k w ≡ false) → Stops g (drop i tokens)
stops_at g a h = let s = a.at.split in let q = a.is in rw (s, q) (h a.t.content)

same_words : (w u : Text) → bytes_eq w u ≡ true → w ≡ u
same_words w u e = (bytes_eq-Decides w u).0 e

-- where a word does not stand, nothing goes on by it
no_word_at : (k : TokenKind) (w : Text) (ts : List Lexeme) → slice_get all_kinds (kind_number k) ≡ Some k → ((t : Lexeme) (us : List Lexeme) → ts ≡ t ∷ us → Spelled k w t → ⊥) → Stops (member (word_class k w ∷ [])) ts
no_word_at k w [] l f = tt
no_word_at k w (t ∷ us) l f = is_not (member (word_class k w ∷ []) t.kind t.content) (λ m. or_true (in_class (word_class k w) t.kind t.content) false m
    (λ h. absurd (f t us refl (kind_is k t.kind l (and_left _ _ h), same_words t.content w (and_right _ _ h)))) (λ h. h))

pub word_missing : {tokens : List Lexeme} {i : ℕ} {k : TokenKind} {w : Text} → slice_get all_kinds (kind_number k) ≡ Some k → Other tokens i (Spelled k w) → Stops (member (word_class k w ∷ [])) (drop i tokens)
word_missing {k = k} {w = w} l o = no_word_at k w _ l (λ t us e s. o.other t us e s)

-- Words that are missing, by class.
use Rattle.std.specs.Prelude.{◌≡◌, ℕ, Bool, true, false, ◌==◌, List, [], ◌∷◌, drop, slice_get, Some, refl}
use Rattle.std.proofs.lemmas.Slice.Eq.{bytes_eq-Decides}
use Rattle.ur_lex.specs.declared.token.TokenKind.{TokenKind}
use Rattle.ur_lex.specs.declared.token.Lexeme.{Lexeme}
use Rattle.ur_lex.specs.Spelling.{Text}
use Rattle.ur_parse_rules.specs.Rules.{Stops}
use Rattle.ur_parse_rules.specs.KindNumbers.{kind_number, all_kinds}
use Rattle.ur_parse_rules.specs.Places.{Other, Spelled, Passing}
use Rattle.ur_parse_rules.proofs.Choices.{kind_is}
use Rattle.ur_parse_rules.specs.Classes.{member, in_class, word_class, named_class}
use Rattle.ur_parse_rules.proofs.Tests.{is_not, or_true, and_left, and_right, false_true}

word_at : (k : TokenKind) (w : Text) (ts : List Lexeme) → slice_get all_kinds (kind_number k) ≡ Some k → ((t : Lexeme) (us : List Lexeme) → ts ≡ t ∷ us → (t.kind ≡ k) × (t.content ≡ w) → ⊥) → Stops (member (word_class k w ∷ [])) ts
word_at k w [] l f = tt
word_at k w (t ∷ us) l f = is_not (member (word_class k w ∷ []) t.kind t.content) (λ m. let h = or_true (in_class (word_class k w) t.kind t.content) false m (λ h. h) (λ h. false_true h) in
    absurd (f t us refl (kind_is k t.kind l (and_left (kind_number k == kind_number t.kind) _ h), (bytes_eq-Decides t.content w).0 (and_right (kind_number k == kind_number t.kind) _ h))))

-- where a word is missing, none of its class goes on
pub no_word : {tokens : List Lexeme} {i : ℕ} {k : TokenKind} {w : Text} → slice_get all_kinds (kind_number k) ≡ Some k → Other tokens i (Spelled k w) → Stops (member (word_class k w ∷ [])) (drop i tokens)
no_word {tokens = tokens} {i = i} {k = k} {w = w} l o = word_at k w (drop i tokens) l (λ t us e q. o.other t us e q)

name_at : (k : TokenKind) (ok : Text → Bool) (ts : List Lexeme) → slice_get all_kinds (kind_number k) ≡ Some k → ((t : Lexeme) (us : List Lexeme) → ts ≡ t ∷ us → (t.kind ≡ k) × (ok t.content ≡ true) → ⊥) → Stops (member (named_class k ok ∷ [])) ts
name_at k ok [] l f = tt
name_at k ok (t ∷ us) l f = is_not (member (named_class k ok ∷ []) t.kind t.content) (λ m. let h = or_true (in_class (named_class k ok) t.kind t.content) false m (λ h. h) (λ h. false_true h) in
    absurd (f t us refl (kind_is k t.kind l (and_left (kind_number k == kind_number t.kind) _ h), and_right (kind_number k == kind_number t.kind) _ h)))

-- where a name that passes a test is missing, none of its class goes on
pub no_name : {tokens : List Lexeme} {i : ℕ} {k : TokenKind} (ok : Text → Bool) → slice_get all_kinds (kind_number k) ≡ Some k → Other tokens i (Passing k ok) → Stops (member (named_class k ok ∷ [])) (drop i tokens)
no_name {tokens = tokens} {i = i} {k = k} ok l o = name_at k ok (drop i tokens) l (λ t us e q. o.other t us e q)

-- What readers cite of places in the tokens: kinds that are missing there, names, steps from place to place, and spans.
use Rattle.std.specs.Prelude.{◌≡◌, ◌<◌, ◌≤◌, ◌-◌, ◌+◌, ℕ, Bool, true, false, List, [], ◌∷◌, ◌++◌, length, drop, slice_get, IfSome, Some, refl}
use Rattle.std.proofs.Common.{sym, ◌∙◌, ap, subst, inl, inr, arith}
use Rattle.std.proofs.lemmas.Option.{slice_get_cases}
use Rattle.ur_base.specs.declared.refusal.Refusal.{Refusal}
use Rattle.ur_base.specs.Stopping.{Says}
use Rattle.ur_lex.specs.declared.token.TokenKind.{TokenKind}
use Rattle.ur_lex.specs.declared.token.Lexeme.{Lexeme}
use Rattle.ur_lex.specs.Spelling.{Text}
use Rattle.ur_parse_rules.specs.Rules.{Stops}
use Rattle.ur_parse_rules.specs.KindNumbers.{kind_number, all_kinds}
use Rattle.ur_parse_rules.specs.Places.{IsAt, IsName, Other, OfKind, Passing, Moves, only, span_of}
use Rattle.ur_parse_rules.proofs.Inversions.{nothing-out}
use Rattle.ur_parse_rules.proofs.Steps.{Failing, never_fits}
use Rattle.ur_parse_rules.proofs.Choices.{other_stops}
use Rattle.ur_parse_rules.proofs.Tokens.{content_at}
use Rattle.ur_parse_rules.specs.Classes.{Class, Classes, member, in_class, all_of}
use Rattle.ur_parse_rules.specs.Language.{language}
use Rattle.ur_parse_rules.specs.Forms.{up_to}
use Rattle.ur_parse_rules.proofs.Tests.{is_not, or_true, or_first, and_left, false_true}

-- ---- where a token of a kind is missing

class_stops : (k : TokenKind) (ts : List Lexeme) → Stops (only k) ts → Stops (member (all_of k ∷ [])) ts
class_stops k [] s = tt
class_stops k (t ∷ ts) s = is_not (member (all_of k ∷ []) t.kind t.content) (λ m. sym s ∙ or_true (in_class (all_of k) t.kind t.content) false m (λ h. and_left _ _ h) (λ h. false_true h))

pub missing : {tokens : List Lexeme} {i : ℕ} {k : TokenKind} → slice_get all_kinds (kind_number k) ≡ Some k → Other tokens i (OfKind k) → Stops (member (all_of k ∷ [])) (drop i tokens)
missing {k = k} l o = class_stops k _ (other_stops l o)

-- nor one of other classes
pub stops_cons : (c : Class) (b : Classes) (ts : List Lexeme) → Stops (member (c ∷ [])) ts → Stops (member b) ts → Stops (member (c ∷ b)) ts
stops_cons c b [] s u = tt
stops_cons c b (t ∷ ts) s u = is_not (member (c ∷ b) t.kind t.content) (λ m. or_true (in_class c t.kind t.content) (member b t.kind t.content) m (λ h. sym s ∙ or_first _ _ h) (λ h. sym u ∙ h))

-- what stands there is not missing
pub contradicted : {A : Type 0} {tokens : List Lexeme} {i j : ℕ} {Is : Lexeme → Type 0} → IsAt tokens i j Is → Other tokens i Is → A
contradicted a o = absurd (o.other a.t _ a.at.split a.is)

-- where no class of tokens goes on, anything stops
pub ends_empty : (ts : List Lexeme) → Stops (member []) ts
ends_empty [] = tt
ends_empty (t ∷ ts) = refl

-- what is read may not end here
pub may_not_end : {n : ℕ} {tokens : List Lexeme} {r : Refusal} {P : Unit {0} → List Lexeme → Type 0} → Says r 5 [] [] → (P tt tokens → ⊥) → Failing language n [] P tokens r
may_not_end {tokens = tokens} {P = P} says h = never_fits says (λ m v rest f pv. let z : tokens ≡ rest = f.split ∙ ap (λ y. y ++ rest) (nothing-out language f.spells) in h (subst (λ y. P tt y) (sym z) pv))

-- ---- names

-- a token whose content passes a test
pub passing : (ok : Text → Bool) (tokens : List Lexeme) (i : ℕ) (k : TokenKind) (w : Text) → IsAt tokens i (i + 1) (OfKind k) → IfSome (slice_get tokens i) (λ t. w ≡ t.content) → (b : Bool) → b ≡ ok w → b ≡ true → IsAt tokens i (i + 1) (Passing k ok)
passing ok tokens i k w a h b e f = record { next = refl; t = a.t; at = a.at; is = (a.is, ap ok (sym (content_at tokens i w a.t a.at h)) ∙ sym e ∙ f) }

-- a name that passes a test
pub passing_name : (ok : Text → Bool) (tokens : List Lexeme) (i : ℕ) (k : TokenKind) (w x : Text) → IsAt tokens i (i + 1) (Passing k ok) → IfSome (slice_get tokens i) (λ t. w ≡ t.content) → x ≡ w → IsName tokens i (i + 1) k ok x
passing_name ok tokens i k w x a h e = record { next = refl; t = a.t; at = a.at; kind = a.is.0; passes = a.is.1; is = e ∙ content_at tokens i w a.t a.at h }

-- ---- steps from place to place

module _ {tokens : List Lexeme} where
  pub name_moves : {i j : ℕ} {k : TokenKind} {ok : Text → Bool} {x : Text} → IsName tokens i j k ok x → Moves tokens i j
  name_moves a = let e = a.next in let l = a.at.below in record { on = omega (arith, e); within = omega (arith, e, l) }

  pub mark_moves : {i j : ℕ} {Is : Lexeme → Type 0} → IsAt tokens i j Is → Moves tokens i j
  mark_moves a = let e = a.next in let l = a.at.below in record { on = omega (arith, e); within = omega (arith, e, l) }

  pub moves_on : {i j k : ℕ} → Moves tokens i j → Moves tokens j k → Moves tokens i k
  moves_on m o = let a = m.on in let b = o.on in record { on = omega (arith, a, b); within = o.within }

-- ---- spans

-- a span that begins with one and ends with another
pub span_join : (tokens : List Lexeme) (i j l k : ℕ) → Moves tokens i j → Moves tokens l k → i < k → span_of tokens i k ≡ up_to (span_of tokens i j) (span_of tokens l k)
span_join tokens i j l k m m' lt = let a : i < j = m.on in let b : j ≤ length tokens = m.within in let c : l < k = m'.on in let d : k ≤ length tokens = m'.within in
    let o = (slice_get_cases tokens i).1 in let o' = (slice_get_cases tokens (j - 1)).1 in let p = (slice_get_cases tokens l).1 in let q = (slice_get_cases tokens (k - 1)).1 in
    elim o [
      | inr z ↦ absurd (omega (arith, z, a, b))
      | inl x ↦ (elim o' [
        | inr z ↦ absurd (omega (arith, z, a, b))
        | inl y ↦ (elim p [
          | inr z ↦ absurd (omega (arith, z, c, d))
          | inl u ↦ (elim q [ inr z ↦ absurd (omega (arith, z, c, d)) | inl v ↦ (let e = x.2 in let f = y.2 in let g = u.2 in let h = v.2 in rw (e, f, g, h) refl) ])
        ])
      ])
    ]

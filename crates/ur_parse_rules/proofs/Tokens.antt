-- The token at a place.
use Rattle.std.proofs.Common.{◌≡◌, ℕ, ◌+◌, ◌<◌, ◌≤◌, ◌^◌, Bool, true, false, List, ◌∷◌, length, drop, Some, refl, sym, ◌∙◌, ap, inl, inr, arith, add-one, drop-cons, get_or, ◌++◌, ◌-◌, length-append, length-drop}
use Rattle.std.specs.Prelude.{slice_get, IfSome}
use Rattle.std.proofs.lemmas.Option.{slice_get_cases, slice_get_read}
use Rattle.std.proofs.lemmas.List.{get_or-drop, get_or_append_left}
use Rattle.ur_parse_rules.specs.Rules.{Covers}
use Rattle.ur_base.specs.declared.refusal.Span.{Span}
use Rattle.ur_lex.specs.declared.token.TokenKind.{TokenKind}
use Rattle.ur_lex.specs.declared.token.Lexeme.{Lexeme}
use Rattle.ur_lex.specs.Spelling.{Text}
use Rattle.ur_parse_rules.specs.Places.{At, IsAt, IsName, Other, Sees, starts, Moves, span_of, OfKind, Passing, any}

pub at_place : (tokens : List Lexeme) (i : ℕ) (t : Lexeme) → i < length tokens → i + 1 < 2 ^ 64 → get_or tokens i t ≡ t → At tokens i t
at_place tokens i t l f e = record { below = l; fits = f; split = let z : drop i tokens ≡ get_or tokens i t ∷ drop (i + 1) tokens = rw add-one (drop-cons tokens i t l) in rw e at z }

pub sees : (tokens : List Lexeme) (i : ℕ) (k : TokenKind) (s : Span) → i < length tokens → i + 1 < 2 ^ 64 → IfSome (slice_get tokens i) (λ t. (k ≡ t.kind) × (s ≡ t.span)) → Sees tokens i (Some k)
sees tokens i k s l f h = let o = (slice_get_cases tokens i).1 in
    elim o [ inl x ↦ (let g : (k ≡ x.0.kind) × (s ≡ x.0.span) = rw x.2 at h in (x.0, at_place tokens i x.0 l f x.3, sym g.0)) | inr b ↦ absurd (omega (arith, l, b)) ]

pub at_get : (tokens : List Lexeme) (i : ℕ) (t : Lexeme) → At tokens i t → slice_get tokens i ≡ Some t
at_get tokens i t a = let o = (slice_get_cases tokens i).1 in
    elim o [
      | inl x ↦ (let z : drop i tokens ≡ get_or tokens i x.0 ∷ drop (i + 1) tokens = rw add-one (drop-cons tokens i x.0 a.below) in
          let w : t ≡ x.0 = (let q : t ∷ drop (i + 1) tokens ≡ get_or tokens i x.0 ∷ drop (i + 1) tokens = sym a.split ∙ z in let u : get_or tokens i x.0 ≡ x.0 = x.3 in cc) in rw w x.2)
      | inr b ↦ absurd (let y = a.below in omega (arith, y, b))
    ]

-- a token that stands first from a place
pub at_of : (tokens : List Lexeme) (i : ℕ) (u t : Lexeme) (rest : List Lexeme) → At tokens i u → drop i tokens ≡ t ∷ rest → At tokens i t
at_of tokens i u t rest a e = let same : u ≡ t = (let s : drop i tokens ≡ u ∷ drop (i + 1) tokens = a.split in cc) in rw (← same) a

pub content_at : (tokens : List Lexeme) (i : ℕ) (w : Text) (t : Lexeme) → At tokens i t → IfSome (slice_get tokens i) (λ t. w ≡ t.content) → w ≡ t.content
content_at tokens i w t a h = rw (at_get tokens i t a) at h

-- the token at an offset within a range
in_range : (tokens taken rest : List Lexeme) (i k : ℕ) (x : Lexeme) → drop i tokens ≡ taken ++ rest → k < length taken → get_or tokens (i + k) x ≡ x → slice_get taken k ≡ Some x
in_range tokens taken rest i k x e l g = let a : get_or (taken ++ rest) k x ≡ get_or taken k x = get_or_append_left taken rest x k l in
    let b : get_or (drop i tokens) k x ≡ get_or tokens (i + k) x = get_or-drop i tokens k x in
    let c : get_or (drop i tokens) k x ≡ get_or (taken ++ rest) k x = ap (λ z. get_or z k x) e in
    slice_get_read taken (length taken) k x refl l (let z : x ≡ get_or taken k x = sym g ∙ sym b ∙ c ∙ a in z)

-- the span of the tokens from one place up to another, as it is computed
pub span_is : (tokens : List Lexeme) (i j : ℕ) (k k' : TokenKind) (s s' : Span) → i < length tokens → j - 1 < length tokens → IfSome (slice_get tokens i) (λ t. (k ≡ t.kind) × (s ≡ t.span)) →
    IfSome (slice_get tokens (j - 1)) (λ t. (k' ≡ t.kind) × (s' ≡ t.span)) → record { file = s.file; from = s.from; to = s'.to } ≡ span_of tokens i j
span_is tokens i j k k' s s' l l' h h' = let o = (slice_get_cases tokens i).1 in let o' = (slice_get_cases tokens (j - 1)).1 in
    elim o [
      | inr b ↦ absurd (omega (arith, b, l))
      | inl x ↦ (elim o' [
        | inr b ↦ absurd (omega (arith, b, l'))
        | inl y ↦ (let g : (k ≡ x.0.kind) × (s ≡ x.0.span) = rw x.2 at h in let g' : (k' ≡ y.0.kind) × (s' ≡ y.0.span) = rw y.2 at h' in rw (x.2, y.2, g.1, g'.1) refl)
      ])
    ]

-- the computed span covers the tokens
pub covers : (tokens : List Lexeme) (i j : ℕ) → Moves tokens i j → (taken : List Lexeme) → drop i tokens ≡ taken ++ drop j tokens → Covers (span_of tokens i j) taken
covers tokens i j m taken e = let lt : i < j = m.on in let le : j ≤ length tokens = m.within in
    let n : length taken + (length tokens - j) ≡ length tokens - i = rw (← length-drop j tokens, ← length-append taken (drop j tokens), ← e) (length-drop i tokens) in
    let o = (slice_get_cases tokens i).1 in let o' = (slice_get_cases tokens (j - 1)).1 in
    elim o [
      | inr b ↦ absurd (omega (arith, b, lt, le))
      | inl x ↦ (elim o' [
        | inr b ↦ absurd (omega (arith, b, lt, le))
        | inl y ↦ (let z : i + 0 ≡ i = omega arith in let w : i + (length taken - 1) ≡ j - 1 = omega (arith, n, lt, le) in (
          x.0,
          y.0,
          in_range tokens taken (drop j tokens) i 0 x.0 e (omega (arith, n, lt, le)) (rw z x.3),
          in_range tokens taken (drop j tokens) i (length taken - 1) y.0 e (omega (arith, n, lt, le)) (rw w y.3),
          rw (x.2, y.2) refl,
        ))
      ])
    ]

pub starts_at : (more : TokenKind → Text → Bool) (tokens : List Lexeme) (i : ℕ) (k : TokenKind) (c : Text) (t : Lexeme) (b : Bool) → At tokens i t → t.kind ≡ k → c ≡ t.content → b ≡ more k c → b ≡ starts more (drop i tokens)
starts_at more tokens i k c t b a e f g = rw (a.split, e, ← f) g

pub any_name : (tokens : List Lexeme) (i : ℕ) (k : TokenKind) (w x : Text) → IsAt tokens i (i + 1) (OfKind k) → IfSome (slice_get tokens i) (λ t. w ≡ t.content) → x ≡ w → IsName tokens i (i + 1) k any x
any_name tokens i k w x a h g = record { next = refl; t = a.t; at = a.at; kind = a.is; passes = refl; is = g ∙ content_at tokens i w a.t a.at h }

-- a name that passes a test, and none
pub passing_name : (ok : Text → Bool) (tokens : List Lexeme) (i : ℕ) (k : TokenKind) (w x : Text) → IsAt tokens i (i + 1) (OfKind k) → IfSome (slice_get tokens i) (λ t. w ≡ t.content) → (b : Bool) → b ≡ ok w → b ≡ true → x ≡ w →
    IsName tokens i (i + 1) k ok x
passing_name ok tokens i k w x a h b e f g = let c = content_at tokens i w a.t a.at h in
    record { next = refl; t = a.t; at = a.at; kind = a.is; passes = ap ok (sym c) ∙ sym e ∙ f; is = g ∙ c }

pub no_passing : (ok : Text → Bool) (tokens : List Lexeme) (i : ℕ) (k : TokenKind) (w : Text) → IsAt tokens i (i + 1) (OfKind k) → IfSome (slice_get tokens i) (λ t. w ≡ t.content) → (b : Bool) → b ≡ ok w → b ≡ false → Other tokens i (Passing k ok)
no_passing ok tokens i k w a h b e f = record {
  other = λ t rest d is. let c = content_at tokens i w t (at_of tokens i a.t t rest a.at d) h in
      absurd (let z : false ≡ true = sym f ∙ e ∙ ap ok c ∙ is.1 in cc);
}

pub same_content : (tokens : List Lexeme) (i : ℕ) (w w' : Text) (t : Lexeme) → At tokens i t → IfSome (slice_get tokens i) (λ t. w ≡ t.content) → IfSome (slice_get tokens i) (λ t. w' ≡ t.content) → w ≡ w'
same_content tokens i w w' t a h h' = content_at tokens i w t a h ∙ sym (content_at tokens i w' t a h')

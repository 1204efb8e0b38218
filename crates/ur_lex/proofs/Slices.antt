-- The tokens of a file are pieces of it, in order.
use Rattle.std.proofs.Common.{◌≡◌, ℕ, ◌+◌, ◌-◌, ◌<◌, ◌≤◌, zero, suc, List, [], ◌∷◌, length, take, drop, Some, refl, sym, ap, subst, ◌∙◌, arith, inl, inr}
use Rattle.std.specs.Prelude.{slice_get, slice_range}
use Rattle.std.proofs.lemmas.List.{drop-drop, length-drop}
use Rattle.ur_lex.specs.declared.mode.Mode.{Mode}
use Rattle.ur_lex.specs.declared.mode.Mode.TheVariants as place
use Rattle.ur_lex.specs.declared.token.TokenKind.{TokenKind}
use Rattle.ur_lex.specs.declared.token.Lexeme.{Lexeme}
use Rattle.ur_lex.specs.Spelling.{Text}
use Rattle.ur_lex.specs.Spelling.{IsSpelled}
use Rattle.ur_lex.specs.Lexing.{IsFront, IsSeparator, IsBlank, AreSlices, Lexes, lexeme, finished, separator, token}
use Rattle.ur_lex.proofs.Fronts.{some_token}

blank_within : (n : ℕ) (bytes : Text) → IsBlank n bytes → n ≤ length bytes
blank_within n [] (e, b) = absurd (cc)
blank_within n (x ∷ w) (e, b) = omega (arith, e)

gap_within : (m : Mode) (n : ℕ) (bytes : Text) → IsSeparator m n bytes → n ≤ length bytes
gap_within place.Code n bytes (inl h) = blank_within n bytes h
gap_within place.Code n bytes (inr (o, l, a)) = l
gap_within place.Markup n bytes h = absurd h
gap_within place.Tag n bytes h = blank_within n bytes h

front_some : {m : Mode} {k : TokenKind} {c : Text} (n : ℕ) (bytes : Text) → IsFront m k c n bytes → 0 < n
front_some {m} {k} {c} zero bytes f = absurd (some_token m k c f.spelled)
front_some (suc n) bytes f = omega arith

-- a token behind a place, and the one after it
record Behind (bytes : Text) (at : ℕ) (ts : List Lexeme) (i : ℕ) (t : Lexeme) : Type 0 where
  pub later : at ≤ t.span.«from»
  pub some : t.span.«from» < t.span.to
  pub within : t.span.to ≤ length bytes
  pub spelled : (mode : Mode) × IsSpelled mode t.kind t.content (slice_range bytes t.span.«from» t.span.to)
  pub next : (u : Lexeme) → slice_get ts (suc i) ≡ Some u → t.span.to ≤ u.span.«from»

rest_there : (bytes rest : Text) (at n : ℕ) → drop at bytes ≡ rest → drop (at + n) bytes ≡ drop n rest
rest_there bytes rest at n e = sym (drop-drop n at bytes) ∙ ap (λ z. drop n z) e

behind : {file at : ℕ} {modes : List Mode} {rest : Text} {ts : List Lexeme} → Lexes file modes at rest ts → (bytes : Text) → drop at bytes ≡ rest → at ≤ length bytes → (i : ℕ) (t : Lexeme) → slice_get ts i ≡ Some t → Behind bytes at ts i t
behind (finished h) bytes e l i t g = absurd (cc)
behind {at = at} {rest = rest} (separator {mode = m} n s d) bytes e l i t g =
    let w = gap_within m n rest s in
    let len : length (drop at bytes) ≡ length rest = ap length e in
    let b = behind d bytes (rest_there bytes rest at n e) (omega (arith, l, w, len, length-drop at bytes)) i t g in
    record { later = omega (arith, b.later); some = b.some; within = b.within; spelled = b.spelled; next = b.next }
behind {file} {at} {modes} {rest} (token {mode = m} {tokens = us} k c n f d) bytes e l zero t g =
    let w = f.within in
    let p = front_some n rest f in
    let len : length (drop at bytes) ≡ length rest = ap length e in
    let is : lexeme file at k c n ≡ t = cc in
    let there = rest_there bytes rest at n e in
    let size : (at + n) - at ≡ n = omega arith in
    let cutout : slice_range bytes at (at + n) ≡ take n rest = ap (λ z. take z (drop at bytes)) size ∙ ap (λ z. take n z) e in
    let bound : at + n ≤ length bytes = omega (arith, l, w, len, length-drop at bytes) in
    subst (λ z. Behind bytes at (lexeme file at k c n ∷ us) zero z) is (record {
      later = omega arith;
      some = omega (arith, p);
      within = bound;
      spelled = (m, subst (λ z. IsSpelled m k c z) (sym cutout) f.spelled);
      next = λ u h. (behind d bytes there bound zero u h).later;
    })
behind {file} {at} {modes} {rest} (token {mode = m} {tokens = us} k c n f d) bytes e l (suc i) t g =
    let w = f.within in
    let len : length (drop at bytes) ≡ length rest = ap length e in
    let bound : at + n ≤ length bytes = omega (arith, l, w, len, length-drop at bytes) in
    let b = behind d bytes (rest_there bytes rest at n e) bound i t g in
    record { later = omega (arith, b.later); some = b.some; within = b.within; spelled = b.spelled; next = b.next }

pub slices : {file : ℕ} {modes : List Mode} {ts : List Lexeme} (bytes : Text) → Lexes file modes 0 bytes ts → AreSlices bytes ts
slices {ts = ts} bytes d i l t e =
    let b = behind d bytes refl (omega arith) i t e in
    let one : i + 1 ≡ suc i = omega arith in
    (b.some, b.within, b.spelled, λ u h. b.next u (ap (slice_get ts) (sym one) ∙ h))

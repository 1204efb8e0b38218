-- Where the text of a line stands.
use Rattle.std.proofs.Common.{◌≡◌, ◌∙◌, ℕ, ◌+◌, ◌-◌, ◌<◌, ◌≤◌, Bool, true, false, nat_lt, List, [], ◌∷◌, ◌++◌, length, take, drop, get_or, slice_range, refl, ap, sym, subst, arith}
use Rattle.std.specs.List.{prefix_len, suffix_len}
use Rattle.std.proofs.Math.Seq.{get_or-append_seam}
use Rattle.std.proofs.lemmas.Bool.{ltb-true, ltb-false}
use Rattle.std.proofs.lemmas.List.{length-take-le, length-drop, length-append, drop-drop, drop-take, take-take, take_rest, get_or_append_left}
use Rattle.std.proofs.lemmas.List.Sums.{prefix_len-le-length}
use Rattle.ur_load.specs.Lines.{is_space, line_ends, without_first, without_last}
use Rattle.ur_load.specs.declared.lines.Line.{Line}
use Rattle.ur_load.specs.Placed.{Stands, AreStanding}
use Rattle.ur_load.proofs.Counted.{number_in}

-- what is left of a front of the bytes is a front of the rest
behind_front : (front rest : List ℕ) (k : ℕ) → front ≡ take (length front) rest → k ≤ length front → drop k front ≡ take (length front - k) (drop k rest)
behind_front front rest k e h = let n : length front ≡ k + (length front - k) = omega arith in
    ap (drop k) (e ∙ ap (λ i. take i rest) n) ∙ drop-take k (length front - k) rest

cut_twice : (front rest : List ℕ) (k m : ℕ) → front ≡ take (length front) rest → k ≤ length front → m ≤ length front - k → take m (drop k front) ≡ take m (drop k rest)
cut_twice front rest k m e h j = ap (take m) (behind_front front rest k e h) ∙ take-take m (length front - k) (drop k rest) j

pub place_of : (bytes whole rest text : List ℕ) (at : ℕ) → whole ≡ take (length whole) (take (length bytes - at) (drop at bytes)) → rest ≡ without_first is_space whole → text ≡ without_last is_space rest
    → slice_range bytes (at + (length whole - length rest)) (at + (length whole - length rest) + length text) ≡ text
place_of bytes whole rest text at w r t =
    let k : ℕ = prefix_len is_space whole in let m : ℕ = length rest - suffix_len is_space rest in
    let below : k ≤ length whole = prefix_len-le-length is_space whole in
    let left : length rest ≡ length whole - k = ap length r ∙ length-drop k whole in
    let many : m ≤ length rest = omega arith in
    let size : length text ≡ m = ap length t ∙ length-take-le m rest many in
    let gone : length whole - length rest ≡ k = omega arith in
    let len : (at + k + m) - (at + k) ≡ m = omega arith in
    let front : whole ≡ take (length whole) (drop at bytes) = w ∙ ap (take (length whole)) (take_rest bytes at) in
    rw (gone, size, len) (ap (take m) (sym (drop-drop k at bytes)) ∙ sym (cut_twice whole (drop at bytes) k m front below (omega arith)) ∙ ap (take m) (sym r) ∙ sym t)

pub number_of : (bytes whole rest : List ℕ) (at : ℕ) → whole ≡ take (length whole) (take (length bytes - at) (drop at bytes)) → rest ≡ without_first is_space whole → line_ends whole ≡ 0
    → line_ends (take (at + (length whole - length rest)) bytes) ≡ line_ends (take at bytes)
number_of bytes whole rest at w r n = number_in bytes whole at (length whole - length rest) (w ∙ ap (take (length whole)) (take_rest bytes at)) (omega arith) n

pub stands_at : (bytes whole rest text copy : List ℕ) (at taken : ℕ) → whole ≡ take (length whole) (take (length bytes - at) (drop at bytes)) → rest ≡ without_first is_space whole → text ≡ without_last is_space rest → copy ≡ text
    → line_ends whole ≡ 0 → length text ≤ length rest → length rest ≤ length whole → length whole ≤ taken → at + taken ≤ length bytes
    → Stands bytes (line_ends (take at bytes)) (record { span = record { file = 0; «from» = at + (length whole - length rest); to = at + (length whole - length rest) + length text }; text = copy })
stands_at bytes whole rest text copy at taken w r t e n a b d f = record {
  file = refl;
  before = number_of bytes whole rest at w r n;
  ends = ap (λ (l : List ℕ). at + (length whole - length rest) + length l) (sym e);
  within = omega arith;
  place = place_of bytes whole rest text at w r t ∙ sym e;
}

-- ---- all lines

pub more_standing : (bytes : List ℕ) (found : List Line) (line : Line) → AreStanding bytes found → Stands bytes (length found) line → AreStanding bytes (found ++ line ∷ [])
more_standing bytes found line a s i x below is = by (nat_lt i (length found)) refl where
  by : (t : Bool) → nat_lt i (length found) ≡ t → Stands bytes i x
  by true e = let h : i < length found = ltb-true i (length found) e in a i x h (is ∙ get_or_append_left found (line ∷ []) x i h)
  by false e = let past : length found ≤ i = ltb-false i (length found) e in
      let last : i ≡ length found = omega (arith, length-append found (line ∷ [])) in
      let same : x ≡ line = is ∙ ap (λ k. get_or (found ++ line ∷ []) k x) last ∙ get_or-append_seam found line [] x in
      subst (λ y. Stands bytes i y) (sym same) (subst (λ k. Stands bytes k line) (sym last) s)

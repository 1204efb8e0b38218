-- A connection's input, cut in pieces.
use Rattle.std.proofs.Common.{◌≡◌, ℕ, zero, suc, ◌+◌, ◌-◌, ◌<◌, ◌≤◌, List, [], ◌∷◌, ◌++◌, length, take, drop, get_or, nat_lt, false, inl, inr, subst, refl, sym, ap, ◌∙◌, arith, length-append}
use Rattle.std.proofs.lemmas.Bool.{cases_lt}
use Rattle.std.proofs.lemmas.Bool.Decides.{nat_tests}
use Rattle.std.proofs.lemmas.List.{append-nil, drop-append-le, length-drop, take_more}
use Rattle.std.proofs.lemmas.Grind.{flat_map-append}
use Rattle.std.proofs.Math.Seq.{drop-nil, drop-append-add}
use Rattle.ur_io.specs.Fronts.{IsFront}
use Rattle.ur_io.specs.Memory.{joined, place_of, piece_from}

piece_from-in : (place : ℕ) (piece : List ℕ) (pieces : List (List ℕ)) → place < length piece → piece_from place (piece ∷ pieces) ≡ drop place piece
piece_from-in place piece pieces within = grind (arith, nat_tests)

piece_from-after : (place : ℕ) (piece : List ℕ) (pieces : List (List ℕ)) →
    piece_from (length piece + place) (piece ∷ pieces) ≡ piece_from place pieces
piece_from-after place piece pieces =
    let same : (length piece + place) - length piece ≡ place = omega arith in
    let past : nat_lt (length piece + place) (length piece) ≡ false = grind (arith, nat_tests) in
    rw (past, same) refl

pub place_next : (pieces : List (List ℕ)) (piece at : ℕ) → piece < length pieces → at ≡ length (get_or pieces piece []) →
    place_of pieces (piece + 1) 0 ≡ place_of pieces piece at
place_next pieces piece at within whole =
    let last : List (List ℕ) = get_or pieces piece [] ∷ [] in
    let more : joined (take (piece + 1) pieces) ≡ joined (take piece pieces) ++ joined last =
    ap joined (take_more pieces piece [] within) ∙ flat_map-append (λ p. p) (take piece pieces) last in
    let one : joined last ≡ get_or pieces piece [] = append-nil (get_or pieces piece []) in
    omega (arith, ap length more, length-append (joined (take piece pieces)) (joined last), ap length one)

place_after : (first : List ℕ) (rest : List (List ℕ)) (piece at : ℕ) →
    place_of (first ∷ rest) (suc piece) at ≡ length first + place_of rest piece at
place_after first rest piece at = omega (arith, length-append first (joined (take piece rest)))

pub piece_here : (pieces : List (List ℕ)) (piece at : ℕ) → at < length (get_or pieces piece []) →
    piece_from (place_of pieces piece at) pieces ≡ drop at (get_or pieces piece [])
piece_here [] piece at within = absurd (omega arith)
piece_here (first ∷ rest) zero at within =
    let start : place_of (first ∷ rest) 0 at ≡ at = omega arith in
    ap (λ place. piece_from place (first ∷ rest)) start ∙ piece_from-in at first rest within
piece_here (first ∷ rest) (suc piece) at within =
    ap (λ place. piece_from place (first ∷ rest)) (place_after first rest piece at) ∙ piece_from-after (place_of rest piece at) first rest ∙
    piece_here rest piece at within

pub piece_none : (pieces : List (List ℕ)) (piece : ℕ) → length pieces ≤ piece → piece_from (place_of pieces piece 0) pieces ≡ []
piece_none [] piece past = refl
piece_none (first ∷ rest) zero past = absurd (omega arith)
piece_none (first ∷ rest) (suc piece) past =
    ap (λ place. piece_from place (first ∷ rest)) (place_after first rest piece 0) ∙ piece_from-after (place_of rest piece 0) first rest ∙
    piece_none rest piece (omega arith)

front_in : (place : ℕ) (piece : List ℕ) (pieces : List (List ℕ)) → place < length piece →
    IsFront (piece_from place (piece ∷ pieces)) (drop place (joined (piece ∷ pieces)))
front_in place piece pieces within =
    let some : place ≤ length piece = omega arith in
    (joined pieces, drop-append-le place piece (joined pieces) some ∙ ap (λ front. front ++ joined pieces) (sym (piece_from-in place piece pieces within)))

front_after : (place : ℕ) (piece : List ℕ) (pieces : List (List ℕ)) → IsFront (piece_from place pieces) (drop place (joined pieces)) →
    IsFront (piece_from (length piece + place) (piece ∷ pieces)) (drop (length piece + place) (joined (piece ∷ pieces)))
front_after place piece pieces (rest, e) =
    (rest, drop-append-add piece (joined pieces) place ∙ e ∙ ap (λ front. front ++ rest) (sym (piece_from-after place piece pieces)))

-- the piece is the front of what is left of the input
pub piece_is_front : (place : ℕ) (pieces : List (List ℕ)) → IsFront (piece_from place pieces) (drop place (joined pieces))
piece_is_front place [] = (drop {A = ℕ} place [], refl)
piece_is_front place (piece ∷ pieces) =
    elim (cases_lt place (length piece)) [
      | inl within ↦ front_in place piece pieces within
      | inr past ↦
          let k = place - length piece in
          let e : length piece + k ≡ place = omega arith in
          subst (λ n. IsFront (piece_from n (piece ∷ pieces)) (drop n (joined (piece ∷ pieces)))) e (front_after k piece pieces (piece_is_front k pieces))
    ]

-- no piece comes only where nothing is left
pub none_left : (place : ℕ) (pieces : List (List ℕ)) → piece_from place pieces ≡ [] → drop place (joined pieces) ≡ []
none_left place [] none = drop-nil place
none_left place (piece ∷ pieces) none =
    elim (cases_lt place (length piece)) [
      | inl within ↦ absurd (omega (arith, ap length (sym (piece_from-in place piece pieces within) ∙ none), length-drop place piece))
      | inr past ↦
          let k = place - length piece in
          let e : place ≡ length piece + k = omega arith in
          let rest : piece_from k pieces ≡ [] = sym (piece_from-after k piece pieces) ∙ ap (λ n. piece_from n (piece ∷ pieces)) (sym e) ∙ none in
          ap (λ n. drop n (joined (piece ∷ pieces))) e ∙ drop-append-add piece (joined pieces) k ∙ none_left k pieces rest
    ]

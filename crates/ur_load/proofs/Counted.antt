-- How many lines end in a front of the bytes.
use Rattle.std.proofs.Common.{◌≡◌, ◌∙◌, ℕ, suc, ◌+◌, ◌-◌, ◌<◌, ◌≤◌, Bool, true, false, ◌==◌, if◌then◌else◌, List, [], ◌∷◌, ◌++◌, length, take, drop, get_or, refl, ap, sym, subst, arith}
use Rattle.std.specs.List.{position_or_len}
use Rattle.std.proofs.Math.Seq.{take-add, take-length}
use Rattle.std.proofs.lemmas.List.{take-append-drop, get_or-take, length-drop, length-take-le, take-take, take_more, take_rest}
use Rattle.std.proofs.lemmas.List.Sums.{fails_before_first, passes_at_first}
use Rattle.ur_load.specs.Lines.{line_ends}
use Rattle.ur_load.proofs.Cuts.{is_newline}

-- one line more, or none
abbrev count_with : Bool → ℕ → ℕ
count_with t n = if t then suc n else n

count_sum : (t : Bool) (n m : ℕ) → count_with t (n + m) ≡ count_with t n + m
count_sum true n m = omega arith
count_sum false n m = refl

pub ends_both : (xs ys : List ℕ) → line_ends (xs ++ ys) ≡ line_ends xs + line_ends ys
ends_both [] ys = omega arith
ends_both (b ∷ xs) ys = ap (count_with (b == 10)) (ends_both xs ys) ∙ count_sum (b == 10) (line_ends xs) (line_ends ys)

-- a front of what ends no line ends none
pub none_in_front : (k : ℕ) (xs : List ℕ) → line_ends xs ≡ 0 → line_ends (take k xs) ≡ 0
none_in_front k xs h = let e : line_ends xs ≡ line_ends (take k xs) + line_ends (drop k xs) = ap line_ends (sym (take-append-drop k xs)) ∙ ends_both (take k xs) (drop k xs) in omega arith

none_end : (xs : List ℕ) → ((k : ℕ) → k < length xs → is_newline (get_or xs k 0) ≡ false) → line_ends xs ≡ 0
none_end [] h = refl
none_end (b ∷ xs) h = ap (λ t. count_with t (line_ends xs)) (h 0 (omega arith)) ∙ none_end xs (λ k below. h (suc k) (omega arith))

none_before : (bytes : List ℕ) (end : ℕ) → end ≡ position_or_len is_newline bytes → end ≤ length bytes → line_ends (take end bytes) ≡ 0
none_before bytes end e h = none_end (take end bytes) (λ k below. let j : k < end = omega (arith, length-take-le end bytes h) in
    ap is_newline (get_or-take end bytes k 0 j) ∙ fails_before_first is_newline bytes k 0 (omega arith))

-- ---- the first line

pub front_plain : (bytes front : List ℕ) (end : ℕ) → end ≡ position_or_len is_newline bytes → end ≤ length bytes → front ≡ take (length front) (take end bytes) → line_ends front ≡ 0
front_plain bytes front end e h f = ap line_ends f ∙ none_in_front (length front) (take end bytes) (none_before bytes end e h)

pub whole_plain : (bytes : List ℕ) (end : ℕ) → end ≡ position_or_len is_newline bytes → end ≤ length bytes → length bytes ≤ end → line_ends bytes ≡ 0
whole_plain bytes end e h k = let all : length bytes ≡ end = omega arith in ap line_ends (sym (take-length bytes)) ∙ ap (λ n. line_ends (take n bytes)) all ∙ none_before bytes end e h

pub front_ended : (bytes : List ℕ) (end : ℕ) → end ≡ position_or_len is_newline bytes → end < length bytes → line_ends (take (end + 1) bytes) ≡ 1
front_ended bytes end e h =
    let is : is_newline (get_or bytes end 0) ≡ true = ap (λ n. is_newline (get_or bytes n 0)) e ∙ passes_at_first is_newline bytes 0 (subst (λ n. n < length bytes) e h) in
    let last : line_ends (get_or bytes end 0 ∷ []) ≡ 1 = ap (λ t. count_with t 0) is in
    let none : line_ends (take end bytes) ≡ 0 = none_before bytes end e (omega arith) in
    let both : line_ends (take (end + 1) bytes) ≡ line_ends (take end bytes) + line_ends (get_or bytes end 0 ∷ []) = ap line_ends (take_more bytes end 0 h) ∙ ends_both (take end bytes) (get_or bytes end 0 ∷ []) in
    omega arith

-- ---- a line behind others

-- no line ends between the begin of a line and a place in it
pub number_in : (bytes whole : List ℕ) (at k : ℕ) → whole ≡ take (length whole) (drop at bytes) → k ≤ length whole → line_ends whole ≡ 0 → line_ends (take (at + k) bytes) ≡ line_ends (take at bytes)
number_in bytes whole at k w h n =
    let front : take k (drop at bytes) ≡ take k whole = sym (ap (take k) w ∙ take-take k (length whole) (drop at bytes) h) in
    let none : line_ends (take k (drop at bytes)) ≡ 0 = ap line_ends front ∙ none_in_front k whole n in
    let both : line_ends (take (at + k) bytes) ≡ line_ends (take at bytes) + line_ends (take k (drop at bytes)) = ap line_ends (take-add at k bytes) ∙ ends_both (take at bytes) (take k (drop at bytes)) in
    omega arith

pub next_number : (bytes : List ℕ) (at taken : ℕ) → (taken < length (take (length bytes - at) (drop at bytes)) → line_ends (take taken (take (length bytes - at) (drop at bytes))) ≡ 1)
    → at + taken < length bytes → line_ends (take (at + taken) bytes) ≡ line_ends (take at bytes) + 1
next_number bytes at taken f h =
    let rest = take_rest bytes at in
    let below : taken < length (take (length bytes - at) (drop at bytes)) = omega (arith, ap length rest, length-drop at bytes) in
    let one : line_ends (take taken (drop at bytes)) ≡ 1 = ap (λ l. line_ends (take taken l)) (sym rest) ∙ f below in
    let both : line_ends (take (at + taken) bytes) ≡ line_ends (take at bytes) + line_ends (take taken (drop at bytes)) = ap line_ends (take-add at taken bytes) ∙ ends_both (take at bytes) (take taken (drop at bytes)) in
    omega arith

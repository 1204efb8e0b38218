-- The pairs of cookies, piece by piece and field by field.
use Rattle.std.proofs.Common.{◌≡◌, ℕ, ◌+◌, ◌<◌, ◌==◌, ◌&&◌, Bool, true, false, List, [], ◌∷◌, ◌++◌, length, take, drop, get_or, map, filter, refl, sym, ap, subst, ◌∙◌, append-nil, append_assoc, codes}
use Rattle.std.specs.List.{flat_map, position_or_len, slice_split}
use Rattle.std.proofs.lemmas.Grind.{flat_map-append}
use Rattle.std.proofs.lemmas.Bool.{false_from_ne_true}
use Rattle.std.proofs.lemmas.List.Folds.{list_any_none, list_any_at}
use Rattle.std.proofs.lemmas.List.Sums.{fails_before_first, passes_at_first}
use Rattle.std.specs.Str.{IsUtf8, is_utf8}
use Rattle.std.proofs.lemmas.Str.{IsUtf8-from_is_utf8, is_utf8-from_IsUtf8}
use Rattle.std.specs.List.{list_any}
use Rattle.httparse.specs.Grammar.{trim_ows}
use Rattle.std.proofs.lemmas.List.Splits.{slice_split_none, slice_split_first}
use Rattle.ur_http.specs.declared.fields.Field.{Field}
use Rattle.ur_http.specs.Fields.{is_named, values_of, cookies_of, pairs_in, pair_of, is_pair}
use Rattle.ur_http.specs.Reading.{field_pair}
use Rattle.ur_http.proofs.Values.{values_yes, values_no, values_of-append, one_more}

abbrev pub is_semicolon : ℕ → Bool
is_semicolon b = b == 59

-- the pair of a piece, if it is one
abbrev pub pairs_of : List (List ℕ) → List (List ℕ × List ℕ)
pairs_of pieces = map pair_of (filter is_pair pieces)

pub pairs_yes : (piece : List ℕ) (pieces : List (List ℕ)) → is_pair piece ≡ true → pairs_of (piece ∷ pieces) ≡ pair_of piece ∷ pairs_of pieces
pairs_yes piece pieces e = rw e refl

pub pairs_no : (piece : List ℕ) (pieces : List (List ℕ)) → is_pair piece ≡ false → pairs_of (piece ∷ pieces) ≡ pairs_of pieces
pairs_no piece pieces e = rw e refl

pairs-cons : (piece : List ℕ) (pieces : List (List ℕ)) → pairs_of (piece ∷ pieces) ≡ pairs_of (piece ∷ []) ++ pairs_of pieces
pairs-cons piece pieces = by_case (is_pair piece) refl where
  by_case : (v : Bool) → is_pair piece ≡ v → pairs_of (piece ∷ pieces) ≡ pairs_of (piece ∷ []) ++ pairs_of pieces
  by_case true e = pairs_yes piece pieces e ∙ sym (ap (λ t. t ++ pairs_of pieces) (pairs_yes piece [] e))
  by_case false e = pairs_no piece pieces e ∙ sym (ap (λ t. t ++ pairs_of pieces) (pairs_no piece [] e))

-- a value without a semicolon is one piece
pub last_piece : (value : List ℕ) → position_or_len is_semicolon value ≡ length value → pairs_in value ≡ pairs_of (value ∷ [])
unfolding pairs_in
last_piece value at_end = ap pairs_of (slice_split_none is_semicolon value (λ k d within. fails_before_first is_semicolon value k d (subst (λ n. k < n) (sym at_end) within)))

-- the piece before the first semicolon, and what follows it
pub first_piece : (value : List ℕ) (n : ℕ) → position_or_len is_semicolon value ≡ n → n < length value
    → pairs_in value ≡ pairs_of (take n value ∷ []) ++ pairs_in (drop (n + 1) value)
unfolding pairs_in
first_piece value n is within =
    let cut : slice_split is_semicolon value ≡ take n value ∷ slice_split is_semicolon (drop (n + 1) value) =
    slice_split_first is_semicolon value 0 (subst (λ k. k < length value) (sym is) within)
    ∙ ap (λ k. take k value ∷ slice_split is_semicolon (drop (k + 1) value)) is in
    ap pairs_of cut ∙ pairs-cons (take n value) (slice_split is_semicolon (drop (n + 1) value))

-- ---- fields

pub cookies_of-append : (fs gs : List (List ℕ × List ℕ)) → cookies_of (fs ++ gs) ≡ cookies_of fs ++ cookies_of gs
unfolding cookies_of
cookies_of-append fs gs =
    ap (flat_map pairs_in) (values_of-append (codes "cookie") fs gs)
    ∙ flat_map-append pairs_in (values_of (codes "cookie") fs) (values_of (codes "cookie") gs)

pub cookie_field : (f : List ℕ × List ℕ) → is_named (codes "cookie") f ≡ true → cookies_of (f ∷ []) ≡ pairs_in f.1
unfolding cookies_of
cookie_field f e = ap (flat_map pairs_in) (values_yes (codes "cookie") f [] e) ∙ append-nil (pairs_in f.1)

pub other_field : (f : List ℕ × List ℕ) → is_named (codes "cookie") f ≡ false → cookies_of (f ∷ []) ≡ []
unfolding cookies_of
other_field f e = ap (flat_map pairs_in) (values_no (codes "cookie") f [] e)

pub cookies_step : (fs : List Field) (i : ℕ) (d : Field) (before after : List (List ℕ × List ℕ)) → i < length fs
    → before ≡ cookies_of (map field_pair (take i fs)) → after ≡ before ++ cookies_of (field_pair (get_or fs i d) ∷ [])
    → after ≡ cookies_of (map field_pair (take (i + 1) fs))
cookies_step fs i d before after within so_far step =
    step ∙ ap (λ t. t ++ cookies_of (field_pair (get_or fs i d) ∷ [])) so_far
    ∙ sym (ap cookies_of (one_more fs i d within) ∙ cookies_of-append (map field_pair (take i fs)) (field_pair (get_or fs i d) ∷ []))

-- ---- one piece

pub not_pair : (cookies : List (List ℕ × List ℕ)) (piece : List ℕ) → is_pair piece ≡ false → cookies ≡ cookies ++ pairs_of (piece ∷ [])
not_pair cookies piece e = sym (ap (λ t. cookies ++ t) (pairs_no piece [] e) ∙ append-nil cookies)

pub with_pair : (cookies : List (List ℕ × List ℕ)) (piece name value front rest : List ℕ) (i : ℕ) → is_pair piece ≡ true → position_or_len (λ b. b == 61) piece ≡ i
    → name ≡ trim_ows front → value ≡ trim_ows rest → front ≡ take i piece → rest ≡ drop (i + 1) piece → cookies ++ (name, value) ∷ [] ≡ cookies ++ pairs_of (piece ∷ [])
with_pair cookies piece name value front rest i e place is also front_is rest_is =
    let pair : pair_of piece ≡ (name, value) = ap (λ k. (trim_ows (take k piece), trim_ows (drop (k + 1) piece))) place ∙ cc in
    ap (λ t. cookies ++ t) (sym (pairs_yes piece [] e ∙ ap (λ p. p ∷ []) pair))

abbrev pub is_equals : ℕ → Bool
is_equals b = b == 61

pub no_equals : (piece : List ℕ) → position_or_len is_equals piece ≡ length piece → is_pair piece ≡ false
no_equals piece at_end =
    ap (λ v. v && is_utf8 piece) (list_any_none is_equals piece (λ k d within. fails_before_first is_equals piece k d (subst (λ n. k < n) (sym at_end) within)))

and_false : (v : Bool) → (v && false) ≡ false
and_false true = refl
and_false false = refl

pub no_text : (piece : List ℕ) → ¬ (IsUtf8 piece) → is_pair piece ≡ false
no_text piece not_text = ap (λ v. list_any is_equals piece && v) (false_from_ne_true (is_utf8 piece) (λ e. not_text (IsUtf8-from_is_utf8 piece e))) ∙ and_false (list_any is_equals piece)

pub is_pair_with : (piece : List ℕ) (i : ℕ) → position_or_len is_equals piece ≡ i → i < length piece → IsUtf8 piece → is_pair piece ≡ true
is_pair_with piece i place within text =
    let at = subst (λ k. k < length piece) (sym place) within in
    ap (λ v. v && is_utf8 piece) (list_any_at is_equals piece (position_or_len is_equals piece) 0 at (passes_at_first is_equals piece 0 at)) ∙ is_utf8-from_IsUtf8 piece text

-- ---- loops

pub piece_step : (cookies next goal : List (List ℕ × List ℕ)) (left piece rest : List ℕ) (n : ℕ) → position_or_len is_semicolon left ≡ n → n < length left
    → next ≡ cookies ++ pairs_of (piece ∷ []) → cookies ++ pairs_in left ≡ goal → piece ≡ take n left → rest ≡ drop (n + 1) left → next ++ pairs_in rest ≡ goal
piece_step cookies next goal left piece rest n place within step so_far is also =
    ap (λ t. t ++ pairs_in rest) (step ∙ ap (λ p. cookies ++ pairs_of (p ∷ [])) is)
    ∙ ap (λ r. (cookies ++ pairs_of (take n left ∷ [])) ++ pairs_in r) also
    ∙ append_assoc cookies (pairs_of (take n left ∷ [])) (pairs_in (drop (n + 1) left))
    ∙ sym (ap (λ t. cookies ++ t) (first_piece left n place within)) ∙ so_far

pub last_step : (cookies next goal : List (List ℕ × List ℕ)) (left : List ℕ) → position_or_len is_semicolon left ≡ length left
    → next ≡ cookies ++ pairs_of (left ∷ []) → cookies ++ pairs_in left ≡ goal → next ≡ goal
last_step cookies next goal left at_end step so_far = step ∙ sym (ap (λ t. cookies ++ t) (last_piece left at_end)) ∙ so_far

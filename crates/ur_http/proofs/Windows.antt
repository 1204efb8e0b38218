-- The bytes in which a head is sought, and those that follow.
use Rattle.std.proofs.Common.{◌≡◌, ℕ, ◌-◌, suc, zero, ◌≤◌, ◌==◌, ◌||◌, Bool, true, false, List, [], ◌∷◌, ◌++◌, length, take, drop, refl, sym, ap, ◌∙◌, append_assoc, arith}
use Rattle.std.specs.List.{list_any}
use Rattle.std.proofs.lemmas.List.{take-append-le, take-append-drop}
use Rattle.std.proofs.lemmas.List.Folds.{list_any-append}
use native.Mathlib.Numerals.{unary_clauses}
use Rattle.ur_http.specs.Items.{whole_lines, window}

abbrev pub is_line_feed : ℕ → Bool
is_line_feed c = c == 10

pub whole_lines_yes : (x : ℕ) (a : List ℕ) → list_any is_line_feed (x ∷ a) ≡ true → whole_lines (x ∷ a) ≡ x ∷ whole_lines a
whole_lines_yes x a e = rw e refl

pub whole_lines_no : (a : List ℕ) → list_any is_line_feed a ≡ false → whole_lines a ≡ []
whole_lines_no [] e = refl
whole_lines_no (x ∷ a) e = rw e refl

any_of_either : (a b : List ℕ) → list_any is_line_feed a ≡ true → list_any is_line_feed (a ++ b) ≡ true
any_of_either a b e = list_any-append is_line_feed a b ∙ ap (λ v. v || list_any is_line_feed b) e

-- lines that are whole stay so, whatever follows
pub whole_lines-append : (a b : List ℕ) → (more : List ℕ) × (whole_lines (a ++ b) ≡ whole_lines a ++ more)
whole_lines-append [] b = (whole_lines b, refl)
whole_lines-append (x ∷ a) b = by_case (list_any is_line_feed (x ∷ a)) refl (whole_lines-append a b) where
  by_case : (v : Bool) → list_any is_line_feed (x ∷ a) ≡ v → (more : List ℕ) × (whole_lines (a ++ b) ≡ whole_lines a ++ more)
      → (more : List ℕ) × (whole_lines ((x ∷ a) ++ b) ≡ whole_lines (x ∷ a) ++ more)
  by_case true e (more, is) =
      (more, whole_lines_yes x (a ++ b) (any_of_either (x ∷ a) b e) ∙ ap (λ t. x ∷ t) is ∙ sym (ap (λ t. t ++ more) (whole_lines_yes x a e)))
  by_case false e _ = (whole_lines ((x ∷ a) ++ b), sym (ap (λ t. t ++ whole_lines ((x ∷ a) ++ b)) (whole_lines_no (x ∷ a) e)))

-- bytes with no line end make no line whole
pub whole_lines_same : (a b : List ℕ) → list_any is_line_feed b ≡ false → whole_lines (a ++ b) ≡ whole_lines a
whole_lines_same [] b e = whole_lines_no b e
whole_lines_same (x ∷ a) b e = by_case (list_any is_line_feed (x ∷ a)) refl (whole_lines_same a b e) where
  by_case : (v : Bool) → list_any is_line_feed (x ∷ a) ≡ v → whole_lines (a ++ b) ≡ whole_lines a → whole_lines ((x ∷ a) ++ b) ≡ whole_lines (x ∷ a)
  by_case true h same = whole_lines_yes x (a ++ b) (any_of_either (x ∷ a) b h) ∙ ap (λ t. x ∷ t) same ∙ sym (whole_lines_yes x a h)
  by_case false h _ =
      whole_lines_no ((x ∷ a) ++ b) (list_any-append is_line_feed (x ∷ a) b ∙ ap (λ v. v || list_any is_line_feed b) h ∙ e) ∙ sym (whole_lines_no (x ∷ a) h)

or_true : (v : Bool) → (v || true) ≡ true
or_true true = refl
or_true false = refl

ends : (a : List ℕ) → list_any is_line_feed (a ++ 10 ∷ []) ≡ true
ends a = list_any-append is_line_feed a (10 ∷ []) ∙ or_true (list_any is_line_feed a)

pub ended : (a : List ℕ) → whole_lines (a ++ 10 ∷ []) ≡ a ++ 10 ∷ []
ended [] = refl
ended (x ∷ a) = whole_lines_yes x (a ++ 10 ∷ []) (ends (x ∷ a)) ∙ ap (λ t. x ∷ t) (ended a)

-- lines that end in a line end are whole
pub whole_lines_at : (a b : List ℕ) → list_any is_line_feed b ≡ false → whole_lines ((a ++ 10 ∷ []) ++ b) ≡ a ++ 10 ∷ []
whole_lines_at a b e = whole_lines_same (a ++ 10 ∷ []) b e ∙ ended a

pub whole_lines_front : (a : List ℕ) → (rest : List ℕ) × (a ≡ whole_lines a ++ rest)
whole_lines_front [] = ([], refl)
whole_lines_front (x ∷ a) = by_case (list_any is_line_feed (x ∷ a)) refl (whole_lines_front a) where
  by_case : (v : Bool) → list_any is_line_feed (x ∷ a) ≡ v → (rest : List ℕ) × (a ≡ whole_lines a ++ rest) → (rest : List ℕ) × ((x ∷ a) ≡ whole_lines (x ∷ a) ++ rest)
  by_case true e (rest, is) = (rest, ap (λ t. x ∷ t) is ∙ sym (ap (λ t. t ++ rest) (whole_lines_yes x a e)))
  by_case false e _ = (x ∷ a, sym (ap (λ t. t ++ (x ∷ a)) (whole_lines_no (x ∷ a) e)))

pub any_whole : (a : List ℕ) → list_any is_line_feed (whole_lines a) ≡ list_any is_line_feed a
any_whole [] = refl
any_whole (x ∷ a) = by_case (list_any is_line_feed (x ∷ a)) refl (any_whole a) where
  by_case : (v : Bool) → list_any is_line_feed (x ∷ a) ≡ v → list_any is_line_feed (whole_lines a) ≡ list_any is_line_feed a
      → list_any is_line_feed (whole_lines (x ∷ a)) ≡ list_any is_line_feed (x ∷ a)
  by_case true e same = ap (list_any is_line_feed) (whole_lines_yes x a e) ∙ ap (λ v. is_line_feed x || v) same
  by_case false e same = ap (list_any is_line_feed) (whole_lines_no (x ∷ a) e) ∙ sym e

-- whole lines are whole
pub whole_lines_twice : (a : List ℕ) → whole_lines (whole_lines a) ≡ whole_lines a
whole_lines_twice [] = refl
whole_lines_twice (x ∷ a) = by_case (list_any is_line_feed (x ∷ a)) refl (whole_lines_twice a) where
  by_case : (v : Bool) → list_any is_line_feed (x ∷ a) ≡ v → whole_lines (whole_lines a) ≡ whole_lines a
      → whole_lines (whole_lines (x ∷ a)) ≡ whole_lines (x ∷ a)
  by_case true e same =
      ap whole_lines (whole_lines_yes x a e) ∙ whole_lines_yes x (whole_lines a) (ap (λ v. is_line_feed x || v) (any_whole a) ∙ e)
      ∙ ap (λ t. x ∷ t) same ∙ sym (whole_lines_yes x a e)
  by_case false e same = ap whole_lines (whole_lines_no (x ∷ a) e) ∙ sym (whole_lines_no (x ∷ a) e)

-- ---- windows

-- the first n of two lists
pub take_more : (n : ℕ) (a b : List ℕ) → take n (a ++ b) ≡ take n a ++ take (n - length a) b
take_more zero a b = let e : 0 - length a ≡ 0 = omega arith in rw e refl
take_more (suc n) [] b = simp (unary_clauses) refl
take_more (suc n) (x ∷ a) b = simp unary_clauses (ap (λ t. x ∷ t) (take_more n a b))

pub window-append : (bytes after : List ℕ) → (more : List ℕ) × (window (bytes ++ after) ≡ window bytes ++ more)
unfolding window
window-append bytes after =
    let (more, is) = whole_lines-append (take 16384 bytes) (take (16384 - length bytes) after) in
    (more, ap whole_lines (take_more 16384 bytes after) ∙ is)

pub window_full : (bytes after : List ℕ) → 16384 ≤ length bytes → window (bytes ++ after) ≡ window bytes
unfolding window
window_full bytes after full = ap whole_lines (take-append-le 16384 bytes after full)

pub window_twice : (bytes : List ℕ) → whole_lines (window bytes) ≡ window bytes
unfolding window
window_twice bytes = whole_lines_twice (take 16384 bytes)

pub window_front : (bytes : List ℕ) → (rest : List ℕ) × (bytes ≡ window bytes ++ rest)
unfolding window
window_front bytes =
    let (rest, is) = whole_lines_front (take 16384 bytes) in (
      rest ++ drop 16384 bytes,
      sym (take-append-drop 16384 bytes) ∙ ap (λ t. t ++ drop 16384 bytes) is ∙ append_assoc (whole_lines (take 16384 bytes)) rest (drop 16384 bytes),
    )

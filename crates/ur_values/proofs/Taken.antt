-- Whether a row agrees with one of others on a key, row by row.
use Rattle.std.proofs.Common.{◌≡◌, ℕ, ◌+◌, ◌<◌, ◌≤◌, Bool, true, false, ◌||◌, List, [], ◌∷◌, ◌++◌, map, length, take, get_or, refl, sym, ap, ap₂, ◌∙◌}
use Rattle.std.specs.List.{list_any}
use Rattle.std.specs.Ordering.{is_eq}
use Rattle.std.proofs.lemmas.List.{take_all}
use Rattle.std.proofs.lemmas.List.Folds.{list_any_more, list_any_at}
use Rattle.ur_values.specs.declared.schema.Numbered.{Numbered}
use Rattle.ur_values.specs.KeyOrder.{key_cmp}
use Rattle.ur_values.specs.Keys.{key_of, is_taken}
use Rattle.ur_values.specs.Order.{values_eq}
use Rattle.ur_values.specs.Store.{Row, rows_of}
use Rattle.ur_values.proofs.Order.{values_eq_tie}

abbrev agrees : List ℕ → Row → Numbered → Bool
agrees key row other = values_eq (key_of key other.row) (key_of key row)

of_rows : (key : List ℕ) (row : Row) (rows : List Numbered) → is_taken (rows_of rows) row key ≡ list_any (agrees key row) rows
of_rows key row [] = refl
of_rows key row (r ∷ rows) = ap (λ b. agrees key row r || b) (of_rows key row rows)

or_both : (a b : Bool) → a ≡ false → b ≡ false → (a || b) ≡ false
or_both true b e f = cc
or_both false b e f = f

module _ (key : List ℕ) (row : Row) (rows : List Numbered) where
  pub none_taken : is_taken (rows_of (take 0 rows)) row key ≡ false
  none_taken = of_rows key row (take 0 rows)
      ∙ ap (list_any (agrees key row)) (Rattle.std.proofs.lemmas.List.nil_from_length (take 0 rows)
      (omega (Rattle.std.proofs.Common.arith, Rattle.std.proofs.lemmas.List.length-take 0 rows)))

  module _ (i : ℕ) (r : Numbered) (b : Bool) (within : i < length rows) (at : r ≡ get_or rows i r) (is : b ≡ is_eq (key_cmp key r.row row)) where
    here : agrees key row (get_or rows i r) ≡ b
    here = ap (agrees key row) (sym at) ∙ values_eq_tie (key_of key r.row) (key_of key row) ∙ sym is

    pub untaken_more : b ≡ false → is_taken (rows_of (take i rows)) row key ≡ false → is_taken (rows_of (take (i + 1) rows)) row key ≡ false
    untaken_more e h =
        of_rows key row (take (i + 1) rows) ∙ list_any_more (agrees key row) rows i r within ∙ or_both _ _ (sym (of_rows key row (take i rows)) ∙ h) (here ∙ e)

    pub taken_here : b ≡ true → true ≡ is_taken (rows_of rows) row key
    taken_here e = sym (of_rows key row rows ∙ list_any_at (agrees key row) rows i r within (here ∙ e))

  pub untaken_end : (i : ℕ) → length rows ≤ i → is_taken (rows_of (take i rows)) row key ≡ false → false ≡ is_taken (rows_of rows) row key
  untaken_end i past h = sym (ap (λ rs. is_taken (rows_of rs) row key) (sym (take_all i rows past)) ∙ h)

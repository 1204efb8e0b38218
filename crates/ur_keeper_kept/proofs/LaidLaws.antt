-- A change of one table or one sequence of a store.
use Rattle.std.proofs.Common.{◌≡◌, ◌≢◌, ℕ, ◌+◌, ◌<◌, ℤ, pos, ◌+ℤ◌, ◌≤ℤ◌, true, false, not, List, [], length, map, set, get_or, cond, Some, None, refl, ap, sym, subst, ◌∙◌, arith, inl, inr, ◌∷◌, All}
use Rattle.std.specs.List.{range_with_len}
use Rattle.std.specs.Ordering.{int_cmp, int_eq, eq_by_cmp, is_eq}
use Rattle.std.specs.FinMap.{insert, remove, get-insert, get-remove}
use Rattle.std.proofs.lemmas.Bool.{cases_eq}
use Rattle.std.proofs.lemmas.List.{get_or-set_same, get_or-set_other, length-set}
use Rattle.std.proofs.lemmas.List.FromFn.{fill_by_all, length-map-range_with_len, get_or-map-range_with_len}
use Rattle.ur_values.specs.declared.schema.Schema.{Schema}
use Rattle.ur_values.specs.declared.schema.Numbered.{Numbered}
use Rattle.ur_values.specs.Numbered.{next_number, has_number, add_row, put_row, drop_row}
use Rattle.ur_values.specs.Store.{Row}
use Rattle.ur_keeper.specs.Tables.{table_at, with_table, inserted, replaced, removed, drawn}
use Rattle.ur_keeper_bodies.specs.Rows.{int_body, number_of}
use Rattle.ur_keeper_bodies.specs.Columns.{columns_body}
use Rattle.ur_keeper_bodies.proofs.RowLaws.{int-read}
use Rattle.ur_values.specs.Values.{IsInt}
use Rattle.std.specs.Prelude.{unwrap_or}
use Rattle.std.specs.Cmp.{int_cmp_total, tied_itself}
use Rattle.ur_keeper_bodies.specs.Bodies.{BodyMap, body_at, bodies_of}
use Rattle.ur_keeper_bodies.proofs.Places.{place_total}
use Rattle.ur_keeper_bodies.proofs.Tables.{bodies-sorted, bodies-put, bodies-put-elsewhere, bodies-taken, bodies-taken-elsewhere, place-tie}
use Rattle.ur_keeper_kept.specs.Laid.{table_tab, columns_at, MayWrite, rows_in, table_in, number_in, number_of_body, tables_in, IsRowBody, IsNumberBody, IsLaid}
use Rattle.std.proofs.lemmas.List.Elements.{All-filter}
use Rattle.ur_keeper_kept.proofs.Rows.{rows-added, bodies-added, rows-put, bodies-replaced, rows-dropped}

-- a list that is made by a function of the place, changed at one place
pub made-set : {X : Type 0} (f g : ℕ → X) (n i : ℕ) (x : X) → i < n → g i ≡ x → ((j : ℕ) → j ≢ i → g j ≡ f j)
    → map g (range_with_len 0 n) ≡ set (map f (range_with_len 0 n)) i x
made-set {X} f g n i x l here there =
    let old = map f (range_with_len 0 n) in
    let size : length old ≡ n = length-map-range_with_len f 0 n in
    let within : i < length old = omega (arith, size, l) in
    sym (fill_by_all g (set old i x) n x (length-set old i x ∙ size) (λ k below.
    elim (cases_eq k i) [
      | inl e ↦ subst (λ (j : ℕ). get_or (set old i x) j x ≡ g j) (sym e) (get_or-set_same old i x x within ∙ sym here)
      | inr other ↦ get_or-set_other old i k x x other ∙ get_or-map-range_with_len f 0 n k k x below (omega arith) ∙ sym (there k other)
    ]))

map-same : {X : Type 0} (f g : ℕ → X) (xs : List ℕ) → ((j : ℕ) → f j ≡ g j) → map f xs ≡ map g xs
map-same f g [] h = refl
map-same f g (x ∷ xs) h = λ i. h x i ∷ map-same f g xs h i

pub table-there : (s : Schema) (m : BodyMap) (i : ℕ) → i < length s.tables → table_at (tables_in s m) i ≡ table_in s m i
table-there s m i l = get_or-map-range_with_len (table_in s m) 0 (length s.tables) i i [] l (omega arith)

-- the map of a store of which one table is another one
pub one-table : (s : Schema) (m m' : BodyMap) (i : ℕ) (f : List Numbered → List Numbered) → i < length s.tables
    → table_in s m' i ≡ f (table_in s m i)
    → ((j : ℕ) → j ≢ i → table_in s m' j ≡ table_in s m j)
    → ((j : ℕ) → number_in m' j ≡ number_in m j)
    → tables_in s m' ≡ with_table i f (tables_in s m)
one-table s m m' i f l here there numbers =
    let tables : (tables_in s m').tables ≡ (with_table i f (tables_in s m)).tables =
    made-set (table_in s m) (table_in s m') (length s.tables) i (f (table_in s m i)) l here there
    ∙ ap (λ (rows : List Numbered). set (map (table_in s m) (range_with_len 0 (length s.tables))) i (f rows)) (sym (table-there s m i l)) in
    let sequences = map-same (number_in m') (number_in m) (range_with_len 0 (length s.sequences)) numbers in
    λ k. record { tables = tables k; sequences = sequences k }

pub apart-tabs : (i j : ℕ) → j ≢ i → int_eq (pos (2 + i)) (pos (2 + j)) ≡ false
apart-tabs i j n = grind arith

apart-numbers : (i : ℕ) → int_eq (pos (2 + i)) (pos 1) ≡ false
apart-numbers i = grind arith

number-stays : (m : BodyMap) (i : ℕ) (n : ℤ) (v : List ℕ) (j : ℕ) → body_at (insert m (table_tab i, n) v) (pos 1) (pos j) ≡ body_at m (pos 1) (pos j)
number-stays m i n v j =
    get-insert place_total m (table_tab i, n) v (pos 1, pos j) ∙ ap (λ b. cond b (Some v) (body_at m (pos 1) (pos j))) (place-tie (pos 1) (table_tab i) (pos j) n false (apart-numbers i))

number-stays-too : (m : BodyMap) (i : ℕ) (n : ℤ) (j : ℕ) → body_at (remove m (table_tab i, n)) (pos 1) (pos j) ≡ body_at m (pos 1) (pos j)
number-stays-too m i n j =
    get-remove place_total m (table_tab i, n) (pos 1, pos j) ∙ ap (λ b. cond b None (body_at m (pos 1) (pos j))) (place-tie (pos 1) (table_tab i) (pos j) n false (apart-numbers i))

-- a row more
module _ (s : Schema) (m : BodyMap) (i : ℕ) (row : Row) (l : i < length s.tables) (laid : IsLaid s m) (may : MayWrite (columns_at s i) row) where
  abbrev after-insert : BodyMap
  after-insert = insert m (table_tab i, pos (next_number (table_in s m i))) (columns_body (columns_at s i) row)

  pub inserted-in : tables_in s after-insert ≡ inserted i row (tables_in s m)
  inserted-in =
      let n = pos (next_number (table_in s m i)) in
      one-table s m after-insert i (λ rows. add_row rows row) l
      (ap (rows_in (columns_at s i)) (bodies-put m (table_tab i) n (columns_body (columns_at s i) row)) ∙ rows-added (columns_at s i) row (bodies_of m (table_tab i)) (laid.tables i l) may)
      (λ j other. ap (rows_in (columns_at s j)) (bodies-put-elsewhere m (table_tab j) (table_tab i) n (columns_body (columns_at s i) row) (apart-tabs i j other)))
      (λ j. ap number_of_body (number-stays m i n (columns_body (columns_at s i) row) j))

  pub laid-inserted : IsLaid s after-insert
  laid-inserted =
      let n = pos (next_number (table_in s m i)) in
      record {
        tables = λ j within. elim (cases_eq j i) [
          | inl e ↦ subst (λ (k : ℕ). All (IsRowBody (columns_at s k)) (bodies_of after-insert (table_tab k))) (sym e)
              (subst (λ (x : List (ℤ × List ℕ)). All (IsRowBody (columns_at s i)) x) (sym (bodies-put m (table_tab i) n (columns_body (columns_at s i) row))) (bodies-added (columns_at s i) row (bodies_of m (table_tab i)) (laid.tables i l) may))
          | inr other ↦ subst (λ (x : List (ℤ × List ℕ)). All (IsRowBody (columns_at s j)) x) (sym (bodies-put-elsewhere m (table_tab j) (table_tab i) n (columns_body (columns_at s i) row) (apart-tabs i j other))) (laid.tables j within)
        ];
        sequences = λ j within. subst IsNumberBody (sym (number-stays m i n (columns_body (columns_at s i) row) j)) (laid.sequences j within);
      }

-- a row less
module _ (s : Schema) (m : BodyMap) (i n : ℕ) (l : i < length s.tables) (laid : IsLaid s m) where
  abbrev after-remove : BodyMap
  after-remove = remove m (table_tab i, pos n)

  pub removed-in : tables_in s after-remove ≡ removed i n (tables_in s m)
  removed-in =
      one-table s m after-remove i (λ rows. drop_row rows n) l
      (ap (rows_in (columns_at s i)) (bodies-taken m (table_tab i) (pos n)) ∙ rows-dropped (columns_at s i) n (bodies_of m (table_tab i)) (laid.tables i l))
      (λ j other. ap (rows_in (columns_at s j)) (bodies-taken-elsewhere m (table_tab j) (table_tab i) (pos n) (apart-tabs i j other)))
      (λ j. ap number_of_body (number-stays-too m i (pos n) j))

  pub laid-removed : IsLaid s after-remove
  laid-removed = record {
    tables = λ j within. elim (cases_eq j i) [
      | inl e ↦ subst (λ (k : ℕ). All (IsRowBody (columns_at s k)) (bodies_of after-remove (table_tab k))) (sym e)
          (subst (λ (x : List (ℤ × List ℕ)). All (IsRowBody (columns_at s i)) x) (sym (bodies-taken m (table_tab i) (pos n))) (All-filter (λ (e : ℤ × List ℕ). not (eq_by_cmp int_cmp (pos n) e.0)) (IsRowBody (columns_at s i)) (bodies_of m (table_tab i)) (laid.tables i l)))
      | inr other ↦ subst (λ (x : List (ℤ × List ℕ)). All (IsRowBody (columns_at s j)) x) (sym (bodies-taken-elsewhere m (table_tab j) (table_tab i) (pos n) (apart-tabs i j other))) (laid.tables j within)
    ];
    sequences = λ j within. subst IsNumberBody (sym (number-stays-too m i (pos n) j)) (laid.sequences j within);
  }

-- another row in a row's place
module _ (s : Schema) (m : BodyMap) (i n : ℕ) (row : Row) (l : i < length s.tables) (laid : IsLaid s m) (may : MayWrite (columns_at s i) row) where
  abbrev after-replace : BodyMap
  after-replace = insert m (table_tab i, pos n) (columns_body (columns_at s i) row)

  pub replaced-in : has_number (table_in s m i) n ≡ true → tables_in s after-replace ≡ replaced i n row (tables_in s m)
  replaced-in there =
      one-table s m after-replace i (λ rows. put_row rows n row) l
      (ap (rows_in (columns_at s i)) (bodies-put m (table_tab i) (pos n) (columns_body (columns_at s i) row)) ∙ rows-put (columns_at s i) n row (bodies_of m (table_tab i)) (laid.tables i l) may (bodies-sorted m (table_tab i)) there)
      (λ j other. ap (rows_in (columns_at s j)) (bodies-put-elsewhere m (table_tab j) (table_tab i) (pos n) (columns_body (columns_at s i) row) (apart-tabs i j other)))
      (λ j. ap number_of_body (number-stays m i (pos n) (columns_body (columns_at s i) row) j))

  pub laid-replaced : IsLaid s after-replace
  laid-replaced = record {
    tables = λ j within. elim (cases_eq j i) [
      | inl e ↦ subst (λ (k : ℕ). All (IsRowBody (columns_at s k)) (bodies_of after-replace (table_tab k))) (sym e)
          (subst (λ (x : List (ℤ × List ℕ)). All (IsRowBody (columns_at s i)) x) (sym (bodies-put m (table_tab i) (pos n) (columns_body (columns_at s i) row))) (bodies-replaced (columns_at s i) n row (bodies_of m (table_tab i)) (laid.tables i l) may))
      | inr other ↦ subst (λ (x : List (ℤ × List ℕ)). All (IsRowBody (columns_at s j)) x) (sym (bodies-put-elsewhere m (table_tab j) (table_tab i) (pos n) (columns_body (columns_at s i) row) (apart-tabs i j other))) (laid.tables j within)
    ];
    sequences = λ j within. subst IsNumberBody (sym (number-stays m i (pos n) (columns_body (columns_at s i) row) j)) (laid.sequences j within);
  }

-- a number drawn from a sequence
pub apart-from-tables : (j : ℕ) → int_eq (pos 1) (pos (2 + j)) ≡ false
apart-from-tables j = grind arith

pub other-number : (q j : ℕ) → j ≢ q → eq_by_cmp int_cmp (pos j) (pos q) ≡ false
other-number q j n = grind arith

module _ (s : Schema) (m : BodyMap) (q : ℕ) (l : q < length s.sequences) (laid : IsLaid s m) (fits : IsInt (number_in m q +ℤ pos 1)) (low : pos 1 ≤ℤ (number_in m q +ℤ pos 1)) where
  abbrev next : ℤ
  next = number_in m q +ℤ pos 1

  abbrev after-draw : BodyMap
  after-draw = insert m (pos 1, pos q) (int_body next)

  body-here : body_at after-draw (pos 1) (pos q) ≡ Some (int_body next)
  body-here = get-insert place_total m (pos 1, pos q) (int_body next) (pos 1, pos q)
      ∙ ap (λ b. cond b (Some (int_body next)) (body_at m (pos 1) (pos q))) (place-tie (pos 1) (pos 1) (pos q) (pos q) true refl ∙ ap is_eq (tied_itself int_cmp_total (pos q)))

  body-there : (j : ℕ) → j ≢ q → body_at after-draw (pos 1) (pos j) ≡ body_at m (pos 1) (pos j)
  body-there j other = get-insert place_total m (pos 1, pos q) (int_body next) (pos 1, pos j)
      ∙ ap (λ b. cond b (Some (int_body next)) (body_at m (pos 1) (pos j))) (place-tie (pos 1) (pos 1) (pos j) (pos q) true refl ∙ other-number q j other)

  number-read : number_of (int_body next) ≡ Some next
  number-read = ap Some (int-read next fits)

  table-stays : (j : ℕ) → bodies_of after-draw (table_tab j) ≡ bodies_of m (table_tab j)
  table-stays j = bodies-put-elsewhere m (table_tab j) (pos 1) (pos q) (int_body next) (apart-from-tables j)

  pub drawn-in : tables_in s after-draw ≡ drawn q (tables_in s m)
  drawn-in =
      let old = map (number_in m) (range_with_len 0 (length s.sequences)) in
      let there : get_or old q (pos 1) ≡ number_in m q = get_or-map-range_with_len (number_in m) 0 (length s.sequences) q q (pos 1) l (omega arith) in
      let sequences = made-set (number_in m) (number_in after-draw) (length s.sequences) q next l (ap number_of_body body-here ∙ ap (λ o. unwrap_or o (pos 1)) number-read) (λ j other. ap number_of_body (body-there j other))
      ∙ ap (λ (z : ℤ). set old q (z +ℤ pos 1)) (sym there) in
      let tables = map-same (table_in s after-draw) (table_in s m) (range_with_len 0 (length s.tables)) (λ j. ap (rows_in (columns_at s j)) (table-stays j)) in
      λ k. record { tables = tables k; sequences = sequences k }

  pub laid-drawn : IsLaid s after-draw
  laid-drawn = record {
    tables = λ j within. subst (λ (x : List (ℤ × List ℕ)). All (IsRowBody (columns_at s j)) x) (sym (table-stays j)) (laid.tables j within);
    sequences = λ j within. elim (cases_eq j q) [
      | inl e ↦ subst (λ (k : ℕ). IsNumberBody (body_at after-draw (pos 1) (pos k))) (sym e) (int_body next, next, body-here, number-read, low)
      | inr other ↦ subst IsNumberBody (sym (body-there j other)) (laid.sequences j within)
    ];
  }

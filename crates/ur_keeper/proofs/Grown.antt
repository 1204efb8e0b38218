-- Tables that have grown are as sound as they were.
use Rattle.std.proofs.Common.{◌≡◌, ℕ, suc, ◌+◌, ◌≤◌, Bool, true, false, ◌&&◌, cond, List, [], ◌∷◌, length, map, Option, Some, None, refl, ap, ap₂}
use Rattle.std.proofs.Common.{sym, subst, ◌∙◌, arith, All}
use Rattle.std.specs.Prelude.{IsNone, ℤ, pos, ◌≤ℤ◌, position, nat_lt, not}
use Rattle.std.specs.List.{AllZip, AllByRecursion, prefix_len}
use Rattle.std.specs.List.Sorted.{IsStrictlyIncreasing}
use Rattle.std.specs.Cmp.Lexicographic.{pointwise}
use Rattle.std.specs.Str.{bytes_eq}
use Rattle.std.proofs.lemmas.Bool.{and_parts}
use Rattle.std.proofs.lemmas.List.{length-map}
use Rattle.std.proofs.lemmas.List.Elements.{All-from_recursion, recursion_from_All}
use Rattle.ur_values.specs.declared.value.Value.{Value}
use Rattle.ur_values.specs.declared.value.Value.TheVariants as v
use Rattle.ur_values.specs.declared.schema.ColumnKind.{ColumnKind}
use Rattle.ur_values.specs.declared.schema.TableShape.{TableShape}
use Rattle.ur_values.specs.declared.schema.Schema.{Schema}
use Rattle.ur_values.specs.declared.schema.Numbered.{Numbered}
use Rattle.ur_values.specs.Keys.{key_of, repeats, repeated_key, most_rows}
use Rattle.ur_values.specs.Numbered.{numbers_of}
use Rattle.ur_values.specs.Store.{Row, FitKinds, FitsShape, kinds_of, IsStorable, rows_of}
use Rattle.ur_values.specs.Extends.{Column, columns_extend, key_moved, bool_eq, table_extends, extends, grown}
use Rattle.ur_values.proofs.Extending.{grown-fits, grown-key, grown-same, extends-itself}
use Rattle.ur_keeper.specs.Tables.{Tables, MayCommitTable, AreRowsOf, AreTablesOf, AreSound}
use Rattle.ur_keeper.specs.Growing.{grown_rows, grown_all, grown_tables}

-- ---- lists

all-map : {X Y : Type 0} (P : X → Type 0) (Q : Y → Type 0) (f : X → Y) → ((x : X) → P x → Q (f x)) → (xs : List X) → AllByRecursion P xs
    → AllByRecursion Q (map f xs)
all-map P Q f h [] a = tt
all-map P Q f h (x ∷ xs) a = (h x (a.0), all-map P Q f h xs (a.1))

pointwise-zip : {X Y : Type 0} (p : X → Y → Bool) (xs : List X) (ys : List Y) → pointwise p xs ys ≡ true → AllZip (λ x y. p x y ≡ true) xs ys
pointwise-zip p [] [] e = tt
pointwise-zip p [] (y ∷ ys) e = cc
pointwise-zip p (x ∷ xs) [] e = cc
pointwise-zip p (x ∷ xs) (y ∷ ys) e = let q = and_parts (p x y) (pointwise p xs ys) e in (q.0, pointwise-zip p xs ys (q.1))

zip-map : {X Y : Type 0} (R S : X → Y → Type 0) → ((x : X) (y : Y) → R x y → S x y) → (xs : List X) (ys : List Y) → AllZip R xs ys → AllZip S xs ys
zip-map R S h [] [] z = tt
zip-map R S h [] (y ∷ ys) z = absurd z
zip-map R S h (x ∷ xs) [] z = absurd z
zip-map R S h (x ∷ xs) (y ∷ ys) z = (h x y (z.0), zip-map R S h xs ys (z.1))

prefix-agree : {X Y : Type 0} (p : X → Bool) (q : Y → Bool) (xs : List X) (ys : List Y) → AllZip (λ x y. p x ≡ q y) xs ys → prefix_len p xs ≡ prefix_len q ys
prefix-agree p q [] [] z = refl
prefix-agree p q [] (y ∷ ys) z = absurd z
prefix-agree p q (x ∷ xs) [] z = absurd z
prefix-agree p q (x ∷ xs) (y ∷ ys) z = ap₂ (λ (b : Bool) (n : ℕ). cond b (1 + n) 0) (z.0) (prefix-agree p q xs ys (z.1))

zip-long : {X Y : Type 0} (R : X → Y → Type 0) (xs : List X) (ys : List Y) → AllZip R xs ys → length xs ≡ length ys
zip-long R [] [] z = refl
zip-long R [] (y ∷ ys) z = absurd z
zip-long R (x ∷ xs) [] z = absurd z
zip-long R (x ∷ xs) (y ∷ ys) z = ap suc (zip-long R xs ys (z.1))

position-agree : {X Y : Type 0} (p : X → Bool) (q : Y → Bool) (xs : List X) (ys : List Y) → AllZip (λ x y. p x ≡ q y) xs ys → position p xs ≡ position q ys
position-agree p q xs ys z =
    ap₂ (λ (n m : ℕ). cond {A = Option ℕ} (nat_lt n m) (Some n) None)
    (prefix-agree (λ x. not (p x)) (λ y. not (q y)) xs ys (zip-map (λ x y. p x ≡ q y) (λ x y. not (p x) ≡ not (q y)) (λ x y e. ap not e) xs ys z))
    (zip-long (λ x y. p x ≡ q y) xs ys z)

-- ---- a row

pub grown-sizes : (columns kept : List Column) (row : Row) → AllByRecursion IsStorable row → AllByRecursion IsStorable (grown columns kept row)
grown-sizes [] kept row a = tt
grown-sizes (d ∷ columns) [] row a = (omega arith, grown-sizes columns [] row a)
grown-sizes (d ∷ columns) (c ∷ kept) [] a = (omega arith, grown-sizes columns (c ∷ kept) [] a)
grown-sizes (d ∷ columns) (c ∷ kept) (x ∷ row) a = go (bytes_eq c.0 d.0) (grown-sizes columns kept row (a.1)) (grown-sizes columns (c ∷ kept) (x ∷ row) a)
  where
    go : (b : Bool) → AllByRecursion IsStorable (grown columns kept row) → AllByRecursion IsStorable (grown columns (c ∷ kept) (x ∷ row))
        → AllByRecursion IsStorable (cond b (x ∷ grown columns kept row) (v.Absent ∷ grown columns (c ∷ kept) (x ∷ row)))
    go true same more = (a.0, same)
    go false same more = (omega arith, more)

fit-length : (row : List Value) (ks : List ColumnKind) → FitKinds row ks → length row ≡ length ks
fit-length [] [] f = refl
fit-length [] (k ∷ ks) f = absurd f
fit-length (x ∷ row) [] f = absurd f
fit-length (x ∷ row) (k ∷ ks) f = ap suc (fit-length row ks (f.1))

row-long : (shape : TableShape) (row : Row) → FitsShape shape row → length row ≡ length shape.columns
row-long shape row f = fit-length row (kinds_of shape) f ∙ length-map shape.columns (λ (c : Column). c.1)

-- ---- a table

-- the parts of a table that extends another
record Grows (s k : TableShape) : Type 0 where
  pub columns : columns_extend s.columns k.columns ≡ true
  pub keys : pointwise (key_moved s.columns k.columns) s.keys k.keys ≡ true

grows : (s k : TableShape) → table_extends s k ≡ true → Grows s k
grows s k e =
    let p = and_parts (bytes_eq s.name k.name) (columns_extend s.columns k.columns && (pointwise (key_moved s.columns k.columns) s.keys k.keys && bool_eq s.primary k.primary)) e in
    let q = and_parts (columns_extend s.columns k.columns) (pointwise (key_moved s.columns k.columns) s.keys k.keys && bool_eq s.primary k.primary) (p.1) in
    record { columns = q.0; keys = (and_parts (pointwise (key_moved s.columns k.columns) s.keys k.keys) (bool_eq s.primary k.primary) (q.1)).0 }

module _ (s k : TableShape) (g : Grows s k) where
  abbrev grow : Numbered → Numbered
  grow r = record { number = r.number; row = grown s.columns k.columns r.row }

  same-numbers : (rows : List Numbered) → numbers_of (grown_rows s.columns k.columns rows) ≡ numbers_of rows
  same-numbers [] = refl
  same-numbers (r ∷ rows) = ap (λ (ns : List ℕ). r.number ∷ ns) (same-numbers rows)

  grown-of : (rows : List Numbered) → AreRowsOf k rows → AreRowsOf s (grown_rows s.columns k.columns rows)
  grown-of rows a = record {
    shaped = All-from_recursion (λ (r : Numbered). FitsShape s r.row) (grown_rows s.columns k.columns rows)
        (all-map (λ (r : Numbered). FitsShape k r.row) (λ (r : Numbered). FitsShape s r.row) grow (λ r f. grown-fits s.columns k.columns r.row g.columns f) rows (recursion_from_All (λ (r : Numbered). FitsShape k r.row) rows a.shaped));
    sizes = All-from_recursion (λ (r : Numbered). All IsStorable r.row) (grown_rows s.columns k.columns rows)
        (all-map (λ (r : Numbered). All IsStorable r.row) (λ (r : Numbered). All IsStorable r.row) grow
        (λ r f. All-from_recursion IsStorable (grown s.columns k.columns r.row) (grown-sizes s.columns k.columns r.row (recursion_from_All IsStorable r.row f))) rows (recursion_from_All (λ (r : Numbered). All IsStorable r.row) rows a.sizes));
    numbers = subst IsStrictlyIncreasing (sym (same-numbers rows)) a.numbers;
  }

  keys-same : (key other : List ℕ) → key_moved s.columns k.columns key other ≡ true → (rows : List Numbered)
      → AllByRecursion (λ (r : Numbered). FitsShape k r.row) rows
      → map (key_of key) (rows_of (grown_rows s.columns k.columns rows)) ≡ map (key_of other) (rows_of rows)
  keys-same key other e [] a = refl
  keys-same key other e (r ∷ rows) a =
      ap₂ (λ (x : List Value) (xs : List (List Value)). x ∷ xs) (grown-key s.columns k.columns key other r.row g.columns e (row-long k r.row (a.0))) (keys-same key other e rows (a.1))

  same-repeats : (rows : List Numbered) → AllByRecursion (λ (r : Numbered). FitsShape k r.row) rows
      → repeated_key s.keys (rows_of (grown_rows s.columns k.columns rows)) ≡ repeated_key k.keys (rows_of rows)
  same-repeats rows a =
      position-agree (λ key. repeats (map (key_of key) (rows_of (grown_rows s.columns k.columns rows)))) (λ key. repeats (map (key_of key) (rows_of rows))) s.keys k.keys
      (zip-map (λ key other. key_moved s.columns k.columns key other ≡ true) (λ key other. repeats (map (key_of key) (rows_of (grown_rows s.columns k.columns rows))) ≡ repeats (map (key_of other) (rows_of rows)))
      (λ key other e. ap repeats (keys-same key other e rows a)) s.keys k.keys (pointwise-zip (key_moved s.columns k.columns) s.keys k.keys g.keys))

  grown-commits : (rows : List Numbered) → AreRowsOf k rows → MayCommitTable k rows → MayCommitTable s (grown_rows s.columns k.columns rows)
  grown-commits rows a c = record {
    distinct = subst IsNone (sym (same-repeats rows (recursion_from_All (λ (r : Numbered). FitsShape k r.row) rows a.shaped))) c.distinct;
    not_over = subst (λ n. n ≤ most_rows) (sym (length-map rows grow)) c.not_over;
  }

  grown-low : (most : ℕ) (rows : List Numbered) → All (λ r. r.number ≤ most) rows → All (λ r. r.number ≤ most) (grown_rows s.columns k.columns rows)
  grown-low most rows a = All-from_recursion (λ (r : Numbered). r.number ≤ most) (grown_rows s.columns k.columns rows)
      (all-map (λ (r : Numbered). r.number ≤ most) (λ (r : Numbered). r.number ≤ most) grow (λ r l. l) rows (recursion_from_All (λ (r : Numbered). r.number ≤ most) rows a))

-- ---- all tables

module _ (most : ℕ) where
  -- what holds of each table
  record Whole (shape : TableShape) (rows : List Numbered) : Type 0 where
    pub fits : AreRowsOf shape rows
    pub commits : MayCommitTable shape rows

  abbrev Low : List Numbered → Type 0
  Low = All (λ r. r.number ≤ most)

  all-fit : (ss ks : List TableShape) (tables : List (List Numbered)) → AllZip (λ s k. table_extends s k ≡ true) ss ks → AllZip AreRowsOf ks tables
      → AllZip AreRowsOf ss (grown_all ss ks tables)
  all-fit [] [] [] e a = tt
  all-fit [] [] (r ∷ tables) e a = absurd a
  all-fit [] (k ∷ ks) tables e a = absurd e
  all-fit (s ∷ ss) [] tables e a = absurd e
  all-fit (s ∷ ss) (k ∷ ks) [] e a = absurd a
  all-fit (s ∷ ss) (k ∷ ks) (rows ∷ tables) e a = (grown-of s k (grows s k (e.0)) rows (a.0), all-fit ss ks tables (e.1) (a.1))

  all-commit : (ss ks : List TableShape) (tables : List (List Numbered)) → AllZip (λ s k. table_extends s k ≡ true) ss ks → AllZip AreRowsOf ks tables
      → AllZip MayCommitTable ks tables → AllZip MayCommitTable ss (grown_all ss ks tables)
  all-commit [] [] [] e a c = tt
  all-commit [] [] (r ∷ tables) e a c = absurd a
  all-commit [] (k ∷ ks) tables e a c = absurd e
  all-commit (s ∷ ss) [] tables e a c = absurd e
  all-commit (s ∷ ss) (k ∷ ks) [] e a c = absurd a
  all-commit (s ∷ ss) (k ∷ ks) (rows ∷ tables) e a c = (grown-commits s k (grows s k (e.0)) rows (a.0) (c.0), all-commit ss ks tables (e.1) (a.1) (c.1))

  all-low : (ss ks : List TableShape) (tables : List (List Numbered)) → AllZip (λ s k. table_extends s k ≡ true) ss ks → AllZip AreRowsOf ks tables
      → AllByRecursion Low tables → AllByRecursion Low (grown_all ss ks tables)
  all-low [] [] [] e a l = tt
  all-low [] [] (r ∷ tables) e a l = absurd a
  all-low [] (k ∷ ks) tables e a l = absurd e
  all-low (s ∷ ss) [] tables e a l = absurd e
  all-low (s ∷ ss) (k ∷ ks) [] e a l = absurd a
  all-low (s ∷ ss) (k ∷ ks) (rows ∷ tables) e a l = (grown-low s k (grows s k (e.0)) most rows (l.0), all-low ss ks tables (e.1) (a.1) (l.1))

renamed : (P : ℤ → Type 0) (xs ys : List (List ℕ)) (ns : List ℤ) → pointwise bytes_eq xs ys ≡ true → AllZip (λ (name : List ℕ) n. P n) ys ns
    → AllZip (λ (name : List ℕ) n. P n) xs ns
renamed P [] [] ns e a = a
renamed P [] (y ∷ ys) ns e a = cc
renamed P (x ∷ xs) [] ns e a = cc
renamed P (x ∷ xs) (y ∷ ys) [] e a = absurd a
renamed P (x ∷ xs) (y ∷ ys) (n ∷ ns) e a = (a.0, renamed P xs ys ns (and_parts (bytes_eq x y) (pointwise bytes_eq xs ys) e).1 (a.1))

pub grown-sound : (schema kept : Schema) (t : Tables) → extends schema kept ≡ true → AreSound kept t → AreSound schema (grown_tables schema kept t)
grown-sound schema kept t e a =
    let p = and_parts (pointwise table_extends schema.tables kept.tables) (pointwise bytes_eq schema.sequences kept.sequences) e in
    let each = pointwise-zip table_extends schema.tables kept.tables (p.0) in
    record {
      fits = record { tables = all-fit 0 schema.tables kept.tables t.tables each a.fits.tables; sequences = renamed (λ n. pos 1 ≤ℤ n) schema.sequences kept.sequences t.sequences (p.1) a.fits.sequences };
      commits = all-commit 0 schema.tables kept.tables t.tables each a.fits.tables a.commits;
      numbers = record {
        rows = All-from_recursion (All (λ (r : Numbered). r.number ≤ 4611686018427387904)) (grown_all schema.tables kept.tables t.tables)
            (all-low 4611686018427387904 schema.tables kept.tables t.tables each a.fits.tables (recursion_from_All (All (λ (r : Numbered). r.number ≤ 4611686018427387904)) t.tables a.numbers.rows));
        sequences = a.numbers.sequences;
      };
    }

-- ---- the same schema

same-rows : (s : TableShape) (rows : List Numbered) → AllByRecursion (λ (r : Numbered). FitsShape s r.row) rows → grown_rows s.columns s.columns rows ≡ rows
same-rows s [] a = refl
same-rows s (r ∷ rows) a =
    ap₂ (λ (row : Row) (rs : List Numbered). record { number = r.number; row = row } ∷ rs) (grown-same s.columns r.row (row-long s r.row (a.0))) (same-rows s rows (a.1))

same-tables : (ss : List TableShape) (tables : List (List Numbered)) → AllZip AreRowsOf ss tables → grown_all ss ss tables ≡ tables
same-tables [] [] a = refl
same-tables [] (r ∷ tables) a = absurd a
same-tables (s ∷ ss) [] a = absurd a
same-tables (s ∷ ss) (rows ∷ tables) a =
    ap₂ (λ (r : List Numbered) (rs : List (List Numbered)). r ∷ rs) (same-rows s rows (recursion_from_All (λ (r : Numbered). FitsShape s r.row) rows (a.0).shaped)) (same-tables ss tables (a.1))

pub same-tables-stay : (schema : Schema) (t : Tables) → AreTablesOf schema t → grown_tables schema schema t ≡ t
same-tables-stay schema t a =
    ap (λ (tables : List (List Numbered)). record { tables = tables; sequences = t.sequences }) (same-tables schema.tables t.tables a.tables)

pub same-schema : (schema : Schema) (t : Tables) → AreSound schema t → (extends schema schema ≡ true) × (grown_tables schema schema t ≡ t)
same-schema schema t a = (extends-itself schema, same-tables-stay schema t a.fits)

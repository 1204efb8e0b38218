-- A store whose text alone is another one, and one whose bodies are all put anew.
use Rattle.std.proofs.Common.{◌≡◌, ℕ, zero, suc, ◌+◌, ◌<◌, ℤ, pos, Bool, true, false, not, cond, is_some, ◌&&◌, List, [], ◌∷◌, length, map, All, Option, Some, None, refl, ap, ap₂, sym, subst, ◌∙◌, arith}
use Rattle.std.specs.Prelude.{slice_get, unwrap_or, unsigned_abs}
use Rattle.std.specs.List.{AllByRecursion, range_with_len}
use Rattle.std.specs.Cmp.Lexicographic.{pointwise}
use Rattle.std.specs.Str.{bytes_eq}
use Rattle.std.proofs.lemmas.Bool.{and_parts}
use Rattle.std.proofs.lemmas.List.Elements.{All-nil, All-from_recursion, recursion_from_All}
use Rattle.ur_values.specs.declared.schema.TableShape.{TableShape}
use Rattle.ur_values.specs.declared.schema.Schema.{Schema}
use Rattle.ur_values.specs.declared.schema.Numbered.{Numbered}
use Rattle.ur_values.specs.declared.value.Value.TheVariants as v
use Rattle.ur_values.specs.declared.schema.ColumnKind.{ColumnKind}
use Rattle.ur_values.specs.Kinds.{inside}
use Rattle.ur_values.specs.Store.{Row, FitsKind, FitKinds, IsStorable}
use Rattle.ur_values.specs.Extends.{kind_eq, has_column, is_new, columns_extend, key_moved, bool_eq, table_extends, extends, grown}
use Rattle.ur_values.proofs.Extending.{kind-same, absent-fits}
use Rattle.ur_keeper.specs.Growing.{grown_rows, grown_all, grown_tables}
use Rattle.ur_keeper_bodies.specs.Rows.{kinds_in, MayStand}
use Rattle.ur_keeper_bodies.specs.Columns.{Column, columns_row, columns_body, IsShort}
use Rattle.ur_keeper_bodies.proofs.Cells.{columns-read-back}
use Rattle.ur_keeper_kept.specs.Rewriting.{Entry, renewed, IsRewritten}
use Rattle.ur_keeper_kept.specs.First.{first_row, renewing}
use Rattle.ur_keeper_bodies.proofs.Growing.{grown-read}
use Rattle.ur_keeper_bodies.specs.Bodies.{BodyMap, body_at, bodies_of}
use Rattle.ur_keeper_bodies.specs.declared.stored.Layout.TheVariants as layouts
use Rattle.ur_keeper_kept.specs.Laid.{table_tab, rows_in, rows_by, columns_of, columns_at, table_in, table_by, number_of_body, number_in, tables_in, tables_by, IsRowBody, IsBodyBy, IsNumberBody, IsLaid, IsLaidBy, HasShortNames}
use Rattle.ur_keeper_kept.specs.Grown.{SameBodies}

grown-in : (columns kept : List Column) → columns_extend columns kept ≡ true → (es : List (ℤ × List ℕ)) → AllByRecursion (IsRowBody kept) es
    → rows_in columns es ≡ grown_rows columns kept (rows_in kept es)
grown-in columns kept e [] a = refl
grown-in columns kept e (x ∷ es) a =
    let body = (a.0).body in
    let new : columns_row columns x.1 ≡ Some (grown columns kept body.0) = grown-read columns kept x.1 body.0 e body.1 in
    ap₂ (λ (row : Row) (rows : List Numbered). record { number = unsigned_abs x.0; row = row } ∷ rows)
    (ap (λ (o : Option Row). unwrap_or o []) new ∙ ap (λ (o : Option Row). grown columns kept (unwrap_or o [])) (sym body.1)) (grown-in columns kept e es (a.1))

-- a row that may stand in a table still may when it has grown
abbrev Stands : List Column → Row → Type 0
Stands columns row = FitKinds row (kinds_in columns) × AllByRecursion IsStorable row

grown-stands : (columns kept : List Column) (row : Row) → columns_extend columns kept ≡ true → Stands kept row → Stands columns (grown columns kept row)
grown-stands [] [] row e f = (tt, tt)
grown-stands [] (c ∷ kept) row e f = cc
grown-stands (d ∷ columns) [] row e f =
    let p = and_parts (is_new [] d) (columns_extend columns []) e in
    let r = grown-stands columns [] row (p.1) f in
    ((absent-fits d.1 (and_parts (is_some (inside d.1)) true (p.0)).0, r.0), (omega arith, r.1))
grown-stands (d ∷ columns) (c ∷ kept) [] e f = absurd (f.0)
grown-stands (d ∷ columns) (c ∷ kept) (x ∷ row) e f =
    go (bytes_eq c.0 d.0) e (λ h. grown-stands columns kept row h (f.0.1, f.1.1)) (λ h. grown-stands columns (c ∷ kept) (x ∷ row) h f)
  where
    go : (b : Bool) → cond b (kind_eq d.1 c.1 && columns_extend columns kept) (is_new (c ∷ kept) d && columns_extend columns (c ∷ kept)) ≡ true
        → (columns_extend columns kept ≡ true → Stands columns (grown columns kept row))
        → (columns_extend columns (c ∷ kept) ≡ true → Stands columns (grown columns (c ∷ kept) (x ∷ row)))
        → Stands (d ∷ columns) (cond b (x ∷ grown columns kept row) (v.Absent ∷ grown columns (c ∷ kept) (x ∷ row)))
    go true h same more =
        let p = and_parts (kind_eq d.1 c.1) (columns_extend columns kept) h in
        let r = same (p.1) in
        ((subst (FitsKind x) (sym (kind-same d.1 c.1 (p.0))) (f.0.0), r.0), (f.1.0, r.1))
    go false h same more =
        let p = and_parts (is_new (c ∷ kept) d) (columns_extend columns (c ∷ kept)) h in
        let r = more (p.1) in
        ((absent-fits d.1 (and_parts (is_some (inside d.1)) (not (has_column (c ∷ kept) d.0)) (p.0)).0, r.0), (omega arith, r.1))

may-grow : (columns kept : List Column) (row : Row) → columns_extend columns kept ≡ true → MayStand (kinds_in kept) row
    → MayStand (kinds_in columns) (grown columns kept row)
may-grow columns kept row e m =
    let r = grown-stands columns kept row e (m.fits, recursion_from_All IsStorable row m.sizes) in
    record { fits = r.0; sizes = All-from_recursion IsStorable (grown columns kept row) (r.1) }

grown-bodies : (columns kept : List Column) → columns_extend columns kept ≡ true → (es : List (ℤ × List ℕ)) → AllByRecursion (IsRowBody kept) es
    → AllByRecursion (IsRowBody columns) es
grown-bodies columns kept e [] a = tt
grown-bodies columns kept e (x ∷ es) a =
    let body = (a.0).body in (
      record { low = (a.0).low; body = (grown columns kept body.0, grown-read columns kept x.1 body.0 e body.1, may-grow columns kept body.0 e body.2) },
      grown-bodies columns kept e es (a.1),
    )

-- ---- table by table

extends-at : (ss ks : List TableShape) → pointwise table_extends ss ks ≡ true → (i : ℕ)
    → columns_extend (columns_of (slice_get ss i)) (columns_of (slice_get ks i)) ≡ true
extends-at [] [] e i = refl
extends-at [] (k ∷ ks) e i = cc
extends-at (s ∷ ss) [] e i = cc
extends-at (s ∷ ss) (k ∷ ks) e zero =
    let p = and_parts (table_extends s k) (pointwise table_extends ss ks) e in
    let q = and_parts (bytes_eq s.name k.name) (columns_extend s.columns k.columns && (pointwise (key_moved s.columns k.columns) s.keys k.keys && bool_eq s.primary k.primary)) (p.0) in
    (and_parts (columns_extend s.columns k.columns) (pointwise (key_moved s.columns k.columns) s.keys k.keys && bool_eq s.primary k.primary) (q.1)).0
extends-at (s ∷ ss) (k ∷ ks) e (suc i) = extends-at ss ks (and_parts (table_extends s k) (pointwise table_extends ss ks) e).1 i

as-long : {X : Type 0} (p : X → X → Bool) (xs ys : List X) → pointwise p xs ys ≡ true → length xs ≡ length ys
as-long p [] [] e = refl
as-long p [] (y ∷ ys) e = cc
as-long p (x ∷ xs) [] e = cc
as-long p (x ∷ xs) (y ∷ ys) e = ap suc (as-long p xs ys (and_parts (p x y) (pointwise p xs ys) e).1)

-- the tables of shapes from a place on
grown-list : (f g : ℕ → List Numbered) (ss ks : List TableShape) (n : ℕ) → length ss ≡ length ks
    → ((i : ℕ) → i < length ks → f (n + i) ≡ grown_rows (columns_of (slice_get ss i)) (columns_of (slice_get ks i)) (g (n + i)))
    → map f (range_with_len n (length ss)) ≡ grown_all ss ks (map g (range_with_len n (length ks)))
grown-list f g [] [] n l h = refl
grown-list f g [] (k ∷ ks) n l h = absurd (omega arith)
grown-list f g (s ∷ ss) [] n l h = absurd (omega arith)
grown-list f g (s ∷ ss) (k ∷ ks) n l h =
    ap₂ (λ (r : List Numbered) (rs : List (List Numbered)). r ∷ rs)
    (subst (λ j. f j ≡ grown_rows s.columns k.columns (g j)) (let z : n + 0 ≡ n = omega arith in z) (h 0 (omega arith)))
    (grown-list f g ss ks (n + 1) (omega arith) (λ i small.
    subst (λ j. f j ≡ grown_rows (columns_of (slice_get ss i)) (columns_of (slice_get ks i)) (g j)) (let z : n + suc i ≡ n + 1 + i = omega arith in z) (h (suc i) (omega (arith, small)))))

map-below : (f g : ℕ → ℤ) (n k : ℕ) → ((i : ℕ) → i < k → f (n + i) ≡ g (n + i)) → map f (range_with_len n k) ≡ map g (range_with_len n k)
map-below f g n zero h = refl
map-below f g n (suc k) h =
    ap₂ (λ (z : ℤ) (zs : List ℤ). z ∷ zs) (subst (λ j. f j ≡ g j) (let z : n + 0 ≡ n = omega arith in z) (h 0 (omega arith)))
    (map-below f g (n + 1) k (λ i small. subst (λ j. f j ≡ g j) (let z : n + suc i ≡ n + 1 + i = omega arith in z) (h (suc i) (omega (arith, small)))))

module _ (schema kept : Schema) (m m' : BodyMap) (e : extends schema kept ≡ true) (laid : IsLaid kept m) (same : SameBodies kept m m') where
  parts : (pointwise table_extends schema.tables kept.tables ≡ true) × (pointwise bytes_eq schema.sequences kept.sequences ≡ true)
  parts = and_parts (pointwise table_extends schema.tables kept.tables) (pointwise bytes_eq schema.sequences kept.sequences) e

  tables-long : length schema.tables ≡ length kept.tables
  tables-long = as-long table_extends schema.tables kept.tables (parts.0)

  sequences-long : length schema.sequences ≡ length kept.sequences
  sequences-long = as-long bytes_eq schema.sequences kept.sequences (parts.1)

  table-grown : (i : ℕ) → i < length kept.tables → table_in schema m' i ≡ grown_rows (columns_at schema i) (columns_at kept i) (table_in kept m i)
  table-grown i l =
      ap (rows_in (columns_at schema i)) (same.tables i l)
      ∙ grown-in (columns_at schema i) (columns_at kept i) (extends-at schema.tables kept.tables (parts.0) i) (bodies_of m (table_tab i)) (recursion_from_All (IsRowBody (columns_at kept i)) (bodies_of m (table_tab i)) (laid.tables i l))

  tables-grown : tables_in schema m' ≡ grown_tables schema kept (tables_in kept m)
  tables-grown =
      let tables = grown-list (table_in schema m') (table_in kept m) schema.tables kept.tables 0 tables-long
      (λ i l. subst (λ j. table_in schema m' j ≡ grown_rows (columns_at schema i) (columns_at kept i) (table_in kept m j)) (let z : i ≡ 0 + i = omega arith in z) (table-grown i l)) in
      let sequences : map (number_in m') (range_with_len 0 (length schema.sequences)) ≡ map (number_in m) (range_with_len 0 (length kept.sequences)) =
      ap (λ n. map (number_in m') (range_with_len 0 n)) sequences-long
      ∙ map-below (number_in m') (number_in m) 0 (length kept.sequences) (λ i l. subst (λ j. number_in m' j ≡ number_in m j) (let z : i ≡ 0 + i = omega arith in z) (ap number_of_body (same.sequences i l))) in
      λ k. record { tables = tables k; sequences = sequences k }

  laid-grown : IsLaid schema m'
  laid-grown = record {
    tables = λ i l.
        let small : i < length kept.tables = subst (λ n. i < n) tables-long l in
        subst (λ (es : List (ℤ × List ℕ)). All (IsRowBody (columns_at schema i)) es) (sym (same.tables i small))
        (All-from_recursion (IsRowBody (columns_at schema i)) (bodies_of m (table_tab i))
        (grown-bodies (columns_at schema i) (columns_at kept i) (extends-at schema.tables kept.tables (parts.0) i) (bodies_of m (table_tab i)) (recursion_from_All (IsRowBody (columns_at kept i)) (bodies_of m (table_tab i)) (laid.tables i small))));
    sequences = λ i l.
        let small : i < length kept.sequences = subst (λ n. i < n) sequences-long l in
        subst IsNumberBody (sym (same.sequences i small)) (laid.sequences i small);
  }

  pub another-text : (tables_in schema m' ≡ grown_tables schema kept (tables_in kept m)) × IsLaid schema m'
  another-text = (tables-grown, laid-grown)

-- ---- a store of the first layout

short-list : (ss : List TableShape) (i : ℕ) → AllByRecursion (λ s. All (λ c. IsShort c.0) s.columns) ss → All (λ c. IsShort c.0) (columns_of (slice_get ss i))
short-list [] i a = All-nil (λ (c : Column). IsShort c.0)
short-list (s ∷ ss) zero a = a.0
short-list (s ∷ ss) (suc i) a = short-list ss i (a.1)

-- 4 bytes count the names of each table's columns
pub short-at : (schema : Schema) → HasShortNames schema → (i : ℕ) → All (λ c. IsShort c.0) (columns_at schema i)
short-at schema short i = short-list schema.tables i (recursion_from_All (λ (s : TableShape). All (λ c. IsShort c.0) s.columns) schema.tables short)

first-bodies : (columns kept : List Column) → columns_extend columns kept ≡ true → All (λ c. IsShort c.0) columns → (f : Entry → List ℕ)
    → ((e : Entry) → f e ≡ columns_body columns (grown columns kept (first_row kept e.1)))
    → (es : List Entry) → AllByRecursion (IsBodyBy layouts.One kept) es
    → (rows_in columns (map (renewed f) es) ≡ grown_rows columns kept (rows_by layouts.One kept es)) × AllByRecursion (IsRowBody columns) (map (renewed f) es)
first-bodies columns kept e short f is [] a = (refl, tt)
first-bodies columns kept e short f is (x ∷ es) a =
    let body = (a.0).body in
    let row = first_row kept x.1 in
    let same : row ≡ body.0 = ap (λ (o : Option Row). unwrap_or o []) body.1 in
    let may : MayStand (kinds_in columns) (grown columns kept row) = may-grow columns kept row e (subst (MayStand (kinds_in kept)) (sym same) body.2) in
    let read : columns_row columns (f x) ≡ Some (grown columns kept row) = ap (columns_row columns) (is x) ∙ columns-read-back columns (grown columns kept row) short may.fits may.sizes in
    let rest = first-bodies columns kept e short f is es (a.1) in (
      ap₂ (λ (r : Row) (rs : List Numbered). record { number = unsigned_abs x.0; row = r } ∷ rs) (ap (λ (o : Option Row). unwrap_or o []) read) (rest.0),
      (record { low = (a.0).low; body = (grown columns kept row, read, may) }, rest.1),
    )

module _ (schema kept : Schema) (m m' : BodyMap) (e : extends schema kept ≡ true) (short : HasShortNames schema)
    (laid : IsLaidBy layouts.One kept m) (re : IsRewritten (renewing schema kept) m m' (length kept.tables)) where
  halves : (pointwise table_extends schema.tables kept.tables ≡ true) × (pointwise bytes_eq schema.sequences kept.sequences ≡ true)
  halves = and_parts (pointwise table_extends schema.tables kept.tables) (pointwise bytes_eq schema.sequences kept.sequences) e

  as-many : length schema.tables ≡ length kept.tables
  as-many = as-long table_extends schema.tables kept.tables (halves.0)

  as-many-numbers : length schema.sequences ≡ length kept.sequences
  as-many-numbers = as-long bytes_eq schema.sequences kept.sequences (halves.1)

  written-at : (i : ℕ) → i < length kept.tables
      → (rows_in (columns_at schema i) (map (renewed (renewing schema kept i)) (bodies_of m (table_tab i))) ≡ grown_rows (columns_at schema i) (columns_at kept i) (table_by layouts.One kept m i))
      × AllByRecursion (IsRowBody (columns_at schema i)) (map (renewed (renewing schema kept i)) (bodies_of m (table_tab i)))
  written-at i l =
      first-bodies (columns_at schema i) (columns_at kept i) (extends-at schema.tables kept.tables (halves.0) i) (short-at schema short i) (renewing schema kept i) (λ x. refl)
      (bodies_of m (table_tab i)) (recursion_from_All (IsBodyBy layouts.One (columns_at kept i)) (bodies_of m (table_tab i)) (laid.tables i l))

  first-tables-grown : tables_in schema m' ≡ grown_tables schema kept (tables_by layouts.One kept m)
  first-tables-grown =
      let tables = grown-list (table_in schema m') (table_by layouts.One kept m) schema.tables kept.tables 0 as-many
      (λ i l. subst (λ j. table_in schema m' j ≡ grown_rows (columns_at schema i) (columns_at kept i) (table_by layouts.One kept m j)) (let z : i ≡ 0 + i = omega arith in z)
      (ap (rows_in (columns_at schema i)) (re.bodies i l) ∙ (written-at i l).0)) in
      let sequences : map (number_in m') (range_with_len 0 (length schema.sequences)) ≡ map (number_in m) (range_with_len 0 (length kept.sequences)) =
      ap (λ n. map (number_in m') (range_with_len 0 n)) as-many-numbers
      ∙ map-below (number_in m') (number_in m) 0 (length kept.sequences) (λ i l. subst (λ j. number_in m' j ≡ number_in m j) (let z : i ≡ 0 + i = omega arith in z) (ap number_of_body (re.numbers i))) in
      λ k. record { tables = tables k; sequences = sequences k }

  first-laid : IsLaid schema m'
  first-laid = record {
    tables = λ i l.
        let small : i < length kept.tables = subst (λ n. i < n) as-many l in
        subst (λ (es : List Entry). All (IsRowBody (columns_at schema i)) es) (sym (re.bodies i small))
        (All-from_recursion (IsRowBody (columns_at schema i)) (map (renewed (renewing schema kept i)) (bodies_of m (table_tab i))) (written-at i small).1);
    sequences = λ i l.
        let small : i < length kept.sequences = subst (λ n. i < n) as-many-numbers l in
        subst IsNumberBody (sym (re.numbers i)) (laid.sequences i small);
  }

  pub first-written : (tables_in schema m' ≡ grown_tables schema kept (tables_by layouts.One kept m)) × IsLaid schema m'
  first-written = (first-tables-grown, first-laid)

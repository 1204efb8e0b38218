-- The bytes of a row of kept columns are read under columns that extend them as the row with Absent in each new one.
use Rattle.std.proofs.Common.{◌≡◌, ℕ, Bool, true, false, not, ◌&&◌, ◌||◌, cond, List, [], ◌∷◌, Option, Some, None, option_map, is_some, refl, ap, ap₂, sym, subst, ◌∙◌}
use Rattle.std.specs.Option.{option_and_then}
use Rattle.std.specs.Str.{bytes_eq}
use Rattle.std.proofs.lemmas.Bool.{and_parts}
use Rattle.ur_values.specs.declared.value.Value.{Value}
use Rattle.ur_values.specs.declared.value.Value.TheVariants as v
use Rattle.ur_values.specs.declared.schema.ColumnKind.{ColumnKind}
use Rattle.ur_values.specs.declared.schema.ColumnKind.TheVariants as kind
use Rattle.ur_values.specs.Store.{Row}
use Rattle.ur_values.specs.Kinds.{inside}
use Rattle.ur_values.specs.Extends.{kind_eq, has_column, is_new, columns_extend, grown}
use Rattle.ur_keeper_bodies.specs.Columns.{Column, name_front, if_named, behind, cell_behind, cell_of, columns_row}
use Rattle.ur_keeper_bodies.proofs.Inverse.{some-back, then-back, bytes-same}
use Rattle.ur_keeper_bodies.proofs.Cells.{row-of-cell}

-- where one name stands at the front another one does not
name-differs : (a name bytes rest : List ℕ) → behind a bytes ≡ Some rest → bytes_eq a name ≡ false → behind name bytes ≡ None
name-differs a name bytes rest e other =
    let r = then-back (if_named a) (name_front bytes) rest e in
    ap (option_and_then (if_named name)) (r.1) ∙ go (r.0) (bytes_eq (r.0).0 a) refl (r.2)
  where
    go : (p : List ℕ × List ℕ) (b : Bool) → bytes_eq p.0 a ≡ b → cond b (Some p.1) None ≡ Some rest → if_named name p ≡ None
    go p true h f = ap (λ (x : List ℕ). cond {A = Option (List ℕ)} (bytes_eq x name) (Some p.1) None) (bytes-same p.0 a h) ∙ ap (λ (b : Bool). cond b (Some p.1) None) other
    go p false h f = cc

-- what is read of a first column and of those behind it
record ReadsFirst (c : Column) (kept : List Column) (bytes : List ℕ) (row : Row) : Type 0 where
  pub cell : Value × List ℕ
  pub more : Row
  pub of_cell : cell_of c bytes ≡ Some cell
  pub of_more : columns_row kept cell.1 ≡ Some more
  pub whole : cell.0 ∷ more ≡ row

reads-first : (c : Column) (kept : List Column) (bytes : List ℕ) (row : Row) → columns_row (c ∷ kept) bytes ≡ Some row → ReadsFirst c kept bytes row
reads-first c kept bytes row e =
    let r = then-back (λ (p : Value × List ℕ). option_map (λ row. p.0 ∷ row) (columns_row kept p.1)) (cell_of c bytes) row e in
    let q = some-back (λ (row : Row). (r.0).0 ∷ row) (columns_row kept (r.0).1) row (r.2) in
    record { cell = r.0; more = q.0; of_cell = r.1; of_more = q.1; whole = q.2 }

or-false : (a b : Bool) → (a || b) ≡ false → (a ≡ false) × (b ≡ false)
or-false true b e = cc
or-false false b e = (refl, e)

not-true : (b : Bool) → not b ≡ true → b ≡ false
not-true true e = cc
not-true false e = refl

-- a column whose name is not at the front leaves the bytes to the others
rest-missing : (c : Column) (bytes : List ℕ) (cell : Value × List ℕ) → cell_behind c.1 bytes None ≡ Some cell → cell.1 ≡ bytes
rest-missing c bytes cell e = by (is_some (inside c.1)) e
  where
    by : (b : Bool) → cond {A = Option (Value × List ℕ)} b (Some (v.Absent, bytes)) None ≡ Some cell → cell.1 ≡ bytes
    by true k = let same : (v.Absent, bytes) ≡ cell = cc in ap (λ (p : Value × List ℕ). p.1) (sym same)
    by false k = cc

-- a name that no column has does not stand at the front of the bytes of a row
not-read : (kept : List Column) (name bytes : List ℕ) (row : Row) → has_column kept name ≡ false → columns_row kept bytes ≡ Some row → behind name bytes ≡ None
not-read [] name [] row h e = refl
not-read [] name (b ∷ bytes) row h e = cc
not-read (c ∷ kept) name bytes row h e =
    go (behind c.0 bytes) refl first.of_cell (λ same. not-read kept name bytes first.more (others.1) (ap (columns_row kept) (sym same) ∙ first.of_more))
  where
    first : ReadsFirst c kept bytes row
    first = reads-first c kept bytes row e

    others : (bytes_eq c.0 name ≡ false) × (has_column kept name ≡ false)
    others = or-false (bytes_eq c.0 name) (has_column kept name) h

    go : (o : Option (List ℕ)) → behind c.0 bytes ≡ o → cell_behind c.1 bytes o ≡ Some first.cell → (first.cell.1 ≡ bytes → behind name bytes ≡ None) → behind name bytes ≡ None
    go (Some rest) f g more = name-differs c.0 name bytes rest f (others.0)
    go None f g more = more (rest-missing c bytes first.cell g)

kind-same : (j k : ColumnKind) → kind_eq j k ≡ true → j ≡ k
kind-same kind.Int kind.Int e = refl
kind-same kind.Str kind.Str e = refl
kind-same kind.Bool kind.Bool e = refl
kind-same kind.OptInt kind.OptInt e = refl
kind-same kind.OptStr kind.OptStr e = refl
kind-same kind.OptBool kind.OptBool e = refl
kind-same _ _ e = cc

absent-cell : (d : Column) (bytes : List ℕ) → is_some (inside d.1) ≡ true → behind d.0 bytes ≡ None → cell_of d bytes ≡ Some (v.Absent, bytes)
absent-cell d bytes optional none = ap (cell_behind d.1 bytes) none ∙ ap (λ (b : Bool). cond {A = Option (Value × List ℕ)} b (Some (v.Absent, bytes)) None) optional

no-bytes : (bytes : List ℕ) (row : Row) → columns_row [] bytes ≡ Some row → (bytes ≡ []) × (row ≡ [])
no-bytes [] row e = (refl, let same : [] ≡ row = cc in sym same)
no-bytes (b ∷ bytes) row e = cc

pub grown-read : (columns kept : List Column) (bytes : List ℕ) (row : Row) → columns_extend columns kept ≡ true → columns_row kept bytes ≡ Some row → columns_row columns bytes ≡ Some (grown columns kept row)
grown-read [] [] bytes row e r = let n = no-bytes bytes row r in ap (columns_row []) (n.0)
grown-read [] (c ∷ kept) bytes row e r = cc
grown-read (d ∷ columns) [] bytes row e r =
    let p = and_parts (is_new [] d) (columns_extend columns []) e in
    let none : behind d.0 bytes ≡ None = ap (behind d.0) (no-bytes bytes row r).0 in
    row-of-cell d columns bytes v.Absent bytes (grown columns [] row) (absent-cell d bytes (and_parts (is_some (inside d.1)) true (p.0)).0 none) (grown-read columns [] bytes row (p.1) r)
grown-read (d ∷ columns) (c ∷ kept) bytes row e r =
    subst (λ (s : Row). columns_row (d ∷ columns) bytes ≡ Some (grown (d ∷ columns) (c ∷ kept) s)) first.whole
    (go (bytes_eq c.0 d.0) refl e (λ h. grown-read columns kept first.cell.1 first.more h first.of_more)
    (λ h. grown-read columns (c ∷ kept) bytes (first.cell.0 ∷ first.more) h (r ∙ ap Some (sym first.whole))))
  where
    first : ReadsFirst c kept bytes row
    first = reads-first c kept bytes row r

    go : (b : Bool) → bytes_eq c.0 d.0 ≡ b → cond b (kind_eq d.1 c.1 && columns_extend columns kept) (is_new (c ∷ kept) d && columns_extend columns (c ∷ kept)) ≡ true
        → (columns_extend columns kept ≡ true → columns_row columns first.cell.1 ≡ Some (grown columns kept first.more))
        → (columns_extend columns (c ∷ kept) ≡ true → columns_row columns bytes ≡ Some (grown columns (c ∷ kept) (first.cell.0 ∷ first.more)))
        → columns_row (d ∷ columns) bytes ≡ Some (cond b (first.cell.0 ∷ grown columns kept first.more) (v.Absent ∷ grown columns (c ∷ kept) (first.cell.0 ∷ first.more)))
    go true named h same more =
        let p = and_parts (kind_eq d.1 c.1) (columns_extend columns kept) h in
        let cell : cell_of d bytes ≡ Some first.cell = ap₂ (λ (n : List ℕ) (k : ColumnKind). cell_of (n, k) bytes) (sym (bytes-same c.0 d.0 named)) (kind-same d.1 c.1 (p.0)) ∙ first.of_cell in
        row-of-cell d columns bytes first.cell.0 first.cell.1 (grown columns kept first.more) cell (same (p.1))
    go false named h same more =
        let p = and_parts (is_new (c ∷ kept) d) (columns_extend columns (c ∷ kept)) h in
        let q = and_parts (is_some (inside d.1)) (not (has_column (c ∷ kept) d.0)) (p.0) in
        let none : behind d.0 bytes ≡ None = not-read (c ∷ kept) d.0 bytes row (not-true (has_column (c ∷ kept) d.0) (q.1)) r in
        row-of-cell d columns bytes v.Absent bytes (grown columns (c ∷ kept) (first.cell.0 ∷ first.more)) (absent-cell d bytes (q.0) none) (more (p.1))

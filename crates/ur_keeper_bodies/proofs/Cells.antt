-- Rows that name their columns are read as they were written, and no other bytes are read as them.
use Rattle.std.proofs.Common.{◌≡◌, ℕ, ◌+◌, ◌≤◌, ◌<◌, Bool, true, false, cond, List, [], ◌∷◌, ◌++◌, length, All, Option, Some, None, option_map, refl, ap, sym, subst, ◌∙◌, arith, w32}
use Rattle.std.specs.Option.{option_and_then}
use Rattle.std.specs.Str.{bytes_eq}
use Rattle.std.specs.Int.{to_be_bytes, from_be_bytes}
use Rattle.std.proofs.lemmas.List.Elements.{All-head, All-tail}
use Rattle.std.proofs.lemmas.Nat.{from_be_bytes-to_be_bytes_4}
use Rattle.ur_values.specs.declared.value.Value.{Value}
use Rattle.ur_values.specs.declared.value.Value.TheVariants as v
use Rattle.ur_values.specs.declared.schema.ColumnKind.{ColumnKind}
use Rattle.ur_values.specs.Store.{Row, FitKinds, FitsKind, IsStorable}
use Rattle.ur_keeper_bodies.specs.Rows.{text_body, value_body, front, value_of, kinds_in}
use Rattle.ur_keeper_bodies.specs.Columns.{Column, columns_body, name_front, if_named, behind, missing, cell_behind, cell_of, columns_row, IsShort, IsBodyOf, no_more, there, left_out, AreNamed}
use Rattle.ur_keeper_bodies.proofs.RowLaws.{front-of, front-is, grouped, value-read-back}

same_bytes : (xs : List ℕ) → bytes_eq xs xs ≡ true
same_bytes [] = refl
same_bytes (x ∷ xs) = rw (Rattle.std.proofs.Common.eq-eqb x x refl) (same_bytes xs)

-- a name that was written is read, whatever stands behind it
name-read : (t rest : List ℕ) → IsShort t → name_front (text_body t ++ rest) ≡ Some (t, rest)
name-read t rest short =
    let head = to_be_bytes w32 (length t) in
    let number : from_be_bytes w32 head ≡ length t = from_be_bytes-to_be_bytes_4 (length t) (omega (arith, short)) in
    ap name_front (grouped head t rest)
    ∙ ap (option_and_then (λ p. front (from_be_bytes w32 p.0) p.1)) (front-is 4 head (t ++ rest) refl)
    ∙ ap (λ (n : ℕ). front n (t ++ rest)) number
    ∙ front-of t rest

behind-own : (t rest : List ℕ) → IsShort t → behind t (text_body t ++ rest) ≡ Some rest
behind-own t rest short = ap (option_and_then (if_named t)) (name-read t rest short) ∙ ap (λ (b : Bool). cond b (Some rest) None) (same_bytes t)

behind-other : (name t rest : List ℕ) → IsShort t → bytes_eq t name ≡ false → behind name (text_body t ++ rest) ≡ None
behind-other name t rest short other = ap (option_and_then (if_named name)) (name-read t rest short) ∙ ap (λ (b : Bool). cond b (Some rest) None) other

cell-read-back : (c : Column) (x : Value) (rest : List ℕ) → IsShort c.0 → FitsKind x c.1 → IsStorable x → cell_of c (text_body c.0 ++ (value_body x ++ rest)) ≡ Some (x, rest)
cell-read-back c x rest short f s =
    ap (cell_behind c.1 (text_body c.0 ++ (value_body x ++ rest))) (behind-own c.0 (value_body x ++ rest) short) ∙ value-read-back x c.1 rest f s

-- one column more
pub row-of-cell : (c : Column) (columns : List Column) (bytes : List ℕ) (x : Value) (rest : List ℕ) (row : Row) → cell_of c bytes ≡ Some (x, rest) → columns_row columns rest ≡ Some row → columns_row (c ∷ columns) bytes ≡ Some (x ∷ row)
row-of-cell c columns bytes x rest row e r = ap (option_and_then (λ p. option_map (λ r. p.0 ∷ r) (columns_row columns p.1))) e ∙ ap (option_map (λ r. x ∷ r)) r

pub columns-read-back : (columns : List Column) (row : Row) → All (λ c. IsShort c.0) columns → FitKinds row (kinds_in columns) → All IsStorable row → columns_row columns (columns_body columns row) ≡ Some row
columns-read-back [] [] short f s = refl
columns-read-back [] (x ∷ row) short f s = absurd f
columns-read-back (c ∷ columns) [] short f s = absurd f
columns-read-back (c ∷ columns) (x ∷ row) short f s =
    row-of-cell c columns (columns_body (c ∷ columns) (x ∷ row)) x (columns_body columns row) row
    (cell-read-back c x (columns_body columns row) (All-head (λ (d : Column). IsShort d.0) c columns short) (f.0) (All-head IsStorable x row s))
    (columns-read-back columns row (All-tail (λ (d : Column). IsShort d.0) c columns short) (f.1) (All-tail IsStorable x row s))

-- ---- bytes of a row

-- no other name stands at the front
not-at-front : (name : List ℕ) (columns : List Column) (row : Row) (bytes : List ℕ) → All (λ d. bytes_eq d.0 name ≡ false) columns → AreNamed columns → IsBodyOf columns row bytes → behind name bytes ≡ None
not-at-front name columns row bytes others named no_more = refl
not-at-front name columns row bytes others named (there c columns' x row' rest f s more) =
    behind-other name c.0 (value_body x ++ rest) (named.0) (All-head (λ (d : Column). bytes_eq d.0 name ≡ false) c columns' others)
not-at-front name columns row bytes others named (left_out c columns' row' rest optional more) =
    not-at-front name columns' row' rest (All-tail (λ (d : Column). bytes_eq d.0 name ≡ false) c columns' others) (named.2) more

pub body-read : (columns : List Column) (row : Row) (bytes : List ℕ) → AreNamed columns → IsBodyOf columns row bytes → columns_row columns bytes ≡ Some row
body-read columns row bytes named no_more = refl
body-read columns row bytes named (there c columns' x row' rest f s more) =
    row-of-cell c columns' (text_body c.0 ++ (value_body x ++ rest)) x rest row' (cell-read-back c x rest (named.0) f s) (body-read columns' row' rest (named.2) more)
body-read columns row bytes named (left_out c columns' row' rest optional more) =
    row-of-cell c columns' rest v.Absent rest row'
    (ap (cell_behind c.1 rest) (not-at-front c.0 columns' row' rest (named.1) (named.2) more) ∙ ap (λ (b : Bool). cond {A = Option (Value × List ℕ)} b (Some (v.Absent, rest)) None) optional)
    (body-read columns' row' rest (named.2) more)

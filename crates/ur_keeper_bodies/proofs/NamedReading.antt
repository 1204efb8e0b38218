-- One column more of a row that is read.
use Rattle.std.proofs.Common.{◌≡◌, ℕ, zero, suc, ◌+◌, ◌≤◌, ◌<◌, List, [], ◌∷◌, ◌++◌, length, take, drop, Option, Some, None, IfSome, option_map, refl, ap, sym, subst, ◌∙◌, arith}
use Rattle.std.specs.Option.{option_and_then}
use Rattle.std.specs.List.{AllZip}
use Rattle.std.proofs.lemmas.List.{drop-drop, length-drop}
use Rattle.std.proofs.lemmas.List.Elements.{All-push}
use Rattle.ur_values.specs.declared.value.Value.{Value}
use Rattle.ur_values.specs.declared.schema.ColumnKind.{ColumnKind}
use Rattle.ur_values.specs.Store.{Row, FitKinds, FitsKind, IsStorable}
use Rattle.ur_keeper_bodies.specs.Rows.{kinds_in, with_rest, MayBeRead, MayStand}
use Rattle.ur_keeper_bodies.specs.Columns.{Column, cell_of, columns_row}

abbrev Columns : Type 0
Columns = List Column

kinds-append : (xs ys : Columns) → kinds_in (xs ++ ys) ≡ kinds_in xs ++ kinds_in ys
kinds-append [] ys = refl
kinds-append (x ∷ xs) ys = ap (λ ks. x.1 ∷ ks) (kinds-append xs ys)

zip-push : {A B : Type 0} (R : A → B → Type 0) (xs : List A) (ys : List B) (x : A) (y : B) → AllZip R xs ys → R x y → AllZip R (xs ++ x ∷ []) (ys ++ y ∷ [])
zip-push R [] [] x y h r = (r, tt)
zip-push R [] (b ∷ ys) x y h r = absurd h
zip-push R (a ∷ xs) [] x y h r = absurd h
zip-push R (a ∷ xs) (b ∷ ys) x y h r = (h.0, zip-push R xs ys x y h.1 r)

stands : (columns : Columns) (column : List ℕ × ColumnKind) (row : Row) (value : Value) → MayStand (kinds_in columns) row → FitsKind value column.1 → IsStorable value → MayStand (kinds_in (columns ++ column ∷ [])) (row ++ value ∷ [])
stands columns column row value m f s = record {
  fits = subst (λ ks. FitKinds (row ++ value ∷ []) ks) (sym (kinds-append columns (column ∷ []))) (zip-push FitsKind row (kinds_in columns) value column.1 m.fits f);
  sizes = All-push IsStorable row value m.sizes s;
}

joined : (row : Row) (value : Value) (o : Option Row) → option_map (λ r. row ++ r) (option_map (λ r. value ∷ r) o) ≡ option_map (λ r. (row ++ value ∷ []) ++ r) o
joined row value None = refl
joined row value (Some r) = ap Some (snoc row)
  where
    snoc : (row : Row) → row ++ value ∷ r ≡ (row ++ value ∷ []) ++ r
    snoc [] = refl
    snoc (x ∷ row) = ap (λ xs. x ∷ xs) (snoc row)

-- what a loop over the columns keeps
abbrev pub Reads : Columns → List ℕ → ℕ → ℕ → Row → Type 0
Reads columns bytes i at row =
    (at ≤ length bytes) × (option_map (λ r. row ++ r) (columns_row (drop i columns) (drop at bytes)) ≡ columns_row columns bytes) × MayStand (kinds_in (take i columns)) row

value-read : (k : Column) (kinds : List Column) (bytes : List ℕ) (value : Value) (taken : ℕ) → with_rest bytes (Some (value, taken)) ≡ cell_of k bytes → columns_row (k ∷ kinds) bytes ≡ option_map (λ r. value ∷ r) (columns_row kinds (drop taken bytes))
value-read k kinds bytes value taken e = ap (option_and_then (λ p. option_map (λ row. p.0 ∷ row) (columns_row kinds p.1))) (sym e)

pub one-more : (columns : Columns) (bytes part : List ℕ) (i at : ℕ) (row row' : Row) (column : List ℕ × ColumnKind) (found : Option (Value × ℕ)) (value : Value) (taken : ℕ)
    → drop i columns ≡ column ∷ drop (i + 1) columns
    → take (i + 1) columns ≡ take i columns ++ column ∷ []
    → Reads columns bytes i at row
    → part ≡ drop at bytes
    → found ≡ Some (value, taken)
    → with_rest part found ≡ cell_of column part
    → IfSome found (MayBeRead column.1 part)
    → row' ≡ row ++ value ∷ []
    → Reads columns bytes (i + 1) (at + taken) row'
one-more columns bytes part i at row row' column found value taken here upto reads part-is found-is is fits more =
    let kinds = drop (i + 1) columns in
    let may : MayBeRead column.1 (drop at bytes) (value, taken) = subst (λ (b : List ℕ). MayBeRead column.1 b (value, taken)) part-is (subst (λ f. IfSome f (MayBeRead column.1 part)) found-is fits) in
    let value-is : with_rest (drop at bytes) (Some (value, taken)) ≡ cell_of column (drop at bytes) = subst (λ (b : List ℕ). with_rest b (Some (value, taken)) ≡ cell_of column b) part-is (subst (λ f. with_rest part f ≡ cell_of column part) found-is is) in
    let within : at + taken ≤ length bytes = grind (arith, length-drop, may.0, reads.0) in
    let rest : drop taken (drop at bytes) ≡ drop (at + taken) bytes = drop-drop taken at bytes in
    let next : option_map (λ r. row ++ r) (columns_row (drop i columns) (drop at bytes)) ≡ option_map (λ r. (row ++ value ∷ []) ++ r) (columns_row kinds (drop (at + taken) bytes)) =
    ap (λ (cs : Columns). option_map (λ r. row ++ r) (columns_row cs (drop at bytes))) here
    ∙ ap (option_map (λ r. row ++ r)) (value-read column kinds (drop at bytes) value taken value-is)
    ∙ joined row value (columns_row kinds (drop taken (drop at bytes)))
    ∙ ap (λ b. option_map (λ r. (row ++ value ∷ []) ++ r) (columns_row kinds b)) rest in
    subst (λ (r : Row). Reads columns bytes (i + 1) (at + taken) r) (sym more)
    (within, sym next ∙ reads.1, subst (λ (cs : Columns). MayStand (kinds_in cs) (row ++ value ∷ [])) (sym upto) (stands (take i columns) column row value reads.2 may.1 may.2))

-- the bytes of no row end too late
pub too-long : (columns : Columns) (bytes : List ℕ) (i at : ℕ) (row : Row) → drop i columns ≡ [] → Reads columns bytes i at row → at < length bytes → None ≡ columns_row columns bytes
too-long columns bytes i at row none reads longer =
    sym (ap (λ (cs : Columns). option_map (λ r. row ++ r) (columns_row cs (drop at bytes))) none ∙ ap (option_map (λ r. row ++ r)) (left bytes at longer)) ∙ reads.1
  where
    left : (bytes : List ℕ) (at : ℕ) → at < length bytes → columns_row [] (drop at bytes) ≡ None
    left [] at l = absurd (omega arith)
    left (b ∷ bytes) zero l = refl
    left (b ∷ bytes) (suc at) l = left bytes at (omega (arith, l))

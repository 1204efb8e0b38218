-- What is read is what was written: no other bytes are read as a row.
use Rattle.std.proofs.Common.{◌≡◌, ℕ, zero, suc, ◌+◌, ◌≤◌, ◌<◌, ◌^◌, ℤ, pos, negsuc, ◌⊎◌, inl, inr, ⊎_elim, Bool, true, false, ◌&&◌, cond, List, [], ◌∷◌, ◌++◌, length, take, drop, get_or, All, Option, Some, None, option_map, is_some, refl, ap, ap₂, sym, subst, ◌∙◌, arith, nat_le, w32, w64, IsUtf8, ◌==◌, eqb-true}
use Rattle.std.specs.Prelude.{FitsSigned, if◌then◌else◌}
use Rattle.std.specs.Option.{option_and_then}
use Rattle.std.specs.List.{AllByRecursion}
use Rattle.std.specs.Str.{bytes_eq, is_utf8}
use Rattle.std.specs.Int.{to_be_bytes, from_be_bytes, cast_unsigned, cast_signed}
use Rattle.std.proofs.lemmas.Bool.{and_parts}
use Rattle.std.proofs.lemmas.Bool.Decides.{nat_tests}
use Rattle.std.proofs.lemmas.Int.{ints, of_z-to_z}
use Rattle.std.proofs.lemmas.Nat.{be_bytes_4, be_bytes_8}
use Rattle.std.proofs.lemmas.Str.{IsUtf8-from_is_utf8}
use Rattle.std.proofs.lemmas.List.{take-append-drop, length-take-le}
use Rattle.std.proofs.lemmas.List.Elements.{recursion_from_All}
use denote.Hole.Carrier as Carrier
use Rattle.ur_values.specs.declared.value.Node.TheBlock as block
use Rattle.ur_values.specs.declared.value.Value.{Value, end_of-Value, more_of-Value}
use Rattle.ur_values.specs.declared.value.Value.TheVariants as v
use Rattle.ur_values.specs.declared.schema.ColumnKind.{ColumnKind}
use Rattle.ur_values.specs.declared.schema.ColumnKind.TheVariants as kind
use Rattle.ur_values.specs.Size.{size}
use Rattle.ur_values.specs.Store.{Row, FitsKind, FitsBasic, FitsOption, IsStorable}
use Rattle.ur_values.specs.Kinds.{inside}
use Rattle.ur_values.specs.Values.{IsInt}
use Rattle.ur_keeper_bodies.specs.Rows.{int_body, text_body, bool_body, basic_body, value_body, front, int_of, bool_of, may_be_text, text_of, int_front, present_of, basic_of, option_of, value_of}
use Rattle.ur_keeper_bodies.specs.Columns.{Column, name_front, if_named, behind, missing, cell_behind, cell_of, columns_row, IsBodyOf, no_more, there, left_out, AreBytes}
use Rattle.ur_keeper_bodies.proofs.RowLaws.{grouped, basic-body-is}
use Rattle.ur_keeper_bodies.proofs.Options.{present-is}

-- ---- bytes

abbrev Low : List ℕ → Type 0
Low = AllByRecursion (λ b. b < 256)

low-at : (bytes : List ℕ) → Low bytes → (i : ℕ) → get_or bytes i 0 < 256
low-at [] low i = omega arith
low-at (b ∷ bytes) low zero = low.0
low-at (b ∷ bytes) low (suc i) = low-at bytes (low.1) i

low-left : (xs ys : List ℕ) → Low (xs ++ ys) → Low xs
low-left [] ys low = tt
low-left (x ∷ xs) ys low = (low.0, low-left xs ys (low.1))

low-right : (xs ys : List ℕ) → Low (xs ++ ys) → Low ys
low-right [] ys low = low
low-right (x ∷ xs) ys low = low-right xs ys (low.1)

-- two parts of bytes
record Parts (n : ℕ) (bytes a b : List ℕ) : Type 0 where
  pub whole : bytes ≡ a ++ b
  pub long : length a ≡ n
  pub first : Low a
  pub rest : Low b

front-back : (n : ℕ) (bytes a b : List ℕ) → Low bytes → front n bytes ≡ Some (a, b) → Parts n bytes a b
front-back n bytes a b low e = go (nat_le n (length bytes)) refl e
  where
    go : (t : Bool) → nat_le n (length bytes) ≡ t → cond {A = Option (List ℕ × List ℕ)} t (Some (take n bytes, drop n bytes)) None ≡ Some (a, b) → Parts n bytes a b
    go true h f =
        let same : (take n bytes, drop n bytes) ≡ (a, b) = cc in
        let whole : bytes ≡ a ++ b = sym (take-append-drop n bytes) ∙ ap (λ (p : List ℕ × List ℕ). p.0 ++ p.1) same in
        let fits : n ≤ length bytes = grind (arith, nat_tests, h) in
        let low2 = subst Low whole low in
        record { whole = whole; long = ap (λ (p : List ℕ × List ℕ). length p.0) (sym same) ∙ length-take-le n bytes fits; first = low-left a b low2; rest = low-right a b low2 }
    go false h f = cc

-- ---- plain values

-- the bytes are those of a value of this kind and the rest
record IsBasicFront (k : ColumnKind) (bytes : List ℕ) (x : Value) (rest : List ℕ) : Type 0 where
  pub whole : bytes ≡ basic_body x ++ rest
  pub fits : FitsBasic x k
  pub small : IsStorable x
  pub low : Low rest

pub some-back : {X Y : Type 0} (f : X → Y) (o : Option X) (y : Y) → option_map f o ≡ Some y → (x : X) × (o ≡ Some x) × (f x ≡ y)
some-back f None y e = cc
some-back f (Some x) y e = let same : f x ≡ y = cc in (x, refl, same)

pub then-back : {X Y : Type 0} (f : X → Option Y) (o : Option X) (y : Y) → option_and_then f o ≡ Some y → (x : X) × (o ≡ Some x) × (f x ≡ Some y)
then-back f None y e = cc
then-back f (Some x) y e = (x, refl, e)

be8 : (a : List ℕ) → length a ≡ 8 → Low a → from_be_bytes w64 a < 2 ^ 64
be8 a long low =
    let s0 = low-at a low 0 in let s1 = low-at a low 1 in let s2 = low-at a low 2 in let s3 = low-at a low 3 in
    let s4 = low-at a low 4 in let s5 = low-at a low 5 in let s6 = low-at a low 6 in let s7 = low-at a low 7 in
    omega arith

signed-int : (n : ℕ) → n < 2 ^ 64 → IsInt (cast_signed w64 n)
signed-int n small = omega (arith, ints)

int-back : (bytes : List ℕ) (x : Value) (rest : List ℕ) → Low bytes → int_front bytes ≡ Some (x, rest) → IsBasicFront kind.Int bytes x rest
int-back bytes x rest low e =
    let r = some-back {Y = Value × List ℕ} (λ p. (v.Int (int_of p.0), p.1)) (front 8 bytes) (x, rest) e in
    let a = (r.0).0 in
    let parts = front-back 8 bytes a (r.0).1 low (r.1) in
    let small = be8 a parts.long parts.first in
    let written : int_body (int_of a) ≡ a = ap (to_be_bytes w64) (of_z-to_z w64 (from_be_bytes w64 a) small) ∙ be_bytes_8 a (from_be_bytes w64 a) parts.long (low-at a parts.first) refl in
    subst (λ (p : Value × List ℕ). IsBasicFront kind.Int bytes p.0 p.1) (r.2)
    (record { whole = parts.whole ∙ ap (λ (b : List ℕ). b ++ (r.0).1) (sym written); fits = signed-int (from_be_bytes w64 a) small; small = omega arith; low = parts.rest })

text-back : (bytes : List ℕ) (x : Value) (rest : List ℕ) → Low bytes → basic_of kind.Str bytes ≡ Some (x, rest) → IsBasicFront kind.Str bytes x rest
text-back bytes x rest low e =
    let r = then-back (λ (p : List ℕ × List ℕ). option_and_then text_of (front (from_be_bytes w32 p.0) p.1)) (front 4 bytes) (x, rest) e in
    let head = (r.0).0 in
    let parts = front-back 4 bytes head (r.0).1 low (r.1) in
    let q = then-back text_of (front (from_be_bytes w32 head) (r.0).1) (x, rest) (r.2) in
    let more = front-back (from_be_bytes w32 head) (r.0).1 (q.0).0 (q.0).1 parts.rest (q.1) in
    go head (q.0) (may_be_text (q.0).0) refl (q.2) parts more
  where
    go : (head : List ℕ) (p : List ℕ × List ℕ) {bytes2 : List ℕ} (b : Bool) → may_be_text p.0 ≡ b → cond {A = Option (Value × List ℕ)} b (Some (v.Str p.0, p.1)) None ≡ Some (x, rest)
        → Parts 4 bytes head bytes2 → Parts (from_be_bytes w32 head) bytes2 p.0 p.1 → IsBasicFront kind.Str bytes x rest
    go head p {bytes2} true m f parts more =
        let same : (v.Str p.0, p.1) ≡ (x, rest) = cc in
        let tests = and_parts (is_utf8 p.0) (nat_le (32 + length p.0) 16777216) m in
        let size-fits : 32 + length p.0 ≤ 16777216 = let h = tests.1 in grind (arith, nat_tests, h) in
        let written : to_be_bytes w32 (length p.0) ≡ head = ap (to_be_bytes w32) more.long ∙ be_bytes_4 head (from_be_bytes w32 head) parts.long (low-at head parts.first) refl in
        let all : bytes ≡ text_body p.0 ++ p.1 = parts.whole ∙ ap (λ b. head ++ b) more.whole ∙ ap (λ h. h ++ (p.0 ++ p.1)) (sym written) ∙ sym (grouped (to_be_bytes w32 (length p.0)) p.0 p.1) in
        subst (λ (q : Value × List ℕ). IsBasicFront kind.Str bytes q.0 q.1) same
        (record { whole = all; fits = IsUtf8-from_is_utf8 p.0 (tests.0); small = size-fits; low = more.rest })
    go head p false m f parts more = cc

bool-back : (bytes : List ℕ) (x : Value) (rest : List ℕ) → Low bytes → bool_of bytes ≡ Some (x, rest) → IsBasicFront kind.Bool bytes x rest
bool-back [] x rest low e = cc
bool-back (b ∷ bytes) x rest low e = go (b == 0) refl (b == 1) refl e
  where
    go : (s : Bool) → (b == 0) ≡ s → (t : Bool) → (b == 1) ≡ t → cond {A = Option (Value × List ℕ)} s (Some (v.Bool false, bytes)) (cond {A = Option (Value × List ℕ)} t (Some (v.Bool true, bytes)) None) ≡ Some (x, rest) → IsBasicFront kind.Bool (b ∷ bytes) x rest
    go true h t g f =
        let same : (v.Bool false, bytes) ≡ (x, rest) = cc in
        subst (λ (q : Value × List ℕ). IsBasicFront kind.Bool (b ∷ bytes) q.0 q.1) same
        (record { whole = ap (λ (n : ℕ). n ∷ bytes) (eqb-true b 0 h); fits = tt; small = omega arith; low = low.1 })
    go false h true g f =
        let same : (v.Bool true, bytes) ≡ (x, rest) = cc in
        subst (λ (q : Value × List ℕ). IsBasicFront kind.Bool (b ∷ bytes) q.0 q.1) same
        (record { whole = ap (λ (n : ℕ). n ∷ bytes) (eqb-true b 1 g); fits = tt; small = omega arith; low = low.1 })
    go false h false g f = cc

basic-back : (k : ColumnKind) (bytes : List ℕ) (x : Value) (rest : List ℕ) → Low bytes → basic_of k bytes ≡ Some (x, rest) → IsBasicFront k bytes x rest
basic-back kind.Int bytes x rest low e = int-back bytes x rest low e
basic-back kind.Str bytes x rest low e = text-back bytes x rest low e
basic-back kind.Bool bytes x rest low e = bool-back bytes x rest low e
basic-back kind.OptInt bytes x rest low e = cc
basic-back kind.OptStr bytes x rest low e = cc
basic-back kind.OptBool bytes x rest low e = cc

-- ---- values

record IsFront (k : ColumnKind) (bytes : List ℕ) (x : Value) (rest : List ℕ) : Type 0 where
  pub whole : bytes ≡ value_body x ++ rest
  pub fits : FitsKind x k
  pub small : IsStorable x
  pub low : Low rest

record IsOptionFront (k : ColumnKind) (bytes : List ℕ) (x : Value) (rest : List ℕ) : Type 0 where
  pub whole : bytes ≡ value_body x ++ rest
  pub fits : FitsOption k x
  pub small : IsStorable x
  pub low : Low rest

present-front : (k : ColumnKind) (bytes : List ℕ) (p : Value × List ℕ) (x : Value) (rest : List ℕ) → IsBasicFront k bytes p.0 p.1 → present_of p ≡ Some (x, rest) → IsOptionFront k (1 ∷ bytes) x rest
present-front k bytes p x rest plain e = go (nat_le (32 + size p.0) 16777216) refl e
  where
    go : (b : Bool) → nat_le (32 + size p.0) 16777216 ≡ b → cond {A = Option (Value × List ℕ)} b (Some (v.Present p.0, p.1)) None ≡ Some (x, rest) → IsOptionFront k (1 ∷ bytes) x rest
    go true h f =
        let same : (v.Present' tt (more_of-Value p.0 end_of-Value), p.1) ≡ (x, rest) = ap (λ (y : Value). (y, p.1)) (sym (present-is p.0)) ∙ (let g : (v.Present p.0, p.1) ≡ (x, rest) = cc in g) in
        let fits : 32 + size p.0 ≤ 16777216 = grind (arith, nat_tests, h) in
        subst (λ (q : Value × List ℕ). IsOptionFront k (1 ∷ bytes) q.0 q.1) same
        (record { whole = ap (λ b. 1 ∷ b) plain.whole; fits = plain.fits; small = fits; low = plain.low })
    go false h f = cc

optional-back : (k : ColumnKind) (bytes : List ℕ) (x : Value) (rest : List ℕ) → Low bytes → option_of k bytes ≡ Some (x, rest) → IsOptionFront k bytes x rest
optional-back k [] x rest low e = cc
optional-back k (b ∷ bytes) x rest low e = go (b == 0) refl (b == 1) refl e
  where
    go : (s : Bool) → (b == 0) ≡ s → (t : Bool) → (b == 1) ≡ t → cond {A = Option (Value × List ℕ)} s (Some (v.Absent, bytes)) (cond {A = Option (Value × List ℕ)} t (option_and_then present_of (basic_of k bytes)) None) ≡ Some (x, rest) → IsOptionFront k (b ∷ bytes) x rest
    go true h t g f =
        let same : (v.Absent, bytes) ≡ (x, rest) = cc in
        subst (λ (q : Value × List ℕ). IsOptionFront k (b ∷ bytes) q.0 q.1) same
        (record { whole = ap (λ (n : ℕ). n ∷ bytes) (eqb-true b 0 h); fits = tt; small = omega arith; low = low.1 })
    go false h true g f =
        let r = then-back present_of (basic_of k bytes) (x, rest) f in
        subst (λ (n : ℕ). IsOptionFront k (n ∷ bytes) x rest) (sym (eqb-true b 1 g))
        (present-front k bytes (r.0) x rest (basic-back k bytes (r.0).0 (r.0).1 (low.1) (r.1)) (r.2))
    go false h false g f = cc

of-basic : (k : ColumnKind) (bytes : List ℕ) (x : Value) (rest : List ℕ) → (FitsBasic x k → FitsKind x k) → IsBasicFront k bytes x rest → IsFront k bytes x rest
of-basic k bytes x rest f p = record { whole = p.whole ∙ ap (λ b. b ++ rest) (sym (basic-body-is x k p.fits)); fits = f p.fits; small = p.small; low = p.low }

of-option : (k j : ColumnKind) (bytes : List ℕ) (x : Value) (rest : List ℕ) → (FitsOption j x → FitsKind x k) → IsOptionFront j bytes x rest → IsFront k bytes x rest
of-option k j bytes x rest f p = record { whole = p.whole; fits = f p.fits; small = p.small; low = p.low }

value-back : (k : ColumnKind) (bytes : List ℕ) (x : Value) (rest : List ℕ) → Low bytes → value_of k bytes ≡ Some (x, rest) → IsFront k bytes x rest
value-back kind.Int bytes x rest low e = of-basic kind.Int bytes x rest (λ f. f) (basic-back kind.Int bytes x rest low e)
value-back kind.Str bytes x rest low e = of-basic kind.Str bytes x rest (λ f. f) (basic-back kind.Str bytes x rest low e)
value-back kind.Bool bytes x rest low e = of-basic kind.Bool bytes x rest (λ f. f) (basic-back kind.Bool bytes x rest low e)
value-back kind.OptInt bytes x rest low e = of-option kind.OptInt kind.Int bytes x rest (λ f. f) (optional-back kind.Int bytes x rest low e)
value-back kind.OptStr bytes x rest low e = of-option kind.OptStr kind.Str bytes x rest (λ f. f) (optional-back kind.Str bytes x rest low e)
value-back kind.OptBool bytes x rest low e = of-option kind.OptBool kind.Bool bytes x rest (λ f. f) (optional-back kind.Bool bytes x rest low e)

-- ---- names

record IsNameFront (name bytes rest : List ℕ) : Type 0 where
  pub whole : bytes ≡ text_body name ++ rest
  pub low : Low rest

name-back : (bytes name rest : List ℕ) → Low bytes → name_front bytes ≡ Some (name, rest) → IsNameFront name bytes rest
name-back bytes name rest low e =
    let r = then-back (λ (p : List ℕ × List ℕ). front (from_be_bytes w32 p.0) p.1) (front 4 bytes) (name, rest) e in
    let head = (r.0).0 in
    let parts = front-back 4 bytes head (r.0).1 low (r.1) in
    let more = front-back (from_be_bytes w32 head) (r.0).1 name rest parts.rest (r.2) in
    let written : to_be_bytes w32 (length name) ≡ head = ap (to_be_bytes w32) more.long ∙ be_bytes_4 head (from_be_bytes w32 head) parts.long (low-at head parts.first) refl in
    record {
      whole = parts.whole ∙ ap (λ b. head ++ b) more.whole ∙ ap (λ h. h ++ (name ++ rest)) (sym written) ∙ sym (grouped (to_be_bytes w32 (length name)) name rest);
      low = more.rest;
    }

pub bytes-same : (xs ys : List ℕ) → bytes_eq xs ys ≡ true → xs ≡ ys
bytes-same [] [] e = refl
bytes-same [] (y ∷ ys) e = cc
bytes-same (x ∷ xs) [] e = cc
bytes-same (x ∷ xs) (y ∷ ys) e = let p = and_parts (x == y) (bytes_eq xs ys) e in ap₂ (λ (z : ℕ) (zs : List ℕ). z ∷ zs) (eqb-true x y (p.0)) (bytes-same xs ys (p.1))

behind-back : (name bytes rest : List ℕ) → Low bytes → behind name bytes ≡ Some rest → IsNameFront name bytes rest
behind-back name bytes rest low e =
    let r = then-back (if_named name) (name_front bytes) rest e in
    go (r.0) (bytes_eq (r.0).0 name) refl (r.2) (name-back bytes (r.0).0 (r.0).1 low (r.1))
  where
    go : (p : List ℕ × List ℕ) (b : Bool) → bytes_eq p.0 name ≡ b → cond b (Some p.1) None ≡ Some rest → IsNameFront p.0 bytes p.1 → IsNameFront name bytes rest
    go p true h f front =
        let same : p.1 ≡ rest = cc in
        subst (λ (r : List ℕ). IsNameFront name bytes r) same (subst (λ (n : List ℕ). IsNameFront n bytes p.1) (bytes-same p.0 name h) front)
    go p false h f front = cc

-- ---- rows

-- a column whose name is not at the front was left out
missing-back : (c : Column) (columns : List Column) (bytes : List ℕ) (x : Value) (rest : List ℕ) (row : Row) → missing c.1 bytes ≡ Some (x, rest) → (rest ≡ bytes → IsBodyOf columns row rest) → IsBodyOf (c ∷ columns) (x ∷ row) bytes
missing-back c columns bytes x rest row f more = go (is_some (inside c.1)) refl f
  where
    go : (b : Bool) → is_some (inside c.1) ≡ b → cond {A = Option (Value × List ℕ)} b (Some (v.Absent, bytes)) None ≡ Some (x, rest) → IsBodyOf (c ∷ columns) (x ∷ row) bytes
    go true h g =
        let same : (v.Absent, bytes) ≡ (x, rest) = cc in
        let is : v.Absent ≡ x = ap (λ (p : Value × List ℕ). p.0) same in
        let there_too : rest ≡ bytes = ap (λ (p : Value × List ℕ). p.1) (sym same) in
        subst (λ (y : Value). IsBodyOf (c ∷ columns) (y ∷ row) bytes) is
        (left_out c columns row bytes h (subst (λ (b : List ℕ). IsBodyOf columns row b) there_too (more there_too)))
    go false h g = cc

-- what is read of a column, where that behind it is read as a row
cell-back : (c : Column) (columns : List Column) (bytes : List ℕ) (x : Value) (rest : List ℕ) (row : Row) → Low bytes → (o : Option (List ℕ)) → behind c.0 bytes ≡ o → cell_behind c.1 bytes o ≡ Some (x, rest)
    → (Low rest → IsBodyOf columns row rest) → IsBodyOf (c ∷ columns) (x ∷ row) bytes
cell-back c columns bytes x rest row low (Some after) e f more =
    let name = behind-back c.0 bytes after low e in
    let value = value-back c.1 after x rest name.low f in
    subst (λ (b : List ℕ). IsBodyOf (c ∷ columns) (x ∷ row) b) (sym (name.whole ∙ ap (λ b. text_body c.0 ++ b) value.whole))
    (there c columns x row rest value.fits value.small (more value.low))
cell-back c columns bytes x rest row low None e f more = missing-back c columns bytes x rest row f (λ there_too. more (subst Low (sym there_too) low))

body-of : (columns : List Column) (bytes : List ℕ) (row : Row) → Low bytes → columns_row columns bytes ≡ Some row → IsBodyOf columns row bytes
body-of [] [] row low e = let same : [] ≡ row = cc in subst (λ (r : Row). IsBodyOf [] r []) same no_more
body-of [] (b ∷ bytes) row low e = cc
body-of (c ∷ columns) bytes row low e =
    let r = then-back (λ (p : Value × List ℕ). option_map (λ row. p.0 ∷ row) (columns_row columns p.1)) (cell_of c bytes) row e in
    let q = some-back (λ (row : Row). (r.0).0 ∷ row) (columns_row columns (r.0).1) row (r.2) in
    subst (λ (s : Row). IsBodyOf (c ∷ columns) s bytes) (q.2)
    (cell-back c columns bytes (r.0).0 (r.0).1 (q.0) low (behind c.0 bytes) refl (r.1) (λ l. body-of columns (r.0).1 (q.0) l (q.1)))

pub read-body : (columns : List Column) (bytes : List ℕ) (row : Row) → AreBytes bytes → columns_row columns bytes ≡ Some row → IsBodyOf columns row bytes
read-body columns bytes row low e = body-of columns bytes row (recursion_from_All (λ b. b < 256) bytes low) e

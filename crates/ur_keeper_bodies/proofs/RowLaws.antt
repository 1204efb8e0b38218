-- A row that was written is read.
use Rattle.std.proofs.Common.{◌≡◌, ℕ, ◌+◌, ◌≤◌, ◌<◌, ◌^◌, ℤ, pos, negsuc, true, false, List, [], ◌∷◌, ◌++◌, length, All, Some, None, option_map, refl, ap, sym, subst, ◌∙◌, arith, nat_le, w32, w64, IsUtf8}
use Rattle.std.specs.Prelude.{FitsSigned, if◌then◌else◌}
use Rattle.std.specs.Option.{option_and_then}
use Rattle.std.specs.Int.{to_be_bytes, from_be_bytes, cast_unsigned, cast_signed}
use Rattle.std.proofs.Math.Seq.{take-append_seam, drop-append_seam}
use Rattle.std.proofs.lemmas.Bool.{le-leb}
use Rattle.std.proofs.lemmas.Int.{ints, to_z-of_z}
use Rattle.std.proofs.lemmas.List.{length-append}
use Rattle.std.proofs.lemmas.List.Elements.{All-head, All-tail}
use Rattle.std.proofs.lemmas.Nat.{from_be_bytes-to_be_bytes_4, from_be_bytes-to_be_bytes_8}
use denote.Hole.Carrier as Carrier
use Rattle.ur_values.specs.declared.value.Value.{Value, end_of-Value, more_of-Value}
use Rattle.ur_values.specs.declared.value.Node.TheBlock as block
use Rattle.ur_values.specs.Size.{size}
use Rattle.ur_values.specs.declared.value.Value.TheVariants as v
use Rattle.ur_values.specs.declared.schema.ColumnKind.{ColumnKind}
use Rattle.ur_values.specs.declared.schema.ColumnKind.TheVariants as kind
use Rattle.ur_values.specs.Store.{Row, FitKinds, FitsBasic, FitsKind, FitsOption, IsStorable}
use Rattle.ur_values.specs.Values.{IsInt}
use Rattle.ur_keeper_bodies.specs.Rows.{int_body, text_body, basic_body, basic_of, option_of, present_of, value_body, row_body, front, int_of, text_of, value_of, row_of}
use Rattle.ur_keeper_bodies.proofs.Texts.{may-be}

pub front-of : (xs rest : List ℕ) → front (length xs) (xs ++ rest) ≡ Some (xs, rest)
front-of xs rest =
    let fits : nat_le (length xs) (length (xs ++ rest)) ≡ true = le-leb (length xs) (length (xs ++ rest)) (omega (arith, length-append xs rest)) in
    rw fits (λ i. Some (take-append_seam xs rest i, drop-append_seam xs rest i))

pub front-is : (n : ℕ) (xs rest : List ℕ) → length xs ≡ n → front n (xs ++ rest) ≡ Some (xs, rest)
front-is n xs rest e = subst (λ (k : ℕ). front k (xs ++ rest) ≡ Some (xs, rest)) e (front-of xs rest)

fits-from : (z : ℤ) → IsInt z → FitsSigned w64 z
fits-from z h = omega (arith, ints)

pub int-read : (z : ℤ) → IsInt z → int_of (int_body z) ≡ z
int-read z h =
    ap (cast_signed w64) (from_be_bytes-to_be_bytes_8 (cast_unsigned w64 z) (below z (fits-from z h))) ∙ to_z-of_z w64 z (fits-from z h)
  where
    below : (z : ℤ) → FitsSigned w64 z → cast_unsigned w64 z < 2 ^ 64
    below (pos n) f = omega (arith, f.sfits)
    below (negsuc n) f = omega arith

pub grouped : (xs t rest : List ℕ) → (xs ++ t) ++ rest ≡ xs ++ (t ++ rest)
grouped [] t rest = refl
grouped (x ∷ xs) t rest = ap (λ r. x ∷ r) (grouped xs t rest)

text-read : (t rest : List ℕ) → IsUtf8 t → 32 + length t ≤ 16777216 → value_of kind.Str (text_body t ++ rest) ≡ Some (v.Str t, rest)
text-read t rest u l =
    let head = to_be_bytes w32 (length t) in
    let number : from_be_bytes w32 head ≡ length t = from_be_bytes-to_be_bytes_4 (length t) (omega (arith, l)) in
    ap (λ (b : List ℕ). value_of kind.Str b) (grouped head t rest)
    ∙ ap (option_and_then (λ p. option_and_then text_of (front (from_be_bytes w32 p.0) p.1))) (front-is 4 head (t ++ rest) refl)
    ∙ ap (λ (n : ℕ). option_and_then text_of (front n (t ++ rest))) number
    ∙ ap (option_and_then text_of) (front-of t rest)
    ∙ ap (λ b. if b then Some (v.Str t, rest) else None) (sym (may-be t (omega (arith, l)) u))

-- an int, a text or a bool that was written is read, whatever stands behind it
basic-read-back : (x : Value) (k : ColumnKind) (rest : List ℕ) → FitsBasic x k → IsStorable x → basic_of k (basic_body x ++ rest) ≡ Some (x, rest)
basic-read-back (v.Int n) kind.Int rest f s =
    ap (option_map {U = Value × List ℕ} (λ p. (v.Int (int_of p.0), p.1))) (front-is 8 (int_body n) rest refl) ∙ ap (λ (z : ℤ). Some (v.Int z, rest)) (int-read n f)
basic-read-back (v.Str t) kind.Str rest f s = text-read t rest f s
basic-read-back (v.Bool true) kind.Bool rest f s = refl
basic-read-back (v.Bool false) kind.Bool rest f s = refl
basic-read-back x k rest f s = elim f [ ]

-- such a value is written by itself
pub basic-body-is : (x : Value) (k : ColumnKind) → FitsBasic x k → value_body x ≡ basic_body x
basic-body-is (v.Int n) kind.Int f = refl
basic-body-is (v.Str t) kind.Str f = refl
basic-body-is (v.Bool b) kind.Bool f = refl
basic-body-is _ _ f = absurd f

plain-read-back : (x : Value) (k : ColumnKind) (rest : List ℕ) → FitsBasic x k → IsStorable x → basic_of k (value_body x ++ rest) ≡ Some (x, rest)
plain-read-back x k rest f s = ap (λ (b : List ℕ). basic_of k (b ++ rest)) (basic-body-is x k f) ∙ basic-read-back x k rest f s

-- an option that was written is read
option-read-back : (k : ColumnKind) (x : Value) (rest : List ℕ) → FitsOption k x → IsStorable x → option_of k (value_body x ++ rest) ≡ Some (x, rest)
unfolding block.hidden-the_row-Value-3 Carrier.hidden
option-read-back k v.Absent rest f s = refl
option-read-back k (v.Present' u (more_of-Value x end_of-Value)) rest f s =
    let small : size x ≤ 16777216 = omega (arith, s) in
    let fits : nat_le (32 + size x) 16777216 ≡ true = le-leb (32 + size x) 16777216 s in
    ap (option_and_then present_of) (basic-read-back x k rest f small) ∙ ap (λ b. if b then Some (v.Present x, rest) else None) fits
option-read-back k _ rest f s = absurd f

-- a value that was written is read, whatever stands behind it
pub value-read-back : (x : Value) (k : ColumnKind) (rest : List ℕ) → FitsKind x k → IsStorable x → value_of k (value_body x ++ rest) ≡ Some (x, rest)
value-read-back x kind.Int rest f s = plain-read-back x kind.Int rest f s
value-read-back x kind.Str rest f s = plain-read-back x kind.Str rest f s
value-read-back x kind.Bool rest f s = plain-read-back x kind.Bool rest f s
value-read-back x kind.OptInt rest f s = option-read-back kind.Int x rest f s
value-read-back x kind.OptStr rest f s = option-read-back kind.Str x rest f s
value-read-back x kind.OptBool rest f s = option-read-back kind.Bool x rest f s

pub row-read-back : (kinds : List ColumnKind) (row : Row) → FitKinds row kinds → All IsStorable row → row_of kinds (row_body row) ≡ Some row
row-read-back [] [] f s = refl
row-read-back [] (x ∷ row) f s = absurd f
row-read-back (k ∷ kinds) [] f s = absurd f
row-read-back (k ∷ kinds) (x ∷ row) f s =
    ap (option_and_then (λ p. option_map (λ r. p.0 ∷ r) (row_of kinds p.1))) (value-read-back x k (row_body row) f.0 (All-head IsStorable x row s))
    ∙ ap (option_map (λ r. x ∷ r)) (row-read-back kinds row f.1 (All-tail IsStorable x row s))

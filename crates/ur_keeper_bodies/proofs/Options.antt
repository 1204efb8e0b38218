-- Options as bytes.
use Rattle.std.proofs.Common.{◌≡◌, ℕ, suc, ◌+◌, ◌≤◌, true, false, Bool, List, [], ◌∷◌, length, drop, Option, Some, None, Result, Ok, Err, refl, ap, sym, subst, ◌∙◌, arith, nat_le}
use Rattle.std.proofs.lemmas.Bool.{leb-true}
use Rattle.std.specs.Prelude.{if◌then◌else◌, IfSome, OnOk}
use Rattle.std.specs.Option.{option_and_then}
use denote.Hole.Carrier as Carrier
use Rattle.ur_values.specs.declared.value.Value.{Value, end_of-Value, more_of-Value}
use Rattle.ur_values.specs.declared.value.Value.TheVariants as v
use Rattle.ur_values.specs.declared.value.Node.TheBlock as block
use Rattle.ur_values.specs.declared.schema.ColumnKind.{ColumnKind}
use Rattle.ur_values.specs.Size.{size}
use Rattle.ur_values.specs.Store.{FitsBasic, FitsOption, IsStorable}
use Rattle.ur_keeper_bodies.specs.Rows.{basic_body, value_body, basic_of, option_of, present_of, present_at, with_rest, MayBeBasic, MayBeOption}

pub present-is : (x : Value) → v.Present x ≡ v.Present' tt (more_of-Value x end_of-Value)
unfolding block.hidden-the_row-Value-3 Carrier.hidden
present-is x = refl

pub present-body : (x : Value) → value_body (v.Present x) ≡ 1 ∷ basic_body x
unfolding block.hidden-the_row-Value-3 Carrier.hidden
present-body x = refl

pub other-body : (x : Value) → (x ≡ v.Absent → ⊥) → ((y : Value) → x ≡ v.Present y → ⊥) → value_body x ≡ basic_body x
unfolding block.hidden-the_row-Value-3 Carrier.hidden
other-body v.Absent a p = absurd (a refl)
other-body (v.Present' u (more_of-Value x end_of-Value)) a p = absurd (p x refl)
other-body _ a p = refl

pub present-size : (x : Value) → size (v.Present x) ≡ 32 + size x
unfolding block.hidden-the_row-Value-3 Carrier.hidden
present-size x = refl

pub present-fits : (k : ColumnKind) (x : Value) → FitsBasic x k → FitsOption k (v.Present x)
unfolding block.hidden-the_row-Value-3 Carrier.hidden
present-fits k x f = f

-- a byte 1 and a value
pub present-read : (k : ColumnKind) (rest : List ℕ) (x : Value) (n : ℕ) → with_rest rest (Some (x, n)) ≡ basic_of k rest
    → with_rest (1 ∷ rest) (present_at x n) ≡ option_of k (1 ∷ rest)
present-read k rest x n read = go (nat_le (32 + size x) 16777216) refl ∙ ap (option_and_then present_of) read
  where
    cut : drop (n + 1) (1 ∷ rest) ≡ drop n rest
    cut = ap (λ (m : ℕ). drop m (1 ∷ rest)) (let e : n + 1 ≡ suc n = omega arith in e)

    go : (b : Bool) → nat_le (32 + size x) 16777216 ≡ b → with_rest (1 ∷ rest) (present_at x n) ≡ present_of (x, drop n rest)
    go true e = rw e (ap (λ (l : List ℕ). Some (v.Present x, l)) cut)
    go false e = rw e refl

-- and nothing where no value stands there
pub none-read : (k : ColumnKind) (rest : List ℕ) → None ≡ basic_of k rest → None ≡ option_of k (1 ∷ rest)
none-read k rest read = ap (option_and_then present_of) read

pub present-within : (k : ColumnKind) (rest : List ℕ) (x : Value) (n : ℕ) → MayBeBasic k rest (x, n) → IfSome (present_at x n) (MayBeOption k (1 ∷ rest))
present-within k rest x n h = go (nat_le (32 + size x) 16777216) refl
  where
    go : (b : Bool) → nat_le (32 + size x) 16777216 ≡ b → IfSome (if b then Some (v.Present x, n + 1) else None) (MayBeOption k (1 ∷ rest))
    go true e = (let w = h.0 in omega arith, present-fits k x (h.1), small e)
      where
        small : nat_le (32 + size x) 16777216 ≡ true → IsStorable (v.Present x)
        small e = rw (present-size x) (leb-true (32 + size x) 16777216 e)
    go false e = tt

-- what stands inside Present may stand in a table
pub storable-inside : (value x y : Value) → value ≡ v.Present x → y ≡ x → IsStorable value → IsStorable y
storable-inside value x y is same h =
    let inner : size value ≡ 32 + size x = ap size is ∙ present-size x in
    let outer : size y ≡ size x = ap size same in
    omega (arith, inner, outer, h)

pub present-written : (value x y : Value) → value ≡ v.Present x → y ≡ x → value_body value ≡ 1 ∷ basic_body y
present-written value x y is same = ap value_body is ∙ present-body x ∙ ap (λ z. 1 ∷ basic_body z) (sym same)

pub on-ok : {A E : Type 0} (r : Result A E) (P Q : Type 0) → (P → Q) → OnOk r P → OnOk r Q
on-ok (Ok x) P Q f h = f h
on-ok (Err e) P Q f h = h

pub if-some : {A : Type 0} (o : Option A) (x : A) (P : A → Type 0) → o ≡ Some x → IfSome o P → P x
if-some None x P is h = cc
if-some (Some y) x P is h = subst P (let same : y ≡ x = cc in same) h

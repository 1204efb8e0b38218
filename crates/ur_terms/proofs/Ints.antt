-- What wraps is an int of 64 bits, and so are quotients and remainders.
use Rattle.std.proofs.Common.{◌≡◌, ℕ, zero, suc, ◌/◌, ◌<◌, ◌≤◌, ◌^◌, ℤ, pos, negsuc, ◌+ℤ◌, ◌-ℤ◌, ◌*ℤ◌, neg_ℤ, unsigned_abs, refl, sym, subst, arith}
use Rattle.std.specs.Prelude.{int_div, int_rem, FitsSigned}
use Rattle.std.specs.Int.{w64, int_wrap, int_wrapping_add, int_wrapping_sub, int_wrapping_mul, int_wrapping_div, int_wrapping_neg, cast_unsigned}
use Rattle.std.proofs.lemmas.Int.{SFits-int_wrap, wrapping_add_is, wrapping_sub_is, wrapping_mul_is, wrapping_neg_is, rem_below, fits_signed_from_abs, ints}
use Rattle.std.proofs.Math.Facts.{sfits_to_z, Fits-below}
use Rattle.std.proofs.Math.Nat.{le_trans}
use Rattle.std.proofs.Math.Nat.{div-le_self}
use Rattle.ur_values.specs.Values.{IsInt}

int_from : (z : ℤ) → FitsSigned w64 z → IsInt z
int_from z f = (omega (arith, ints), omega (arith, ints))

from_int : (z : ℤ) → IsInt z → FitsSigned w64 z
from_int z f = omega (arith, ints)

wrapped : (z : ℤ) → IsInt (int_wrap w64 z)
wrapped z = int_from (int_wrap w64 z) (SFits-int_wrap w64 z)

pub int_sum : (m n : ℤ) → IsInt m → IsInt n → IsInt (int_wrapping_add w64 m n)
int_sum m n a b = subst IsInt (sym (wrapping_add_is w64 m n (from_int m a) (from_int n b))) (wrapped (m +ℤ n))

pub int_difference : (m n : ℤ) → IsInt m → IsInt n → IsInt (int_wrapping_sub w64 m n)
int_difference m n a b = subst IsInt (sym (wrapping_sub_is w64 m n (from_int m a) (from_int n b))) (wrapped (m -ℤ n))

pub int_product : (m n : ℤ) → IsInt m → IsInt n → IsInt (int_wrapping_mul w64 m n)
int_product m n a b = subst IsInt (sym (wrapping_mul_is w64 m n (from_int m a) (from_int n b))) (wrapped (m *ℤ n))

pub int_opposite : (m : ℤ) → IsInt m → IsInt (int_wrapping_neg w64 m)
int_opposite m a = subst IsInt (sym (wrapping_neg_is w64 m (from_int m a))) (wrapped (neg_ℤ m))

abs_opposite : (x : ℕ) → unsigned_abs (neg_ℤ (pos x)) ≡ x
abs_opposite zero = refl
abs_opposite (suc x) = refl

-- a quotient is not greater than what is divided
abs_quotient : (m n : ℤ) → unsigned_abs (int_div m n) ≤ unsigned_abs m
abs_quotient (pos a) (pos b) = div-le_self a b
abs_quotient (pos a) (negsuc b) = subst (λ k. k ≤ a) (sym (abs_opposite (a / suc b))) (div-le_self a (suc b))
abs_quotient (negsuc a) (pos b) = subst (λ k. k ≤ suc a) (sym (abs_opposite (suc a / b))) (div-le_self (suc a) b)
abs_quotient (negsuc a) (negsuc b) = div-le_self (suc a) (suc b)

abs_int : (m : ℤ) → IsInt m → unsigned_abs m ≤ 2 ^ 63
abs_int (pos a) h = omega (arith, ints, h)
abs_int (negsuc a) h = omega (arith, ints, h)

bits_of : (q : ℤ) → unsigned_abs q ≤ 2 ^ 63 → cast_unsigned w64 q ≤ 18446744073709551615
bits_of (pos k) h = omega (arith, h)
bits_of (negsuc k) h = omega arith

pub int_quotient : (m n : ℤ) → IsInt m → IsInt n → IsInt (int_wrapping_div w64 m n)
int_quotient m n a b =
    let most : unsigned_abs (int_div m n) ≤ 2 ^ 63 = le_trans (abs_quotient m n) (abs_int m a) in
    int_from (int_wrapping_div w64 m n) (sfits_to_z {w = w64} {n = cast_unsigned w64 (int_div m n)} (Fits-below {w = w64} {n = 18446744073709551615} tt (bits_of (int_div m n) most)))

pub int_remainder : (m n : ℤ) → IsInt m → IsInt n → 0 < unsigned_abs n → IsInt (int_rem m n)
int_remainder m n a b some =
    let less : unsigned_abs (int_rem m n) < unsigned_abs n = rem_below m n some in
    let most : unsigned_abs n ≤ 2 ^ 63 = abs_int n b in
    int_from (int_rem m n) (fits_signed_from_abs w64 (int_rem m n) (omega (arith, less, most)))

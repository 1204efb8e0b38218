-- Which bytes are the text of an int of 64 bits.
use Rattle.std.proofs.Common.{◌≡◌, ℕ, ◌<◌, ◌^◌, Bool, true, false, ◌&&◌, List, Some, None, Err, Ok, IsUtf8, ℤ, pos, negsuc, bytes_eq, refl, arith, rules, cond, ap, subst, sym, ◌∙◌}
use Rattle.std.specs.Fmt.{signed_decimal}
use Rattle.std.specs.Str.Parse.{signed_digits_value, ParsesSigned}
use Rattle.std.specs.Int.RustNames.{FitsSigned}
use Rattle.std.proofs.lemmas.Fmt.{parse-signed_decimal, IsAscii-signed}
use Rattle.std.proofs.lemmas.Int.{ints}
use Rattle.std.proofs.lemmas.Bool.{false≢true}
use Rattle.std.proofs.lemmas.Bool.Decides.{nat_tests}
use Rattle.std.proofs.lemmas.Str.{IsUtf8-from_ascii}
use Rattle.std.proofs.lemmas.Slice.Eq.{bytes_eq-Decides}
use lib.Signed.{mag}
use mir.Syntax.{w64}
use Rattle.ur_tags.specs.Segments.{is_int, int_of}

pub is_int-mag : (z : ℤ) → is_int z ≡ true → mag z < 2 ^ 63
is_int-mag (pos n) h = grind (arith, ints, nat_tests)
is_int-mag (negsuc n) h = grind (arith, ints, nat_tests)

pub is_int-fits : (z : ℤ) → is_int z ≡ true → FitsSigned w64 z
is_int-fits z h = let m = is_int-mag z h in search rules

fits-is_int : (z : ℤ) → FitsSigned w64 z → is_int z ≡ true
fits-is_int z f = grind (arith, ints, nat_tests)

cond_none : (b : Bool) (z : ℤ) → ¬ (b ≡ true) → cond b (Some z) None ≡ None
cond_none true z h = absurd (h refl)
cond_none false z h = refl

and_parts : (a b : Bool) → (a && b) ≡ true → (a ≡ true) × (b ≡ true)
and_parts true b h = (refl, h)
and_parts false b h = absurd (false≢true h)

-- the number that the bytes write is their int, where it is written so
pub int_of_value : (text : List ℕ) (z : ℤ) → z ≡ signed_digits_value 10 text → FitsSigned w64 z → signed_decimal z ≡ text → int_of text ≡ Some z
unfolding int_of
int_of_value text z e f t =
    let known : (is_int z && bytes_eq (signed_decimal z) text) ≡ true =
    ap (λ b. b && bytes_eq (signed_decimal z) text) (fits-is_int z f) ∙ (bytes_eq-Decides (signed_decimal z) text).1 t in
    ap (λ s. cond (is_int s && bytes_eq (signed_decimal s) text) (Some s) None) (sym e) ∙ ap (λ b. cond b (Some z) None) known

-- bytes that no int writes have none
int_none : (text : List ℕ) → ((z : ℤ) → is_int z ≡ true → signed_decimal z ≡ text → z ≡ signed_digits_value 10 text → ⊥) → int_of text ≡ None
unfolding int_of
int_none text h =
    cond_none (is_int (signed_digits_value 10 text) && bytes_eq (signed_decimal (signed_digits_value 10 text)) text) (signed_digits_value 10 text)
    (λ e. let p = and_parts _ _ e in h (signed_digits_value 10 text) p.0 ((bytes_eq-Decides _ _).0 p.1) refl)

pub int_none_not_text : (text : List ℕ) → ¬ (IsUtf8 text) → int_of text ≡ None
int_none_not_text text not_text =
    int_none text (λ z i t _. not_text (subst IsUtf8 t (IsUtf8-from_ascii _ (IsAscii-signed z (is_int-mag z i)))))

pub int_none_unparsed : {E : Type 0} (text : List ℕ) (e : E) → ParsesSigned w64 10 text (Err e) → int_of text ≡ None
int_none_unparsed text e h =
    int_none text (λ z i t _. let q : Err e ≡ Ok z = parse-signed_decimal w64 z text (Err e) (is_int-fits z i) (is_int-mag z i) (sym t) h in cc)

pub int_none_other : (text : List ℕ) (z : ℤ) → z ≡ signed_digits_value 10 text → ¬ (signed_decimal z ≡ text) → int_of text ≡ None
int_none_other text z e other = int_none text (λ y _ t same. other (ap signed_decimal (e ∙ sym same) ∙ t))

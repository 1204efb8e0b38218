-- The texts of a misfit.
use Rattle.std.proofs.Common.{◌≡◌, ℕ, ◌<◌, min, Bool, false, List, get_or, length, take, refl, sym, subst, arith}
use Rattle.std.specs.Prelude.{◌↔◌, IsTrue}
use Rattle.std.proofs.Math.Nat.{min-le_left, min-le_right}
use Rattle.std.proofs.lemmas.Option.{slice_get_read}
use Rattle.ur_values.specs.declared.types.ValueType.{ValueType}
use Rattle.ur_values.specs.Texts.{Names, type_text}
use Rattle.ur_verify_operations.specs.Saying.{two_types, FirstUnlike, differ, IsFound, a_type}
use Rattle.ur_verify_operations.proofs.Covering.{not_so}

-- a type's text is one of a type
pub written : (names : Names) (t : ValueType) (text : List ℕ) → text ≡ type_text names t → ∥ IsFound text ∥₁
written names t text is = ∣ subst IsFound (sym is) (a_type names t) ∣₁

-- two types in one place that differ, behind such as are the same
pub differ_at : (names : Names) (xs ys : List ValueType) (i n : ℕ) (x y : ValueType) (same : Bool) (texts : List ℕ × List ℕ) → i < n → n ≡ min (length xs) (length ys)
    → take i xs ≡ take i ys → x ≡ get_or xs i x → y ≡ get_or ys i y → IsTrue same ↔ (x ≡ y) → same ≡ false → texts ≡ two_types names x y → FirstUnlike names xs ys texts
differ_at names xs ys i n x y same texts below is so ex ey test fails said =
    let l = min-le_left (length xs) (length ys) in let r = min-le_right (length xs) (length ys) in
    subst (FirstUnlike names xs ys) (sym said) (differ i x y so (slice_get_read xs (length xs) i x refl (omega (arith, below, is, l)) ex) (slice_get_read ys (length ys) i y refl (omega (arith, below, is, r)) ey) (not_so same test fails))

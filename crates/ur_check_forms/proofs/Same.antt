-- The comparison of types.
use Rattle.std.proofs.Common.{◌≡◌, refl, sym, Bool, true, false}
use Rattle.std.specs.Prelude.{IsTrue, ◌↔◌}
use Rattle.ur_rows.specs.declared.normal.NormalType.{NormalType}
use Rattle.ur_typed_rules.specs.Tests.{same_type}
use Rattle.ur_typed_rules.proofs.Rows as rows

same-bool : (a b : Bool) → (a ≡ true → b ≡ true) → (b ≡ true → a ≡ true) → a ≡ b
same-bool true b f g = sym (f refl)
same-bool false true f g = g refl
same-bool false false f g = refl

pub same-told : (b : Bool) (t u : NormalType) → IsTrue b ↔ (t ≡ u) → b ≡ same_type t u
same-told b t u h = same-bool b (same_type t u) (λ e. (rows.told t u).1 (h.0 e)) (λ e. h.1 ((rows.told t u).0 e))

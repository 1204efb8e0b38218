-- A NULL is apart exactly where no SOME shares its class, and any other constant always.
use Rattle.std.proofs.Common.{◌≡◌, ◌↔◌, Bool, true, false, not, refl, sym, ap, ◌∙◌, true≢false}
use Rattle.std.specs.Prelude.{IsTrue}
use Rattle.ur_invalidate.proofs.classes.is_apart.Goals as goal

of_null : {M : Type 0} (n m : Bool) → n ≡ true → IsTrue m ↔ M → IsTrue (not m) ↔ (n ≡ true → M → ⊥)
of_null {M} n m null told = (λ e _ some. true≢false (sym e ∙ ap not (told.1 some)), λ apart. go m refl apart)
  where
    go : (b : Bool) → m ≡ b → (n ≡ true → M → ⊥) → not m ≡ true
    go true e apart = absurd (apart null (told.0 e))
    go false e apart = ap not e

of_other : {M : Type 0} (n : Bool) → n ≡ false → IsTrue true ↔ (n ≡ true → M → ⊥)
of_other n other = (λ _ null some. true≢false (sym null ∙ other), λ apart. refl)

pub returns-then-is_null : goal.returns-then-is_null
returns-then-is_null c = of_null _ c.meets_some.result (sym c.is_null.ensures ∙ c.if-is_null.true) c.meets_some.ensures

pub returns-else-is_null : goal.returns-else-is_null
returns-else-is_null c = of_other _ (sym c.is_null.ensures ∙ c.if-is_null.false)

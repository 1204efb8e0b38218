-- What an answer says of a type that is looked for.
use Rattle.std.specs.Prelude.{Result, Ok, Err, ⊤}
use Rattle.ur_verify_operations.specs.declared.misfit.Untyped.{Untyped}
use Rattle.ur_verify_operations.specs.declared.misfit.Untyped.TheVariants as untyped
use Rattle.ur_verify_operations.specs.Saying.{TwoTexts}

-- a misfit says that this does not hold
abbrev pub Refuses : Untyped → Type 0 → Type 0
Refuses (untyped.Misfit m) Q = Q → ⊥
Refuses untyped.Memory Q = ⊤

-- the answer has the property, or a misfit says that nothing has it
abbrev pub Answers : {A : Type 0} → (A → Type 0) → Result A Untyped → Type 0
Answers P (Ok a) = P a
Answers {A} P (Err e) = Refuses e ((a : A) × P a)

-- a misfit has such texts
abbrev pub Tells : (TwoTexts → Type 0) → Untyped → Type 0
Tells M (untyped.Misfit m) = M (m.left, m.right)
Tells M untyped.Memory = ⊤

-- where the answer is a misfit, it has such texts
abbrev pub Says : {A : Type 0} → (TwoTexts → Type 0) → Result A Untyped → Type 0
Says M (Ok a) = ⊤
Says M (Err e) = Tells M e

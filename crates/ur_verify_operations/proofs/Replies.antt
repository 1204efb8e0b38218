-- Answers about one property as answers about another.
use Rattle.std.proofs.Common.{◌≡◌, Bool, Result, Ok, Err, sym, subst, ap₂, ◌∙◌}
use Rattle.std.specs.Result.{IsErrAnd}
use Rattle.ur_verify_operations.specs.declared.misfit.Untyped.{Untyped}
use Rattle.ur_verify_operations.specs.declared.misfit.Untyped.TheVariants as untyped
use Rattle.ur_verify_operations.specs.Answering.{Refuses, Answers}

-- what nothing has, where the other is refused
pub refused_by : {Q R : Type 0} (e : Untyped) → (R → Q) → Refuses e Q → Refuses e R
refused_by (untyped.Misfit m) f h = λ r. h (f r)
refused_by untyped.Memory f h = tt

-- behind a `?`
pub refused_exit : {B Q : Type 0} {P : B → Type 0} (r : Result B Untyped) (e : Untyped) → IsErrAnd r (λ y. y ≡ e) → ((b : B) × P b → Q) → Refuses e Q → Answers P r
refused_exit (Ok b) e i f h = absurd i
refused_exit {Q = Q} (Err y) e i f h = refused_by y f (subst (λ z. Refuses z Q) (sym i) h)

pub answers_by : {A : Type 0} {P Q : A → Type 0} (o : Result A Untyped) → ((a : A) → P a → Q a) → ((a : A) → Q a → P a) → Answers P o → Answers Q o
answers_by (Ok a) f g h = f a h
answers_by (Err e) f g h = refused_by e (λ q. (q.0, g q.0 q.1)) h

-- a test of two values, at what they are
pub test_at : {A : Type 0} (f : A → A → Bool) (r t : Bool) (a b x y : A) → r ≡ f a b → a ≡ x → b ≡ y → r ≡ t → f x y ≡ t
test_at f r t a b x y e g h k = ap₂ f (sym g) (sym h) ∙ sym e ∙ k

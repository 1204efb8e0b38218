-- What an option gives has a property, through one option after another.
use Rattle.std.proofs.Common.{◌≡◌, sym, subst, Bool, Option, Some, None}
use Rattle.std.specs.Prelude.{option_map, option_and_then}
use Rattle.ur_typed_rules.specs.Rules.{if_so}
use Rattle.ur_typed_rules.proofs.Options.{some_of, some_none, opened, opened_if, mapped}

-- whatever the option gives has the property
pub record Brings {A : Type 0} (P : A → Type 0) (o : Option A) : Type 0 where
  pub on : (x : A) → o ≡ Some x → P x

pub none_brings : {A : Type 0} {P : A → Type 0} → Brings P None
none_brings {A = A} = record { on = λ x h. absurd (some_none (sym h)) }

pub some_brings : {A : Type 0} {P : A → Type 0} {x : A} → P x → Brings P (Some x)
some_brings {P = P} k = record { on = λ y h. subst P (some_of h) k }

pub then_brings : {A B : Type 0} {P : A → Type 0} {Q : B → Type 0} {f : A → Option B} {a : Option A} → Brings P a → ((x : A) → P x → Brings Q (f x)) → Brings Q (option_and_then f a)
then_brings {f = f} {a = a} h k = record { on = λ y e. let i = opened f a y e in (k i.0 (h.on i.0 i.1)).on y i.2 }

-- where the first answer is known
pub then_known : {A B : Type 0} {Q : B → Type 0} {f : A → Option B} (a : Option A) → ((x : A) → a ≡ Some x → Brings Q (f x)) → Brings Q (option_and_then f a)
then_known {f = f} a k = record { on = λ y e. let i = opened f a y e in (k i.0 i.1).on y i.2 }

-- whatever the first answer is
pub then_any : {A B : Type 0} {Q : B → Type 0} {f : A → Option B} (a : Option A) → ((x : A) → Brings Q (f x)) → Brings Q (option_and_then f a)
then_any a k = then_known a (λ x h. k x)

pub map_brings : {A B : Type 0} {P : A → Type 0} {Q : B → Type 0} (f : A → B) {a : Option A} → Brings P a → ((x : A) → P x → Q (f x)) → Brings Q (option_map f a)
map_brings {Q = Q} f {a = a} h k = record { on = λ y e. let i = mapped f a y e in subst Q i.2 (k i.0 (h.on i.0 i.1)) }

pub map_any : {A B : Type 0} {Q : B → Type 0} (f : A → B) (a : Option A) → ((x : A) → Q (f x)) → Brings Q (option_map f a)
map_any {Q = Q} f a k = record { on = λ y e. let i = mapped f a y e in subst Q i.2 (k i.0) }

pub if_brings : {A : Type 0} {P : A → Type 0} (b : Bool) {o : Option A} → Brings P o → Brings P (if_so b o)
if_brings b {o = o} h = record { on = λ y e. h.on y (opened_if b o y e).1 }

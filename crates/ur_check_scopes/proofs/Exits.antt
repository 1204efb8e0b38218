-- What an answer says is carried over to what follows from it.
use Rattle.std.proofs.Common.{◌≡◌, sym, subst, ℕ, List, Result, Ok, Err, IfOk}
use Rattle.std.specs.Result.{IsErrAnd}
use Rattle.ur_base.specs.Stopping.{IfRefused, Says}
use Rattle.ur_base.specs.declared.refusal.Refusal.{Refusal}
use Rattle.ur_base.specs.declared.refusal.Stop.{Stop}
use Rattle.ur_base.specs.declared.refusal.Stop.TheVariants as stop
use Rattle.ur_typed_rules.specs.Faults.{Fault, TellsType}
use Rattle.ur_check_scopes.specs.Views.{Refuses, StopTells, StopIs, StopSays}

-- a refusal that is handed on
pub refused-exit : {B : Type 0} (r : Result B Stop) (e : Stop) {P Q : Refusal → Type 0} → IsErrAnd r (λ y. y ≡ e) → ((x : Refusal) → P x → Q x) → IfRefused {A = Unit {0}} (Err e) P → IfRefused r Q
refused-exit (Ok b) e i f h = absurd i
refused-exit (Err (stop.Refused x)) e {P = P} i f h = f x (subst (λ z. IfRefused {A = Unit {0}} (Err z) P) (sym i) h)
refused-exit (Err stop.Memory) e i f h = tt

pub refused-along : {A : Type 0} (r : Result A Stop) {P Q : Refusal → Type 0} → ((x : Refusal) → P x → Q x) → IfRefused r P → IfRefused r Q
refused-along (Ok b) f h = tt
refused-along (Err (stop.Refused x)) f h = f x h
refused-along (Err stop.Memory) f h = tt

pub ok-along : {A E : Type 0} (r : Result A E) {P Q : A → Type 0} → ((x : A) → P x → Q x) → IfOk r P → IfOk r Q
ok-along (Ok b) f h = f b h
ok-along (Err e) f h = h

-- a refusal that tells one fault
pub told : (names : List (List ℕ)) (P : Fault → Type 0) (s : Stop) (f : Fault) → P f → StopIs names f s → IfRefused {A = Unit {0}} (Err s) (Refuses names P)
told names P (stop.Refused r) f h t = (f, h, t)
told names P stop.Memory f h t = tt

pub told-along : (names : List (List ℕ)) (P Q : Fault → Type 0) (s : Stop) → ((f : Fault) → P f → Q f) → StopTells names P s → IfRefused {A = Unit {0}} (Err s) (Refuses names Q)
told-along names P Q (stop.Refused r) g t = (t.0, g t.0 t.1, t.2)
told-along names P Q stop.Memory g t = tt

-- what is refused for one reason is for a wider one
pub refuses : (names : List (List ℕ)) (P Q : Fault → Type 0) → ((f : Fault) → P f → Q f) → (r : Refusal) → Refuses names P r → Refuses names Q r
refuses names P Q g r t = (t.0, g t.0 t.1, t.2)

-- what the code and the texts say of a fault
pub tells-so : (names : List (List ℕ)) (f : Fault) (code : ℕ) (x y : List ℕ) (s : Stop) → ((r : Refusal) → Says r code x y → TellsType names r f) → StopSays code x y s → StopIs names f s
tells-so names f code x y (stop.Refused r) g h = g r h
tells-so names f code x y stop.Memory g h = tt

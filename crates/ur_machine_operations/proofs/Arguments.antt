-- What an operation that is not stuck knows of its arguments.
use Rattle.std.proofs.Common.{◌≡◌, ◌≢◌, ℕ, ℤ, Bool, true, false, if◌then◌else◌, List, [], ◌∷◌, ◌++◌, Option, Some, None, refl, sym, ap, ◌∙◌, subst}
use Rattle.ur_values.specs.declared.value.Value.{Value}
use Rattle.ur_values.specs.declared.value.Value.TheVariants as v
use Rattle.ur_values.specs.declared.value.Node.{Node}
use Rattle.ur_values.specs.Size.{is_small}
use Rattle.ur_values.specs.Values.{unit_value}
use Rattle.std.specs.Prelude.{slice_get}
use Rattle.ur_terms.specs.declared.term.Op.{Op}
use Rattle.ur_terms.specs.declared.term.Op.TheVariants as op
use Rattle.ur_terms.specs.State.{State, Outcome, Done, Error, Spent, Stuck, with_cookie}
use Rattle.ur_terms.specs.Ops.{given, no_arg, one_arg, two_args, two_ints, does, markup}
use Rattle.ur_terms.specs.Run.{joined}
use Rattle.ur_terms.specs.Values.{as_int, all_nodes}
use Rattle.ur_machine_frames.specs.declared.control.Performed.{Performed}
use Rattle.ur_machine_frames.specs.declared.control.Performed.TheVariants as performed
use Rattle.ur_machine_frames.specs.Plays.{IsLocal, Performs, Joins, until, nothing, held, no_store}
use Rattle.ur_machine_frames.proofs.Playing.{until_plays}
use Rattle.ur_machine_operations.specs.Comes.{Comes, CanDo}

many_args : (y : Value) (ys : List Value) (x : Value) (go : Value → Outcome Value) → one_arg (y ∷ (ys ++ x ∷ [])) go ≡ Stuck
many_args y [] x go = refl
many_args y (z ∷ ys) x go = refl

-- the last argument is the only one
pub only : (xs ys : List Value) (x : Value) (go : Value → Outcome Value) → one_arg xs go ≢ Stuck → xs ≡ ys ++ x ∷ [] → xs ≡ x ∷ []
only xs [] x go h e = e
only xs (y ∷ ys) x go h e = absurd (h (ap (λ l. one_arg l go) e ∙ many_args y ys x go))

-- the last of two arguments is taken off
pub two_is_one : (ys : List Value) (y : Value) (go : Value → Value → Outcome Value) → two_args (ys ++ y ∷ []) go ≡ one_arg ys (λ x. go x y)
two_is_one [] y go = refl
two_is_one (x ∷ []) y go = refl
two_is_one (x ∷ z ∷ []) y go = refl
two_is_one (x ∷ z ∷ w ∷ ys) y go = refl

pub one_left : (xs ys : List Value) (y : Value) (go : Value → Value → Outcome Value) → two_args xs go ≢ Stuck → xs ≡ ys ++ y ∷ [] → one_arg ys (λ x. go x y) ≢ Stuck
one_left xs ys y go h e stuck = h (ap (λ l. two_args l go) e ∙ two_is_one ys y go ∙ stuck)

pub none_is_few : (xs : List Value) (go : Value → Value → Outcome Value) → two_args xs go ≢ Stuck → xs ≡ [] → ⊥
none_is_few xs go h e = h (ap (λ l. two_args l go) e)

pub none_is_none : (xs : List Value) (go : Value → Outcome Value) → one_arg xs go ≢ Stuck → xs ≡ [] → ⊥
none_is_none xs go h e = h (ap (λ l. one_arg l go) e)

-- ---- what is there

given_stuck : {A : Type 0} (o : Option A) → given {A = A} {B = Value} o (λ x. Stuck) ≡ Stuck
given_stuck None = refl
given_stuck (Some x) = refl

pub there : {A : Type 0} (o : Option A) (go : A → Outcome Value) → given o go ≢ Stuck → o ≢ None
there o go h e = h (ap (λ z. given z go) e)

pub first_int : (xs : List Value) (a b : Value) (go : ℤ → ℤ → Outcome Value) → two_ints xs go ≢ Stuck → xs ≡ a ∷ b ∷ [] → as_int a ≢ None
first_int xs a b go h e f = h (ap (λ l. two_ints l go) e ∙ ap (λ o. given o (λ i. given (as_int b) (λ j. go i j))) f)

pub second_int : (xs : List Value) (a b : Value) (go : ℤ → ℤ → Outcome Value) → two_ints xs go ≢ Stuck → xs ≡ a ∷ b ∷ [] → as_int b ≢ None
second_int xs a b go h e f =
    h (ap (λ l. two_ints l go) e ∙ ap (λ o. given (as_int a) (λ i. given o (λ j. go i j))) f ∙ given_stuck (as_int a))

-- ---- operations as a table

-- what comes of one comes of the other
pub comes_as : {w u : State → Outcome Value} (r : Performed) → ((s : State) → u s ≡ w s) → Comes w r → Comes u r
comes_as (performed.Done x) e h = λ s. e s ∙ h s
comes_as (performed.Failed body) e h = λ s. e s ∙ h s
comes_as performed.Spent e h = λ s. e s ∙ h s
comes_as (performed.Store xs) e h = h
comes_as performed.Memory e h = tt

-- an operation that does not stop at tables came to this
pub came : (o o' : Op) (xs carried : List Value) (sent : List (ℕ × Value)) (r : Performed) → o ≡ o' → IsLocal o' → Comes (does nothing o' xs) r
    → Performs o xs carried sent sent r
came o o' xs carried sent (performed.Done x) e l h = subst (λ z. Performs z xs carried sent sent (performed.Done x)) (sym e) (l, λ store events left. h (held carried sent store events left))
came o o' xs carried sent (performed.Failed body) e l h = subst (λ z. Performs z xs carried sent sent (performed.Failed body)) (sym e) (l, λ store events left. h (held carried sent store events left))
came o o' xs carried sent performed.Spent e l h = subst (λ z. Performs z xs carried sent sent performed.Spent) (sym e) (l, λ store events left. h (held carried sent store events left))
came o o' xs carried sent (performed.Store ys) e l h = absurd h
came o o' xs carried sent performed.Memory e l h = tt

-- an operation may be done
pub able : (o o' : Op) (xs carried : List Value) (sent : List (ℕ × Value)) → o ≡ o' → IsLocal o' → (left : ℕ) × (until o xs (held carried sent no_store [] left) ≢ Stuck)
    → CanDo (does nothing o' xs)
able o o' xs carried sent e l h =
    (held carried sent no_store [] h.0, λ stuck. h.1 (ap (λ z. until z xs (held carried sent no_store [] h.0)) e ∙ until_plays.plain o' l xs (held carried sent no_store [] h.0) ∙ stuck))

-- it stops at tables
pub stops : (o o' : Op) (xs carried : List Value) (sent : List (ℕ × Value)) → o ≡ o' → (IsLocal o' → ⊥) → Performs o xs carried sent sent (performed.Store xs)
stops o o' xs carried sent e not_local = (λ l. not_local (subst IsLocal e l), refl, refl)

-- ---- operations without arguments

no_arg_stuck : (xs : List Value) → no_arg xs Stuck ≡ Stuck
no_arg_stuck [] = refl
no_arg_stuck (x ∷ xs) = refl

pub no_args : (xs : List Value) (o : Outcome Value) → no_arg xs o ≢ Stuck → xs ≡ []
no_args [] o h = refl
no_args (x ∷ xs) o h = absurd (h refl)

-- it gives this value, or XML
pub gives : (o : Op) (o' : Op) (w : State → Outcome Value) (xs carried : List Value) (sent : List (ℕ × Value)) (r : Performed) → o ≡ o' → IsLocal o'
    → ((l : List Value) (s : State) → does nothing o' l s ≡ no_arg l (w s)) → (left : ℕ) × (until o xs (held carried sent no_store [] left) ≢ Stuck) → Comes w r → Performs o xs carried sent sent r
gives o o' w xs carried sent r e l form h done =
    let can = able o o' xs carried sent e l h in
    let none : xs ≡ [] = no_args xs (w can.0) (λ stuck. can.1 (form xs can.0 ∙ stuck)) in
    came o o' xs carried sent r e l (comes_as r (λ s. form xs s ∙ ap (λ k. no_arg k (w s)) none) done)

-- the only argument of an operation
pub only_able : (o o' : Op) (go : State → Value → Outcome Value) (xs carried : List Value) (sent : List (ℕ × Value)) → o ≡ o' → IsLocal o'
    → ((s : State) → does nothing o' xs s ≡ one_arg xs (go s)) → (left : ℕ) × (until o xs (held carried sent no_store [] left) ≢ Stuck)
    → (f : Value → Outcome Value) × (one_arg xs f ≢ Stuck)
only_able o o' go xs carried sent e l form h =
    let can = able o o' xs carried sent e l h in
    (go can.0, λ stuck. can.1 (form can.0 ∙ stuck))

-- ---- cookies

pub cookie_there : (o : Op) (c : ℕ) (xs carried : List Value) (sent : List (ℕ × Value)) (left : ℕ) → o ≡ op.GetCookie c → until o xs (held carried sent no_store [] left) ≢ Stuck
    → slice_get carried c ≢ None
cookie_there o c xs carried sent left e h none =
    h (ap (λ z. until z xs (held carried sent no_store [] left)) e ∙ ap (λ z. no_arg xs (given z (λ x. Done x (held carried sent no_store [] left)))) none ∙ no_arg_stuck xs)

pub cookie_got : (o : Op) (c : ℕ) (xs carried : List Value) (sent : List (ℕ × Value)) (left : ℕ) (x : Value) → o ≡ op.GetCookie c → until o xs (held carried sent no_store [] left) ≢ Stuck
    → slice_get carried c ≡ Some x → Performs o xs carried sent sent (performed.Done x)
cookie_got o c xs carried sent left x e h at =
    let none : xs ≡ [] = no_args xs _ (λ stuck. h (ap (λ z. until z xs (held carried sent no_store [] left)) e ∙ stuck)) in
    subst (λ z. Performs z xs carried sent sent (performed.Done x)) (sym e) (
      tt,
      λ store events units. ap (λ l. no_arg l (given (slice_get carried c) (λ y. Done y (held carried sent store events units)))) none
          ∙ ap (λ z. given z (λ y. Done y (held carried sent store events units))) at,
    )

pub cookie_set : (o : Op) (c : ℕ) (xs carried : List Value) (sent sent' : List (ℕ × Value)) (x : Value) → o ≡ op.SetCookie c → xs ≡ x ∷ [] → sent' ≡ with_cookie c x sent
    → Performs o xs carried sent sent' (performed.Done unit_value)
cookie_set o c xs carried sent sent' x e f g =
    subst (λ z. Performs z xs carried sent sent' (performed.Done unit_value)) (sym e) (
      tt,
      λ store events units. ap (λ l. does nothing (op.SetCookie c) l (held carried sent store events units)) f
          ∙ ap (λ l. Done unit_value (held carried l store events units)) (sym g),
    )

-- ---- XML

some_state : State
some_state = held [] [] no_store [] 0

never_error : (b : Bool) (x body : Value) (s : State) → (if b then Done x s else Spent s.events) ≡ Error body s.events → ⊥
never_error true x body s e = cc
never_error false x body s e = cc

never_shown : (o : Option (List Node)) (body : Value) (s : State) → given o (λ nodes. markup nodes s) ≡ Error body s.events → ⊥
never_shown None body s e = cc
never_shown (Some nodes) body s e = never_error (is_small (v.Markup nodes)) (v.Markup nodes) body s e

-- parts are joined
pub joins_of : (parts : List Value) (r : Performed) → Comes (joined parts) r → Joins parts r
joins_of parts (performed.Done x) h = h
joins_of parts (performed.Failed body) h = never_shown (all_nodes parts) body some_state (h some_state)
joins_of parts performed.Spent h = h
joins_of parts (performed.Store xs) h = h
joins_of parts performed.Memory h = tt

-- XML whose parts are joined
pub comes_of : (parts : List Value) (r : Performed) → Joins parts r → Comes (joined parts) r
comes_of parts (performed.Done x) h = h
comes_of parts (performed.Failed body) h = absurd h
comes_of parts performed.Spent h = h
comes_of parts (performed.Store xs) h = absurd h
comes_of parts performed.Memory h = tt

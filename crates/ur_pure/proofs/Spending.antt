-- Fixed runs one after the other.
use Rattle.std.proofs.Common.{◌≡◌, ℕ, ◌+◌, ◌-◌, ◌<◌, ◌≤◌, List, [], ◌∷◌, ◌++◌, Option, Some, None}
use Rattle.std.proofs.Common.{Bool, true, false, length, refl, sym, ap, ap₂, subst, ◌∙◌, append-nil, append_assoc, arith}
use Rattle.std.specs.Prelude.{nat_le, if◌then◌else◌}
use Rattle.std.proofs.lemmas.Bool.{leb-true, leb-false, le-leb}
use Rattle.ur_values.specs.declared.value.Value.{Value}
use Rattle.ur_values.specs.Event.{Event, Ask}
use Rattle.ur_values.specs.Sql.{Sql}
use Rattle.ur_values.specs.Store.{Store}
use Rattle.ur_terms.specs.declared.term.AnswerForm.{AnswerForm}
use Rattle.ur_terms.specs.State.{State, Outcome, Done, Error, Spent, Stuck, after, charge, note}
use Rattle.ur_terms.specs.Ops.{given, ask, answered}
use Rattle.ur_terms.specs.Run.{for_each, on_match}
use Rattle.ur_pure.specs.Fixed.{AreAsked, spend, SpendsIn, spends, Uniform, Shapes, Fixed}
use Rattle.ur_pure.proofs.Still.{Still, answer_still}

-- ---- answers

pub asked_first : (sql : Sql) (store : Store) (es fs : List Event) → AreAsked sql store (es ++ fs) → AreAsked sql store es
asked_first sql store [] fs h = tt
asked_first sql store (e ∷ es) fs h = (h.0, asked_first sql store es fs h.1)

pub asked_last : (sql : Sql) (store : Store) (es fs : List Event) → AreAsked sql store (es ++ fs) → AreAsked sql store fs
asked_last sql store [] fs h = h
asked_last sql store (e ∷ es) fs h = asked_last sql store es fs h.1

pub asked_both : (sql : Sql) (store : Store) (es fs : List Event) → AreAsked sql store es → AreAsked sql store fs → AreAsked sql store (es ++ fs)
asked_both sql store [] fs h k = k
asked_both sql store (e ∷ es) fs h k = (h.0, asked_both sql store es fs h.1 k)

-- ---- spending

abbrev with_both : ℕ → List Event → State → State
with_both units events s = record s { units = units; events = events }

pub spend_none : (s : State) → spend 0 [] s ≡ s
spend_none s = ap₂ (λ u e. with_both u e s) (let same : s.units - 0 ≡ s.units = omega arith in same) (append-nil s.events)

pub spend_both : (a b : ℕ) (es fs : List Event) (s : State) → spend b fs (spend a es s) ≡ spend (a + b) (es ++ fs) s
spend_both a b es fs s = ap₂ (λ u e. with_both u e s) (let same : s.units - a - b ≡ s.units - (a + b) = omega arith in same) (append_assoc s.events es fs)

-- ---- fixed runs

module _ (sql : Sql) (Q : List Event → Type 0) (shapes : Shapes Q) where
  -- nothing is spent and nothing noted
  pub fixed_still : {A : Type 0} (go : State → Outcome A) (s : State) (x : A) (t : State) → Still go s x t → Fixed sql Q go s x t
  fixed_still go s x t h = record {
    cost = 0;
    events = [];
    within = omega arith;
    ends = h.same ∙ sym (spend_none s);
    asked = tt;
    shape = shapes.none;
    uniform = record {
      enough = λ u a n. h.elsewhere u ∙ ap (Done x) (sym (spend_none u));
      wanting = λ u a n. absurd (omega (arith, n));
    };
  }

  pub fixed_done : {A : Type 0} (s : State) (x y : A) (t : State) → Done x s ≡ Done y t → Fixed sql Q (λ u. Done x u) s y t
  fixed_done s x y t e = fixed_still (λ u. Done x u) s y t (record { same = same_state x s y t e; elsewhere = λ u. ap (λ z. Done z u) (same_value x s y t e) })
    where
      same_state : {A : Type 0} (x : A) (s : State) (y : A) (t : State) → Done x s ≡ Done y t → t ≡ s
      same_state x s y t e = cc

      same_value : {A : Type 0} (x : A) (s : State) (y : A) (t : State) → Done x s ≡ Done y t → x ≡ y
      same_value x s y t e = cc

  pub fixed_same : {A : Type 0} (go come : State → Outcome A) → ((u : State) → go u ≡ come u) → (s : State) (x : A) (t : State) → Fixed sql Q come s x t
      → Fixed sql Q go s x t
  fixed_same go come same s x t h = record {
    cost = h.cost;
    events = h.events;
    within = h.within;
    ends = h.ends;
    asked = h.asked;
    shape = h.shape;
    uniform = record {
      enough = λ u a n. same u ∙ h.uniform.enough u a n;
      wanting = λ u a n. subst (SpendsIn h.events u.events) (sym (same u)) (h.uniform.wanting u a n);
    };
  }

  -- ---- one after the other

  -- the value and the state between
  pub between : {A B : Type 0} (o : Outcome A) (next : A → State → Outcome B) (x : B) (t : State) → after o next ≡ Done x t
      → (y : A) × (u : State) × (o ≡ Done y u) × (next y u ≡ Done x t)
  between (Done y u) next x t e = (y, u, refl, e)
  between (Error body events) next x t e = cc
  between (Spent events) next x t e = cc
  between Stuck next x t e = cc

  abbrev after_done : {A B : Type 0} (o : Outcome A) (next : A → State → Outcome B) (y : A) (u : State) → o ≡ Done y u → after o next ≡ next y u
  after_done o next y u e = ap (λ w. after w next) e

  spends_first : {A B : Type 0} (es fs before : List Event) (o : Outcome A) (next : A → State → Outcome B) → SpendsIn es before o
      → SpendsIn (es ++ fs) before (after o next)
  spends_first es fs before o next (spends more rest e) = spends more (rest ++ fs) (ap (λ l. l ++ fs) e ∙ append_assoc more rest fs)

  spends_last : {B : Type 0} (es fs before : List Event) (o : Outcome B) → SpendsIn fs (before ++ es) o → SpendsIn (es ++ fs) before o
  spends_last {B = B} es fs before o (spends more rest e) =
      subst (λ l. SpendsIn {A = B} (es ++ fs) before (Spent l)) (sym (append_assoc before es more))
      (spends (es ++ more) rest (ap (λ l. es ++ l) e ∙ sym (append_assoc es more rest)))

  module _ {A B : Type 0} (go : State → Outcome A) (next : A → State → Outcome B) (y : A) (x : B) (a b : ℕ) (es fs : List Event)
      (first : Uniform sql y a es go) (second : Uniform sql x b fs (next y)) where
    uniform_enough : (s : State) → AreAsked sql s.store (es ++ fs) → a + b ≤ s.units → after (go s) next ≡ Done x (spend (a + b) (es ++ fs) s)
    uniform_enough s h n =
        after_done (go s) next y (spend a es s) (first.enough s (asked_first sql s.store es fs h) (omega (arith, n)))
        ∙ second.enough (spend a es s) (asked_last sql s.store es fs h) (let rest : b ≤ s.units - a = omega (arith, n) in rest)
        ∙ ap (Done x) (spend_both a b es fs s)

    uniform_wanting : (s : State) → AreAsked sql s.store (es ++ fs) → s.units < a + b → SpendsIn (es ++ fs) s.events (after (go s) next)
    uniform_wanting s h n = decided (nat_le a s.units) refl
      where
        decided : (c : Bool) → nat_le a s.units ≡ c → SpendsIn (es ++ fs) s.events (after (go s) next)
        decided true e =
            let some : a ≤ s.units = leb-true a s.units e in
            subst (SpendsIn (es ++ fs) s.events) (sym (after_done (go s) next y (spend a es s) (first.enough s (asked_first sql s.store es fs h) some)))
            (spends_last es fs s.events (next y (spend a es s))
            (second.wanting (spend a es s) (asked_last sql s.store es fs h) (let less : s.units - a < b = omega (arith, n, some) in less)))
        decided false e = spends_first es fs s.events (go s) next (first.wanting s (asked_first sql s.store es fs h) (leb-false a s.units e))

    pub uniform_after : Uniform sql x (a + b) (es ++ fs) (λ s. after (go s) next)
    uniform_after = record { enough = uniform_enough; wanting = uniform_wanting }

  pub fixed_both : {A B : Type 0} (go : State → Outcome A) (next : A → State → Outcome B) (s u t : State) (y : A) (x : B)
      → Fixed sql Q go s y u → Fixed sql Q (next y) u x t → Fixed sql Q (λ s. after (go s) next) s x t
  fixed_both go next s u t y x h k =
      let rest : Fixed sql Q (next y) (spend h.cost h.events s) x t = subst (λ (z : State). Fixed sql Q (next y) z x t) h.ends k in
      record {
        cost = h.cost + rest.cost;
        events = h.events ++ rest.events;
        within = (let a : h.cost ≤ s.units = h.within in let b : rest.cost ≤ s.units - h.cost = rest.within in let both : h.cost + rest.cost ≤ s.units = omega
            (arith, a, b) in both);
        ends = rest.ends ∙ spend_both h.cost rest.cost h.events rest.events s;
        asked = asked_both sql s.store h.events rest.events h.asked rest.asked;
        shape = shapes.both h.events rest.events h.shape rest.shape;
        uniform = uniform_after go next y x h.cost rest.cost h.events rest.events h.uniform rest.uniform;
      }

  -- units do not rise
  pub fixed_fewer : {A : Type 0} (go : State → Outcome A) (s : State) (x : A) (t : State) → Fixed sql Q go s x t → t.units ≤ s.units
  fixed_fewer go s x t h = subst (λ (z : State). z.units ≤ s.units) (sym h.ends) (let few : s.units - h.cost ≤ s.units = omega arith in few)

  -- the run before it fixed, and then whatever comes of it
  pub fixed_after : {A B : Type 0} (n : ℕ) (go : State → Outcome A) (next : A → State → Outcome B) (s t : State) (x : B) → s.units ≤ n
      → ((y : A) (u : State) → go s ≡ Done y u → Fixed sql Q go s y u)
      → ((y : A) (u : State) → u.units ≤ n → next y u ≡ Done x t → Fixed sql Q (next y) u x t)
      → after (go s) next ≡ Done x t → Fixed sql Q (λ s. after (go s) next) s x t
  fixed_after n go next s t x few h k e =
      let m = between (go s) next x t e in
      let first = h m.0 m.1 m.2 in
      let fewer : m.1.units ≤ s.units = fixed_fewer go s m.0 m.1 first in
      fixed_both go next s m.1 t m.0 x first (k m.0 m.1 (omega (arith, few, fewer)) m.3)

  pub fixed_given : {A B : Type 0} (o : Option A) (go : A → State → Outcome B) (s t : State) (x : B)
      → ((y : A) → go y s ≡ Done x t → Fixed sql Q (go y) s x t) → given o (λ y. go y s) ≡ Done x t → Fixed sql Q (λ s. given o (λ y. go y s)) s x t
  fixed_given None go s t x h e = cc
  fixed_given (Some y) go s t x h e = h y e

  pub fixed_if : {A : Type 0} (c : Bool) (go come : State → Outcome A) (s t : State) (x : A)
      → (go s ≡ Done x t → Fixed sql Q go s x t) → (come s ≡ Done x t → Fixed sql Q come s x t)
      → (if c then go s else come s) ≡ Done x t → Fixed sql Q (λ s. if c then go s else come s) s x t
  fixed_if true go come s t x h k e = h e
  fixed_if false go come s t x h k e = k e

  pub fixed_match : {A : Type 0} (m : Option (List Value)) (go : List Value → State → Outcome A) (come : State → Outcome A) (s t : State) (x : A)
      → ((bound : List Value) → go bound s ≡ Done x t → Fixed sql Q (go bound) s x t) → (come s ≡ Done x t → Fixed sql Q come s x t)
      → on_match m (λ bound. go bound s) (come s) ≡ Done x t → Fixed sql Q (λ s. on_match m (λ bound. go bound s) (come s)) s x t
  fixed_match None go come s t x h k e = k e
  fixed_match (Some bound) go come s t x h k e = h bound e

  -- ---- charges

  charged : {A : Type 0} (n : ℕ) (s : State) (go : State → Outcome A) (x : A) (t : State) → charge n s go ≡ Done x t
      → (n ≤ s.units) × (go (record s { units = s.units - n }) ≡ Done x t)
  charged n s go x t e = decided (nat_le n s.units) refl e
    where
      decided : (c : Bool) → nat_le n s.units ≡ c → (if c then go (record s { units = s.units - n }) else Spent s.events) ≡ Done x t
          → (n ≤ s.units) × (go (record s { units = s.units - n }) ≡ Done x t)
      decided true c e = (leb-true n s.units c, e)
      decided false c e = cc

  charge_some : {A : Type 0} (n : ℕ) (s : State) (go : State → Outcome A) → n ≤ s.units → charge n s go ≡ go (record s { units = s.units - n })
  charge_some n s go h = ap (λ c. if c then go (record s { units = s.units - n }) else Spent s.events) (le-leb n s.units h)

  charge_none : {A : Type 0} (n : ℕ) (s : State) (go : State → Outcome A) → s.units < n → charge n s go ≡ Spent s.events
  charge_none n s go h = ap (λ c. if c then go (record s { units = s.units - n }) else Spent s.events) (few n s.units h)
    where
      few : (n u : ℕ) → u < n → nat_le n u ≡ false
      few n u h = decided (nat_le n u) refl
        where
          decided : (c : Bool) → nat_le n u ≡ c → c ≡ false
          decided true e = (let some : n ≤ u = leb-true n u e in absurd (omega (arith, h, some)))
          decided false e = refl

  -- nothing is given
  abbrev paid : State → Outcome (Unit {0})
  paid u = Done tt u

  spend_units : (n : ℕ) (s : State) → record s { units = s.units - n } ≡ spend n [] s
  spend_units n s = ap (λ e. with_both (s.units - n) e s) (sym (append-nil s.events))

  spent_at_once : {A : Type 0} (before : List Event) → SpendsIn {A = A} [] before (Spent before)
  spent_at_once {A = A} before = subst (λ l. SpendsIn {A = A} [] before (Spent l)) (append-nil before) (spends [] [] refl)

  fixed_charge_alone : (n : ℕ) (s : State) → n ≤ s.units → Fixed sql Q (λ s. charge n s paid) s tt (record s { units = s.units - n })
  fixed_charge_alone n s h = record {
    cost = n;
    events = [];
    within = h;
    ends = spend_units n s;
    asked = tt;
    shape = shapes.none;
    uniform = record {
      enough = λ u a few. charge_some n u paid few ∙ ap (Done tt) (spend_units n u);
      wanting = λ u a few. subst (SpendsIn [] u.events) (sym (charge_none n u paid few)) (spent_at_once u.events);
    };
  }

  charge_after : {A : Type 0} (n : ℕ) (go : State → Outcome A) (s : State) → charge n s go ≡ after (charge n s paid) (λ y u. go u)
  charge_after n go s = decided (nat_le n s.units)
    where
      decided : (c : Bool) → (if c then go (record s { units = s.units - n }) else Spent s.events)
          ≡ after (if c then paid (record s { units = s.units - n }) else Spent s.events) (λ y u. go u)
      decided true = refl
      decided false = refl

  pub fixed_charge : {A : Type 0} (n : ℕ) (go : State → Outcome A) (s t : State) (x : A)
      → (n ≤ s.units → go (record s { units = s.units - n }) ≡ Done x t → Fixed sql Q go (record s { units = s.units - n }) x t)
      → charge n s go ≡ Done x t → Fixed sql Q (λ s. charge n s go) s x t
  fixed_charge n go s t x h e =
      let c = charged n s go x t e in
      fixed_same (λ s. charge n s go) (λ s. after (charge n s paid) (λ y u. go u)) (charge_after n go) s x t
      (fixed_both (λ s. charge n s paid) (λ y u. go u) s (record s { units = s.units - n }) t tt x (fixed_charge_alone n s c.0) (h c.0 c.1))

  -- ---- queries

  -- the event of a query with these rows
  abbrev asked_rows : AnswerForm → ℕ → List Value → List Value → State → Outcome Value
  asked_rows how site key rows s = charge (1 + length rows) (note (Ask site key rows) s) (answered how rows)

  pub fixed_ask : (how : AnswerForm) (site : ℕ) (key : List Value) (s t : State) (x : Value) → ask sql how site key s ≡ Done x t
      → Fixed sql Q (ask sql how site key) s x t
  fixed_ask how site key s t x e =
      let rows = sql.answer site key s.store in
      let n = 1 + length rows in
      let one = Ask site key rows ∷ [] in
      let c = charged n (note (Ask site key rows) s) (answered how rows) x t e in
      let still = answer_still how rows (record (note (Ask site key rows) s) { units = s.units - n }) x t c.1 in
      record {
        cost = n;
        events = one;
        within = c.0;
        ends = still.same;
        asked = (refl, tt);
        shape = shapes.asked site key rows;
        uniform = record {
          enough = λ u a few. ap (λ r. asked_rows how site key r u) a.0 ∙ charge_some n (note (Ask site key rows) u) (answered how rows) few
              ∙ still.elsewhere (record (note (Ask site key rows) u) { units = u.units - n });
          wanting = λ u a few. subst (SpendsIn one u.events)
              (sym (ap (λ r. asked_rows how site key r u) a.0 ∙ charge_none n (note (Ask site key rows) u) (answered how rows) few)) (spends one [] refl);
        };
      }

  -- ---- items

  pub fixed_each : (n : ℕ) (go : Value → State → Outcome Value)
      → ((y : Value) (s t : State) (x : Value) → s.units ≤ n → go y s ≡ Done x t → Fixed sql Q (go y) s x t)
      → (items : List Value) (s t : State) (xs : List Value) → s.units ≤ n → for_each go items s ≡ Done xs t → Fixed sql Q (for_each go items) s xs t
  fixed_each n go h [] s t xs few e = fixed_done s [] xs t e
  fixed_each n go h (y ∷ items) s t xs few e =
      fixed_after n (go y) (λ y t. after (for_each go items t) (λ ys u. Done (y ∷ ys) u)) s t xs few (λ z u i. h y s u z few i)
      (λ z u less i. fixed_after n (for_each go items) (λ ys u. Done (z ∷ ys) u) u t xs less (λ zs w i. fixed_each n go h items u w zs less i)
      (λ zs w less i. fixed_done w (z ∷ zs) xs t i) i) e

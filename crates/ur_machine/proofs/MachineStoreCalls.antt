-- Operations that tell with what they came, and operations of which one gives a certain answer.
use Rattle.std.proofs.Common.{◌≡◌, inr, ℕ, ◌<◌, ◌≤◌, ◌==◌, Bool, true, false, ◌&&◌, if◌then◌else◌, List, refl, sym, ap, subst, ◌∙◌, arith}
use Rattle.std.specs.Prelude.{nat_lt}
use Rattle.std.specs.List.{AllZip}
use Rattle.std.proofs.lemmas.Bool.Decides.{Decides-eqb, nat_tests}
use Rattle.ur_values.specs.declared.types.ValueType.{ValueType}
use Rattle.ur_values.specs.declared.value.Value.{Value}
use Rattle.ur_values.specs.Event.{Event}
use Rattle.ur_values.specs.Store.{Store}
use Rattle.ur_terms.specs.declared.term.AnswerForm.{AnswerForm}
use Rattle.ur_terms.specs.declared.term.AnswerForm.TheVariants as form
use Rattle.ur_terms.specs.declared.term.Op.{Op}
use Rattle.ur_terms.specs.declared.term.Op.TheVariants as op
use Rattle.ur_terms.specs.State.{State, Outcome, Done, Error, Spent, LeavesAtMost}
use Rattle.ur_terms.specs.Types.{OpType}
use Rattle.ur_terms.specs.Sound.{Comes}
use Rattle.ur_terms.specs.Run.{Does}
use Rattle.ur_machine_frames.specs.Plays.{Plays, IsLocal, until, held}
use Rattle.ur_machine_frames.proofs.Playing.{until_plays}
use Rattle.ur_code.specs.declared.code.Code.{Code}
use Rattle.ur_code.specs.Fits.{signature}
use Rattle.ur_code.specs.Sound.{FitsState, FitsCookie, IsOf}
use Rattle.ur_machine.specs.UnderWay.{KeepTypes, told, Shows, IsAnswerTo}

-- ---- whether two operations on tables are the same

abbrev is_all : AnswerForm → Bool
is_all form.All = true
is_all form.One = false
is_all form.OneOrNone = false

abbrev is_one : AnswerForm → Bool
is_one form.All = false
is_one form.One = true
is_one form.OneOrNone = false

abbrev is_option : AnswerForm → Bool
is_option form.All = false
is_option form.One = false
is_option form.OneOrNone = true

abbrev same_form : AnswerForm → AnswerForm → Bool
same_form form.All g = is_all g
same_form form.One g = is_one g
same_form form.OneOrNone g = is_option g

abbrev is_ask : AnswerForm → ℕ → Op → Bool
is_ask how site (op.Ask how' site') = same_form how how' && site == site'
is_ask how site _ = false

abbrev is_write : ℕ → Op → Bool
is_write update (op.Write update') = update == update'
is_write update _ = false

abbrev is_next : ℕ → Op → Bool
is_next q (op.Next q') = q == q'
is_next q _ = false

abbrev pub same_store_call : Op → Op → Bool
same_store_call (op.Ask how site) o = is_ask how site o
same_store_call (op.Write update) o = is_write update o
same_store_call (op.Next q) o = is_next q o
same_store_call _ o = false

both_true : (a b : Bool) → (a && b) ≡ true → (a ≡ true) × (b ≡ true)
both_true true true e = (refl, refl)
both_true true false e = cc
both_true false b e = cc

true_both : (a b : Bool) → a ≡ true → b ≡ true → (a && b) ≡ true
true_both true b e f = f
true_both false b e f = cc

false_last : (a b : Bool) → b ≡ false → (a && b) ≡ false
false_last true b e = e
false_last false b e = refl

form_is : (f g : AnswerForm) → same_form f g ≡ true → f ≡ g
form_is form.All form.All e = refl
form_is form.All form.One e = cc
form_is form.All form.OneOrNone e = cc
form_is form.One form.All e = cc
form_is form.One form.One e = refl
form_is form.One form.OneOrNone e = cc
form_is form.OneOrNone form.All e = cc
form_is form.OneOrNone form.One e = cc
form_is form.OneOrNone form.OneOrNone e = refl

same_form_as : (f : AnswerForm) → same_form f f ≡ true
same_form_as form.All = refl
same_form_as form.One = refl
same_form_as form.OneOrNone = refl

false_true : {A : Type 0} → false ≡ true → A
false_true e = cc

ask_is : (how : AnswerForm) (site : ℕ) (o : Op) → is_ask how site o ≡ true → op.Ask how site ≡ o
ask_is how site (op.Ask how' site') e =
    let parts = both_true (same_form how how') (site == site') e in
    ap (λ f. op.Ask f site) (form_is how how' parts.0) ∙ ap (op.Ask how') ((Decides-eqb site site').0 parts.1)
ask_is how site _ e = false_true e

write_is : (update : ℕ) (o : Op) → is_write update o ≡ true → op.Write update ≡ o
write_is update (op.Write update') e = ap op.Write ((Decides-eqb update update').0 e)
write_is update _ e = false_true e

next_is : (q : ℕ) (o : Op) → is_next q o ≡ true → op.Next q ≡ o
next_is q (op.Next q') e = ap op.Next ((Decides-eqb q q').0 e)
next_is q _ e = false_true e

pub same_is : (p o : Op) → same_store_call p o ≡ true → p ≡ o
same_is (op.Ask how site) o e = ask_is how site o e
same_is (op.Write update) o e = write_is update o e
same_is (op.Next q) o e = next_is q o e
same_is _ o e = false_true e

pub same_self : (o : Op) → (IsLocal o → ⊥) → same_store_call o o ≡ true
same_self (op.Ask how site) n = true_both (same_form how how) (site == site) (same_form_as how) ((Decides-eqb site site).1 refl)
same_self (op.Write update) n = (Decides-eqb update update).1 refl
same_self (op.Next q) n = (Decides-eqb q q).1 refl
same_self _ n = absurd (n tt)

pub local_differs : (p o : Op) → IsLocal p → same_store_call p o ≡ false
local_differs (op.Ask how site) o l = absurd l
local_differs (op.Write update) o l = absurd l
local_differs (op.Next q) o l = absurd l
local_differs _ o l = refl

-- ---- those that stop at tables

pub until_stops : (p : Op) → (IsLocal p → ⊥) → (xs : List Value) (s : State) → until p xs s ≡ Spent s.events
until_stops (op.Ask how site) n xs s = refl
until_stops (op.Write update) n xs s = refl
until_stops (op.Next q) n xs s = refl
until_stops _ n xs s = absurd (n tt)

pub until_keeps : (code : Code) (o : Op) → KeepTypes code o until
until_keeps code o = record {
  plays = until_plays;
  deeds = λ p ts r xs s n has vs fits. subst (Comes (λ x. IsOf code x r) (FitsState code) (Shows code o)) (sym (until_stops p n xs s)) tt;
}

-- ---- those of which one tells with what it came

abbrev pub telling : Op → Does
telling o p xs s = if same_store_call p o then Error (told xs s.carried) s.events else until p xs s

pub tells : (o : Op) → (IsLocal o → ⊥) → (xs : List Value) (s : State) → telling o o xs s ≡ Error (told xs s.carried) s.events
tells o n xs s = ap (λ b. if b then Error (told xs s.carried) s.events else until o xs s) (same_self o n)

telling_leaves : (b : Bool) (u : ℕ) (body : Value) (events : List Event) (w : Outcome Value) → LeavesAtMost u w → LeavesAtMost u (if b then Error body events else w)
telling_leaves true u body events w h = tt
telling_leaves false u body events w h = h

telling_comes : (code : Code) (o p : Op) (r : ValueType) (b : Bool) (body : Value) (events : List Event) (w : Outcome Value) → (b ≡ true → Shows code o body)
    → Comes (λ x. IsOf code x r) (FitsState code) (Shows code o) w → Comes (λ x. IsOf code x r) (FitsState code) (Shows code o) (if b then Error body events else w)
telling_comes code o p r true body events w h k = h refl
telling_comes code o p r false body events w h k = k

pub telling_keeps : (code : Code) (o : Op) → KeepTypes code o (telling o)
telling_keeps code o = record {
  plays = record {
    plain = λ p l xs s. ap (λ b. if b then Error (told xs s.carried) s.events else until p xs s) (local_differs p o l) ∙ until_plays.plain p l xs s;
    units = λ p xs s. telling_leaves (same_store_call p o) s.units (told xs s.carried) s.events (until p xs s) (until_plays.units p xs s);
  };
  deeds = λ p ts r xs s n has vs fits. telling_comes code o p r (same_store_call p o) (told xs s.carried) s.events (until p xs s)
      (λ e. inr (xs, s.carried, refl, record { types = ts; result = r; has = subst (λ q. OpType (signature code) q ts r) (same_is p o e) has; args = vs; cookies = fits.carried }))
      ((until_keeps code o).deeds p ts r xs s n has vs fits);
}

-- ---- those of which one gives this answer, where more units are left than these

abbrev pub answering : Op → Value → ℕ → Store → List Event → Does → Does
answering o x units store events d p xs s =
    if same_store_call p o && nat_lt units s.units then Done x (held s.carried s.sent store events units) else d p xs s

below_true : (a b : ℕ) → a < b → nat_lt a b ≡ true
below_true a b h = grind (arith, nat_tests)

below_false : (a b : ℕ) → b ≤ a → nat_lt a b ≡ false
below_false a b h = grind (arith, nat_tests)

true_below : (a b : ℕ) → nat_lt a b ≡ true → a < b
true_below a b h = grind (arith, nat_tests)

module _ (o : Op) (x : Value) (units : ℕ) (store : Store) (events : List Event) (d : Does) where
  pub answers : (IsLocal o → ⊥) → (xs : List Value) (s : State) → units < s.units → answering o x units store events d o xs s ≡ Done x (held s.carried s.sent store events units)
  answers n xs s below =
      ap (λ b. if b then Done x (held s.carried s.sent store events units) else d o xs s) (true_both (same_store_call o o) (nat_lt units s.units) (same_self o n) (below_true units s.units below))

  pub agrees : (p : Op) (xs : List Value) (s : State) → s.units ≤ units → answering o x units store events d p xs s ≡ d p xs s
  agrees p xs s few =
      ap (λ b. if b then Done x (held s.carried s.sent store events units) else d p xs s) (false_last (same_store_call p o) (nat_lt units s.units) (below_false units s.units few))

  answering_leaves : (b : Bool) (carried : List Value) (sent : List (ℕ × Value)) (u : ℕ) (w : Outcome Value) → (b ≡ true → units < u) → LeavesAtMost u w
      → LeavesAtMost u (if b then Done x (held carried sent store events units) else w)
  answering_leaves true carried sent u w h k = let below : units < u = h refl in omega arith
  answering_leaves false carried sent u w h k = k

  answering_comes : (code : Code) (q : Op) (r : ValueType) (b : Bool) (carried : List Value) (sent : List (ℕ × Value)) (w : Outcome Value)
      → (b ≡ true → IsOf code x r × FitsState code (held carried sent store events units))
      → Comes (λ y. IsOf code y r) (FitsState code) (Shows code q) w
      → Comes (λ y. IsOf code y r) (FitsState code) (Shows code q) (if b then Done x (held carried sent store events units) else w)
  answering_comes code q r true carried sent w h k = h refl
  answering_comes code q r false carried sent w h k = k

  differs : (p : Op) → IsLocal p → (s : State) → (same_store_call p o && nat_lt units s.units) ≡ false
  differs p l s = ap (λ b. b && nat_lt units s.units) (local_differs p o l)

  pub answering_plays : Plays d → Plays (answering o x units store events d)
  answering_plays plays = record {
    plain = λ p l xs s. ap (λ b. if b then Done x (held s.carried s.sent store events units) else d p xs s) (differs p l s) ∙ plays.plain p l xs s;
    units = λ p xs s. answering_leaves (same_store_call p o && nat_lt units s.units) s.carried s.sent s.units (d p xs s)
        (λ e. true_below units s.units (both_true (same_store_call p o) (nat_lt units s.units) e).1) (plays.units p xs s);
  }

  pub answering_keeps : (code : Code) (q : Op) → KeepTypes code q d → IsAnswerTo code o x
      → ((carried : List Value) (sent : List (ℕ × Value)) → AllZip FitsCookie carried code.cookies → FitsState code (held carried sent store events units))
      → KeepTypes code q (answering o x units store events d)
  answering_keeps code q keeps answer fits_after = record {
    plays = answering_plays keeps.plays;
    deeds = λ p ts r xs s n has vs fits. answering_comes code q r (same_store_call p o && nat_lt units s.units) s.carried s.sent (d p xs s)
        (λ e. (answer ts r (subst (λ z. OpType (signature code) z ts r) (same_is p o (both_true (same_store_call p o) (nat_lt units s.units) e).0) has), fits_after s.carried s.sent fits.carried))
        (keeps.deeds p ts r xs s n has vs fits);
  }

-- What patterns bind, as slots.
use Rattle.std.proofs.Common.{◌≡◌, ℕ, ◌+◌, Bool, true, false, cond, List, [], ◌∷◌, ◌++◌, length, drop, get_or, ◌<◌, Option, Some, None, Result, Ok, Err, IfOk}
use Rattle.std.proofs.Common.{refl, sym, ap, subst, ◌∙◌, arith, Bor}
use Rattle.std.proofs.lemmas.List.{drop_more}
use Rattle.ur_values.specs.declared.value.Value.{Value}
use Rattle.ur_values.specs.declared.value.Value.TheVariants as v
use Rattle.ur_terms.specs.declared.term.Branch.{Branch}
use Rattle.ur_terms.specs.declared.term.Pattern.{Pattern}
use Rattle.ur_terms.specs.State.{State}
use Rattle.ur_terms.specs.Run.{Does, Calls, eval, first_branch, on_match, matched, if_matches, held_by}
use Rattle.ur_tags.specs.declared.routes.Handlers.{Handlers}
use Rattle.ur_emit.specs.declared.slots.Slot.{Slot}
use Rattle.ur_emit.specs.declared.slots.Slot.TheVariants as slot
use Rattle.ur_emit.specs.Makes.{Makes, MakesCase}
use Rattle.ur_emit.specs.Slots.{Stand, IsSlot, BindsAt, Bound, IsUnbound, Emits, EmitsCase, Written}

pub unbound : (b : Bool) (slots : List Slot) → IsUnbound b slots slots (cond b (Some 0) None)
unbound true slots pattern x e = record { new = []; values = []; many = refl; on_top = refl; matches = e; stand = λ h. refl }
unbound false slots pattern x e = (e, refl)

pub bound_none : (p : Pattern) (x : Value) (slots : List Slot) → matched p x ≡ Some [] → BindsAt p x slots slots (Some 0)
bound_none p x slots e = record { new = []; values = []; many = refl; on_top = refl; matches = e; stand = λ h. refl }

pub bound_one : (p : Pattern) (x y : Value) (b : Bor Value) (slots slots' : List Slot) → b.now ≡ y → slots' ≡ slot.Value b ∷ slots
    → matched p x ≡ Some (y ∷ []) → BindsAt p x slots slots' (Some 1)
bound_one p x y b slots slots' is top e = record {
  new = slot.Value b ∷ [];
  values = y ∷ [];
  many = refl;
  on_top = top;
  matches = e;
  stand = λ h.
      (y, [], refl, is, refl);
}

pub bound_two : (p : Pattern) (x y : Value) (ys : List Value) (b : Bor Value) (bs : Bor (List Value)) (slots pushed slots' : List Slot) → b.now ≡ y
    → bs.now ≡ ys → pushed ≡ slot.Rows bs ∷ slots → slots' ≡ slot.Value b ∷ pushed
    → matched p x ≡ Some (y ∷ v.Many ys ∷ []) → BindsAt p x slots slots' (Some 2)
bound_two p x y ys b bs slots pushed slots' is are first second e = record {
  new = slot.Value b ∷ slot.Rows bs ∷ [];
  values = y ∷ v.Many ys ∷ [];
  many = refl;
  on_top = second ∙ ap (λ s. slot.Value b ∷ s) first;
  matches = e;
  stand = λ h. (y, v.Many ys ∷ [], refl, is, (v.Many ys, [], refl, ap v.Many are, refl));
}

pub along : {E : Type 0} (p q : Pattern) (x : Value) (slots slots' : List Slot) (r : Result (Option ℕ) E) → p ≡ q → IfOk r (BindsAt q x slots slots')
    → IfOk r (BindsAt p x slots slots')
along p q x slots slots' (Ok found) is h = subst (λ z. BindsAt z x slots slots' found) (sym is) h
along p q x slots slots' (Err e) is h = tt

pub by_test : {E : Type 0} (p q : Pattern) (x : Value) (b : Bool) (slots slots' : List Slot) (r : Result (Option ℕ) E) → p ≡ q
    → matched q x ≡ if_matches b [] → IfOk r (IsUnbound b slots slots') → IfOk r (BindsAt p x slots slots')
by_test p q x b slots slots' (Ok found) is e h = subst (λ z. BindsAt z x slots slots' found) (sym is) (h q x e)
by_test p q x b slots slots' (Err f) is e h = tt

pub by_match : {E : Type 0} (p q : Pattern) (x : Value) (values : List Value) (slots slots' : List Slot) (r : Result (Option ℕ) E) → p ≡ q
    → matched q x ≡ Some values
    → IfOk r (λ found. (p : Pattern) → (x : Value) → matched p x ≡ Some values → BindsAt p x slots slots' found) → IfOk r (BindsAt p x slots slots')
by_match p q x values slots slots' (Ok found) is e h = subst (λ z. BindsAt z x slots slots' found) (sym is) (h q x e)
by_match p q x values slots slots' (Err f) is e h = tt

-- what is bound is known by another name
pub held_bound : {E : Type 0} (r : Result (Option ℕ) E) (values other : List Value) (slots slots' : List Slot) → values ≡ other
    → IfOk r (λ found. (p : Pattern) → (x : Value) → matched p x ≡ Some other → BindsAt p x slots slots' found)
    → IfOk r (λ found. (p : Pattern) → (x : Value) → matched p x ≡ Some values → BindsAt p x slots slots' found)
held_bound (Ok found) values other slots slots' same h = λ p x e. h p x (e ∙ ap Some same)
held_bound (Err f) values other slots slots' same h = tt

-- ---- variables on top of variables

pub stand_on : (h : Handlers) (new slots : List Slot) (values env : List Value) → Stand h new values → Stand h slots env
    → Stand h (new ++ slots) (values ++ env)
stand_on h [] slots values env e st = subst (λ z. Stand h slots (z ++ env)) (sym e) st
stand_on h (s ∷ new) slots values env (x, rest, e, is, more) st = (x, rest ++ env, ap (λ z. z ++ env) e, is, stand_on h new slots rest env more st)

pub drop_on : (new slots : List Slot) → drop (length new) (new ++ slots) ≡ slots
drop_on [] slots = refl
drop_on (s ∷ new) slots = drop_on new slots

-- ---- branches

-- a pattern that binds nothing does not match
pub not_bound : (p : Pattern) (x : Value) (slots slots' : List Slot) (found : Option ℕ) → ((n : ℕ) → found ≡ Some n → ⊥) → BindsAt p x slots slots' found
    → (matched p x ≡ None) × (slots' ≡ slots)
not_bound p x slots slots' (Some n) never h = absurd (never n refl)
not_bound p x slots slots' None never h = h

-- the variables behind a branch
pub case_slots : (p : Pattern) (x : Value) (slots before pushed after last : List Slot) (count : ℕ) → Bound p x before pushed count → before ≡ slots
    → after ≡ pushed
    → last ≡ drop count after → last ≡ slots
case_slots p x slots before pushed after last count b same kept dropped =
    dropped ∙ ap (drop count) (kept ∙ b.on_top) ∙ subst (λ n. drop n (b.new ++ before) ≡ before) b.many (drop_on b.new before) ∙ same

pub one_branch : (bs : List Branch) (i : ℕ) (b : Branch) → i < length bs → b ≡ get_or bs i b → drop i bs ≡ b ∷ drop (i + 1) bs
one_branch bs i b within at = drop_more bs i b within ∙ ap (λ z. z ∷ drop (i + 1) bs) (sym at)

-- a branch that does not match is passed over
pub passed_over : (bs : List Branch) (b : Branch) (x : Value) → matched b.pattern x ≡ None → (d : Does) (calls : Calls) (env : List Value) (s : State)
    → first_branch d calls (b ∷ bs) x env s ≡ first_branch d calls bs x env s
passed_over bs b x e d calls env s = ap (λ o. on_match o (λ bound. eval d calls b.body (bound ++ env) s) (first_branch d calls bs x env s)) e

pub chosen_here : (bs : List Branch) (b : Branch) (x : Value) (values : List Value) → matched b.pattern x ≡ Some values
    → (d : Does) (calls : Calls) (env : List Value) (s : State)
    → first_branch d calls (b ∷ bs) x env s ≡ eval d calls b.body (values ++ env) s
chosen_here bs b x values e d calls env s = ap (λ o. on_match o (λ bound. eval d calls b.body (bound ++ env) s) (first_branch d calls bs x env s)) e

-- what the branch makes that is the first to match was written
pub emits_branch : (h : Handlers) (slots : List Slot) (branches rest : List Branch) (b : Branch) (x : Value) (count : ℕ) (pushed : List Slot)
    (o p : List ℕ) (r s d : ℕ)
    → ((does : Does) (calls : Calls) (env : List Value) (u : State) → first_branch does calls branches x env u ≡ first_branch does calls (b ∷ rest) x env u)
    → Bound b.pattern x slots pushed count → Emits h pushed b.body o p r s d → EmitsCase h slots branches x o p r s d
emits_branch h slots branches rest b x count pushed o p r s d same bound emits env st =
    let w = subst (λ z. Emits h z b.body o p r s d) bound.on_top emits (bound.values ++ env) (stand_on h bound.new slots bound.values env (bound.stand h) st) in
    record {
      nodes = w.nodes;
      makes = record {
        branch = b;
        bound = bound.values;
        chosen = λ does calls u. same does calls env u
            ∙ chosen_here rest b x bound.values bound.matches does calls env u;
        makes = w.makes;
      };
      adds = w.adds;
    }

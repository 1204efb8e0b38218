-- What a call came to may be remembered.
use Rattle.std.proofs.Common.{◌≡◌, ℕ, zero, suc, ◌+◌, ◌-◌, ◌≤◌, Bool, true, false, not, ◌||◌, cond, if◌then◌else◌, List, [], ◌∷◌, ◌++◌, map, All}
use Rattle.std.proofs.Common.{Option, Some, None, slice_get, refl, sym, ap, ap₂, subst, ◌∙◌, true≢false}
use Rattle.std.specs.List.{AllByRecursion, list_any}
use Rattle.std.proofs.lemmas.List.Elements.{recursion_from_All, All-from_recursion}
use Rattle.ur_values.specs.declared.value.Value.{Value}
use Rattle.ur_values.specs.declared.value.Call.{Call}
use Rattle.ur_values.specs.Event.{Event, Ask, Write}
use Rattle.ur_values.specs.Sql.{Sql}
use Rattle.ur_values.specs.Store.{Store, FitKinds}
use Rattle.ur_sql.specs.declared.query.Query.{Query}
use Rattle.ur_sql.specs.Answer.{answer, answer_if_any, site_answer}
use Rattle.ur_terms.specs.declared.term.Op.{Op}
use Rattle.ur_terms.specs.declared.term.Op.TheVariants as op
use Rattle.ur_terms.specs.State.{State, Outcome, Done, Error, Spent, Stuck, LeavesAtMost}
use Rattle.ur_terms.specs.Ops.{does}
use Rattle.ur_terms.specs.Run.{outcome_of, NeverRaises}
use Rattle.ur_terms.proofs.Bound.{does_never_raises}
use Rattle.ur_machine_frames.specs.Plays.{held}
use Rattle.ur_tags.specs.Show.{show}
use Rattle.ur_cacheindex.specs.Matching.{KeyMask}
use Rattle.ur_cache.specs.Entries.{Entry, is_masked}
use Rattle.ur_code.specs.declared.code.Code.{Code}
use Rattle.ur_code.specs.Meaning.{code_sql, are_storable, if_storable, limited, does_code, at_target, outcome}
use Rattle.ur_machine.specs.Answers.{IsEntryOf, AreEntriesOf, AreAnswersOver, AgreeUnmasked}
use Rattle.ur_machine.proofs.Lists.{neither_first, neither_second}
use Rattle.ur_pure.specs.Acts.{OnlyAsks}
use Rattle.ur_pure.specs.Fixed.{IsAsked, AreAsked, spend, Fixed, Anything, OnlyReads, Reads}
use Rattle.ur_pure.specs.Laws.{PureIsFixed}
use Rattle.ur_pages.specs.Pages.{Asked, Remembered, some_masked}
use Rattle.ur_memo.specs.Remembered.{asked_of, ask_of, ComesTo, IsRemembered}
use Rattle.ur_memo.specs.Laws.{MayBeRemembered, IsAnswer, StaysRemembered}

-- ---- operations of code

storable_leaves : (u : ℕ) (o : Outcome Value) → LeavesAtMost u o → LeavesAtMost u (if_storable o)
storable_leaves u (Done x s) h = go (are_storable s.store)
  where
    go : (b : Bool) → LeavesAtMost u (if b then Done x s else Spent s.events)
    go true = h
    go false = tt
storable_leaves u (Error body events) h = tt
storable_leaves u (Spent events) h = tt
storable_leaves u Stuck h = tt

limited_leaves : (u : ℕ) (o : Op) (w : Outcome Value) → LeavesAtMost u w → LeavesAtMost u (limited o w)
limited_leaves u (op.Write update) w h = storable_leaves u w h
limited_leaves u _ w h = h

same_reads : (code : Code) (o : Op) → OnlyReads o → (xs : List Value) (s : State) → does_code code o xs s ≡ does (code_sql code) o xs s
same_reads code (op.Write update) only xs s = absurd only
same_reads code _ only xs s = refl

pub code_reads : (code : Code) → Reads (code_sql code) (does_code code)
code_reads code = record {
  units = λ o xs s. limited_leaves s.units o (does (code_sql code) o xs s) (does_never_raises (code_sql code) o xs s);
  same = same_reads code;
}

-- ---- events and entries

module _ (code : Code) where
  abbrev Over : Store → Entry → Type 0
  Over store e = e.rows ≡ site_answer code.queries e.site e.key store

  -- entries that are the answers make events that were asked
  are_asked : (store : Store) (es : List Entry) → AllByRecursion (Over store) es → AreAsked (code_sql code) store (map ask_of es)
  are_asked store [] h = tt
  are_asked store (e ∷ es) h = (sym h.0, are_asked store es h.1)

  -- and back
  are_over : (store : Store) (es : List Entry) → AreAsked (code_sql code) store (map ask_of es) → AllByRecursion (Over store) es
  are_over store [] h = tt
  are_over store (e ∷ es) h = (sym h.0, are_over store es h.1)

  module _ (pure : PureIsFixed) where
    module _ (steps : ℕ) (f : ℕ) (call : Call) (at : slice_get code.targets call.route ≡ Some f) where
      at_f : (s : State) → outcome code call s ≡ outcome_of (does_code code) code.functions f call.args s
      at_f s = ap (λ o. at_target code o call s) at

      module _ (carried : List Value) (store : Store) (x : Value) (t : State)
          (fixed : Fixed (code_sql code) Anything (outcome_of (does_code code) code.functions f call.args) (held carried [] store [] steps) x t)
          (es : List Entry) (same : t.events ≡ map ask_of es) where
        events_are : fixed.events ≡ map ask_of es
        events_are = sym (ap (λ (u : State). u.events) fixed.ends) ∙ same

        over_store : AreAnswersOver code store es
        over_store = All-from_recursion (Over store) es (are_over store es (subst (λ l. AreAsked (code_sql code) store l) events_are fixed.asked))

        comes_to : ComesTo code steps call (show code.handlers x) es
        comes_to = record {
          value = x;
          shown = refl;
          left = steps - fixed.cost;
          comes = λ store' over carried'.
              let asked : AreAsked (code_sql code) store' fixed.events = subst (λ l. AreAsked (code_sql code) store' l) (sym events_are)
              (are_asked store' es (recursion_from_All (Over store') es over)) in
              at_f (held carried' [] store' [] steps)
              ∙ fixed.uniform.enough (held carried' [] store' [] steps) asked fixed.within
              ∙ ap (λ l. Done x (held carried' [] store' l (steps - fixed.cost))) events_are;
        }

    pub may_be_remembered : MayBeRemembered code
    may_be_remembered steps path call f carried store x t es at only run same typed =
        let fixed = pure (code_sql code) (does_code code) (code_reads code) code.functions f call.args (held carried [] store [] steps) t x only
        (sym (at_f steps f call at (held carried [] store [] steps)) ∙ run) in (
          ap (λ (u : State). u.sent) fixed.ends,
          ap (λ (u : State). u.store) fixed.ends,
          record {
            entries = es;
            asked = refl;
            typed = typed;
            over = over_store steps f call at carried store x t fixed es same;
            comes = comes_to steps f call at carried store x t fixed es same;
          },
        )

  pub is_answer : IsAnswer code
  is_answer steps call store r h carried = h.comes.comes store h.over carried

  -- ---- as long as answers stay

  at_entry : (e : Entry) (q : Query) → slice_get code.queries e.site ≡ Some q → (store : Store)
      → site_answer code.queries e.site e.key store ≡ answer q e.key store
  at_entry e q there store = ap (λ o. answer_if_any o e.key store) there

  stay : (saved current : Store) (masks : List KeyMask) → AgreeUnmasked code saved current masks → (es : List Entry) → AllByRecursion (IsEntryOf code) es
      → some_masked masks (map asked_of es) ≡ false → AllByRecursion (Over saved) es → AllByRecursion (Over current) es
  stay saved current masks agree [] typed none over = tt
  stay saved current masks agree (e ∷ es) typed none over = (
    over.0 ∙ at_entry e typed.0.query typed.0.is_site saved ∙ sym
        (agree e.site typed.0.query e.key typed.0.is_site typed.0.key (neither_first (is_masked masks e.site e.key) (some_masked masks (map asked_of es)) none))
        ∙ sym (at_entry e typed.0.query typed.0.is_site current),
    stay saved current masks agree es typed.1 (neither_second (is_masked masks e.site e.key) (some_masked masks (map asked_of es)) none) over.1,
  )

  pub stays_remembered : StaysRemembered code
  stays_remembered steps call saved current masks r agree none h = record {
    entries = h.entries;
    asked = h.asked;
    typed = h.typed;
    over = All-from_recursion (Over current) h.entries (stay saved current masks agree h.entries (recursion_from_All (IsEntryOf code) h.entries h.typed)
        (subst (λ l. some_masked masks l ≡ false) (sym h.asked) none) (recursion_from_All (Over saved) h.entries h.over));
    comes = h.comes;
  }

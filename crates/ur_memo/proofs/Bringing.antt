-- Entries that are there stay there when others go to the front.
use Rattle.std.proofs.Common.{◌≡◌, ℕ, zero, suc, if◌then◌else◌, Bool, true, false, not, ◌&&◌, ◌==◌, cond, List, [], ◌∷◌, map, filter, find, All}
use Rattle.std.proofs.Common.{Option, Some, None, is_some, slice_get, refl, sym, ap, ap₂, subst, ◌∙◌, true≢false}
use Rattle.std.specs.List.{AllByRecursion, list_all, list_any, fold}
use Rattle.std.proofs.lemmas.List.Elements.{recursion_from_All, All-from_recursion}
use Rattle.ur_values.specs.declared.value.Value.{Value}
use Rattle.ur_values.specs.declared.schema.ColumnKind.{ColumnKind}
use Rattle.ur_values.specs.Order.{values_eq}
use Rattle.ur_values.specs.Store.{FitKinds}
use Rattle.ur_values.specs.Event.{Event, Ask}
use Rattle.ur_base.specs.Told.{WhereTold}
use Rattle.ur_values.specs.Store.{Store}
use Rattle.ur_keeper.specs.Tables.{Tables, store_of}
use Rattle.ur_sql.specs.declared.query.Query.{Query}
use Rattle.ur_sql.specs.Answer.{site_answer}
use Rattle.ur_cache.specs.declared.cache.Settle.TheVariants.{Rollback}
use Rattle.ur_cache.specs.Entries.{Entry, Cached, is_masked, is_at, entry_at, hit, to_front, looked_up, settled}
use Rattle.ur_cache.specs.Cached.{Sites, Tally, asked, stepped, after_events, cached}
use Rattle.ur_code.specs.declared.code.Code.{Code}
use Rattle.ur_machine.specs.Answers.{IsEntryOf, AreEntriesOf, AreAnswersOver, AreSavedAnswers}
use Rattle.ur_machine.proofs.Lists.{some_same, same_number, both_true, same_key, found_first, all_passing}
use Rattle.ur_pages.specs.Pages.{Asked, are_there, brought}
use Rattle.ur_memo.specs.Remembered.{asked_of, ask_of}
use Rattle.ur_memo.specs.Laws.{HitsBring, RequestBrings, BringingKeeps}

-- ---- lists

both_are : (a b : Bool) → a ≡ true → b ≡ true → (a && b) ≡ true
both_are true b h k = k
both_are false b h k = h

-- what is found passes
found_passes : {A : Type 0} (test : A → Bool) (xs : List A) (x : A) → find test xs ≡ Some x → test x ≡ true
found_passes test [] x e = cc
found_passes test (y ∷ ys) x e = go (test y) refl (λ k. found_passes test ys x k) e
  where
    go : (b : Bool) → test y ≡ b → (find test ys ≡ Some x → test x ≡ true) → cond b (Some y) (find test ys) ≡ Some x → test x ≡ true
    go true t rec e = subst (λ z. test z ≡ true) (some_same y x e) t
    go false t rec e = rec e

-- it is found among those that are kept, where it is kept
found_kept : {A : Type 0} (test keep : A → Bool) (xs : List A) (x : A) → find test xs ≡ Some x → keep x ≡ true → is_some (find test (filter keep xs)) ≡ true
found_kept test keep [] x e k = cc
found_kept test keep (y ∷ ys) x e k = go (test y) refl (keep y) refl (λ i. found_kept test keep ys x i k) e
  where
    go : (b : Bool) → test y ≡ b → (c : Bool) → keep y ≡ c → (find test ys ≡ Some x → is_some (find test (filter keep ys)) ≡ true)
        → cond b (Some y) (find test ys) ≡ Some x → is_some (find test (cond c (y ∷ filter keep ys) (filter keep ys))) ≡ true
    go true t true c rec e = ap (λ z. is_some (cond z (Some y) (find test (filter keep ys)))) t
    go true t false c rec e = absurd (true≢false (sym (subst (λ z. keep z ≡ true) (sym (some_same y x e)) k) ∙ c))
    go false t true c rec e = ap (λ z. is_some (cond z (Some y) (find test (filter keep ys)))) t ∙ rec e
    go false t false c rec e = rec e

-- an element in front takes nothing away
found_behind : {A : Type 0} (test : A → Bool) (y : A) (xs : List A) → is_some (find test xs) ≡ true → is_some (find test (y ∷ xs)) ≡ true
found_behind test y xs h = go (test y) refl
  where
    go : (b : Bool) → test y ≡ b → is_some (cond (test y) (Some y) (find test xs)) ≡ true
    go true t = ap (λ z. is_some (cond z (Some y) (find test xs))) t
    go false t = ap (λ z. is_some (cond z (Some y) (find test xs))) t ∙ h

found_in_front : {A : Type 0} (test : A → Bool) (y : A) (xs : List A) → test y ≡ true → is_some (find test (y ∷ xs)) ≡ true
found_in_front test y xs t = ap (λ z. is_some (cond z (Some y) (find test xs))) t

-- ---- entries at typed keys

-- an entry at a key of kinds has that key
its_key : (site : ℕ) (key : List Value) (kinds : List ColumnKind) (e : Entry) → FitKinds key kinds → is_at site key e ≡ true → (e.site ≡ site) × (e.key ≡ key)
its_key site key kinds e fits at =
    let b = both_true (e.site == site) (values_eq e.key key) at in
    (same_number e.site site b.0, same_key e.key key kinds fits b.1)

module _ (site : ℕ) (key : List Value) (kinds : List ColumnKind) (fits : FitKinds key kinds) (site' : ℕ) (key' : List Value) (kinds' : List ColumnKind)
    (fits' : FitKinds key' kinds') where
  -- when the one goes to the front the other is still there
  still_there : (entries : List Entry) (e f : Entry) → entry_at site key entries ≡ Some e → entry_at site' key' entries ≡ Some f
      → is_some (entry_at site' key' (to_front (Some e) entries)) ≡ true
  still_there entries e f at there = go (is_at e.site e.key f) refl
    where
      its : (e.site ≡ site) × (e.key ≡ key)
      its = its_key site key kinds e fits (found_passes (is_at site key) entries e at)

      passes : is_at site' key' f ≡ true
      passes = found_passes (is_at site' key') entries f there

      go : (b : Bool) → is_at e.site e.key f ≡ b → is_some (entry_at site' key' (to_front (Some e) entries)) ≡ true
      go true s =
          let same = its_key e.site e.key kinds f (subst (λ k. FitKinds k kinds) (sym its.1) fits) s in
          let is : is_at site' key' e ≡ true = subst (λ k. ((e.site == site') && values_eq k key') ≡ true) same.1
          (subst (λ n. ((n == site') && values_eq f.key key') ≡ true) same.0 passes) in
          found_in_front (is_at site' key') e (filter (λ other. not (is_at e.site e.key other)) entries) is
      go false s = found_behind (is_at site' key') e (filter (λ other. not (is_at e.site e.key other)) entries)
          (found_kept (is_at site' key') (λ other. not (is_at e.site e.key other)) entries f there (ap not s))

-- ---- all of them

some_of : {A : Type 0} (o : Option A) → is_some o ≡ true → (x : A) × (o ≡ Some x)
some_of None h = absurd (true≢false (sym h))
some_of (Some x) h = (x, refl)

module _ (code : Code) where
  -- where one goes to the front the others are still there
  all_still : (e g : Entry) (entries : List Entry) → IsEntryOf code e → entry_at e.site e.key entries ≡ Some g → (es : List Entry)
      → AllByRecursion (IsEntryOf code) es
      → are_there entries (map asked_of es) ≡ true → are_there (to_front (Some g) entries) (map asked_of es) ≡ true
  all_still e g entries typed at [] h t = refl
  all_still e g entries typed at (f ∷ es) h t =
      let b = both_true (is_some (entry_at f.site f.key entries)) (are_there entries (map asked_of es)) t in
      let found = some_of (entry_at f.site f.key entries) b.0 in
      both_are (is_some (entry_at f.site f.key (to_front (Some g) entries))) (are_there (to_front (Some g) entries) (map asked_of es))
      (still_there e.site e.key typed.query.params typed.key f.site f.key h.0.query.params h.0.key entries g found.0 at found.1)
      (all_still e g entries typed at es h.1 b.1)

  module _ (sites : Sites) where
    unmasked_hit : (c : Cached) (site : ℕ) (key : List Value) (g : Entry) → c.masks ≡ [] → entry_at site key c.entries ≡ Some g → hit c site key ≡ Some g
    unmasked_hit c site key g none at = ap (λ m. hit (record c { masks = m }) site key) none ∙ at

    bring_all : (c : Cached) (es : List Entry) → c.masks ≡ [] → AllByRecursion (IsEntryOf code) es → are_there c.entries (map asked_of es) ≡ true
        → fold (stepped sites) (record { list = c; scans = 0 }) (map ask_of es) ≡ record { list = brought (map asked_of es) c; scans = 0 }
    bring_all c [] none h t = refl
    bring_all c (e ∷ es) none h t =
        let b = both_true (is_some (entry_at e.site e.key c.entries)) (are_there c.entries (map asked_of es)) t in
        let found = some_of (entry_at e.site e.key c.entries) b.0 in
        let is : hit c e.site e.key ≡ Some found.0 = unmasked_hit c e.site e.key found.0 none found.1 in
        let start : Tally = record { list = c; scans = 0 } in
        ap (λ o. fold (stepped sites) (asked sites start e o) (map ask_of es)) is
        ∙ bring_all (looked_up c e.site e.key) es none h.1
        (ap (λ o. are_there (to_front o c.entries) (map asked_of es)) is ∙ all_still e found.0 c.entries h.0 found.1 es h.1 b.1)

  pub hits_bring : HitsBring code
  hits_bring sites c es none typed there = bring_all sites c es none (recursion_from_All (IsEntryOf code) es typed) there

  pub request_brings : RequestBrings code
  request_brings sites c es none typed there =
      let clear : Cached = record { capacity = c.capacity; entries = c.entries; masks = [] } in
      ap (λ (t : Tally). ((settled t.list Rollback).entries, t.scans)) (hits_bring sites clear es refl typed there)
      ∙ ap (λ m. ((brought (map asked_of es) (record c { masks = m })).entries, 0)) (sym none)

-- ---- what is kept

module _ (P : Entry → Type 0) where
  unmasked_found : (b : Bool) (o : Option Entry) (e : Entry) → (if b then None else o) ≡ Some e → o ≡ Some e
  unmasked_found true o e h = cc
  unmasked_found false o e h = h

  front_all : (c : Cached) (site : ℕ) (key : List Value) → AllByRecursion P c.entries → AllByRecursion P (looked_up c site key).entries
  front_all c site key h = go (hit c site key) refl
    where
      go : (o : Option Entry) → hit c site key ≡ o → AllByRecursion P (to_front o c.entries)
      go None e = h
      go (Some x) e = (
        (found_first P (is_at site key) c.entries x (unmasked_found (is_masked c.masks site key) (entry_at site key c.entries) x e) h).0,
        all_passing P P (λ other. not (is_at x.site x.key other)) (λ y t p. p) c.entries h,
      )

  brought_all : (asks : List Asked) (c : Cached) → AllByRecursion P c.entries → AllByRecursion P (brought asks c).entries
  brought_all [] c h = h
  brought_all (a ∷ asks) c h = brought_all asks (looked_up c a.site a.key) (front_all c a.site a.key h)

brought_masks : (asks : List Asked) (c : Cached) → (brought asks c).masks ≡ c.masks
brought_masks [] c = refl
brought_masks (a ∷ asks) c = brought_masks asks (looked_up c a.site a.key)

brought_capacity : (asks : List Asked) (c : Cached) → (brought asks c).capacity ≡ c.capacity
brought_capacity [] c = refl
brought_capacity (a ∷ asks) c = brought_capacity asks (looked_up c a.site a.key)

module _ (code : Code) where
  abbrev Over : Tables → Entry → Type 0
  Over t e = e.rows ≡ site_answer code.queries e.site e.key (store_of t)

  brought_over : (saved : Option Tables) (asks : List Asked) (c : Cached) → WhereTold saved (λ t. AreAnswersOver code (store_of t) c.entries)
      → WhereTold saved (λ t. AreAnswersOver code (store_of t) (brought asks c).entries)
  brought_over None asks c h = tt
  brought_over (Some t) asks c h =
      All-from_recursion (Over t) (brought asks c).entries (brought_all (Over t) asks c (recursion_from_All (Over t) c.entries h))

  pub bringing_keeps : BringingKeeps code
  bringing_keeps asks saved c h = (
    record {
      entries = All-from_recursion (IsEntryOf code) (brought asks c).entries
          (brought_all (IsEntryOf code) asks c (recursion_from_All (IsEntryOf code) c.entries h.entries));
      over_saved = brought_over saved asks c h.over_saved;
    },
    brought_masks asks c,
    brought_capacity asks c,
  )

-- What a cache holds is kept by each step.
use Rattle.std.proofs.Common.{◌≡◌, ℕ, Bool, true, false, not, ◌&&◌, ◌||◌, cond, ◌==◌, List, [], ◌∷◌, ◌++◌, map, filter, take, All, Option, Some, None, option_map, slice_get, refl, sym, ap, ap₂, subst, ◌∙◌, arith}
use Rattle.std.specs.Prelude.{nat_le, slice_index_or}
use Rattle.std.specs.List.{AllByRecursion, AllZip, list_any, enumerate_from}
use Rattle.std.proofs.lemmas.List.Elements.{All-weaker, All-map, recursion_from_All, All-from_recursion}
use Rattle.ur_base.specs.Told.{WhereTold, Tells}
use Rattle.ur_values.specs.declared.value.Value.{Value}
use Rattle.ur_values.specs.declared.schema.Numbered.{Numbered}
use Rattle.ur_values.specs.declared.schema.TableShape.{TableShape}
use Rattle.ur_values.specs.Order.{values_eq}
use Rattle.ur_values.specs.Store.{Row, Store, FitsSchema, FitsShape, FitKinds, rows_of}
use Rattle.ur_keeper.specs.Tables.{Tables, AreRowsOf, AreTablesOf, drawn, store_of}
use Rattle.ur_sql.specs.declared.pattern.Pattern.{Pattern}
use Rattle.ur_sql.specs.declared.query.Query.{Query}
use Rattle.ur_sql.specs.declared.change.Change.{Change}
use Rattle.ur_sql.specs.Answer.{answer, answer_if_any, site_answer}
use Rattle.ur_sql.specs.Change.{After, change}
use Rattle.ur_cacheindex.specs.Matching.{KeyMask, matches}
use Rattle.ur_conditions.specs.declared.patterns.Patterns.{Patterns}
use Rattle.ur_conditions.specs.Masks.{masks_of, update_masks}
use Rattle.ur_conditions.specs.Law.{KeepsAnswers}
use Rattle.ur_cache.specs.declared.cache.Settle.TheVariants.{Commit, Rollback}
use Rattle.ur_cache.specs.Entries.{Entry, Cached, is_masked, is_at, entry_at, hit, to_front, looked_up, most_size, entry_size, put, kept, masked, settled}
use Rattle.ur_code.specs.declared.code.Code.{Code}
use Rattle.ur_code.specs.RowType.{query_type}
use Rattle.ur_code.specs.Sound.{IsOf}
use Rattle.ur_machine.specs.Answers.{ArePatternsOf, IsEntryOf, AreEntriesOf, AreAnswersOver, AreUnmaskedAnswersOver, AgreeUnmasked, AreSavedAnswers, AreCurrentAnswers}
use Rattle.ur_machine.specs.Laws.{AreAnswers, IsKeptAtBegin, IsKeptAtHit, IsKeptAtRead, IsKeptAtChange, IsKeptAtMasks, IsKeptAtDraw, IsKeptAtCommit, IsKeptAtRollback}
use Rattle.ur_machine.proofs.Lists.{some_same, same_number, both_true, neither_first, is_not, found_first, all_passing, all_take, all_two, zip_at, got, numbered, none_in_front, none_behind, none_of_one, same_key}

-- ---- where tables are told

pub told_two : {A : Type 0} (o : Option A) (P Q R : A → Type 0) → ((a : A) → P a → Q a → R a) → WhereTold o P → WhereTold o Q → WhereTold o R
told_two None P Q R f h k = tt
told_two (Some a) P Q R f h k = f a h k

pub told_one : {A : Type 0} (o : Option A) (P Q : A → Type 0) → ((a : A) → P a → Q a) → WhereTold o P → WhereTold o Q
told_one None P Q f h = tt
told_one (Some a) P Q f h = f a h

module _ (code : Code) where
  -- an entry's rows are the answer over this store
  abbrev pub Over : Store → Entry → Type 0
  Over store e = e.rows ≡ site_answer code.queries e.site e.key store

  -- they are where no mask matches
  abbrev pub OverUnmasked : Store → List KeyMask → Entry → Type 0
  OverUnmasked store masks e = is_masked masks e.site e.key ≡ false → Over store e

  pub at_site : (site : ℕ) (q : Query) (key : List Value) (store : Store) → slice_get code.queries site ≡ Some q → site_answer code.queries site key store ≡ answer q key store
  at_site site q key store at = ap (λ o. answer_if_any o key store) at

  -- ---- a transaction begins

  pub kept_at_begin : IsKeptAtBegin code
  kept_at_begin saved c h = record { over_current = told_one saved _ _ (λ s all. All-weaker (Over (store_of s)) (OverUnmasked (store_of s) c.masks) (λ e r u. r) c.entries all) h.over_saved; agree = same saved }
    where
      same : (o : Option Tables) → WhereTold o (λ s. Tells o (λ t. AgreeUnmasked code (store_of s) (store_of t) c.masks))
      same None = tt
      same (Some s) = λ site q key at f u. refl

  -- ---- a hit

  hit_parts : (c : Cached) (site : ℕ) (key : List Value) (e : Entry) → hit c site key ≡ Some e → (is_masked c.masks site key ≡ false) × (entry_at site key c.entries ≡ Some e)
  hit_parts c site key e h = go (is_masked c.masks site key) refl h
    where
      go : (b : Bool) → is_masked c.masks site key ≡ b → cond b None (entry_at site key c.entries) ≡ Some e → (is_masked c.masks site key ≡ false) × (entry_at site key c.entries ≡ Some e)
      go true is f = cc
      go false is f = (is, f)

  module _ (c : Cached) (site : ℕ) (q : Query) (key : List Value) (e : Entry) (at : slice_get code.queries site ≡ Some q) (fits : FitKinds key q.params)
      (entries : AreEntriesOf code c.entries) (found : hit c site key ≡ Some e) where
    of_found : (P : Entry → Type 0) → All P c.entries → P e
    of_found P all = (found_first P (is_at site key) c.entries e (hit_parts c site key e found).1 (recursion_from_All P c.entries all)).0

    is_there : is_at site key e ≡ true
    is_there = (found_first (IsEntryOf code) (is_at site key) c.entries e (hit_parts c site key e found).1 (recursion_from_All (IsEntryOf code) c.entries entries)).1

    pub same_site : e.site ≡ site
    same_site = same_number e.site site (both_true (e.site == site) (values_eq e.key key) is_there).0

    same_its_key : e.key ≡ key
    same_its_key = same_key e.key key q.params fits (both_true (e.site == site) (values_eq e.key key) is_there).1

    pub found_rows : (store : Store) → AreUnmaskedAnswersOver code store c → e.rows ≡ site_answer code.queries site key store
    found_rows store all =
        let unmasked : is_masked c.masks e.site e.key ≡ false = ap₂ (λ (s : ℕ) (k : List Value). is_masked c.masks s k) same_site same_its_key ∙ (hit_parts c site key e found).0 in
        of_found (OverUnmasked store c.masks) all unmasked ∙ ap₂ (λ (s : ℕ) (k : List Value). site_answer code.queries s k store) same_site same_its_key

    -- its rows have the site's row type
    pub found_typed : All (λ row. IsOf code row (query_type q).1) e.rows
    found_typed =
        let is : IsEntryOf code e = of_found (IsEntryOf code) entries in
        let same : is.query ≡ q = some_same is.query q (sym is.is_site ∙ ap (slice_get code.queries) same_site ∙ at) in
        subst (λ z. All (λ row. IsOf code row (query_type z).1) e.rows) same is.rows

    in_front : (P : Entry → Type 0) → All P c.entries → All P (looked_up c site key).entries
    in_front P all = subst (λ o. All P (to_front o c.entries)) (sym found)
        (All-from_recursion P (e ∷ filter (λ other. not (is_at e.site e.key other)) c.entries) (
          of_found P all,
          all_passing P P (λ other. not (is_at e.site e.key other)) (λ x t h. h) c.entries (recursion_from_All P c.entries all),
        ))

    pub hit_kept : (saved current : Option Tables) → AreAnswers code saved current c → AreAnswers code saved current (looked_up c site key)
    hit_kept saved current (s, n) = (
      record { entries = in_front (IsEntryOf code) s.entries; over_saved = told_one saved _ _ (λ t all. in_front (Over (store_of t)) all) s.over_saved },
      record { over_current = told_one current _ _ (λ t all. in_front (OverUnmasked (store_of t) c.masks) all) n.over_current; agree = n.agree },
    )

  pub kept_at_hit : IsKeptAtHit code
  kept_at_hit saved current c site q key e at fits (s, n) found = (
    told_one current _ _ (λ t all. found_rows c site q key e at fits s.entries found (store_of t) all) n.over_current,
    hit_kept c site q key e at fits s.entries found saved current (s, n),
  )

  -- ---- a read

  module _ (c : Cached) (site : ℕ) (q : Query) (key rows : List Value) (at : slice_get code.queries site ≡ Some q) (fits : FitKinds key q.params) where
    abbrev new_one : Entry
    new_one = record { site = site; key = key; rows = rows }

    with_new : (P : Entry → Type 0) → P new_one → All P c.entries → All P (put c new_one).entries
    with_new P one all = All-from_recursion P (take c.capacity (new_one ∷ c.entries)) (all_take P c.capacity (new_one ∷ c.entries) (one, recursion_from_All P c.entries all))

    -- what is read now was so over the saved tables
    over_both : (saved current : Option Tables) → is_masked c.masks site key ≡ false → WhereTold saved (λ s. Tells current (λ t. AgreeUnmasked code (store_of s) (store_of t) c.masks))
        → WhereTold current (λ t. rows ≡ site_answer code.queries site key (store_of t)) → WhereTold saved (λ s. Over (store_of s) new_one)
    over_both None current unmasked a b = tt
    over_both (Some s) None unmasked a b = absurd a
    over_both (Some s) (Some t) unmasked a b = b ∙ at_site site q key (store_of t) at ∙ a site q key at fits unmasked ∙ sym (at_site site q key (store_of s) at)

    put_kept : (saved current : Option Tables) → AreAnswers code saved current c → is_masked c.masks site key ≡ false
        → WhereTold current (λ t. rows ≡ site_answer code.queries site key (store_of t)) → AllByRecursion (λ row. IsOf code row (query_type q).1) rows
        → AreAnswers code saved current (put c new_one)
    put_kept saved current (s, n) unmasked told typed = (
      record {
        entries = with_new (IsEntryOf code) (record { query = q; is_site = at; key = fits; rows = All-from_recursion (λ row. IsOf code row (query_type q).1) rows typed }) s.entries;
        over_saved = told_two saved _ _ _ (λ t one all. with_new (Over (store_of t)) one all) (over_both saved current unmasked n.agree told) s.over_saved;
      },
      record {
        over_current = told_two current _ _ _ (λ t one all. with_new (OverUnmasked (store_of t) c.masks) (λ u. one) all) told n.over_current;
        agree = n.agree;
      },
    )

  pub kept_at_read : IsKeptAtRead code
  kept_at_read saved current c site q key rows at fits both told typed =
      go (is_masked c.masks site key || not (nat_le (entry_size (record { site = site; key = key; rows = rows })) most_size)) refl
    where
      go : (b : Bool) → (is_masked c.masks site key || not (nat_le (entry_size (record { site = site; key = key; rows = rows })) most_size)) ≡ b
          → AreAnswers code saved current (cond b c (put c (record { site = site; key = key; rows = rows })))
      go true is = both
      go false is = put_kept c site q key rows at fits saved current both (neither_first (is_masked c.masks site key) _ is) told typed

  -- ---- masks

  unmasked_before : (masks more : List KeyMask) (site : ℕ) (key : List Value) → is_masked (masks ++ more) site key ≡ false → is_masked masks site key ≡ false
  unmasked_before masks more site key e = none_in_front (λ m. matches m site key) masks more e

  agree_more : (saved current : Store) (masks more : List KeyMask) → AgreeUnmasked code saved current masks → AgreeUnmasked code saved current (masks ++ more)
  agree_more saved current masks more h site q key at f u = h site q key at f (unmasked_before masks more site key u)

  tells_more : {A : Type 0} (o : Option A) (P Q : A → Type 0) → ((a : A) → P a → Q a) → Tells o P → Tells o Q
  tells_more None P Q f h = h
  tells_more (Some a) P Q f h = f a h

  pub with_masks : (saved current : Option Tables) (c : Cached) (more : List KeyMask) → AreAnswers code saved current c → AreAnswers code saved current (masked c more)
  with_masks saved current c more (s, n) = (
    record { entries = s.entries; over_saved = s.over_saved },
    record {
      over_current = told_one current _ _ (λ t all. All-weaker (OverUnmasked (store_of t) c.masks) (OverUnmasked (store_of t) (c.masks ++ more)) (λ e h u. h (unmasked_before c.masks more e.site e.key u)) c.entries all) n.over_current;
      agree = told_one saved _ _ (λ t h. tells_more current _ _ (λ u a. agree_more (store_of t) (store_of u) c.masks more a) h) n.agree;
    },
  )

  pub kept_at_masks : IsKeptAtMasks code
  kept_at_masks patterns saved current c update args both = with_masks saved current c (update_masks args (slice_index_or patterns.updates update [])) both

  -- ---- a change

  -- tables of a schema are a store of it
  rows_fit : (shapes : List TableShape) (tables : List (List Numbered)) → AllZip AreRowsOf shapes tables → AllZip (λ shape (rows : List Row). All (FitsShape shape) rows) shapes (map rows_of tables)
  rows_fit [] [] h = tt
  rows_fit [] (t ∷ ts) h = absurd h
  rows_fit (s ∷ ss) [] h = absurd h
  rows_fit (s ∷ ss) (t ∷ ts) h = (All-map (FitsShape s) (λ (r : Numbered). r.row) t h.0.shaped, rows_fit ss ts h.1)

  drop_bounds : {A B : Type 0} (R : A → B → Type 0) (xs : List A) (ys : List B) → AllZip R xs ys → AllZip (λ x y. Unit {0}) xs ys
  drop_bounds R [] [] h = tt
  drop_bounds R [] (y ∷ ys) h = absurd h
  drop_bounds R (x ∷ xs) [] h = absurd h
  drop_bounds R (x ∷ xs) (y ∷ ys) h = (tt, drop_bounds R xs ys h.1)

  pub store_fits : (t : Tables) → AreTablesOf code.schema t → FitsSchema code.schema (store_of t)
  store_fits t h = record { tables = rows_fit code.schema.tables t.tables h.tables; sequences = drop_bounds _ code.schema.sequences t.sequences h.sequences }

  module _ (patterns : Patterns) (are : ArePatternsOf code patterns) (update : ℕ) (u : Change) (args : List Value) (at : slice_get code.changes update ≡ Some u) (args_fit : FitKinds args u.params) where
    abbrev new_masks : List KeyMask
    new_masks = update_masks args (slice_index_or patterns.updates update [])

    abbrev OfUpdate : Change → List (List Pattern) → Type 0
    OfUpdate v lists = AllZip (λ site list. KeepsAnswers code.schema site.0 site.1 v list) (enumerate_from 0 code.queries) lists

    -- the law of sound invalidation at this update and a key that none of its masks matches
    pub answer_kept : (site : ℕ) (q : Query) (key : List Value) → slice_get code.queries site ≡ Some q → FitKinds key q.params → is_masked new_masks site key ≡ false
        → (before after : Store) → FitsSchema code.schema before → change code.schema u args before ≡ After after → answer q key after ≡ answer q key before
    answer_kept site q key is_site key_fits unmasked before after fits made =
        let lists = zip_at OfUpdate code.changes patterns.updates update u are.sound at in
        let one = zip_at (λ s list. KeepsAnswers code.schema s.0 s.1 u list) (enumerate_from 0 code.queries) lists.0 site (site, q) lists.2 (numbered code.queries 0 site site q (omega arith) is_site) in
        one.2 before after args key fits args_fit key_fits made
        (none_of_one (λ m. matches m site key) (masks_of args) lists.0 site one.0 one.1
        (subst (λ ls. is_masked (update_masks args ls) site key ≡ false) (got patterns.updates update [] lists.0 lists.1) unmasked))

    module _ (t t' : Tables) (fits : AreTablesOf code.schema t) (made : change code.schema u args (store_of t) ≡ After (store_of t')) (c : Cached) where
      -- an entry that no mask matches was the answer, and is so still
      entry_kept : (e : Entry) → IsEntryOf code e → OverUnmasked (store_of t) c.masks e → OverUnmasked (store_of t') (c.masks ++ new_masks) e
      entry_kept e is h unmasked =
          h (unmasked_before c.masks new_masks e.site e.key unmasked) ∙ at_site e.site is.query e.key (store_of t) is.is_site
          ∙ sym (answer_kept e.site is.query e.key is.is_site is.key (none_behind (λ m. matches m e.site e.key) c.masks new_masks unmasked) (store_of t) (store_of t') (store_fits t fits) made)
          ∙ sym (at_site e.site is.query e.key (store_of t') is.is_site)

      agree_kept : (s : Store) → AgreeUnmasked code s (store_of t) c.masks → AgreeUnmasked code s (store_of t') (c.masks ++ new_masks)
      agree_kept s h site q key is_site key_fits unmasked =
          answer_kept site q key is_site key_fits (none_behind (λ m. matches m site key) c.masks new_masks unmasked) (store_of t) (store_of t') (store_fits t fits) made
          ∙ h site q key is_site key_fits (unmasked_before c.masks new_masks site key unmasked)

      pub change_kept : (saved : Option Tables) → AreAnswers code saved (Some t) c → AreAnswers code saved (Some t') (masked c new_masks)
      change_kept saved (s, n) = (
        record { entries = s.entries; over_saved = s.over_saved },
        record {
          over_current = All-from_recursion (OverUnmasked (store_of t') (c.masks ++ new_masks)) c.entries
              (all_two (IsEntryOf code) (OverUnmasked (store_of t) c.masks) (OverUnmasked (store_of t') (c.masks ++ new_masks)) entry_kept c.entries
              (recursion_from_All (IsEntryOf code) c.entries s.entries) (recursion_from_All (OverUnmasked (store_of t) c.masks) c.entries n.over_current));
          agree = told_one saved _ _ (λ r h. agree_kept (store_of r) h) n.agree;
        },
      )

  pub kept_at_change : IsKeptAtChange code
  kept_at_change patterns are saved t t' c update u args at args_fit fits both made = change_kept patterns are update u args at args_fit t t' fits made c saved both

  -- ---- a draw

  -- answers read no sequence
  same_answer : (q : ℕ) (t : Tables) (site : ℕ) (key : List Value) → site_answer code.queries site key (store_of (drawn q t)) ≡ site_answer code.queries site key (store_of t)
  same_answer q t site key = go (slice_get code.queries site)
    where
      go : (o : Option Query) → answer_if_any o key (store_of (drawn q t)) ≡ answer_if_any o key (store_of t)
      go None = refl
      go (Some query) = refl

  pub kept_at_draw : IsKeptAtDraw code
  kept_at_draw saved current c q (s, n) = (s, record { over_current = over current n.over_current; agree = told_one saved _ _ (λ r h. still r current h) n.agree })
    where
      over : (o : Option Tables) → WhereTold o (λ t. AreUnmaskedAnswersOver code (store_of t) c) → WhereTold (option_map (drawn q) o) (λ t. AreUnmaskedAnswersOver code (store_of t) c)
      over None h = tt
      over (Some t) h = All-weaker (OverUnmasked (store_of t) c.masks) (OverUnmasked (store_of (drawn q t)) c.masks) (λ e k u. k u ∙ sym (same_answer q t e.site e.key)) c.entries h

      still : (r : Tables) (o : Option Tables) → Tells o (λ t. AgreeUnmasked code (store_of r) (store_of t) c.masks) → Tells (option_map (drawn q) o) (λ t. AgreeUnmasked code (store_of r) (store_of t) c.masks)
      still r None h = h
      still r (Some t) h = λ site query key at f u. h site query key at f u

  -- ---- ends

  pub kept_at_commit : IsKeptAtCommit code
  kept_at_commit saved current c (s, n) = record {
    entries = All-from_recursion (IsEntryOf code) (filter unmasked c.entries) (all_passing (IsEntryOf code) (IsEntryOf code) unmasked (λ e t h. h) c.entries (recursion_from_All (IsEntryOf code) c.entries s.entries));
    over_saved = told_one current _ _ (λ t all. All-from_recursion (Over (store_of t)) (filter unmasked c.entries)
        (all_passing (OverUnmasked (store_of t) c.masks) (Over (store_of t)) unmasked (λ e is h. h (is_not (is_masked c.masks e.site e.key) is)) c.entries
        (recursion_from_All (OverUnmasked (store_of t) c.masks) c.entries all))) n.over_current;
  }
    where
      unmasked : Entry → Bool
      unmasked e = not (is_masked c.masks e.site e.key)

  pub kept_at_rollback : IsKeptAtRollback code
  kept_at_rollback saved c s = record { entries = s.entries; over_saved = s.over_saved }

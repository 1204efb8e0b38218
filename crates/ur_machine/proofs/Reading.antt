-- Rows from the cache or from the tables, and what is left of the cache.
use Rattle.std.proofs.Common.{◌≡◌, ℕ, zero, suc, ◌+◌, ◌<◌, Bool, true, false, not, ◌||◌, cond, List, [], ◌∷◌, length, map, All, Option, Some, None, option_map, slice_get, Result, Ok, Err, OnOk, refl, sym, ap, ap₂, subst, ◌∙◌, arith}
use Rattle.std.specs.Prelude.{IsErrAnd, nat_le, slice_index_or}
use Rattle.std.specs.List.{AllByRecursion, AllZip}
use Rattle.std.proofs.lemmas.List.Elements.{recursion_from_All, All-from_recursion}
use Rattle.ur_base.specs.Counts.{next_count}
use Rattle.ur_base.specs.Told.{WhereTold, Tells}
use Rattle.ur_values.specs.declared.value.Value.{Value}
use Rattle.ur_values.specs.declared.schema.ColumnKind.{ColumnKind}
use Rattle.ur_values.specs.Atom.{IsAtomic}
use Rattle.ur_values.specs.Store.{FitKinds, rows_of}
use Rattle.ur_values.specs.Event.{Ask, Write}
use Rattle.ur_values.specs.declared.schema.Numbered.{Numbered}
use Rattle.ur_keeper.specs.Keeper.{OfShape, IsUndone, IsWithin}
use Rattle.ur_keeper.specs.Tables.{Tables, KeptSchema, Keeps, AreRowsOf, table_at, store_of, drawn}
use Rattle.ur_sql.specs.declared.query.Query.{Query}
use Rattle.ur_sql.specs.declared.change.Change.{Change}
use Rattle.ur_sql.specs.declared.pattern.Pattern.{Pattern}
use Rattle.ur_sql.specs.declared.query.Item.{Item}
use Rattle.ur_sql.specs.Answer.{answer_over, site_answer}
use Rattle.ur_conditions.specs.declared.patterns.Patterns.{Patterns}
use Rattle.ur_conditions.specs.Masks.{PatternReads, update_masks}
use Rattle.ur_values.proofs.Fitting.{fits_atomic}
use Rattle.ur_cache.specs.Entries.{Entry, Cached, is_masked, entry_size, most_size, hit, to_front, looked_up, masked, put, kept}
use Rattle.ur_cache.specs.Cached.{Sites}
use Rattle.ur_cacheindex.specs.Matching.{KeyMask}
use Rattle.ur_code.specs.declared.code.Code.{Code}
use Rattle.ur_code.specs.Fits.{Fits}
use Rattle.ur_code.specs.RowType.{query_type}
use Rattle.ur_code.specs.Sound.{IsOf}
use Rattle.ur_machine.specs.Answers.{ArePatternsOf, AreSavedAnswers, AreCurrentAnswers, Follows, scanned, sites_of}
use Rattle.ur_machine.specs.Laws.{AreAnswers}
use Rattle.ur_machine.proofs.Kept.{kept_at_begin, kept_at_hit, kept_at_read, kept_at_change, kept_at_draw, with_masks, found_typed}
use Rattle.ur_machine.proofs.Lists.{zip_at, got}
use Rattle.ur_machine.proofs.Steps.{hit_step, read_step}
use Rattle.ur_machine.specs.declared.stop.TurnStop.{TurnStop}
use Rattle.ur_machine.specs.declared.stop.TurnStop.TheVariants as stop
use Rattle.ur_machine.specs.Caching.{LeavesAnswers, HoldsAnswers}
use Rattle.ur_machine.specs.declared.turn.Turn.{Turn}
use Rattle.ur_machine.specs.Changing.{Makes, Made}
use Rattle.ur_machine.specs.StoreCalls.{OneStep, drew, wrote}
use Rattle.ur_machine.specs.declared.reached.Reached.{Reached}
use Rattle.ur_machine.specs.declared.reached.Reached.TheVariants as reached
use Rattle.ur_machine.specs.Reached.{HasReached}
use Rattle.ur_machine.specs.Ready.{AreReady}
use Rattle.ur_machine.specs.Reading.{IsKeyOf, FindsRows}
use Rattle.ur_machine.specs.Stops.{EndsCall, Leaves, Stays, WhileUnderWay}
use Rattle.ur_machine.proofs.Asking.{rows_answer, rows_typed}
use Rattle.ur_machine.proofs.Told.{where_told}

-- ---- scans

pub scanned_first : (n reads : ℕ) → scanned (suc n) reads ≡ scanned n (next_count reads)
scanned_first zero reads = refl
scanned_first (suc n) reads = ap next_count (scanned_first n reads)

pub scans_step : (A : Type 0) (item : A) (rest left : List A) (reads₀ reads₁ reads₂ all : ℕ) → left ≡ item ∷ rest → scanned (length left) reads₁ ≡ scanned all reads₀ → reads₂ ≡ next_count reads₁
    → scanned (length rest) reads₂ ≡ scanned all reads₀
scans_step A item rest left reads₀ reads₁ reads₂ all is so next =
    ap (scanned (length rest)) next ∙ sym (scanned_first (length rest) reads₁) ∙ sym (ap (λ l. scanned (length l) reads₁) is) ∙ so

pub scans_done : (n all reads₀ reads₁ : ℕ) → n ≡ 0 → scanned n reads₁ ≡ scanned all reads₀ → reads₁ ≡ scanned all reads₀
scans_done n all reads₀ reads₁ none so = ap (λ k. scanned k reads₁) (sym none) ∙ so

-- ---- keys

pub key_atoms : (key : List Value) (kinds : List ColumnKind) → FitKinds key kinds → AllByRecursion IsAtomic key
key_atoms [] ks f = tt
key_atoms (x ∷ xs) [] f = absurd f
key_atoms (x ∷ xs) (k ∷ ks) f = (fits_atomic x k f.0, key_atoms xs ks f.1)

pub are_atomic : (key : List Value) (kinds : List ColumnKind) → FitKinds key kinds → All IsAtomic key
are_atomic key kinds f = All-from_recursion IsAtomic key (key_atoms key kinds f)

-- ---- what is left of the cache

module _ (code : Code) where
  -- all of it
  pub leaves_all : {A : Type 0} (saved current : Option Tables) (old new : Cached) (r : Result A TurnStop) → AreSavedAnswers code saved new → AreCurrentAnswers code saved current new → new.capacity ≡ old.capacity
      → LeavesAnswers code saved current old new r
  leaves_all saved current old new r s n e = record { saved_ones = s; current_ones = go r; capacity = e }
    where
      go : {A : Type 0} (r : Result A TurnStop) → WhileUnderWay r (AreCurrentAnswers code saved current new)
      go (Ok x) = n
      go (Err (stop.Failed body)) = n
      go (Err stop.Spent) = n
      go (Err stop.Keeper) = tt
      go (Err stop.Undone) = tt
      go (Err stop.Memory) = tt

  -- of a call that gave a value
  pub leaves_ok : {A B : Type 0} (saved current : Option Tables) (old new : Cached) (x : A) (r : Result B TurnStop) → LeavesAnswers code saved current old new (Ok x) → LeavesAnswers code saved current old new r
  leaves_ok saved current old new x r l = leaves_all saved current old new r l.saved_ones l.current_ones l.capacity

  -- the stop of a call that gives another value
  pub leaves_stop : (A B : Type 0) (saved current : Option Tables) (old new : Cached) (e : TurnStop) → LeavesAnswers {A = A} code saved current old new (Err e) → LeavesAnswers {A = B} code saved current old new (Err e)
  leaves_stop A B saved current old new e l = record { saved_ones = l.saved_ones; current_ones = go A B e l.current_ones; capacity = l.capacity }
    where
      go : (A B : Type 0) (e : TurnStop) → WhileUnderWay {A = A} (Err e) (AreCurrentAnswers code saved current new) → WhileUnderWay {A = B} (Err e) (AreCurrentAnswers code saved current new)
      go A B (stop.Failed body) h = h
      go A B stop.Spent h = h
      go A B stop.Keeper h = tt
      go A B stop.Undone h = tt
      go A B stop.Memory h = tt

  -- where a call of the keeper stopped
  pub leaves_end : (A B : Type 0) (saved saved' current current' : Option Tables) (kept₀ kept' : KeptSchema) (under_way' : Bool) (old new : Cached) (e : TurnStop)
      → EndsCall {A = A} (Err e) saved saved' current' kept₀ kept' under_way' → AreSavedAnswers code saved new → new.capacity ≡ old.capacity → LeavesAnswers {A = B} code saved' current' old new (Err e)
  leaves_end A B saved saved' current current' kept₀ kept' under_way' old new e ends s c = record { saved_ones = go A e ends; current_ones = now A B e ends; capacity = c }
    where
      moved : saved' ≡ saved → AreSavedAnswers code saved' new
      moved is = subst (λ o. AreSavedAnswers code o new) (sym is) s

      go : (A : Type 0) (e : TurnStop) → EndsCall {A = A} (Err e) saved saved' current' kept₀ kept' under_way' → AreSavedAnswers code saved' new
      go A (stop.Failed body) h = absurd h
      go A stop.Spent h = absurd h
      go A stop.Keeper h = moved h.same_saved
      go A stop.Undone h = moved h.same_saved
      go A stop.Memory h = moved h.same_saved

      now : (A B : Type 0) (e : TurnStop) → EndsCall {A = A} (Err e) saved saved' current' kept₀ kept' under_way' → WhileUnderWay {A = B} (Err e) (AreCurrentAnswers code saved' current' new)
      now A B (stop.Failed body) h = absurd h
      now A B stop.Spent h = absurd h
      now A B stop.Keeper h = tt
      now A B stop.Undone h = tt
      now A B stop.Memory h = tt

  -- want of memory outside the keeper
  pub leaves_memory : {A : Type 0} (saved current : Option Tables) (old new : Cached) (e : TurnStop) → e ≡ stop.Memory → AreSavedAnswers code saved new → new.capacity ≡ old.capacity → LeavesAnswers {A = A} code saved current old new (Err e)
  leaves_memory {A = A} saved current old new e is s c = subst (λ z. LeavesAnswers {A = A} code saved current old new (Err z)) (sym is) (record { saved_ones = s; current_ones = tt; capacity = c })

  -- what holds of the error holds behind a `?`
  pub leaves_exit : {A : Type 0} (saved current : Option Tables) (old new : Cached) (r : Result A TurnStop) (e : TurnStop) → IsErrAnd r (λ y. y ≡ e) → LeavesAnswers {A = A} code saved current old new (Err e)
      → LeavesAnswers code saved current old new r
  leaves_exit {A = A} saved current old new (Ok x) e i l = absurd i
  leaves_exit {A = A} saved current old new (Err y) e i l = subst (λ z. LeavesAnswers {A = A} code saved current old new (Err z)) (sym i) l

  -- ---- a look-up, whether it finds an entry or not

  pub looked_kept : (saved current : Option Tables) (c : Cached) (site : ℕ) (key : List Value) → IsKeyOf code site key → AreSavedAnswers code saved c → AreCurrentAnswers code saved current c
      → AreAnswers code saved current (looked_up c site key)
  looked_kept saved current c site key is s n = go (hit c site key) refl
    where
      go : (o : Option Entry) → hit c site key ≡ o → AreAnswers code saved current (looked_up c site key)
      go None e = subst (λ o. AreAnswers code saved current (record c { entries = to_front o c.entries })) (sym e) (s, n)
      go (Some found) e = (kept_at_hit code saved current c site is.query key found is.is_site is.fits (s, n) e).1

  pub looked_missed : (c : Cached) (site : ℕ) (key : List Value) → hit c site key ≡ None → looked_up c site key ≡ c
  looked_missed c site key e = ap (λ o. record c { entries = to_front o c.entries }) e

-- ---- rows

-- nothing changes the capacity
pub kept_capacity : (c : Cached) (e : Entry) → (kept c e).capacity ≡ c.capacity
kept_capacity c e = go (is_masked c.masks e.site e.key || not (nat_le (entry_size e) most_size))
  where
    go : (b : Bool) → (cond b c (put c e)).capacity ≡ c.capacity
    go true = refl
    go false = refl

mapped_none : {A B : Type 0} (f : A → B) (o : Option A) → None ≡ option_map f o → o ≡ None
mapped_none f None e = refl
mapped_none f (Some a) e = cc

mapped_some : {A B : Type 0} (f : A → B) (o : Option A) (b : B) → Some b ≡ option_map f o → (a : A) × (o ≡ Some a) × (b ≡ f a)
mapped_some f None b e = cc
mapped_some f (Some a) b e = (a, refl, cc)

pub is_missed : (c : Cached) (site : ℕ) (key : List Value) → None ≡ option_map (λ e. e.rows) (hit c site key) → hit c site key ≡ None
is_missed c site key e = mapped_none (λ (x : Entry). x.rows) (hit c site key) e

module _ (code : Code) (patterns : Patterns) (site : ℕ) (key : List Value) (is : IsKeyOf code site key) (saved saved' current current' : Option Tables) (kept₀ kept' : KeptSchema) (under_way' : Bool) (reads reads' : ℕ) where
  abbrev Finds : Cached → Cached → Result (List Value) TurnStop → Type 0
  Finds c c' result = FindsRows code patterns site key saved saved' current current' kept₀ kept' under_way' c c' reads reads' result

  -- none, since a call stopped
  pub finds_stop : (A : Type 0) (c c' : Cached) (e : TurnStop) → EndsCall {A = A} (Err e) saved saved' current' kept₀ kept' under_way' → Finds c c' (Err e)
  finds_stop A c c' e ends = record { rows = tt; typed = tt; steps = tt; stays = tt; ends = go A (List Value) e ends }
    where
      go : (A B : Type 0) (e : TurnStop) → EndsCall {A = A} (Err e) saved saved' current' kept₀ kept' under_way' → EndsCall {A = B} (Err e) saved saved' current' kept₀ kept' under_way'
      go A B (stop.Failed body) h = h
      go A B stop.Spent h = h
      go A B stop.Keeper h = h
      go A B stop.Undone h = h
      go A B stop.Memory h = h

  pub finds_memory : (c c' : Cached) (e : TurnStop) → e ≡ stop.Memory → IsWithin saved saved' kept₀ kept' under_way' → Finds c c' (Err e)
  finds_memory c c' e m w = subst (λ z. Finds c c' (Err z)) (sym m) (record { rows = tt; typed = tt; steps = tt; stays = tt; ends = w })

  pub finds_exit : (c c' : Cached) (r : Result (List Value) TurnStop) (e : TurnStop) → IsErrAnd r (λ y. y ≡ e) → Finds c c' (Err e) → Finds c c' r
  finds_exit c c' (Ok x) e i f = absurd i
  finds_exit c c' (Err y) e i f = subst (λ z. Finds c c' (Err z)) (sym i) f

  -- those of an entry
  pub finds_hit : (c c' : Cached) (rows : List Value) → AreSavedAnswers code saved c → AreCurrentAnswers code saved current c → c' ≡ looked_up c site key → Some rows ≡ option_map (λ e. e.rows) (hit c site key)
      → current' ≡ current → reads' ≡ reads → IsWithin saved saved' kept₀ kept' under_way' → Finds c c' (Ok rows)
  finds_hit c c' rows s n moved found stays count w =
      let e = mapped_some (λ (x : Entry). x.rows) (hit c site key) rows found in
      let its = kept_at_hit code saved current c site is.query key e.0 is.is_site is.fits (s, n) e.1 in
      record {
        rows = go e.0 e.2 current its.0;
        typed = λ q at. recursion_from_All (λ row. IsOf code row (query_type q).1) rows
            (subst (All (λ row. IsOf code row (query_type q).1)) (sym e.2) (found_typed code c site q key e.0 at (subst (λ z. FitKinds key z.params) (same_query q at) is.fits) s.entries e.1));
        steps = (
          moved ∙ (hit_step code patterns c site key rows reads e.0 e.1).0,
          count ∙ (hit_step code patterns c site key rows reads e.0 e.1).1,
        );
        stays = stays;
        ends = w;
      }
    where
      same_query : (q : Query) → slice_get code.queries site ≡ Some q → is.query ≡ q
      same_query q at = same_some is.query q (sym is.is_site ∙ at)
        where
          same_some : (a b : Query) → Some a ≡ Some b → a ≡ b
          same_some a b e = cc

      go : (e : Entry) → rows ≡ e.rows → (o : Option Tables) → WhereTold o (λ t. e.rows ≡ site_answer code.queries site key (store_of t)) → WhereTold o (λ t. rows ≡ site_answer code.queries site key (store_of t))
      go e r None h = tt
      go e r (Some t) h = r ∙ h

  -- those that the tables give
  pub finds_read : (c c' : Cached) (rows : List Value) → hit c site key ≡ None → c' ≡ kept c (record { site = site; key = key; rows = rows }) → WhereTold current (λ t. rows ≡ site_answer code.queries site key (store_of t))
      → AllByRecursion (λ row. IsOf code row (query_type is.query).1) rows → current' ≡ current → reads' ≡ scanned (length is.query.from) reads → IsWithin saved saved' kept₀ kept' under_way' → Finds c c' (Ok rows)
  finds_read c c' rows missed moved told typed stays count w = record {
    rows = told;
    typed = λ q at. subst (λ z. AllByRecursion (λ row. IsOf code row (query_type z).1) rows) (same_some is.query q (sym is.is_site ∙ at)) typed;
    steps = (
      moved ∙ (read_step code patterns c site key rows reads is.query is.is_site missed).0,
      count ∙ (read_step code patterns c site key rows reads is.query is.is_site missed).1,
    );
    stays = stays;
    ends = w;
  }
    where
      same_some : (a b : Query) → Some a ≡ Some b → a ≡ b
      same_some a b e = cc

  -- what the read leaves of the cache
  pub read_leaves : (c c' : Cached) (rows : List Value) → AreSavedAnswers code saved c → AreCurrentAnswers code saved current c → c' ≡ kept c (record { site = site; key = key; rows = rows })
      → WhereTold current (λ t. rows ≡ site_answer code.queries site key (store_of t)) → AllByRecursion (λ row. IsOf code row (query_type is.query).1) rows → saved' ≡ saved → current' ≡ current
      → LeavesAnswers {A = List Value} code saved' current' c c' (Ok rows)
  read_leaves c c' rows s n moved told typed same stays =
      let k = kept_at_read code saved current c site is.query key rows is.is_site is.fits (s, n) told typed in
      let new = kept c (record { site = site; key = key; rows = rows }) in
      subst (λ z. LeavesAnswers code saved' current' c z (Ok rows)) (sym moved)
      (subst (λ o. LeavesAnswers code o current' c new (Ok rows)) (sym same)
      (subst (λ o. LeavesAnswers code saved o c new (Ok rows)) (sym stays)
      (leaves_all code saved current c new (Ok rows) k.0 k.1 (kept_capacity c (record { site = site; key = key; rows = rows })))))

-- ---- over slices that are these lists

pub fits_at : (code : Code) (site : ℕ) (key : List Value) → IsKeyOf code site key → (q : Query) → slice_get code.queries site ≡ Some q → FitKinds key q.params
fits_at code site key is q at = subst (λ z. FitKinds key z.params) (same_some is.query q (sym is.is_site ∙ at)) is.fits
  where
    same_some : (a b : Query) → Some a ≡ Some b → a ≡ b
    same_some a b e = cc

abbrev pub key_with : (code : Code) (site : ℕ) (key : List Value) → IsKeyOf code site key → (q : Query) → slice_get code.queries site ≡ Some q → IsKeyOf code site key
key_with code site key is q at = record { query = q; is_site = at; fits = fits_at code site key is q at }

pub read_told : (code : Code) (site : ℕ) (q : Query) → slice_get code.queries site ≡ Some q → (key : List Value) (items : List Item) → items ≡ q.from → (rows : List Value) (tables tables' : List (List Numbered))
    → rows ≡ answer_over q key (map rows_of tables') → tables' ≡ tables → (current : Option Tables) → WhereTold current (λ t. tables ≡ map (λ item. table_at t item.table) items)
    → WhereTold current (λ t. rows ≡ site_answer code.queries site key (store_of t))
read_told code site q at key items from rows tables tables' is same current told =
    where_told current _ _ told (λ t e f. is ∙ ap (λ ts. answer_over q key (map rows_of ts)) same
    ∙ rows_answer code site q at key t tables (subst (λ is. tables ≡ map (λ (item : Item). table_at t item.table) is) from f))

pub read_typed : (code : Code) → Fits code → (site : ℕ) (q : Query) → slice_get code.queries site ≡ Some q → (key : List Value) → FitKinds key q.params → (items : List Item) → items ≡ q.from
    → (rows : List Value) (tables tables' : List (List Numbered)) → rows ≡ answer_over q key (map rows_of tables') → tables' ≡ tables → (kept : KeptSchema) → kept ≡ Keeps code.schema
    → AllZip (λ item rows. OfShape kept item.table (λ shape. AreRowsOf shape rows)) items tables → AllByRecursion (λ row. IsOf code row (query_type q).1) rows
read_typed code fits site q at key key_fits items from rows tables tables' is same kept is_kept forms =
    subst (AllByRecursion (λ row. IsOf code row (query_type q).1)) (sym (is ∙ ap (λ ts. answer_over q key (map rows_of ts)) same))
    (rows_typed code fits site q at key key_fits kept is_kept tables
    (subst (λ is. AllZip (λ (item : Item) (rows : List Numbered). OfShape kept item.table (λ shape. AreRowsOf shape rows)) is tables) from forms))

pub kept_at_key : (c c' : Cached) (site : ℕ) (key' key rows : List Value) → key' ≡ key → c' ≡ kept c (record { site = site; key = key'; rows = rows }) → c' ≡ kept c (record { site = site; key = key; rows = rows })
kept_at_key c c' site key' key rows same moved = subst (λ k. c' ≡ kept c (record { site = site; key = k; rows = rows })) same moved

pub looked_at_key : (c c' : Cached) (site : ℕ) (key' key : List Value) → key' ≡ key → c' ≡ looked_up c site key' → c' ≡ looked_up c site key
looked_at_key c c' site key' key same moved = subst (λ k. c' ≡ looked_up c site k) same moved

pub held_at_key : (c : Cached) (site : ℕ) (key' key rows : List Value) (held : Option (List Value)) → key' ≡ key → held ≡ option_map (λ e. e.rows) (hit c site key') → held ≡ Some rows
    → Some rows ≡ option_map (λ e. e.rows) (hit c site key)
held_at_key c site key' key rows held same is some = sym some ∙ is ∙ ap (λ k. option_map (λ (e : Entry). e.rows) (hit c site k)) same

-- a look-up leaves all of the cache
pub looked_leaves : {A : Type 0} (code : Code) (saved current : Option Tables) (c c' : Cached) (site : ℕ) (key : List Value) (r : Result A TurnStop) → IsKeyOf code site key → AreSavedAnswers code saved c
    → AreCurrentAnswers code saved current c → c' ≡ looked_up c site key → LeavesAnswers code saved current c c' r
looked_leaves code saved current c c' site key r is s n moved =
    let k = looked_kept code saved current c site key is s n in
    subst (λ z. LeavesAnswers code saved current c z r) (sym moved) (leaves_all code saved current c (looked_up c site key) r k.0 k.1 refl)

-- ---- steps

-- nothing was asked or changed
pub no_step : (code : Code) (sites : Sites) (c c' : Cached) (reads reads' : ℕ) (reached : Reached) → c' ≡ c → reads' ≡ reads → HasReached code reached [] → OneStep code sites c c' reads reads' reached []
no_step code sites c c' reads reads' reached e f h = (drew, (e, f), h)

pub none_reached : (code : Code) (r : Reached) → r ≡ reached.Nothing → HasReached code r []
none_reached code r e = subst (λ z. HasReached code z []) (sym e) refl

pub finds_at_key : (code : Code) (patterns : Patterns) (site : ℕ) (key' key : List Value) (saved saved' current current' : Option Tables) (kept₀ kept' : KeptSchema) (under_way' : Bool) (c c' : Cached) (reads reads' : ℕ)
    (result : Result (List Value) TurnStop) → key' ≡ key → FindsRows code patterns site key' saved saved' current current' kept₀ kept' under_way' c c' reads reads' result
    → FindsRows code patterns site key saved saved' current current' kept₀ kept' under_way' c c' reads reads' result
finds_at_key code patterns site key' key saved saved' current current' kept₀ kept' under_way' c c' reads reads' result e f =
    subst (λ k. FindsRows code patterns site k saved saved' current current' kept₀ kept' under_way' c c' reads reads' result) e f

-- ---- changes

pub while_all : (P : Type 0) (r : Result Value TurnStop) → P → WhileUnderWay r P
while_all P (Ok x) p = p
while_all P (Err (stop.Failed body)) p = p
while_all P (Err stop.Spent) p = p
while_all P (Err stop.Keeper) p = tt
while_all P (Err stop.Undone) p = tt
while_all P (Err stop.Memory) p = tt

module _ (code : Code) (patterns : Patterns) (update : ℕ) (args : List Value) where
  abbrev pub its_masks : List KeyMask
  its_masks = update_masks args (slice_index_or patterns.updates update [])

  pub write_step : (c c' : Cached) (reads reads' : ℕ) (r : Result Value TurnStop) → c' ≡ masked c its_masks → reads' ≡ next_count reads → WhileUnderWay r (OneStep code (sites_of code patterns) c c' reads reads' (reached.Change update) (Write update args ∷ []))
  write_step c c' reads reads' r e f = while_all _ r (wrote update args, (e, f), (args, refl))

  -- the masks of the update may be asked for
  module _ (are : ArePatternsOf code patterns) (u : Change) (at : slice_get code.changes update ≡ Some u) (fits : FitKinds args u.params) where
    its_lists : (lists : List (List Pattern)) × (slice_get patterns.updates update ≡ Some lists) × All (All (PatternReads (length u.params))) lists
    its_lists = zip_at (λ (v : Change) lists. All (All (PatternReads (length v.params))) lists) code.changes patterns.updates update u are.reads at

    long : (xs : List Value) (ks : List ColumnKind) → FitKinds xs ks → length ks ≡ length xs
    long [] [] h = refl
    long [] (k ∷ ks) h = absurd h
    long (x ∷ xs) [] h = absurd h
    long (x ∷ xs) (k ∷ ks) h = ap suc (long xs ks h.1)

    pub masks_read : All (All (PatternReads (length args))) (slice_index_or patterns.updates update [])
    masks_read =
        subst (λ n. All (All (PatternReads n)) (slice_index_or patterns.updates update [])) (long args u.params fits)
        (subst (All (All (PatternReads (length u.params)))) (sym (got patterns.updates update [] its_lists.0 its_lists.1)) its_lists.2)

    pub masks_there : update < length patterns.updates
    masks_there = below patterns.updates update its_lists.0 its_lists.1
      where
        below : (xs : List (List (List Pattern))) (n : ℕ) (y : List (List Pattern)) → slice_get xs n ≡ Some y → n < length xs
        below [] n y e = cc
        below (x ∷ xs) zero y e = omega arith
        below (x ∷ xs) (suc n) y e = let h = below xs n y e in omega (arith, h)

    -- what a change leaves of the cache
    pub write_leaves : (units : ℕ) (saved saved' current current' : Option Tables) (kept₀ kept' : KeptSchema) (under_way' : Bool) (c c' : Cached) (result : Result Value TurnStop) → WhereTold current (AreReady code.schema units)
        → AreSavedAnswers code saved c → AreCurrentAnswers code saved current c → c' ≡ masked c its_masks → Made code.schema u args saved saved' current current' kept₀ kept' under_way' result
        → LeavesAnswers code saved' current' c c' result
    write_leaves units saved saved' current current' kept₀ kept' under_way' c c' result ready s n moved made =
        subst (λ z. LeavesAnswers code saved' current' c z result) (sym moved) (go result made.leaves made.makes made.stays made.untold)
      where
        after : Cached
        after = masked c its_masks

        masks_only : AreAnswers code saved current after
        masks_only = with_masks code saved current c its_masks (s, n)

        moved_saved : (o : Option Tables) → o ≡ saved → AreSavedAnswers code o after
        moved_saved o e = subst (λ z. AreSavedAnswers code z after) (sym e) masks_only.0

        moved_current : (o p : Option Tables) → o ≡ saved → p ≡ current → AreCurrentAnswers code o p after
        moved_current o p e f = subst (λ z. AreCurrentAnswers code z p after) (sym e) (subst (λ z. AreCurrentAnswers code saved z after) (sym f) masks_only.1)

        changed_to : (x : Value) (o p : Option Tables) → WhereTold o (AreReady code.schema units) → AreCurrentAnswers code saved o c → WhereTold o (λ t. Makes code.schema u args (store_of t) p (Ok x)) → (o ≡ None → p ≡ None)
            → AreCurrentAnswers code saved p after
        changed_to x None p r k m w = subst (λ z. AreCurrentAnswers code saved z after) (sym (w refl)) (with_masks code saved None c its_masks (s, k)).1
        changed_to x (Some t) p r k (t', e, is, makes, small) w = subst (λ z. AreCurrentAnswers code saved z after) (sym e) (kept_at_change code patterns are saved t t' c update u args at fits r.fits (s, k) makes).1

        go : (r : Result Value TurnStop) → Leaves r saved saved' current' kept₀ kept' under_way' → WhereTold current (λ t. Makes code.schema u args (store_of t) current' r) → Stays r current current' → OnOk r (current ≡ None → current' ≡ None)
            → LeavesAnswers code saved' current' c after r
        go (Ok x) l m y w = record {
          saved_ones = moved_saved saved' l.same_saved;
          current_ones = subst (λ z. AreCurrentAnswers code z current' after) (sym l.same_saved) (changed_to x current current' ready n m w);
          capacity = refl;
        }
        go (Err (stop.Failed body)) l m y w = record { saved_ones = moved_saved saved' l.same_saved; current_ones = moved_current saved' current' l.same_saved y; capacity = refl }
        go (Err stop.Spent) l m y w = record { saved_ones = moved_saved saved' l.same_saved; current_ones = moved_current saved' current' l.same_saved y; capacity = refl }
        go (Err stop.Keeper) l m y w = record { saved_ones = moved_saved saved' l.same_saved; current_ones = tt; capacity = refl }
        go (Err stop.Undone) l m y w = record { saved_ones = moved_saved saved' l.same_saved; current_ones = tt; capacity = refl }
        go (Err stop.Memory) l m y w = record { saved_ones = moved_saved saved' l.same_saved; current_ones = tt; capacity = refl }

pub masks_at_args : (c c' : Cached) (args' args : List Value) (lists : List (List Pattern)) → args' ≡ args → c' ≡ masked c (update_masks args' lists) → c' ≡ masked c (update_masks args lists)
masks_at_args c c' args' args lists same e = subst (λ xs. c' ≡ masked c (update_masks xs lists)) same e

-- ---- draws

pub draw_leaves : (code : Code) (q : ℕ) (saved saved' current current' : Option Tables) (c : Cached) (x : Value) → AreSavedAnswers code saved c → AreCurrentAnswers code saved current c → saved' ≡ saved
    → current' ≡ option_map (drawn q) current → LeavesAnswers code saved' current' c c (Ok x)
draw_leaves code q saved saved' current current' c x s n same moved =
    let k = kept_at_draw code saved current c q (s, n) in
    subst (λ o. LeavesAnswers code o current' c c (Ok x)) (sym same) (subst (λ o. LeavesAnswers code saved o c c (Ok x)) (sym moved) (leaves_all code saved (option_map (drawn q) current) c c (Ok x) k.0 k.1 refl))

-- ---- a whole turn

pub holds_ok : {A : Type 0} (code : Code) (saved current : Option Tables) (old new : Cached) (x : A) → LeavesAnswers code saved current old new (Ok x) → HoldsAnswers code saved current old new
holds_ok code saved current old new x l = record { saved_ones = l.saved_ones; current_ones = l.current_ones; capacity = l.capacity }

-- where a page of an error is made of the stop
pub holds_stop : (code : Code) (saved current : Option Tables) (old new : Cached) (e f : TurnStop) → e ≡ f → WhileUnderWay {A = Turn} (Err f) ⊥ ≡ ⊥ → LeavesAnswers {A = Turn} code saved current old new (Err e) → HoldsAnswers code saved current old new
holds_stop code saved current old new e f is goes l = record { saved_ones = l.saved_ones; current_ones = go f goes (subst (λ z. WhileUnderWay {A = Turn} (Err z) (AreCurrentAnswers code saved current new)) is l.current_ones); capacity = l.capacity }
  where
    go : (f : TurnStop) → WhileUnderWay {A = Turn} (Err f) ⊥ ≡ ⊥ → WhileUnderWay {A = Turn} (Err f) (AreCurrentAnswers code saved current new) → AreCurrentAnswers code saved current new
    go (stop.Failed body) g h = h
    go stop.Spent g h = h
    go stop.Keeper g h = absurd (subst (λ (T : Type 0). T) g tt)
    go stop.Undone g h = absurd (subst (λ (T : Type 0). T) g tt)
    go stop.Memory g h = absurd (subst (λ (T : Type 0). T) g tt)

-- the current tables are the saved ones again
pub holds_undone : (code : Code) (saved₁ saved' current₁ current' : Option Tables) (old new : Cached) (r : Result Turn TurnStop) → LeavesAnswers code saved₁ current₁ old new r → saved' ≡ saved₁ → current' ≡ saved₁ → HoldsAnswers code saved' current' old new
holds_undone code saved₁ saved' current₁ current' old new r l same rest =
    subst (λ o. HoldsAnswers code o current' old new) (sym same) (subst (λ o. HoldsAnswers code saved₁ o old new) (sym rest) (record { saved_ones = l.saved_ones; current_ones = kept_at_begin code saved₁ new l.saved_ones; capacity = l.capacity }))

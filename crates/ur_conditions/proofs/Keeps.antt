-- The law of sound invalidation: where no mask of an update matches a key, the answer at the key stays.
use Rattle.std.proofs.Common.{◌≡◌, ◌≢◌, ℕ, zero, suc, ◌+◌, ◌<◌, ◌≤◌, ◌⊎◌, Bool, true, false, cond, ◌&&◌, inl, inr, ⊎_elim, List, [], ◌∷◌, ◌++◌, map, flat_map, length, refl, sym, ap, ◌∙◌, subst, get_or, slice_get, slice_set, filter, filter_map, Option, Some, None, option_to_list, IfSome, ◌==◌, eqb-true, eq-eqb, arith, All, MatchBool, nat_lt, nat_le, true≢false, get_or-set_same, get_or-set_other}
use Rattle.std.specs.List.{list_any, list_all, AllZip, AllByRecursion, range_with_len, enumerate_from}
use Rattle.std.proofs.lemmas.Bool.{and_from, and_parts, false_from_ne_true, eqb-false}
use Rattle.std.proofs.lemmas.List.Elements.{All-contains, recursion_from_All}
use Rattle.ur_values.specs.declared.value.Value.{Value}
use Rattle.ur_values.specs.declared.value.Value.TheVariants as v
use Rattle.ur_values.specs.declared.schema.ColumnKind.{ColumnKind}
use Rattle.ur_values.specs.declared.schema.ColumnKind.TheVariants as kind
use Rattle.ur_values.specs.declared.schema.TableShape.{TableShape}
use Rattle.ur_values.specs.declared.schema.Schema.{Schema}
use Rattle.ur_values.specs.Store.{Row, Store, rows_at, kinds_of, FitKinds, FitsShape, FitsSchema}
use Rattle.ur_values.specs.Keys.{repeated_key, most_rows}
use Rattle.ur_sql.specs.declared.scalar.Scalar.{Scalar}
use Rattle.ur_sql.specs.declared.term.SqlTerm.TheVariants as t
use Rattle.ur_sql.specs.declared.query.Query.{Query}
use Rattle.ur_sql.specs.declared.query.Item.{Item}
use Rattle.ur_sql.specs.declared.change.Change.{Change}
use Rattle.ur_sql.specs.declared.change.Action.{Action}
use Rattle.ur_sql.specs.declared.pattern.Pattern.{Pattern}
use Rattle.ur_sql.specs.declared.pattern.KeyAt.TheVariants as key
use Rattle.ur_sql.specs.Answer.{Combination, combinations, meets, answer, answer_over, groups, group_cmp, stable_sort, limit_by, offset_by, field_of}
use Rattle.ur_sql.specs.Change.{Changed, After, DuplicateKey, TableFull, change, change_rows, changed_map, unless_repeated, rows_after, keys_at, is_insert}
use Rattle.ur_sql.specs.Scalar.{value_of, holds, holds_if_any, is_true}
use Rattle.ur_sql.specs.Typing.{HasKind, kinds_in, QueryFits, ChangeFits, IsTyped}
use Rattle.ur_cacheindex.specs.Matching.{matches, key_matches}
use Rattle.ur_conditions.specs.declared.disjunct.Disjunct.{Disjunct}
use Rattle.ur_conditions.specs.declared.disjunct.Case.{Case}
use Rattle.ur_conditions.specs.declared.side.Side.TheVariants.{AtItems}
use Rattle.ur_conditions.specs.Disjuncts.{Equation, query_disjuncts, change_cases}
use Rattle.ur_conditions.specs.declared.pair.Pair.{Pair}
use Rattle.ur_conditions.specs.Pairs.{pair_of, pairs_of, touched, touched_items, item_columns}
use Rattle.ur_conditions.specs.Used.{uses, sees, is_touched}
use Rattle.ur_conditions.specs.Patterns.{IsPatternOf, pattern_eq, most_pairs, any_key, AreRead, ArePatterns}
use Rattle.ur_conditions.specs.Masks.{guard_holds, fixed_at, mask_of, masks_of}
use Rattle.ur_conditions.proofs.Valuation.{Valuation, term_value}
use Rattle.ur_conditions.specs.Law.{KeepsAnswers}
use Rattle.ur_sql.proofs.Members.{In, contains_from_in, in_append_back, in_map, in_map_back, in_flat_map, in_filter_map, in_from_filter, any_from, all_in}
use Rattle.ur_conditions.proofs.Matching.{Edits, done, keep, lose, gain, AreEdited, none, one, AllFit, HasTouched, here, there, same_matching}
use Rattle.ur_conditions.proofs.Values.{IsPlain, fits_plain}
use Rattle.ur_sql.proofs.Typed.{fit_length}
use Rattle.ur_conditions.proofs.Sound.{SomeHolds, Agrees, all_by_in}
use Rattle.ur_conditions.proofs.Edited.{valuation, MeetsCase, conjoined_hold, edits_of}
use Rattle.ur_conditions.proofs.Fires.{PairHolds, Fires, pair_fires}
use Rattle.ur_conditions.proofs.Equal.{first_has, fires_back}
use Rattle.ur_conditions.proofs.Unused.{RowsAlike, TablesAlike, answer_alike}
use Rattle.ur_sql.specs.declared.change.Action.TheVariants as action
use Rattle.ur_sql.specs.Change.{assigned, new_value, chosen, updated_row}
use Rattle.ur_sql.proofs.NewRows.{Sets, assigned_from, updated_cell, length-updated}
use Rattle.std.proofs.lemmas.Bool.{cases_lt}

-- ---- plain arguments and keys

plain_at : (xs : List Value) (ks : List ColumnKind) → FitKinds xs ks → (n : ℕ) → IsPlain (get_or xs n v.Absent)
plain_at [] ks fit n = tt
plain_at (x ∷ xs) [] fit n = absurd fit
plain_at (x ∷ xs) (k ∷ ks) fit zero = fits_plain x k (fit.0)
plain_at (x ∷ xs) (k ∷ ks) fit (suc n) = plain_at xs ks (fit.1) n

plain_all : (xs : List Value) (ks : List ColumnKind) → FitKinds xs ks → AllByRecursion IsPlain xs
plain_all [] ks fit = tt
plain_all (x ∷ xs) [] fit = absurd fit
plain_all (x ∷ xs) (k ∷ ks) fit = (fits_plain x k (fit.0), plain_all xs ks (fit.1))

-- ---- a pattern of the list fires where its pair holds

-- some pattern of the list fires
abbrev SomeFires : List Value → ℕ → List Value → List Pattern → Type 0
SomeFires args site key patterns = (pattern : Pattern) × In pattern patterns × Fires args site key pattern

beside : {X Y : Type 0} (R : X → Y → Type 0) (xs : List X) (ys : List Y) (x : X) → AllZip R xs ys → In x xs → (y : Y) × In y ys × R x y
beside R [] ys x z i = absurd i
beside R (w ∷ xs) [] x z i = absurd z
beside {X} {Y} R (w ∷ xs) (y ∷ ys) x z (inl e) = (y, inl refl, subst (λ u. R u y) e (z.0))
beside R (w ∷ xs) (y ∷ ys) x z (inr i) = let r = beside R xs ys x (z.1) i in (r.0, inr (r.1), r.2)

-- the pattern for any key
any_matches : {K : Type 0} (args : List Value) (kinds : List K) (xs : List Value) → length xs ≡ length kinds → key_matches (map (fixed_at args) (map (λ k. key.Any) kinds)) xs ≡ true
any_matches args [] [] e = refl
any_matches args [] (x ∷ xs) e = absurd (omega arith)
any_matches args (k ∷ ks) [] e = absurd (omega arith)
any_matches args (k ∷ ks) (x ∷ xs) e = any_matches args ks xs (omega arith)

some_fires : (site : ℕ) (q : Query) (u : Change) (patterns : List Pattern) → ArePatterns site q u patterns
    → (args keys : List Value) → FitKinds args u.params → FitKinds keys q.params
    → (p : Pair) → In p (pairs_of q u) → (w : Valuation) → PairHolds p w args keys → SomeFires args site keys patterns
some_fires site q u patterns are args keys args_fit keys_fit p member w holds_so = go (nat_lt most_pairs (length (pairs_of q u))) are
  where
    go : (b : Bool) → MatchBool b (patterns ≡ any_key site q ∷ []) (AreRead site (pairs_of q u) patterns) → SomeFires args site keys patterns
    go true e = (
      any_key site q,
      subst (In (any_key site q)) (sym e) (inl refl),
      record { guards = refl; at_site = eq-eqb site site refl; at_key = any_matches args q.params keys (fit_length keys q.params keys_fit) },
    )
    go false read =
        let found = beside (IsPatternOf site) (pairs_of q u) read.each p read.of_pairs member in
        let its = found.2 in
        let fired = pair_fires p w args keys holds_so its.same its.tells site in
        let listed : In (fired.0) (filter_map (λ p. p) read.each) = in_filter_map (λ p. p) read.each (found.0) (fired.0) (found.1) (its.read_off ∙ fired.1) in
        let first = first_has pattern_eq (Fires args site keys) (fires_back args (plain_at args u.params args_fit) site keys (plain_all keys q.params keys_fit)) (filter_map (λ p. p) read.each) (fired.0) listed (fired.2) in
        (first.0, subst (In (first.0)) (sym read.once) (first.1), first.2)

-- so some mask matches
mask_matches : (site : ℕ) (patterns : List Pattern) (args keys : List Value) → SomeFires args site keys patterns → list_any (λ m. matches m site keys) (masks_of args patterns) ≡ true
mask_matches site patterns args keys fires =
    any_from (λ m. matches m site keys) (masks_of args patterns) (mask_of args (fires.0))
    (in_map (mask_of args) (filter (λ p. list_all (guard_holds args) p.guards) patterns) (fires.0)
    (in_from_filter (λ p. list_all (guard_holds args) p.guards) patterns (fires.0) (fires.1) (fires.2).guards))
    (and_from ((fires.0).site == site) (key_matches (map (fixed_at args) (fires.0).keys) keys) (fires.2).at_site (fires.2).at_key)

-- ---- a touched combination that matches

module _ (q : Query) (u : Change) (args : List Value) where
  abbrev Fits : ℕ × Item → Row → Type 0
  Fits item row = FitKinds row (item.1).columns

  abbrev Touched : ℕ × Item → Row → Type 0
  Touched item row = (is_touched q u item ≡ true) × MeetsCase (change_cases u) args row

  -- an item whose row is touched, with its place
  pub record TouchedAt (items : List (ℕ × Item)) (c : Combination) : Type 0 where
    pub place : ℕ
    pub item : ℕ × Item
    pub there : slice_get items place ≡ Some item
    pub sees : is_touched q u item ≡ true
    pub meets : MeetsCase (change_cases u) args (get_or c place [])

  touched_at : (items : List (ℕ × Item)) (c : Combination) → HasTouched Fits Touched items c → TouchedAt items c
  touched_at items c (here item items' row c' fit touched fits) = record { place = 0; item = item; there = refl; sees = touched.0; meets = touched.1 }
  touched_at items c (there item items' row c' fit rest) =
      let r = touched_at items' c' rest in
      record { place = suc r.place; item = r.item; there = r.there; sees = r.sees; meets = r.meets }

  all_fit : (items : List (ℕ × Item)) (c : Combination) → HasTouched Fits Touched items c → AllZip FitKinds c (map (λ item. item.1.columns) items)
  all_fit items c (here item items' row c' fit touched fits) = (fit, go items' c' fits)
    where
      go : (is : List (ℕ × Item)) (d : Combination) → AllFit Fits Touched is d → AllZip FitKinds d (map (λ item. item.1.columns) is)
      go [] [] f = tt
      go [] (r ∷ d) f = absurd f
      go (i ∷ is) [] f = absurd f
      go (i ∷ is) (r ∷ d) f = (f.0, go is d (f.1))
  all_fit items c (there item items' row c' fit rest) = (fit, all_fit items' c' rest)

-- the items of FROM with their numbers
numbered : (n : ℕ) (items : List Item) (i : ℕ) (p : ℕ × Item) → slice_get (enumerate_from n items) i ≡ Some p → (p.0 ≡ n + i) × In p (enumerate_from n items)
numbered n [] i p e = cc
numbered n (x ∷ xs) zero p e = let same : (n, x) ≡ p = cc in (let z : n ≡ p.0 = ap (λ (w : ℕ × Item). w.0) same in omega (arith, z), inl same)
numbered n (x ∷ xs) (suc i) p e = let r = numbered (n + 1) xs i p e in (let z = r.0 in omega (arith, z), inr (r.1))

numbered_columns : (n : ℕ) (items : List Item) → map (λ (p : ℕ × Item). p.1.columns) (enumerate_from n items) ≡ map (λ (item : Item). item.columns) items
numbered_columns n [] = refl
numbered_columns n (x ∷ xs) = ap (λ (cs : List (List ColumnKind)). x.columns ∷ cs) (numbered_columns (n + 1) xs)

-- so its number is among those of the pairs
touched_number : (q : Query) (u : Change) (i : ℕ) (p : ℕ × Item) → slice_get (enumerate_from 0 q.from) i ≡ Some p → is_touched q u p ≡ true → In i (touched_items q u)
touched_number q u i p at is =
    let r = numbered 0 q.from i p at in
    subst (λ n. In n (touched_items q u)) (let z = r.0 in let w : p.0 ≡ i = omega (arith, z) in w)
    (in_flat_map (touched q u) (enumerate_from 0 q.from) p (p.0) (r.1) (subst (λ b. In (p.0) (cond b (p.0 ∷ []) [])) (sym is) (inl refl)))

in_pairs : (q : Query) (u : Change) (item : ℕ) (case : Case) (d e : Disjunct) → In item (touched_items q u) → In case (change_cases u) → In d (query_disjuncts q) → In e case.disjuncts
    → In (pair_of q u item d e) (pairs_of q u)
in_pairs q u item case d e ii ic id ie =
    in_flat_map (λ i. flat_map (λ (k : Case). flat_map (λ d. map (pair_of q u i d) k.disjuncts) (query_disjuncts q)) (change_cases u)) (touched_items q u) item (pair_of q u item d e) ii
    (in_flat_map (λ (k : Case). flat_map (λ d. map (pair_of q u item d) k.disjuncts) (query_disjuncts q)) (change_cases u) case (pair_of q u item d e) ic
    (in_flat_map (λ d. map (pair_of q u item d) case.disjuncts) (query_disjuncts q) d (pair_of q u item d e) id
    (in_map (pair_of q u item d) case.disjuncts e ie)))

module _ (q : Query) (u : Change) (typed : IsTyped q) (args keys : List Value) (keys_fit : FitKinds keys q.params) where
  -- the query's conditions, each typed and TRUE
  conditions : (c : Combination) → meets q keys c ≡ true → (e : Scalar) → In e (q.on ++ option_to_list q.filter)
      → HasKind (kinds_in q) e kind.Bool × (is_true (value_of keys c e) ≡ true)
  conditions c met e i = ⊎_elim on (where' q.filter typed.filter (parts.1)) (in_append_back q.on (option_to_list q.filter) e i)
    where
      parts : (list_all (holds keys c) q.on ≡ true) × (holds_if_any keys c q.filter ≡ true)
      parts = and_parts (list_all (holds keys c) q.on) (holds_if_any keys c q.filter) met

      on : In e q.on → HasKind (kinds_in q) e kind.Bool × (is_true (value_of keys c e) ≡ true)
      on j = (All-contains (λ a. HasKind (kinds_in q) a kind.Bool) q.on e typed.on (contains_from_in q.on e j), all_in (holds keys c) q.on e (parts.0) j)

      where' : (o : Option Scalar) → IfSome o (λ a. HasKind (kinds_in q) a kind.Bool) → holds_if_any keys c o ≡ true → In e (option_to_list o)
          → HasKind (kinds_in q) e kind.Bool × (is_true (value_of keys c e) ≡ true)
      where' None h m j = absurd j
      where' (Some a) h m (inl same) = subst (λ b. HasKind (kinds_in q) b kind.Bool × (is_true (value_of keys c b) ≡ true)) same (h, m)
      where' (Some a) h m (inr j) = absurd j

  agrees_items : (c : Combination) (row old : Row) → AllZip FitKinds c (map (λ item. item.columns) q.from)
      → Agrees (valuation c keys row old args) AtItems (kinds_in q) keys c
  unfolding term_value
  agrees_items c row old fit = record { column = λ i n k e. refl; param = λ n. refl; params_fit = keys_fit; rows_fit = fit }

  -- A matching combination with a touched row meets all that some pair says.
  pub pair_met : (c : Combination) → HasTouched (Fits q u args) (Touched q u args) (enumerate_from 0 q.from) c → meets q keys c ≡ true
      → (p : Pair) × In p (pairs_of q u) × (w : Valuation) × PairHolds p w args keys
  unfolding term_value
  pair_met c touched met = (
    pair_of q u (at.0) (d.0) (e.0),
    in_pairs q u (at.0) case.case (d.0) (e.0) (at.1) case.member (d.1) (e.1),
    w,
    record { arg = λ n. refl; key = λ n. refl; key_count = fit_length keys q.params keys_fit; equations = equations; disequations = disequations },
  )
    where
      at : (i : ℕ) × In i (touched_items q u) × MeetsCase (change_cases u) args (get_or c i [])
      at = let r = touched_at q u args (enumerate_from 0 q.from) c touched in (r.place, touched_number q u r.place r.item r.there r.sees, r.meets)

      case : MeetsCase (change_cases u) args (get_or c (at.0) [])
      case = at.2

      w : Valuation
      w = valuation c keys (get_or c (at.0) []) case.old args

      d : SomeHolds w (query_disjuncts q)
      d = conjoined_hold w AtItems (kinds_in q) keys c (agrees_items c (get_or c (at.0) []) case.old (subst (AllZip FitKinds c) (numbered_columns 0 q.from) (all_fit q u args (enumerate_from 0 q.from) c touched))) (q.on ++ option_to_list q.filter) (conditions c met)

      e : SomeHolds w case.case.disjuncts
      e = case.met c keys

      columns : (x : Equation) → In x (item_columns (at.0) (length u.columns)) → term_value w (x.0) ≡ term_value w (x.1)
      columns x i = let r = in_map_back (λ n. (t.Item (at.0) n, t.Row n)) (range_with_len 0 (length u.columns)) x i in subst (λ (y : Equation). term_value w (y.0) ≡ term_value w (y.1)) (r.2) refl

      equations : (x : Equation) → In x ((d.0).equations ++ (e.0).equations ++ item_columns (at.0) (length u.columns)) → term_value w (x.0) ≡ term_value w (x.1)
      equations x i =
          ⊎_elim (λ j. ⊎_elim (all_by_in (λ y. term_value w (y.0) ≡ term_value w (y.1)) (d.0).equations x (d.2).equations) (all_by_in (λ y. term_value w (y.0) ≡ term_value w (y.1)) (e.0).equations x (e.2).equations) (in_append_back (d.0).equations (e.0).equations x j))
          (columns x) (in_append_back ((d.0).equations ++ (e.0).equations) (item_columns (at.0) (length u.columns)) x i)

      disequations : (x : Equation) → In x ((d.0).disequations ++ (e.0).disequations) → term_value w (x.0) ≢ term_value w (x.1)
      disequations x i =
          ⊎_elim (all_by_in (λ y. term_value w (y.0) ≢ term_value w (y.1)) (d.0).disequations x (d.2).disequations) (all_by_in (λ y. term_value w (y.0) ≢ term_value w (y.1)) (e.0).disequations x (e.2).disequations)
          (in_append_back (d.0).disequations (e.0).disequations x i)

-- ---- the tables before and after

pub table_fits : (shapes : List TableShape) (tables : List (List Row)) (n : ℕ) (columns : List ColumnKind)
    → AllZip (λ shape rows. All (FitsShape shape) rows) shapes tables → slice_get (map kinds_of shapes) n ≡ Some columns
    → (n < length tables) × AllByRecursion (λ row. FitKinds row columns) (get_or tables n [])
table_fits [] tables n columns fit e = cc
table_fits (s ∷ ss) [] n columns fit e = absurd fit
table_fits (s ∷ ss) (r ∷ rs) zero columns fit e =
    let same : kinds_of s ≡ columns = cc in
    (omega arith, subst (λ ks. AllByRecursion (λ row. FitKinds row ks) r) same (recursion_from_All (FitsShape s) r (fit.0)))
table_fits (s ∷ ss) (r ∷ rs) (suc n) columns fit e = let rest = table_fits ss rs n columns (fit.1) e in (omega (arith, rest.0), rest.1)

unrepeated : (o : Option ℕ) (full : Bool) (rows after : List Row) → unless_repeated o full rows ≡ After after → after ≡ rows
unrepeated (Some k) full rows after e = cc
unrepeated None true rows after e = cc
unrepeated None false rows after e = let same : after ≡ rows = cc in same

changed_rows : (what : Action) (args : List Value) (keys : List (List ℕ)) (rows after : List Row) → change_rows what args keys rows ≡ After after → after ≡ rows_after what args rows
unfolding change_rows
changed_rows what args keys rows after e =
    unrepeated (repeated_key keys (rows_after what args rows)) (is_insert what && nat_le most_rows (length rows)) (rows_after what args rows) after e

changed_back : {X Y : Type 0} (f : X → Y) (r : Changed X) (y : Y) → changed_map f r ≡ After y → (x : X) × (r ≡ After x) × (f x ≡ y)
changed_back f (After x) y e = let same : f x ≡ y = cc in (x, refl, same)
changed_back f (DuplicateKey k) y e = cc
changed_back f TableFull y e = cc

-- the store after a change has the changed rows in its table
pub store_after : (schema : Schema) (u : Change) (args : List Value) (before after : Store) → change schema u args before ≡ After after
    → after ≡ record before { tables = slice_set before.tables u.table (rows_after u.action args (rows_at before u.table)) }
store_after schema u args before after e =
    let r = changed_back (λ (rows : List Row). record before { tables = slice_set before.tables u.table rows }) (change_rows u.action args (keys_at schema u.table) (rows_at before u.table)) after e in
    sym (r.2) ∙ ap (λ (rows : List Row). record before { tables = slice_set before.tables u.table rows }) (changed_rows u.action args (keys_at schema u.table) (rows_at before u.table) (r.0) (r.1))

module _ {X : Type 0} (F G S T : X → Type 0) (f : (x : X) → F x → G x) (s : (x : X) → S x → T x) where
  edits_map : (xs ys : List X) → Edits F S xs ys → Edits G T xs ys
  edits_map xs ys done = done
  edits_map xs ys (keep x xs' ys' a e) = keep x xs' ys' (f x a) (edits_map xs' ys' e)
  edits_map xs ys (lose x xs' ys' a b e) = lose x xs' ys' (f x a) (s x b) (edits_map xs' ys' e)
  edits_map xs ys (gain y xs' ys' a b e) = gain y xs' ys' (f y a) (s y b) (edits_map xs' ys' e)

edits_same : {X : Type 0} (F S : X → Type 0) (xs : List X) → AllByRecursion F xs → Edits F S xs xs
edits_same F S [] all = done
edits_same F S (x ∷ xs) all = keep x xs xs (all.0) (edits_same F S xs (all.1))

-- ---- an UPDATE that sets no used column

-- cells past the end
past_end : (xs : List Value) (n : ℕ) → length xs ≤ n → get_or xs n v.Absent ≡ v.Absent
past_end [] n big = refl
past_end (x ∷ xs) zero big = absurd (omega arith)
past_end (x ∷ xs) (suc n) big = past_end xs n (omega arith)

module _ (q : Query) (keys args : List Value) (i : ℕ) (sets : Sets) (none_used : list_any (λ (set : ℕ × Scalar). uses q i (set.0)) sets ≡ false) where
  not_assigned : (k : ℕ) → uses q i k ≡ true → (o : Option Scalar) → assigned sets k ≡ o → o ≡ None
  not_assigned k used None e = refl
  not_assigned k used (Some by) e =
      let r = assigned_from sets k by e in
      absurd (true≢false (sym (any_from (λ (set : ℕ × Scalar). uses q i (set.0)) sets (r.0) (r.1) (subst (λ n. uses q i n ≡ true) (sym (r.2)) used)) ∙ none_used))

  -- the row keeps its used columns
  row_alike : (row : Row) → RowsAlike q keys i row (updated_row args sets row)
  row_alike row k used = ⊎_elim within past (cases_lt k (length row))
    where
      within : k < length row → get_or row k v.Absent ≡ get_or (updated_row args sets row) k v.Absent
      within small =
          sym (updated_cell args sets row k small ∙ ap (λ (o : Option Scalar). new_value args (row ∷ []) o (get_or row k v.Absent)) (not_assigned k used (assigned sets k) refl))

      past : length row ≤ k → get_or row k v.Absent ≡ get_or (updated_row args sets row) k v.Absent
      past big = past_end row k big ∙ sym (past_end (updated_row args sets row) k (subst (λ n. n ≤ k) (sym (length-updated args sets row)) big))

  rows_alike : (condition : Option Scalar) (rows : List Row) → AllZip (RowsAlike q keys i) rows (rows_after (action.Update sets condition) args rows)
  rows_alike condition [] = tt
  rows_alike condition (row ∷ rows) = (one (chosen args condition row), rows_alike condition rows)
    where
      one : (b : Bool) → RowsAlike q keys i row (cond b (updated_row args sets row) row)
      one true = row_alike row
      one false = λ k used. refl

-- the rows of an item that does not see the change keep their used columns
unseen_alike : (q : Query) (keys args : List Value) (i : ℕ) (what : Action) (rows : List Row) → sees q i what ≡ false → AllZip (RowsAlike q keys i) rows (rows_after what args rows)
unseen_alike q keys args i (action.Insert sets) rows e = cc
unseen_alike q keys args i (action.Update sets condition) rows e = rows_alike q keys args i sets e condition rows
unseen_alike q keys args i (action.Delete condition) rows e = cc

same_rows : (q : Query) (keys : List Value) (i : ℕ) (rows : List Row) → AllZip (RowsAlike q keys i) rows rows
same_rows q keys i [] = tt
same_rows q keys i (row ∷ rows) = (λ k used. refl, same_rows q keys i rows)

and_false : (a b : Bool) → a ≡ true → (a && b) ≡ false → b ≡ false
and_false true b e f = f
and_false false b e f = cc

module _ (schema : Schema) (q : Query) (u : Change) (args : List Value) (before : Store)
    (fit : FitsSchema schema before) (args_fit : FitKinds args u.params) (u_fit : ChangeFits schema u) where
  tables_after : List (List Row)
  tables_after = slice_set before.tables u.table (rows_after u.action args (rows_at before u.table))

  -- the rows of an item's table: those after the change where the item sees it, and else those before
  seen_rows : ℕ × Item → List Row
  seen_rows item = cond (is_touched q u item) (get_or tables_after (item.1).table []) (rows_at before (item.1).table)

  -- the rows of the change's table after it
  after_here : (item : Item) → slice_get (map kinds_of schema.tables) item.table ≡ Some item.columns → item.table ≡ u.table → get_or tables_after item.table [] ≡ rows_after u.action args (rows_at before item.table)
  unfolding tables_after
  after_here item its same =
      let here = table_fits schema.tables before.tables item.table item.columns fit.tables its in
      subst (λ n. get_or (slice_set before.tables n (rows_after u.action args (rows_at before n))) item.table [] ≡ rows_after u.action args (rows_at before item.table)) same
      (get_or-set_same before.tables item.table (rows_after u.action args (rows_at before item.table)) [] (here.0))

  item_edited : (item : ℕ × Item) → slice_get (map kinds_of schema.tables) (item.1).table ≡ Some (item.1).columns
      → Edits (Fits q u args item) (Touched q u args item) (rows_at before (item.1).table) (seen_rows item)
  unfolding seen_rows
  item_edited item its = go (is_touched q u item) refl
    where
      rows_fit : ((item.1).table < length before.tables) × AllByRecursion (λ row. FitKinds row (item.1).columns) (rows_at before (item.1).table)
      rows_fit = table_fits schema.tables before.tables (item.1).table (item.1).columns fit.tables its

      go : (b : Bool) → is_touched q u item ≡ b
          → Edits (Fits q u args item) (Touched q u args item) (rows_at before (item.1).table) (cond b (get_or tables_after (item.1).table []) (rows_at before (item.1).table))
      go true e =
          let same : (item.1).table ≡ u.table = eqb-true (item.1).table u.table (and_parts ((item.1).table == u.table) (sees q (item.0) u.action) e).0 in
          let columns : (item.1).columns ≡ u.columns = let h = u_fit.table in let g : slice_get (map kinds_of schema.tables) u.table ≡ Some (item.1).columns = subst (λ n. slice_get (map kinds_of schema.tables) n ≡ Some (item.1).columns) same its in cc in
          let made = edits_of u.params u.columns args args_fit u.action u_fit.action (rows_at before (item.1).table) (subst (λ (ks : List ColumnKind). AllByRecursion (λ row. FitKinds row ks) (rows_at before (item.1).table)) columns (rows_fit.1)) in
          let mine = edits_map (λ row. FitKinds row u.columns) (Fits q u args item) (MeetsCase (change_cases u) args) (Touched q u args item)
          (λ row f. subst (FitKinds row) (sym columns) f) (λ row m. (e, m)) (rows_at before (item.1).table) (rows_after u.action args (rows_at before (item.1).table)) made in
          subst (Edits (Fits q u args item) (Touched q u args item) (rows_at before (item.1).table)) (sym (after_here (item.1) its same)) mine
      go false e = edits_same (Fits q u args item) (Touched q u args item) (rows_at before (item.1).table) (rows_fit.1)

  all_edited : (items : List (ℕ × Item)) → ((item : ℕ × Item) → In item items → slice_get (map kinds_of schema.tables) (item.1).table ≡ Some (item.1).columns)
      → AreEdited (Fits q u args) (Touched q u args) items (map (λ item. rows_at before (item.1).table) items) (map seen_rows items)
  all_edited [] its = none
  all_edited (item ∷ items) its =
      one item items (rows_at before (item.1).table) (seen_rows item) (map (λ i. rows_at before (i.1).table) items) (map seen_rows items)
      (item_edited item (its item (inl refl))) (all_edited items (λ i m. its i (inr m)))

  -- an item that does not see the change has the same used columns after it
  item_alike : (keys : List Value) (item : ℕ × Item) → slice_get (map kinds_of schema.tables) (item.1).table ≡ Some (item.1).columns
      → AllZip (RowsAlike q keys (item.0)) (seen_rows item) (get_or tables_after (item.1).table [])
  unfolding seen_rows tables_after
  item_alike keys item its = go (is_touched q u item) refl
    where
      unseen : (b : Bool) → ((item.1).table == u.table) ≡ b → is_touched q u item ≡ false → AllZip (RowsAlike q keys (item.0)) (rows_at before (item.1).table) (get_or tables_after (item.1).table [])
      unseen true e missed =
          subst (AllZip (RowsAlike q keys (item.0)) (rows_at before (item.1).table)) (sym (after_here (item.1) its (eqb-true (item.1).table u.table e)))
          (unseen_alike q keys args (item.0) u.action (rows_at before (item.1).table) (and_false ((item.1).table == u.table) (sees q (item.0) u.action) e missed))
      unseen false e missed =
          subst (AllZip (RowsAlike q keys (item.0)) (rows_at before (item.1).table))
          (sym (get_or-set_other before.tables u.table (item.1).table (rows_after u.action args (rows_at before u.table)) [] (eqb-false (item.1).table u.table e)))
          (same_rows q keys (item.0) (rows_at before (item.1).table))

      go : (b : Bool) → is_touched q u item ≡ b
          → AllZip (RowsAlike q keys (item.0)) (cond b (get_or tables_after (item.1).table []) (rows_at before (item.1).table)) (get_or tables_after (item.1).table [])
      go true e = same_rows q keys (item.0) (get_or tables_after (item.1).table [])
      go false e = unseen ((item.1).table == u.table) refl e

  all_alike : (keys : List Value) (n : ℕ) (items : List Item) → ((item : Item) → In item items → slice_get (map kinds_of schema.tables) item.table ≡ Some item.columns)
      → TablesAlike q keys n (map seen_rows (enumerate_from n items)) (map (λ item. get_or tables_after item.table []) items)
  all_alike keys n [] its = tt
  all_alike keys n (item ∷ items) its = (item_alike keys (n, item) (its item (inl refl)), all_alike keys (n + 1) items (λ i m. its i (inr m)))

-- the answer is that of the matching combinations
same_answer : (q : Query) (keys : List Value) (befores afters : List (List Row))
    → filter (meets q keys) (combinations afters) ≡ filter (meets q keys) (combinations befores) → answer_over q keys afters ≡ answer_over q keys befores
unfolding answer_over
same_answer q keys befores afters e =
    ap (λ (matching : List Combination). map (λ g. v.Row (map (field_of keys g) q.fields)) (limit_by keys q.limit (offset_by keys q.offset (stable_sort (group_cmp keys q.order) (groups q matching))))) e

in_numbered : (n : ℕ) (items : List Item) (p : ℕ × Item) → In p (enumerate_from n items) → In (p.1) items
in_numbered n [] p h = absurd h
in_numbered n (x ∷ xs) p (inl e) = inl (ap (λ (w : ℕ × Item). w.1) e)
in_numbered n (x ∷ xs) p (inr h) = inr (in_numbered (n + 1) xs p h)

numbered_rows : (f : Item → List Row) (n : ℕ) (items : List Item) → map (λ (p : ℕ × Item). f (p.1)) (enumerate_from n items) ≡ map f items
numbered_rows f n [] = refl
numbered_rows f n (x ∷ xs) = ap (λ (rows : List (List Row)). f x ∷ rows) (numbered_rows f (n + 1) xs)

-- The patterns of an update and a site keep its answers: the items that see the change have the same matching combinations
-- before and after it, and the others the same used columns.
pub patterns_keep : (schema : Schema) (site : ℕ) (q : Query) (u : Change) (patterns : List Pattern) → QueryFits schema q → ChangeFits schema u
    → ArePatterns site q u patterns → KeepsAnswers schema site q u patterns
unfolding tables_after
patterns_keep schema site q u patterns q_fit u_fit are before after args keys fit args_fit keys_fit changed unmatched =
    subst (λ (s : Store). answer q keys s ≡ answer q keys before) (sym (store_after schema u args before after changed))
    (sym (answer_alike q keys (map seen (enumerate_from 0 q.from)) (map (λ item. get_or (tables_after schema q u args before fit args_fit u_fit) item.table []) q.from)
    (all_alike schema q u args before fit args_fit u_fit keys 0 q.from its))
    ∙ same_answer q keys (map (λ item. rows_at before item.table) q.from) (map seen (enumerate_from 0 q.from))
    (subst (λ (befores : List (List Row)). filter (meets q keys) (combinations (map seen (enumerate_from 0 q.from))) ≡ filter (meets q keys) (combinations befores)) (numbered_rows (λ item. rows_at before item.table) 0 q.from)
    (same_matching (Fits q u args) (Touched q u args) (meets q keys) (enumerate_from 0 q.from) (map (λ (item : ℕ × Item). rows_at before (item.1).table) (enumerate_from 0 q.from)) (map seen (enumerate_from 0 q.from))
    (all_edited schema q u args before fit args_fit u_fit (enumerate_from 0 q.from) (λ item i. its (item.1) (in_numbered 0 q.from item i)))
    never)))
  where
    seen : ℕ × Item → List Row
    seen = seen_rows schema q u args before fit args_fit u_fit

    its : (item : Item) → In item q.from → slice_get (map kinds_of schema.tables) item.table ≡ Some item.columns
    its item i = All-contains (λ (it : Item). slice_get (map kinds_of schema.tables) it.table ≡ Some it.columns) q.from item q_fit.tables (contains_from_in q.from item i)

    never : (c : Combination) → HasTouched (Fits q u args) (Touched q u args) (enumerate_from 0 q.from) c → meets q keys c ≡ false
    never c touched = false_from_ne_true (meets q keys c) (λ met.
        let r = pair_met q u q_fit.typed args keys keys_fit c touched met in
        true≢false (sym (mask_matches site patterns args keys (some_fires site q u patterns are args keys args_fit keys_fit (r.0) (r.1) (r.2) (r.3))) ∙ unmatched))

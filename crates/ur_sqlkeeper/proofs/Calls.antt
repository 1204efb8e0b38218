-- From what a call of the database says to what the functions of this crate promise.
use Rattle.std.proofs.Common.{◌≡◌, ◌≢◌, ◌⊎◌, inl, inr, ℕ, ℤ, Bool, true, false, not, List, [], ◌∷◌, map, Option, Some, None, is_some, option_map, Ok, Err, Result, IfOk, IfErr, OnOk, OnErr, IsTrue, T, refl, sym, ap, subst, ◌∙◌, if◌then◌else◌}
use Rattle.std.specs.FinMap.{insert, remove}
use Rattle.sqlite.specs.declared.types.Value.TheVariants.{Int, Blob}
use Rattle.sqlite.specs.Order.{Row}
use Rattle.sqlite.specs.Schema.{Schema}
use Rattle.sqlite.specs.Effect.{Database}
use Rattle.sqlite.specs.Listing.{understood}
use Rattle.sqlite.specs.declared.error.Error.{Error}
use Rattle.sqlite.specs.State.{State, IsRolledBack, IsUnchanged, Shows, Shown, FailsToQuery, Executes, ExecutesInside}
use Rattle.sqlite.specs.Steps.{FailsToCommit}
use Rattle.sqlite.specs.Store as store
use Rattle.sqlite.specs.Held.{Held, state}
use Rattle.sqlite.proofs.Callers.{IsPlain}
use Rattle.ur_base.specs.Told.{WhereTold, Becomes}
use Rattle.ur_keeper_bodies.specs.Bodies.{Place, BodyMap, body_at, bodies_of, CanWrite, CanWriteOne, written, written_one, IsOpened}
use Rattle.ur_keeper_bodies.specs.declared.bodies.BodyChange.{BodyChange}
use Rattle.ur_keeper_bodies.specs.declared.bodies.BodyChange.TheVariants as change
use Rattle.ur_sqlkeeper.specs.Table.{ur_schema, no_schema, read_text, one_text, add_text, put_text, drop_text}
use Rattle.ur_sqlkeeper.specs.Rows.{AreKept, map_in, ShowsTable, ShowsPlace}
use Rattle.ur_sqlkeeper.specs.Serving.{IsOurs, IsServing, IsStill, IsFound, Holds, Makes, Connects, told_by}
use Rattle.ur_sqlkeeper.proofs.Entries.{told, told-at, at}
use Rattle.ur_sqlkeeper.proofs.Queries.{shows-table, shows-place}
use Rattle.ur_sqlkeeper.proofs.Texts.{read_plain, one_plain}
use Rattle.ur_sqlkeeper.proofs.States.{still, back, shown-still, failed-still, fails-inside}
use Rattle.ur_sqlkeeper.proofs.Writes.{adds, puts, drops, tells}

-- ---- queries

module _ {X : Type 0} (items : X → List Row) where
  pub table-rows : (r : Result X Error) (old new : State) (tab : ℤ) → IsOurs old.now → IfOk r (λ x. Shown read_text (Int tab ∷ []) old new (items x)) → IfOk r (λ x. ShowsTable (old.now.trees 0) tab (items x))
  table-rows (Ok x) old new tab ours h = shows-table old new tab (items x) ours h
  table-rows (Err e) old new tab ours h = tt

  pub place-rows : (r : Result X Error) (old new : State) (tab num : ℤ) → IsOurs old.now → IfOk r (λ x. Shown one_text (Int tab ∷ Int num ∷ []) old new (items x)) → IfOk r (λ x. ShowsPlace (old.now.trees 0) (tab, num) (items x))
  place-rows (Ok x) old new tab num ours h = shows-place old new tab num (items x) ours h
  place-rows (Err e) old new tab num ours h = tt

  query-still : (sql : List ℕ) (params : Row) (r : Result X Error) (old new : State) → IsPlain (understood ur_schema sql) → IsServing old → IsTrue new.is_open
      → IfOk r (λ x. Shown sql params old new (items x)) → IfErr r (FailsToQuery sql params old new) → IsStill old.now new
  query-still sql params (Ok x) old new plain s is-open h _ = shown-still sql params old new ur_schema s.ours.schema plain (items x) s h
  query-still sql params (Err e) old new plain s is-open _ h = failed-still sql params old new ur_schema s.ours.schema plain e s is-open h

  pub table-still : (r : Result X Error) (old new : State) (tab : ℤ) → IsServing old → IsTrue new.is_open
      → IfOk r (λ x. Shown read_text (Int tab ∷ []) old new (items x)) → IfErr r (FailsToQuery read_text (Int tab ∷ []) old new) → IsStill old.now new
  table-still r old new tab = query-still read_text (Int tab ∷ []) r old new read_plain

  pub place-still : (r : Result X Error) (old new : State) (tab num : ℤ) → IsServing old → IsTrue new.is_open
      → IfOk r (λ x. Shown one_text (Int tab ∷ Int num ∷ []) old new (items x)) → IfErr r (FailsToQuery one_text (Int tab ∷ Int num ∷ []) old new) → IsStill old.now new
  place-still r old new tab num = query-still one_text (Int tab ∷ Int num ∷ []) r old new one_plain

-- ---- writes

nothing-at : (o : Option (List ℕ)) → IsTrue (not (is_some o)) → o ≡ None
nothing-at None h = refl
nothing-at (Some x) h = absurd (subst T (sym h) tt)

-- the map was changed in this way, and the transaction goes on
makes : {f : BodyMap → BodyMap} {old new : State} → IsOurs new.now × (map_in (new.now.trees 0) ≡ f (map_in (old.now.trees 0))) → Shows old new new.now old.committed true → Makes f old new
makes h s = record { ours = h.0; committed = s.committed_is; under_way = s.mode; map = h.1 }

pub add-makes : (old new : State) (tab num : ℤ) (body : List ℕ) (r : Result ℕ Error) → IsOurs old.now → CanWriteOne (map_in (old.now.trees 0)) (change.Add tab num body) → r ≡ Ok 1
    → ExecutesInside 0 add_text (Int tab ∷ Int num ∷ Blob body ∷ []) old new r → Makes (λ m. insert m (tab, num) body) old new
add-makes old new tab num body r ours can ok h =
    let ran = subst (ExecutesInside 0 add_text (Int tab ∷ Int num ∷ Blob body ∷ []) old new) ok h in
    let none = sym (told-at ours.rows.kept tab num) ∙ ap (λ (m : BodyMap). body_at m tab num) (sym (tells _ _ ours.rows.are)) ∙ nothing-at _ can in
    makes (adds old new tab num body ours 1 none ran.0) ran.1

pub put-makes : (old new : State) (tab num : ℤ) (body : List ℕ) (r : Result ℕ Error) → IsOurs old.now → r ≡ Ok 1
    → ExecutesInside 0 put_text (Int tab ∷ Int num ∷ Blob body ∷ []) old new r → Makes (λ m. insert m (tab, num) body) old new
put-makes old new tab num body r ours ok h =
    let ran = subst (ExecutesInside 0 put_text (Int tab ∷ Int num ∷ Blob body ∷ []) old new) ok h in makes (puts old new tab num body ours ran.0) ran.1

pub drop-makes : (old new : State) (tab num : ℤ) (r : Result ℕ Error) → IsOurs old.now → r ≡ Ok 1
    → ExecutesInside 0 drop_text (Int tab ∷ Int num ∷ []) old new r → Makes (λ m. remove m (tab, num)) old new
drop-makes old new tab num r ours ok h =
    let ran = subst (ExecutesInside 0 drop_text (Int tab ∷ Int num ∷ []) old new) ok h in makes (drops old new tab num ours ran.0) ran.1

-- whatever comes of a statement within a transaction, the last commit stands
pub inside-keeps : (old new : State) (sql : List ℕ) (params : Row) (r : Result ℕ Error) → IsTrue new.is_open → (old.in_transaction ≡ false → new.committed ≡ old.committed)
    → (IsTrue old.in_transaction → ExecutesInside 0 sql params old new r) → new.committed ≡ old.committed
inside-keeps old new sql params r is-open ended ran = elim old.in_transaction as (λ b. old.in_transaction ≡ b → new.committed ≡ old.committed) [
  | true ↦ λ e. kept r (ran e)
  | false ↦ ended
] refl
  where
    kept : (r : Result ℕ Error) → ExecutesInside 0 sql params old new r → new.committed ≡ old.committed
    kept (Ok count) h = h.1.committed_is
    kept (Err e) h = fails-inside 0 sql params old new e is-open h

-- ---- a transaction

pub served : (s : State) → IsServing s → IsStill s.now s
served s h = record { now = refl; committed = h.settled; idle = h.idle }

pub still-serving : (old new : State) → IsServing old → IsStill old.now new → IsServing new
still-serving old new s h = record { ours = subst IsOurs (sym h.now) s.ours; settled = h.committed ∙ sym h.now; idle = h.idle }

-- a transaction is given up
pub given-up : (old mid end : State) → IsServing old → IsTrue end.is_open → mid.committed ≡ old.committed → IsRolledBack mid end → IsStill old.now end
given-up old mid end s is-open kept r = record { now = (r.undone is-open).0 ∙ kept ∙ s.settled; committed = (r.undone is-open).1 ∙ kept ∙ s.settled; idle = r.autocommit }

-- it is committed
pub committed : (f : BodyMap → BodyMap) (begun mid end : State) → Makes f begun mid → Shows mid end mid.now mid.now false → IsServing end × (map_in (end.now.trees 0) ≡ f (map_in (begun.now.trees 0)))
committed f begun mid end m s = (
  record { ours = subst IsOurs (sym s.now_is) m.ours; settled = s.committed_is ∙ sym s.now_is; idle = s.mode },
  ap (λ (d : Database). map_in (d.trees 0)) s.now_is ∙ m.map,
)

-- or it cannot be
pub not-committed : (f : BodyMap → BodyMap) (old begun mid end : State) (e : Error) → IsServing old → IsTrue end.is_open → begun.committed ≡ old.committed → Makes f begun mid → FailsToCommit mid end e → IsStill old.now end
not-committed f old begun mid end e s is-open same m (inl h) = given-up old mid end s is-open (m.committed ∙ same) h.3
not-committed f old begun mid end e s is-open same m (inr h) = absurd (subst T (sym m.under_way ∙ h.1) tt)

pub if-err : {X E : Type 0} (r : Result X E) (P : Type 0) → P → OnErr r P
if-err (Ok x) P p = tt
if-err (Err e) P p = p

-- ---- the changes in order

-- so far, with these changes left
pub record Goes (old now : State) (changes left : List BodyChange) : Type 0 where
  pub ours : IsOurs now.now
  pub committed : now.committed ≡ old.committed
  pub under_way : IsTrue now.in_transaction
  pub rest : written (map_in (now.now.trees 0)) left ≡ written (map_in (old.now.trees 0)) changes
  pub can : CanWrite (map_in (now.now.trees 0)) left

pub begins : (old : State) (changes : List BodyChange) → IsOurs old.now → IsTrue old.in_transaction → CanWrite (map_in (old.now.trees 0)) changes → Goes old old changes changes
begins old changes ours inside can = record { ours = ours; committed = refl; under_way = inside; rest = refl; can = can }

pub goes-on : (old now next : State) (changes : List BodyChange) (c : BodyChange) (left : List BodyChange) → Goes old now changes (c ∷ left) → Makes (λ m. written_one m c) now next → Goes old next changes left
goes-on old now next changes c left g m = record {
  ours = m.ours;
  committed = m.committed ∙ g.committed;
  under_way = m.under_way;
  rest = ap (λ (x : BodyMap). written x left) m.map ∙ g.rest;
  can = subst (λ (x : BodyMap). CanWrite x left) (sym m.map) g.can.1;
}

pub all-made : (old now : State) (changes : List BodyChange) → Goes old now changes [] → Makes (λ m. written m changes) old now
all-made old now changes g = record { ours = g.ours; committed = g.committed; under_way = g.under_way; map = g.rest }

-- ---- what a connection finds

-- the table was made
pub made-holds : (found : BodyMap) (old new : Database) → old.schema ≡ no_schema → IsFound found old → new.trees 0 ≡ [] → Holds found new
made-holds found old new none (inl h) e = record { rows = subst AreKept (sym e) (record { kept = []; are = refl; rise = tt }); map = ap map_in e ∙ sym h.1 }
made-holds found old new none (inr h) e = absurd (h.0 none)

-- there was something
pub found-holds : (found : BodyMap) (db : Database) → db.schema ≢ no_schema → IsFound found db → Holds found db
found-holds found db some (inl h) = absurd (some h.0)
found-holds found db some (inr h) = h.1

-- ---- what is told

module _ {S : Type 0} (g : store.Ghosts S) where
  pub told-same : (honest : Bool) (found : BodyMap) (old new : Held S) → (honest ≡ true → (state g new).now ≡ (state g old).now) → told_by g honest found (Some new) ≡ told_by g honest found (Some old)
  told-same true found old new h = ap (λ (d : Database). Some (map_in (d.trees 0))) (h refl)
  told-same false found old new h = refl

  pub where-told : (honest : Bool) (found : BodyMap) (old : Held S) (P : BodyMap → Type 0) → (honest ≡ true → P (map_in ((state g old).now.trees 0))) → WhereTold (told_by g honest found (Some old)) P
  where-told true found old P h = h refl
  where-told false found old P h = tt

  pub told-known : (honest : Bool) (found : BodyMap) (old : Held S) (P : BodyMap → Type 0) → WhereTold (told_by g honest found (Some old)) P → honest ≡ true → P (map_in ((state g old).now.trees 0))
  told-known true found old P h e = h
  told-known false found old P h e = absurd (subst T (sym e) tt)

  pub told-becomes : (honest : Bool) (found : BodyMap) (old new : Held S) (f : BodyMap → BodyMap) → (honest ≡ true → map_in ((state g new).now.trees 0) ≡ f (map_in ((state g old).now.trees 0)))
      → Becomes f (told_by g honest found (Some old)) (told_by g honest found (Some new))
  told-becomes true found old new f h = ap (λ (m : BodyMap). Some m) (h refl)
  told-becomes false found old new f h = refl

  -- a connection serves the map that was told before it was there
  pub told-first : (honest : Bool) (found : BodyMap) (new : Held S) → (honest ≡ true → Connects found (state g new)) → told_by g honest found (Some new) ≡ told_by g honest found None
  told-first true found new h = ap (λ (m : BodyMap). Some m) (h refl).map
  told-first false found new h = refl

  -- a call that leaves the database as it is
  pub opened-same : (honest : Bool) (found : BodyMap) (old new : Held S) → (honest ≡ true → IsServing (state g old)) → (honest ≡ true → IsServing (state g old) → IsStill (state g old).now (state g new))
      → told_by g honest found (Some new) ≡ told_by g honest found (Some old)
  opened-same honest found old new serving still = told-same honest found old new (λ e. (still e (serving e)).now)

  pub serves-on : (honest : Bool) (old new : Held S) → (honest ≡ true → IsServing (state g old)) → (honest ≡ true → IsServing (state g old) → IsStill (state g old).now (state g new)) → honest ≡ true → IsServing (state g new)
  serves-on honest old new serving still e = still-serving (state g old) (state g new) (serving e) (still e (serving e))

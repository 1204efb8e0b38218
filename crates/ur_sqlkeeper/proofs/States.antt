-- What a call leaves of a connection that serves the table.
use Rattle.std.proofs.Common.{◌≡◌, ◌⊎◌, inl, inr, ℕ, List, None, Ok, Err, sym, ap, subst, ◌∙◌, IsTrue}
use Rattle.sqlite.specs.Order.{Row}
use Rattle.sqlite.specs.Schema.{Schema}
use Rattle.sqlite.specs.Listing.{understood}
use Rattle.sqlite.specs.Effect.{Database}
use Rattle.sqlite.specs.declared.error.Error.{Error}
use Rattle.sqlite.specs.State.{State, IsUnchanged, IsRolledBack, IsNotRun, FailsToQuery, Shown, ExecutesInside}
use Rattle.sqlite.proofs.Callers.{IsPlain}
use Rattle.ur_sqlkeeper.specs.Serving.{IsServing, IsStill}

pub still : (old new : State) → IsServing old → IsUnchanged old new → IsStill old.now new
still old new s u = record { now = u.0.now_is; committed = u.0.committed_is ∙ s.settled; idle = u.0.mode ∙ s.idle }

pub back : (old new : State) → IsServing old → IsTrue new.is_open → IsRolledBack old new → IsStill old.now new
back old new s is-open r = record { now = (r.undone is-open).0 ∙ s.settled; committed = (r.undone is-open).1 ∙ s.settled; idle = r.autocommit }

module _ (sql : List ℕ) (params : Row) (old new : State) (schema : Schema) (has : old.now.schema ≡ schema) (plain : IsPlain (understood schema sql)) where
  pub shown-still : (rows : List Row) → IsServing old → Shown sql params old new rows → IsStill old.now new
  unfolding Shown
  shown-still rows s h =
      let bare = subst IsPlain (sym (sym h.1.is ∙ ap (λ (t : Schema). understood t sql) has)) plain in
      still old new s (rw bare.0 at h.2).3

  pub failed-still : (e : Error) → IsServing old → IsTrue new.is_open → FailsToQuery sql params old new e → IsStill old.now new
  unfolding FailsToQuery IsNotRun
  failed-still e s is-open (inl (inl h)) = still old new s h.1
  failed-still e s is-open (inl (inr f)) = back old new s is-open f.3
  failed-still e s is-open (inr h) =
      let bare = subst IsPlain (sym (sym h.1.is ∙ ap (λ (t : Schema). understood t sql) has)) plain in
      still old new s (rw bare.0 at h.2).3

-- a statement that fails within a transaction keeps what was committed
pub fails-inside : (held : ℕ) (sql : List ℕ) (params : Row) (old new : State) (e : Error) → IsTrue new.is_open → ExecutesInside held sql params old new (Err e) → new.committed ≡ old.committed
fails-inside held sql params old new e is-open (inl (ran, inl u)) = u.0.committed_is
fails-inside held sql params old new e is-open (inl (ran, inr r)) = (r.undone is-open).1
fails-inside held sql params old new e is-open (inr h) = h.2.0.committed_is

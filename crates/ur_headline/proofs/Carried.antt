-- Sessions are carried over to other answers that hold wherever these do, over states that stand for these.
use Rattle.std.proofs.Common.{◌≡◌, ℕ, zero, suc, ◌+◌, ◌-◌, ◌≤◌, ◌<◌, min, Bool, List, [], ◌∷◌, ◌++◌, length, ap, subst, arith}
use Rattle.ur_io.specs.declared.session.Mark.{Mark}
use Rattle.ur_io.specs.declared.session.Mark.TheVariants as mark
use Rattle.ur_io.specs.declared.session.Why.{Why}
use Rattle.ur_io.specs.declared.session.SessionEnd.{SessionEnd}
use Rattle.ur_serve.specs.Sessions.{Answer, Front, Served, Session, RunsFrom}

one_longer : (marks : List Mark) (m : Mark) (n : ℕ) → length (marks ++ m ∷ []) + n ≡ length marks + suc n
one_longer [] m n = omega arith
one_longer (x ∷ marks) m n = let e = one_longer marks m n in omega (arith, e)

none_longer : (n : ℕ) → 0 + n ≡ n
none_longer n = omega arith

longer : (marks : List Mark) (m : Mark) (most : ℕ) → length marks < most → length (marks ++ m ∷ []) ≤ most
longer marks m most short = let e = one_longer marks m 0 in omega (arith, e, short)

-- at most so many marks
pub at_most : {S I T : Type 0} {Replies : S → I → Bool → Answer S → Type 0} {Reaches : I → Type 0} {kept : S → T} {kf nm : List ℕ} {most : ℕ} {s : S} {items : List I} {marks : List Mark}
    {bytes : List ℕ} {closed : Bool} {after : S} → Served Replies Reaches kept kf nm most s items marks bytes closed after → length marks ≤ most
at_most Served.none = omega arith
at_most (Served.done items marks said now item answer before short replies) = longer marks mark.Done _ short
at_most (Served.keeper items marks said now after item before short reaches same_kept) = longer marks mark.Keeper _ short
at_most (Served.memory items marks said now after before short same_kept) = longer marks mark.Memory _ short

-- `f` makes the new states of the old ones. `Good n` is what is known of an old state while n requests may still be answered, and
-- `Fine` of an item with which bytes begin.
module _ {S S' I T T' : Type 0} (Starts : List ℕ → I → List ℕ → Type 0) (Ends : List ℕ → Why → Type 0) (Old : S → I → Bool → Answer S → Type 0)
    (New : S' → I → Bool → Answer S' → Type 0) (Reaches Reaches' : I → Type 0) (kept : S → T) (kept' : S' → T') (keeper_fault no_memory : List ℕ) (f : S → S')
    (Good : ℕ → S → Type 0) (Fine : I → Type 0)
    (fine : (bytes : List ℕ) (i : I) (rest : List ℕ) → Starts bytes i rest → Fine i)
    (same : (n : ℕ) (s : S) (i : I) (last : Bool) (a : Answer S) → Good (suc n) s → Fine i → Old s i last a
    → New (f s) i last (record { bytes = a.bytes; closes = a.closes; after = f a.after }) × Good n a.after)
    (reach : (i : I) → Reaches i → Reaches' i) (keeps : (s t : S) → kept t ≡ kept s → kept' (f t) ≡ kept' (f s))
    (left : (n : ℕ) (s t : S) → kept t ≡ kept s → Good (suc n) s → Good n t) where
  abbrev AllFine : List I → Type 0
  AllFine [] = Unit {0}
  AllFine (i ∷ items) = Fine i × AllFine items

  front_fine : {bytes left : List ℕ} {items : List I} → Front Starts bytes items left → AllFine items
  front_fine (Front.none bytes) = tt
  front_fine (Front.next bytes rest left item items starts more) = (fine _ _ _ starts, front_fine more)

  parted : (items : List I) (i : I) → AllFine (items ++ i ∷ []) → AllFine items × Fine i
  parted [] i h = (tt, h.0)
  parted (x ∷ items) i h = ((h.0, (parted items i h.1).0), (parted items i h.1).1)

  pub served : {most : ℕ} {s : S} {items : List I} {marks : List Mark} {bytes : List ℕ} {closed : Bool} {after : S} (n : ℕ)
      → Served Old Reaches kept keeper_fault no_memory most s items marks bytes closed after → AllFine items → Good (length marks + n) s
      → Served New Reaches' kept' keeper_fault no_memory most (f s) items marks bytes closed (f after) × Good n after
  served {s = s} n Served.none fines good = (Served.none, subst (λ k. Good k s) (none_longer n) good)
  served {s = s} n (Served.done items marks said now item answer before short replies) fines good =
      let parts = parted items item fines in
      let so = served (suc n) before parts.0 (subst (λ k. Good k s) (one_longer marks mark.Done n) good) in
      let now_same = same n now item _ answer so.1 parts.1 replies in
      (Served.done items marks said (f now) item (record { bytes = answer.bytes; closes = answer.closes; after = f answer.after }) so.0 short now_same.0, now_same.1)
  served {s = s} n (Served.keeper items marks said now after item before short reaches same_kept) fines good =
      let parts = parted items item fines in
      let so = served (suc n) before parts.0 (subst (λ k. Good k s) (one_longer marks mark.Keeper n) good) in
      (Served.keeper items marks said (f now) (f after) item so.0 short (reach _ reaches) (keeps _ _ same_kept), left n now after same_kept so.1)
  served {s = s} n (Served.memory items marks said now after before short same_kept) fines good =
      let so = served (suc n) before fines (subst (λ k. Good k s) (one_longer marks mark.Memory n) good) in
      (Served.memory items marks said (f now) (f after) so.0 short (keeps _ _ same_kept), left n now after same_kept so.1)

  pub session : {most : ℕ} {s : S} {bytes : List ℕ} {e : SessionEnd} {given : List ℕ} {after : S} (n : ℕ) → Good (length e.marks + n) s
      → Session Starts Ends Old Reaches kept keeper_fault no_memory most s bytes e given after
      → Session Starts Ends New Reaches' kept' keeper_fault no_memory most (f s) bytes e given (f after) × Good n after
  session n good x =
      let so = served n x.served (front_fine x.front) good in (
        record {
          items = x.items;
          left = x.left;
          front = x.front;
          answers = x.answers;
          closed = x.closed;
          served = so.0;
          given_all = x.given_all;
        },
        so.1,
      )

  spent : (requests : ℕ) (marks : List Mark) → length marks ≤ min 1000 requests → requests ≡ length marks + (requests - length marks)
  spent requests marks le = grind arith

  pub runs : (sessions : List SessionEnd) (requests : ℕ) (s : S) (connections given : List (List ℕ)) (after : S) → Good requests s
      → RunsFrom Starts Ends Old Reaches kept keeper_fault no_memory requests s connections sessions given after
      → RunsFrom Starts Ends New Reaches' kept' keeper_fault no_memory requests (f s) connections sessions given (f after)
  runs [] requests s connections given after good x = (x.0, ap f x.1)
  runs (e ∷ sessions) zero s connections given after good x = absurd x
  runs (e ∷ sessions) (suc requests) s [] given after good x = absurd x
  runs (e ∷ sessions) (suc requests) s (bytes ∷ connections) [] after good x = absurd x
  runs (e ∷ sessions) (suc requests) s (bytes ∷ connections) (first ∷ given) after good x =
      let room = spent (suc requests) e.marks (at_most x.1.served) in
      let so = session (suc requests - length e.marks) (subst (λ k. Good k s) room good) x.1 in
      (f x.0, so.0, runs sessions _ x.0 connections given after so.1 x.2)

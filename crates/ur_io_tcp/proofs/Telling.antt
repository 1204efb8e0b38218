-- What a call tells of the wire, from what it tells where it answers Ok and where it fails.
use Rattle.std.proofs.Common.{◌≡◌, true, false, OnErr, OnOk, IfOk, Bool, ap, sym, ◌∙◌}
use Rattle.std.specs.Prelude.{Result, Ok, Err, MatchResult}
use Rattle.ur_base.specs.Counts.{next_count}
use Rattle.ur_io_tcp.specs.Sockets.{Listening}

-- what holds anyhow holds where a call failed
pub on_err : {T E P : Type 0} (r : Result T E) → P → OnErr r P
on_err (Ok _) p = tt
on_err (Err _) p = p

-- ---- `next`

pub next_current : {E : Type 0} (r : Result Bool E) (old new : Listening) → IfOk r (λ b. b ≡ true) → OnOk r (new ≡ record old { listens = true; is_current = true })
    → OnErr r ((new.is_current ≡ false) × (new.faults ≡ next_count old.faults)) → MatchResult r (λ b. new.is_current ≡ b) (λ _. new.is_current ≡ false)
next_current (Ok _) old new is ok err = ap (λ w. w.is_current) ok ∙ sym is
next_current (Err _) old new is ok err = err.0

pub next_counts : {T E : Type 0} (r : Result T E) (old new : Listening) → OnOk r (new ≡ record old { listens = true; is_current = true })
    → OnErr r ((new.is_current ≡ false) × (new.faults ≡ next_count old.faults)) → MatchResult r (λ _. new.faults ≡ old.faults) (λ _. new.faults ≡ next_count old.faults)
next_counts (Ok _) old new ok err = ap (λ w. w.faults) ok
next_counts (Err _) old new ok err = err.1

-- ---- `read` and `write`

pub stays : {T E : Type 0} (r : Result T E) (old new : Listening) → old.is_current ≡ true → OnOk r (new ≡ old)
    → OnErr r (new ≡ record old { faults = next_count old.faults }) → new.is_current ≡ true
stays (Ok _) old new is ok err = ap (λ w. w.is_current) ok ∙ is
stays (Err _) old new is ok err = ap (λ w. w.is_current) err ∙ is

pub counts : {T E : Type 0} (r : Result T E) (old new : Listening) → OnOk r (new ≡ old) → OnErr r (new ≡ record old { faults = next_count old.faults })
    → MatchResult r (λ _. new.faults ≡ old.faults) (λ _. new.faults ≡ next_count old.faults)
counts (Ok _) old new ok err = ap (λ w. w.faults) ok
counts (Err _) old new ok err = ap (λ w. w.faults) err

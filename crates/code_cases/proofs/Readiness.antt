-- How many requests a server may still answer.
use Rattle.std.proofs.Common.{◌≡◌, ◌≤◌, ◌<◌, ◌+◌, ℕ, Option, Some, None, arith, subst, sym}
use Rattle.std.specs.Prelude.{IfSome}
use Rattle.std.proofs.Math.Nat.{le_trans}
use Rattle.ur_keeper.specs.Memory.{Memory, kept_of}
use Rattle.ur_keeper.specs.Tables.{NumbersUpTo}
use Rattle.ur_serve.specs.Serving.{ServerState, IsReady}
use Rattle.ur_serve.proofs.ServeSessions.{ready_at_start}
use Rattle.code_cases.specs.Ready.{IsReadyFor}

-- a number of 32 bits
pub within : (n : ℕ) → n < 4294967296 → n ≤ 4294967295
within n h = omega arith

-- a server that was just made
pub ready_for_all : (s : ServerState) (k : Memory) → IsReady s (kept_of k.kept) k.under_way (Some k.saved) → NumbersUpTo 4611686018427387904 k.saved → s.steps < 4294967296 → IsReadyFor s k 2000
ready_for_all s k ready numbers units = ready_at_start s (kept_of k.kept) k.under_way (Some k.saved) 2000 ready numbers (within s.steps units) (omega arith)

-- where more may be answered, fewer may
pub fewer_may : (s : ServerState) (k : Memory) (m n : ℕ) → m ≤ n → IsReadyFor s k n → IsReadyFor s k m
fewer_may s k m n few h = record { ready = h.ready; most = h.most; numbers = h.numbers; room = λ j below. h.room j (le_trans below few); within = h.within }

-- after a session with so many marks
pub ready_after : (s s' : ServerState) (k k' : Memory) (count left n : ℕ) → ((i : ℕ) → IsReadyFor s k (count + i) → IsReadyFor s' k' i) → count + left ≡ n → IsReadyFor s k n → IsReadyFor s' k' left
ready_after s s' k k' count left n goes same h = goes left (subst (IsReadyFor s k) (sym same) h)

-- where the number of those that are left is told
pub ready_if : (s s' : ServerState) (k k' : Memory) (count left : ℕ) (o : Option ℕ) → ((i : ℕ) → IsReadyFor s k (count + i) → IsReadyFor s' k' i) → IfSome o (λ n. count + n ≡ left) → IsReadyFor s k left
    → IfSome o (λ n. IsReadyFor s' k' n)
ready_if s s' k k' count left None goes same h = tt
ready_if s s' k k' count left (Some n) goes same h = ready_after s s' k k' count n left goes same h

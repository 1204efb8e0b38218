-- A server over a keeper in memory.
use Rattle.std.specs.Prelude.{ℕ, Some}
use Rattle.ur_keeper.specs.Memory.{Memory, kept_of}
use Rattle.ur_serve.specs.Serving.{ServerState, IsReadyWithin}

-- so many requests may be answered
abbrev pub IsReadyFor : ServerState → Memory → ℕ → Type 0
IsReadyFor s k n = IsReadyWithin 9223300000000000000 s (kept_of k.kept) k.under_way (Some k.saved) n

-- The server as what answers the requests of sessions.
use Rattle.std.specs.Prelude.{ℕ, Option, option_map}
use Rattle.ur_keeper.specs.Tables.{Tables, store_of}
use Rattle.ur_serve.specs.Program.{Holding, ServedProgram}
use Rattle.ur_serve.specs.Serving.{ServerState}

-- what of a server no answer changes
abbrev pub served_by : ServerState → ServedProgram
served_by s = record { code = s.code; patterns = s.patterns; steps = s.steps; capacity = s.cache.capacity }

-- what answers change, where the saved tables are told
abbrev pub holding_of : ServerState → Option Tables → ℕ → Option Holding
holding_of s saved reads = option_map (λ t. record { store = store_of t; entries = s.cache.entries; reads = reads }) saved

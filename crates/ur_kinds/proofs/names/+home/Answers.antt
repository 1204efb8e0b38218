use Rattle.std.proofs.Common.{ap, sym, ◌∙◌, []}
use Rattle.ur_kinds.specs.Walk.{scope_of}
use Rattle.ur_kinds.proofs.Lookups.{home-after}
use Rattle.ur_kinds.proofs.names.+home.Goals as goal

pub returns-in-Declared : goal.returns-in-Declared
returns-in-Declared t c = let env = c.in-Declared.env.now in
    sym (ap (λ n. (scope_of n).home) c.in-Declared.is ∙ home-after (record { home = env.home; names = [] }) env.entries)

use Rattle.std.proofs.Common.{◌≡◌, false, None, pos, ap, rules, ◌∙◌}
use Rattle.std.specs.FinMap.{empty, get-empty}
use Rattle.sqlite_trees.specs.declared.memory.MemStore.{MemStore}
use Rattle.ur_keeper_bodies.specs.Bodies.{place_cmp}
use Rattle.ur_keeper_kept.specs.Kept.{KeptState, no_changes, found_in}
use Rattle.ur_sqlkeeper.specs.Bodies.{SqlState}
use Rattle.ur_sqlkeeper.specs.Serving.{kept_in_memory}
use Rattle.ur_sqlkeeper.proofs.laws.keeper_in_memory.Goals as goal

pub returns-clause-empty : goal.returns-clause-empty
returns-clause-empty c =
    let start : KeptState (SqlState MemStore) = record { bodies = record { conn = None; faults = 0 }; schema = None; under_way = false; pending = no_changes; reads = 0; found = 0 } in
    let is : c.new.result ≡ start = search rules in
    ap kept_in_memory is ∙ ap (found_in empty) (get-empty place_cmp (pos 0, pos 0))

use Rattle.std.proofs.Common.{◌≡◌, ◌≢◌, ◌++◌, List, ℕ, sym, rules}
use Rattle.ur_keeper_bodies.specs.Stored.{layout_line}
use Rattle.ur_keeper_bodies.proofs.Stores.{parted-two, parted-one}
use Rattle.ur_keeper_bodies.proofs.stored.parted.Goals as goal

pub returns-in-Some : goal.returns-in-Some
returns-in-Some c =
    let whole : c.args.bytes.now ≡ layout_line ++ c.in-Some.rest.now = search rules in
    sym (parted-two c.args.bytes.now c.in-Some.rest.now whole)

pub returns-in-None : goal.returns-in-None
returns-in-None c =
    let other : (rest : List ℕ) → c.args.bytes.now ≢ layout_line ++ rest = search rules in
    sym (parted-one c.args.bytes.now other)

use Rattle.ur_tree.specs.Text as texts
use Rattle.ur_typed_rules.specs.Faults as faults
use Rattle.ur_check_scopes.proofs.Exits.{tells-so}
use Rattle.ur_check_scopes.proofs.refusals.not_so.Goals as goal

pub returns : goal.returns
returns c = let x = c.args.found.now in
    let y = texts.apart_from x c.args.wanted.now in
    λ names. tells-so names (faults.not_so x c.args.wanted.now) 15 x y c.stopped.result (λ r h. h) (c.stopped.ensures 15 x y c.of_two.ensures)

use Rattle.ur_tree.specs.Text as texts
use Rattle.ur_typed_rules.specs.Faults as faults
use Rattle.ur_check_scopes.proofs.Exits.{tells-so}
use Rattle.ur_check_scopes.proofs.refusals.not_apart.Goals as goal

pub returns : goal.returns
returns c = let x = texts.row_text c.args.names.now c.args.left.now in
    let y = texts.row_text c.args.names.now c.args.right.now in
    tells-so c.args.names.now (faults.not_apart c.args.left.now c.args.right.now) 11 x y c.stopped.result (λ r h. h) (c.stopped.ensures 11 x y c.rows.ensures)

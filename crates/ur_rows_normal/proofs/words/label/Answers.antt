use Rattle.std.proofs.Common.{ap}
use Rattle.ur_rows.specs.declared.normal.Label.TheVariants as label
use Rattle.ur_rows_normal.proofs.Naming.{label-found, label-none}
use Rattle.ur_rows_normal.proofs.words.label.Goals as goal

pub returns-in-Some : goal.returns-in-Some
returns-in-Some c = label-found c.label_in.result c.args.scope.now c.args.name.now c.in-Variable.x c.in-Some.found.depth c.saturating_sub-by.result c.in-Some.found.held.now c.in-Variable.is c.in-Some.ensures c.saturating_sub-by.ensures c.label_in.ensures

pub returns-in-None : goal.returns-in-None
returns-in-None c = label-none c.args.scope.now c.args.name.now c.in-Variable.x (label.Literal c.new.result) c.in-Variable.is c.in-None.ensures (ap (λ z. label.Literal z) c.new.ensures)

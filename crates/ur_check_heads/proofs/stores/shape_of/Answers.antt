use Rattle.std.proofs.Common.{subst}
use Rattle.ur_rows.specs.declared.normal.Normal.TheVariants as normal
use Rattle.ur_sqltype.specs.Table.{IsTable}
use Rattle.ur_check_heads.proofs.Storing.{shape-is}
use Rattle.ur_check_heads.proofs.stores.shape_of.Goals as goal

pub returns-in-Ok-clause-shape : goal.returns-in-Ok-clause-shape
returns-in-Ok-clause-shape c =
    shape-is c.args.name.now c.args.of c.args.keys.now c.in_ok-shape-in-Ok.shape (subst (λ x. IsTable x (normal.Type c.args.of) c.args.keys.now c.in_ok-shape-in-Ok.shape) c.in-Ok.ensures.cases.0 c.in_ok-shape-in-Ok.ensures.shape)

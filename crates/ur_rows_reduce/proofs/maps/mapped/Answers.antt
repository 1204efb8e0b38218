use Rattle.ur_rows_reduce.proofs.Applying.{map-by, map-by-function}
use Rattle.ur_rows_reduce.proofs.maps.mapped.Goals as goal

pub returns-in-Some : goal.returns-in-Some
returns-in-Some c = map-by c.mapped_held.result c.args.f.now c.args.r.now c.in-Form.form c.in-Some.t.now c.in-Form.is c.in-Some.ensures c.mapped_held.ensures

pub returns-in-TypeFunction : goal.returns-in-TypeFunction
returns-in-TypeFunction c = map-by-function c.mapped_held_by_large.result c.args.f.now c.args.r.now c.in-Large.large c.in-Large.is c.in-TypeFunction.is c.mapped_held_by_large.ensures

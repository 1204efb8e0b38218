use Rattle.std.proofs.Common.{subst, length, ◌≤◌, ◌<◌, arith}
use Rattle.ur_check_walk.proofs.Aiming.{enough, too-many-told}
use Rattle.ur_check_walk.proofs.targets.few_enough.Goals as goal

pub returns-then-given-types-clause-ok : goal.returns-then-given-types-clause-ok
returns-then-given-types-clause-ok c = enough c.args.args.now c.args.types.now (subst (λ z. length z ≤ length c.args.types.now) c.as_slice-given.ensures c.if-given-types.true)

pub returns-clause-refused : goal.returns-clause-refused
returns-clause-refused c =
    let more : length c.args.types.now < length c.as_slice-given.result.now = omega (arith, c.if-given-types.false) in
    too-many-told c.args.args.now c.args.types.now c.too_many.result (subst (λ z. length c.args.types.now < length z) c.as_slice-given.ensures more) c.too_many.ensures

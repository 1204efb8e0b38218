use Rattle.std.proofs.Common.{◌≡◌, ap, drop, arith}
use Rattle.std.proofs.lemmas.List.{drop_all}
use Rattle.ur_values.specs.Size.{sizes}
use Rattle.ur_cache.proofs.size.rows_size.Goals as goal

pub returns : goal.returns
returns c =
    let i = c.loop-row.row-index in
    let none : sizes (drop i c.args.rows.now) ≡ 0 = ap (λ ks. sizes ks) (drop_all i c.args.rows.now c.loop-row-test.false) in
    omega (arith, none, c.loop-row.invariant.0, c.loop-row.invariant.1)

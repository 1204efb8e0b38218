use Rattle.std.proofs.Common.{◌≡◌, Some, rules}
use Rattle.ur_keeper_bodies.specs.Rows.{row_of, kinds_in, MayStand}
use Rattle.ur_keeper_kept.proofs.GrowingStores.{new-sizes, new-long, new-is}
use Rattle.ur_keeper_kept.proofs.growing.new_body.Goals as goal

pub columns_bytes-requires-clause-sizes : goal.columns_bytes-requires-clause-sizes
columns_bytes-requires-clause-sizes c =
    let may : MayStand (kinds_in c.args.others.now) c.in-Some.row = search rules in
    new-sizes c.args.columns.now c.args.others.now c.in-Some.row c.in_ok-new.new c.in_ok-new.ensures may.sizes

pub columns_bytes-requires-clause-long : goal.columns_bytes-requires-clause-long
columns_bytes-requires-clause-long c = new-long c.args.columns.now c.args.others.now c.in-Some.row c.in_ok-new.new c.in_ok-new.ensures

pub returns-clause-body : goal.returns-clause-body
returns-clause-body c =
    let read : row_of (kinds_in c.args.others.now) c.args.body.now ≡ Some c.in-Some.row = search rules in
    new-is c.args.columns.now c.args.others.now c.args.body.now c.in_ok-bytes.bytes c.in-Some.row c.in_ok-new.new read c.in_ok-new.ensures c.in_ok-bytes.ensures

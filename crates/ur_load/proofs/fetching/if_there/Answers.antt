-- What was fetched.
use Rattle.std.proofs.Common.{ℕ, List, Option}
use Rattle.ur_load.proofs.Fetched.{whole_there, nothing_there, long_only, said_no_fault}
use Rattle.ur_load.proofs.fetching.if_there.Goals as goal

pub returns-in-Whole-clause-bytes : goal.returns-in-Whole-clause-bytes
returns-in-Whole-clause-bytes g c = whole_there (g.S.Shelf.told c.args.shelf.now) c.args.file.now c.in-Whole.bytes c.in_ok-fetched.fetched c.in-Whole.is c.in_ok-fetched.ensures.contents

pub returns-in-Longer-clause-refused : goal.returns-in-Longer-clause-refused
returns-in-Longer-clause-refused g c =
    long_only (Option (List ℕ)) (g.S.Shelf.told c.args.shelf.now) c.args.file.now c.in_ok-fetched.fetched c.too_long.result c.in-Longer.is c.in_ok-fetched.ensures.contents c.too_long.ensures

pub returns-in-Longer-clause-shelf : goal.returns-in-Longer-clause-shelf
returns-in-Longer-clause-shelf g c = said_no_fault (Option (List ℕ)) _ c.args.file.now 20 _ _ c.too_long.result c.too_long.ensures

pub returns-in-Missing-clause-bytes : goal.returns-in-Missing-clause-bytes
returns-in-Missing-clause-bytes g c = nothing_there (g.S.Shelf.told c.args.shelf.now) c.args.file.now c.in_ok-fetched.fetched c.in-Missing.is c.in_ok-fetched.ensures.contents

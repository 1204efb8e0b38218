-- What was fetched.
use Rattle.std.proofs.Common.{ℕ, List}
use Rattle.ur_load.proofs.Fetched.{whole_there, missing_refused, long_refused, said_no_fault}
use Rattle.ur_load.proofs.fetching.needed.Goals as goal

pub returns-in-Whole-clause-bytes : goal.returns-in-Whole-clause-bytes
returns-in-Whole-clause-bytes g c = whole_there (g.S.Shelf.told c.args.shelf.now) c.args.file.now c.in-Whole.bytes c.in_ok-fetched.fetched c.in-Whole.is c.in_ok-fetched.ensures.contents

pub returns-in-Longer-clause-refused : goal.returns-in-Longer-clause-refused
returns-in-Longer-clause-refused g c =
    long_refused (List ℕ) (g.S.Shelf.told c.args.shelf.now) c.args.file.now c.in_ok-fetched.fetched c.too_long.result c.in-Longer.is c.in_ok-fetched.ensures.contents c.too_long.ensures

pub returns-in-Longer-clause-shelf : goal.returns-in-Longer-clause-shelf
returns-in-Longer-clause-shelf g c = said_no_fault (List ℕ) _ c.args.file.now 20 _ _ c.too_long.result c.too_long.ensures

pub returns-in-Missing-clause-refused : goal.returns-in-Missing-clause-refused
returns-in-Missing-clause-refused g c =
    missing_refused (List ℕ) (g.S.Shelf.told c.args.shelf.now) c.args.file.now c.in_ok-fetched.fetched c.missing.result c.in-Missing.is c.in_ok-fetched.ensures.contents c.missing.ensures

pub returns-in-Missing-clause-shelf : goal.returns-in-Missing-clause-shelf
returns-in-Missing-clause-shelf g c = said_no_fault (List ℕ) _ c.args.file.now 2 _ _ c.missing.result c.missing.ensures

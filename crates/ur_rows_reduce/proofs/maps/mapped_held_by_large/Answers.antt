use Rattle.ur_rows_reduce.proofs.Applying.{large-map-of-large}
use Rattle.ur_rows_reduce.proofs.maps.mapped_held_by_large.Goals as goal

pub returns-in_ok-copy_outline-in-Row-large : goal.returns-in_ok-copy_outline-in-Row-large
returns-in_ok-copy_outline-in-Row-large c = large-map-of-large c.args.r.now c.in-Large.large c.in-Row-large.o c.in_ok-copy_outline-in-Row-large.field-0 c.in-Large.is c.in-Row-large.is c.in_ok-copy_outline-in-Row-large.ensures

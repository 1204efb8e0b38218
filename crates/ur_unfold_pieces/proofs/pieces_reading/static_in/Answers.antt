use Rattle.std.proofs.Common.{refl}
use Rattle.ur_unfold_pieces.proofs.Staying.{stays_so}
use Rattle.ur_unfold_pieces.proofs.Scoped.{closing_stays}
use Rattle.ur_unfold_pieces.proofs.pieces_reading.static_in.Goals as goal

pub returns-in_err-made-in-Some-clause-stays : goal.returns-in_err-made-in-Some-clause-stays
returns-in_err-made-in-Some-clause-stays c = closing_stays c.args.table.now _ refl refl c.in_err-made-in-Some.ensures.grows refl refl refl

pub returns-in-None-clause-stays : goal.returns-in-None-clause-stays
returns-in-None-clause-stays c = stays_so c.args.table.now

pub returns-in_ok-made-in-Some-clause-stays : goal.returns-in_ok-made-in-Some-clause-stays
returns-in_ok-made-in-Some-clause-stays c = closing_stays c.args.table.now _ refl refl c.in_ok-made-in-Some.ensures.grows refl refl refl

use Rattle.std.proofs.Common.{refl}
use Rattle.ur_unfold_pieces.proofs.Staying.{stays_so, moves_of}
use Rattle.ur_unfold_pieces.proofs.PiecesNumbered.{numbers_instances, added_by, moves_numbered}
use Rattle.ur_unfold_pieces.proofs.opening.Opening.number.Goals as goal

pub returns-then-not-key_fits-clause-moves : goal.returns-then-not-key_fits-clause-moves
returns-then-not-key_fits-clause-moves c = moves_of c.args.self.now c.args.self.now (stays_so c.args.self.now)

pub returns-clause-number : goal.returns-clause-number
returns-clause-number c = λ whole. numbers_instances c.args.self.now.closing c.each_once.ensures.cons c.each_once.ensures.statics c.args.self.now.instances.keys c.number.new.instances.keys c.args.key c.number.result whole.keys (c.key_fits.ensures.0 c.if-not-key_fits.false) c.number.ensures

pub returns-clause-moves : goal.returns-clause-moves
returns-clause-moves c = moves_numbered c.args.self.now _ c.args.key refl refl refl refl refl (c.key_fits.ensures.0 c.if-not-key_fits.false) (added_by c.args.self.now.instances.keys c.number.new.instances.keys c.args.key c.number.result c.number.ensures)

use Rattle.ur_terms.specs.declared.term.Op.TheVariants as op
use Rattle.ur_meaning.specs.declared.head.Head.TheVariants as head
use Rattle.ur_unfold_pieces.specs.Told.{held_told}
use Rattle.ur_unfold_table.specs.Opened.{IsOpened}
use Rattle.ur_unfold_table.proofs.Forming.{opened_none, opened_some}
use Rattle.ur_unfold_table.proofs.markups.named_input.Goals as goal

pub returns-in-None : goal.returns-in-None
returns-in-None c = opened_none c.args.named (λ n. IsOpened (head.Strict (op.Input c.args.kind n.0 n.1)) (held_told c.args.scope c.args.e.now)) c.nothing.result c.in-None.is c.nothing.ensures

pub returns-in-Some : goal.returns-in-Some
returns-in-Some c = opened_some c.args.named (λ n. IsOpened (head.Strict (op.Input c.args.kind n.0 n.1)) (held_told c.args.scope c.args.e.now)) c.held.result (c.in-Some.name, c.in-Some.text) c.in-Some.is c.held.ensures

use Rattle.std.proofs.Common.{sym, ap, ◌∙◌}
use Rattle.ur_rows.specs.declared.normal.NormalType.TheVariants as ty
use Rattle.ur_unfold_static.specs.Scopes.{cons_of}
use Rattle.ur_unfold_pieces.proofs.Values.{result_is}
use Rattle.ur_unfold_pieces.proofs.reading.result_type.Goals as goal

pub returns-in-Transaction : goal.returns-in-Transaction
returns-in-Transaction c = result_is c.args.names.now (cons_of c.args.closing.now c.args.scope.now) c.args.t.now c.get.result.now c.closed_type.result (c.in-Transaction.is ∙ ap ty.Transaction (sym c.get.ensures)) c.closed_type.ensures

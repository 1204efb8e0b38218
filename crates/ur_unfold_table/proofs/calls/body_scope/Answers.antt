use Rattle.std.proofs.Common.{refl}
use Rattle.ur_unfold_pieces.proofs.Staying.{stays_so}
use Rattle.ur_unfold_pieces.proofs.Scoped.{scopes_stay}
use Rattle.ur_unfold_table.proofs.Calling.{body_scoped}
use Rattle.ur_unfold_table.proofs.calls.body_scope.Goals as goal

pub returns-in_err-append-clause-stays : goal.returns-in_err-append-clause-stays
returns-in_err-append-clause-stays c = stays_so c.args.table.now

pub returns-clause-stays : goal.returns-clause-stays
returns-clause-stays c = scopes_stay c.args.table.now _ (record { cons = c.args.known.cons; fixed = c.append.new.self }) c.add_scope.result refl refl refl c.add_scope.ensures refl refl

pub returns-clause-scope : goal.returns-clause-scope
returns-clause-scope c = λ cs fs gs stands are.
    body_scoped c.args.table.now (record c.args.table.now { scopes = c.add_scope.new.scopes }) c.args.known c.args.fixed (record { cons = c.args.known.cons; fixed = c.append.new.self }) cs fs gs c.add_scope.result stands are refl c.in_ok-append.ensures.ok refl c.add_scope.ensures

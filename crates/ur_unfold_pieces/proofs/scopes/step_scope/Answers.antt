use Rattle.std.proofs.Common.{refl, sym, ap, ◌∙◌}
use Rattle.std.specs.Option.{option_copied}
use Rattle.ur_unfold_pieces.proofs.Staying.{stays_so}
use Rattle.ur_unfold_pieces.proofs.Scoped.{scopes_stay, step_scoped}
use Rattle.ur_unfold_pieces.proofs.scopes.step_scope.Goals as goal

pub returns-in_err-cons-in-Some-clause-stays : goal.returns-in_err-cons-in-Some-clause-stays
returns-in_err-cons-in-Some-clause-stays c = stays_so c.args.table.now

pub returns-in_err-fixed-in-Some-clause-stays : goal.returns-in_err-fixed-in-Some-clause-stays
returns-in_err-fixed-in-Some-clause-stays c = stays_so c.args.table.now

pub returns-in-None-clause-stays : goal.returns-in-None-clause-stays
returns-in-None-clause-stays c = stays_so c.args.table.now

pub returns-in_ok-fixed-in-Some-clause-scope : goal.returns-in_ok-fixed-in-Some-clause-scope
returns-in_ok-fixed-in-Some-clause-scope c = λ around k at is.
    step_scoped c.args.table.now (record c.args.table.now { scopes = c.add_scope.new.scopes }) c.args.scope around c.in-Some.around.now (record { cons = c.in_ok-cons-in-Some.cons; fixed = c.in_ok-fixed-in-Some.fixed }) c.args.step k c.add_scope.result
    (sym c.get.ensures.value ∙ ap option_copied c.in-Some.is) c.in_ok-cons-in-Some.ensures (c.in_ok-fixed-in-Some.ensures ∙ c.as_slice.ensures) refl c.add_scope.ensures at is

pub returns-in_ok-fixed-in-Some-clause-stays : goal.returns-in_ok-fixed-in-Some-clause-stays
returns-in_ok-fixed-in-Some-clause-stays c = scopes_stay c.args.table.now _ (record { cons = c.in_ok-cons-in-Some.cons; fixed = c.in_ok-fixed-in-Some.fixed }) c.add_scope.result refl refl refl c.add_scope.ensures refl refl

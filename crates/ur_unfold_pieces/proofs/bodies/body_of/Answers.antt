use Rattle.std.proofs.Common.{refl, sym, ap, ◌∙◌}
use Rattle.std.specs.Option.{option_copied}
use Rattle.ur_unfold_pieces.proofs.Staying.{stays_so}
use Rattle.ur_unfold_pieces.proofs.Scoped.{scopes_stay, added_at, body_stands}
use Rattle.ur_unfold_pieces.proofs.bodies.body_of.Goals as goal

pub returns-in_err-within-in-Some-get-clause-stays : goal.returns-in_err-within-in-Some-get-clause-stays
returns-in_err-within-in-Some-get-clause-stays c = stays_so c.args.table.now

pub returns-in_err-scope-in-Some-get-clause-stays : goal.returns-in_err-scope-in-Some-get-clause-stays
returns-in_err-scope-in-Some-get-clause-stays c = scopes_stay c.args.table.now _ c.in_ok-within-in-Some-get.within c.add_scope.result refl refl refl c.add_scope.ensures refl refl

pub returns-in-None-clause-stays : goal.returns-in-None-clause-stays
returns-in-None-clause-stays c = stays_so c.args.table.now

pub returns-in-None-get-clause-stays : goal.returns-in-None-get-clause-stays
returns-in-None-get-clause-stays c = stays_so c.args.table.now

pub returns-in_ok-scope-in-Some-get-clause-stays : goal.returns-in_ok-scope-in-Some-get-clause-stays
returns-in_ok-scope-in-Some-get-clause-stays c = scopes_stay c.args.table.now _ c.in_ok-within-in-Some-get.within c.add_scope.result refl refl refl c.add_scope.ensures refl refl

pub returns-in_ok-scope-in-Some-get-clause-body : goal.returns-in_ok-scope-in-Some-get-clause-body
returns-in_ok-scope-in-Some-get-clause-body c = λ k e whole.
    body_stands c.args.table.now (record c.args.table.now { scopes = c.add_scope.new.scopes }) c.args.number k c.in-Some.key.now c.in-Some-get.function.now c.in_ok-within-in-Some-get.within c.in_ok-scope-in-Some-get.scope e whole
    (sym c.get_index.ensures.key ∙ ap option_copied c.in-Some.is) (sym c.get.ensures.value ∙ ap option_copied c.in-Some-get.is)
    c.in_ok-within-in-Some-get.ensures.cons c.in_ok-within-in-Some-get.ensures.fixed refl
    (added_at c.args.table.now.scopes c.add_scope.new.scopes c.in_ok-within-in-Some-get.within c.in_ok-scope-in-Some-get.scope c.in_ok-scope-in-Some-get.ensures)

use Rattle.std.proofs.Common.{sym, subst}
use Rattle.ur_check_scopes.proofs.Exits.{ok-along, refused-along}
use Rattle.ur_check_walk.specs.Leading.{ClosesOne, TellsOne}
use Rattle.ur_check_walk.proofs.closed.one_closed.Goals as goal

pub returns-in-Left-clause-comes : goal.returns-in-Left-clause-comes
returns-in-Left-clause-comes c =
    ok-along c.left_closed.result (λ b h. subst (λ z. ClosesOne c.args.around.now (record { whole = c.args.begun.whole; way = z }) c.args.out b) (sym c.in-Left.is) h) c.left_closed.ensures.comes

pub returns-in-Left-clause-refused : goal.returns-in-Left-clause-refused
returns-in-Left-clause-refused c =
    refused-along c.left_closed.result (λ r h. subst (λ z. TellsOne c.args.around.now (record { whole = c.args.begun.whole; way = z }) c.args.out r) (sym c.in-Left.is) h) c.left_closed.ensures.refused

pub returns-in-Right-clause-comes : goal.returns-in-Right-clause-comes
returns-in-Right-clause-comes c =
    ok-along c.right_closed.result (λ b h. subst (λ z. ClosesOne c.args.around.now (record { whole = c.args.begun.whole; way = z }) c.args.out b) (sym c.in-Right.is) h) c.right_closed.ensures.comes

pub returns-in-Right-clause-refused : goal.returns-in-Right-clause-refused
returns-in-Right-clause-refused c =
    refused-along c.right_closed.result (λ r h. subst (λ z. TellsOne c.args.around.now (record { whole = c.args.begun.whole; way = z }) c.args.out r) (sym c.in-Right.is) h) c.right_closed.ensures.refused

pub returns-in-Negated-clause-comes : goal.returns-in-Negated-clause-comes
returns-in-Negated-clause-comes c =
    ok-along c.negated.result (λ b h. subst (λ z. ClosesOne c.args.around.now (record { whole = c.args.begun.whole; way = z }) c.args.out b) (sym c.in-Negated.is) h) c.negated.ensures.comes

pub returns-in-Negated-clause-refused : goal.returns-in-Negated-clause-refused
returns-in-Negated-clause-refused c =
    refused-along c.negated.result (λ r h. subst (λ z. TellsOne c.args.around.now (record { whole = c.args.begun.whole; way = z }) c.args.out r) (sym c.in-Negated.is) h) c.negated.ensures.refused

pub returns-in-Projected-clause-comes : goal.returns-in-Projected-clause-comes
returns-in-Projected-clause-comes c =
    ok-along c.projected.result (λ b h. subst (λ z. ClosesOne c.args.around.now (record { whole = c.args.begun.whole; way = z }) c.args.out b) (sym c.in-Projected.is) h) c.projected.ensures.comes

pub returns-in-Projected-clause-refused : goal.returns-in-Projected-clause-refused
returns-in-Projected-clause-refused c =
    refused-along c.projected.result (λ r h. subst (λ z. TellsOne c.args.around.now (record { whole = c.args.begun.whole; way = z }) c.args.out r) (sym c.in-Projected.is) h) c.projected.ensures.refused

pub returns-in-Cut-clause-comes : goal.returns-in-Cut-clause-comes
returns-in-Cut-clause-comes c =
    ok-along c.cut.result (λ b h. subst (λ z. ClosesOne c.args.around.now (record { whole = c.args.begun.whole; way = z }) c.args.out b) (sym c.in-Cut.is) h) c.cut.ensures.comes

pub returns-in-Cut-clause-refused : goal.returns-in-Cut-clause-refused
returns-in-Cut-clause-refused c =
    refused-along c.cut.result (λ r h. subst (λ z. TellsOne c.args.around.now (record { whole = c.args.begun.whole; way = z }) c.args.out r) (sym c.in-Cut.is) h) c.cut.ensures.refused

pub returns-in-Otherwise-clause-comes : goal.returns-in-Otherwise-clause-comes
returns-in-Otherwise-clause-comes c =
    ok-along c.otherwise.result (λ b h. subst (λ z. ClosesOne c.args.around.now (record { whole = c.args.begun.whole; way = z }) c.args.out b) (sym c.in-Otherwise.is) h) c.otherwise.ensures.comes

pub returns-in-Otherwise-clause-refused : goal.returns-in-Otherwise-clause-refused
returns-in-Otherwise-clause-refused c =
    refused-along c.otherwise.result (λ r h. subst (λ z. TellsOne c.args.around.now (record { whole = c.args.begun.whole; way = z }) c.args.out r) (sym c.in-Otherwise.is) h) c.otherwise.ensures.refused

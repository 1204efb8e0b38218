-- The terms so far have their types, and the branches so far fit. Each call is of smaller terms.
use Rattle.std.proofs.Common.{◌+◌, ◌*◌, take}
use Rattle.std.specs.Prelude.{All}
use Rattle.ur_code.specs.Fits.{signature}
use Rattle.ur_verify.specs.VerifyScope.{types_in}
use Rattle.ur_verify.specs.Terms.{HaveAll, BranchFits}
use Rattle.ur_verify.proofs.Sizes.{size, sizes, branch_sizes}
use Rattle.ur_verify.proofs.infer.+inferring.Given as goal

abbrev pub decreases-type_of : goal.decreases-type_of
decreases-type_of l = 5 * size l.term.now

abbrev pub decreases-types_of : goal.decreases-types_of
decreases-types_of l = 5 * sizes l.terms.now + 1

abbrev pub decreases-make_type : goal.decreases-make_type
decreases-make_type l = 5 * sizes l.args.now + 2

abbrev pub decreases-call_type : goal.decreases-call_type
decreases-call_type l = 5 * sizes l.args.now + 2

abbrev pub decreases-let_type : goal.decreases-let_type
decreases-let_type l = 5 * (sizes l.args.now + size l.body.now) + 2

abbrev pub decreases-of_type : goal.decreases-of_type
decreases-of_type l = 5 * size l.term.now + 1

abbrev pub decreases-if_type : goal.decreases-if_type
decreases-if_type l = 5 * (size l.test.now + size l.yes.now + size l.no.now) + 2

abbrev pub decreases-branch_type : goal.decreases-branch_type
decreases-branch_type l = 5 * size l.branch.now.body + 1

abbrev pub decreases-branch_is : goal.decreases-branch_is
decreases-branch_is l = 5 * size l.branch.now.body + 2

abbrev pub decreases-branches_type : goal.decreases-branches_type
decreases-branches_type l = 5 * branch_sizes l.branches.now + 3

abbrev pub decreases-case_type : goal.decreases-case_type
decreases-case_type l = 5 * (size l.of.now + branch_sizes l.branches.now) + 4

abbrev pub decreases-xml_type : goal.decreases-xml_type
decreases-xml_type l = 5 * size l.body.now + 1

abbrev pub decreases-each_type : goal.decreases-each_type
decreases-each_type l = 5 * (size l.rows.now + size l.body.now) + 2

abbrev pub invariant-types_of-loop-i : goal.invariant-types_of-loop-i
invariant-types_of-loop-i l = HaveAll (signature l.code) (types_in l.env) (take l.i l.terms) l.types

abbrev pub invariant-branches_type-loop-i : goal.invariant-branches_type-loop-i
invariant-branches_type-loop-i l = All (λ b. BranchFits (signature l.code) (types_in l.env) l.of b l.made) (take l.i l.branches)

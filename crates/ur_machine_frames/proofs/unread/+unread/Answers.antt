use Rattle.std.proofs.Common.{◌≡◌, All, Some, ◌+◌, sym, ap, subst, ◌∙◌, arith}
use Rattle.std.proofs.lemmas.List.{take_all}
use Rattle.std.proofs.lemmas.List.Elements.{All-more, recursion_from_All}
use Rattle.ur_terms.specs.declared.term.Term.TheVariants as t
use Rattle.ur_machine_frames.specs.Unread.{under, Unread, BranchUnread}
use Rattle.ur_machine_frames.proofs.Bound.{under_sum}
use Rattle.ur_machine_frames.proofs.Lists.{unread-Make, unread-Call, unread-Let, unread-If, unread-Case, unread-Each}
use Rattle.ur_machine_frames.proofs.unread.+unread.Goals as goal

-- ---- a term

pub is_unread-returns-in-Make : goal.is_unread-returns-in-Make
is_unread-returns-in-Make n c = λ h. subst (Unread c.args.number) (sym c.in-Make.is) (unread-Make c.args.number c.in-Make.field-0 c.in-Make.args
    (recursion_from_All (Unread c.args.number) c.in-Make.args (subst (All (Unread c.args.number)) c.as_slice.ensures (c.are_unread.ensures h))))

pub is_unread-returns-in-Call : goal.is_unread-returns-in-Call
is_unread-returns-in-Call n c = λ h. subst (Unread c.args.number) (sym c.in-Call.is) (unread-Call c.args.number c.in-Call.field-0 c.in-Call.args
    (recursion_from_All (Unread c.args.number) c.in-Call.args (subst (All (Unread c.args.number)) c.as_slice-in-Call.ensures (c.are_unread-in-Call.ensures h))))

pub is_unread-returns-else-not-are_unread : goal.is_unread-returns-else-not-are_unread
is_unread-returns-else-not-are_unread n c = λ h. subst (Unread c.args.number) (sym c.in-Let.is) (unread-Let c.args.number c.in-Let.args c.in-Let.body
    (recursion_from_All (Unread c.args.number) c.in-Let.args (subst (All (Unread c.args.number)) c.as_slice-in-Let.ensures (c.are_unread-in-Let.ensures c.if-not-are_unread.false)))
    (subst (λ b. Unread (under b c.args.number) c.in-Let.body) c.len.ensures (subst (λ z. Unread (under c.len.result c.args.number) z) c.get.ensures (c.is_unread_under.ensures h))))

pub is_unread-returns-else-not-is_unread-2 : goal.is_unread-returns-else-not-is_unread-2
is_unread-returns-else-not-is_unread-2 n c = λ h. subst (Unread c.args.number) (sym c.in-If.is) (unread-If c.args.number c.in-If.condition c.in-If.yes c.in-If.no
    (subst (Unread c.args.number) c.get-in-If.ensures (c.is_unread.ensures c.if-not-is_unread.false))
    (subst (Unread c.args.number) c.get-in-If-2.ensures (c.is_unread-in-If.ensures c.if-not-is_unread-2.false))
    (subst (Unread c.args.number) c.get-in-If-3.ensures (c.is_unread-in-If-2.ensures h)))

pub is_unread-returns-else-not-is_unread-3 : goal.is_unread-returns-else-not-is_unread-3
is_unread-returns-else-not-is_unread-3 n c = λ h. subst (Unread c.args.number) (sym c.in-Case.is) (unread-Case c.args.number c.in-Case.subject c.in-Case.branches
    (subst (Unread c.args.number) c.get-in-Case.ensures (c.is_unread-in-Case.ensures c.if-not-is_unread-3.false))
    (recursion_from_All (BranchUnread c.args.number) c.in-Case.branches (subst (All (BranchUnread c.args.number)) c.as_slice-in-Case.ensures (c.are_branches_unread.ensures h))))

pub is_unread-returns-else-not-is_unread-4 : goal.is_unread-returns-else-not-is_unread-4
is_unread-returns-else-not-is_unread-4 n c = λ h. subst (Unread c.args.number) (sym c.in-Each.is) (unread-Each c.args.number c.in-Each.rows c.in-Each.body
    (subst (Unread c.args.number) c.get-in-Each.ensures (c.is_unread-in-Each.ensures c.if-not-is_unread-4.false))
    (subst (λ z. Unread (under 1 c.args.number) z) c.get-in-Each-2.ensures (c.is_unread_under-in-Each.ensures h)))

pub is_unread_under-returns-in-Some : goal.is_unread_under-returns-in-Some
is_unread_under-returns-in-Some n c = λ h.
    let same : c.in-Some.inside ≡ under c.args.bound c.args.number = omega (arith, under_sum c.args.bound c.args.number, c.in-Some.ensures) in
    subst (λ k. Unread k c.args.body.now) same (c.is_unread.ensures h)

-- ---- lists

pub are_unread-loop-term-preserved : goal.are_unread-loop-term-preserved
are_unread-loop-term-preserved n c = All-more (Unread c.args.number) c.args.terms.now c.loop-term.term-index c.term-item.result c.loop-term-test.true c.loop-term.invariant
    (subst (Unread c.args.number) c.term-item.is (c.is_unread.ensures c.if-not-is_unread.false))

pub are_unread-returns : goal.are_unread-returns
are_unread-returns n c = λ e. subst (All (Unread c.args.number)) (take_all c.loop-term.term-index c.args.terms.now c.loop-term-test.false) c.loop-term.invariant

pub are_branches_unread-loop-branch-preserved : goal.are_branches_unread-loop-branch-preserved
are_branches_unread-loop-branch-preserved n c = All-more (BranchUnread c.args.number) c.args.branches.now c.loop-branch.branch-index c.branch-item.result c.loop-branch-test.true c.loop-branch.invariant
    (subst (BranchUnread c.args.number) c.branch-item.is (c.is_branch_unread.ensures c.if-not-is_branch_unread.false))

pub are_branches_unread-returns : goal.are_branches_unread-returns
are_branches_unread-returns n c = λ e. subst (All (BranchUnread c.args.number)) (take_all c.loop-branch.branch-index c.args.branches.now c.loop-branch-test.false) c.loop-branch.invariant

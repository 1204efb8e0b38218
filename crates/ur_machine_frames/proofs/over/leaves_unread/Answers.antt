use Rattle.std.proofs.Common.{All, sym, subst}
use Rattle.std.proofs.lemmas.List.Elements.{recursion_from_All}
use Rattle.ur_terms.specs.declared.term.Term.{out-Term}
use Rattle.ur_machine_frames.specs.Unread.{BranchUnread}
use Rattle.ur_machine_frames.specs.Over.{LeavesUnread}
use Rattle.ur_machine_frames.proofs.Ending.{leaves_case}
use Rattle.ur_machine_frames.proofs.over.leaves_unread.Goals as goal

pub returns-in-Subject-Case : goal.returns-in-Subject-Case
returns-in-Subject-Case c = λ h. subst (λ f. LeavesUnread f (out-Term c.args.place.now) c.args.number) (sym c.in-Subject-Case.is-0)
    (leaves_case c.args.place.now c.in-Subject-Case.field-0-1 c.in-Subject-Case.branches c.args.number c.in-Subject-Case.is-1
    (recursion_from_All (BranchUnread c.args.number) c.in-Subject-Case.branches (subst (All (BranchUnread c.args.number)) c.as_slice.ensures (c.are_branches_unread.ensures h))))

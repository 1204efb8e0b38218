use Rattle.std.proofs.Common.{sym, ap, ◌∙◌, subst, Some}
use Rattle.std.specs.Prelude.{option_copied}
use Rattle.ur_syntax.specs.Names.{name_text}
use Rattle.ur_syntax.specs.declared.con.ConForm.TheVariants as con
use Rattle.ur_syntax.specs.HasKind.{HasKind, member_named}
use Rattle.ur_kinds.specs.Faults.{unknown, no_member}
use Rattle.ur_kinds.specs.Walk.{scope_of}
use Rattle.ur_kinds.proofs.Walking.{fault-here}
use Rattle.ur_kinds.proofs.words.member.Goals as goal

pub returns-in_ok-copy_kind-in-Some-clause-kind : goal.returns-in_ok-copy_kind-in-Some-clause-kind
returns-in_ok-copy_kind-in-Some-clause-kind c = subst (λ k. HasKind (scope_of c.args.names.now) (con.Member c.args.m.now c.args.x.now) k) (sym c.in_ok-copy_kind-in-Some.ensures)
    (member_named (sym c.seen.ensures ∙ ap option_copied c.in-Some.is))

pub returns-in_ok-unknown_member-in-None-clause-refused : goal.returns-in_ok-unknown_member-in-None-clause-refused
returns-in_ok-unknown_member-in-None-clause-refused c = fault-here {f = unknown (name_text (Some c.args.m.now) c.args.x.now)} (no_member (sym c.seen.ensures ∙ ap option_copied c.in-None.is)) c.in_ok-unknown_member-in-None.ensures

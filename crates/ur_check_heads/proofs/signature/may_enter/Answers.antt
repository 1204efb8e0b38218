use Rattle.ur_check_scopes.specs.Views.{head_in}
use Rattle.ur_check_heads.specs.Entries.{no_page, no_link}
use Rattle.ur_check_heads.proofs.RoutesEntering.{may-so, told-anyhow}
use Rattle.ur_check_heads.proofs.signature.may_enter.Goals as goal
use Rattle.std.proofs.Common.{sym, ap, ◌∙◌}
use Rattle.ur_tree.specs.Typing.{are_linkable, types_of}

pub returns-then-not-is_page-clause-refused : goal.returns-then-not-is_page-clause-refused
returns-then-not-is_page-clause-refused c = told-anyhow c.not_so.result _ _ (no_page (sym c.is_page.ensures ∙ c.if-not-is_page.true)) c.not_so.ensures

pub returns-then-are_linkable-clause-ok : goal.returns-then-are_linkable-clause-ok
returns-then-are_linkable-clause-ok c =
    may-so (head_in c.args.head.now) c.is_page.result c.are_linkable.result c.is_page.ensures c.if-not-is_page.false (c.are_linkable.ensures ∙ ap (λ ps. are_linkable (types_of ps)) c.as_slice.ensures) c.if-are_linkable.true

pub returns-clause-refused : goal.returns-clause-refused
returns-clause-refused c =
    told-anyhow c.not_so-2.result _ _ (no_link (sym (c.are_linkable.ensures ∙ ap (λ ps. are_linkable (types_of ps)) c.as_slice.ensures) ∙ c.if-are_linkable.false)) c.not_so-2.ensures

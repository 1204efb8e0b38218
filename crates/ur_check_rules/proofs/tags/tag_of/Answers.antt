use Rattle.std.proofs.Common.{ap, ap₂, sym, ◌∙◌, subst}
use Rattle.ur_syntax.specs.declared.exp.ExpForm.TheVariants as e
use Rattle.ur_typed.specs.Faults.{BreaksHead}
use Rattle.ur_check_scopes.specs.Views.{Refuses}
use Rattle.ur_check_scopes.proofs.Exits.{refused-along}
use Rattle.ur_check_rules.proofs.tags.tag_of.Goals as goal

pub returns-in-Constructor-clause-refused : goal.returns-in-Constructor-clause-refused
returns-in-Constructor-clause-refused c =
    refused-along c.own_tag.result (λ r h w s k. subst (λ z. Refuses c.args.around.now.world.now.datatype_names (BreaksHead w z) r) (sym (c.in-Constructor.is ∙ ap e.Constructor (sym c.as_slice-own.ensures))) (h w s k)) c.own_tag.ensures.refused

pub returns-in-MemberConstructor-clause-refused : goal.returns-in-MemberConstructor-clause-refused
returns-in-MemberConstructor-clause-refused c =
    refused-along c.member_tag.result (λ r h w s k. subst (λ z. Refuses c.args.around.now.world.now.datatype_names (BreaksHead w z) r) (sym (c.in-MemberConstructor.is ∙ ap₂ e.MemberConstructor (sym c.as_slice-home.ensures) (sym c.as_slice-name.ensures))) (h w s k)) c.member_tag.ensures.refused

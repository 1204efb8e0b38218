use Rattle.std.proofs.Common.{refl, sym, ap, ◌∙◌, Some}
use Rattle.ur_tree.specs.Typing.{types_of}
use Rattle.ur_check_forms.proofs.Aiming.{far-told}
use Rattle.ur_check_forms.proofs.targets.acting.Goals as goal

pub returns-then-not-are_linkable-clause-refused : goal.returns-then-not-are_linkable-clause-refused
returns-then-not-are_linkable-clause-refused c = far-told (types_of c.args.front.now) c.not_linkable.result (sym c.are_linkable.ensures ∙ c.if-not-are_linkable.true) c.not_linkable.ensures

pub returns-clause-target : goal.returns-clause-target
returns-clause-target c = record { number = refl; args = c.in_ok-args.ensures; wanted = ap (λ z. Some z) c.in_ok-wanted.ensures; linkable = sym c.are_linkable.ensures ∙ c.if-not-are_linkable.false }

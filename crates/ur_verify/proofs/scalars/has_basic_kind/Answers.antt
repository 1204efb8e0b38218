-- The kind at the head is the only one.
use Rattle.std.proofs.Common.{◌∙◌, sym}
use Rattle.ur_verify.specs.Scope.{scope}
use Rattle.ur_verify.proofs.HavingKinds.{basic_kind, no_basic_kind, without_kind}
use Rattle.ur_verify.proofs.Loops.{never}
use Rattle.ur_verify.proofs.scalars.has_basic_kind.Goals as goal

pub returns-in-None : goal.returns-in-None
returns-in-None c = never (without_kind (scope c.args.params.now c.args.items.now) c.args.by.now (sym c.head_kind.ensures ∙ c.in-None.is))

pub returns-in-None-inside : goal.returns-in-None-inside
returns-in-None-inside c =
    basic_kind (scope c.args.params.now c.args.items.now) c.args.by.now c.in-Some.kind (sym c.head_kind.ensures ∙ c.in-Some.is)
    (sym c.inside.ensures ∙ c.in-None-inside.is) _ c.has_kind.ensures

pub returns-in-Some-inside : goal.returns-in-Some-inside
returns-in-Some-inside c =
    never (no_basic_kind (scope c.args.params.now c.args.items.now) c.args.by.now c.in-Some.kind c.in-Some-inside.field-0
    (sym c.head_kind.ensures ∙ c.in-Some.is) (sym c.inside.ensures ∙ c.in-Some-inside.is))

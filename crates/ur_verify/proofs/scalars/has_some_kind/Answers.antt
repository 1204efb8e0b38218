-- The kind at the head is the only one.
use Rattle.std.proofs.Common.{◌∙◌, sym}
use Rattle.ur_verify.specs.Scope.{scope}
use Rattle.ur_verify.proofs.HavingKinds.{some_kind, without_any}
use Rattle.ur_verify.proofs.Loops.{never}
use Rattle.ur_verify.proofs.scalars.has_some_kind.Goals as goal

pub returns-in-Some : goal.returns-in-Some
returns-in-Some c =
    some_kind (scope c.args.params.now c.args.items.now) c.args.by.now c.in-Some.kind (sym c.head_kind.ensures ∙ c.in-Some.is) _ c.has_kind.ensures

pub returns-in-None : goal.returns-in-None
returns-in-None c = never (without_any (scope c.args.params.now c.args.items.now) c.args.by.now (sym c.head_kind.ensures ∙ c.in-None.is))

use Rattle.std.proofs.Common.{◌∙◌, ap₂, sym}
use Rattle.ur_sqltype.specs.Scope.{column_of}
use Rattle.ur_sqltype.proofs.Leaves.{bare-kinded, bare-fault}
use Rattle.ur_sqltype.proofs.constants.bare.Goals as goal

pub returns-in_ok-unknown-in-None-clause-refused :
    goal.returns-in_ok-unknown-in-None-clause-refused
returns-in_ok-unknown-in-None-clause-refused c =
    bare-fault c.args.within.now c.args.name.now c.as_slice-in-None.result.now c.in_ok-unknown-in-None.field-0
    (sym (ap₂ (λ a columns. column_of a columns) c.as_slice.ensures c.as_slice-2.ensures) ∙ sym c.column_of.ensures ∙ c.in-None.is) c.as_slice-in-None.ensures c.in_ok-unknown-in-None.ensures

pub returns-in_ok-made-in-Some-clause-kinded : goal.returns-in_ok-made-in-Some-clause-kinded
returns-in_ok-made-in-Some-clause-kinded c =
    bare-kinded c.args.within.now c.args.name.now c.in-Some.at c.in-Some.kind c.in_ok-made-in-Some.made
    (sym (ap₂ (λ a columns. column_of a columns) c.as_slice.ensures c.as_slice-2.ensures) ∙ sym c.column_of.ensures ∙ c.in-Some.is) c.in_ok-made-in-Some.ensures

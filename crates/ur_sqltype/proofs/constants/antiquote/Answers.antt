use Rattle.std.proofs.Common.{sym}
use Rattle.ur_sqltype.proofs.Leaves.{antiquote-kinded, antiquote-fault}
use Rattle.ur_sqltype.proofs.constants.antiquote.Goals as goal

pub returns-in_ok-of_six-in-None-clause-refused :
    goal.returns-in_ok-of_six-in-None-clause-refused
returns-in_ok-of_six-in-None-clause-refused c =
    antiquote-fault c.args.within.now c.args.number c.in_ok-of_six-in-None.field-0 (sym c.in-None.ensures.value) c.in_ok-of_six-in-None.ensures

pub returns-in_ok-made-in-Some-clause-kinded : goal.returns-in_ok-made-in-Some-clause-kinded
returns-in_ok-made-in-Some-clause-kinded c = antiquote-kinded c.args.within.now c.args.number c.in-Some.kind.now c.in_ok-made-in-Some.made (sym c.in-Some.ensures.value) c.in_ok-made-in-Some.ensures

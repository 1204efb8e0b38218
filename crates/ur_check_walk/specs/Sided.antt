-- What is told of the left side of an operator.
use Rattle.std.specs.Prelude.{◌≡◌, ℕ, false, List, Some, codes}
use Rattle.ur_base.specs.declared.refusal.Refusal.{Refusal}
use Rattle.ur_syntax.specs.declared.exp.ExpForm.{ExpForm}
use Rattle.ur_tree.specs.Typing.{Operation}
use Rattle.ur_typed_rules.specs.Scopes.{World, Scope, Mode}
use Rattle.ur_typed_rules.specs.Faults.{TellsType, not_of_type}
use Rattle.ur_typed.specs.Rules.{Sites, Out, left_mode, left_may}
use Rattle.ur_typed.specs.Causes.{HasFault}
use Rattle.ur_typed.specs.Walking.{typed}

-- it has a fault, or a type that it may not have there
pub data BreaksLeft (names : List (List ℕ)) (w : World) (s : Scope) (st : Sites) (o : Operation) (x : ExpForm) (m : Mode) (r : Refusal) : Type 0 where
  left_fault : HasFault names w s st x (left_mode o m) r → BreaksLeft names w s st o x m r
  may_not : {d : Out} → typed w x s st (left_mode o m) ≡ Some d → left_may o d.of ≡ false → TellsType names r (not_of_type names d.of (codes "int, string or bool")) → BreaksLeft names w s st o x m r

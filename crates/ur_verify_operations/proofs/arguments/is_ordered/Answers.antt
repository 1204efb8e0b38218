-- Int or string.
use Rattle.std.proofs.Common.{refl, sym, subst}
use Rattle.ur_values.specs.declared.types.ValueType.{ValueType}
use Rattle.ur_terms.specs.Types.{IsOrdered, ordered_int, ordered_string}
use Rattle.ur_verify_operations.proofs.arguments.is_ordered.Goals as goal

pub returns-in-Int : goal.returns-in-Int
returns-in-Int c = ((λ q. subst (λ (t : ValueType). IsOrdered t) (sym c.in-Int.is) ordered_int), (λ h. refl))

pub returns-in-Str : goal.returns-in-Str
returns-in-Str c = ((λ q. subst (λ (t : ValueType). IsOrdered t) (sym c.in-Str.is) ordered_string), (λ h. refl))

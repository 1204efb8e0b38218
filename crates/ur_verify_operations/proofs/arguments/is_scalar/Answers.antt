-- Int, string or bool.
use Rattle.std.proofs.Common.{refl, sym, subst}
use Rattle.ur_values.specs.declared.types.ValueType.{ValueType}
use Rattle.ur_terms.specs.Types.{IsScalar, scalar_int, scalar_string, scalar_bool}
use Rattle.ur_verify_operations.proofs.arguments.is_scalar.Goals as goal

pub returns-in-Int : goal.returns-in-Int
returns-in-Int c = ((λ q. subst (λ (t : ValueType). IsScalar t) (sym c.in-Int.is) scalar_int), (λ h. refl))

pub returns-in-Str : goal.returns-in-Str
returns-in-Str c = ((λ q. subst (λ (t : ValueType). IsScalar t) (sym c.in-Str.is) scalar_string), (λ h. refl))

pub returns-in-Bool : goal.returns-in-Bool
returns-in-Bool c = ((λ q. subst (λ (t : ValueType). IsScalar t) (sym c.in-Bool.is) scalar_bool), (λ h. refl))

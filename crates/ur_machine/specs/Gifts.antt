-- The value that an operation on tables gave.
use Rattle.ur_values.specs.declared.value.Value.{Value}
use Rattle.ur_values.specs.declared.value.Value.TheVariants as v
use Rattle.ur_machine.specs.declared.given.Gift.{Gift}
use Rattle.ur_machine.specs.declared.given.Gift.TheVariants as gift

abbrev pub value_given : Gift → Value
value_given (gift.Value x) = x
value_given (gift.Rows rows) = v.Many rows

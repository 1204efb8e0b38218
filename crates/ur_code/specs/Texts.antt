-- How the functions of code are written with their types.
use Rattle.std.specs.Prelude.{ℕ, Bool, if◌then◌else◌, List, ◌++◌, codes, flat_map}
use Rattle.ur_values.specs.declared.types.ValueType.{ValueType}
use Rattle.ur_values.specs.Texts.{Names, around, type_text}
use Rattle.ur_terms.specs.declared.term.Function.{Function}
use Rattle.ur_code.specs.declared.code.Code.{Code}

-- each parameter with an arrow behind it
abbrev pub params_text : Names → List ValueType → List ℕ
params_text names = flat_map (λ t. around t (type_text names t) ++ codes " -> ")

abbrev pub result_text : Names → Bool → ValueType → List ℕ
result_text names runs t = if runs then codes "transaction " ++ around t (type_text names t) else type_text names t

-- a function's name and its type, in a line of its own
abbrev pub function_text : Names → Function → List ℕ
function_text names f = f.name ++ codes " : " ++ params_text names f.params ++ result_text names f.runs f.result ++ codes "\n"

-- a line for each function, in the order of their numbers
abbrev pub listing_text : Code → List ℕ
listing_text code = flat_map (function_text code.names) code.functions

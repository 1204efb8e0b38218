-- The cookies of a program in requests.
use Rattle.std.specs.Prelude.{ℕ, List, map, find, bytes_eq, Option, Some, None, option_map, option_and_then}
use Rattle.ur_values.specs.declared.value.Value.{Value}
use Rattle.ur_values.specs.declared.value.Value.TheVariants as v
use Rattle.ur_tags.specs.Segments.{unsegment}
use Rattle.ur_code.specs.declared.code.Cookie.{Cookie}

-- a value that may be wanting
abbrev pub optional : Option Value → Value
optional None = v.Absent
optional (Some x) = v.Present x

-- the value of the first pair of the name
abbrev pub first_value : List ℕ → List (List ℕ × List ℕ) → Option (List ℕ)
first_value name pairs = option_map (λ pair. pair.1) (find (λ pair. bytes_eq pair.0 name) pairs)

-- what a request's pairs give of a cookie: the first pair of its name, where it can be read as its kind
abbrev pub carried_value : List (List ℕ × List ℕ) → Cookie → Value
carried_value pairs c = optional (option_and_then (unsegment c.of) (first_value c.name pairs))

-- of each cookie that the program declares, by number
abbrev pub carried : List Cookie → List (List ℕ × List ℕ) → List Value
carried cookies pairs = map (carried_value pairs) cookies

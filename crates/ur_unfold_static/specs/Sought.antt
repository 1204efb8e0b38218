-- The variable that is sought among the names in an expression.
use Rattle.std.specs.Prelude.{ℕ, Bool, List}
use Rattle.std.specs.List.{list_any}
use Rattle.ur_source.specs.Names.{Name, is_con, is_fixed}
use Rattle.ur_unfold_static.specs.declared.sought.Sought.{Sought}
use Rattle.ur_unfold_static.specs.declared.sought.Sought.TheVariants as sought

abbrev pub is_sought : Sought → Name → Bool
is_sought (sought.Con n) = is_con n
is_sought (sought.Fixed n) = is_fixed n

unfoldable pub is_among : Sought → List Name → Bool
is_among of = list_any (is_sought of)

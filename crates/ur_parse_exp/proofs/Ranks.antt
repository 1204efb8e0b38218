-- What is read at a place before what: for the end of the recursion.
use Rattle.std.specs.Prelude.{◌≡◌, ◌+◌, ◌<◌, ℕ}
use Rattle.std.proofs.Common.{arith}
use Rattle.ur_parse_con.specs.declared.operator.Level.{Level}
use Rattle.ur_parse_con.specs.declared.operator.Level.TheVariants as level

abbrev pub rank : Level → ℕ
rank level.Disjunction = 20
rank level.Conjunction = 18
rank level.Append = 14
rank level.Sum = 12
rank level.Product = 10

-- what is read at the same place with a lower rank is less
pub lower : (a b x t : ℕ) → a < b → x + b ≡ t → x + a < t
lower a b x t l e = omega (arith, l, e)

-- What has constructor arguments, and what is left without them.
use Rattle.std.specs.Prelude.{◌≡◌, ◌++◌, List, reverse}
use Rattle.ur_syntax.specs.declared.con.Con.{Con}
use Rattle.ur_syntax.specs.declared.exp.ExpForm.{ExpForm}
use Rattle.ur_typed_rules.specs.Scopes.{World, Scope}
use Rattle.ur_typed_rules.specs.Faults.{Fault}
use Rattle.ur_typed.specs.Rules.{function_at}
use Rattle.ur_typed.specs.Faults.{given_to, BreaksNamed}
use Rattle.ur_check_rules.specs.Callees.{with_back, BreaksBack}

-- the expression is what is left at these arguments, the last one first
pub record Peels (x : ExpForm) (back : List Con) (head : ExpForm) : Type 0 where
  pub given : given_to x ≡ given_to head ++ reverse back
  pub at : (w : World) (s : Scope) → function_at w s x ≡ with_back w s back (function_at w s head)
  pub inside : (w : World) (s : Scope) (f : Fault) → BreaksNamed w s head f → BreaksNamed w s x f
  pub broken : (w : World) (s : Scope) (f : Fault) → BreaksBack w s (function_at w s head) back f → BreaksNamed w s x f

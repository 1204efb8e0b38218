-- What is kept from one declaration to the next, by which what the walk gives of a body it gives where all is declared.
use Rattle.std.proofs.Common.{arith, ℕ, List}
use Rattle.std.specs.Prelude.{◌≤◌}
use Rattle.ur_tree.specs.declared.typed.Typed.{Typed}
use Rattle.ur_typed.specs.Project.{enter}
use Rattle.ur_typed.specs.Declaring.{Sofar, Checked}
use Rattle.ur_typed.specs.Made.{IsMadeOf}
use Rattle.ur_typed_laws.proofs.Extending.{IsSofar, enter_is_sofar, decl_is_sofar, Extends, extends_self, extends_on, decl_extends}
use Rattle.ur_typed_laws.proofs.Upwards.{widened_all, widened_vals}
use Rattle.ur_typed_laws.proofs.Moduling.{Steady}

same : (n : ℕ) → n ≤ n
same n = omega arith

leads_outside : (m : List ℕ) (z last : Sofar) → Extends (record z { place = enter m z.place }) last → Extends z last
leads_outside m z last l = record { datatypes = l.datatypes; variants = l.variants; vals = l.vals; functions = l.functions; cookies = l.cookies; sequences = l.sequences; apart = l.apart; count = l.count }

pub steady_up : {names : List (List ℕ)} {behind : Checked} {entries : List ℕ} {app : Typed} (most : ℕ) → IsMadeOf names behind entries app → Steady IsSofar (λ z. Extends z behind.0) app most
steady_up {names} {behind} {entries} {app} most made = record {
  step = λ home d z y h k. decl_is_sofar most home d z y h k;
  enters = λ m z k. enter_is_sofar m z k;
  before = λ home d z y h l. extends_on z y behind.0 (decl_extends most home d z z y h (extends_self z)) l;
  outside = λ m z l. leads_outside m z behind.0 l;
  widens = λ z k l e. record { all = widened_all made most z k l e; before = widened_vals made most z k l e z.place.vals (same z.place.vals) };
}

-- What refusals tell, in each world and scope that the code sees.
use Rattle.std.specs.Prelude.{ℕ, List}
use Rattle.ur_base.specs.declared.refusal.Refusal.{Refusal}
use Rattle.ur_typed_rules.specs.Scopes.{World, Scope, Mode}
use Rattle.ur_typed_rules.specs.Faults.{Fault}
use Rattle.ur_typed.specs.Rules.{Sites}
use Rattle.ur_check_scopes.specs.declared.around.Around.{Around}
use Rattle.ur_check_scopes.specs.Views.{Stands, Refuses}

-- a fault of this kind; P is given the names of datatypes
abbrev pub TellsIn : Around → (List (List ℕ) → World → Scope → Fault → Type 0) → Refusal → Type 0
TellsIn a P r = (w : World) (s : Scope) → Stands a w s → Refuses a.world.now.datatype_names (P a.world.now.datatype_names w s) r

-- the same behind any statements
abbrev pub TellsBehind : Around → (List (List ℕ) → World → Scope → Sites → Fault → Type 0) → Refusal → Type 0
TellsBehind a P r = (w : World) (s : Scope) (st : Sites) → Stands a w s → Refuses a.world.now.datatype_names (P a.world.now.datatype_names w s st) r

-- the same behind any statements, whatever is wanted
abbrev pub TellsAnywhere : Around → (List (List ℕ) → World → Scope → Sites → Mode → Fault → Type 0) → Refusal → Type 0
TellsAnywhere a P r =
    (w : World) (s : Scope) (st : Sites) (m : Mode) → Stands a w s → Refuses a.world.now.datatype_names (P a.world.now.datatype_names w s st m) r

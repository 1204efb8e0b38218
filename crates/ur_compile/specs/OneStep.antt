-- Two refusals of the same files.
use Rattle.std.specs.Prelude.{◌≡◌, ℕ, List, None}
use Rattle.ur_base.specs.declared.refusal.Refusal.{Refusal}
use Rattle.ur_io.specs.Files.{Files}
use Rattle.ur_names.specs.Faults.{fault_of}
use Rattle.ur_kinds.specs.KindedFaults.{ProjectIsKinded}
use Rattle.ur_rows.specs.Nodes.{most_nodes}
use Rattle.ur_tree.specs.declared.typed.Typed.{Typed}
use Rattle.ur_typed.specs.DeclFaults.{ProjectHasFault}
use Rattle.ur_typed.specs.Source.{AreFieldNames, begun}
use Rattle.ur_load.specs.declared.loaded.Loaded.{Loaded}
use Rattle.ur_load.specs.Loaded.{IsLoaded}
use Rattle.ur_load.specs.Loads.{IsOneRefusal}
use Rattle.ur_compile.specs.Accepts.{Accepts}
use Rattle.ur_compile.specs.Explains.{Fails, Explains}

-- the names and kinds of the trees are right, and a rule of typing is broken, as the refusal tells
pub record HasTypeFault (l : Loaded) (r : Refusal) : Type 0 where
  pub fields : List (List ℕ)
  pub named : fault_of l.names l.modules l.signature ≡ None
  pub kinded : ProjectIsKinded l.names l.modules l.signature
  pub are_fields : AreFieldNames l.modules fields
  pub fault : ProjectHasFault most_nodes (begun fields) l.names l.modules l.signature r

-- Two refusals of the same files are of one step. Those of files, tokens, grammar and names are one refusal, but for E05 beside E06;
-- those of kinds have one code and one place; of the faults of types, and of those of the application, one of several is told.
pub data AreOfOneStep (files : Files) (project f g : List ℕ) (q r : Refusal) : Type 0 where
  one : IsOneRefusal f g q r → AreOfOneStep files project f g q r
  kinds : f ≡ g → q.code ≡ r.code → q.span ≡ r.span → AreOfOneStep files project f g q r
  types : (l : Loaded) → IsLoaded files project l → HasTypeFault l q → HasTypeFault l r → AreOfOneStep files project f g q r
  application : (app : Typed) → Accepts files project app → f ≡ g → Fails app q → Fails app r → AreOfOneStep files project f g q r

abbrev pub OneStep : Type 0
OneStep = (files : Files) (project f g : List ℕ) (q r : Refusal) → Explains files project f q → Explains files project g r → AreOfOneStep files project f g q r

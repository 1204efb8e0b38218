-- Where the walk has no answer there is a fault.
use Rattle.std.specs.Prelude.{◌≡◌, ℕ, true, List, Option, Some, None, nat_lt, slice_get}
use Rattle.ur_base.specs.declared.refusal.Refusal.{Refusal}
use Rattle.ur_syntax.specs.declared.con.ConName.{ConName}
use Rattle.ur_syntax.specs.declared.exp.ExpForm.{ExpForm}
use Rattle.ur_values.specs.declared.schema.ColumnKind.{ColumnKind}
use Rattle.ur_rows.specs.declared.normal.NormalType.{NormalType}
use Rattle.ur_tree.specs.Heads.{Head}
use Rattle.ur_typed_rules.specs.Names.{function, val, declared}
use Rattle.ur_typed_rules.specs.Scopes.{World, Scope, Mode}
use Rattle.ur_typed.specs.Rules.{Sites}
use Rattle.ur_typed.specs.Walking.{typed}
use Rattle.ur_typed.specs.Parts.{StandsIn}
use Rattle.ur_typed.specs.Causes.{Breaks}
use Rattle.ur_typed_rules.specs.Faults.{Fault}
use Rattle.ur_syntax.specs.declared.decl.Module.{Module}
use Rattle.ur_syntax.specs.declared.decl.Signature.{Signature}
use Rattle.ur_typed.specs.Typed.{nothing_declared}
use Rattle.ur_typed.specs.Declaring.{nothing_yet, project_out}
use Rattle.ur_typed.specs.DeclFaults.{ProjectHasFault}

-- a fault that stands in an expression
pub record IsFaulty (names : List (List ℕ)) (w : World) (s : Scope) (st : Sites) (x : ExpForm) (m : Mode) : Type 0 where
  pub fault : Fault
  pub scope : Scope
  pub behind : Sites
  pub place : ExpForm
  pub mode : Mode
  pub stands : StandsIn w s st x m scope behind place mode
  pub broken : Breaks names w scope behind place mode fault

-- where it is not typed there is a fault in it
abbrev pub Explained : List (List ℕ) → World → ExpForm → Type 0
Explained names w x = (s : Scope) (st : Sites) (m : Mode) → typed w x s st m ≡ None → IsFaulty names w s st x m

-- each name that is declared stands for something declared
pub record IsWorld (w : World) : Type 0 where
  pub functions : (x : ConName) (f : ℕ) → declared w.globals x w.globals.values ≡ Some (function f) → (h : Head) × (slice_get w.declared.functions f ≡ Some h)
  pub vals : (x : ConName) (v : ℕ) → declared w.globals x w.globals.values ≡ Some (val v) → (t : NormalType) × (slice_get w.declared.vals v ≡ Some t)
  pub constructors : (x : ConName) (n : ℕ) → declared w.globals x w.globals.constructors ≡ Some n → (v : ℕ × Option NormalType) × (slice_get w.declared.variants n ≡ Some v)
  pub sequences : (x : ConName) (n : ℕ) → declared w.globals x w.globals.sequences ≡ Some n → nat_lt n w.declared.sequences ≡ true
  pub cookies : (x : ConName) (n : ℕ) → declared w.globals x w.globals.cookies ≡ Some n → (k : ColumnKind) × (slice_get w.declared.cookies n ≡ Some k)

-- Where an expression is not typed, there is a fault in it.
abbrev pub NoneIsFaulty : Type 0
NoneIsFaulty = (names : List (List ℕ)) (w : World) → IsWorld w → (x : ExpForm) → Explained names w x

-- Where a project is not typed, there is a fault in it.
abbrev pub NoneProjectIsFaulty : Type 0
NoneProjectIsFaulty = (most : ℕ) (fields : List (List ℕ)) (names : List (List ℕ)) (modules : List Module) (signature : Option Signature) →
    project_out most (nothing_yet (nothing_declared fields)) names modules signature ≡ None → (r : Refusal) × ProjectHasFault most (nothing_yet (nothing_declared fields)) names modules signature r

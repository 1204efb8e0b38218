-- A source is the one of a project.
use Rattle.std.specs.Prelude.{◌≡◌, ◌≢◌, ◌↔◌, ℕ, IsTrue, List, Option, Some, None, Contains, AllPairs}
use Rattle.ur_syntax.specs.declared.decl.Module.{Module}
use Rattle.ur_syntax.specs.declared.decl.Signature.{Signature}
use Rattle.ur_names.specs.Faults.{fault_of}
use Rattle.ur_kinds.specs.KindedFaults.{ProjectIsKinded}
use Rattle.ur_rows.specs.Order.{is_not_after}
use Rattle.ur_tree.specs.FieldNames.{of_modules}
use Rattle.ur_tree.specs.declared.typed.Typed.{Typed}
use Rattle.ur_typed.specs.Typed.{nothing_declared, IsTypedWithin}
use Rattle.ur_typed.specs.Declaring.{Checked, nothing_yet, project_out}
use Rattle.ur_typed.specs.Made.{IsMadeOf}

-- The names of the project are in scope and none is given twice where once is allowed, each written constructor has the kind that its
-- place wants, and `app` is its typed source, no normal form having more than `most` nodes.
pub record IsSourceWithin (most : ℕ) (names : List (List ℕ)) (modules : List Module) (signature : Option Signature) (app : Typed) : Type 0 where
  pub named : fault_of names modules signature ≡ None
  pub kinded : ProjectIsKinded names modules signature
  pub typed : IsTypedWithin most names modules signature app

abbrev pub IsSource : List (List ℕ) → List Module → Option Signature → Typed → Type 0
IsSource names modules signature app = (most : ℕ) × IsSourceWithin most names modules signature app

-- the names of fields that occur in the project, by their bytes, each once
pub record AreFieldNames (modules : List Module) (names : List (List ℕ)) : Type 0 where
  pub occur : (x : List ℕ) → Contains names x ↔ Contains (of_modules modules) x
  pub rise : AllPairs (λ a b. IsTrue (is_not_after a b) × (a ≢ b)) names

-- before the first module, the names of fields being known
abbrev pub begun : List (List ℕ) → Checked
begun fields = nothing_yet (nothing_declared fields)

-- The same as functions find it: no fault of names, the kinds are right, the declarations, bodies and signature are typed, and `app` is put
-- together of them.
pub record IsChecked (most : ℕ) (names : List (List ℕ)) (modules : List Module) (signature : Option Signature) (app : Typed) : Type 0 where
  pub named : fault_of names modules signature ≡ None
  pub kinded : ProjectIsKinded names modules signature
  pub behind : Checked
  pub entries : List ℕ
  pub typed : project_out most (begun app.names) names modules signature ≡ Some (behind, entries)
  pub made : IsMadeOf names behind entries app
  pub fields : AreFieldNames modules app.names

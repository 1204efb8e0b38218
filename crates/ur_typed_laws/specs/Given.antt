-- What has a typed source is what the function of a project gives.
use Rattle.std.specs.Prelude.{◌≡◌, ℕ, List, Option, Some, None}
use Rattle.ur_syntax.specs.declared.decl.Module.{Module}
use Rattle.ur_syntax.specs.declared.decl.Signature.{Signature}
use Rattle.ur_tree.specs.declared.typed.Typed.{Typed}
use Rattle.ur_typed.specs.Typed.{IsTypedWithin}
use Rattle.ur_typed.specs.Declaring.{Checked, project_out}
use Rattle.ur_typed.specs.Made.{IsMadeOf}
use Rattle.ur_typed.specs.Source.{AreFieldNames, begun}

-- What the function gives of the project, the names of fields being those of `app`; and `app` is put together of it.
pub record IsGiven (most : ℕ) (names : List (List ℕ)) (modules : List Module) (signature : Option Signature) (app : Typed) : Type 0 where
  pub behind : Checked
  pub entries : List ℕ
  pub given : project_out most (begun app.names) names modules signature ≡ Some (behind, entries)
  pub made : IsMadeOf names behind entries app

-- The function gives each project that has a typed source what the source is put together of.
abbrev pub TypedIsGiven : Type 0
TypedIsGiven = (most : ℕ) (names : List (List ℕ)) (modules : List Module) (signature : Option Signature) (app : Typed) → IsTypedWithin most names modules signature app → IsGiven most names modules signature app

-- A project of which the function gives nothing has no typed source.
abbrev pub NoneHasNoSource : Type 0
NoneHasNoSource = (most : ℕ) (names : List (List ℕ)) (modules : List Module) (signature : Option Signature) (fields : List (List ℕ)) (app : Typed) → AreFieldNames modules fields →
    project_out most (begun fields) names modules signature ≡ None → IsTypedWithin most names modules signature app → ⊥

-- The typed source of a project, where it has one, is put together of just what the function gives.
abbrev pub SourceIsMade : Type 0
SourceIsMade = (most : ℕ) (names : List (List ℕ)) (modules : List Module) (signature : Option Signature) (fields : List (List ℕ)) (app : Typed) (behind : Checked) (entries : List ℕ) → AreFieldNames modules fields →
    project_out most (begun fields) names modules signature ≡ Some (behind, entries) → IsTypedWithin most names modules signature app → IsMadeOf names behind entries app

-- Why a project has no source: the first fault of its names, or else of its kinds, or else of its types.
use Rattle.std.specs.Prelude.{◌≡◌, ℕ, List, Option, Some, None}
use Rattle.ur_base.specs.declared.refusal.Refusal.{Refusal}
use Rattle.ur_syntax.specs.declared.decl.Module.{Module}
use Rattle.ur_syntax.specs.declared.decl.Signature.{Signature}
use Rattle.ur_names.specs.Faults.{Fault, fault_of, TellsName}
use Rattle.ur_kinds.specs.KindedFaults.{ProjectIsKinded, KindFault}
use Rattle.ur_tree.specs.declared.typed.Typed.{Typed}
use Rattle.ur_typed.specs.DeclFaults.{ProjectHasFault}
use Rattle.ur_typed.specs.Source.{AreFieldNames, begun, IsSourceWithin}

pub data HasCause (most : ℕ) (names : List (List ℕ)) (modules : List Module) (signature : Option Signature) (r : Refusal) : Type 0 where
  by_name : {f : Fault} → fault_of names modules signature ≡ Some f → TellsName r f → HasCause most names modules signature r
  by_kind : fault_of names modules signature ≡ None → KindFault names modules signature r → HasCause most names modules signature r
  by_type : {fields : List (List ℕ)} → fault_of names modules signature ≡ None → ProjectIsKinded names modules signature → AreFieldNames modules fields →
      ProjectHasFault most (begun fields) names modules signature r → HasCause most names modules signature r

-- a project that is refused has no source within the limit
abbrev pub CausedIsNone : Type 0
CausedIsNone = (most : ℕ) (names : List (List ℕ)) (modules : List Module) (signature : Option Signature) (r : Refusal) (app : Typed) →
    HasCause most names modules signature r → IsSourceWithin most names modules signature app → ⊥

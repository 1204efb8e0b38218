-- The whole check.
use Rattle.std.proofs.Common.{◌≡◌, ◌∙◌, refl, sym, ap, subst, ℕ, List, length, Option, Some, None, Result, Ok, Err}
use Rattle.std.specs.Prelude.{pred, option_map, option_and_then}
use Rattle.ur_base.specs.declared.refusal.Refusal.{Refusal}
use Rattle.ur_syntax.specs.declared.decl.Module.{Module}
use Rattle.ur_syntax.specs.declared.decl.Signature.{Signature}
use Rattle.std.specs.Result.{IsErrAnd}
use Rattle.ur_base.specs.Stopping.{IfRefused}
use Rattle.ur_base.specs.declared.refusal.Stop.{Stop}
use Rattle.ur_base.specs.declared.refusal.Stop.TheVariants as stop
use Rattle.ur_names.specs.Faults.{Fault, fault_of, Told}
use Rattle.ur_kinds.specs.KindedFaults.{ProjectIsKinded}
use Rattle.ur_tree.specs.declared.typed.Typed.{Typed}
use Rattle.ur_typed.specs.Declaring.{Sofar, Checked, no_bodies, modules_out, entries_out, ended, project_out}
use Rattle.ur_typed.specs.DeclFaults.{EntriesHaveFault, ProjectHasFault, in_signature}
use Rattle.ur_check_heads.specs.declared.project.Project.{Project}
use Rattle.ur_check_heads.specs.Views.{Sees}
use Rattle.ur_typed.specs.Made.{IsMadeOf}
use Rattle.ur_check.specs.declared.bodies.Bodies.{Bodies as HeldBodies}
use Rattle.ur_check.specs.Views.{bodies_in, AddsModules, EntersAll, ProjectFaults, Resolves}
use Rattle.ur_typed.specs.Source.{AreFieldNames, begun, IsChecked, IsSourceWithin}
use Rattle.ur_typed_laws.specs.Sound.{CheckedIsTyped}
use Rattle.ur_check.specs.Refused.{HasCause, by_name}
use Rattle.ur_check.proofs.Counting.{modules-keep}

-- ---- the whole

project-so : (most : ℕ) (start : Checked) (names : List (List ℕ)) (modules : List Module) (signature : Option Signature) (p : Checked) (entries : List ℕ) →
    modules_out most 0 names modules start ≡ Some p → entries_out most p.0 (pred (length names)) signature ≡ Some entries →
    project_out most start names modules signature ≡ Some (p, entries)
project-so most start names modules signature p entries e k = ap (option_and_then (λ p. option_map (ended p) (entries_out most p.0 (pred (length names)) signature))) e ∙ ap (option_map (ended p)) k

begins : (fields : List (List ℕ)) (b : HeldBodies) → bodies_in b ≡ no_bodies → ◌≡◌ {A = Checked} ((begun fields).0, bodies_in b) (begun fields)
begins fields b e = λ i. ((begun fields).0, e i)

pub resolves : (names fields : List (List ℕ)) (modules : List Module) (signature : Option Signature) (p q : Project) (b c : HeldBodies) (entries : List ℕ) (app : Typed) → Sees p 0 (begun fields).0 → bodies_in b ≡ no_bodies → AddsModules p b names modules q c → EntersAll q signature entries →
    ((home : ℕ) (z : Sofar) → Sees q home z → IsMadeOf names (z, bodies_in c) entries app) → Resolves names fields modules signature app
resolves names fields modules signature p q b c entries app sees none added es made =
    let a = added (begun fields).0 sees in
    let out : modules_out 65536 0 names modules (begun fields) ≡ Some (a.0, bodies_in c) = ap (modules_out 65536 0 names modules) (sym (begins fields b none)) ∙ a.1 in
    let m : IsMadeOf names (a.0, bodies_in c) entries app = made (pred (length names)) a.0 a.2 in
    record {
      behind = (a.0, bodies_in c);
      entries = entries;
      walked = project-so 65536 (begun fields) names modules signature (a.0, bodies_in c) entries out (es (pred (length names)) a.0 a.2);
      made = m;
      kept = m.fields ∙ modules-keep 65536 0 names modules (begun fields) (a.0, bodies_in c) out;
    }

pub checked : (names fields : List (List ℕ)) (modules : List Module) (signature : Option Signature) (app : Typed) → fault_of names modules signature ≡ None →
    ProjectIsKinded names modules signature → AreFieldNames modules fields → Resolves names fields modules signature app →
    IsChecked 65536 names modules signature app
checked names fields modules signature app named kinded are_fields found = record {
  named = named;
  kinded = kinded;
  behind = found.behind;
  entries = found.entries;
  typed = ap (λ fs. project_out 65536 (begun fs) names modules signature) found.kept ∙ found.walked;
  made = found.made;
  fields = subst (AreFieldNames modules) (sym found.kept) are_fields;
}

-- what is checked is the source by the rules
pub is-source : (names : List (List ℕ)) (modules : List Module) (signature : Option Signature) (app : Typed) → CheckedIsTyped →
    length names ≡ length modules → IsChecked 65536 names modules signature app → IsSourceWithin 65536 names modules signature app
is-source names modules signature app law l i = record { named = i.named; kinded = i.kinded; typed = law 65536 names modules signature app l i }

-- ---- faults of types

-- a fault of a signature, behind all modules
pub signed-fault : (names : List (List ℕ)) (modules : List Module) (signature : Option Signature) (p q : Project) (b c : HeldBodies) (r : Refusal) →
    AddsModules p b names modules q c →
    ((home : ℕ) (z : Sofar) → Sees q home z → (s : Signature) × (signature ≡ Some s) × EntriesHaveFault 65536 z r s.vals) → ProjectFaults p b names modules signature r
signed-fault names modules signature p q b c r added fault z sees =
    let a = added z sees in
    let f = fault (pred (length names)) a.0 a.2 in
    in_signature f.1 a.1 f.2

-- a fault behind nothing
pub begun-fault : (names fields : List (List ℕ)) (modules : List Module) (signature : Option Signature) (p : Project) (b : HeldBodies) (r : Refusal) →
    Sees p 0 (begun fields).0 → bodies_in b ≡ no_bodies → ProjectFaults p b names modules signature r →
    ProjectHasFault 65536 (begun fields) names modules signature r
begun-fault names fields modules signature p b r sees none fault = subst (λ y. ProjectHasFault 65536 y names modules signature r) (begins fields b none) (fault (begun fields).0 sees)

-- a fault of names, as it is told
pub named-cause : (names : List (List ℕ)) (modules : List Module) (signature : Option Signature) (e : Stop) (result : Result Typed Stop) →
    IsErrAnd result (λ y. y ≡ e) → Told (Err e) (fault_of names modules signature) → IfRefused result (HasCause 65536 names modules signature)
named-cause names modules signature e (Ok a) i t = absurd i
named-cause names modules signature e (Err (stop.Refused r)) i t = told-cause (fault_of names modules signature) refl (subst (λ z. Told (Err z) (fault_of names modules signature)) (sym i) t)
  where
    told-cause : (o : Option Fault) → fault_of names modules signature ≡ o → Told (Err (stop.Refused r)) o → HasCause 65536 names modules signature r
    told-cause None k h = absurd h
    told-cause (Some f) k h = by_name k h
named-cause names modules signature e (Err stop.Memory) i t = tt

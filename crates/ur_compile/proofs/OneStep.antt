-- Two refusals of the same files are of one step.
use Rattle.std.proofs.Common.{◌≡◌, ◌∙◌, inl, ℕ, List, Option, Some, None, refl, sym, ap, subst}
use Rattle.ur_base.specs.declared.refusal.Refusal.{Refusal}
use Rattle.ur_base.specs.declared.refusal.Span.{Span}
use Rattle.ur_io.specs.Files.{Files}
use Rattle.ur_names.specs.Faults.{Fault, unknown, repeated, fault_of, TellsName}
use Rattle.ur_kinds.specs.KindedFaults.{start}
use Rattle.ur_kinds.specs.Decls.{in_project}
use Rattle.ur_kinds.specs.KindedLaws.{FaultyIsNotKinded, OneFaultOfKinds}
use Rattle.ur_rows.specs.Nodes.{most_nodes}
use Rattle.ur_tree.specs.declared.typed.Typed.{Typed}
use Rattle.ur_typed.specs.Source.{IsSourceWithin}
use Rattle.ur_check.specs.Refused.{HasCause, by_name, by_kind, by_type, CausedIsNone}
use Rattle.ur_load.specs.declared.loaded.Loaded.{Loaded}
use Rattle.ur_load.specs.Loaded.{IsLoaded, file_at}
use Rattle.ur_load.specs.Loads.{IsOneRefusal, OneRefusal}
use Rattle.ur_compile.specs.Accepts.{Accepts, OneApplication}
use Rattle.ur_compile.specs.Explains.{Fails, Explains, no_files, untyped, failed}
use Rattle.ur_compile.specs.OneStep.{HasTypeFault, AreOfOneStep, one, kinds, types, application, OneStep}
use Rattle.ur_compile.proofs.Refusing.{OneProject, RefusedIsNotLoaded}

some_or_none : {x : Fault} {o : Option Fault} → o ≡ Some x → o ≡ None → ⊥
some_or_none {x} e h = let both : Some x ≡ None = sym e ∙ h in cc

-- the file of one place
one_file : (l : Loaded) (f g : List ℕ) (q r : Refusal) → q.span ≡ r.span → f ≡ file_at l q.span.file → g ≡ file_at l r.span.file → f ≡ g
one_file l f g q r e h k = h ∙ ap (λ (s : Span). file_at l s.file) e ∙ sym k

one_name : (l : Loaded) (f g : List ℕ) (q r : Refusal) (x : Fault) → TellsName q x → TellsName r x → f ≡ file_at l q.span.file
    → g ≡ file_at l r.span.file → IsOneRefusal f g q r
one_name l f g q r (unknown p x) ((c, a, b), e) ((c', a', b'), e') h k = (one_file l f g q r (e ∙ sym e') h k, inl (c ∙ sym c', a ∙ sym a', b ∙ sym b'))
one_name l f g q r (repeated p x) ((c, a, b), e) ((c', a', b'), e') h k = (one_file l f g q r (e ∙ sym e') h k, inl (c ∙ sym c', a ∙ sym a', b ∙ sym b'))

same_fault : {x y : Fault} {o : Option Fault} → o ≡ Some x → o ≡ Some y → y ≡ x
same_fault {x} {y} e h = let both : Some x ≡ Some y = sym e ∙ h in cc

abbrev Source : Typed → Loaded → Type 0
Source app l = IsSourceWithin most_nodes l.names l.modules l.signature app

abbrev Cause : Loaded → Refusal → Type 0
Cause l r = HasCause most_nodes l.names l.modules l.signature r

module _ (refusals : OneRefusal) (faults : OneFaultOfKinds) (kinded : FaultyIsNotKinded) (caused : CausedIsNone) (unloaded : RefusedIsNotLoaded)
    (projects : OneProject)
    (applications : OneApplication) (files : Files) (project f g : List ℕ) (q r : Refusal) where
  two_causes : (l : Loaded) → IsLoaded files project l → Cause l q → Cause l r → f ≡ file_at l q.span.file → g ≡ file_at l r.span.file
      → AreOfOneStep files project f g q r
  two_causes l is (by_name {f = x} a t) (by_name {f = y} b t') h k = one (one_name l f g q r x t (subst (TellsName r) (same_fault a b) t') h k)
  two_causes l is (by_name a t) (by_kind b t') h k = absurd (some_or_none a b)
  two_causes l is (by_name a t) (by_type b i n t') h k = absurd (some_or_none a b)
  two_causes l is (by_kind a t) (by_name b t') h k = absurd (some_or_none b a)
  two_causes l is (by_kind a t) (by_kind b t') h k =
      let same = faults start (in_project l.names l.modules l.signature) q r t t' in
      kinds (one_file l f g q r same.1 h k) same.0 same.1
  two_causes l is (by_kind a t) (by_type b i n t') h k = absurd (kinded start (in_project l.names l.modules l.signature) q t i)
  two_causes l is (by_type a i n t) (by_name b t') h k = absurd (some_or_none b a)
  two_causes l is (by_type a i n t) (by_kind b t') h k = absurd (kinded start (in_project l.names l.modules l.signature) r t' i)
  two_causes l is (by_type {fields = fields} a i n t) (by_type {fields = others} b j m t') h k =
      types l is (record { fields = fields; named = a; kinded = i; are_fields = n; fault = t })
      (record { fields = others; named = b; kinded = j; are_fields = m; fault = t' })

  untyped_or_failed : (s : Refusal) (l : Loaded) (app : Typed) → IsLoaded files project l → Cause l s → Accepts files project app → ⊥
  untyped_or_failed s l app is cause accepted =
      caused most_nodes l.names l.modules l.signature s app cause
      (subst (Source app) (projects files project accepted.loaded l accepted.is_loaded is) accepted.is_source)

  pub of_one_step : Explains files project f q → Explains files project g r → AreOfOneStep files project f g q r
  of_one_step (no_files a) (no_files b) = one (refusals files project f g q r a b)
  of_one_step (no_files a) (untyped l is cause e) = absurd (unloaded files project f q l a is)
  of_one_step (no_files a) (failed app accepted fails e) = absurd (unloaded files project f q accepted.loaded a accepted.is_loaded)
  of_one_step (untyped l is cause e) (no_files b) = absurd (unloaded files project g r l b is)
  of_one_step (untyped l is cause e) (untyped m also cause' e') =
      let same : m ≡ l = projects files project m l also is in
      two_causes l is cause (subst (λ z. Cause z r) same cause') e (subst (λ z. g ≡ file_at z r.span.file) same e')
  of_one_step (untyped l is cause e) (failed app accepted fails e') = absurd (untyped_or_failed q l app is cause accepted)
  of_one_step (failed app accepted fails e) (no_files b) = absurd (unloaded files project g r accepted.loaded b accepted.is_loaded)
  of_one_step (failed app accepted fails e) (untyped l is cause e') = absurd (untyped_or_failed r l app is cause accepted)
  of_one_step (failed app accepted fails e) (failed other also fails' e') =
      application app accepted (e ∙ sym e') fails (subst (λ z. Fails z r) (applications files project other app also accepted) fails')

pub one_step : OneRefusal → OneFaultOfKinds → FaultyIsNotKinded → CausedIsNone → RefusedIsNotLoaded → OneProject → OneApplication → OneStep
one_step = of_one_step

-- Refusals by their reasons.
use Rattle.std.proofs.Common.{◌≡◌, sym, ap, subst, ◌∙◌, ℕ, List, Option, Some, None, Result, Ok, Err}
use Rattle.std.specs.Prelude.{IsTrue}
use Rattle.std.specs.Result.{IsErrAnd}
use Rattle.ur_base.specs.Codes.{is_refusal_code}
use Rattle.ur_base.specs.Stopping.{IfRefused}
use Rattle.ur_base.specs.Told.{WhereTold}
use Rattle.ur_base.specs.declared.refusal.Refusal.{Refusal}
use Rattle.ur_base.specs.declared.refusal.Stop.{Stop}
use Rattle.ur_base.specs.declared.refusal.Stop.TheVariants as stop
use Rattle.ur_io.specs.Files.{Files}
use Rattle.ur_syntax.specs.declared.decl.Module.{Module}
use Rattle.ur_syntax.specs.declared.decl.Signature.{Signature}
use Rattle.ur_rows.specs.Nodes.{most_nodes}
use Rattle.ur_tree.specs.declared.typed.Typed.{Typed}
use Rattle.ur_typed.specs.Source.{IsSourceWithin}
use Rattle.ur_typed_laws.specs.One.{OneTypedSource}
use Rattle.ur_check.specs.Refused.{HasCause, CausedIsNone}
use Rattle.ur_load.specs.declared.loaded.Loaded.{Loaded}
use Rattle.ur_load.specs.declared.load_end.LoadEnd.{LoadEnd}
use Rattle.ur_load.specs.declared.load_end.LoadEnd.TheVariants as load
use Rattle.ur_load.specs.Loaded.{IsLoaded, file_at}
use Rattle.ur_load.specs.Loads as loads
use Rattle.ur_load.specs.Refuses.{RefusesFiles}
use Rattle.ur_compile.specs.declared.compiled.CompileEnd.{CompileEnd}
use Rattle.ur_compile.specs.declared.compiled.CompileEnd.TheVariants as compile
use Rattle.ur_compile.specs.Accepts.{Accepts, OneApplication}
use Rattle.ur_compile.specs.Ends.{IfRefusedIn, IsFileOf, IsStopIn, end_of}
use Rattle.ur_compile.specs.Explains as explains
use Rattle.ur_compile.specs.Explains.{Fails, Explains, Refuses}
use Rattle.ur_compile.specs.Passes.{Passes}
use Rattle.ur_compile.proofs.Failing.{fails_not_passes}

-- ---- laws of loading

abbrev pub OneProject : Type 0
OneProject = (files : Files) (project : List ℕ) (l m : Loaded) → IsLoaded files project l → IsLoaded files project m → l ≡ m

abbrev pub RefusedIsNotLoaded : Type 0
RefusedIsNotLoaded = (files : Files) (project file : List ℕ) (r : Refusal) (l : Loaded) → RefusesFiles files project file r → IsLoaded files project l → ⊥

-- ---- one application

abbrev pub SourceOf : Typed → Loaded → Type 0
SourceOf app l = IsSourceWithin most_nodes l.names l.modules l.signature app

pub one_application : OneProject → OneTypedSource → OneApplication
one_application one_project one_source files project app other a b =
    let l = a.loaded in
    let at : SourceOf other l = subst (SourceOf other) (one_project files project b.loaded l b.is_loaded a.is_loaded) b.is_source in
    one_source l.names l.modules l.signature app other (most_nodes, a.is_source.typed) (most_nodes, at.typed)

-- ---- refusals of files

module _ (files : Files) (project file : List ℕ) (r : Refusal) where
  unloaded_refuses : RefusedIsNotLoaded → RefusesFiles files project file r → Refuses files project file r
  unloaded_refuses law h = record {
    why = explains.no_files h;
    none = λ app accepted passes. law files project file r accepted.loaded h accepted.is_loaded;
  }

  pub untyped_refuses : CausedIsNone → OneProject → (l : Loaded) → IsLoaded files project l → HasCause most_nodes l.names l.modules l.signature r → file ≡ file_at l r.span.file → Refuses files project file r
  untyped_refuses law one l is cause e = record {
    why = explains.untyped l is cause e;
    none = λ app accepted passes. law most_nodes l.names l.modules l.signature r app cause (subst (SourceOf app) (one files project accepted.loaded l accepted.is_loaded is) accepted.is_source);
  }

  pub failed_refuses : OneApplication → (l : Loaded) (app : Typed) → IsLoaded files project l → SourceOf app l → Fails app r → file ≡ l.project → Refuses files project file r
  failed_refuses law l app is source fails e =
      let accepted : Accepts files project app = record { loaded = l; is_loaded = is; is_source = source } in
      record {
        why = explains.failed app accepted fails (e ∙ is.from_sources.own);
        none = λ other also passes. fails_not_passes app r fails (subst Passes (law files project other app also accepted) passes);
      }

-- ---- answers

-- the code of every refusal is one of E01 to E20
pub code_named : {A : Type 0} (r : Result A CompileEnd) → IfRefusedIn r (λ file x. IsTrue (is_refusal_code x.code))
code_named (Ok b) = tt
code_named (Err (compile.Refused file x)) = x.named
code_named (Err compile.Shelf) = tt
code_named (Err compile.Memory) = tt

refused_along : {A : Type 0} (r : Result A CompileEnd) {P Q : List ℕ → Refusal → Type 0} → ((file : List ℕ) (x : Refusal) → P file x → Q file x) →
    IfRefusedIn r P → IfRefusedIn r Q
refused_along (Ok b) f h = tt
refused_along (Err (compile.Refused file x)) f h = f file x h
refused_along (Err compile.Shelf) f h = tt
refused_along (Err compile.Memory) f h = tt

-- a refusal that is handed on, in its file
pub exit_along : {B : Type 0} (r : Result B CompileEnd) (e : CompileEnd) {P Q : List ℕ → Refusal → Type 0} → IsErrAnd r (λ y. y ≡ e) →
    ((file : List ℕ) (x : Refusal) → P file x → Q file x)
    → IfRefusedIn {A = Unit {0}} (Err e) P → IfRefusedIn r Q
exit_along (Ok b) e i f h = absurd i
exit_along {B = B} (Err y) e {P = P} i f h = refused_along {A = B} (Err y) f (subst (λ z. IfRefusedIn {A = Unit {0}} (Err z) P) (sym i) h)

-- the same of one that names no file yet
pub refused_exit : {B : Type 0} (r : Result B Stop) (e : Stop) {P Q : Refusal → Type 0} → IsErrAnd r (λ y. y ≡ e) → ((x : Refusal) → P x → Q x) →
    IfRefused {A = Unit {0}} (Err e) P → IfRefused r Q
refused_exit (Ok b) e i f h = absurd i
refused_exit (Err (stop.Refused x)) e {P = P} i f h = f x (subst (λ z. IfRefused {A = Unit {0}} (Err z) P) (sym i) h)
refused_exit (Err stop.Memory) e i f h = tt

-- the refusal of a stop, in its file
pub stop_refused : (file : List ℕ) (s : Stop) (end : CompileEnd) (P : Refusal → Type 0) (Q : List ℕ → Refusal → Type 0) → IsStopIn file s end →
    IfRefused {A = Unit {0}} (Err s) P
    → ((r : Refusal) → P r → Q file r) → IfRefusedIn {A = Unit {0}} (Err end) Q
stop_refused file (stop.Refused r) (compile.Refused at' q) P Q is h f = subst (λ z. Q z q) (sym is.0) (subst (Q file) (sym is.1) (f r h))
stop_refused file (stop.Refused r) compile.Shelf P Q is h f = tt
stop_refused file (stop.Refused r) compile.Memory P Q is h f = tt
stop_refused file stop.Memory (compile.Refused at' q) P Q is h f = absurd is
stop_refused file stop.Memory compile.Shelf P Q is h f = tt
stop_refused file stop.Memory compile.Memory P Q is h f = tt

-- the cause of a stop, and the file of the number that its place carries
pub cause_refused : (l : Loaded) (names : List (List ℕ)) (modules : List Module) (signature : Option Signature) (file : List ℕ) (number : ℕ) (s : Stop) (end : CompileEnd) → names ≡ l.names → modules ≡ l.modules → signature ≡ l.signature
    → IsFileOf s number → file ≡ file_at l number → IsStopIn file s end → IfRefused {A = Unit {0}} (Err s) (HasCause most_nodes names modules signature)
    → IfRefusedIn {A = Unit {0}} (Err end) (λ file r. HasCause most_nodes l.names l.modules l.signature r × (file ≡ file_at l r.span.file))
cause_refused l names modules signature file number (stop.Refused r) (compile.Refused at' q) en em es of at is h =
    let h1 : HasCause most_nodes l.names modules signature r = subst (λ n. HasCause most_nodes n modules signature r) en h in
    let h2 : HasCause most_nodes l.names l.modules signature r = subst (λ m. HasCause most_nodes l.names m signature r) em h1 in
    let h3 : HasCause most_nodes l.names l.modules l.signature r = subst (λ o. HasCause most_nodes l.names l.modules o r) es h2 in
    (subst (HasCause most_nodes l.names l.modules l.signature) (sym is.1) h3, is.0 ∙ at ∙ ap (file_at l) of ∙ ap (λ (x : Refusal). file_at l x.span.file) (sym is.1))
cause_refused l names modules signature file number (stop.Refused r) compile.Shelf en em es of at is h = tt
cause_refused l names modules signature file number (stop.Refused r) compile.Memory en em es of at is h = tt
cause_refused l names modules signature file number stop.Memory (compile.Refused at' q) en em es of at is h = absurd is
cause_refused l names modules signature file number stop.Memory compile.Shelf en em es of at is h = tt
cause_refused l names modules signature file number stop.Memory compile.Memory en em es of at is h = tt

-- the refusal of a project that is not loaded
abbrev RefusesTold : Option Files → List ℕ → List ℕ → Refusal → Type 0
RefusesTold told project file r = WhereTold told (λ files. Refuses files project file r)

loaded_end : (told : Option Files) (project : List ℕ) (end : LoadEnd) → RefusedIsNotLoaded
    → loads.IfRefusedIn {A = Unit {0}} (Err end) (λ file r. WhereTold told (λ files. RefusesFiles files project file r)) → IfRefusedIn {A = Unit {0}} (Err (end_of end)) (RefusesTold told project)
loaded_end None project (load.Refused file r) law h = tt
loaded_end (Some files) project (load.Refused file r) law h = unloaded_refuses files project file r law h
loaded_end told project load.Shelf law h = tt
loaded_end told project load.Memory law h = tt

pub end_refused : (told : Option Files) (project : List ℕ) (end : LoadEnd) (given : CompileEnd) → given ≡ end_of end → RefusedIsNotLoaded
    → loads.IfRefusedIn {A = Unit {0}} (Err end) (λ file r. WhereTold told (λ files. RefusesFiles files project file r)) → IfRefusedIn {A = Unit {0}} (Err given) (λ file r. WhereTold told (λ files. Refuses files project file r))
end_refused told project end given e law h = subst (λ z. IfRefusedIn {A = Unit {0}} (Err z) (RefusesTold told project)) (sym e) (loaded_end told project end law h)

-- what is known for all files is so of those that are told
pub told_refused : {A : Type 0} (told : Option Files) (project : List ℕ) (l : Loaded) (r : Result A CompileEnd) →
    WhereTold told (λ files. IsLoaded files project l)
    → IfRefusedIn r (λ file x. (files : Files) (project : List ℕ) → IsLoaded files project l → Refuses files project file x)
    → IfRefusedIn r (λ file x. WhereTold told (λ files. Refuses files project file x))
told_refused told project l (Ok b) is h = tt
told_refused None project l (Err (compile.Refused file x)) is h = tt
told_refused (Some files) project l (Err (compile.Refused file x)) is h = h files project is
told_refused told project l (Err compile.Shelf) is h = tt
told_refused told project l (Err compile.Memory) is h = tt

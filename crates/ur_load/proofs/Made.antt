-- Why the sources have no trees.
use Rattle.std.proofs.Common.{◌≡◌, ℕ, List, Option, Some, None, Err, refl, sym, subst}
use Rattle.ur_base.specs.declared.refusal.Refusal.{Refusal}
use Rattle.ur_syntax.specs.declared.decl.Module.{Module as Tree}
use Rattle.ur_load.specs.Sources.{HaveTrees}
use Rattle.ur_load.specs.Refuses.{RefusesSources}
use Rattle.ur_load.specs.Loads.{IfRefusedIn, RefusesModules, RefusesSignature}
use Rattle.ur_load.specs.declared.load_end.LoadEnd.{LoadEnd}
use Rattle.ur_load.specs.declared.load_end.LoadEnd.TheVariants.{Refused, Shelf, Memory}
use Rattle.ur_load.specs.declared.source.Source.{Source}
use Rattle.ur_load.specs.declared.source.Sources.{Sources}

pub modules_why : (A B : Type 0) (sources : Sources) (end : LoadEnd) → IfRefusedIn {A = A} (Err end) (RefusesModules sources.modules)
    → IfRefusedIn {A = B} (Err end) (RefusesSources sources)
modules_why A B sources (Refused file r) h = subst (λ z. RefusesSources sources z r) (sym h.file_is) (RefusesSources.no_module h.before h.behind h.s h.trees r h.stands h.spelled h.why)
modules_why A B sources Shelf h = tt
modules_why A B sources Memory h = tt

signature_of : (sources : Sources) (trees : List Tree) (found : Option Source) (file : List ℕ) (r : Refusal) → sources.signature ≡ found → HaveTrees sources.modules trees
    → RefusesSignature found file r → RefusesSources sources file r
signature_of sources trees None file r is spelled h = absurd h
signature_of sources trees (Some s) file r is spelled (same, why) = subst (λ z. RefusesSources sources z r) (sym same) (RefusesSources.no_signature s trees r is spelled why)

pub signature_why : (A B : Type 0) (sources : Sources) (trees : List Tree) (end : LoadEnd) → HaveTrees sources.modules trees
    → IfRefusedIn {A = A} (Err end) (RefusesSignature sources.signature) → IfRefusedIn {A = B} (Err end) (RefusesSources sources)
signature_why A B sources trees (Refused file r) spelled h = signature_of sources trees sources.signature file r refl spelled h
signature_why A B sources trees Shelf spelled h = tt
signature_why A B sources trees Memory spelled h = tt

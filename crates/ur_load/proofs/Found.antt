-- What loading says of the files, step by step.
use Rattle.std.proofs.Common.{◌≡◌, ℕ, ◌+◌, ◌-◌, suc, ◌≤◌, ◌<◌, true, List, [], ◌∷◌, ◌++◌, length, take, drop, get_or, Option, Some, None, Result, Ok, Err, IfOk, IsTrue, refl, sym, ap, subst, ◌∙◌, arith}
use Rattle.std.specs.List.{list_all}
use Rattle.std.proofs.lemmas.List.{get_or_default, take-append-drop, take_more, length-take-le}
use Rattle.std.proofs.lemmas.List.Sums.{AllPass-from_list_all}
use Rattle.std.proofs.Math.Seq.{drop-cons, take-length}
use Rattle.ur_base.specs.Told.{WhereTold}
use Rattle.ur_base.specs.Stopping.{IfRefused}
use Rattle.ur_base.specs.declared.refusal.Refusal.{Refusal}
use Rattle.ur_base.specs.declared.refusal.Stop.{Stop}
use Rattle.ur_base.specs.declared.refusal.Stop.TheVariants as stop
use Rattle.ur_io.specs.Files.{Files}
use Rattle.ur_syntax.specs.declared.decl.Module.{Module}
use Rattle.ur_load.specs.Words.{is_module_name}
use Rattle.ur_load.specs.Project.{IsProject, RefusesProject, module_limit}
use Rattle.ur_load.specs.Names.{project_file, module_file, signature_file, main_of}
use Rattle.ur_load.specs.Sources.{HasFile, IsTooLong, Lacks, NamesModules, AreThere, IsSource, AreSources, HasSignature, HasSources, HaveTrees}
use Rattle.ur_load.specs.Refuses.{RefusesSources, RefusesFiles}
use Rattle.ur_load.specs.Loads.{IfRefusedIn, OnShelf, IsStopIn, HasIfThere, LacksModule, AreSmall}
use Rattle.ur_load.specs.Loaded.{IsLoaded, IsLoadedFrom, names_of}
use Rattle.ur_load.specs.declared.load_end.LoadEnd.{LoadEnd}
use Rattle.ur_load.specs.declared.load_end.LoadEnd.TheVariants.{Refused, Shelf, Memory}
use Rattle.ur_load.specs.declared.loaded.Loaded.{Loaded}
use Rattle.ur_load.specs.declared.source.Source.{Source}
use Rattle.ur_load.specs.declared.source.Sources.{Sources}

-- a weaker fact of the same refusal
pub weaker : (A B : Type 0) (P Q : List ℕ → Refusal → Type 0) (end : LoadEnd) → ((file : List ℕ) (r : Refusal) → P file r → Q file r)
    → IfRefusedIn {A = A} (Err end) P → IfRefusedIn {A = B} (Err end) Q
weaker A B P Q (Refused file r) f h = f file r h
weaker A B P Q Shelf f h = tt
weaker A B P Q Memory f h = tt

-- no fault of the shelf, whatever would follow from one
pub no_fault : {A : Type 0} (P : Type 0) (r : Result A LoadEnd) → OnShelf r ⊥ → OnShelf r P
no_fault P (Ok a) h = tt
no_fault P (Err (Refused file r)) h = tt
no_fault P (Err Shelf) h = absurd h
no_fault P (Err Memory) h = tt

-- ---- the project file

pub project_lacks : (A B : Type 0) (told : Option Files) (project file : List ℕ) (end : LoadEnd) → file ≡ project_file project
    → IfRefusedIn {A = A} (Err end) (λ at' r. (at' ≡ file) × WhereTold told (λ files. Lacks files file r))
    → IfRefusedIn {A = B} (Err end) (λ at' r. WhereTold told (λ files. RefusesFiles files project at' r))
project_lacks A B told project file end is h = weaker A B (λ at' r. (at' ≡ file) × WhereTold told (λ files. Lacks files file r))
    (λ at' r. WhereTold told (λ files. RefusesFiles files project at' r)) end (λ at' r (same, w). of told at' r (same ∙ is) (subst (λ z. WhereTold told (λ files. Lacks files z r)) is w)) h where
      of : (o : Option Files) (at' : List ℕ) (r : Refusal) → at' ≡ project_file project → WhereTold o (λ files. Lacks files (project_file project) r) → WhereTold o (λ files. RefusesFiles files project at' r)
      of None at' r same w = tt
      of (Some files) at' r same w = rw same (RefusesFiles.no_project r w)

pub stop_refused : (A B : Type 0) (file bytes : List ℕ) (s : Stop) (end : LoadEnd) → IfRefused {A = A} (Err s) (RefusesProject file bytes) → IsStopIn file s end
    → IfRefusedIn {A = B} (Err end) (λ at' r. (at' ≡ file) × RefusesProject file bytes r)
stop_refused A B file bytes (stop.Refused r) (Refused at' q) why (same, one) = (same, subst (λ z. RefusesProject file bytes z) (sym one) why)
stop_refused A B file bytes stop.Memory (Refused at' q) why says = absurd says
stop_refused A B file bytes s Shelf why says = tt
stop_refused A B file bytes s Memory why says = tt

pub stop_no_fault : (A : Type 0) (P : Type 0) (file : List ℕ) (s : Stop) (end : LoadEnd) → IsStopIn file s end → OnShelf {A = A} (Err end) P
stop_no_fault A P file s (Refused at' q) says = tt
stop_no_fault A P file s Memory says = tt
stop_no_fault A P file (stop.Refused r) Shelf says = absurd says
stop_no_fault A P file stop.Memory Shelf says = absurd says

pub project_bad : {A : Type 0} (told : Option Files) (project file bytes : List ℕ) (r : Result A LoadEnd) → file ≡ project_file project
    → WhereTold told (λ files. HasFile files file bytes) → IfRefusedIn r (λ at' q. (at' ≡ file) × RefusesProject file bytes q)
    → IfRefusedIn r (λ at' q. WhereTold told (λ files. RefusesFiles files project at' q))
project_bad told project file bytes (Ok a) is has h = tt
project_bad told project file bytes (Err Shelf) is has h = tt
project_bad told project file bytes (Err Memory) is has h = tt
project_bad None project file bytes (Err (Refused at' q)) is has h = tt
project_bad (Some files) project file bytes (Err (Refused at' q)) is has (same, why) =
    rw (same ∙ is) (RefusesFiles.bad_project bytes q (subst (λ z. HasFile files z bytes) is has) (subst (λ z. RefusesProject z bytes q) is why))

pub names_are : (told : Option Files) (project file bytes : List ℕ) (names : List (List ℕ)) → file ≡ project_file project → WhereTold told (λ files. HasFile files file bytes)
    → IsProject bytes names → length names ≤ module_limit → WhereTold told (λ files. NamesModules files project names)
names_are None project file bytes names is has p few = tt
names_are (Some files) project file bytes names is has p few = ((bytes, subst (λ z. HasFile files z bytes) is has, p), few)

pub some_names : (bytes : List ℕ) (names : List (List ℕ)) → IsProject bytes names → 0 < length names
some_names bytes [] p = absurd (p.some refl)
some_names bytes (name ∷ names) p = omega arith

pub names_found : (told : Option Files) (project file bytes : List ℕ) (r : Result (List (List ℕ)) LoadEnd) → file ≡ project_file project → WhereTold told (λ files. HasFile files file bytes)
    → IfOk r (IsProject bytes) → IfOk r (λ names. length names ≤ module_limit) → IfOk r (λ names. WhereTold told (λ files. NamesModules files project names))
names_found told project file bytes (Ok names) is has p few = names_are told project file bytes names is has p few
names_found told project file bytes (Err end) is has p few = tt

pub words_found : (bytes : List ℕ) (r : Result (List (List ℕ)) LoadEnd) → IfOk r (IsProject bytes) → IfOk r (λ names. IsTrue (list_all is_module_name names))
words_found bytes (Ok names) p = p.fit.words
words_found bytes (Err end) p = tt

pub some_found : (bytes : List ℕ) (r : Result (List (List ℕ)) LoadEnd) → IfOk r (IsProject bytes) → IfOk r (λ names. 0 < length names)
some_found bytes (Ok names) p = some_names bytes names p
some_found bytes (Err end) p = tt

-- ---- the modules

are_more : (files : Files) (project : List ℕ) (k j : ℕ) (names : List (List ℕ)) (sources : List Source) (name : List ℕ) (s : Source) → j ≡ k + length names
    → AreSources files project k names sources → IsSource files project j name s → AreSources files project k (names ++ name ∷ []) (sources ++ s ∷ [])
are_more files project k j [] [] name s e h i = (subst (λ z. IsSource files project z name s) (let same : j ≡ k = omega (arith, e) in same) i, tt)
are_more files project k j [] (t ∷ sources) name s e h i = absurd h
are_more files project k j (n ∷ names) [] name s e h i = absurd h
are_more files project k j (n ∷ names) (t ∷ sources) name s e (h, rest) i = (h, are_more files project (suc k) j names sources name s (let same : j ≡ suc k + length names = omega (arith, e) in same) rest i)

pub sources_more : (told : Option Files) (project : List ℕ) (names : List (List ℕ)) (i number : ℕ) (name : List ℕ) (sources : List Source) (s : Source)
    → i < length names → name ≡ get_or names i name → number ≡ i + 1
    → WhereTold told (λ files. AreSources files project 1 (take i names) sources) → WhereTold told (λ files. IsSource files project number name s)
    → WhereTold told (λ files. AreSources files project 1 (take (i + 1) names) (sources ++ s ∷ []))
sources_more None project names i number name sources s below at' is so_far one = tt
sources_more (Some files) project names i number name sources s below at' is so_far one =
    let front : take (i + 1) names ≡ take i names ++ name ∷ [] = take_more names i name below ∙ ap (λ z. take i names ++ z ∷ []) (sym at') in
    let size : length (take i names) ≡ i = length-take-le i names (omega arith) in
    subst (λ z. AreSources files project 1 z (sources ++ s ∷ [])) (sym front)
    (are_more files project 1 number (take i names) sources name s (omega (arith, size, is)) so_far one)

pub all_sources : (told : Option Files) (project : List ℕ) (names : List (List ℕ)) (i : ℕ) (sources : List Source) → length names ≤ i → i ≤ length names
    → WhereTold told (λ files. AreSources files project 1 (take i names) sources) → WhereTold told (λ files. AreSources files project 1 names sources)
all_sources told project names i sources past within h =
    let same : i ≡ length names = omega (arith, past, within) in
    subst (λ z. WhereTold told (λ files. AreSources files project 1 z sources)) (ap (λ z. take z names) same ∙ take-length names) h

pub small_more : (sources : List Source) (s : Source) → AreSmall sources → AreSmall (s ∷ []) → AreSmall (sources ++ s ∷ [])
small_more [] s h small = small
small_more (t ∷ sources) s (h, rest) small = (h, small_more sources s rest small)

there_all : (files : Files) (project : List ℕ) (k : ℕ) (names : List (List ℕ)) (sources : List Source) → AreSources files project k names sources → AreThere files project names
there_all files project k [] sources h = tt
there_all files project k (name ∷ names) [] h = absurd h
there_all files project k (name ∷ names) (s ∷ sources) (h, rest) = ((s.bytes, subst (λ z. HasFile files z s.bytes) h.file_is h.has), there_all files project (suc k) names sources rest)

cut_at : (names : List (List ℕ)) (i : ℕ) (name : List ℕ) → i < length names → name ≡ get_or names i name → names ≡ take i names ++ name ∷ drop (suc i) names
cut_at names i name below at' = sym (take-append-drop i names) ∙ ap (λ z. take i names ++ z) (drop-cons names i name below ∙ ap (λ z. z ∷ drop (suc i) names) (sym at'))

pub module_refused : (A B : Type 0) (told : Option Files) (project : List ℕ) (names : List (List ℕ)) (i : ℕ) (name : List ℕ) (sources : List Source) (end : LoadEnd)
    → i < length names → name ≡ get_or names i name → WhereTold told (λ files. AreSources files project 1 (take i names) sources)
    → IfRefusedIn {A = A} (Err end) (λ at' r. (at' ≡ module_file project name) × WhereTold told (λ files. Lacks files (module_file project name) r))
    → IfRefusedIn {A = B} (Err end) (λ file r. WhereTold told (λ files. LacksModule files project names file r))
module_refused A B told project names i name sources end below at' so_far h =
    weaker A B (λ at' r. (at' ≡ module_file project name) × WhereTold told (λ files. Lacks files (module_file project name) r))
    (λ file r. WhereTold told (λ files. LacksModule files project names file r)) end (λ file r (same, w). of told file r so_far same w) h where
      of : (o : Option Files) (file : List ℕ) (r : Refusal) → WhereTold o (λ files. AreSources files project 1 (take i names) sources) → file ≡ module_file project name
          → WhereTold o (λ files. Lacks files (module_file project name) r) → WhereTold o (λ files. LacksModule files project names file r)
      of None file r are same w = tt
      of (Some files) file r are same w = record {
        before = take i names;
        behind = drop (suc i) names;
        name = name;
        stands = cut_at names i name below at';
        there = there_all files project 1 (take i names) sources are;
        file_is = same;
        lacks = subst (λ z. Lacks files z r) (sym same) w;
      }

-- ---- the signature

pub signature_is : (told : Option Files) (project : List ℕ) (names : List (List ℕ)) (number : ℕ) (name file bytes : List ℕ) (s : Source) → number ≡ length names + 1 → name ≡ main_of names
    → file ≡ signature_file project (main_of names) → s ≡ record { number = number; name = name; file = file; bytes = bytes }
    → WhereTold told (λ files. HasIfThere files file (Some bytes)) → WhereTold told (λ files. HasSignature files project names (Some s))
signature_is None project names number name file bytes s n m f is h = tt
signature_is (Some files) project names number name file bytes s n m f is h = rw is (omega (arith, n), m, f, h)

pub no_signature : (told : Option Files) (project : List ℕ) (names : List (List ℕ)) (file : List ℕ) → file ≡ signature_file project (main_of names)
    → WhereTold told (λ files. HasIfThere files file None) → WhereTold told (λ files. HasSignature files project names None)
no_signature None project names file f h = tt
no_signature (Some files) project names file f h = subst (λ z. files z ≡ None) f h

-- ---- all of them

pub modules_refused : (A B : Type 0) (told : Option Files) (project : List ℕ) (names : List (List ℕ)) (end : LoadEnd) → WhereTold told (λ files. NamesModules files project names)
    → IfRefusedIn {A = A} (Err end) (λ file r. WhereTold told (λ files. LacksModule files project names file r))
    → IfRefusedIn {A = B} (Err end) (λ file r. WhereTold told (λ files. RefusesFiles files project file r))
modules_refused A B told project names end named h = weaker A B (λ file r. WhereTold told (λ files. LacksModule files project names file r))
    (λ file r. WhereTold told (λ files. RefusesFiles files project file r)) end (λ file r w. of told file r named w) h where
      of : (o : Option Files) (file : List ℕ) (r : Refusal) → WhereTold o (λ files. NamesModules files project names)
          → WhereTold o (λ files. LacksModule files project names file r) → WhereTold o (λ files. RefusesFiles files project file r)
      of None file r named w = tt
      of (Some files) file r named w = subst (λ z. RefusesFiles files project z r) (sym w.file_is)
          (RefusesFiles.no_file w.before w.behind w.name r (subst (λ z. NamesModules files project z) w.stands named) w.there (subst (λ z. Lacks files z r) w.file_is w.lacks))

pub signature_refused : (A B : Type 0) (told : Option Files) (project : List ℕ) (names : List (List ℕ)) (sources : List Source) (end : LoadEnd)
    → WhereTold told (λ files. NamesModules files project names) → WhereTold told (λ files. AreSources files project 1 names sources)
    → IfRefusedIn {A = A} (Err end) (λ at' r. (at' ≡ signature_file project (main_of names)) × WhereTold told (λ files. IsTooLong files (signature_file project (main_of names)) r))
    → IfRefusedIn {A = B} (Err end) (λ file r. WhereTold told (λ files. RefusesFiles files project file r))
signature_refused A B told project names sources end named are h = weaker A B
    (λ at' r. (at' ≡ signature_file project (main_of names)) × WhereTold told (λ files. IsTooLong files (signature_file project (main_of names)) r))
    (λ file r. WhereTold told (λ files. RefusesFiles files project file r)) end (λ file r (same, w). of told file r named are same w) h where
      of : (o : Option Files) (file : List ℕ) (r : Refusal) → WhereTold o (λ files. NamesModules files project names) → WhereTold o (λ files. AreSources files project 1 names sources)
          → file ≡ signature_file project (main_of names) → WhereTold o (λ files. IsTooLong files (signature_file project (main_of names)) r) → WhereTold o (λ files. RefusesFiles files project file r)
      of None file r named are same w = tt
      of (Some files) file r named are same w = rw same (RefusesFiles.long_signature names r named (there_all files project 1 names sources are) w)

pub has_sources : (told : Option Files) (project : List ℕ) (names : List (List ℕ)) (modules : List Source) (signature : Option Source) → WhereTold told (λ files. NamesModules files project names)
    → WhereTold told (λ files. AreSources files project 1 names modules) → WhereTold told (λ files. HasSignature files project names signature)
    → WhereTold told (λ files. HasSources files project (record { modules = modules; signature = signature }))
has_sources None project names modules signature named are has = tt
has_sources (Some files) project names modules signature named are has = record { names = names; named = named; modules = are; signature = has }

pub sources_refused : {A : Type 0} (told : Option Files) (project : List ℕ) (sources : Sources) (r : Result A LoadEnd) → WhereTold told (λ files. HasSources files project sources)
    → IfRefusedIn r (RefusesSources sources) → IfRefusedIn r (λ file q. WhereTold told (λ files. RefusesFiles files project file q))
sources_refused told project sources (Ok a) has h = tt
sources_refused told project sources (Err Shelf) has h = tt
sources_refused told project sources (Err Memory) has h = tt
sources_refused None project sources (Err (Refused file q)) has h = tt
sources_refused (Some files) project sources (Err (Refused file q)) has h = RefusesFiles.of_sources sources file q has h

-- ---- what is loaded

pub loaded_is : (told : Option Files) (project : List ℕ) (sources : Sources) (l : Loaded) → WhereTold told (λ files. HasSources files project sources) → IsLoadedFrom project sources l
    → WhereTold told (λ files. IsLoaded files project l)
loaded_is None project sources l has is = tt
loaded_is (Some files) project sources l has is = record { sources = sources; has = has; from_sources = is }

as_many : (sources : List Source) (trees : List Module) → HaveTrees sources trees → length (names_of sources) ≡ length trees
as_many [] [] h = refl
as_many [] (tree ∷ trees) h = absurd h
as_many (s ∷ sources) [] h = absurd h
as_many (s ∷ sources) (tree ∷ trees) (h, rest) = ap suc (as_many sources trees rest)

-- as many names as trees
pub named : (project : List ℕ) (sources : Sources) (l : Loaded) → IsLoadedFrom project sources l → length l.names ≡ length l.modules
named project sources l is = ap length is.names ∙ as_many sources.modules l.modules is.spelled.modules

-- ---- words and told files of a loop

pub word_at : (names : List (List ℕ)) (i : ℕ) (name : List ℕ) → i < length names → name ≡ get_or names i name → list_all is_module_name names ≡ true → is_module_name name ≡ true
word_at names i name below place h = ap is_module_name place ∙ AllPass-from_list_all is_module_name names h i name below

pub told_before : (A : Type 0) (a b : Option Files) (file : List ℕ) (end : LoadEnd) → a ≡ b
    → IfRefusedIn {A = A} (Err end) (λ at' r. (at' ≡ file) × WhereTold a (λ files. Lacks files file r)) → IfRefusedIn {A = A} (Err end) (λ at' r. (at' ≡ file) × WhereTold b (λ files. Lacks files file r))
told_before A a b file end same h = subst (λ o. IfRefusedIn {A = A} (Err end) (λ at' r. (at' ≡ file) × WhereTold o (λ files. Lacks files file r))) same h

-- ---- one file

-- the same of a file by an equal name
pub renamed : (A B : Type 0) (P : List ℕ → Refusal → Type 0) (file file' : List ℕ) (end : LoadEnd) → file ≡ file' → IfRefusedIn {A = A} (Err end) (λ at' r. (at' ≡ file) × P file r)
    → IfRefusedIn {A = B} (Err end) (λ at' r. (at' ≡ file') × P file' r)
renamed A B P file file' (Refused at' r) e h = subst (λ z. (at' ≡ z) × P z r) e h
renamed A B P file file' Shelf e h = tt
renamed A B P file file' Memory e h = tt

pub source_made : (told : Option Files) (project : List ℕ) (number : ℕ) (name shown file bytes : List ℕ) (s : Source) → shown ≡ file → file ≡ module_file project name
    → s ≡ record { number = number; name = name; file = file; bytes = bytes } → WhereTold told (λ files. HasFile files shown bytes) → WhereTold told (λ files. IsSource files project number name s)
source_made None project number name shown file bytes s e f is has = tt
source_made (Some files) project number name shown file bytes s e f is has =
    subst (λ (z : Source). IsSource files project number name z) (sym is) (record { number_is = refl; name_is = refl; file_is = f; has = subst (λ z. HasFile files z bytes) e has })

-- ---- the main module

pub main_is : (names : List (List ℕ)) (name : List ℕ) → 0 < length names → name ≡ get_or names (length names - 1) name → name ≡ main_of names
main_is names name some place = place ∙ get_or_default names (length names - 1) name [] (omega (arith, some))

pub main_word : (names : List (List ℕ)) (name : List ℕ) → 0 < length names → name ≡ get_or names (length names - 1) name → list_all is_module_name names ≡ true → is_module_name name ≡ true
main_word names name some place h = word_at names (length names - 1) name (omega (arith, some)) place h

-- ---- what was told before

pub sources_before : (a b : Option Files) (project : List ℕ) (names : List (List ℕ)) (sources : List Source) → a ≡ b → WhereTold a (λ files. AreSources files project 1 names sources)
    → WhereTold b (λ files. AreSources files project 1 names sources)
sources_before a b project names sources same h = subst (λ o. WhereTold o (λ files. AreSources files project 1 names sources)) same h

pub signature_before : (a b : Option Files) (project : List ℕ) (names : List (List ℕ)) (found : Option Source) → a ≡ b → WhereTold a (λ files. HasSignature files project names found)
    → WhereTold b (λ files. HasSignature files project names found)
signature_before a b project names found same h = subst (λ o. WhereTold o (λ files. HasSignature files project names found)) same h

pub lacks_before : (A : Type 0) (a b : Option Files) (project : List ℕ) (names : List (List ℕ)) (end : LoadEnd) → a ≡ b
    → IfRefusedIn {A = A} (Err end) (λ file r. WhereTold a (λ files. LacksModule files project names file r)) → IfRefusedIn {A = A} (Err end) (λ file r. WhereTold b (λ files. LacksModule files project names file r))
lacks_before A a b project names end same h = subst (λ o. IfRefusedIn {A = A} (Err end) (λ file r. WhereTold o (λ files. LacksModule files project names file r))) same h

pub long_before : (A : Type 0) (a b : Option Files) (file : List ℕ) (end : LoadEnd) → a ≡ b
    → IfRefusedIn {A = A} (Err end) (λ at' r. (at' ≡ file) × WhereTold a (λ files. IsTooLong files file r)) → IfRefusedIn {A = A} (Err end) (λ at' r. (at' ≡ file) × WhereTold b (λ files. IsTooLong files file r))
long_before A a b file end same h = subst (λ o. IfRefusedIn {A = A} (Err end) (λ at' r. (at' ≡ file) × WhereTold o (λ files. IsTooLong files file r))) same h

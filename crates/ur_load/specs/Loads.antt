-- Words on what loading a program answers.
use Rattle.std.specs.Prelude.{◌≡◌, ◌⊎◌, ℕ, ◌≤◌, List, [], ◌∷◌, ◌++◌, length, Option, Some, None, ⊤, Result, Err, Contains}
use Rattle.ur_base.specs.declared.refusal.Refusal.{Refusal}
use Rattle.ur_base.specs.declared.refusal.Stop.{Stop}
use Rattle.ur_base.specs.declared.refusal.Stop.TheVariants as stop
use Rattle.ur_base.specs.Stopping.{Says}
use Rattle.ur_io.specs.Files.{Files}
use Rattle.ur_io.specs.declared.shelf.FetchEnd.{FetchEnd}
use Rattle.ur_io.specs.declared.shelf.FetchEnd.TheVariants as fetch
use Rattle.ur_load.specs.Names.{module_file}
use Rattle.ur_syntax.specs.declared.decl.Module.{Module}
use Rattle.ur_parse_rules.specs.DeclParts.{whole, signature}
use Rattle.ur_load.specs.Sources.{SaysOfFile, HasFile, Lacks, AreThere, HaveTrees, file_limit}
use Rattle.ur_load.specs.Refuses.{RefusesSource, RefusesFiles}
use Rattle.ur_load.specs.declared.load_end.LoadEnd.{LoadEnd}
use Rattle.ur_load.specs.declared.load_end.LoadEnd.TheVariants.{Refused, Shelf, Memory}
use Rattle.ur_load.specs.declared.source.Source.{Source}

-- P of the file and the refusal, where nothing is loaded for one
abbrev pub IfRefusedIn : {A : Type 0} → Result A LoadEnd → (List ℕ → Refusal → Type 0) → Type 0
IfRefusedIn (Err (Refused file r)) P = P file r
IfRefusedIn r P = ⊤

-- P, where the shelf failed
abbrev pub OnShelf : {A : Type 0} → Result A LoadEnd → Type 0 → Type 0
OnShelf (Err Shelf) P = P
OnShelf r P = ⊤

-- what a failed fetch means for loading
abbrev pub load_end_of : FetchEnd → LoadEnd
load_end_of fetch.Failed = Shelf
load_end_of fetch.Memory = Memory

-- a refusal of this whole file with this code and these texts, or want of memory for it
abbrev pub SaysIn : List ℕ → ℕ → List ℕ → List ℕ → LoadEnd → Type 0
SaysIn file code left right (Refused at' r) = (at' ≡ file) × SaysOfFile r code left right
SaysIn file code left right Memory = ⊤
SaysIn file code left right Shelf = ⊥

-- the stop's refusal in this file, or want of memory
abbrev pub IsStopIn : List ℕ → Stop → LoadEnd → Type 0
IsStopIn file (stop.Refused r) (Refused at' q) = (at' ≡ file) × (q ≡ r)
IsStopIn file s Memory = ⊤
IsStopIn file s _ = ⊥

-- the two refusals have the same code and texts
abbrev pub SaysTheSame : Refusal → Refusal → Type 0
SaysTheSame r q = Says r q.code q.left q.right

-- the refusals are of one file and have the same code and texts, or each of them is E05 or E06
abbrev pub IsOneRefusal : List ℕ → List ℕ → Refusal → Refusal → Type 0
IsOneRefusal f g q r = (f ≡ g) × (SaysTheSame q r ⊎ (Contains (5 ∷ 6 ∷ []) q.code × Contains (5 ∷ 6 ∷ []) r.code))

-- files have one refusal
abbrev pub OneRefusal : Type 0
OneRefusal = (files : Files) (project f g : List ℕ) (q r : Refusal) → RefusesFiles files project f q → RefusesFiles files project g r → IsOneRefusal f g q r

-- the second refusal has the code and the texts of the first, and its place, where that is one in the source
pub record TellsOf (source : Source) (r q : Refusal) : Type 0 where
  pub says : SaysTheSame q r
  pub place : r.span.file ≡ source.number → q.span ≡ r.span

-- the stop's refusal in the file of this source, or want of memory
abbrev pub IsStopAt : Source → Stop → LoadEnd → Type 0
IsStopAt source (stop.Refused r) (Refused at' q) = (at' ≡ source.file) × TellsOf source r q
IsStopAt source s Memory = ⊤
IsStopAt source s _ = ⊥

-- what is there under a name: nothing, or a file of these bytes
abbrev pub HasIfThere : Files → List ℕ → Option (List ℕ) → Type 0
HasIfThere files name None = files name ≡ None
HasIfThere files name (Some bytes) = HasFile files name bytes

-- the refusal of the first of the modules whose file is not there or is too long
pub record LacksModule (files : Files) (project : List ℕ) (names : List (List ℕ)) (file : List ℕ) (r : Refusal) : Type 0 where
  pub before : List (List ℕ)
  pub behind : List (List ℕ)
  pub name : List ℕ
  pub stands : names ≡ before ++ name ∷ behind
  pub there : AreThere files project before
  pub file_is : file ≡ module_file project name
  pub lacks : Lacks files file r

-- the refusal of the first of the sources that no tree spells, and its file
pub record RefusesModules (sources : List Source) (file : List ℕ) (r : Refusal) : Type 0 where
  pub before : List Source
  pub behind : List Source
  pub s : Source
  pub trees : List Module
  pub stands : sources ≡ before ++ s ∷ behind
  pub spelled : HaveTrees before trees
  pub file_is : file ≡ s.file
  pub why : RefusesSource whole s r

-- the refusal of the signature, and its file
abbrev pub RefusesSignature : Option Source → List ℕ → Refusal → Type 0
RefusesSignature None file r = ⊥
RefusesSignature (Some s) file r = (file ≡ s.file) × RefusesSource signature s r

-- the refusal of this source, which is not UTF-8, or want of memory
abbrev pub SaysText : Source → Stop → Type 0
SaysText source (stop.Refused r) = (r.span.file ≡ source.number) × SaysOfFile r 3 source.file []
SaysText source stop.Memory = ⊤

-- no source has too many bytes
abbrev pub AreSmall : List Source → Type 0
AreSmall [] = ⊤
AreSmall (s ∷ sources) = (length s.bytes ≤ file_limit) × AreSmall sources

abbrev pub IsSmall : Option Source → Type 0
IsSmall None = ⊤
IsSmall (Some s) = length s.bytes ≤ file_limit

-- What is known of an expression whose form is asked.
use Rattle.std.specs.Prelude.{◌≡◌, ◌≢◌, ℕ, List, [], ◌∷◌, Option, None, Some, slice_get, Result, Ok, Err}
use Rattle.std.specs.List.{AllZip}
use Rattle.ur_meaning.specs.Form.{same_form, Language}
use Rattle.ur_meaning.specs.Instances.{Different}
use Rattle.ur_meaning.specs.declared.head.Head.TheVariants as head
use Rattle.ur_meaning.specs.declared.head.Opened.{Opened}
use Rattle.ur_meaning.specs.declared.halt.Halt.{Halt}
use Rattle.ur_meaning.specs.declared.halt.Halt.TheVariants as halt
use Rattle.ur_meaning.specs.Heads.{Heads}
use Rattle.ur_meaning.specs.Making.{Grown, Full, CallsLarge}

-- The form with its parts, which stand for expressions.
pub record Formed {P I K : Type 0} (p : Language I K) (stands : P → I → Type 0) (old new : List K) (i : I) (o : Opened P) : Type 0 where
  pub items : List I
  pub parts : AllZip stands o.parts items
  pub heads : Heads new o.head items (p.form i)
  pub grown : Grown p (i ∷ []) old new

-- the numbering is full, what is called is too large, or memory is wanted
abbrev pub Stops : {I K : Type 0} → Language I K → (K → Type 0) → (ℕ → K → Type 0) → List K → List K → I → Halt → Type 0
Stops p large named old new i halt.Nodes = ⊥
Stops p large named old new i halt.Nesting = ⊥
Stops p large named old new i (halt.Instances name) = Full p named (i ∷ []) old new name
Stops p large named old new i halt.Large = CallsLarge p large (i ∷ [])
Stops p large named old new i halt.Memory = Unit {0}

abbrev pub OpensTo : {P I K : Type 0} → Language I K → (K → Type 0) → (ℕ → K → Type 0) → (P → I → Type 0) → List K → List K → I → Result (Opened P) Halt → Type 0
OpensTo p large named stands old new i (Ok o) = Formed p stands old new i o
OpensTo p large named stands old new i (Err h) = Stops p large named old new i h

-- what stands for the body of an instance; only want of memory leaves it out
abbrev pub Embodies : {P I K : Type 0} → Language I K → (P → I → Type 0) → K → Result P Halt → Type 0
Embodies p stands k (Ok q) = (body : _) × (p.body k ≡ Some body) × stands q body
Embodies p stands k (Err halt.Memory) = Unit {0}
Embodies p stands k (Err h) = ⊥

-- The number that names the instance at this place, or there is none at it.
abbrev pub IsNameAt : {K : Type 0} → (ℕ → K → Type 0) → List K → ℕ → Option ℕ → Type 0
IsNameAt named instances place None = slice_get instances place ≡ None
IsNameAt named instances place (Some name) = (k : _) × (slice_get instances place ≡ Some k) × named name k

-- one is the same as the other
pub data Sames {I K : Type 0} (p : Language I K) : I → I → Type 0 where
  itself : (i : I) → Sames p i i
  through : (i j k : I) → p.form i ≡ same_form j → Sames p j k → Sames p i k

-- The form of what the expression is the same as.
pub record Shown {P I K : Type 0} (p : Language I K) (stands : P → I → Type 0) (old new : List K) (i : I) (o : Opened P) : Type 0 where
  pub item : I
  pub sames : Sames p i item
  pub items : List I
  pub parts : AllZip stands o.parts items
  pub heads : Heads new o.head items (p.form item)
  pub grown : Grown p (i ∷ []) old new

abbrev pub ShowsIt : {P I K : Type 0} → Language I K → (K → Type 0) → (ℕ → K → Type 0) → (P → I → Type 0) → List K → List K → I → Result (Opened P) Halt → Type 0
ShowsIt p large named stands old new i (Ok o) = Shown p stands old new i o × (o.head ≢ head.Same)
ShowsIt p large named stands old new i (Err h) = Stops p large named old new i h

-- The language stays, what stands for an expression does so on, and a sound table stays sound, its instances being each there once.
pub record Lasts {S P I K : Type 0} (language : S → Language I K) (instances : S → List K) (stands : S → P → I → Type 0) (sound : S → Type 0) (old new : S) : Type 0 where
  pub same : language new ≡ language old
  pub stays : (q : P) (i : I) → stands old q i → stands new q i
  pub keeps : sound old → sound new
  pub once : sound old → Different (instances old) → Different (instances new)

-- What variables stand for, and what is written.
use Rattle.std.specs.Prelude.{◌≡◌, Bool, ℕ, ◌≤◌, ◌+◌, List, [], ◌∷◌, ◌++◌, length, take, Option, Some, None}
use Rattle.std.specs.List.{flat_map}
use Rattle.ur_values.specs.declared.value.Value.{Value}
use Rattle.ur_values.specs.declared.value.Value.TheVariants as v
use Rattle.ur_values.specs.declared.value.Node.{Node}
use Rattle.ur_values.specs.Size.{node_sizes, node_nestings}
use Rattle.ur_terms.specs.declared.term.Branch.{Branch}
use Rattle.ur_terms.specs.declared.term.Pattern.{Pattern}
use Rattle.ur_terms.specs.declared.term.Term.{Term}
use Rattle.ur_terms.specs.Ops.{optional_text}
use Rattle.ur_terms.specs.Run.{matched, if_matches}
use Rattle.ur_machine_frames.specs.Fields.{ReadsAs}
use Rattle.ur_tags.specs.declared.routes.Handlers.{Handlers}
use Rattle.ur_tags.specs.Paths.{argument_path, path}
use Rattle.ur_tags.specs.Show.{attribute, show_nodes}
use Rattle.ur_emit.specs.declared.slots.Chunk.{Chunk}
use Rattle.ur_emit.specs.declared.slots.Slot.{Slot}
use Rattle.ur_emit.specs.declared.slots.Slot.TheVariants as slot
use Rattle.ur_emit.specs.Makes.{AreSmall, Makes, MakeAll, MakeEach, MakesCase, ReadAll}

-- the nodes of the value have these bytes, and at most this size and nesting
abbrev pub IsChunk : Handlers → Chunk → Value → Type 0
IsChunk h c x = (nodes : List Node) × (x ≡ v.Markup nodes) × (c.bytes ≡ show_nodes h nodes) × (node_sizes nodes ≤ c.size) × (node_nestings nodes ≤ c.nesting)

abbrev pub IsSlot : Handlers → Slot → Value → Type 0
IsSlot h (slot.Value r) x = r.now ≡ x
IsSlot h (slot.Rows r) x = v.Many r.now ≡ x
IsSlot h (slot.Chunk c) x = IsChunk h c x

-- the variables have these values
abbrev pub Stand : Handlers → List Slot → List Value → Type 0
Stand h [] env = env ≡ []
Stand h (s ∷ slots) env = (x : Value) × (rest : List Value) × (env ≡ x ∷ rest) × IsSlot h s x × Stand h slots rest

-- These nodes were written behind the bytes; they took at most the room that was taken, and nest at most so deep.
pub record Adds (h : Handlers) (nodes : List Node) (out out' : List ℕ) (room room' deep : ℕ) : Type 0 where
  pub bytes : out' ≡ out ++ show_nodes h nodes
  pub size : node_sizes nodes + room' ≤ room
  pub nesting : node_nestings nodes ≤ deep

-- nodes were written of which this holds
pub record Written (h : Handlers) (P : List Node → Type 0) (out out' : List ℕ) (room room' deep : ℕ) : Type 0 where
  pub nodes : List Node
  pub makes : P nodes
  pub adds : Adds h nodes out out' room room' deep

-- what a term makes was written, for whatever its variables stand
abbrev pub Emits : Handlers → List Slot → Term → List ℕ → List ℕ → ℕ → ℕ → ℕ → Type 0
Emits h slots a out out' room room' deep = (env : List Value) → Stand h slots env → Written h (Makes env a) out out' room room' deep

abbrev pub EmitAll : Handlers → List Slot → List Term → List ℕ → List ℕ → ℕ → ℕ → ℕ → Type 0
EmitAll h slots terms out out' room room' deep = (env : List Value) → Stand h slots env → Written h (MakeAll env terms) out out' room room' deep

abbrev pub EmitEach : Handlers → List Slot → Term → List Value → List ℕ → List ℕ → ℕ → ℕ → ℕ → Type 0
EmitEach h slots body items out out' room room' deep = (env : List Value) → Stand h slots env → Written h (MakeEach env body items) out out' room room' deep

-- the term comes to this value, for whatever its variables stand
abbrev pub Finds : List Slot → Term → Value → Type 0
Finds slots a x = (h : Handlers) (env : List Value) → Stand h slots env → ReadsAs env a x

-- The term comes to XML that is written here, for whatever its variables stand.
abbrev pub ComesTo : Handlers → List Slot → Term → Chunk → Type 0
ComesTo h slots a c = (env : List Value) → Stand h slots env → (x : Value) × IsChunk h c x × ReadsAs env a x

-- The term comes to XML that is written here, for these items together.
abbrev pub ComesToEach : Handlers → List Slot → Term → List Value → Chunk → Type 0
ComesToEach h slots body items c =
    (env : List Value) → Stand h slots env → (nodes : List Node) × IsChunk h c (v.Markup nodes) × MakeEach env body items nodes × AreSmall nodes

-- the term comes to what the slot stands for
abbrev pub ComesToSlot : Handlers → List Slot → Term → Slot → Type 0
ComesToSlot h slots a s = (env : List Value) → Stand h slots env → (x : Value) × IsSlot h s x × ReadsAs env a x

-- what one term comes to was put on top of the variables
pub record Binds (h : Handlers) (slots : List Slot) (args : List Term) (slots' : List Slot) : Type 0 where
  pub arg : Term
  pub slot : Slot
  pub only : args ≡ arg ∷ []
  pub on_top : slots' ≡ slot ∷ slots
  pub comes : ComesToSlot h slots arg slot

-- what a pattern binds was put on top of the variables, so many slots
pub record Bound (pattern : Pattern) (x : Value) (slots slots' : List Slot) (count : ℕ) : Type 0 where
  pub new : List Slot
  pub values : List Value
  pub many : length new ≡ count
  pub on_top : slots' ≡ new ++ slots
  pub matches : matched pattern x ≡ Some values
  pub stand : (h : Handlers) → Stand h new values

-- the same, or the pattern does not match
abbrev pub BindsAt : Pattern → Value → List Slot → List Slot → Option ℕ → Type 0
BindsAt pattern x slots slots' None = (matched pattern x ≡ None) × (slots' ≡ slots)
BindsAt pattern x slots slots' (Some count) = Bound pattern x slots slots' count

-- nothing is bound, where a test says that a value matches
abbrev pub IsUnbound : Bool → List Slot → List Slot → Option ℕ → Type 0
IsUnbound matches slots slots' found = (pattern : Pattern) (x : Value) → matched pattern x ≡ if_matches matches [] → BindsAt pattern x slots slots' found

-- what the first branch makes that matches was written
abbrev pub EmitsCase : Handlers → List Slot → List Branch → Value → List ℕ → List ℕ → ℕ → ℕ → ℕ → Type 0
EmitsCase h slots branches x out out' room room' deep = (env : List Value) → Stand h slots env → Written h (MakesCase env branches x) out out' room room' deep

-- the segment of an argument was written, and of arguments
abbrev pub WritesArgument : List Slot → Term → List ℕ → List ℕ → Type 0
WritesArgument slots a out out' = (h : Handlers) (env : List Value) → Stand h slots env → (x : Value) × ReadsAs env a x × (out' ≡ out ++ argument_path x)

abbrev pub WritesArguments : List Slot → List Term → List ℕ → List ℕ → Type 0
WritesArguments slots args out out' = (h : Handlers) (env : List Value) → Stand h slots env
    → (xs : List Value) × ReadAll env args xs × (out' ≡ out ++ flat_map argument_path xs)

-- an attribute was written that is the path of a call whose arguments are the first so many
abbrev pub WritesCall : Handlers → List Slot → List ℕ → ℕ → ℕ → List Term → List ℕ → List ℕ → Type 0
WritesCall h slots name route count args out out' = (env : List Value) → Stand h slots env
    → (xs : List Value) × ReadAll env (take count args) xs × (length xs ≡ count) × (out' ≡ out ++ attribute name (path h (record { route = route; args = xs })))

-- the text in the place of an argument that may be there, the last one
abbrev pub ReadsText : List Slot → List Term → Option (List ℕ) → Type 0
ReadsText slots args text = (h : Handlers) (env : List Value) → Stand h slots env → (xs : List Value) × ReadAll env args xs × (optional_text xs ≡ Some text)

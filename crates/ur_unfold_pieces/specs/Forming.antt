-- The form of what a piece stands for.
use Rattle.std.specs.Prelude.{◌≡◌, ◌≤◌, ℕ, List, length, Option, Some, None, Result, Ok, Err}
use Rattle.std.specs.List.{AllZip}
use Rattle.ur_tree.specs.declared.closed.Instance.{Instance}
use Rattle.ur_tree.specs.declared.exp.Exp.{Exp}
use Rattle.ur_meaning.specs.Form.{callee, parts}
use Rattle.ur_meaning.specs.Instances.{Among, IsNumbered}
use Rattle.ur_source.specs.Items as i
use Rattle.ur_source.specs.Items.{Source, Scope, Item, ItemForm, form_of}
use Rattle.ur_source.specs.Source.{source_of}
use Rattle.ur_meaning.specs.declared.head.Opened.{Opened}
use Rattle.ur_meaning.specs.declared.halt.Halt.{Halt}
use Rattle.ur_meaning.specs.declared.halt.Halt.TheVariants as halt
use Rattle.ur_meaning.specs.Heads.{Heads}
use Rattle.ur_meaning.specs.Working.{most_instances}
use Rattle.ur_unfold_pieces.specs.Sizes.{SomeLarge}
use Rattle.ur_unfold_pieces.specs.declared.piece.Piece.{Piece}
use Rattle.ur_unfold_pieces.specs.declared.opening.Opening.{Opening}
use Rattle.ur_unfold_pieces.specs.Keys.{IsAdded, IsOf}
use Rattle.ur_unfold_pieces.specs.Standing.{ScopeIs, StandsFor, IsWhole, instances_in}

-- what is called is numbered, and nothing else
abbrev pub AddedFor : Option Instance → List Instance → List Instance → Type 0
AddedFor None old new = new ≡ old
AddedFor (Some k) old new = IsAdded k old new

-- a head with parts that stand for those of the form
pub record Opens (old new : Opening) (form : ItemForm) (o : Opened Piece) : Type 0 where
  pub items : List Item
  pub parts : AllZip (StandsFor new) o.parts items
  pub heads : Heads (instances_in new) o.head items form
  pub added : AddedFor (callee form) (instances_in old) (instances_in new)

-- what is called has no number, and there are as many as there may be; this is its function
pub record IsFull (old new : Opening) (form : ItemForm) (function : ℕ) : Type 0 where
  pub same : instances_in new ≡ instances_in old
  pub full : most_instances ≤ length (instances_in new)
  pub called : Instance
  pub is_called : callee form ≡ Some called
  pub unnumbered : ¬ (IsNumbered (instances_in new) called)
  pub is_of : IsOf function called

-- what a form calls, itself or in a part
pub data CallsBy (p : Source) (form : ItemForm) (k : Instance) : Type 0 where
  itself : callee form ≡ Some k → CallsBy p form k
  in_part : (j : Item) → Among (parts form) j → callee (form_of p j) ≡ Some k → CallsBy p form k

-- an instance of which a constructor has too many nodes
abbrev pub IsTooLarge : Instance → Type 0
IsTooLarge k = SomeLarge k.cons

-- what is called is too large
pub record IsLarge (p : Source) (form : ItemForm) : Type 0 where
  pub called : Instance
  pub calls : CallsBy p form called
  pub large : IsTooLarge called

-- The form, or why there is none.
abbrev pub FormedAs : Opening → Opening → ItemForm → Result (Opened Piece) Halt → Type 0
FormedAs old new form (Ok o) = Opens old new form o
FormedAs old new form (Err halt.Nodes) = ⊥
FormedAs old new form (Err halt.Nesting) = ⊥
FormedAs old new form (Err (halt.Instances function)) = IsFull old new form function
FormedAs old new form (Err halt.Large) = IsLarge (source_of old.typed.now) form
FormedAs old new form (Err halt.Memory) = Unit {0}

-- the form by the source
abbrev pub OpensItem : Opening → Opening → Item → Result (Opened Piece) Halt → Type 0
OpensItem old new item r = IsWhole old → FormedAs old new (form_of (source_of old.typed.now) item) r

-- that of an expression under the scope with this number
abbrev pub OpensExp : Opening → Opening → ℕ → Exp → Result (Opened Piece) Halt → Type 0
OpensExp old new n e r = (scope : Scope) → ScopeIs old n scope → OpensItem old new (i.exp scope e) r

-- What a piece stands for.
use Rattle.std.specs.Prelude.{◌≡◌, ◌≤◌, ◌↔◌, ℕ, List, [], map, length, reverse, take, Some, slice_get}
use Rattle.std.specs.List.{AllZip}
use Rattle.ur_tree.specs.declared.typed.Typed.{Typed}
use Rattle.ur_tree.specs.declared.exp.Exp.TheVariants as x
use Rattle.ur_tree.specs.declared.closed.Static.{Static}
use Rattle.ur_tree.specs.declared.closed.Instance.{Instance}
use Rattle.ur_meaning.specs.Form.{Language}
use Rattle.ur_meaning.specs.Instances.{Different, IsNumbered}
use Rattle.ur_source.specs.Reading.{Cons}
use Rattle.ur_source.specs.Static.{vals_after}
use Rattle.ur_source.specs.Items as i
use Rattle.ur_source.specs.Items.{Scope, Item}
use Rattle.ur_source.specs.Instances.{IsRoot}
use Rattle.ur_source.specs.Source as source
use Rattle.ur_unfold_static.specs.declared.node.Scope.{Scope as Numbers}
use Rattle.ur_unfold_static.specs.declared.node.Step.{Step}
use Rattle.ur_unfold_static.specs.Scopes.{IsAt, AreAt, Stands, StepIs}
use Rattle.ur_unfold_pieces.specs.declared.piece.Piece.{Piece}
use Rattle.ur_unfold_pieces.specs.declared.opening.Opening.{Opening}
use Rattle.ur_unfold_pieces.specs.Told.{Told, exp, part, bool, closed, folding, asking, told}
use Rattle.ur_unfold_pieces.specs.Keys.{instance_of, KeysFit}

-- the language of a source, which does not compute here
unfoldable pub language : Typed → Language Item Instance
language app = source.language app

-- the scope with this number
abbrev pub ScopeIs : Opening → ℕ → Scope → Type 0
ScopeIs s n scope = (numbers : Numbers) × (slice_get s.scopes n ≡ Some numbers) × Stands s.closing numbers scope.cons scope.fixed

-- the last fields of a fold, so many being left
abbrev pub StepsLeft : Opening → ℕ → ℕ → List Cons → Type 0
StepsLeft s n left ks = (steps : List Step) × (slice_get s.folds n ≡ Some steps) × (left ≤ length steps) × AllZip (StepIs s.closing) (take left steps) (reverse ks)

abbrev pub SaysFor : Opening → Told → Item → Type 0
SaysFor s (exp n e) item = (scope : Scope) × ScopeIs s n scope × (item ≡ i.exp scope e)
SaysFor s (part n m) item = (scope : Scope) × ScopeIs s n scope × (item ≡ i.part scope m)
SaysFor s (bool n b) item = (scope : Scope) × ScopeIs s n scope × (item ≡ i.exp scope (x.Bool b))
SaysFor s (closed j) item = (c : Static) × IsAt s.closing.statics j c × (item ≡ i.closed c)
SaysFor s (folding n step start steps left) item =
    (scope : Scope) × (ks : List Cons) × ScopeIs s n scope × StepsLeft s steps left ks × (item ≡ i.folding scope step start ks)
SaysFor s (asking n q args) item = (scope : Scope) × ScopeIs s n scope × (item ≡ i.asking scope q args)

abbrev pub StandsFor : Opening → Piece → Item → Type 0
StandsFor s q item = SaysFor s (told q) item

abbrev pub instances_in : Opening → List Instance
instances_in s = map (instance_of s.closing) s.instances.keys

-- The numbers of instances stand for what is closed, each is there once, and the `val`s are those of the source.
pub record IsWhole (s : Opening) : Type 0 where
  pub keys : KeysFit s.closing s.instances.keys
  pub once : Different s.instances.keys
  pub vals : AreAt s.closing.statics s.vals (vals_after s.typed.now.names [] s.typed.now.vals)

-- the instances of the functions without constructor and static parameters, each once
pub record AreRoots (app : Typed) (instances : List Instance) : Type 0 where
  pub different : Different instances
  pub are : (k : Instance) → IsRoot app k ↔ IsNumbered instances k

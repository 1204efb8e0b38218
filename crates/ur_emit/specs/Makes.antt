-- The XML that a plain term makes, and what its evaluation comes to.
use Rattle.std.specs.Prelude.{◌≡◌, ℕ, ◌≤◌, List, [], ◌∷◌, ◌++◌}
use Rattle.ur_values.specs.declared.value.Value.{Value}
use Rattle.ur_values.specs.declared.value.Value.TheVariants as v
use Rattle.ur_values.specs.declared.value.Node.{Node}
use Rattle.ur_values.specs.Size.{node_sizes, node_nestings}
use Rattle.ur_terms.specs.declared.term.Branch.{Branch}
use Rattle.ur_terms.specs.declared.term.Term.{Term}
use Rattle.ur_terms.specs.State.{State}
use Rattle.ur_terms.specs.Run.{Does, Calls, eval, first_branch}
use Rattle.ur_machine_frames.specs.Fields.{ReadsAs}

-- XML of these nodes may be built
abbrev pub AreSmall : List Node → Type 0
AreSmall nodes = (node_sizes nodes ≤ 16777184) × (node_nestings nodes ≤ 1023)

-- With these variables the term comes to XML of these nodes and changes nothing, where it may be built, whatever operations on
-- tables and calls do.
abbrev pub Makes : List Value → Term → List Node → Type 0
Makes env a nodes = AreSmall nodes → ReadsAs env a (v.Markup nodes)

-- the same of terms, whose nodes stand one after the other
abbrev pub MakeAll : List Value → List Term → List Node → Type 0
MakeAll env [] nodes = nodes ≡ []
MakeAll env (a ∷ more) nodes = (first : List Node) × (rest : List Node) × (nodes ≡ first ++ rest) × Makes env a first × MakeAll env more rest

-- the same of one term for each of these items, its nearest variable
abbrev pub MakeEach : List Value → Term → List Value → List Node → Type 0
MakeEach env body [] nodes = nodes ≡ []
MakeEach env body (x ∷ more) nodes =
    (first : List Node) × (rest : List Node) × (nodes ≡ first ++ rest) × Makes (x ∷ env) body first × MakeEach env body more rest

-- terms come to these values and change nothing
abbrev pub ReadAll : List Value → List Term → List Value → Type 0
ReadAll env [] xs = xs ≡ []
ReadAll env (a ∷ more) xs = (x : Value) × (rest : List Value) × (xs ≡ x ∷ rest) × ReadsAs env a x × ReadAll env more rest

-- the first of these branches that matches a value makes XML of these nodes
pub record MakesCase (env : List Value) (branches : List Branch) (x : Value) (nodes : List Node) : Type 0 where
  pub branch : Branch
  pub bound : List Value
  pub chosen : (d : Does) (calls : Calls) (s : State) → first_branch d calls branches x env s ≡ eval d calls branch.body (bound ++ env) s
  pub makes : Makes (bound ++ env) branch.body nodes

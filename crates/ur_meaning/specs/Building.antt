-- The term of a form whose parts are made.
use Rattle.std.specs.Prelude.{◌≡◌, List, [], ◌∷◌, ◌++◌, map}
use Rattle.ur_terms.specs.declared.term.Branch.{Branch}
use Rattle.ur_terms.specs.declared.term.Term.{Term}
use Rattle.ur_terms.specs.declared.term.Term.TheVariants as t
use Rattle.ur_meaning.specs.declared.head.Head.{Head}
use Rattle.ur_meaning.specs.declared.head.Head.TheVariants as head

abbrev pub IsBuilt : Head → List Term → Term → Type 0
IsBuilt (head.Int n) ts a = a ≡ t.Int n
IsBuilt (head.Text s) ts a = a ≡ t.Str s
IsBuilt (head.Bool b) ts a = a ≡ t.Bool b
IsBuilt (head.Variable n) ts a = a ≡ t.Variable n
IsBuilt (head.Strict op) ts a = a ≡ t.Make op ts
IsBuilt head.Same ts a = ⊥
IsBuilt head.Choice ts a = (c x y : Term) → ts ≡ c ∷ x ∷ y ∷ [] → a ≡ t.If c x y
IsBuilt head.Let ts a = (xs : List Term) (b : Term) → ts ≡ xs ++ b ∷ [] → a ≡ t.Let xs b
IsBuilt (head.Case ps) ts a = (x : Term) (bs : List Branch) → ts ≡ x ∷ map (λ b. b.body) bs → ps ≡ map (λ b. b.pattern) bs → a ≡ t.Case x bs
IsBuilt head.Each ts a = (x b : Term) → ts ≡ x ∷ b ∷ [] → a ≡ t.Each x b
IsBuilt (head.Call j) ts a = a ≡ t.Call j ts
IsBuilt head.Nothing ts a = ⊥

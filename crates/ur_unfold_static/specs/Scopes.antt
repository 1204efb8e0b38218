-- What numbers stand for.
use Rattle.std.specs.Prelude.{◌≡◌, ℕ, List, [], ◌∷◌, map, reverse, Option, Some, None, slice_get}
use Rattle.std.specs.List.{AllZip}
use Rattle.ur_base.specs.declared.names.Name.{Name}
use Rattle.ur_tree.specs.declared.closed.Static.{Static}
use Rattle.ur_source.specs.Reading.{Cons}
use Rattle.ur_source.specs.Static.{StaticFields}
use Rattle.ur_unfold_static.specs.declared.node.Field.{Field}
use Rattle.ur_unfold_static.specs.declared.node.Scope.{Scope}
use Rattle.ur_unfold_static.specs.declared.node.Step.{Step}
use Rattle.ur_unfold_static.specs.Held.{Held, con_at}

abbrev pub Statics : Type 0
Statics = List Static

-- it has this number
abbrev pub IsAt : {A : Type 0} → List A → ℕ → A → Type 0
IsAt table j x = slice_get table j ≡ Some x

abbrev pub AreAt : {A : Type 0} → List A → List ℕ → List A → Type 0
AreAt table = AllZip (IsAt table)

-- a number that may be there, for what may be there
abbrev pub MayBeAt : {A : Type 0} → List A → Option ℕ → Option A → Type 0
MayBeAt table None x = x ≡ None
MayBeAt {A} table (Some j) x = (y : A) × IsAt table j y × (x ≡ Some y)

-- the constructors and the static expressions of a scope
abbrev pub Stands : Held → Scope → Cons → Statics → Type 0
Stands held scope cons fixed = AreAt held.cons scope.cons cons × AreAt held.statics scope.fixed fixed

-- the constructors of a scope, a unit in the place of a number that stands for nothing
abbrev pub cons_of : Held → Scope → Cons
cons_of held scope = map (con_at held.cons) scope.cons

-- the fields of a record
abbrev pub FieldIs : Statics → Field → Name × Static → Type 0
FieldIs statics f g = (f.name ≡ g.0) × IsAt statics f.of g.1

abbrev pub FieldsAre : Statics → List Field → StaticFields → Type 0
FieldsAre statics = AllZip (FieldIs statics)

-- what a step binds
abbrev pub StepIs : Held → Step → Cons → Type 0
StepIs held s k = AreAt held.cons (s.name ∷ s.of ∷ s.rest ∷ []) k

abbrev pub StepMayBe : Held → Option Step → Option Cons → Type 0
StepMayBe held None k = k ≡ None
StepMayBe held (Some s) k = (all : Cons) × StepIs held s all × (k ≡ Some all)

-- the steps of a fold, the last field's first
abbrev pub StepsMayBe : Held → Option (List Step) → Option (List Cons) → Type 0
StepsMayBe held None ks = ks ≡ None
StepsMayBe held (Some ss) ks = (all : List Cons) × AllZip (StepIs held) ss (reverse all) × (ks ≡ Some all)

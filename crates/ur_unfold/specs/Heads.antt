-- First-order functions of functions of the source, but for their bodies.
use Rattle.std.specs.Prelude.{◌≡◌, ℕ, List, [], ◌∷◌, ◌++◌, map, length, Some, slice_get}
use Rattle.ur_terms.specs.declared.term.Function.{Function}
use Rattle.ur_terms.specs.declared.term.Term.{Term}
use Rattle.ur_tree.specs.declared.typed.Typed.{Typed}
use Rattle.ur_tree.specs.declared.typed.Function as source
use Rattle.ur_tree.specs.declared.closed.Instance.{Instance}
use Rattle.ur_source.specs.Reading.{Cons, closed_type, result_type}
use Rattle.ur_source.specs.Instances.{full_name, value_params}

-- the name of its module, a dot and its own
pub record IsFullName (app : Typed) (function : source.Function) (text : List ℕ) : Type 0 where
  pub unit_name : List ℕ
  pub is_unit : slice_get app.modules (function.«module») ≡ Some unit_name
  pub name : text ≡ full_name unit_name function.name

-- its name, and the types of its value parameters and result under these constructors
pub record IsHeadOf (app : Typed) (function : source.Function) (cons : Cons) (f : Function) : Type 0 where
  pub name : IsFullName app function f.name
  pub params : f.params ≡ map (closed_type app.names cons) (value_params function.params)
  pub result : (f.runs, f.result) ≡ result_type app.names cons function.result

-- those of the instance with this number
pub record HeadAt (app : Typed) (instances : List Instance) (number : ℕ) (f : Function) : Type 0 where
  pub instance : Instance
  pub function : source.Function
  pub there : slice_get instances number ≡ Some instance
  pub is_function : slice_get app.functions instance.function ≡ Some function
  pub head : IsHeadOf app function instance.cons f

abbrev pub HeadsAre : Typed → List Instance → List Function → Type 0
HeadsAre app instances fs = (j : ℕ) (f : Function) → slice_get fs j ≡ Some f → HeadAt app instances j f

-- a function more, with this body
pub record IsPushed (app : Typed) (instances : List Instance) (body : Term) (old new : List Function) : Type 0 where
  pub function : Function
  pub more : new ≡ old ++ function ∷ []
  pub head : HeadAt app instances (length old) function
  pub body_is : function.body ≡ body

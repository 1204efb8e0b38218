-- First-order functions but for their bodies, as they are read.
use Rattle.std.specs.Prelude.{◌≡◌, map}
use Rattle.ur_tree.specs.declared.typed.Typed.{Typed}
use Rattle.ur_tree.specs.declared.typed.Function as source
use Rattle.ur_source.specs.Reading.{Cons, Names, closed_type, result_type}
use Rattle.ur_source.specs.Instances.{value_params}
use Rattle.ur_unfold.specs.declared.functions.Head.{Head}
use Rattle.ur_unfold.specs.declared.functions.Types.{Types}
use Rattle.ur_unfold.specs.Heads.{IsFullName}

-- the types of its value parameters and result under these constructors
pub record HasTypes (names : Names) (function : source.Function) (cons : Cons) (ts : Types) : Type 0 where
  pub params : ts.params ≡ map (closed_type names cons) (value_params function.params)
  pub result : (ts.runs, ts.result) ≡ result_type names cons function.result

-- its name and types
abbrev pub IsHead : Typed → source.Function → Cons → Head → Type 0
IsHead app function cons h = IsFullName app function h.name × HasTypes app.names function cons h.types

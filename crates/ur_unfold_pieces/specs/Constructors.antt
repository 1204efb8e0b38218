-- Numbers of closed constructors, or that one of them is too large.
use Rattle.std.specs.Prelude.{ℕ, List, Result, Ok, Err}
use Rattle.ur_rows_reduce.specs.declared.count.Halt.{Halt as Reduced}
use Rattle.ur_rows_reduce.specs.declared.count.Halt.TheVariants as reduced
use Rattle.ur_source.specs.Reading.{Cons}
use Rattle.ur_unfold_static.specs.Held.{Held}
use Rattle.ur_unfold_static.specs.Scopes.{AreAt}
use Rattle.ur_unfold_pieces.specs.Sizes.{SomeLarge}
use Rattle.ur_meaning.specs.declared.halt.Halt.{Halt}
use Rattle.ur_meaning.specs.declared.halt.Halt.TheVariants as halt

abbrev pub halt_of : Reduced → Halt
halt_of reduced.Memory = halt.Memory
halt_of reduced.TooLarge = halt.Large

abbrev pub AreNumbered : Held → Cons → Result (List ℕ) Halt → Type 0
AreNumbered held cs (Ok js) = AreAt held.cons js cs
AreNumbered held cs (Err halt.Large) = SomeLarge cs
AreNumbered held cs (Err halt.Memory) = Unit {0}
AreNumbered held cs (Err h) = ⊥

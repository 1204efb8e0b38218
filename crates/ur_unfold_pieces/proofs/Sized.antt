-- Numbers of constructors, or that one is too large.
use Rattle.std.proofs.Common.{◌≡◌, ℕ, List, Result, Err, sym, subst}
use Rattle.ur_rows_reduce.specs.declared.count.Halt.{Halt as Reduced}
use Rattle.ur_rows_reduce.specs.declared.count.Halt.TheVariants as reduced
use Rattle.ur_source.specs.Reading.{Cons}
use Rattle.ur_unfold_static.specs.Held.{Held}
use Rattle.ur_unfold_pieces.specs.Sizes.{SomeLarge}
use Rattle.ur_meaning.specs.declared.halt.Halt.{Halt}
use Rattle.ur_unfold_pieces.specs.Constructors.{AreNumbered, halt_of}

pub not_numbered_so : (held : Held) (cs ds : Cons) (r : Result (List ℕ) Reduced) (h : Reduced) (e : Halt) → ds ≡ cs → (r ≡ Err reduced.TooLarge → SomeLarge ds) → r ≡ Err h → e ≡ halt_of h → AreNumbered held cs (Err e)
not_numbered_so held cs ds r h e same over is to = subst (λ e. AreNumbered held cs (Err e)) (sym to) (by h is)
  where
    by : (h : Reduced) → r ≡ Err h → AreNumbered held cs (Err (halt_of h))
    by reduced.Memory is = tt
    by reduced.TooLarge is = subst SomeLarge same (over is)

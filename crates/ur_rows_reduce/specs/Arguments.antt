-- The arguments of a constructor in turn.
use Rattle.std.specs.Prelude.{◌≡◌, true, List, [], ◌∷◌}
use Rattle.ur_rows.specs.declared.normal.Normal.{Normal}
use Rattle.ur_rows.specs.IsNormal.{is_normal}
use Rattle.ur_rows_reduce.specs.declared.held.Held.{Held}
use Rattle.ur_rows_reduce.specs.declared.given.Args.{Args}
use Rattle.ur_rows_reduce.specs.declared.given.Args.TheVariants as args
use Rattle.ur_rows_reduce.specs.Held.{Holds}

abbrev pub args_of : Args → List Held
args_of args.Empty = []
args_of (args.More' a _ rest) = a.now ∷ args_of rest

-- arguments in turn, all in normal form
abbrev pub Given : List Held → List Normal → Type 0
Given [] [] = Unit {0}
Given (h ∷ hs) (n ∷ ns) = Holds h n × (is_normal n ≡ true) × Given hs ns
Given _ _ = ⊥

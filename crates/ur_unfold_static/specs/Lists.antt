-- Lists whose entries are there once.
use Rattle.std.specs.Prelude.{◌≢◌, ℕ, List, map}
use Rattle.std.specs.List.{AllByRecursion}
use Rattle.ur_rows.specs.declared.normal.Normal.{Normal}
use Rattle.ur_unfold_static.specs.declared.con.Con.{Con}
use Rattle.ur_unfold_static.specs.declared.node.Lambda.{Lambda}
use Rattle.ur_unfold_static.specs.Held.{Written}

abbrev pub most_entries : ℕ
most_entries = 4194304

abbrev pub constructors : List Con → List Normal
constructors = map (λ (c : Con). c.of)

abbrev pub written : Lambda → Written
written l = (l.params.now, l.body.now)

abbrev pub all_written : List Lambda → List Written
all_written = map written

-- it is none of them
abbrev pub IsAbsent : {A : Type 0} → List A → A → Type 0
IsAbsent xs y = AllByRecursion (λ x. x ≢ y) xs

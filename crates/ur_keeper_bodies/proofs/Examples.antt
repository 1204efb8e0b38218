-- The bytes of a row, written and read.
use Rattle.std.specs.Prelude.{◌≡◌, ℕ, pos, List, [], ◌∷◌, None, codes, refl}
use denote.Hole.Carrier as Carrier
use Rattle.ur_values.specs.declared.value.Node.TheBlock as block
use Rattle.ur_values.specs.declared.value.Value.TheVariants as v
use Rattle.ur_values.specs.declared.schema.ColumnKind.TheVariants as kind
use Rattle.ur_values.specs.Store.{Row}
use Rattle.ur_keeper_bodies.specs.Rows.{row_body, row_of}

abbrev note : Row
note = v.Str (codes "a&b") ∷ v.Int (pos 1) ∷ v.Str (codes "ann") ∷ []

abbrev body : List ℕ
body = 0 ∷ 0 ∷ 0 ∷ 3 ∷ 97 ∷ 38 ∷ 98 ∷ 0 ∷ 0 ∷ 0 ∷ 0 ∷ 0 ∷ 0 ∷ 0 ∷ 1 ∷ 0 ∷ 0 ∷ 0 ∷ 3 ∷ 97 ∷ 110 ∷ 110 ∷ []

pub note_written : row_body note ≡ body
note_written = refl

-- of an int a byte is missing
pub int_cut : row_of (kind.Int ∷ []) (0 ∷ 0 ∷ 0 ∷ 0 ∷ 0 ∷ 0 ∷ 1 ∷ []) ≡ None
int_cut = refl

-- behind a bool stands a byte too many
pub bool_longer : row_of (kind.Bool ∷ []) (1 ∷ 0 ∷ []) ≡ None
bool_longer = refl

-- 2 is no bool
pub bool_other : row_of (kind.Bool ∷ []) (2 ∷ []) ≡ None
bool_other = refl

-- NULL is one byte, and SOME one byte and the value
pub null_written : row_body (v.Int (pos 1) ∷ v.Absent ∷ []) ≡ 0 ∷ 0 ∷ 0 ∷ 0 ∷ 0 ∷ 0 ∷ 0 ∷ 1 ∷ 0 ∷ []
null_written = refl

pub some_written : row_body (v.Int (pos 2) ∷ v.Present (v.Int (pos 5)) ∷ []) ≡ 0 ∷ 0 ∷ 0 ∷ 0 ∷ 0 ∷ 0 ∷ 0 ∷ 2 ∷ 1 ∷ 0 ∷ 0 ∷ 0 ∷ 0 ∷ 0 ∷ 0 ∷ 0 ∷ 5 ∷ []
unfolding block.hidden-the_row-Value-3 Carrier.hidden
some_written = refl

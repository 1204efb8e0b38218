-- The texts of closed constructors that are names.
use Rattle.std.specs.Prelude.{ℕ, List, [], Option, None, Some}
use Rattle.ur_rows.specs.declared.normal.Normal.{Normal}
use Rattle.ur_rows.specs.Put.{as_label}
use Rattle.ur_source.specs.Items.{text_of}

abbrev pub text_of_con : Normal → Option (List ℕ)
text_of_con n = text_of (as_label n)

-- no constructor has the empty name
abbrev pub text_in : Option Normal → Option (List ℕ)
text_in None = Some []
text_in (Some n) = text_of_con n

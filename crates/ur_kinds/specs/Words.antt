-- The forms `map f r` and `xml form [] r`, whose words have no kind of their own.
use Rattle.std.specs.Prelude.{ℕ, ◌&&◌, Bool, true, false, is_none, List, [], codes, bytes_eq}
use Rattle.ur_syntax.specs.declared.con.ConForm.{ConForm, end_of-Con as alone, more_of-Con as its, end_of-CField as end}
use Rattle.ur_syntax.specs.declared.con.ConForm.TheVariants as con
use Rattle.ur_syntax.specs.Names.{own}
use Rattle.ur_syntax.specs.HasKind.{Scope, kind_known}

-- the constructor is this word, which no name in scope hides
abbrev pub is_word : List ℕ → Scope → ConForm → Bool
is_word w s (con.Var x) = bytes_eq x w && is_none (kind_known (own x) s)
is_word w s _ = false

abbrev pub is_empty_row : ConForm → Bool
is_empty_row (con.Row' [] end) = true
is_empty_row _ = false

-- `map f`
abbrev pub is_map : Scope → ConForm → Bool
is_map s (con.App' _ (its p h alone) _ (its q f alone)) = is_word (codes "map") s h
is_map s _ = false

-- `xml form`
abbrev pub is_xml_form : Scope → ConForm → Bool
is_xml_form s (con.App' _ (its p h alone) _ (its q f alone)) = is_word (codes "xml") s h && is_word (codes "form") s f
is_xml_form s _ = false

-- `xml form []`
abbrev pub is_form : Scope → ConForm → Bool
is_form s (con.App' _ (its p h alone) _ (its q e alone)) = is_xml_form s h && is_empty_row e
is_form s _ = false

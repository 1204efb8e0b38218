-- How a kind is written.
use Rattle.std.specs.Prelude.{ℕ, ◌++◌, codes, List, if◌then◌else◌}
use Rattle.ur_syntax.specs.declared.kind.Kind.{Kind}
use Rattle.ur_syntax.specs.declared.kind.Kind.TheVariants as kind
use Rattle.ur_syntax.specs.declared.kind.Kind.TheBlock.{end_of-Kind as alone, more_of-Kind as its}
use Rattle.ur_syntax.specs.Kinds.{is_plain}

-- in parentheses unless it is plain
abbrev pub around : Kind → List ℕ → List ℕ
around k text = if is_plain k then text else (codes "(" ++ text) ++ codes ")"

abbrev pub kind_text : Kind → List ℕ
kind_text kind.Star = codes "Type"
kind_text kind.Name = codes "Name"
kind_text kind.Row = codes "{Type}"
kind_text (kind.Arrow' _ (its k alone) _ (its j alone)) = (around k (kind_text k) ++ codes " -> ") ++ kind_text j

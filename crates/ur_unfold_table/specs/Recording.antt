-- Fields of records as values.
use Rattle.std.specs.Prelude.{[], ◌∷◌}
use Rattle.ur_terms.specs.declared.term.Op.TheVariants as op
use Rattle.ur_rows.specs.declared.normal.Label.{Label}
use Rattle.ur_tree.specs.declared.exp.Exp.{Exp}
use Rattle.ur_source.specs.Reading.{label_number}
use Rattle.ur_source.specs.Items.{Source, Scope, ItemForm, exp, strict_with}

-- a projection, and a record without a field, whose record is a value
abbrev pub project_value : Source → Scope → Exp → Label → ItemForm
project_value p scope e l = strict_with (label_number p.names scope.cons l) op.Project (exp scope e ∷ [])

abbrev pub cut_value : Source → Scope → Exp → Label → ItemForm
cut_value p scope e l = strict_with (label_number p.names scope.cons l) op.Cut (exp scope e ∷ [])

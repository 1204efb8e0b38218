-- Constructors joined to one another.
use Rattle.std.specs.Prelude.{List, [], ◌∷◌}
use Rattle.ur_base.specs.declared.refusal.Span.{Span}
use Rattle.ur_syntax.specs.declared.con.ConForm.{ConForm}
use Rattle.ur_syntax.specs.declared.con.ConForm.TheVariants as form
use Rattle.ur_syntax.specs.declared.con.Con.{Con}
use Rattle.ur_parse_rules.specs.Forms.{up_to}
use Rattle.ur_parse_con.specs.declared.joins.Join.{Join}
use Rattle.ur_parse_con.specs.declared.joins.Join.TheVariants as joins
use Rattle.ur_parse_con.specs.declared.joins.Piece.{Piece}

-- two constructors joined
abbrev pub joined_form : Join → Con → Con → ConForm
joined_form joins.Arrow a b = form.Arrow a b
joined_form joins.Concat a b = form.Concat a b
joined_form joins.App a b = form.App a b

-- each of the constructors joined to what stands behind it, up to where the last one ends
abbrev pub chained : Join → List Piece → Span → Con → Con
chained j [] covered c = c
chained j (x ∷ xs) covered c = record { span = up_to x.span covered; form = joined_form j x.con (chained j xs covered c) }

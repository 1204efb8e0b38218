-- What the code holds of antiquotes and of parts of XML, as the definitions of typing see it.
use Rattle.std.specs.Prelude.{List, [], ◌∷◌, map}
use Rattle.ur_rows.specs.Put.{as_type}
use Rattle.ur_rows.specs.declared.normal.NormalType.{NormalType}
use Rattle.ur_tree.specs.declared.exp.Exp.TheBlock.{end_of-Markup, more_of-Markup}
use Rattle.ur_tree.specs.declared.exp.Markup.{Markup}
use Rattle.ur_typed.specs.Rules.{Sites, Antiquotes}
use Rattle.ur_typed.specs.Markups.{Markups, Marked}
use Rattle.ur_check_rules.specs.Views.{args_with}
use Rattle.ur_check_forms.specs.declared.statements.Antiquotes.{Antiquotes as HeldAntiquotes}
use Rattle.ur_check_forms.specs.declared.marked.Marked.{Marked as HeldMarked}
use Rattle.ur_check_forms.specs.declared.marked.Waiting.{Waiting}

-- antiquotes with the statements that are numbered behind them
abbrev pub antiquotes_with : HeldAntiquotes → Sites → Antiquotes
antiquotes_with a st = record { types = map as_type a.types; exps = args_with a.exps; sites = st }

-- the records that buttons want
abbrev pub records_in : List Waiting → List NormalType
records_in = map (λ w. w.wanted)

abbrev pub marks_with : List Markup → Markups
marks_with [] = ([], end_of-Markup)
marks_with (m ∷ ms) = (tt ∷ (marks_with ms).0, more_of-Markup m (marks_with ms).1)

-- parts of XML with the statements that are numbered behind them
abbrev pub marked_with : HeldMarked → Sites → Marked
marked_with m st = record { row = m.row; waiting = records_in m.waiting; marks = marks_with m.marks; sites = st }

-- Forms with one expression, and with two.
use Rattle.std.specs.Prelude.{ℕ, List}
use Rattle.ur_lex.specs.declared.token.Lexeme.{Lexeme}
use Rattle.ur_syntax.specs.declared.exp.Exp.{Exp}
use Rattle.ur_syntax.specs.declared.exp.ExpForm.{ExpForm}
use Rattle.ur_syntax.specs.declared.exp.ExpForm.TheVariants as form
use Rattle.ur_parse_exp_parts.specs.Words.{Stands}
use Rattle.ur_parse_exp_parts.specs.declared.word.FormWord.TheVariants as words
use Rattle.ur_parse_exp_parts.specs.declared.form.Single.{Single}
use Rattle.ur_parse_exp_parts.specs.declared.form.Single.TheVariants as ones
use Rattle.ur_parse_exp_parts.specs.declared.form.Double.{Double}
use Rattle.ur_parse_exp_parts.specs.declared.form.Double.TheVariants as twos

abbrev pub one_form : Single → Exp → ExpForm
one_form ones.Negative a = form.Negative a
one_form ones.Return a = form.Return a
one_form ones.Show a = form.Show a
one_form ones.Not a = form.Not a
one_form ones.Error a = form.Error a
one_form ones.Some a = form.Some a

abbrev pub two_form : Double → Exp → Exp → ExpForm
two_form (twos.Binary o) a b = form.Binary o a b
two_form twos.App a b = form.App a b

-- the word of a form stands at the place
abbrev pub WordStands : List Lexeme → ℕ → Single → Type 0
WordStands tokens i ones.Return = Stands tokens i words.Return
WordStands tokens i ones.Show = Stands tokens i words.Show
WordStands tokens i ones.Not = Stands tokens i words.Not
WordStands tokens i ones.Error = Stands tokens i words.Error
WordStands tokens i ones.Some = Stands tokens i words.Some
WordStands tokens i ones.Negative = ⊥

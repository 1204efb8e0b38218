-- What forms have behind their words.
use Rattle.std.specs.Prelude.{ℕ, List}
use Rattle.ur_lex.specs.declared.token.Lexeme.{Lexeme}
use Rattle.ur_syntax.specs.declared.exp.QueryWord.{QueryWord}
use Rattle.ur_syntax.specs.declared.exp.QueryWord.TheVariants as queries
use Rattle.ur_parse_exp_parts.specs.declared.form.Single.TheVariants as ones
use Rattle.ur_parse_exp_parts.specs.declared.word.FormWord.{FormWord}
use Rattle.ur_parse_exp_parts.specs.declared.word.FormWord.TheVariants as words
use Rattle.ur_parse_exp_parts.specs.Forms.{WordStands}
use Rattle.ur_parse_exp_parts.specs.Words.{Stands}
use Rattle.ur_parse_exp_parts.specs.declared.shape.Shape.{Shape}
use Rattle.ur_parse_exp_parts.specs.declared.shape.Shape.TheVariants as shape

abbrev pub shape_of : FormWord → Shape
shape_of words.Return = shape.One ones.Return
shape_of words.Show = shape.One ones.Show
shape_of words.Not = shape.One ones.Not
shape_of words.Error = shape.One ones.Error
shape_of words.Some = shape.One ones.Some
shape_of words.Fold = shape.Fold
shape_of words.Nextval = shape.Nextval
shape_of words.GetCookie = shape.GetCookie
shape_of words.SetCookie = shape.SetCookie
shape_of words.Dml = shape.Dml
shape_of words.QueryL = shape.Query queries.QueryL
shape_of words.OneRow = shape.Query queries.OneRow
shape_of words.OneOrNoRows = shape.Query queries.OneOrNoRows
shape_of words.QueryX = shape.QueryX

-- the word of each query
abbrev pub query_word : QueryWord → FormWord
query_word queries.QueryL = words.QueryL
query_word queries.OneRow = words.OneRow
query_word queries.OneOrNoRows = words.OneOrNoRows

-- the word of a shape stands at the place
abbrev pub ShapeStands : List Lexeme → ℕ → Shape → Type 0
ShapeStands tokens i (shape.One o) = WordStands tokens i o
ShapeStands tokens i (shape.Query q) = Stands tokens i (query_word q)
ShapeStands tokens i shape.Fold = Stands tokens i words.Fold
ShapeStands tokens i shape.Nextval = Stands tokens i words.Nextval
ShapeStands tokens i shape.GetCookie = Stands tokens i words.GetCookie
ShapeStands tokens i shape.SetCookie = Stands tokens i words.SetCookie
ShapeStands tokens i shape.Dml = Stands tokens i words.Dml
ShapeStands tokens i shape.QueryX = Stands tokens i words.QueryX

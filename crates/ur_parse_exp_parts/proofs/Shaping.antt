-- Which shape a word has.
use Rattle.std.specs.Prelude.{◌≡◌, ℕ, List}
use Rattle.std.proofs.Common.{subst}
use Rattle.ur_lex.specs.declared.token.Lexeme.{Lexeme}
use Rattle.ur_parse_exp_parts.specs.declared.word.FormWord.{FormWord}
use Rattle.ur_parse_exp_parts.specs.declared.word.FormWord.TheVariants as words
use Rattle.ur_parse_exp_parts.specs.Words.{Stands}
use Rattle.ur_parse_exp_parts.specs.declared.shape.Shape.{Shape}
use Rattle.ur_parse_exp_parts.specs.Shapes.{shape_of, ShapeStands}

-- the word of a shape stands where a word of that shape does
pub shape_stands : (tokens : List Lexeme) (i : ℕ) (w : FormWord) (o : Shape) → shape_of w ≡ o → Stands tokens i w → ShapeStands tokens i o
shape_stands tokens i words.Return o q a = subst (λ z. ShapeStands tokens i z) q a
shape_stands tokens i words.Show o q a = subst (λ z. ShapeStands tokens i z) q a
shape_stands tokens i words.Not o q a = subst (λ z. ShapeStands tokens i z) q a
shape_stands tokens i words.Error o q a = subst (λ z. ShapeStands tokens i z) q a
shape_stands tokens i words.Some o q a = subst (λ z. ShapeStands tokens i z) q a
shape_stands tokens i words.Fold o q a = subst (λ z. ShapeStands tokens i z) q a
shape_stands tokens i words.Nextval o q a = subst (λ z. ShapeStands tokens i z) q a
shape_stands tokens i words.GetCookie o q a = subst (λ z. ShapeStands tokens i z) q a
shape_stands tokens i words.SetCookie o q a = subst (λ z. ShapeStands tokens i z) q a
shape_stands tokens i words.Dml o q a = subst (λ z. ShapeStands tokens i z) q a
shape_stands tokens i words.QueryL o q a = subst (λ z. ShapeStands tokens i z) q a
shape_stands tokens i words.OneRow o q a = subst (λ z. ShapeStands tokens i z) q a
shape_stands tokens i words.OneOrNoRows o q a = subst (λ z. ShapeStands tokens i z) q a
shape_stands tokens i words.QueryX o q a = subst (λ z. ShapeStands tokens i z) q a

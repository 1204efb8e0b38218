-- Expressions with `::` between.
use Rattle.std.specs.Prelude.{◌≡◌, List, [], ◌∷◌, ◌++◌, refl}
use Rattle.std.proofs.Common.{ap}
use Rattle.ur_base.specs.declared.refusal.Span.{Span}
use Rattle.ur_syntax.specs.declared.exp.Exp.{Exp}
use Rattle.ur_syntax.specs.declared.exp.ExpForm.TheVariants as form
use Rattle.ur_syntax.specs.declared.exp.Binary.TheVariants as op
use Rattle.ur_parse_rules.specs.Forms.{up_to}
use Rattle.ur_parse_rules.specs.Expressions.{at}
use Rattle.ur_parse_exp_parts.specs.declared.list.Piece.{Piece}
use Rattle.ur_parse_exp_parts.specs.Lists.{listed}

pub listed-push : (xs : List Piece) (x : Piece) (covered : Span) (c : Exp) → listed (xs ++ x ∷ []) covered c ≡ listed xs covered (at (up_to x.span covered) (form.Binary op.Cons x.exp c))
listed-push [] x covered c = refl
listed-push (y ∷ xs) x covered c = ap (λ z. at (up_to y.span covered) (form.Binary op.Cons y.exp z)) (listed-push xs x covered c)

-- only the end of the span counts
pub listed-from : (xs : List Piece) (from covered : Span) (c : Exp) → listed xs (up_to from covered) c ≡ listed xs covered c
listed-from [] from covered c = refl
listed-from (y ∷ xs) from covered c = ap (λ z. at (up_to y.span covered) (form.Binary op.Cons y.exp z)) (listed-from xs from covered c)

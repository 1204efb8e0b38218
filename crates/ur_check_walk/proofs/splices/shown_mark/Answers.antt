use Rattle.std.proofs.Common.{◌∙◌, ap₂, sym, []}
use Rattle.ur_tree.specs.declared.exp.Markup.TheVariants as markup
use Rattle.ur_typed.specs.Markups.{one_mark}
use Rattle.ur_check_walk.proofs.splices.shown_mark.Goals as goal

pub returns : goal.returns
returns c = λ st. ap₂ (λ x y. one_mark x [] (markup.Shown y) st) (sym c.new-none.ensures) (sym c.into_inner.ensures) ∙ c.in_ok-made.ensures st

use Rattle.std.proofs.Common.{◌∙◌, ap, sym, []}
use Rattle.ur_tree.specs.declared.exp.Markup.TheVariants as markup
use Rattle.ur_typed.specs.Markups.{one_mark}
use Rattle.ur_check_walk.proofs.splices.splice_mark.Goals as goal

pub returns : goal.returns
returns c = λ st. ap (λ y. one_mark c.args.row [] (markup.Splice y) st) (sym c.into_inner.ensures) ∙ c.in_ok-made.ensures st

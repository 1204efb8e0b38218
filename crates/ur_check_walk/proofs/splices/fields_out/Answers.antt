use Rattle.std.proofs.Common.{◌∙◌, ap, List, []}
use Rattle.std.specs.Prelude.{option_and_then}
use Rattle.ur_rows.specs.declared.normal.Part.{Part}
use Rattle.ur_tree.specs.declared.exp.Markup.TheVariants as markup
use Rattle.ur_typed.specs.Markups.{one_mark}
use Rattle.ur_check_walk.proofs.splices.fields_out.Goals as goal

pub returns-clause-mark : goal.returns-clause-mark
returns-clause-mark c = λ st. ap (option_and_then (λ (r : List Part). one_mark r [] (markup.Splice c.args.out.exp) st)) c.in_ok-row.ensures.row ∙ c.in_ok-made.ensures st

use Rattle.std.proofs.Common.{◌∙◌, ap, sym}
use Rattle.std.specs.Prelude.{option_map}
use Rattle.std.specs.Option.{option_copied}
use Rattle.ur_xmltype.specs.Views.{sort_in}
use Rattle.ur_check_walk.proofs.Literals.{sort-none}
use Rattle.ur_check_walk.proofs.markup.sort_at.Goals as goal

pub returns-in-None-clause-refused : goal.returns-in-None-clause-refused
returns-in-None-clause-refused c =
    sort-none c.args.around.now c.args.parts.now (option_copied c.args.wanted) c.no_sort.result (sym c.literal_sort.ensures ∙ ap (option_map sort_in) c.in-None.is) c.no_sort.ensures

use Rattle.std.proofs.Common.{◌∙◌, ap}
use Rattle.ur_xmltype.specs.Literal.{sort_type}
use Rattle.ur_xmltype.specs.Views.{sort_in}
use Rattle.ur_check_walk.proofs.Literals.{xml-made}
use Rattle.ur_check_walk.proofs.markup.xml_of.Goals as goal

pub returns : goal.returns
returns c = xml-made (sort_type (sort_in c.args.sort) c.args.marked.row) c.sort_type-at.result c.sort_type-of.result c.args.marked.marks c.in_ok-made.made (c.sort_type-at.ensures ∙ ap (sort_type (sort_in c.args.sort)) c.in_ok-row.ensures) c.sort_type-of.ensures c.in_ok-made.ensures

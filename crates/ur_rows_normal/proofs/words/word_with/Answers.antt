use Rattle.ur_rows.specs.Normal.{map_of, xml_of}
use Rattle.ur_rows_reduce.specs.Arguments.{args_of}
use Rattle.ur_rows_normal.proofs.Naming.{word-map, word-xml, word-walks}
use Rattle.ur_rows_normal.proofs.words.word_with.Goals as goal

pub returns-then-is : goal.returns-then-is
returns-then-is c = word-walks c.map_of.result c.args.x.now (args_of c.args.args.now) map_of (λ ns. word-map c.args.x.now ns c.is.result c.is.ensures c.if-is.true) c.map_of.ensures

pub returns-then-is-2 : goal.returns-then-is-2
returns-then-is-2 c = word-walks c.xml_of.result c.args.x.now (args_of c.args.args.now) xml_of (λ ns. word-xml c.args.x.now ns c.is.result c.is-2.result c.is.ensures c.if-is.false c.is-2.ensures c.if-is-2.true) c.xml_of.ensures

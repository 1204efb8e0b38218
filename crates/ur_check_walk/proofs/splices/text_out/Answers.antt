use Rattle.ur_xmltype.specs.Views.{place_in}
use Rattle.ur_check_walk.proofs.Splicing.{text-stays, text-drops}
use Rattle.ur_check_walk.proofs.splices.text_out.Goals as goal

pub returns-then-kept-clause-text : goal.returns-then-kept-clause-text
returns-then-kept-clause-text c = text-stays (place_in c.args.place) c.args.text.now c.in_ok-kept.kept c.in_ok-made.made c.in_ok-kept.ensures.kept c.if-kept.true c.in_ok-made.ensures

pub returns-clause-text : goal.returns-clause-text
returns-clause-text c = text-drops (place_in c.args.place) c.args.text.now c.in_ok-kept.kept c.no_marks.result c.in_ok-kept.ensures.kept c.if-kept.false c.no_marks.ensures.none

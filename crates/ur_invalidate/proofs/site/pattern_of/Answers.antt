use Rattle.std.proofs.lemmas.Result.{IfOk-weaker}
use Rattle.ur_invalidate.proofs.ReadOff.{pattern_of_classes}
use Rattle.ur_invalidate.proofs.site.pattern_of.Goals as goal

pub returns : goal.returns
returns c = IfOk-weaker c.pattern_from.result _ _ (λ pattern is. pattern_of_classes c.args.site c.args.pair.now c.in_ok-classes.classes pattern c.in_ok-classes.ensures is) c.pattern_from.ensures

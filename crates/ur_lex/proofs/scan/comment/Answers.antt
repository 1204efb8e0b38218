use Rattle.std.proofs.Common.{◌∙◌, sym, arith}
use Rattle.ur_lex.proofs.Comments.{comment_short, comment_opens, comment_closes, comment_goes_on}
use Rattle.ur_lex.proofs.scan.comment.Goals as goal

pub returns-then-bytes-at-lt2 : goal.returns-then-bytes-at-lt2
returns-then-bytes-at-lt2 c = c.loop-open.invariant.same ∙ comment_short c.loop-open.open c.args.bytes.now c.loop-open.at (omega arith) (omega arith) (omega arith)

pub loop-open-preserved-then-is_pair : goal.loop-open-preserved-then-is_pair
loop-open-preserved-then-is_pair c = record {
  begun = omega arith;
  within = omega arith;
  fewer = omega arith;
  same = c.loop-open.invariant.same ∙ comment_opens c.loop-open.open c.args.bytes.now c.loop-open.at (omega arith) (omega arith) (sym c.is_pair.ensures ∙ c.if-is_pair.true);
}

pub loop-open-preserved-then-is_pair-2 : goal.loop-open-preserved-then-is_pair-2
loop-open-preserved-then-is_pair-2 c = record {
  begun = omega arith;
  within = omega arith;
  fewer = omega arith;
  same = c.loop-open.invariant.same ∙ comment_closes c.loop-open.open c.args.bytes.now c.loop-open.at (omega arith) (omega arith) (sym c.is_pair.ensures ∙ c.if-is_pair.false) (sym c.is_pair-else-is_pair.ensures ∙ c.if-is_pair-2.true);
}

pub loop-open-preserved : goal.loop-open-preserved
loop-open-preserved c = record {
  begun = omega arith;
  within = omega arith;
  fewer = omega arith;
  same = c.loop-open.invariant.same ∙ comment_goes_on c.loop-open.open c.args.bytes.now c.loop-open.at (omega arith) (omega arith) (sym c.is_pair.ensures ∙ c.if-is_pair.false) (sym c.is_pair-else-is_pair.ensures ∙ c.if-is_pair-2.false);
}

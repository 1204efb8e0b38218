use Rattle.std.proofs.Common.{◌∙◌, sym, arith}
use Rattle.std.specs.List.{position_or_len}
use Rattle.ur_load.specs.Lines.{is_empty}
use Rattle.ur_load.specs.Placed.{texts}
use Rattle.ur_load.proofs.Listed.{empty_later, empty_here}
use Rattle.ur_load.proofs.modules.first_empty.Goals as goal

pub lines-preserved : goal.lines-preserved
lines-preserved c = record {
  within = omega arith;
  passed = empty_later c.args.lines.now c.lines.at (position_or_len is_empty (texts c.args.lines.now)) c.index-lines-at.result (omega arith) c.index-lines-at.is (sym c.is_empty.ensures ∙ c.if-not-is_empty.true) c.lines.invariant.passed;
}

pub returns-else-not-is_empty-clause-first : goal.returns-else-not-is_empty-clause-first
returns-else-not-is_empty-clause-first c = empty_here c.args.lines.now c.lines.at (position_or_len is_empty (texts c.args.lines.now)) c.index-lines-at.result (omega arith) c.index-lines-at.is (sym c.is_empty.ensures ∙ c.if-not-is_empty.false) c.lines.invariant.passed

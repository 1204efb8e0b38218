use Rattle.std.proofs.Common.{◌∙◌, sym, arith}
use Rattle.std.specs.List.{suffix_len}
use Rattle.ur_load.specs.Lines.{is_empty}
use Rattle.ur_load.specs.Placed.{texts}
use Rattle.ur_load.proofs.Listed.{ends_before, ends_here}
use Rattle.ur_load.proofs.lines.filled.Goals as goal

pub empty-preserved : goal.empty-preserved
empty-preserved c = record {
  within = omega arith;
  passed = ends_before c.args.lines.now c.empty.len (suffix_len is_empty (texts c.args.lines.now)) c.index-lines-len.result (omega arith) (omega arith) c.index-lines-len.is (sym c.is_empty.ensures ∙ c.if-is_empty.true) c.empty.invariant.passed;
}

pub returns-else-is_empty-clause-lines : goal.returns-else-is_empty-clause-lines
returns-else-is_empty-clause-lines c = ends_here c.args.lines.now c.empty.len (suffix_len is_empty (texts c.args.lines.now)) c.index-lines-len.result (omega arith) (omega arith) c.index-lines-len.is (sym c.is_empty.ensures ∙ c.if-is_empty.false) c.empty.invariant.passed

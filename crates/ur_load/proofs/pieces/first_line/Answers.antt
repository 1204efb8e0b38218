use Rattle.std.proofs.Common.{arith}
use Rattle.ur_load.proofs.Cuts.{first_cut, first_whole}
use Rattle.ur_load.proofs.Counted.{front_plain, whole_plain, front_ended}
use Rattle.ur_load.proofs.pieces.first_line.Goals as goal

pub returns-then-end-bytes-clause-line : goal.returns-then-end-bytes-clause-line
returns-then-end-bytes-clause-line c = first_cut c.args.bytes.now c.line_end-end.result c.line_end-end.ensures.first c.if-end-bytes.true c.without_return.ensures.stripped

pub returns-else-end-bytes-clause-line : goal.returns-else-end-bytes-clause-line
returns-else-end-bytes-clause-line c = first_whole c.args.bytes.now c.line_end-end.result c.requires c.line_end-end.ensures.first c.line_end-end.ensures.within c.if-end-bytes.false

pub returns-then-end-bytes-clause-plain : goal.returns-then-end-bytes-clause-plain
returns-then-end-bytes-clause-plain c = front_plain c.args.bytes.now c.without_return.result.now c.line_end-end.result c.line_end-end.ensures.first c.line_end-end.ensures.within c.without_return.ensures.begins

pub returns-then-end-bytes-clause-ended : goal.returns-then-end-bytes-clause-ended
returns-then-end-bytes-clause-ended c = λ h. front_ended c.args.bytes.now c.line_end-end.result c.line_end-end.ensures.first c.if-end-bytes.true

pub returns-else-end-bytes-clause-plain : goal.returns-else-end-bytes-clause-plain
returns-else-end-bytes-clause-plain c = whole_plain c.args.bytes.now c.line_end-end.result c.line_end-end.ensures.first c.line_end-end.ensures.within c.if-end-bytes.false

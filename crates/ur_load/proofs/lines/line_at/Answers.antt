use Rattle.std.proofs.Common.{arith}
use Rattle.ur_load.proofs.Counted.{next_number}
use Rattle.ur_load.proofs.Places.{stands_at}
use Rattle.ur_load.proofs.lines.line_at.Goals as goal

pub returns-clause-stands : goal.returns-clause-stands
returns-clause-stands c = stands_at c.args.bytes.now c.first_line-taken.result.0.now c.trim_start-rest.result.now c.trim_end-text.result.now c.in_ok-text.text c.args.at c.first_line-taken.result.1 c.first_line-taken.ensures.begins c.trim_start-rest.ensures.trimmed c.trim_end-text.ensures.trimmed c.in_ok-text.ensures
    c.first_line-taken.ensures.plain c.trim_end-text.ensures.within c.trim_start-rest.ensures.within c.first_line-taken.ensures.holds (omega arith)

pub returns-clause-number : goal.returns-clause-number
returns-clause-number c = next_number c.args.bytes.now c.args.at c.first_line-taken.result.1 c.first_line-taken.ensures.ended

-- Bytes of which all is known.
use Rattle.std.proofs.Common.{subst}
use Rattle.ur_http.specs.Buffers.{AreEmptyLines}
use Rattle.ur_http.proofs.Fronts.{now_empty}
use Rattle.ur_http.proofs.sought.known_of.Goals as goal

pub returns-then-are_empty_lines : goal.returns-then-are_empty_lines
returns-then-are_empty_lines c = now_empty c.args.bytes.now (subst AreEmptyLines c.window-lines.ensures.is (c.are_empty_lines.ensures c.if-are_empty_lines.true))

use Rattle.std.proofs.Common.{◌≡◌, length}
use Rattle.ur_http.specs.Items.{whole_lines}
use Rattle.ur_http.proofs.starts.whole_lines.Given as goal

abbrev pub invariant-loop-last : goal.invariant-loop-last
invariant-loop-last l = whole_lines l.left ≡ whole_lines l.bytes

abbrev pub decreases-loop-last : goal.decreases-loop-last
decreases-loop-last l = length l.left

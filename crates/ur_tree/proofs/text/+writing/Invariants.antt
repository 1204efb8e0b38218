-- What is written so far, and what is left, is the whole.
use Rattle.std.proofs.Common.{◌≡◌, ◌++◌, drop}
use Rattle.ur_tree.specs.Text.{inner_text}
use Rattle.ur_tree.proofs.text.+writing.Given as goal

abbrev pub invariant-write_parts-loop-i : goal.invariant-write_parts-loop-i
invariant-write_parts-loop-i l = l.out ++ inner_text l.names (drop l.i l.parts) ≡ l.initial.out ++ inner_text l.names l.parts

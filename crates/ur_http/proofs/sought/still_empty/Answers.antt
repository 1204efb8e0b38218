-- Lines that grow by empty lines.
use Rattle.std.proofs.Common.{arith}
use Rattle.std.proofs.lemmas.Bool.Decides.{nat_tests}
use Rattle.ur_http.proofs.Fronts.{empty_still}
use Rattle.ur_http.proofs.sought.still_empty.Goals as goal

pub returns-then-are_empty_lines : goal.returns-then-are_empty_lines
returns-then-are_empty_lines c =
    empty_still c.args.bytes.now c.new_lines.result.now c.args.seen c.requires (grind (arith, nat_tests, c.if-bytes-ge-GREATEST_HEAD.false))
    c.new_lines.ensures (c.are_empty_lines.ensures c.if-are_empty_lines.true)

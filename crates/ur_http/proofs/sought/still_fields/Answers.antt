-- Lines that grow by fields.
use Rattle.std.proofs.Common.{arith}
use Rattle.std.proofs.lemmas.Bool.Decides.{nat_tests}
use Rattle.ur_http.specs.Buffers.{AreFields}
use Rattle.ur_http.proofs.Fronts.{fields_still}
use Rattle.ur_http.proofs.sought.still_fields.Goals as goal

pub returns-then-branch : goal.returns-then-branch
returns-then-branch c =
    let are : AreFields c.new_lines.result.now = c.in_ok-are_fields.ensures c.if-branch.true in
    fields_still c.args.bytes.now c.new_lines.result.now c.args.seen c.requires (grind (arith, nat_tests, c.if-bytes-ge-GREATEST_HEAD.false))
    c.new_lines.ensures are

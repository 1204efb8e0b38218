-- A record with these names.
use Rattle.ur_code.specs.Fits.{signature}
use Rattle.ur_verify_operations.proofs.Table.{record_unlike, record_twice, record_made}
use Rattle.ur_verify_operations.proofs.fields.record.Goals as goal
use Rattle.ur_verify_operations.proofs.fields.record.Goals.{then-names-ts-via-then-names-ts, then-names-ts-via-else-names-ts+then-not-are_distinct}

pub returns-then-names-ts-clause-fits : goal.returns-then-names-ts-clause-fits
returns-then-names-ts-clause-fits c =
    elim c.then-names-ts.branch [
      | then-names-ts-via-then-names-ts w ↦ record_unlike (signature c.args.code.now) c.args.names.now c.as_slice-names.result.now c.args.ts.now c.as_slice-names.ensures w.if-names-ts.true
      | then-names-ts-via-else-names-ts+then-not-are_distinct w ↦
          record_twice (signature c.args.code.now) c.args.names.now c.as_slice-names.result.now c.args.ts.now w.are_distinct.result c.as_slice-names.ensures w.are_distinct.ensures w.if-not-are_distinct.true
    ]

pub returns-clause-fits : goal.returns-clause-fits
returns-clause-fits c =
    record_made (signature c.args.code.now) c.args.names.now c.as_slice-names.result.now c.args.ts.now c.in_ok-fields.fields c.as_slice.result.now c.new.result c.in_ok-sorted.sorted
    c.as_slice-names.ensures c.if-names-ts.false (c.are_distinct.ensures.0 c.if-not-are_distinct.false) c.in_ok-fields.ensures c.as_slice.ensures c.new.ensures c.in_ok-sorted.ensures

use Rattle.std.proofs.Common.{refl, arith, slice_index_or}
use Rattle.ur_tags.specs.Segments.{encode_byte}
use Rattle.ur_tags.proofs.Runs.{piece_given, runs_begin, runs_end}
use Rattle.ur_tags.proofs.segments.push_encoded.Goals as goal

pub loop-at-init : goal.loop-at-init
loop-at-init c = runs_begin encode_byte c.args.out.now c.args.bytes.now

pub push_run-requires-clause-within : goal.push_run-requires-clause-within
push_run-requires-clause-within c = omega arith

pub push_run-requires-clause-run : goal.push_run-requires-clause-run
push_run-requires-clause-run c = c.loop-at.invariant.begins

pub loop-at-preserved : goal.loop-at-preserved
loop-at-preserved c =
    let at = slice_index_or c.args.bytes.now c.loop-at.at 0 in
    c.in_ok-next.ensures encode_byte c.args.out.now (piece_given encode_byte at c.encoded.result c.encoded.ensures) c.loop-at.invariant

pub returns : goal.returns
returns c =
    runs_end encode_byte c.args.out.now c.args.bytes.now c.loop-at.out c.extend_from_slice.new.self _ c.loop-at.from c.loop-at.at (omega arith)
    c.loop-at.invariant refl c.in_ok-extend_from_slice.ensures.ok

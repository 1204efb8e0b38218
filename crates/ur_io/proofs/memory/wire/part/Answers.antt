use Rattle.std.proofs.Common.{arith}
use Rattle.ur_io.proofs.Parts.{IsPart, part_is}
use Rattle.ur_io.proofs.memory.wire.part.Goals as goal

the_part : (c : goal.After-unwrap_or-end) → IsPart c.args.starts.now c.args.bytes.now c.args.number c.unwrap_or-end.result
the_part c = part_is c.args.starts.now c.args.bytes.now c.args.number _ c.requires.within c.requires.rises (grind arith)

pub slice_bounds-result-count : goal.slice_bounds-result-count
slice_bounds-result-count c = (the_part c).rises

pub slice_bounds-result-start : goal.slice_bounds-result-start
slice_bounds-result-start c = omega (arith, (the_part c).rises, (the_part c).within)

pub slice_bounds-result-end : goal.slice_bounds-result-end
slice_bounds-result-end c = omega (arith, (the_part c).rises, (the_part c).within)

pub returns : goal.returns
returns c =
    let it : IsPart c.args.starts.now c.args.bytes.now c.args.number c.unwrap_or-end.result =
    part_is c.args.starts.now c.args.bytes.now c.args.number _ c.requires.within c.requires.rises (grind arith) in
    it.part

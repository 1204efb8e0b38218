use Rattle.std.proofs.Common.{arith, rules, refl, ◌∙◌}
use Rattle.std.proofs.lemmas.Result.{err_from_is_err_and}
use Rattle.ur_io.specs.Traffic.{after_write}
use Rattle.ur_io.proofs.Pieces.{added-none, added-more, front_given, onto_wire}
use Rattle.ur_io.proofs.whole.give.Goals as goal

pub loop-given-init : goal.loop-given-init
loop-given-init g c = record {
  within = omega arith;
  current = c.requires.current;
  same = refl;
  told = added-none after_write onto_wire (g.W.Wire.told c.args.wire.now);
}

pub loop-given-preserved : goal.loop-given-preserved
loop-given-preserved g c = record {
  within = search (rules);
  current = c.write.ensures.stays;
  same = c.in_ok-given.ensures.counts.1 ∙ c.loop-given.invariant.same;
  told =
      added-more after_write onto_wire _ _ (g.W.Wire.told c.write.new.self) c.loop-given.given c.in_ok-given.field-0 c.args.bytes.now
      c.loop-given.invariant.told c.in_ok-given.ensures.contents;
}

pub returns-in_err-given-clause-err : goal.returns-in_err-given-clause-err
returns-in_err-given-clause-err g c =
    let p = err_from_is_err_and c.from_residual.result c.from_residual.ensures.1 in
    rw (p.1) (front_given after_write _ _ (g.W.Wire.told c.write.new.self) c.loop-given.given c.args.bytes.now c.loop-given.invariant.told c.in_err-given.ensures.err)

use Rattle.std.proofs.Common.{◌≤◌, ◌-◌, suc, arith}
use Rattle.ur_pure.proofs.Marking.{pass_idle}
use Rattle.ur_pure.proofs.leading.pass.Goals as goal

pub loop-left-preserved : goal.loop-left-preserved
loop-left-preserved c =
    let within = c.loop-left.invariant.within in
    let next : c.loop-left.left ≤ suc (c.loop-left.left - 1) = omega arith in
    record {
      within = omega (arith, within);
      sofar = pass_idle c.args.all.now c.args.asks c.args.marks.now c.loop-left.marks c.look.new.marks c.loop-left.left
          (c.loop-left.left - 1) c.loop-left.grew next c.loop-left.invariant.sofar c.if-look.ensures;
    }

use Rattle.std.proofs.Common.{◌∙◌, length}
use Rattle.std.proofs.Math.Nat.{le_trans}
use Rattle.ur_machine.proofs.Planning.{within_after}
use Rattle.ur_machine.proofs.Scanning.{scanned_step, scanned_forms}
use Rattle.ur_machine.proofs.Reading.{scans_step, scans_done}
use Rattle.ur_machine.proofs.queries.scan_all.Goals as goal

pub loop-item-preserved : goal.loop-item-preserved
loop-item-preserved g c = record {
  scanned = scanned_step _ _ _ _ c.args.items.now c.in-Some.item.now c.in-Some.rest.now c.loop-item.left.now c.loop-item.tables c.in_ok-rows.rows c.push.new.self
      c.loop-item.invariant.within.same_kept c.loop-item.invariant.current c.in-Some.ensures.cases.0 c.loop-item.invariant.scanned c.in_ok-rows.ensures.rows c.in_ok-rows.ensures.every_form c.in_ok-push.ensures.ok;
  current = c.in_ok-rows.ensures.current ∙ c.loop-item.invariant.current;
  within = within_after _ _ _ _ _ _ _ _ c.loop-item.invariant.within c.in_ok-rows.ensures.ends;
  reads = scans_step _ c.in-Some.item.now c.in-Some.rest.now c.loop-item.left.now (g.K.Keeper.reads c.args.keeper.now) _ _ (length c.args.items.now) c.in-Some.ensures.cases.0 c.loop-item.invariant.reads c.in_ok-rows.ensures.reads;
  faults = le_trans c.loop-item.invariant.faults c.in_ok-rows.ensures.cause.later;
}

pub returns-clause-every_form : goal.returns-clause-every_form
returns-clause-every_form g c = scanned_forms _ _ c.args.items.now c.loop-item.left.now c.loop-item.tables c.in_default.ensures.cases c.loop-item.invariant.scanned

pub returns-clause-reads : goal.returns-clause-reads
returns-clause-reads g c = scans_done (length c.loop-item.left.now) (length c.args.items.now) (g.K.Keeper.reads c.args.keeper.now) _ c.in_default.ensures.cases c.loop-item.invariant.reads

use Rattle.ur_top.specs.Sources.{asked}
use Rattle.ur_stores.proofs.Telling.{serves_memory}
use Rattle.ur_stores.proofs.running.run_in_memory.Goals as goal

pub returns : goal.returns
returns g c = record {
  serves =
      serves_memory (g.F.Shelf.told c.args.shelf.now) (asked c.args.words.now) g.W.Wire.told c.args.wire.now c.run-outcome.new.wire c.run-outcome.new.keeper c.run-outcome.result _ _ c.new-keeper.ensures c.run-outcome.ensures.serves;
}

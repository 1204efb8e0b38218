use Rattle.std.proofs.Common.{map, string_bytes}
use Rattle.ur_top.specs.Sources.{asked}
use Rattle.ur_stores.proofs.Telling.{serves_store}
use Rattle.ur_stores.proofs.running.run_over.Goals as goal

pub returns : goal.returns
returns g c = record {
  serves =
      λ honest. serves_store g.S.Store g.S.Honest.found c.args.bodies (g.F.Shelf.told c.args.shelf.now) (asked c.args.words.now) g.W.Wire.told c.args.wire.now c.run-outcome.new.wire c.run-outcome.new.keeper c.run-outcome.result _ _ honest (c.honest_stores_tell.ensures honest) c.new-keeper.ensures c.run-outcome.ensures.serves;
}

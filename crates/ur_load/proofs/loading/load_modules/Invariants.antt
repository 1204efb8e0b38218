use Rattle.std.proofs.Common.{◌≡◌, ◌+◌, ◌≤◌, take}
use Rattle.ur_base.specs.Told.{WhereTold}
use Rattle.ur_load.specs.Sources.{AreSources}
use Rattle.ur_load.specs.Loads.{AreSmall}
use Rattle.ur_load.proofs.loading.load_modules.Given as goal

abbrev pub invariant-loop-name : goal.invariant-loop-name
invariant-loop-name g l = record {
  numbered : l.number ≡ l.name-index + 1;
  sources : WhereTold (g.S.Shelf.told l.initial.shelf) (λ files. AreSources files l.project 1 (take l.name-index l.names) l.sources);
  small : AreSmall l.sources;
  later : g.S.Shelf.faults l.initial.shelf ≤ g.S.Shelf.faults l.shelf;
  kept : g.S.Shelf.told l.shelf ≡ g.S.Shelf.told l.initial.shelf;
}

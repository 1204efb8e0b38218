use Rattle.std.proofs.Common.{map, ◌∙◌}
use Rattle.ur_keeper.specs.Growing.{grown_all}
use Rattle.ur_keeper.specs.Versions.{Rows, settled}
use Rattle.ur_keeper.proofs.Growth.{held-grown}
use Rattle.ur_keeper.proofs.held.Held.grown.Goals as goal

pub returns : goal.returns
returns c =
    let tables = c.self.inside.tables.items in
    held-grown c.args.schema.now c.args.kept.now c.args.self.now tables c.in_ok-grown_all.field-0.items c.self.inside.sequences.items c.in_ok-saved_sequences.field-0.items c.self.view_is
    (c.in_ok-grown_all.ensures ∙ (λ i. map settled (grown_all (c.as_slice.ensures i) (c.as_slice-2.ensures i) (map (λ (t : Rows). t.saved) tables))))
    c.in_ok-saved_sequences.ensures

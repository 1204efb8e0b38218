use Rattle.std.proofs.Common.{refl, sym, ap, ◌∙◌}
use Rattle.std.specs.Prelude.{option_map}
use Rattle.std.specs.Option.{option_copied}
use Rattle.std.proofs.lemmas.Option.{slice_get-map}
use Rattle.ur_unfold_pieces.specs.Keys.{instance_of}
use Rattle.ur_unfold_pieces.proofs.Lists.{numbered_map}
use Rattle.ur_unfold_table.proofs.table.SourceTable.name.Goals as goal

pub returns-in-Some : goal.returns-in-Some
returns-in-Some c =
    let of = c.args.self.now.of in
    let at = sym c.get_index.ensures.key ∙ ap option_copied c.in-Some.is in
    (instance_of of.closing c.in-Some.key.now, numbered_map (instance_of of.closing) of.instances.keys c.args.number c.in-Some.key.now at, refl)

pub returns-in-None : goal.returns-in-None
returns-in-None c =
    let of = c.args.self.now.of in
    slice_get-map (instance_of of.closing) of.instances.keys c.args.number ∙ ap (option_map (instance_of of.closing)) (sym c.get_index.ensures.key ∙ ap option_copied c.in-None.is)

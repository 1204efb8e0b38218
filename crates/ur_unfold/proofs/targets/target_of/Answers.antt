use Rattle.std.proofs.Common.{sym, subst, ◌∙◌}
use Rattle.ur_source.specs.Instances.{IsTarget}
use Rattle.ur_unfold_pieces.specs.Standing.{instances_in}
use Rattle.ur_unfold_pieces.proofs.KeyEq.{key_eq, eq_sound, eq_complete}
use Rattle.ur_unfold_static.proofs.Keys.{key_at}
use Rattle.ur_unfold.proofs.Zipped.{target_at}
use Rattle.ur_unfold.proofs.targets.target_of.Goals as goal

pub returns : goal.returns
returns c =
    subst (IsTarget (instances_in c.args.table.now) c.args.function) (sym c.in_ok-number-in-Some.ensures)
    (target_at c.args.table.now.closing c.args.table.now.instances.keys c.root-key.result c.args.function c.in-Some.place c.root-key.ensures
    (key_at key_eq eq_sound eq_complete c.root-key.result c.args.table.now.instances.keys c.in-Some.place (sym c.get_index_of.ensures.index ∙ c.in-Some.is)))

use Rattle.ur_unfold_static.proofs.Keys.{last_key}
use Rattle.ur_unfold_pieces.proofs.KeyEq.{key_eq, eq_sound, eq_complete}
use Rattle.ur_unfold_pieces.proofs.numbering.add_key.Goals as goal

pub returns-clause-ok : goal.returns-clause-ok
returns-clause-ok c = last_key key_eq eq_sound eq_complete c.args.key c.args.instances.now.keys _ c.requires c.in_ok-insert.ensures.keys

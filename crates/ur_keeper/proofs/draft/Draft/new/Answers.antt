use Rattle.ur_keeper.proofs.Drafts.{left-of}
use Rattle.ur_keeper.proofs.draft.Draft.new.Goals as goal

pub returns : goal.returns
returns c = left-of c.into_vec.result.items c.args.rows c.new.result.items c.into_vec.ensures c.new.ensures.items

use Rattle.ur_keeper_bodies.proofs.Stores.{texts-tell}
use Rattle.ur_keeper_bodies.proofs.stored.texts_tell_layouts.Goals as goal

pub returns : goal.returns
returns c = texts-tell

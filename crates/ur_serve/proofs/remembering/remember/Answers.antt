use Rattle.ur_serve.proofs.Remembered.{put_if}
use Rattle.ur_serve.proofs.remembering.remember.Goals as goal

pub returns-then-may_stand : goal.returns-then-may_stand
returns-then-may_stand c = put_if c.args.path.now c.args.bytes.now c.args.asks c.in-Some.asks c.args.pages.now.list c.put.new.pages.list c.in-Some.is c.put.ensures

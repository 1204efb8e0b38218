use Rattle.ur_machine_frames.specs.Steps.{performing}
use Rattle.ur_machine_frames.proofs.Leading.{not_stuck, perform_failed, perform_spent}
use Rattle.ur_machine_frames.proofs.frame.Frames.perform.Goals as goal

pub perform-requires : goal.perform-requires
perform-requires g c = (c.args.self.now.units, λ e. not_stuck c.args.functions.now c.args.self.now (performing c.args.op.now c.args.args) c.requires e)

pub returns-in-Failed-clause-leads : goal.returns-in-Failed-clause-leads
returns-in-Failed-clause-leads g c = perform_failed c.args.functions.now c.args.self.now _ c.args.op.now c.args.args c.in-Failed.body c.in-Failed.ensures

pub returns-in-Spent-clause-leads : goal.returns-in-Spent-clause-leads
returns-in-Spent-clause-leads g c = perform_spent c.args.functions.now c.args.self.now _ c.args.op.now c.args.args c.in-Spent.ensures

use Rattle.ur_machine_frames.proofs.Entering.{make_begins, begins_safe, begins_lead}
use Rattle.ur_machine_frames.proofs.InPlace.{enter_read}
use Rattle.ur_machine_frames.proofs.frame.Frames.enter_make.Goals as goal

pub next_argument-requires-clause-safe : goal.next_argument-requires-clause-safe
next_argument-requires-clause-safe g c = begins_safe c.args.functions.now c.args.self.now c.args.place.now c.new.result (make_begins c.args.functions.now c.args.place.now _ _ c.requires.make.2) c.new.ensures c.requires.safe

pub returns-in-None-clause-leads : goal.returns-in-None-clause-leads
returns-in-None-clause-leads g c = begins_lead c.args.functions.now c.args.self.now c.next_argument.new.self c.args.place.now c.new.result c.next_argument.result (make_begins c.args.functions.now c.args.place.now _ _ c.requires.make.2) c.new.ensures c.next_argument.ensures.leads

pub returns-in-Ok-clause-leads : goal.returns-in-Ok-clause-leads
returns-in-Ok-clause-leads g c = enter_read c.args.functions.now c.args.self.now c.args.place.now c.in-Some.value.now c.in-Ok.copy c.in-Some.ensures c.in-Ok.ensures

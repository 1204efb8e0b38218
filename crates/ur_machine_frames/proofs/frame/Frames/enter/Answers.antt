use Rattle.std.proofs.Common.{subst}
use Rattle.ur_machine_frames.specs.declared.frame.Frame.TheVariants as frame
use Rattle.ur_machine_frames.specs.Steps.{Descends}
use Rattle.ur_machine_frames.proofs.Entering.{enter_if, enter_case, enter_each, call_begins, let_begins, begins_safe, begins_lead}
use Rattle.ur_machine_frames.proofs.frame.Frames.enter.Goals as goal

pub next_argument-requires-clause-safe : goal.next_argument-requires-clause-safe
next_argument-requires-clause-safe g c = begins_safe c.args.functions.now c.args.self.now c.args.place.now c.new.result (call_begins c.args.functions.now c.args.place.now _ _ c.in-Call.is) c.new.ensures c.requires.safe

pub next_argument-requires-in-Let-clause-safe : goal.next_argument-requires-in-Let-clause-safe
next_argument-requires-in-Let-clause-safe g c = begins_safe c.args.functions.now c.args.self.now c.args.place.now c.new-in-Let.result (let_begins c.args.functions.now c.args.place.now _ _ c.in-Let.is) c.new-in-Let.ensures c.requires.safe

pub returns-in-Call-clause-leads : goal.returns-in-Call-clause-leads
returns-in-Call-clause-leads g c = begins_lead c.args.functions.now c.args.self.now c.next_argument.new.self c.args.place.now c.new.result c.next_argument.result (call_begins c.args.functions.now c.args.place.now _ _ c.in-Call.is) c.new.ensures c.next_argument.ensures.leads

pub returns-in-Let-clause-leads : goal.returns-in-Let-clause-leads
returns-in-Let-clause-leads g c = begins_lead c.args.functions.now c.args.self.now c.next_argument-in-Let.new.self c.args.place.now c.new-in-Let.result c.next_argument-in-Let.result (let_begins c.args.functions.now c.args.place.now _ _ c.in-Let.is) c.new-in-Let.ensures c.next_argument-in-Let.ensures.leads

pub returns-in-If-clause-leads : goal.returns-in-If-clause-leads
returns-in-If-clause-leads g c = enter_if c.args.functions.now c.args.self.now c.descend.new.self c.args.place.now _ _ _ c.descend.result c.requires.stands c.in-If.is
    (subst (λ q. Descends frame.Condition q c.args.self.now c.descend.new.self c.descend.result) c.get.ensures c.descend.ensures.descends)

pub returns-in-Case-clause-leads : goal.returns-in-Case-clause-leads
returns-in-Case-clause-leads g c = enter_case c.args.functions.now c.args.self.now c.descend-in-Case.new.self c.args.place.now _ _ c.descend-in-Case.result c.requires.stands c.in-Case.is
    (subst (λ q. Descends frame.Subject q c.args.self.now c.descend-in-Case.new.self c.descend-in-Case.result) c.get-in-Case.ensures c.descend-in-Case.ensures.descends)

pub returns-in-Each-clause-leads : goal.returns-in-Each-clause-leads
returns-in-Each-clause-leads g c = enter_each c.args.functions.now c.args.self.now c.descend-in-Each.new.self c.args.place.now _ _ c.descend-in-Each.result c.requires.stands c.in-Each.is
    (subst (λ q. Descends frame.Rows q c.args.self.now c.descend-in-Each.new.self c.descend-in-Each.result) c.get-in-Each.ensures c.descend-in-Each.ensures.descends)

use Rattle.std.proofs.Common.{◌≡◌, ◌∷◌, [], sym, ap, subst}
use Rattle.ur_machine_frames.specs.Rest.{state_of}
use Rattle.ur_machine_frames.specs.Plays.{no_store}
use Rattle.ur_machine_frames.specs.Steps.{Leads, with_items, with_items_cost}
use Rattle.ur_machine_frames.proofs.Leading.{ok_of}
use Rattle.ur_machine_frames.proofs.Descending.{next_item_leads, items_spent, items_safe}
use Rattle.ur_machine_frames.proofs.frame.Frames.next_item.Goals as goal

pub join-requires : goal.join-requires
join-requires g c = (state_of c.args.self.now no_store [], λ stuck. items_safe c.args.functions.now c.args.self.now c.args.body.now c.args.done c.args.rest c.in-None.ensures.0 c.requires.safe stuck)

pub returns-in-Spent-clause-leads : goal.returns-in-Spent-clause-leads
returns-in-Spent-clause-leads g c = items_spent c.args.functions.now c.args.self.now c.args.body.now c.args.done c.args.rest c.in-None.ensures.0 c.in-Spent.ensures

pub returns-clause-leads : goal.returns-clause-leads
returns-clause-leads g c =
    let m = c.args.self.now in
    let pushed : c.push.new.self ≡ c.in-Some.item ∷ m.values = ok_of c.push.result _ (sym c.if-is_err.ensures.value) c.push.ensures.ok in
    subst (λ l. Leads c.args.functions.now m (with_items c.args.functions.now c.args.body.now c.args.done l) (with_items_cost c.args.functions.now c.args.body.now l) c.descend.new.self c.descend.result)
    (sym c.in-Some.ensures)
    (next_item_leads c.args.functions.now m (record m { values = c.push.new.self }) c.descend.new.self c.args.place.now c.args.body.now c.args.done c.in-Some.item c.pop.new.self c.descend.result
    c.requires.stands c.requires.body (ap (λ l. record m { values = l }) pushed) c.descend.ensures.descends)

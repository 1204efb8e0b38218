use Rattle.std.proofs.Common.{◌≡◌, ◌++◌, refl, sym, ap, ◌∙◌, subst, ◌-◌}
use Rattle.std.proofs.lemmas.List.{append-nil}
use Rattle.ur_machine_frames.specs.declared.frame.Frame.TheVariants as frame
use Rattle.ur_machine_frames.specs.Steps.{Descends}
use Rattle.ur_machine_frames.proofs.Leading.{call_spent, call_known, ok_of}
use Rattle.ur_machine_frames.proofs.Descending.{calls_lead}
use Rattle.ur_machine_frames.proofs.frame.Frames.call.Goals as goal

pub returns-then-self-eq0-clause-leads : goal.returns-then-self-eq0-clause-leads
returns-then-self-eq0-clause-leads c = call_spent c.args.functions.now c.args.self.now c.args.function c.args.args c.if-self-eq0.true

pub unreachable-requires : goal.unreachable-requires
unreachable-requires c = call_known c.args.functions.now c.args.self.now c.args.function c.args.args c.requires c.if-self-eq0.false (sym c.in-None.ensures.value)

pub returns-clause-leads : goal.returns-clause-leads
returns-clause-leads c =
    let m = c.args.self.now in
    let m₁ = record m { values = c.replace-caller.new.dest; units = m.units - 1 } in
    let pushed : c.push_all.new.self ≡ c.args.args ++ c.new-values.result = ok_of c.push_all.result _ (sym c.if-is_err.ensures.value) c.push_all.ensures.ok in
    let values : c.replace-caller.new.dest ≡ c.args.args = c.replace-caller.ensures.after ∙ pushed ∙ ap (λ l. c.args.args ++ l) c.new-values.ensures ∙ append-nil c.args.args in
    calls_lead c.args.functions.now m m₁ c.descend.new.self c.args.function c.args.args c.in-Some.called.now c.descend.result
    c.if-self-eq0.false (sym c.in-Some.ensures.value) refl values (λ store events. refl)
    (subst (λ l. Descends (frame.Body c.args.function l) c.in-Some.called.now.body m₁ c.descend.new.self c.descend.result) c.replace-caller.ensures.value c.descend.ensures.descends)

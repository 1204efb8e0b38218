use Rattle.std.proofs.Common.{◌≡◌, [], ◌∷◌, ◌++◌, sym, ap, subst, ◌∙◌}
use Rattle.std.proofs.lemmas.List.{append-nil}
use Rattle.ur_terms.specs.Run.{outcome_of}
use Rattle.ur_machine_frames.specs.declared.frame.Frame.TheVariants as frame
use Rattle.ur_machine_frames.specs.declared.frame.Frames.{Frames}
use Rattle.ur_machine_frames.specs.Plays.{until, no_store, held}
use Rattle.ur_machine_frames.specs.Steps.{ends}
use Rattle.ur_machine_frames.proofs.Leading.{ok_of}
use Rattle.ur_machine_frames.proofs.Playing.{until_plays}
use Rattle.ur_machine_frames.proofs.Starting.{started, start_known}
use Rattle.ur_machine_frames.proofs.run.run_call.Goals as goal

pub unreachable-requires : goal.unreachable-requires
unreachable-requires g c = c.requires (start_known c.args.functions.now c.args.function c.args.args _ (sym c.in-None.ensures.value))

pub advance-pause-requires-clause-safe : goal.advance-pause-requires-clause-safe
advance-pause-requires-clause-safe g c =
    let m : Frames = record { frames = c.push.new.self; values = c.push_all.new.self; carried = c.args.carried; sent = c.new-in-Some-2.result; units = c.args.units } in
    let pushed : m.frames ≡ frame.Body c.args.function c.new-caller.result ∷ c.new.result = ok_of c.push.result _ (sym c.if-is_err-2.ensures.value) c.push.ensures.ok in
    let filled : m.values ≡ c.args.args ++ c.new-in-Some.result = ok_of c.push_all.result _ (sym c.if-is_err.ensures.value) c.push_all.ensures.ok in
    λ stuck. c.requires (ap (λ l. outcome_of until c.args.functions.now c.args.function c.args.args (held c.args.carried l no_store [] c.args.units)) (sym c.new-in-Some-2.ensures)
    ∙ sym (started c.args.functions.now c.args.function c.in-Some.called.now (sym c.in-Some.ensures.value) m c.args.args c.new-caller.result
    (pushed ∙ ap (λ l. frame.Body c.args.function c.new-caller.result ∷ l) c.new.ensures)
    (filled ∙ ap (λ l. c.args.args ++ l) c.new-in-Some.ensures ∙ append-nil c.args.args)
    until until_plays no_store [])
    ∙ stuck)

pub returns-clause-comes_to : goal.returns-clause-comes_to
returns-clause-comes_to g c =
    let m : Frames = record { frames = c.push.new.self; values = c.push_all.new.self; carried = c.args.carried; sent = c.new-in-Some-2.result; units = c.args.units } in
    let pushed : m.frames ≡ frame.Body c.args.function c.new-caller.result ∷ c.new.result = ok_of c.push.result _ (sym c.if-is_err-2.ensures.value) c.push.ensures.ok in
    let filled : m.values ≡ c.args.args ++ c.new-in-Some.result = ok_of c.push_all.result _ (sym c.if-is_err.ensures.value) c.push_all.ensures.ok in
    λ d p store events.
    subst (λ o. o ≡ ends d c.args.functions.now c.advance-pause.new.self c.advance-pause.result o store events)
    (sym (ap (λ l. outcome_of d c.args.functions.now c.args.function c.args.args (held c.args.carried l store events c.args.units)) (sym c.new-in-Some-2.ensures)
    ∙ sym (started c.args.functions.now c.args.function c.in-Some.called.now (sym c.in-Some.ensures.value) m c.args.args c.new-caller.result
    (pushed ∙ ap (λ l. frame.Body c.args.function c.new-caller.result ∷ l) c.new.ensures)
    (filled ∙ ap (λ l. c.args.args ++ l) c.new-in-Some.ensures ∙ append-nil c.args.args)
    d p store events)))
    (c.advance-pause.ensures.ends d p store events)

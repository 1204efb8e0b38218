use Rattle.std.proofs.Common.{◌++◌, ◌∷◌, None, refl, ap, ◌∙◌, arith}
use Rattle.std.proofs.lemmas.List.{append-nil}
use Rattle.ur_machine_frames.specs.declared.frame.Frame.TheVariants as frame
use Rattle.ur_machine.specs.declared.machine.Machine.{Machine}
use Rattle.ur_machine.proofs.Beginning.{starts_as, target_there}
use Rattle.ur_machine.proofs.Fitting.{carried_fits}
use Rattle.ur_machine.proofs.Typing.{start_under_way}
use Rattle.ur_machine.proofs.machine.Machine.start.Goals as goal

pub target_of-function-requires : goal.target_of-function-requires
target_of-function-requires c = target_there c.args.code.now c.requires.fits c.args.call c.requires.call

pub returns-clause-starts : goal.returns-clause-starts
returns-clause-starts c =
    starts_as c.args.code.now c.args.call c.args.cookies.now c.args.steps
    (record { frames = record { frames = c.push.new.self; values = c.push_all.new.self; carried = c.in_ok-carried.carried; sent = c.new-sent.result; units = c.args.steps }; given = None })
    c.target_of-function.result c.new-caller.result refl
    (c.in_ok-push.ensures.ok ∙ ap (λ l. frame.Body c.target_of-function.result c.new-caller.result ∷ l) c.new-frames.ensures)
    (c.in_ok-push_all.ensures.ok ∙ ap (λ l. c.args.call.args ++ l) c.new-values.ensures ∙ append-nil c.args.call.args)
    c.in_ok-carried.ensures c.new-sent.ensures refl c.target_of-function.ensures

pub returns-clause-under_way : goal.returns-clause-under_way
returns-clause-under_way c =
    let m : Machine = record { frames = record { frames = c.push.new.self; values = c.push_all.new.self; carried = c.in_ok-carried.carried; sent = c.new-sent.result; units = c.args.steps }; given = None } in
    start_under_way c.args.code.now c.requires.fits c.args.call c.requires.call c.args.cookies.now _ (carried_fits c.args.code.now.cookies c.args.cookies.now) c.args.steps m c.in_ok-carried.ensures refl (omega arith)
    (starts_as c.args.code.now c.args.call c.args.cookies.now c.args.steps m c.target_of-function.result c.new-caller.result refl
    (c.in_ok-push.ensures.ok ∙ ap (λ l. frame.Body c.target_of-function.result c.new-caller.result ∷ l) c.new-frames.ensures)
    (c.in_ok-push_all.ensures.ok ∙ ap (λ l. c.args.call.args ++ l) c.new-values.ensures ∙ append-nil c.args.call.args)
    c.in_ok-carried.ensures c.new-sent.ensures refl c.target_of-function.ensures)

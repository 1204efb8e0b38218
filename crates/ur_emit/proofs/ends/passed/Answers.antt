use Rattle.std.proofs.Common.{sym, subst}
use Rattle.std.specs.Prelude.{reverse}
use Rattle.ur_machine_frames.specs.declared.frame.Frame.TheVariants as frame
use Rattle.ur_emit.specs.Ends.{Passes}
use Rattle.ur_emit.proofs.Passing.{passes_let_body, passes_branch}
use Rattle.ur_emit.proofs.ends.passed.Goals as goal

pub returns-in-LetBody : goal.returns-in-LetBody
returns-in-LetBody c =
    let h = c.args.handlers.now in
    let fs = c.args.functions.now in
    let frames = reverse c.args.under.now in
    let slots = c.args.slots.now in
    subst (λ f. Passes h fs f frames slots c.drop_nearest.new.self c.args.given c.args.given) (sym c.in-LetBody.is)
    (passes_let_body h fs frames slots c.args.given c.in-LetBody.bound c.drop_nearest.new.self c.drop_nearest.ensures)

pub returns-in-Branch : goal.returns-in-Branch
returns-in-Branch c =
    let h = c.args.handlers.now in
    let fs = c.args.functions.now in
    let frames = reverse c.args.under.now in
    let slots = c.args.slots.now in
    subst (λ f. Passes h fs f frames slots c.drop_nearest-in-Branch.new.self c.args.given c.args.given) (sym c.in-Branch.is)
    (passes_branch h fs frames slots c.args.given c.in-Branch.number c.in-Branch.bound c.drop_nearest-in-Branch.new.self c.drop_nearest-in-Branch.ensures)

use Rattle.std.proofs.Common.{◌≡◌, ◌++◌, sym, ap, subst}
use Rattle.ur_terms.specs.Run.{outcome_of}
use Rattle.ur_machine_frames.specs.declared.frame.Frame.TheVariants as frame
use Rattle.ur_machine_frames.specs.Plays.{until}
use Rattle.ur_machine_frames.specs.Steps.{going, Descends}
use Rattle.ur_machine_frames.proofs.Leading.{not_stuck, ok_of}
use Rattle.ur_machine_frames.proofs.Views.{stuck_case}
use Rattle.ur_machine_frames.proofs.Entering.{picks, pick_known}
use Rattle.ur_machine_frames.proofs.frame.Frames.pick.Goals as goal

pub unreachable-requires : goal.unreachable-requires
unreachable-requires g c = pick_known c.args.functions.now c.args.self.now c.args.place.now _ _ c.args.value c.in-Case.is c.in-None.ensures c.requires.safe

pub unreachable-requires-in_default : goal.unreachable-requires-in_default
unreachable-requires-in_default g c = not_stuck c.args.functions.now c.args.self.now (going c.args.functions.now frame.Subject c.args.place.now c.args.value) c.requires.safe
    (stuck_case until (outcome_of until c.args.functions.now) c.args.place.now c.args.self.now.values c.args.value _ c.in_default.not-Case)

pub returns-else-is_err-clause-leads : goal.returns-else-is_err-clause-leads
returns-else-is_err-clause-leads g c =
    let m = c.args.self.now in
    let found = c.in-Branch.ensures in
    let pushed : c.push_all.new.self ≡ c.in-Branch.values ++ m.values = ok_of c.push_all.result _ (sym c.if-is_err.ensures.value) c.push_all.ensures.ok in
    picks c.args.functions.now m (record m { values = c.push_all.new.self }) c.descend.new.self c.args.place.now _ _ c.in-Branch.number c.in-Branch.branch.now c.in-Branch.values c.args.value c.descend.result
    c.requires.stands c.in-Case.is found.0 found.1 found.2 (ap (λ l. record m { values = l }) pushed)
    (subst (λ n. Descends (frame.Branch c.in-Branch.number n) c.in-Branch.branch.now.body (record m { values = c.push_all.new.self }) c.descend.new.self c.descend.result) c.len-bound.ensures c.descend.ensures.descends)

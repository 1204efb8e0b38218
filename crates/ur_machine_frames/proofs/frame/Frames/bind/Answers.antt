use Rattle.std.proofs.Common.{◌≡◌, ◌++◌, sym, ap, subst}
use Rattle.ur_machine_frames.specs.declared.frame.Frame.TheVariants as frame
use Rattle.ur_machine_frames.specs.Steps.{Descends}
use Rattle.ur_machine_frames.proofs.Leading.{ok_of}
use Rattle.ur_machine_frames.proofs.Descending.{binds}
use Rattle.ur_machine_frames.proofs.frame.Frames.bind.Goals as goal

pub returns-clause-leads : goal.returns-clause-leads
returns-clause-leads c =
    let m = c.args.self.now in
    let pushed : c.push_all.new.self ≡ c.args.args ++ m.values = ok_of c.push_all.result _ (sym c.if-is_err.ensures.value) c.push_all.ensures.ok in
    binds c.args.functions.now m (record m { values = c.push_all.new.self }) c.descend.new.self c.args.place.now c.args.body.now c.args.args c.descend.result
    c.requires.stands c.requires.body (ap (λ l. record m { values = l }) pushed)
    (subst (λ n. Descends (frame.LetBody n) c.args.body.now (record m { values = c.push_all.new.self }) c.descend.new.self c.descend.result) c.len-bound.ensures c.descend.ensures.descends)

use Rattle.std.proofs.Common.{sym, ap, subst}
use Rattle.std.specs.Prelude.{reverse}
use Rattle.ur_values.specs.declared.value.Value.TheVariants as v
use Rattle.ur_machine_frames.specs.Places.{AreLed}
use Rattle.ur_machine_frames.specs.Over.{IsOver}
use Rattle.ur_machine_frames.proofs.Entering.{known_variable}
use Rattle.ur_machine_frames.proofs.Moving.{moves}
use Rattle.ur_machine_frames.proofs.frame.Frames.read.Goals as goal

pub unreachable-requires : goal.unreachable-requires
unreachable-requires g c = known_variable c.args.functions.now c.args.self.now c.args.place.now c.args.number c.requires.variable (sym c.in-None.ensures) c.requires.safe

pub returns-then-is_over-clause-leads : goal.returns-then-is_over-clause-leads
returns-then-is_over-clause-leads g c =
    let m = c.args.self.now in
    let fs = c.args.functions.now in
    let led = subst (λ l. AreLed fs l (reverse c.as_slice-in-Some.result.now)) (sym c.as_slice.ensures) (subst (AreLed fs m.frames) (sym c.as_slice-in-Some.ensures) c.requires.led) in
    moves fs m (record m { values = c.replace.new.self }) c.args.place.now c.args.number c.replace.result v.Absent c.requires.variable c.replace.ensures.item
    (subst (λ l. IsOver fs l c.args.number) c.as_slice.ensures (c.is_over.ensures fs led c.if-is_over.true)) (ap (λ l. record m { values = l }) c.replace.ensures.others)

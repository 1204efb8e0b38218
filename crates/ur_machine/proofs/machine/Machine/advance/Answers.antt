use Rattle.std.proofs.Common.{◌≤◌, None, sym, subst, arith}
use Rattle.ur_machine_frames.specs.Steps.{Stands, IsSafe, Ends, beginning}
use Rattle.ur_machine.proofs.Running.{control_stands, is_safe, ends_as, pauses}
use Rattle.ur_machine.proofs.machine.Machine.advance.Goals as goal

pub advance-pause-requires-clause-stands : goal.advance-pause-requires-clause-stands
advance-pause-requires-clause-stands g c =
    subst (λ m. Stands c.args.code.now.functions m c.in-Ok.control) (sym c.control.ensures.frames)
    (control_stands c.args.code.now c.args.self.now c.in-Ok.control c.in-Ok.ensures.control)

pub advance-pause-requires-clause-safe : goal.advance-pause-requires-clause-safe
advance-pause-requires-clause-safe g c =
    subst (λ m. IsSafe c.args.code.now.functions m (beginning c.args.code.now.functions c.in-Ok.control)) (sym c.control.ensures.frames)
    (is_safe c.args.code.now c.args.self.now c.requires (omega arith) c.in-Ok.control c.in-Ok.ensures.control)

pub returns-clause-ends : goal.returns-clause-ends
returns-clause-ends g c =
    ends_as c.args.code.now c.args.self.now c.requires (omega arith) c.in-Ok.control c.in-Ok.ensures.control
    c.advance-pause.new.self None c.advance-pause.result (subst (λ m. Ends c.args.code.now.functions m c.in-Ok.control c.advance-pause.new.self c.advance-pause.result) c.control.ensures.frames c.advance-pause.ensures.ends)

pub returns-clause-pauses : goal.returns-clause-pauses
returns-clause-pauses g c =
    pauses c.args.code.now c.args.self.now c.requires (omega arith) c.in-Ok.control c.in-Ok.ensures.control
    c.advance-pause.new.self None c.advance-pause.result (omega arith) (subst (λ m. Ends c.args.code.now.functions m c.in-Ok.control c.advance-pause.new.self c.advance-pause.result) c.control.ensures.frames c.advance-pause.ensures.ends)
    c.advance-pause.ensures.store_call

pub returns-clause-units : goal.returns-clause-units
returns-clause-units g c = subst (λ m. c.advance-pause.new.self.units ≤ m.units) c.control.ensures.frames c.advance-pause.ensures.units

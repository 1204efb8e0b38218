use Rattle.std.proofs.Common.{sym, ap, ◌∙◌}
use Rattle.ur_rows.specs.declared.normal.Part.TheVariants as part
use Rattle.ur_unfold_static.proofs.Laws.{grows_so}
use Rattle.ur_unfold_pieces.proofs.Stepping.{type_in_order, step_is}
use Rattle.ur_unfold_pieces.proofs.steps.step_of.Goals as goal

pub field_step-requires-clause-of : goal.field_step-requires-clause-of
field_step-requires-clause-of c = type_in_order c.args.part.now c.in-Field.label c.get.result.now (c.in-Field.is ∙ ap (part.Field c.in-Field.label) (sym c.get.ensures)) c.requires.part

pub returns-in_ok-step-in-Field-clause-step : goal.returns-in_ok-step-in-Field-clause-step
returns-in_ok-step-in-Field-clause-step c = step_is c.field_step.new.closing c.args.part.now c.in-Field.label c.get.result.now c.args.rest.now c.in_ok-step-in-Field.step (c.in-Field.is ∙ ap (part.Field c.in-Field.label) (sym c.get.ensures)) c.in_ok-step-in-Field.ensures.step

pub returns-in-Piece-clause-grows : goal.returns-in-Piece-clause-grows
returns-in-Piece-clause-grows c = grows_so c.args.closing.now

pub returns-in-Mapped-clause-grows : goal.returns-in-Mapped-clause-grows
returns-in-Mapped-clause-grows c = grows_so c.args.closing.now

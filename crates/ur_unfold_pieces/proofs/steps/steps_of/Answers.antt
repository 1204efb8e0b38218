use Rattle.std.proofs.Common.{Option, subst}
use Rattle.ur_source.specs.Reading.{step_at}
use Rattle.ur_unfold_static.specs.declared.node.Step.{Step}
use Rattle.ur_unfold_static.specs.Scopes.{StepMayBe}
use Rattle.ur_unfold_pieces.proofs.Stepping.{stepped_from, stepped_more, stepped_none, part_in_order, rest_in_order}
use Rattle.ur_unfold_pieces.proofs.steps.steps_of.Goals as goal

pub loop-part-init : goal.loop-part-init
loop-part-init c = stepped_from c.args.closing.now c.args.row c.new-rest.result c.new-steps.result c.new-rest.ensures c.new-steps.ensures

pub step_of-requires-clause-part : goal.step_of-requires-clause-part
step_of-requires-clause-part c = part_in_order c.args.closing.now c.loop-part.closing c.args.row c.loop-part.left c.pop.new.self c.loop-part.rest c.loop-part.steps c.in-Some.part c.loop-part.invariant c.in-Some.ensures c.requires

pub step_of-requires-clause-rest : goal.step_of-requires-clause-rest
step_of-requires-clause-rest c = rest_in_order c.args.closing.now c.loop-part.closing c.args.row c.loop-part.left c.pop.new.self c.loop-part.rest c.loop-part.steps c.in-Some.part c.loop-part.invariant c.in-Some.ensures c.requires

pub returns-in-None-clause-steps : goal.returns-in-None-clause-steps
returns-in-None-clause-steps c =
    stepped_none c.args.closing.now c.loop-part.closing c.step_of.new.closing c.args.row c.loop-part.left c.pop.new.self c.loop-part.rest c.loop-part.steps c.in-Some.part c.loop-part.invariant c.in-Some.ensures
    (subst (λ (o : Option Step). StepMayBe c.step_of.new.closing o (step_at c.in-Some.part c.loop-part.rest)) c.in-None.is c.in_ok-step_of.ensures.step)

pub loop-part-preserved : goal.loop-part-preserved
loop-part-preserved c =
    stepped_more c.args.closing.now c.loop-part.closing c.step_of.new.closing c.args.row c.loop-part.left c.pop.new.self c.loop-part.rest c.loop-part.steps c.in-Some.part c.in-Some-2.step c.in_ok-rest.rest c.push.new.self c.loop-part.invariant c.in-Some.ensures c.in_ok-step_of.ensures.grows
    (subst (λ (o : Option Step). StepMayBe c.step_of.new.closing o (step_at c.in-Some.part c.loop-part.rest)) c.in-Some-2.is c.in_ok-step_of.ensures.step) c.in_ok-rest.ensures c.in_ok-push-in-Some-2.ensures.ok

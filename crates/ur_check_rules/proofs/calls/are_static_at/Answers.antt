use Rattle.std.proofs.lemmas.List.{nil_from_length}
use Rattle.ur_tree.specs.Typing.{are_static_at}
use Rattle.ur_check_rules.specs.Views.{args_with}
use Rattle.ur_check_rules.proofs.Params.{static-past, static-not, static-last}
use Rattle.ur_check_rules.proofs.calls.are_static_at.Goals as goal

pub returns-then-not-may_stand_at : goal.returns-then-not-may_stand_at
returns-then-not-may_stand_at c =
    static-not c.loop-param.params.now c.in-Some.further.now c.in-Some.param.now c.loop-param.args.now c.in-Some-split_first.rest.now c.in-Some-split_first.arg.now c.may_stand_at.result (are_static_at c.args.params.now (args_with c.args.args.now).1)
    c.in-Some.ensures.cases.0 c.in-Some-split_first.ensures.cases.0 c.may_stand_at.ensures c.if-not-may_stand_at.true c.loop-param.invariant

pub returns-in-None : goal.returns-in-None
returns-in-None c = static-last c.loop-param.params.now c.loop-param.args.now (are_static_at c.args.params.now (args_with c.args.args.now).1) (nil_from_length c.loop-param.args.now c.in-None.ensures.cases) c.loop-param.invariant

pub loop-param-preserved : goal.loop-param-preserved
loop-param-preserved c =
    static-past c.loop-param.params.now c.in-Some.further.now c.in-Some.param.now c.loop-param.args.now c.in-Some-split_first.rest.now c.in-Some-split_first.arg.now c.may_stand_at.result (are_static_at c.args.params.now (args_with c.args.args.now).1)
    c.in-Some.ensures.cases.0 c.in-Some-split_first.ensures.cases.0 c.may_stand_at.ensures c.if-not-may_stand_at.false c.loop-param.invariant

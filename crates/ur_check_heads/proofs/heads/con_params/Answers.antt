use Rattle.std.proofs.Common.{drop, ◌+◌, drop_of_length-le}
use Rattle.ur_check_scopes.proofs.Exits.{refused-exit}
use Rattle.ur_check_scopes.proofs.Loops.{drop-here, drop-none}
use Rattle.ur_check_heads.proofs.Written.{so-start, so-past, so-large, so-names, so-end}
use Rattle.ur_check_heads.proofs.heads.con_params.Goals as goal

pub loop-i-init : goal.loop-i-init
loop-i-init c = so-start c.args.place.now c.args.written.now (drop 0 c.args.written.now) c.new-names.result c.new-cons.result c.new-names.ensures c.new-cons.ensures (drop-none c.args.written.now)

pub loop-i-preserved : goal.loop-i-preserved
loop-i-preserved c =
    so-past c.args.place.now c.args.written.now (drop c.loop-i.i c.args.written.now) (drop (c.loop-i.i + 1) c.args.written.now) c.loop-i.names c.bind_param.new.names c.loop-i.cons c.push.new.self c.index-written-i.result c.in_ok-con.con
    (drop-here c.args.written.now c.loop-i.i c.index-written-i.result c.loop-i-test.true c.index-written-i.is) c.in_ok-con.ensures.param c.in_ok-bind_param.ensures c.in_ok-push.ensures.ok c.loop-i.invariant

pub returns-in_err-con-clause-refused : goal.returns-in_err-con-clause-refused
returns-in_err-con-clause-refused c =
    refused-exit c.from_residual.result c.in_err-con.field-0.0 c.from_residual.ensures.1
    (λ r h. (
      h.0,
      so-large c.args.place.now c.args.written.now (drop c.loop-i.i c.args.written.now) (drop (c.loop-i.i + 1) c.args.written.now) c.loop-i.names c.loop-i.cons c.index-written-i.result
          (drop-here c.args.written.now c.loop-i.i c.index-written-i.result c.loop-i-test.true c.index-written-i.is) c.loop-i.invariant h.1,
    ))
    c.in_err-con.ensures.refused

pub returns-clause-names : goal.returns-clause-names
returns-clause-names c = so-names c.args.place.now c.args.written.now (drop c.loop-i.i c.args.written.now) c.loop-i.names c.loop-i.cons (drop_of_length-le c.args.written.now c.loop-i-test.false) c.loop-i.invariant

pub returns-clause-params : goal.returns-clause-params
returns-clause-params c = so-end c.args.place.now c.args.written.now (drop c.loop-i.i c.args.written.now) c.loop-i.names c.loop-i.cons (drop_of_length-le c.args.written.now c.loop-i-test.false) c.loop-i.invariant

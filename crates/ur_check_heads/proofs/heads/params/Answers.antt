use Rattle.std.proofs.Common.{sym, subst, drop, ◌+◌, [], drop_of_length-le}
use Rattle.ur_rows_normal.specs.Preparing.{Reads}
use Rattle.ur_check_scopes.proofs.Exits.{refused-exit}
use Rattle.ur_check_scopes.proofs.Loops.{drop-here, drop-none}
use Rattle.ur_check_heads.proofs.Written.{ParamsCome, params-start, params-past, params-large, params-end}
use Rattle.ur_check_heads.proofs.heads.params.Goals as goal

pub loop-i-init : goal.loop-i-init
loop-i-init c = λ known reads. subst (λ z. ParamsCome 65536 known c.args.written.now z (drop 0 c.args.written.now)) (sym c.new-locals.ensures) (subst (ParamsCome 65536 known c.args.written.now []) (sym (drop-none c.args.written.now)) (params-start 65536 known c.args.written.now))

pub loop-i-preserved : goal.loop-i-preserved
loop-i-preserved c = λ known reads.
    subst (λ z. ParamsCome 65536 known c.args.written.now z (drop (c.loop-i.i + 1) c.args.written.now)) (sym c.in_ok-push.ensures.ok)
    (params-past 65536 known c.args.written.now c.loop-i.locals c.index-written-i.result c.in_ok-local.local (drop (c.loop-i.i + 1) c.args.written.now)
    (subst (ParamsCome 65536 known c.args.written.now c.loop-i.locals) (drop-here c.args.written.now c.loop-i.i c.index-written-i.result c.loop-i-test.true c.index-written-i.is) (c.loop-i.invariant known reads))
    (c.in_ok-local.ensures.param known (subst (λ z. Reads z known.cons) (sym c.cons_at-cons.ensures) reads)))

pub returns-clause-params : goal.returns-clause-params
returns-clause-params c = λ known reads.
    params-end 65536 known c.args.written.now c.loop-i.locals (subst (ParamsCome 65536 known c.args.written.now c.loop-i.locals) (drop_of_length-le c.args.written.now c.loop-i-test.false) (c.loop-i.invariant known reads))

pub returns-in_err-local-clause-refused : goal.returns-in_err-local-clause-refused
returns-in_err-local-clause-refused c =
    refused-exit c.from_residual.result c.in_err-local.field-0.0 c.from_residual.ensures.1
    (λ r h. (
      h.0,
      λ known reads.
          params-large 65536 known c.args.written.now c.loop-i.locals c.index-written-i.result (drop (c.loop-i.i + 1) c.args.written.now)
          (subst (ParamsCome 65536 known c.args.written.now c.loop-i.locals) (drop-here c.args.written.now c.loop-i.i c.index-written-i.result c.loop-i-test.true c.index-written-i.is) (c.loop-i.invariant known reads))
          (h.1 known (subst (λ z. Reads z known.cons) (sym c.cons_at-cons.ensures) reads)),
    ))
    c.in_err-local.ensures.refused

use Rattle.std.proofs.Common.{sym, subst, drop, ◌+◌, ◌∷◌, [], drop_of_length-le}
use Rattle.ur_typed_rules.specs.Arguments.{BreaksForms}
use Rattle.ur_check_scopes.proofs.Exits.{refused-exit, refuses}
use Rattle.ur_check_scopes.proofs.Loops.{drop-here, drop-none}
use Rattle.ur_check_scopes.proofs.Writing.{Comes, comes-start, comes-past, comes-broken, comes-end}
use Rattle.ur_check_scopes.proofs.params.params_out.Goals as goal

pub loop-i-init : goal.loop-i-init
loop-i-init c = λ names reads. subst (λ z. Comes 65536 names c.args.params.now z (drop 0 c.args.params.now)) (sym c.new-locals.ensures) (subst (Comes 65536 names c.args.params.now []) (sym (drop-none c.args.params.now)) (comes-start 65536 names c.args.params.now))

pub loop-i-preserved : goal.loop-i-preserved
loop-i-preserved c = λ names reads.
    subst (λ z. Comes 65536 names c.args.params.now z (drop (c.loop-i.i + 1) c.args.params.now)) (sym c.in_ok-push.ensures.ok)
    (comes-past 65536 names c.args.params.now c.loop-i.locals c.index-params-i.result c.in_ok-local.local (drop (c.loop-i.i + 1) c.args.params.now)
    (subst (Comes 65536 names c.args.params.now c.loop-i.locals) (drop-here c.args.params.now c.loop-i.i c.index-params-i.result c.loop-i-test.true c.index-params-i.is) (c.loop-i.invariant names reads))
    (c.in_ok-local.ensures.param names reads))

pub returns-clause-params : goal.returns-clause-params
returns-clause-params c = λ names reads.
    comes-end 65536 names c.args.params.now c.loop-i.locals (subst (Comes 65536 names c.args.params.now c.loop-i.locals) (drop_of_length-le c.args.params.now c.loop-i-test.false) (c.loop-i.invariant names reads))

pub returns-in_err-local-clause-refused : goal.returns-in_err-local-clause-refused
returns-in_err-local-clause-refused c =
    refused-exit c.from_residual.result c.in_err-local.field-0.0 c.from_residual.ensures.1
    (λ r h names reads. refuses [] (BreaksForms 65536 names (c.index-params-i.result ∷ [])) (BreaksForms 65536 names c.args.params.now)
    (comes-broken 65536 names c.args.params.now c.loop-i.locals c.index-params-i.result (drop (c.loop-i.i + 1) c.args.params.now)
    (subst (Comes 65536 names c.args.params.now c.loop-i.locals) (drop-here c.args.params.now c.loop-i.i c.index-params-i.result c.loop-i-test.true c.index-params-i.is) (c.loop-i.invariant names reads)))
    r (h names reads))
    c.in_err-local.ensures.refused

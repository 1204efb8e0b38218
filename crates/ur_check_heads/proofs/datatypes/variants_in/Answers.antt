use Rattle.std.proofs.Common.{drop, ◌+◌, drop_of_length-le}
use Rattle.ur_check_scopes.proofs.Exits.{refused-exit}
use Rattle.ur_check_scopes.proofs.Loops.{drop-here}
use Rattle.ur_check_heads.proofs.Grouping.{list-past, list-broken, list-end}
use Rattle.ur_check_heads.proofs.datatypes.variants_in.Goals as goal

pub loop-i-preserved : goal.loop-i-preserved
loop-i-preserved c =
    list-past c.args.datatype _ _ _ c.args.variants.now (drop c.loop-i.i c.args.variants.now) (drop (c.loop-i.i + 1) c.args.variants.now) c.index-variants-i.result c.in_ok-arg.arg
    (drop-here c.args.variants.now c.loop-i.i c.index-variants-i.result c.loop-i-test.true c.index-variants-i.is) c.in_ok-arg.ensures.of c.in_ok-add_variant.ensures c.loop-i.invariant

pub returns-in_err-arg-clause-refused : goal.returns-in_err-arg-clause-refused
returns-in_err-arg-clause-refused c =
    refused-exit c.from_residual.result c.in_err-arg.field-0.0 c.from_residual.ensures.1
    (λ r h. list-broken c.args.datatype _ _ c.args.variants.now (drop c.loop-i.i c.args.variants.now) (drop (c.loop-i.i + 1) c.args.variants.now) c.index-variants-i.result r
    (drop-here c.args.variants.now c.loop-i.i c.index-variants-i.result c.loop-i-test.true c.index-variants-i.is) c.loop-i.invariant h)
    c.in_err-arg.ensures.refused

pub returns-clause-ok : goal.returns-clause-ok
returns-clause-ok c = list-end c.args.datatype _ _ c.args.variants.now (drop c.loop-i.i c.args.variants.now) (drop_of_length-le c.args.variants.now c.loop-i-test.false) c.loop-i.invariant

use Rattle.ur_source.specs.Reading.{closed_type}
use Rattle.ur_unfold_static.specs.Scopes.{cons_of}
use Rattle.ur_unfold.proofs.Zipped.{params_from, params_more, params_end}
use Rattle.ur_unfold.proofs.params.params_of.Goals as goal

pub loop-i-init : goal.loop-i-init
loop-i-init c = params_from (closed_type c.args.names.now (cons_of c.args.closing.now c.args.scope.now)) c.as_slice-all.result.now c.new-types.result c.new-types.ensures

pub loop-i-preserved : goal.loop-i-preserved
loop-i-preserved c =
    params_more (closed_type c.args.names.now (cons_of c.args.closing.now c.args.scope.now)) c.as_slice-all.result.now c.loop-i.i c.index-all-i.result c.loop-i.types c.push_type.new.types c.loop-i-test.true c.index-all-i.is c.loop-i.invariant
    c.in_ok-push_type.ensures

pub returns : goal.returns
returns c =
    params_end (closed_type c.args.names.now (cons_of c.args.closing.now c.args.scope.now)) c.as_slice-all.result.now c.args.params.now c.loop-i.i c.loop-i.types c.as_slice-all.ensures c.loop-i-test.false c.loop-i.invariant

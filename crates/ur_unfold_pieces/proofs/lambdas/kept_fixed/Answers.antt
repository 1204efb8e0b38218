use Rattle.std.proofs.Common.{ℕ}
use Rattle.ur_source.specs.Names.{is_fixed}
use Rattle.ur_unfold_static.specs.declared.sought.Sought.TheVariants as sought
use Rattle.ur_unfold_pieces.specs.Lambdas.{lambda_names}
use Rattle.ur_unfold_pieces.proofs.Keeping.{among_fixed, picked, kept_more, kept_end}
use Rattle.ur_unfold_pieces.proofs.lambdas.kept_fixed.Goals as goal

pub loop-i-preserved : goal.loop-i-preserved
loop-i-preserved c =
    kept_more is_fixed (lambda_names c.args.params.now c.args.body.now) c.args.blank c.as_slice-all.result.now c.loop-i.i _ c.kept_number.result c.loop-i.kept c.push.new.self c.loop-i-test.true
    (picked (λ (n : ℕ). sought.Fixed n) is_fixed among_fixed (lambda_names c.args.params.now c.args.body.now) c.in_ok-place.place c.loop-i.i _ c.args.blank c.kept_number.result c.in_ok-named.named c.in_ok-place.ensures c.in_ok-named.ensures c.kept_number.ensures)
    c.loop-i.invariant c.in_ok-push.ensures.ok

pub returns : goal.returns
returns c = kept_end is_fixed (lambda_names c.args.params.now c.args.body.now) c.args.blank c.args.numbers.now c.as_slice-all.result.now c.loop-i.i c.loop-i.kept c.as_slice-all.ensures c.loop-i-test.false c.loop-i.invariant

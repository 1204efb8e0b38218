use Rattle.ur_source.specs.Items.{static_in}
use Rattle.ur_source.specs.Source.{source_of}
use Rattle.ur_unfold_pieces.proofs.Staying.{stays_so}
use Rattle.ur_unfold_table.proofs.Forming.{not_given}
use Rattle.ur_unfold_table.proofs.Applies.{pushed_no, pushed_none, pushed_some}
use Rattle.ur_unfold_table.proofs.calls.push_fixed.Goals as goal

pub returns-then-not-param-clause-made : goal.returns-then-not-param-clause-made
returns-then-not-param-clause-made c = λ around at whole. pushed_no c.args.table.now.closing.statics c.args.param.now.fixed (static_in (source_of c.args.table.now.typed.now) around c.args.arg.now) c.args.fixed.now c.if-not-param.true

pub returns-in-None-clause-made : goal.returns-in-None-clause-made
returns-in-None-clause-made c = λ around at whole. pushed_none c.static_in.new.table.closing.statics c.args.param.now.fixed (static_in (source_of c.args.table.now.typed.now) around c.args.arg.now) c.in_ok-static_in.field-0 c.args.fixed.now c.if-not-param.false c.in-None.is (c.in_ok-static_in.ensures.made around at whole)

pub returns-in_ok-push-in-Some-clause-made : goal.returns-in_ok-push-in-Some-clause-made
returns-in_ok-push-in-Some-clause-made c = λ around at whole. pushed_some c.static_in.new.table.closing.statics c.args.param.now.fixed (static_in (source_of c.args.table.now.typed.now) around c.args.arg.now) c.in_ok-static_in.field-0 c.in-Some.at c.args.fixed.now c.push.new.self c.if-not-param.false c.in-Some.is (c.in_ok-static_in.ensures.made around at whole) c.in_ok-push-in-Some.ensures.ok

pub returns-then-not-param-clause-stays : goal.returns-then-not-param-clause-stays
returns-then-not-param-clause-stays c = stays_so c.args.table.now

pub returns-in_err-static_in-clause-made : goal.returns-in_err-static_in-clause-made
returns-in_err-static_in-clause-made c = λ around at whole. not_given _ c.from_residual.result c.in_err-static_in.field-0.0 c.from_residual.ensures.1 (c.in_err-static_in.ensures.made around at whole)

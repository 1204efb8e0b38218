use Rattle.std.proofs.Common.{◌≡◌, ◌<◌, Some, rules, true, false, List, length, sym, ap, subst, ◌∙◌}
use Rattle.ur_tree.specs.declared.exp.Exp.{Exp}
use Rattle.ur_tree.specs.declared.exp.Param.{Param}
use Rattle.ur_tree.specs.declared.typed.Typed.{Typed}
use Rattle.ur_source.specs.Items.{static_in, fixed_args}
use Rattle.ur_source.specs.Source.{source_of}
use Rattle.ur_unfold_pieces.proofs.Staying.{stays_so, stays_then, scope_stays, whole_stays}
use Rattle.ur_unfold_table.specs.Applying.{AreMayBeAt, IsPushed}
use Rattle.ur_unfold_table.proofs.Forming.{not_given}
use Rattle.ur_unfold_table.proofs.Called.{no_args, fixed_from, fixed_more, fixed_stop, fixed_end}
use Rattle.ur_unfold_table.proofs.calls.fixed_args.Goals as goal

pub returns-then-ps-es-clause-made : goal.returns-then-ps-es-clause-made
returns-then-ps-es-clause-made c = λ around at whole.
    let differ : ¬ (length c.as_slice-ps.result.now ≡ length c.as_slice-es.result.now) = search rules in
    sym (ap (λ (ps : List Param). fixed_args (static_in (source_of c.args.table.now.typed.now) around) ps c.as_slice-es.result.now) c.as_slice-ps.ensures ∙ ap (fixed_args (static_in (source_of c.args.table.now.typed.now) around) c.args.params.now) c.as_slice-es.ensures)
    ∙ no_args (static_in (source_of c.args.table.now.typed.now) around) c.as_slice-ps.result.now c.as_slice-es.result.now differ

pub returns-then-ps-es-clause-stays : goal.returns-then-ps-es-clause-stays
returns-then-ps-es-clause-stays c = stays_so c.args.table.now

pub loop-i-init : goal.loop-i-init
loop-i-init c = (stays_so c.args.table.now, λ around at whole. fixed_from (static_in (source_of c.args.table.now.typed.now) around) c.as_slice-ps.result.now c.as_slice-es.result.now c.args.table.now.closing.statics c.new-fixed.result c.new-fixed.ensures, search rules)

pub loop-i-preserved : goal.loop-i-preserved
loop-i-preserved c =
    let below : c.loop-i.i < length c.as_slice-es.result.now = subst (λ n. c.loop-i.i < n) c.loop-i.invariant.2 c.loop-i-test.true in (
      stays_then c.args.table.now c.loop-i.table c.push_fixed.new.table c.loop-i.invariant.0 c.in_ok-pushed.ensures.stays,
      λ around at whole. fixed_more (static_in (source_of c.args.table.now.typed.now) around) c.as_slice-ps.result.now c.as_slice-es.result.now c.loop-i.table.closing c.push_fixed.new.table.closing c.in_ok-pushed.ensures.stays.widens.closing c.loop-i.i c.index-ps-i.result c.index-es-i.result c.loop-i.fixed c.push_fixed.new.fixed
          c.loop-i-test.true below c.index-ps-i.is c.index-es-i.is (c.loop-i.invariant.1 around at whole)
          (subst (IsPushed c.push_fixed.new.table.closing.statics c.index-ps-i.result.fixed (static_in (source_of c.args.table.now.typed.now) around c.index-es-i.result) c.loop-i.fixed c.push_fixed.new.fixed) c.if-not-pushed.false
          (subst (λ (app : Typed). IsPushed c.push_fixed.new.table.closing.statics c.index-ps-i.result.fixed (static_in (source_of app) around c.index-es-i.result) c.loop-i.fixed c.push_fixed.new.fixed c.in_ok-pushed.pushed) c.loop-i.invariant.0.widens.typed
          (c.in_ok-pushed.ensures.made around (scope_stays c.args.table.now c.loop-i.table c.loop-i.invariant.0.widens c.args.scope around at) (whole_stays c.args.table.now c.loop-i.table c.loop-i.invariant.0 whole)))),
      c.loop-i.invariant.2,
    )

pub returns-then-not-pushed-clause-made : goal.returns-then-not-pushed-clause-made
returns-then-not-pushed-clause-made c = λ around at whole.
    let below : c.loop-i.i < length c.as_slice-es.result.now = subst (λ n. c.loop-i.i < n) c.loop-i.invariant.2 c.loop-i-test.true in
    sym (ap (λ (ps : List Param). fixed_args (static_in (source_of c.args.table.now.typed.now) around) ps c.as_slice-es.result.now) c.as_slice-ps.ensures ∙ ap (fixed_args (static_in (source_of c.args.table.now.typed.now) around) c.args.params.now) c.as_slice-es.ensures)
    ∙ fixed_stop (static_in (source_of c.args.table.now.typed.now) around) c.as_slice-ps.result.now c.as_slice-es.result.now c.loop-i.table.closing.statics c.push_fixed.new.table.closing.statics c.loop-i.i c.index-ps-i.result c.index-es-i.result c.loop-i.fixed c.push_fixed.new.fixed
    c.loop-i-test.true below c.index-ps-i.is c.index-es-i.is (c.loop-i.invariant.1 around at whole)
    (subst (IsPushed c.push_fixed.new.table.closing.statics c.index-ps-i.result.fixed (static_in (source_of c.args.table.now.typed.now) around c.index-es-i.result) c.loop-i.fixed c.push_fixed.new.fixed) c.if-not-pushed.true
    (subst (λ (app : Typed). IsPushed c.push_fixed.new.table.closing.statics c.index-ps-i.result.fixed (static_in (source_of app) around c.index-es-i.result) c.loop-i.fixed c.push_fixed.new.fixed c.in_ok-pushed.pushed) c.loop-i.invariant.0.widens.typed
    (c.in_ok-pushed.ensures.made around (scope_stays c.args.table.now c.loop-i.table c.loop-i.invariant.0.widens c.args.scope around at) (whole_stays c.args.table.now c.loop-i.table c.loop-i.invariant.0 whole))))

pub returns-then-not-pushed-clause-stays : goal.returns-then-not-pushed-clause-stays
returns-then-not-pushed-clause-stays c = stays_then c.args.table.now c.loop-i.table c.push_fixed.new.table c.loop-i.invariant.0 c.in_ok-pushed.ensures.stays

pub returns-in_err-pushed-clause-stays : goal.returns-in_err-pushed-clause-stays
returns-in_err-pushed-clause-stays c = stays_then c.args.table.now c.loop-i.table c.push_fixed.new.table c.loop-i.invariant.0 c.in_err-pushed.ensures.stays

pub returns-in_err-pushed-clause-made : goal.returns-in_err-pushed-clause-made
returns-in_err-pushed-clause-made c = λ around at whole. not_given _ c.from_residual.result c.in_err-pushed.field-0.0 c.from_residual.ensures.1 (c.in_err-pushed.ensures.made around (scope_stays c.args.table.now c.loop-i.table c.loop-i.invariant.0.widens c.args.scope around at) (whole_stays c.args.table.now c.loop-i.table c.loop-i.invariant.0 whole))

pub returns-clause-made : goal.returns-clause-made
returns-clause-made c = λ around at whole.
    subst (λ (es : List Exp). AreMayBeAt c.loop-i.table.closing.statics (Some c.loop-i.fixed) (fixed_args (static_in (source_of c.args.table.now.typed.now) around) c.args.params.now es)) c.as_slice-es.ensures
    (subst (λ (ps : List Param). AreMayBeAt c.loop-i.table.closing.statics (Some c.loop-i.fixed) (fixed_args (static_in (source_of c.args.table.now.typed.now) around) ps c.as_slice-es.result.now)) c.as_slice-ps.ensures
    (fixed_end (static_in (source_of c.args.table.now.typed.now) around) c.as_slice-ps.result.now c.as_slice-es.result.now c.loop-i.table.closing.statics c.loop-i.i c.loop-i.fixed c.loop-i-test.false c.loop-i.invariant.2 (c.loop-i.invariant.1 around at whole)))

pub returns-clause-stays : goal.returns-clause-stays
returns-clause-stays c = c.loop-i.invariant.0

use Rattle.std.proofs.Common.{◌≡◌, List, length, Option, rules, refl, sym, ap, ap₂, subst, ◌∙◌}
use Rattle.ur_tree.specs.declared.exp.Exp.{Exp}
use Rattle.ur_tree.specs.declared.exp.Exp.TheVariants as x
use Rattle.ur_tree.specs.declared.exp.Binary.{Binary}
use Rattle.ur_tree.specs.declared.exp.Binary.TheVariants as binary
use Rattle.ur_source.specs.Reading.{fold_steps}
use Rattle.ur_unfold_static.specs.declared.node.Step.{Step}
use Rattle.ur_unfold_static.specs.Scopes.{StepsMayBe, cons_of}
use Rattle.ur_source.specs.Static.{static_of, static_project, static_cut, closed_lambda}
use Rattle.ur_unfold_static.proofs.Laws.{grows_so}
use Rattle.ur_unfold_pieces.proofs.Arms.{fixed_arm, val_arm, function_arm, lambda_arm, label_arm, join_arm, fold_none, fold_some, fold_form, field_unnamed, field_named}
use Rattle.ur_unfold_pieces.proofs.Equations.{static-Fixed, static-Val, static-Function, static-Lambda, static-Project, static-Cut, static-Join}
use Rattle.ur_unfold_pieces.proofs.Turning.{turned_from, turned_none, turned_more, turn_end, record_from, record_step, record_stop, record_last}
use Rattle.ur_unfold_pieces.proofs.statics.+statics.Goals as goal

pub folded-loop-i-init : goal.folded-loop-i-init
folded-loop-i-init _ c = turned_from c.args.names.now c.args.step.now c.args.closing.now c.args.scope.now c.args.vals.now c.as_slice-all.result.now c.args.start

pub folded-returns-in-None-clause-made : goal.folded-returns-in-None-clause-made
folded-returns-in-None-clause-made _ c = turned_none c.args.names.now c.args.step.now c.args.closing.now c.loop-i.closing c.args.scope.now c.args.vals.now c.args.steps.now c.as_slice-all.result.now c.loop-i.i c.args.start c.loop-i.made c.as_slice-all.ensures c.in-None.is c.loop-i.invariant.0

pub folded-loop-i-preserved : goal.folded-loop-i-preserved
folded-loop-i-preserved _ c = turned_more c.args.names.now c.args.step.now c.args.closing.now c.loop-i.closing c.static_of.new.closing c.args.scope.now c.in_ok-within-in-Some.within c.args.vals.now c.as_slice-all.result.now c.loop-i.i _ c.args.start c.in_ok-made-in-Some.made c.loop-i.made c.in-Some.acc c.loop-i-test.true c.in-Some.is c.loop-i.invariant c.in_ok-within-in-Some.ensures.cons c.in_ok-within-in-Some.ensures.fixed c.in_ok-made-in-Some.ensures.made c.in_ok-made-in-Some.ensures.grows

pub folded-returns-clause-made : goal.folded-returns-clause-made
folded-returns-clause-made _ c = turn_end c.args.names.now c.args.step.now c.args.closing.now c.loop-i.closing c.args.scope.now c.args.vals.now c.args.steps.now c.as_slice-all.result.now c.loop-i.i c.args.start c.loop-i.made c.as_slice-all.ensures c.loop-i-test.false c.loop-i.invariant.0

pub static_field-returns-in_err-name_of-clause-grows : goal.static_field-returns-in_err-name_of-clause-grows
static_field-returns-in_err-name_of-clause-grows _ c = grows_so c.args.closing.now

pub static_field-returns-in-None-clause-grows : goal.static_field-returns-in-None-clause-grows
static_field-returns-in-None-clause-grows _ c = grows_so c.args.closing.now

pub static_of-returns-then-ne-clause-grows : goal.static_of-returns-then-ne-clause-grows
static_of-returns-then-ne-clause-grows _ c = grows_so c.args.closing.now

pub static_of-returns-then-not-acc-clause-grows : goal.static_of-returns-then-not-acc-clause-grows
static_of-returns-then-not-acc-clause-grows _ c = grows_so c.args.closing.now

pub static_of-returns-in-Fixed-clause-grows : goal.static_of-returns-in-Fixed-clause-grows
static_of-returns-in-Fixed-clause-grows _ c = grows_so c.args.closing.now

pub static_of-returns-in-Val-clause-grows : goal.static_of-returns-in-Val-clause-grows
static_of-returns-in-Val-clause-grows _ c = grows_so c.args.closing.now

pub static_of-returns-in-Fixed-clause-made : goal.static_of-returns-in-Fixed-clause-made
static_of-returns-in-Fixed-clause-made _ c = fixed_arm c.args.closing.now c.args.scope.now c.args.vals.now c.in-Fixed.i c.number_at.result (λ vs cs fs. static_of c.args.names.now vs cs fs c.args.e.now) c.number_at.ensures (λ vs cs fs. ap (static_of c.args.names.now vs cs fs) c.in-Fixed.is ∙ static-Fixed c.args.names.now vs cs fs _)

pub static_of-returns-in-Val-clause-made : goal.static_of-returns-in-Val-clause-made
static_of-returns-in-Val-clause-made _ c = val_arm c.args.closing.now c.args.scope.now c.args.vals.now c.in-Val.k c.number_at-in-Val.result (λ vs cs fs. static_of c.args.names.now vs cs fs c.args.e.now) c.number_at-in-Val.ensures (λ vs cs fs. ap (static_of c.args.names.now vs cs fs) c.in-Val.is ∙ static-Val c.args.names.now vs cs fs _)

pub static_of-returns-in-Function-clause-made : goal.static_of-returns-in-Function-clause-made
static_of-returns-in-Function-clause-made _ c = function_arm c.args.closing.now c.function_node.new.closing c.args.scope.now c.args.vals.now c.in-Function.k c.in-Function.args (λ vs cs fs. static_of c.args.names.now vs cs fs c.args.e.now) c.function_node.result c.function_node.ensures.made (λ vs cs fs. ap (static_of c.args.names.now vs cs fs) c.in-Function.is ∙ static-Function c.args.names.now vs cs fs _ _)

pub static_of-returns-in-Variable-clause-grows : goal.static_of-returns-in-Variable-clause-grows
static_of-returns-in-Variable-clause-grows _ c = grows_so c.args.closing.now

pub static_of-returns-in-Apply-clause-grows : goal.static_of-returns-in-Apply-clause-grows
static_of-returns-in-Apply-clause-grows _ c = grows_so c.args.closing.now

pub static_of-returns-in-Unary-clause-grows : goal.static_of-returns-in-Unary-clause-grows
static_of-returns-in-Unary-clause-grows _ c = grows_so c.args.closing.now

pub static_of-returns-in-Absent-clause-grows : goal.static_of-returns-in-Absent-clause-grows
static_of-returns-in-Absent-clause-grows _ c = grows_so c.args.closing.now

pub static_of-returns-in-Empty-clause-grows : goal.static_of-returns-in-Empty-clause-grows
static_of-returns-in-Empty-clause-grows _ c = grows_so c.args.closing.now

pub static_of-returns-in-Fail-clause-grows : goal.static_of-returns-in-Fail-clause-grows
static_of-returns-in-Fail-clause-grows _ c = grows_so c.args.closing.now

pub static_of-returns-in-Tagged-clause-grows : goal.static_of-returns-in-Tagged-clause-grows
static_of-returns-in-Tagged-clause-grows _ c = grows_so c.args.closing.now

pub static_of-returns-in-If-clause-grows : goal.static_of-returns-in-If-clause-grows
static_of-returns-in-If-clause-grows _ c = grows_so c.args.closing.now

pub static_of-returns-in-Case-clause-grows : goal.static_of-returns-in-Case-clause-grows
static_of-returns-in-Case-clause-grows _ c = grows_so c.args.closing.now

pub static_of-returns-in-Let-clause-grows : goal.static_of-returns-in-Let-clause-grows
static_of-returns-in-Let-clause-grows _ c = grows_so c.args.closing.now

pub static_of-returns-in-Bind-clause-grows : goal.static_of-returns-in-Bind-clause-grows
static_of-returns-in-Bind-clause-grows _ c = grows_so c.args.closing.now

pub static_of-returns-in-Next-clause-grows : goal.static_of-returns-in-Next-clause-grows
static_of-returns-in-Next-clause-grows _ c = grows_so c.args.closing.now

pub static_of-returns-in-GetCookie-clause-grows : goal.static_of-returns-in-GetCookie-clause-grows
static_of-returns-in-GetCookie-clause-grows _ c = grows_so c.args.closing.now

pub static_of-returns-in-SetCookie-clause-grows : goal.static_of-returns-in-SetCookie-clause-grows
static_of-returns-in-SetCookie-clause-grows _ c = grows_so c.args.closing.now

pub static_of-returns-in-Write-clause-grows : goal.static_of-returns-in-Write-clause-grows
static_of-returns-in-Write-clause-grows _ c = grows_so c.args.closing.now

pub static_of-returns-in-Ask-clause-grows : goal.static_of-returns-in-Ask-clause-grows
static_of-returns-in-Ask-clause-grows _ c = grows_so c.args.closing.now

pub static_of-returns-in-Each-clause-grows : goal.static_of-returns-in-Each-clause-grows
static_of-returns-in-Each-clause-grows _ c = grows_so c.args.closing.now

pub static_of-returns-in-Xml-clause-grows : goal.static_of-returns-in-Xml-clause-grows
static_of-returns-in-Xml-clause-grows _ c = grows_so c.args.closing.now

pub static_of-returns-in_ok-number-in-Lambda-clause-made : goal.static_of-returns-in_ok-number-in-Lambda-clause-made
static_of-returns-in_ok-number-in-Lambda-clause-made _ c = lambda_arm c.args.closing.now c.closed_lambda.new.closing c.args.scope.now c.args.vals.now c.in_ok-number-in-Lambda.number (λ cs fs. closed_lambda cs fs c.in-Lambda.params c.get.result.now) (λ vs cs fs. static_of c.args.names.now vs cs fs c.args.e.now) c.in_ok-number-in-Lambda.ensures.number
    (λ vs cs fs. ap (static_of c.args.names.now vs cs fs) (c.in-Lambda.is ∙ ap (x.Lambda c.in-Lambda.params) (sym c.get.ensures)) ∙ static-Lambda c.args.names.now vs cs fs c.in-Lambda.params c.get.result.now)

pub static_of-returns-in_ok-of-in-Project-clause-made : goal.static_of-returns-in_ok-of-in-Project-clause-made
static_of-returns-in_ok-of-in-Project-clause-made _ c = label_arm c.args.names.now static_project c.args.closing.now c.static_of.new.closing c.static_of.new.closing c.args.scope.now c.args.vals.now c.in-Project.label c.in_ok-of-in-Project.of c.get-in-Project.result.now (λ vs cs fs. static_of c.args.names.now vs cs fs c.args.e.now) c.projected.result c.in_ok-of-in-Project.ensures.grows c.in_ok-of-in-Project.ensures.made c.projected.ensures
    (λ vs cs fs. ap (static_of c.args.names.now vs cs fs) (c.in-Project.is ∙ ap (λ (a : Exp). x.Project a c.in-Project.label) (sym c.get-in-Project.ensures)) ∙ static-Project c.args.names.now vs cs fs c.get-in-Project.result.now c.in-Project.label)

pub static_of-returns-in_ok-of-in-Cut-clause-made : goal.static_of-returns-in_ok-of-in-Cut-clause-made
static_of-returns-in_ok-of-in-Cut-clause-made _ c = label_arm c.args.names.now static_cut c.args.closing.now c.static_of-in-Cut.new.closing c.cut.new.closing c.args.scope.now c.args.vals.now c.in-Cut.label c.in_ok-of-in-Cut.of c.get-in-Cut.result.now (λ vs cs fs. static_of c.args.names.now vs cs fs c.args.e.now) c.cut.result c.in_ok-of-in-Cut.ensures.grows c.in_ok-of-in-Cut.ensures.made c.cut.ensures.made
    (λ vs cs fs. ap (static_of c.args.names.now vs cs fs) (c.in-Cut.is ∙ ap (λ (a : Exp). x.Cut a c.in-Cut.label) (sym c.get-in-Cut.ensures)) ∙ static-Cut c.args.names.now vs cs fs c.get-in-Cut.result.now c.in-Cut.label)

pub static_of-returns-in_ok-right-in-Binary-clause-made : goal.static_of-returns-in_ok-right-in-Binary-clause-made
static_of-returns-in_ok-right-in-Binary-clause-made _ c =
    let same : c.in-Binary.op ≡ binary.Join = search rules in
    join_arm c.args.names.now c.args.closing.now c.static_of-in-Binary.new.closing c.static_of-in-Binary-2.new.closing c.joined.new.closing c.args.scope.now c.args.vals.now c.in_ok-left-in-Binary.left c.in_ok-right-in-Binary.right c.get-in-Binary.result.now c.get-in-Binary-2.result.now (λ vs cs fs. static_of c.args.names.now vs cs fs c.args.e.now) c.joined.result
    c.in_ok-left-in-Binary.ensures.grows c.in_ok-right-in-Binary.ensures.grows c.in_ok-left-in-Binary.ensures.made c.in_ok-right-in-Binary.ensures.made c.joined.ensures.made
    (λ vs cs fs. ap (static_of c.args.names.now vs cs fs) (c.in-Binary.is ∙ ap (λ (o : Binary). x.Binary o c.in-Binary.a c.in-Binary.b) same ∙ ap₂ (λ (a b : Exp). x.Binary binary.Join a b) (sym c.get-in-Binary.ensures) (sym c.get-in-Binary-2.ensures)) ∙ static-Join c.args.names.now vs cs fs c.get-in-Binary.result.now c.get-in-Binary-2.result.now)

pub static_of-returns-in-None-clause-made : goal.static_of-returns-in-None-clause-made
static_of-returns-in-None-clause-made _ c =
    fold_none c.args.names.now c.args.closing.now c.fold_steps.new.closing c.static_of-in-Fold.new.closing c.args.scope.now c.args.vals.now c.in-Fold.row c.in-Fold.step c.in-Fold.start (λ vs cs fs. static_of c.args.names.now vs cs fs c.args.e.now)
    (subst (λ (o : Option (List Step)). StepsMayBe c.fold_steps.new.closing o (fold_steps (cons_of c.args.closing.now c.args.scope.now) c.in-Fold.row)) c.in-None.is c.in_ok-steps-in-Fold.ensures.steps)
    (λ vs cs fs. fold_form c.args.names.now vs cs fs c.args.e.now c.in-Fold.of c.in-Fold.acc c.in-Fold.step c.in-Fold.start c.in-Fold.row c.in-Fold.is c.if-not-acc.false)

pub static_of-returns-in-Some-clause-made : goal.static_of-returns-in-Some-clause-made
static_of-returns-in-Some-clause-made _ c =
    fold_some c.args.names.now c.args.closing.now c.fold_steps.new.closing c.static_of-in-Fold.new.closing c.folded.new.closing c.args.scope.now c.args.vals.now c.in-Fold.row c.in-Some.steps c.in_ok-start-in-Fold.start c.get-in-Some.result.now c.get-in-Fold.result.now (λ vs cs fs. static_of c.args.names.now vs cs fs c.args.e.now) c.folded.result
    c.in_ok-steps-in-Fold.ensures.grows c.in_ok-start-in-Fold.ensures.grows
    (subst (λ (o : Option (List Step)). StepsMayBe c.fold_steps.new.closing o (fold_steps (cons_of c.args.closing.now c.args.scope.now) c.in-Fold.row)) c.in-Some.is c.in_ok-steps-in-Fold.ensures.steps)
    c.in_ok-start-in-Fold.ensures.made c.folded.ensures.made
    (λ vs cs fs. fold_form c.args.names.now vs cs fs c.args.e.now c.in-Fold.of c.in-Fold.acc c.get-in-Some.result.now c.get-in-Fold.result.now c.in-Fold.row (c.in-Fold.is ∙ ap₂ (λ (a b : Exp). x.Fold c.in-Fold.of c.in-Fold.acc a b c.in-Fold.row) (sym c.get-in-Some.ensures) (sym c.get-in-Fold.ensures)) c.if-not-acc.false)

pub static_field-returns-in-None-clause-made : goal.static_field-returns-in-None-clause-made
static_field-returns-in-None-clause-made _ c = field_unnamed c.args.names.now c.args.closing.now c.args.closing.now c.args.scope.now c.args.vals.now c.args.field.now c.in_ok-name_of.field-0 c.in_ok-name_of.ensures c.in-None.is

pub static_field-returns-in-Some-2-clause-made : goal.static_field-returns-in-Some-2-clause-made
static_field-returns-in-Some-2-clause-made _ c = field_named c.args.names.now c.args.closing.now c.static_of.new.closing c.args.scope.now c.args.vals.now c.args.field.now c.in_ok-name_of.field-0 c.in_ok-static_of-in-Some.field-0 c.in-Some.name c.in-Some-2.of c.in_ok-name_of.ensures c.in-Some.is c.in-Some-2.is c.in_ok-static_of-in-Some.ensures.made

pub static_record-loop-i-init : goal.static_record-loop-i-init
static_record-loop-i-init _ c = record_from c.args.names.now c.args.closing.now c.args.scope.now c.args.vals.now c.as_slice-all.result.now c.new-made.result c.new-made.ensures

pub static_record-returns-in-None-clause-made : goal.static_record-returns-in-None-clause-made
static_record-returns-in-None-clause-made _ c = record_stop c.args.names.now c.args.closing.now c.loop-i.closing c.static_field.new.closing c.args.scope.now c.args.vals.now c.args.fields.now c.as_slice-all.result.now c.loop-i.i (length c.as_slice-all.result.now) c.loop-i.made refl c.loop-i.invariant c.index-all-at.result c.in_ok-static_field.field-0 c.as_slice-all.ensures c.loop-i-test.true c.index-all-at.is c.in-None.is c.in_ok-static_field.ensures.made

pub static_record-loop-i-preserved : goal.static_record-loop-i-preserved
static_record-loop-i-preserved _ c = record_step c.args.names.now c.args.closing.now c.loop-i.closing c.static_field.new.closing c.args.scope.now c.args.vals.now c.args.fields.now c.as_slice-all.result.now c.loop-i.i (length c.as_slice-all.result.now) c.loop-i.made refl c.loop-i.invariant c.index-all-at.result c.in_ok-made-in-Some.made c.in-Some.field c.in_ok-static_field.field-0 c.loop-i-test.true c.index-all-at.is c.in-Some.is c.in_ok-static_field.ensures.grows c.in_ok-static_field.ensures.made c.in_ok-made-in-Some.ensures

pub static_record-returns-clause-made : goal.static_record-returns-clause-made
static_record-returns-clause-made _ c = record_last c.args.names.now c.args.closing.now c.loop-i.closing c.some_added.new.closing c.args.scope.now c.args.vals.now c.args.fields.now c.as_slice-all.result.now c.loop-i.i (length c.as_slice-all.result.now) c.loop-i.made refl c.loop-i.invariant c.some_added.result c.as_slice-all.ensures c.loop-i-test.false c.some_added.ensures.made

-- The type of a term from the types of its parts.
use Rattle.std.proofs.Common.{◌≡◌, inl, inr, ◌<◌, ◌+◌, ◌*◌, ◌∙◌, ◌++◌, Some, sym, ap, subst, length, take, rules, arith}
use Rattle.std.specs.Prelude.{slice_get}
use Rattle.ur_terms.specs.declared.term.Term.TheVariants as t
use Rattle.ur_terms.specs.Types.{HasType, OpType, Cover, IsXml}
use Rattle.ur_code.specs.Fits.{signature}
use Rattle.ur_verify.proofs.Loops.{not_so}
use Rattle.ur_verify_operations.specs.Answering.{Answers, Says}
use Rattle.ur_verify_operations.specs.Wanting.{patterns_in}
use Rattle.ur_verify_operations.proofs.Replies.{refused_exit}
use Rattle.ur_verify.specs.VerifyScope.{types_in}
use Rattle.ur_verify.specs.Terms.{HaveAll}
use Rattle.ur_verify.proofs.Once.{one_type}
use Rattle.ur_verify.proofs.Rows.{if_from}
use Rattle.ur_verify.proofs.Inferring.{lifted, have_more, have_at, make_given, made, call_given, called_as, let_given, bound_in, test_given, yes_given, no_given, branch_answers, branch_once, branches_more, first_fits, first_given, later_given, branches_all, case_given, case_not_covered, case_answers, each_given, item_given, each_answers}
use Rattle.ur_verify.proofs.Sizes.{make_smaller, call_smaller, let_smaller, if_smaller, case_smaller, each_smaller, one_smaller, branch_smaller, branch_less, within, size, sizes, branch_sizes}
use Rattle.ur_values.specs.declared.types.ValueType.TheVariants as ty
use Rattle.ur_verify_operations.specs.Misfits.{OperationMisfit}
use Rattle.ur_verify_operations.proofs.Told.{told_exit}
use Rattle.ur_verify.specs.Misfits.{TermMisfit, TermsMisfit, UnlikeTerm, UnlikeCall, UnlikeXml, UnlikeBranch, BranchMisfit, BranchesMisfit, NoList, no_branch, in_one}
use Rattle.ur_verify.proofs.Told.{among, placed, lifted_told, variable_told, text_told, never_told, operand_told, argument_told, bound_told, make_told, call_told, let_told, test_told, yes_told, no_told, pattern_exit, body_told, branch_told, matched_told, uncovered_told, case_told, rows_told, list_told, each_told, no_patterns}
use Rattle.ur_verify.proofs.infer.+inferring.Goals as goal

-- ---- a term

pub type_of-make_type-requires : goal.type_of-make_type-requires
type_of-make_type-requires n c = (make_smaller c.args.term.now _ _ n c.decreases c.in-Make.is, tt)

pub type_of-returns-in-Make-clause-fits : goal.type_of-returns-in-Make-clause-fits
type_of-returns-in-Make-clause-fits n c = lifted (signature c.args.code.now) (types_in c.args.env.now) _ _ c.make_type.result c.in-Make.is c.make_type.ensures.fits

pub type_of-call_type-requires : goal.type_of-call_type-requires
type_of-call_type-requires n c = (call_smaller c.args.term.now _ _ n c.decreases c.in-Call.is, tt)

pub type_of-returns-in-Call-clause-fits : goal.type_of-returns-in-Call-clause-fits
type_of-returns-in-Call-clause-fits n c = lifted (signature c.args.code.now) (types_in c.args.env.now) _ _ c.call_type.result c.in-Call.is c.call_type.ensures.fits

pub type_of-let_type-requires : goal.type_of-let_type-requires
type_of-let_type-requires n c = (let_smaller c.args.term.now _ _ n c.decreases (c.in-Let.is ∙ ap (λ z. t.Let c.in-Let.args z) (sym c.get.ensures)), tt)

pub type_of-returns-in-Let-clause-fits : goal.type_of-returns-in-Let-clause-fits
type_of-returns-in-Let-clause-fits n c = lifted (signature c.args.code.now) (types_in c.args.env.now) _ _ c.let_type.result (c.in-Let.is ∙ ap (λ z. t.Let c.in-Let.args z) (sym c.get.ensures)) c.let_type.ensures.fits

pub type_of-if_type-requires : goal.type_of-if_type-requires
type_of-if_type-requires n c = (if_smaller c.args.term.now _ _ _ n c.decreases (c.in-If.is ∙ ap (λ z. t.If z c.in-If.yes c.in-If.no) (sym c.get-in-If.ensures) ∙ ap (λ z. t.If c.get-in-If.result.now z c.in-If.no) (sym c.get-in-If-2.ensures) ∙ ap (λ z. t.If c.get-in-If.result.now c.get-in-If-2.result.now z) (sym c.get-in-If-3.ensures)), tt)

pub type_of-returns-in-If-clause-fits : goal.type_of-returns-in-If-clause-fits
type_of-returns-in-If-clause-fits n c = lifted (signature c.args.code.now) (types_in c.args.env.now) _ _ c.if_type.result (c.in-If.is ∙ ap (λ z. t.If z c.in-If.yes c.in-If.no) (sym c.get-in-If.ensures) ∙ ap (λ z. t.If c.get-in-If.result.now z c.in-If.no) (sym c.get-in-If-2.ensures) ∙ ap (λ z. t.If c.get-in-If.result.now c.get-in-If-2.result.now z) (sym c.get-in-If-3.ensures)) c.if_type.ensures.fits

pub type_of-case_type-requires : goal.type_of-case_type-requires
type_of-case_type-requires n c = (case_smaller c.args.term.now _ _ n c.decreases (c.in-Case.is ∙ ap (λ z. t.Case z c.in-Case.branches) (sym c.get-in-Case.ensures)), tt)

pub type_of-returns-in-Case-clause-fits : goal.type_of-returns-in-Case-clause-fits
type_of-returns-in-Case-clause-fits n c = lifted (signature c.args.code.now) (types_in c.args.env.now) _ _ c.case_type.result (c.in-Case.is ∙ ap (λ z. t.Case z c.in-Case.branches) (sym c.get-in-Case.ensures)) c.case_type.ensures.fits

pub type_of-each_type-requires : goal.type_of-each_type-requires
type_of-each_type-requires n c = (each_smaller c.args.term.now _ _ n c.decreases (c.in-Each.is ∙ ap (λ z. t.Each z c.in-Each.body) (sym c.get-in-Each.ensures) ∙ ap (λ z. t.Each c.get-in-Each.result.now z) (sym c.get-in-Each-2.ensures)), tt)

pub type_of-returns-in-Each-clause-fits : goal.type_of-returns-in-Each-clause-fits
type_of-returns-in-Each-clause-fits n c = lifted (signature c.args.code.now) (types_in c.args.env.now) _ _ c.each_type.result (c.in-Each.is ∙ ap (λ z. t.Each z c.in-Each.body) (sym c.get-in-Each.ensures) ∙ ap (λ z. t.Each c.get-in-Each.result.now z) (sym c.get-in-Each-2.ensures)) c.each_type.ensures.fits

-- ---- terms one after the other

pub types_of-type_of-requires : goal.types_of-type_of-requires
types_of-type_of-requires n c = (one_smaller c.as_slice-terms.result.now c.args.terms.now c.loop-i.i c.index-terms-i.result n c.decreases c.as_slice-terms.ensures c.loop-i-test.true c.index-terms-i.is, tt)

pub types_of-returns-in_err-of-clause-fits : goal.types_of-returns-in_err-of-clause-fits
types_of-returns-in_err-of-clause-fits n c = refused_exit c.from_residual.result c.in_err-of.field-0.0 c.from_residual.ensures.1 (have_at (signature c.args.code.now) (types_in c.args.env.now) c.as_slice-terms.result.now c.args.terms.now c.loop-i.i c.index-terms-i.result c.as_slice-terms.ensures c.loop-i-test.true c.index-terms-i.is) c.in_err-of.ensures.fits

pub types_of-loop-i-preserved : goal.types_of-loop-i-preserved
types_of-loop-i-preserved n c = subst (λ ts. HaveAll (signature c.args.code.now) (types_in c.args.env.now) (take (c.loop-i.i + 1) c.as_slice-terms.result.now) ts) (sym c.in_ok-push.ensures.ok)
    (have_more (signature c.args.code.now) (types_in c.args.env.now) c.as_slice-terms.result.now c.loop-i.i c.index-terms-i.result c.loop-i.types c.in_ok-of.of c.loop-i-test.true c.index-terms-i.is c.loop-i.invariant c.in_ok-of.ensures.fits)

-- ---- operations, calls and bindings

pub make_type-types_of-requires : goal.make_type-types_of-requires
make_type-types_of-requires n c = (within (5 * sizes c.args.args.now + 1) (5 * sizes c.args.args.now + 2) n c.decreases (omega arith), tt)

pub make_type-returns-in_err-types-clause-fits : goal.make_type-returns-in_err-types-clause-fits
make_type-returns-in_err-types-clause-fits n c = refused_exit c.from_residual.result c.in_err-types.field-0.0 c.from_residual.ensures.1 (make_given (signature c.args.code.now) (types_in c.args.env.now) c.args.op.now c.args.args.now) c.in_err-types.ensures.fits

pub make_type-returns-clause-fits : goal.make_type-returns-clause-fits
make_type-returns-clause-fits n c = made (signature c.args.code.now) (types_in c.args.env.now) c.args.op.now c.args.args.now c.in_ok-types.types c.operation_type.result c.in_ok-types.ensures.fits (subst (λ us. Answers (OpType (signature c.args.code.now) c.args.op.now us) c.operation_type.result) c.as_slice.ensures c.operation_type.ensures.fits)

pub call_type-types_of-requires : goal.call_type-types_of-requires
call_type-types_of-requires n c = (within (5 * sizes c.args.args.now + 1) (5 * sizes c.args.args.now + 2) n c.decreases (omega arith), tt)

pub call_type-returns-in_err-types-clause-fits : goal.call_type-returns-in_err-types-clause-fits
call_type-returns-in_err-types-clause-fits n c = refused_exit c.from_residual.result c.in_err-types.field-0.0 c.from_residual.ensures.1 (call_given (signature c.args.code.now) (types_in c.args.env.now) c.args.number c.args.args.now) c.in_err-types.ensures.fits

pub call_type-returns-clause-fits : goal.call_type-returns-clause-fits
call_type-returns-clause-fits n c = called_as (signature c.args.code.now) (types_in c.args.env.now) c.args.number c.args.args.now c.in_ok-types.types c.called.result c.in_ok-types.ensures.fits (subst (λ us. Answers (λ r. slice_get (signature c.args.code.now).functions c.args.number ≡ Some (us, r)) c.called.result) c.as_slice.ensures c.called.ensures.fits)

pub let_type-types_of-requires : goal.let_type-types_of-requires
let_type-types_of-requires n c = (within (5 * sizes c.args.args.now + 1) (5 * (sizes c.args.args.now + size c.args.body.now) + 2) n c.decreases (omega arith), tt)

pub let_type-type_of-requires : goal.let_type-type_of-requires
let_type-type_of-requires n c = (within (5 * size c.args.body.now) (5 * (sizes c.args.args.now + size c.args.body.now) + 2) n c.decreases (omega arith), tt)

pub let_type-returns-in_err-types-clause-fits : goal.let_type-returns-in_err-types-clause-fits
let_type-returns-in_err-types-clause-fits n c = refused_exit c.from_residual.result c.in_err-types.field-0.0 c.from_residual.ensures.1 (let_given (signature c.args.code.now) (types_in c.args.env.now) c.args.args.now c.args.body.now) c.in_err-types.ensures.fits

pub let_type-returns-clause-fits : goal.let_type-returns-clause-fits
let_type-returns-clause-fits n c = bound_in (signature c.args.code.now) (types_in c.args.env.now) c.args.args.now c.args.body.now c.in_ok-types.types c.type_of.result c.in_ok-types.ensures.fits (subst (λ us. Answers (HasType (signature c.args.code.now) (us ++ (types_in c.args.env.now)) c.args.body.now) c.type_of.result) c.as_slice.ensures c.type_of.ensures.fits)

-- ---- one type, and choices

pub of_type-type_of-requires : goal.of_type-type_of-requires
of_type-type_of-requires n c = (within (5 * size c.args.term.now) (5 * size c.args.term.now + 1) n c.decreases (omega arith), tt)

pub of_type-returns-in_err-found-clause-fits : goal.of_type-returns-in_err-found-clause-fits
of_type-returns-in_err-found-clause-fits n c = refused_exit c.from_residual.result c.in_err-found.field-0.0 c.from_residual.ensures.1 (λ k. (c.args.wanted.now, k.1)) c.in_err-found.ensures.fits

pub of_type-returns-clause-fits : goal.of_type-returns-clause-fits
of_type-returns-clause-fits n c = λ k. not_so _ c.same_type.ensures c.if-same_type.false (one_type (signature c.args.code.now) (types_in c.args.env.now) c.args.term.now c.in_ok-found.found c.args.wanted.now c.in_ok-found.ensures.fits k.1)

pub if_type-of_type-requires : goal.if_type-of_type-requires
if_type-of_type-requires n c = (within (5 * size c.args.test.now + 1) (5 * (size c.args.test.now + size c.args.yes.now + size c.args.no.now) + 2) n c.decreases (omega arith), tt)

pub if_type-type_of-requires : goal.if_type-type_of-requires
if_type-type_of-requires n c = (within (5 * size c.args.yes.now) (5 * (size c.args.test.now + size c.args.yes.now + size c.args.no.now) + 2) n c.decreases (omega arith), tt)

pub if_type-of_type-requires-2 : goal.if_type-of_type-requires-2
if_type-of_type-requires-2 n c = (within (5 * size c.args.no.now + 1) (5 * (size c.args.test.now + size c.args.yes.now + size c.args.no.now) + 2) n c.decreases (omega arith), tt)

pub if_type-returns-in_err-of_type-clause-fits : goal.if_type-returns-in_err-of_type-clause-fits
if_type-returns-in_err-of_type-clause-fits n c = refused_exit c.from_residual.result c.in_err-of_type.field-0.0 c.from_residual.ensures.1 (test_given (signature c.args.code.now) (types_in c.args.env.now) c.args.test.now c.args.yes.now c.args.no.now) c.in_err-of_type.ensures.fits

pub if_type-returns-in_err-of-clause-fits : goal.if_type-returns-in_err-of-clause-fits
if_type-returns-in_err-of-clause-fits n c = refused_exit c.from_residual-in_err-of.result c.in_err-of.field-0.0 c.from_residual-in_err-of.ensures.1 (yes_given (signature c.args.code.now) (types_in c.args.env.now) c.args.test.now c.args.yes.now c.args.no.now) c.in_err-of.ensures.fits

pub if_type-returns-in_err-of_type-2-clause-fits : goal.if_type-returns-in_err-of_type-2-clause-fits
if_type-returns-in_err-of_type-2-clause-fits n c = refused_exit c.from_residual-in_err-of_type-2.result c.in_err-of_type-2.field-0.0 c.from_residual-in_err-of_type-2.ensures.1 (no_given (signature c.args.code.now) (types_in c.args.env.now) c.args.test.now c.args.yes.now c.args.no.now c.in_ok-of.of c.in_ok-of.ensures.fits) c.in_err-of_type-2.ensures.fits

pub if_type-returns-clause-fits : goal.if_type-returns-clause-fits
if_type-returns-clause-fits n c = if_from (signature c.args.code.now) (types_in c.args.env.now) c.args.test.now c.args.yes.now c.args.no.now c.in_ok-of.of c.in_ok-of_type.ensures.fits c.in_ok-of.ensures.fits c.in_ok-of_type-2.ensures.fits

-- ---- branches

pub branch_type-type_of-requires : goal.branch_type-type_of-requires
branch_type-type_of-requires n c = (within (5 * size c.args.branch.now.body) (5 * size c.args.branch.now.body + 1) n c.decreases (omega arith), tt)

pub branch_type-returns-clause-fits : goal.branch_type-returns-clause-fits
branch_type-returns-clause-fits n c = branch_answers (signature c.args.code.now) (types_in c.args.env.now) c.args.of.now c.args.branch.now c.in_ok-bound.bound c.type_of.result c.in_ok-bound.ensures.fits (subst (λ us. Answers (HasType (signature c.args.code.now) (us ++ (types_in c.args.env.now)) c.args.branch.now.body) c.type_of.result) c.as_slice.ensures c.type_of.ensures.fits)

pub branches_type-branch_type-requires : goal.branches_type-branch_type-requires
branches_type-branch_type-requires n c = let some : 0 < length c.as_slice-branches.result.now = search rules in (branch_less c.as_slice-branches.result.now c.args.branches.now 0 c.index-branches-0.result n c.decreases c.as_slice-branches.ensures some c.index-branches-0.is, tt)

pub branches_type-branch_is-requires : goal.branches_type-branch_is-requires
branches_type-branch_is-requires n c = (branch_smaller c.as_slice-branches.result.now c.args.branches.now c.loop-i.i c.index-branches-i.result n c.decreases c.as_slice-branches.ensures c.loop-i-test.true c.index-branches-i.is, tt)

pub branches_type-returns-in_err-made-clause-fits : goal.branches_type-returns-in_err-made-clause-fits
branches_type-returns-in_err-made-clause-fits n c =
    let some : 0 < length c.as_slice-branches.result.now = search rules in
    refused_exit c.from_residual-in_err-made.result c.in_err-made.field-0.0 c.from_residual-in_err-made.ensures.1
    (first_given (signature c.args.code.now) (types_in c.args.env.now) c.args.of.now c.as_slice-branches.result.now c.args.branches.now c.index-branches-0.result c.as_slice-branches.ensures some c.index-branches-0.is) c.in_err-made.ensures.fits

pub branches_type-returns-in_err-branch_is-clause-fits : goal.branches_type-returns-in_err-branch_is-clause-fits
branches_type-returns-in_err-branch_is-clause-fits n c =
    let some : 0 < length c.as_slice-branches.result.now = search rules in let begun : 0 < c.loop-i.i = search rules in
    refused_exit c.from_residual-in_err-branch_is.result c.in_err-branch_is.field-0.0 c.from_residual-in_err-branch_is.ensures.1
    (later_given (signature c.args.code.now) (types_in c.args.env.now) c.args.of.now _ c.as_slice-branches.result.now c.args.branches.now c.loop-i.i c.index-branches-0.result c.index-branches-i.result c.as_slice-branches.ensures some c.index-branches-0.is
    (first_fits (signature c.args.code.now) (types_in c.args.env.now) c.args.of.now _ c.as_slice-branches.result.now c.loop-i.i c.index-branches-0.result begun some c.index-branches-0.is c.loop-i.invariant) c.loop-i-test.true c.index-branches-i.is)
    c.in_err-branch_is.ensures.fits

pub branches_type-loop-i-preserved : goal.branches_type-loop-i-preserved
branches_type-loop-i-preserved n c =
    branches_more (signature c.args.code.now) (types_in c.args.env.now) c.args.of.now _ c.as_slice-branches.result.now c.loop-i.i c.index-branches-i.result c.loop-i-test.true c.index-branches-i.is c.in_ok-branch_is.ensures.fits c.loop-i.invariant

pub branches_type-returns-clause-fits : goal.branches_type-returns-clause-fits
branches_type-returns-clause-fits n c =
    let some : 0 < length c.as_slice-branches.result.now = search rules in
    branches_all (signature c.args.code.now) (types_in c.args.env.now) c.args.of.now _ c.as_slice-branches.result.now c.args.branches.now c.loop-i.i c.as_slice-branches.ensures some c.loop-i-test.false c.loop-i.invariant

pub branch_is-branch_type-requires : goal.branch_is-branch_type-requires
branch_is-branch_type-requires n c = (within (5 * size c.args.branch.now.body + 1) (5 * size c.args.branch.now.body + 2) n c.decreases (omega arith), tt)

pub branch_is-returns-in_err-made-clause-fits : goal.branch_is-returns-in_err-made-clause-fits
branch_is-returns-in_err-made-clause-fits n c = refused_exit c.from_residual.result c.in_err-made.field-0.0 c.from_residual.ensures.1 (λ k. (c.args.wanted.now, k.1)) c.in_err-made.ensures.fits

pub branch_is-returns-clause-fits : goal.branch_is-returns-clause-fits
branch_is-returns-clause-fits n c = λ k. not_so _ c.same_type.ensures c.if-same_type.false (branch_once (signature c.args.code.now) (types_in c.args.env.now) c.args.of.now c.args.branch.now c.in_ok-made.made c.args.wanted.now c.in_ok-made.ensures.fits k.1)

pub case_type-type_of-requires : goal.case_type-type_of-requires
case_type-type_of-requires n c = (within (5 * size c.args.of.now) (5 * (size c.args.of.now + branch_sizes c.args.branches.now) + 4) n c.decreases (omega arith), tt)

pub case_type-returns-in_err-found-clause-fits : goal.case_type-returns-in_err-found-clause-fits
case_type-returns-in_err-found-clause-fits n c = refused_exit c.from_residual.result c.in_err-found.field-0.0 c.from_residual.ensures.1 (case_given (signature c.args.code.now) (types_in c.args.env.now) c.args.of.now c.args.branches.now) c.in_err-found.ensures.fits

pub case_type-returns-then-not-covers-clause-fits : goal.case_type-returns-then-not-covers-clause-fits
case_type-returns-then-not-covers-clause-fits n c = λ k. case_not_covered (signature c.args.code.now) (types_in c.args.env.now) c.args.of.now c.args.branches.now c.in_ok-found.found c.in_ok-found.ensures.fits
    (λ cover. not_so _ c.covers.ensures c.if-not-covers.true (subst (λ bs. Cover (signature c.args.code.now) (patterns_in bs) c.in_ok-found.found) (sym c.as_slice.ensures) cover)) k.0 k.1

pub case_type-branches_type-requires : goal.case_type-branches_type-requires
case_type-branches_type-requires n c = (within (5 * branch_sizes c.args.branches.now + 3) (5 * (size c.args.of.now + branch_sizes c.args.branches.now) + 4) n c.decreases (omega arith), tt)

pub case_type-returns-clause-fits : goal.case_type-returns-clause-fits
case_type-returns-clause-fits n c = case_answers (signature c.args.code.now) (types_in c.args.env.now) c.args.of.now c.args.branches.now c.in_ok-found.found c.branches_type.result c.in_ok-found.ensures.fits
    (subst (λ bs. Cover (signature c.args.code.now) (patterns_in bs) c.in_ok-found.found) c.as_slice.ensures (c.covers.ensures.0 c.if-not-covers.false)) c.branches_type.ensures.fits

-- ---- loops

pub xml_type-type_of-requires : goal.xml_type-type_of-requires
xml_type-type_of-requires n c = (within (5 * size c.args.body.now) (5 * size c.args.body.now + 1) n c.decreases (omega arith), tt)

pub xml_type-returns-clause-fits : goal.xml_type-returns-clause-fits
xml_type-returns-clause-fits n c = λ k. not_so _ c.is_xml.ensures c.if-is_xml.false (subst IsXml (one_type (signature c.args.code.now) (types_in c.args.env.now) c.args.body.now k.0 c.in_ok-of.of k.1.0 c.in_ok-of.ensures.fits) k.1.1)

pub each_type-type_of-requires : goal.each_type-type_of-requires
each_type-type_of-requires n c = (within (5 * size c.args.rows.now) (5 * (size c.args.rows.now + size c.args.body.now) + 2) n c.decreases (omega arith), tt)

pub each_type-xml_type-requires : goal.each_type-xml_type-requires
each_type-xml_type-requires n c = (within (5 * size c.args.body.now + 1) (5 * (size c.args.rows.now + size c.args.body.now) + 2) n c.decreases (omega arith), tt)

pub each_type-returns-in_err-found-clause-fits : goal.each_type-returns-in_err-found-clause-fits
each_type-returns-in_err-found-clause-fits n c = refused_exit c.from_residual.result c.in_err-found.field-0.0 c.from_residual.ensures.1 (each_given (signature c.args.code.now) (types_in c.args.env.now) c.args.rows.now c.args.body.now) c.in_err-found.ensures.fits

pub each_type-returns-in_err-item-clause-fits : goal.each_type-returns-in_err-item-clause-fits
each_type-returns-in_err-item-clause-fits n c = refused_exit c.from_residual-in_err-item.result c.in_err-item.field-0.0 c.from_residual-in_err-item.ensures.1 (item_given (signature c.args.code.now) (types_in c.args.env.now) c.args.rows.now c.args.body.now c.in_ok-found.found c.in_ok-found.ensures.fits) c.in_err-item.ensures.fits

pub each_type-returns-clause-fits : goal.each_type-returns-clause-fits
each_type-returns-clause-fits n c = each_answers (signature c.args.code.now) (types_in c.args.env.now) c.args.rows.now c.args.body.now c.in_ok-found.found c.in_ok-item.item c.xml_type.result c.in_ok-found.ensures.fits c.in_ok-item.ensures.fits
    (subst (λ us. Answers (λ r. HasType (signature c.args.code.now) (us ++ (types_in c.args.env.now)) c.args.body.now r × IsXml r) c.xml_type.result) c.as_slice.ensures c.xml_type.ensures.fits)

-- ---- what is said

pub type_of-returns-in-Variable-clause-told : goal.type_of-returns-in-Variable-clause-told
type_of-returns-in-Variable-clause-told n c =
    variable_told (signature c.args.code.now) (types_in c.args.env.now) c.args.term.now c.in-Variable.place c.variable_type.result c.in-Variable.is c.variable_type.ensures.told

pub type_of-returns-in-Int-clause-told : goal.type_of-returns-in-Int-clause-told
type_of-returns-in-Int-clause-told n c =
    never_told (signature c.args.code.now) (types_in c.args.env.now) c.args.term.now c.int_type.result c.int_type.ensures.told

pub type_of-returns-in-Str-clause-told : goal.type_of-returns-in-Str-clause-told
type_of-returns-in-Str-clause-told n c =
    text_told (signature c.args.code.now) (types_in c.args.env.now) c.args.term.now c.in-Str.text c.text_type.result c.in-Str.is c.text_type.ensures.told

pub type_of-returns-in-Make-clause-told : goal.type_of-returns-in-Make-clause-told
type_of-returns-in-Make-clause-told n c =
    lifted_told (signature c.args.code.now) (types_in c.args.env.now) _ _ c.make_type.result c.in-Make.is c.make_type.ensures.told

pub type_of-returns-in-Call-clause-told : goal.type_of-returns-in-Call-clause-told
type_of-returns-in-Call-clause-told n c =
    lifted_told (signature c.args.code.now) (types_in c.args.env.now) _ _ c.call_type.result c.in-Call.is c.call_type.ensures.told

pub type_of-returns-in-Let-clause-told : goal.type_of-returns-in-Let-clause-told
type_of-returns-in-Let-clause-told n c =
    lifted_told (signature c.args.code.now) (types_in c.args.env.now) _ _ c.let_type.result (c.in-Let.is ∙ ap (λ z. t.Let c.in-Let.args z) (sym c.get.ensures)) c.let_type.ensures.told

pub type_of-returns-in-If-clause-told : goal.type_of-returns-in-If-clause-told
type_of-returns-in-If-clause-told n c =
    lifted_told (signature c.args.code.now) (types_in c.args.env.now) _ _ c.if_type.result (c.in-If.is ∙ ap (λ z. t.If z c.in-If.yes c.in-If.no) (sym c.get-in-If.ensures) ∙ ap (λ z. t.If c.get-in-If.result.now z c.in-If.no) (sym c.get-in-If-2.ensures) ∙ ap (λ z. t.If c.get-in-If.result.now c.get-in-If-2.result.now z) (sym c.get-in-If-3.ensures)) c.if_type.ensures.told

pub type_of-returns-in-Case-clause-told : goal.type_of-returns-in-Case-clause-told
type_of-returns-in-Case-clause-told n c =
    lifted_told (signature c.args.code.now) (types_in c.args.env.now) _ _ c.case_type.result (c.in-Case.is ∙ ap (λ z. t.Case z c.in-Case.branches) (sym c.get-in-Case.ensures)) c.case_type.ensures.told

pub type_of-returns-in-Each-clause-told : goal.type_of-returns-in-Each-clause-told
type_of-returns-in-Each-clause-told n c =
    lifted_told (signature c.args.code.now) (types_in c.args.env.now) _ _ c.each_type.result (c.in-Each.is ∙ ap (λ z. t.Each z c.in-Each.body) (sym c.get-in-Each.ensures) ∙ ap (λ z. t.Each c.get-in-Each.result.now z) (sym c.get-in-Each-2.ensures)) c.each_type.ensures.told

pub types_of-returns-in_err-of-clause-told : goal.types_of-returns-in_err-of-clause-told
types_of-returns-in_err-of-clause-told n c =
    told_exit {M = TermsMisfit (signature c.args.code.now) (types_in c.args.env.now) c.args.terms.now} {N = TermMisfit (signature c.args.code.now) (types_in c.args.env.now) c.index-terms-i.result} c.from_residual.result c.in_err-of.field-0.0 c.from_residual.ensures.1
    (λ said k. (c.index-terms-i.result, among c.as_slice-terms.result.now c.args.terms.now c.loop-i.i c.index-terms-i.result c.as_slice-terms.ensures c.loop-i-test.true c.index-terms-i.is, k)) c.in_err-of.ensures.told

pub make_type-returns-in_err-types-clause-told : goal.make_type-returns-in_err-types-clause-told
make_type-returns-in_err-types-clause-told n c =
    told_exit {M = TermMisfit (signature c.args.code.now) (types_in c.args.env.now) (t.Make c.args.op.now c.args.args.now)} {N = TermsMisfit (signature c.args.code.now) (types_in c.args.env.now) c.args.args.now} c.from_residual.result c.in_err-types.field-0.0 c.from_residual.ensures.1
    (operand_told (signature c.args.code.now) (types_in c.args.env.now) c.args.op.now c.args.args.now) c.in_err-types.ensures.told

pub make_type-returns-clause-told : goal.make_type-returns-clause-told
make_type-returns-clause-told n c =
    make_told (signature c.args.code.now) (types_in c.args.env.now) c.args.op.now c.args.args.now c.in_ok-types.types c.operation_type.result c.in_ok-types.ensures.fits
    (subst (λ us. Answers (OpType (signature c.args.code.now) c.args.op.now us) c.operation_type.result) c.as_slice.ensures c.operation_type.ensures.fits)
    (subst (λ us. Says (OperationMisfit (signature c.args.code.now) c.args.op.now us) c.operation_type.result) c.as_slice.ensures c.operation_type.ensures.told)

pub call_type-returns-in_err-types-clause-told : goal.call_type-returns-in_err-types-clause-told
call_type-returns-in_err-types-clause-told n c =
    told_exit {M = TermMisfit (signature c.args.code.now) (types_in c.args.env.now) (t.Call c.args.number c.args.args.now)} {N = TermsMisfit (signature c.args.code.now) (types_in c.args.env.now) c.args.args.now} c.from_residual.result c.in_err-types.field-0.0 c.from_residual.ensures.1
    (argument_told (signature c.args.code.now) (types_in c.args.env.now) c.args.number c.args.args.now) c.in_err-types.ensures.told

pub call_type-returns-clause-told : goal.call_type-returns-clause-told
call_type-returns-clause-told n c =
    call_told (signature c.args.code.now) (types_in c.args.env.now) c.args.number c.args.args.now c.in_ok-types.types c.called.result c.in_ok-types.ensures.fits
    (subst (λ us. Says (UnlikeCall (signature c.args.code.now) c.args.number us) c.called.result) c.as_slice.ensures c.called.ensures.told)

pub let_type-returns-in_err-types-clause-told : goal.let_type-returns-in_err-types-clause-told
let_type-returns-in_err-types-clause-told n c =
    told_exit {M = TermMisfit (signature c.args.code.now) (types_in c.args.env.now) (t.Let c.args.args.now c.args.body.now)} {N = TermsMisfit (signature c.args.code.now) (types_in c.args.env.now) c.args.args.now} c.from_residual.result c.in_err-types.field-0.0 c.from_residual.ensures.1
    (bound_told (signature c.args.code.now) (types_in c.args.env.now) c.args.args.now c.args.body.now) c.in_err-types.ensures.told

pub let_type-returns-clause-told : goal.let_type-returns-clause-told
let_type-returns-clause-told n c =
    let_told (signature c.args.code.now) (types_in c.args.env.now) c.args.args.now c.args.body.now c.in_ok-types.types c.type_of.result c.in_ok-types.ensures.fits
    (subst (λ us. Says (TermMisfit (signature c.args.code.now) (us ++ (types_in c.args.env.now)) c.args.body.now) c.type_of.result) c.as_slice.ensures c.type_of.ensures.told)

pub of_type-returns-in_err-found-clause-told : goal.of_type-returns-in_err-found-clause-told
of_type-returns-in_err-found-clause-told n c =
    told_exit {M = UnlikeTerm (signature c.args.code.now) (types_in c.args.env.now) c.args.term.now c.args.wanted.now} {N = TermMisfit (signature c.args.code.now) (types_in c.args.env.now) c.args.term.now} c.from_residual.result c.in_err-found.field-0.0 c.from_residual.ensures.1
    (λ said k. inl k) c.in_err-found.ensures.told

pub of_type-returns-clause-told : goal.of_type-returns-clause-told
of_type-returns-clause-told n c =
    inr (c.in_ok-found.found, c.in_ok-found.ensures.fits, not_so _ c.same_type.ensures c.if-same_type.false, c.in_ok-mismatch.ensures)

pub if_type-returns-in_err-of_type-clause-told : goal.if_type-returns-in_err-of_type-clause-told
if_type-returns-in_err-of_type-clause-told n c =
    told_exit {M = TermMisfit (signature c.args.code.now) (types_in c.args.env.now) (t.If c.args.test.now c.args.yes.now c.args.no.now)} {N = UnlikeTerm (signature c.args.code.now) (types_in c.args.env.now) c.args.test.now ty.Bool} c.from_residual.result c.in_err-of_type.field-0.0 c.from_residual.ensures.1
    (test_told (signature c.args.code.now) (types_in c.args.env.now) c.args.test.now c.args.yes.now c.args.no.now) c.in_err-of_type.ensures.told

pub if_type-returns-in_err-of-clause-told : goal.if_type-returns-in_err-of-clause-told
if_type-returns-in_err-of-clause-told n c =
    told_exit {M = TermMisfit (signature c.args.code.now) (types_in c.args.env.now) (t.If c.args.test.now c.args.yes.now c.args.no.now)} {N = TermMisfit (signature c.args.code.now) (types_in c.args.env.now) c.args.yes.now} c.from_residual-in_err-of.result c.in_err-of.field-0.0 c.from_residual-in_err-of.ensures.1
    (yes_told (signature c.args.code.now) (types_in c.args.env.now) c.args.test.now c.args.yes.now c.args.no.now) c.in_err-of.ensures.told

pub if_type-returns-in_err-of_type-2-clause-told : goal.if_type-returns-in_err-of_type-2-clause-told
if_type-returns-in_err-of_type-2-clause-told n c =
    told_exit {M = TermMisfit (signature c.args.code.now) (types_in c.args.env.now) (t.If c.args.test.now c.args.yes.now c.args.no.now)} {N = UnlikeTerm (signature c.args.code.now) (types_in c.args.env.now) c.args.no.now c.in_ok-of.of} c.from_residual-in_err-of_type-2.result c.in_err-of_type-2.field-0.0 c.from_residual-in_err-of_type-2.ensures.1
    (λ said. no_told (signature c.args.code.now) (types_in c.args.env.now) c.args.test.now c.args.yes.now c.args.no.now c.in_ok-of.of said c.in_ok-of.ensures.fits) c.in_err-of_type-2.ensures.told

pub branch_type-returns-in_err-bound-clause-told : goal.branch_type-returns-in_err-bound-clause-told
branch_type-returns-in_err-bound-clause-told n c =
    pattern_exit (signature c.args.code.now) (types_in c.args.env.now) c.args.of.now c.args.branch.now c.from_residual.result c.in_err-bound.field-0.0 c.from_residual.ensures.1 c.in_err-bound.ensures.fits c.in_err-bound.ensures.told

pub branch_type-returns-clause-told : goal.branch_type-returns-clause-told
branch_type-returns-clause-told n c =
    body_told (signature c.args.code.now) (types_in c.args.env.now) c.args.of.now c.args.branch.now c.in_ok-bound.bound c.type_of.result c.in_ok-bound.ensures.fits
    (subst (λ us. Says (TermMisfit (signature c.args.code.now) (us ++ (types_in c.args.env.now)) c.args.branch.now.body) c.type_of.result) c.as_slice.ensures c.type_of.ensures.told)

pub branches_type-returns-then-is_empty-clause-told : goal.branches_type-returns-then-is_empty-clause-told
branches_type-returns-then-is_empty-clause-told n c =
    let none : length c.as_slice-branches.result.now ≡ 0 = search rules in
    no_branch (no_patterns (signature c.args.code.now) (types_in c.args.env.now) c.args.of.now c.as_slice-branches.result.now c.args.branches.now c.as_slice-branches.ensures none, c.in_ok-unlike.ensures)

pub branches_type-returns-in_err-made-clause-told : goal.branches_type-returns-in_err-made-clause-told
branches_type-returns-in_err-made-clause-told n c =
    told_exit {M = BranchesMisfit (signature c.args.code.now) (types_in c.args.env.now) c.args.of.now c.args.branches.now} {N = BranchMisfit (signature c.args.code.now) (types_in c.args.env.now) c.args.of.now c.index-branches-0.result} c.from_residual-in_err-made.result c.in_err-made.field-0.0 c.from_residual-in_err-made.ensures.1
    (λ said k. let some : 0 < length c.as_slice-branches.result.now = search rules in in_one c.index-branches-0.result (among c.as_slice-branches.result.now c.args.branches.now 0 c.index-branches-0.result c.as_slice-branches.ensures some c.index-branches-0.is) k) c.in_err-made.ensures.told

pub branches_type-returns-in_err-branch_is-clause-told : goal.branches_type-returns-in_err-branch_is-clause-told
branches_type-returns-in_err-branch_is-clause-told n c =
    let some : 0 < length c.as_slice-branches.result.now = search rules in let begun : 0 < c.loop-i.i = search rules in
    told_exit {M = BranchesMisfit (signature c.args.code.now) (types_in c.args.env.now) c.args.of.now c.args.branches.now} {N = UnlikeBranch (signature c.args.code.now) (types_in c.args.env.now) c.args.of.now c.index-branches-i.result _} c.from_residual-in_err-branch_is.result c.in_err-branch_is.field-0.0 c.from_residual-in_err-branch_is.ensures.1
    (λ said. branch_told (signature c.args.code.now) (types_in c.args.env.now) c.args.of.now c.args.branches.now c.index-branches-0.result c.index-branches-i.result _ said
    (placed c.as_slice-branches.result.now c.args.branches.now 0 c.index-branches-0.result c.as_slice-branches.ensures some c.index-branches-0.is)
    (first_fits (signature c.args.code.now) (types_in c.args.env.now) c.args.of.now _ c.as_slice-branches.result.now c.loop-i.i c.index-branches-0.result begun some c.index-branches-0.is c.loop-i.invariant)
    (among c.as_slice-branches.result.now c.args.branches.now c.loop-i.i c.index-branches-i.result c.as_slice-branches.ensures c.loop-i-test.true c.index-branches-i.is))
    c.in_err-branch_is.ensures.told

pub branch_is-returns-in_err-made-clause-told : goal.branch_is-returns-in_err-made-clause-told
branch_is-returns-in_err-made-clause-told n c =
    told_exit {M = UnlikeBranch (signature c.args.code.now) (types_in c.args.env.now) c.args.of.now c.args.branch.now c.args.wanted.now} {N = BranchMisfit (signature c.args.code.now) (types_in c.args.env.now) c.args.of.now c.args.branch.now} c.from_residual.result c.in_err-made.field-0.0 c.from_residual.ensures.1
    (λ said k. inl k) c.in_err-made.ensures.told

pub branch_is-returns-clause-told : goal.branch_is-returns-clause-told
branch_is-returns-clause-told n c =
    inr (c.in_ok-made.made, c.in_ok-made.ensures.fits, not_so _ c.same_type.ensures c.if-same_type.false, c.in_ok-mismatch.ensures)

pub case_type-returns-in_err-found-clause-told : goal.case_type-returns-in_err-found-clause-told
case_type-returns-in_err-found-clause-told n c =
    told_exit {M = TermMisfit (signature c.args.code.now) (types_in c.args.env.now) (t.Case c.args.of.now c.args.branches.now)} {N = TermMisfit (signature c.args.code.now) (types_in c.args.env.now) c.args.of.now} c.from_residual.result c.in_err-found.field-0.0 c.from_residual.ensures.1
    (matched_told (signature c.args.code.now) (types_in c.args.env.now) c.args.of.now c.args.branches.now) c.in_err-found.ensures.told

pub case_type-returns-then-not-covers-clause-told : goal.case_type-returns-then-not-covers-clause-told
case_type-returns-then-not-covers-clause-told n c =
    uncovered_told (signature c.args.code.now) (types_in c.args.env.now) c.args.of.now c.args.branches.now c.in_ok-found.found _ c.in_ok-found.ensures.fits
    ((λ cover. not_so _ c.covers.ensures c.if-not-covers.true (subst (λ bs. Cover (signature c.args.code.now) (patterns_in bs) c.in_ok-found.found) (sym c.as_slice.ensures) cover)), c.in_ok-unlike.ensures)

pub case_type-returns-clause-told : goal.case_type-returns-clause-told
case_type-returns-clause-told n c =
    case_told (signature c.args.code.now) (types_in c.args.env.now) c.args.of.now c.args.branches.now c.in_ok-found.found c.branches_type.result c.in_ok-found.ensures.fits c.branches_type.ensures.told

pub xml_type-returns-in_err-of-clause-told : goal.xml_type-returns-in_err-of-clause-told
xml_type-returns-in_err-of-clause-told n c =
    told_exit {M = UnlikeXml (signature c.args.code.now) (types_in c.args.env.now) c.args.body.now} {N = TermMisfit (signature c.args.code.now) (types_in c.args.env.now) c.args.body.now} c.from_residual.result c.in_err-of.field-0.0 c.from_residual.ensures.1
    (λ said k. inl k) c.in_err-of.ensures.told

pub xml_type-returns-clause-told : goal.xml_type-returns-clause-told
xml_type-returns-clause-told n c =
    inr (c.in_ok-of.of, c.in_ok-of.ensures.fits, not_so _ c.is_xml.ensures c.if-is_xml.false, c.in_ok-unlike.ensures)

pub each_type-returns-in_err-found-clause-told : goal.each_type-returns-in_err-found-clause-told
each_type-returns-in_err-found-clause-told n c =
    told_exit {M = TermMisfit (signature c.args.code.now) (types_in c.args.env.now) (t.Each c.args.rows.now c.args.body.now)} {N = TermMisfit (signature c.args.code.now) (types_in c.args.env.now) c.args.rows.now} c.from_residual.result c.in_err-found.field-0.0 c.from_residual.ensures.1
    (rows_told (signature c.args.code.now) (types_in c.args.env.now) c.args.rows.now c.args.body.now) c.in_err-found.ensures.told

pub each_type-returns-in_err-item-clause-told : goal.each_type-returns-in_err-item-clause-told
each_type-returns-in_err-item-clause-told n c =
    told_exit {M = TermMisfit (signature c.args.code.now) (types_in c.args.env.now) (t.Each c.args.rows.now c.args.body.now)} {N = NoList (signature c.args.code.now) c.in_ok-found.found} c.from_residual-in_err-item.result c.in_err-item.field-0.0 c.from_residual-in_err-item.ensures.1
    (λ said. list_told (signature c.args.code.now) (types_in c.args.env.now) c.args.rows.now c.args.body.now c.in_ok-found.found said c.in_ok-found.ensures.fits) c.in_err-item.ensures.told

pub each_type-returns-clause-told : goal.each_type-returns-clause-told
each_type-returns-clause-told n c =
    each_told (signature c.args.code.now) (types_in c.args.env.now) c.args.rows.now c.args.body.now c.in_ok-found.found c.in_ok-item.item c.xml_type.result c.in_ok-found.ensures.fits c.in_ok-item.ensures.fits
    (subst (λ us. Says (UnlikeXml (signature c.args.code.now) (us ++ (types_in c.args.env.now)) c.args.body.now) c.xml_type.result) c.as_slice.ensures c.xml_type.ensures.told)

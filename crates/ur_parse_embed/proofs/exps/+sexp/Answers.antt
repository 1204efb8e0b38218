use Rattle.std.proofs.Common.{refl, arith, ◌-◌}
use Rattle.ur_parse_rules.specs.Rules.{nested}
use Rattle.ur_parse_rules.proofs.Steps.{passed, made_deep, at_limit}
use Rattle.ur_parse_rules.proofs.Places.{mark_moves, moves_on}
use Rattle.ur_parse_embed.proofs.Steps.{no_operator, steps_first, left_refused, steps_more, left_read, left_first}
use Rattle.ur_parse_embed.proofs.Levels.{at_level, makes_level, sexp_refused, sexp_read, disjunction_refused, conjunction_refused, sum_refused, product_refused, disjunction_read, conjunction_read, sum_read, product_read}
use Rattle.ur_parse_embed.proofs.Comparing.{no_sign, negation_refused, negation_read, compared_refused, compared_read, negative_refused, negative_read, atom_refused, atom_read, comparison_first, comparison_alone, right_refused, comparison_chained, comparison_read, null_refused, null_chained, null_read}
use Rattle.ur_parse_embed.proofs.Valued.{some_open, some_inner, some_close, some_dotted, some_read, anti_refused, anti_dotted, anti_read, inner_refused, inner_open, inner_dotted, inner_read, table_starts, field_starts, column_refused, column_read, atom_missing, value_atom}
use Rattle.ur_parse_embed.specs.declared.made.Level.TheVariants as levels
use Rattle.ur_parse_embed.proofs.exps.+sexp.Goals as goal

-- ---- sexp

pub sexp-returns-then-depth-eq0-clause-refused : goal.sexp-returns-then-depth-eq0-clause-refused
sexp-returns-then-depth-eq0-clause-refused t c = made_deep _ c.too_deep.ensures (λ r s. nested s (at_limit (omega arith) refl))

pub sexp-returns-in_err-inner-clause-refused : goal.sexp-returns-in_err-inner-clause-refused
sexp-returns-in_err-inner-clause-refused t c = passed _ _ c.from_residual.ensures.1 c.in_err-inner.ensures.refused (λ r h. sexp_refused (c.args.depth - 1) (omega arith) c.args.tokens.now c.args.at h)

pub sexp-returns-clause-found : goal.sexp-returns-clause-found
sexp-returns-clause-found t c = sexp_read (c.args.depth - 1) (omega arith) c.args.tokens.now c.args.at c.in_ok-inner.inner.end c.in_ok-inner.ensures.found

-- ---- left

pub left-returns-in_err-tree-clause-refused : goal.left-returns-in_err-tree-clause-refused
left-returns-in_err-tree-clause-refused t c = passed _ _ c.from_residual.ensures.1 c.in_err-tree.ensures.refused (λ r h. left_first c.args.level c.args.tokens.now c.args.at h)

pub left-steps-init : goal.left-steps-init
left-steps-init t c = record { moves = c.in_ok-tree.ensures.moves; steps = steps_first c.in_ok-tree.tree.end c.in_ok-tree.ensures.moves c.in_ok-tree.ensures.found }

pub left-returns-in_err-right-clause-refused : goal.left-returns-in_err-right-clause-refused
left-returns-in_err-right-clause-refused t c = passed _ _ c.from_residual-in_err-right.ensures.1 c.in_err-right.ensures.refused (λ r h. left_refused c.args.level c.steps.invariant.steps c.in-Some.sign c.in-Some.ensures h)

pub left-steps-preserved : goal.left-steps-preserved
left-steps-preserved t c = let e = c.in_ok-tree-2.ensures.found in let e0 = e.0 in let e1 = e.1 in let s = c.span-covered.ensures in let m = c.steps.invariant.moves in let o = m.on in let w = c.in_ok-right.ensures.moves in let q = w.on in record {
  moves = rw e1 (record { on = omega (arith, o, q); within = w.within });
  steps = rw (e0, e1, s) (steps_more c.args.level c.steps.invariant.steps c.in-Some.sign c.in_ok-right.right.end c.in-Some.ensures (record { on = omega (arith, q); within = w.within }) (omega (arith, o, q)) c.in_ok-right.ensures.found);
}

pub left-returns-clause-found : goal.left-returns-clause-found
left-returns-clause-found t c = left_read c.args.level c.steps.invariant.steps c.steps.invariant.moves (no_operator c.args.tokens.now _ c.args.level _ c.in_default.not-Some c.operator.ensures)

-- ---- negation

pub negation-returns-in_err-inner-clause-refused : goal.negation-returns-in_err-inner-clause-refused
negation-returns-in_err-inner-clause-refused t c = passed _ _ c.from_residual-in_err-inner.ensures.1 c.in_err-inner.ensures.refused (λ r h. negation_refused (c.sees_word.ensures.yes c.if-sees_word.true) h)

pub negation-returns-in_err-tree-clause-refused : goal.negation-returns-in_err-tree-clause-refused
negation-returns-in_err-tree-clause-refused t c = passed _ _ c.from_residual-in_err-tree.ensures.1 c.in_err-tree.ensures.refused (λ r h. compared_refused (c.sees_word.ensures.no c.if-sees_word.false) h)

pub negation-returns-in_ok-tree-clause-found : goal.negation-returns-in_ok-tree-clause-found
negation-returns-in_ok-tree-clause-found t c = compared_read c.args.tokens.now c.args.at c.in_ok-tree.tree.end c.in_ok-tree.ensures.found

-- ---- negative

pub negative-returns-in_err-tree-clause-refused : goal.negative-returns-in_err-tree-clause-refused
negative-returns-in_err-tree-clause-refused t c = passed _ _ c.from_residual-in_err-tree.ensures.1 c.in_err-tree.ensures.refused (λ r h. atom_refused (c.sees.ensures.no c.if-sees.false) h)

pub negative-returns-in_ok-tree-clause-found : goal.negative-returns-in_ok-tree-clause-found
negative-returns-in_ok-tree-clause-found t c = atom_read c.args.tokens.now c.args.at c.in_ok-tree.tree.end c.in_ok-tree.ensures.found

pub negation-returns-in_ok-made-clause-found : goal.negation-returns-in_ok-made-clause-found
negation-returns-in_ok-made-clause-found t c = let e = c.in_ok-made.ensures.found in let e0 = e.0 in let e1 = e.1 in let s = c.span-covered.ensures in let m = c.in_ok-inner.ensures.moves in let o = m.on in
    rw (e0, e1, s) (negation_read (c.sees_word.ensures.yes c.if-sees_word.true) c.in_ok-inner.inner.end (record { on = omega (arith, o); within = m.within }) c.in_ok-inner.ensures.found)

pub negative-returns-in_err-inner-clause-refused : goal.negative-returns-in_err-inner-clause-refused
negative-returns-in_err-inner-clause-refused t c = passed _ _ c.from_residual-in_err-inner.ensures.1 c.in_err-inner.ensures.refused (λ r h. negative_refused (c.sees.ensures.yes c.if-sees.true) h)

pub negative-returns-in_ok-made-clause-found : goal.negative-returns-in_ok-made-clause-found
negative-returns-in_ok-made-clause-found t c = let e = c.in_ok-made.ensures.found in let e0 = e.0 in let e1 = e.1 in let s = c.span-covered.ensures in let m = c.in_ok-inner.ensures.moves in let o = m.on in
    rw (e0, e1, s) (negative_read (c.sees.ensures.yes c.if-sees.true) c.in_ok-inner.inner.end (record { on = omega (arith, o); within = m.within }) c.in_ok-inner.ensures.found)

-- ---- operand

pub operand-returns-in_err-tree-in-Disjunction-clause-refused : goal.operand-returns-in_err-tree-in-Disjunction-clause-refused
operand-returns-in_err-tree-in-Disjunction-clause-refused t c = passed _ _ c.from_residual.ensures.1 c.in_err-tree-in-Disjunction.ensures.refused (λ r h. at_level c.args.depth c.args.bare c.args.tokens.now c.args.at c.args.level levels.Disjunction c.in-Disjunction.is (disjunction_refused c.args.tokens.now c.args.at h))

pub operand-returns-in_ok-tree-in-Disjunction-clause-found : goal.operand-returns-in_ok-tree-in-Disjunction-clause-found
operand-returns-in_ok-tree-in-Disjunction-clause-found t c = makes_level c.args.depth c.args.bare c.args.tokens.now c.args.at c.in_ok-tree-in-Disjunction.tree.end c.args.level levels.Disjunction c.in-Disjunction.is (disjunction_read c.args.tokens.now c.args.at c.in_ok-tree-in-Disjunction.tree.end c.in_ok-tree-in-Disjunction.ensures.found)

pub operand-returns-in_err-tree-in-Conjunction-clause-refused : goal.operand-returns-in_err-tree-in-Conjunction-clause-refused
operand-returns-in_err-tree-in-Conjunction-clause-refused t c = passed _ _ c.from_residual-in_err-tree-in-Conjunction.ensures.1 c.in_err-tree-in-Conjunction.ensures.refused (λ r h. at_level c.args.depth c.args.bare c.args.tokens.now c.args.at c.args.level levels.Conjunction c.in-Conjunction.is (conjunction_refused c.args.tokens.now c.args.at h))

pub operand-returns-in_ok-tree-in-Conjunction-clause-found : goal.operand-returns-in_ok-tree-in-Conjunction-clause-found
operand-returns-in_ok-tree-in-Conjunction-clause-found t c = makes_level c.args.depth c.args.bare c.args.tokens.now c.args.at c.in_ok-tree-in-Conjunction.tree.end c.args.level levels.Conjunction c.in-Conjunction.is (conjunction_read c.args.tokens.now c.args.at c.in_ok-tree-in-Conjunction.tree.end c.in_ok-tree-in-Conjunction.ensures.found)

pub operand-returns-in_err-tree-in-Sum-clause-refused : goal.operand-returns-in_err-tree-in-Sum-clause-refused
operand-returns-in_err-tree-in-Sum-clause-refused t c = passed _ _ c.from_residual-in_err-tree-in-Sum.ensures.1 c.in_err-tree-in-Sum.ensures.refused (λ r h. at_level c.args.depth c.args.bare c.args.tokens.now c.args.at c.args.level levels.Sum c.in-Sum.is (sum_refused c.args.tokens.now c.args.at h))

pub operand-returns-in_ok-tree-in-Sum-clause-found : goal.operand-returns-in_ok-tree-in-Sum-clause-found
operand-returns-in_ok-tree-in-Sum-clause-found t c = makes_level c.args.depth c.args.bare c.args.tokens.now c.args.at c.in_ok-tree-in-Sum.tree.end c.args.level levels.Sum c.in-Sum.is (sum_read c.args.tokens.now c.args.at c.in_ok-tree-in-Sum.tree.end c.in_ok-tree-in-Sum.ensures.found)

pub operand-returns-in_err-tree-in-Product-clause-refused : goal.operand-returns-in_err-tree-in-Product-clause-refused
operand-returns-in_err-tree-in-Product-clause-refused t c = passed _ _ c.from_residual-in_err-tree-in-Product.ensures.1 c.in_err-tree-in-Product.ensures.refused (λ r h. at_level c.args.depth c.args.bare c.args.tokens.now c.args.at c.args.level levels.Product c.in-Product.is (product_refused c.args.tokens.now c.args.at h))

pub operand-returns-in_ok-tree-in-Product-clause-found : goal.operand-returns-in_ok-tree-in-Product-clause-found
operand-returns-in_ok-tree-in-Product-clause-found t c = makes_level c.args.depth c.args.bare c.args.tokens.now c.args.at c.in_ok-tree-in-Product.tree.end c.args.level levels.Product c.in-Product.is (product_read c.args.tokens.now c.args.at c.in_ok-tree-in-Product.tree.end c.in_ok-tree-in-Product.ensures.found)

-- ---- comparison

pub comparison-returns-in_err-tree-clause-refused : goal.comparison-returns-in_err-tree-clause-refused
comparison-returns-in_err-tree-clause-refused t c = passed _ _ c.from_residual.ensures.1 c.in_err-tree.ensures.refused (λ r h. comparison_first c.args.tokens.now c.args.at h)

pub comparison-returns-in_err-right-clause-refused : goal.comparison-returns-in_err-right-clause-refused
comparison-returns-in_err-right-clause-refused t c = passed _ _ c.from_residual-in_err-right.ensures.1 c.in_err-right.ensures.refused (λ r h. right_refused c.args.tokens.now c.args.at c.in_ok-tree.tree.end c.in_ok-tree.ensures.found c.in-Some.sign c.in-Some.ensures h)

pub comparison-returns-in_err-ended-clause-refused : goal.comparison-returns-in_err-ended-clause-refused
comparison-returns-in_err-ended-clause-refused t c = passed _ _ c.from_residual-in_err-ended.ensures.1 c.in_err-ended.ensures.refused
    (λ r h. comparison_chained c.args.tokens.now c.args.at c.in_ok-tree.tree.end c.in_ok-tree.ensures.found c.in-Some.sign c.in-Some.ensures c.in_ok-right.right.end c.in_ok-right.ensures.found h)

pub comparison-returns-in_ok-made-clause-found : goal.comparison-returns-in_ok-made-clause-found
comparison-returns-in_ok-made-clause-found t c = let e = c.in_ok-made.ensures.found in let e0 = e.0 in let e1 = e.1 in let s = c.span-covered.ensures in let o = c.in_ok-tree.ensures.moves.on in let m = c.in_ok-right.ensures.moves in let q = m.on in
    rw (e0, e1, s) (comparison_read c.args.tokens.now c.args.at c.in_ok-tree.tree.end c.in_ok-tree.ensures.found c.in-Some.sign c.in-Some.ensures c.in_ok-right.right.end c.in_ok-right.ensures.found
    (record { on = omega (arith, o, q); within = m.within }) c.in_ok-ended.ensures.found)

pub comparison-returns-in_err-null-clause-refused : goal.comparison-returns-in_err-null-clause-refused
comparison-returns-in_err-null-clause-refused t c = passed _ _ c.from_residual-in_err-null.ensures.1 c.in_err-null.ensures.refused
    (λ r h. null_refused c.args.tokens.now c.args.at c.in_ok-tree.tree.end c.in_ok-tree.ensures.found (c.sees_word.ensures.yes c.if-sees_word.true) (h _))

pub comparison-returns-in_err-ended-2-clause-refused : goal.comparison-returns-in_err-ended-2-clause-refused
comparison-returns-in_err-ended-2-clause-refused t c = passed _ _ c.from_residual-in_err-ended-2.ensures.1 c.in_err-ended-2.ensures.refused
    (λ r h. null_chained c.args.tokens.now c.args.at c.in_ok-tree.tree.end c.in_ok-tree.ensures.found (c.sees_word.ensures.yes c.if-sees_word.true) c.in_ok-null.end (c.in_ok-null.ensures.found _) h)

pub comparison-returns-in_ok-made-2-clause-found : goal.comparison-returns-in_ok-made-2-clause-found
comparison-returns-in_ok-made-2-clause-found t c = let e = c.in_ok-made-2.ensures.found in let e0 = e.0 in let e1 = e.1 in let s = c.span-covered-then-sees_word.ensures in let o = c.in_ok-tree.ensures.moves.on in let m = c.in_ok-null.ensures.moves in let q = m.on in
    rw (e0, e1, s) (null_read c.args.tokens.now c.args.at c.in_ok-tree.tree.end c.in_ok-tree.ensures.found (c.sees_word.ensures.yes c.if-sees_word.true) c.in_ok-null.end (c.in_ok-null.ensures.found _)
    (record { on = omega (arith, o, q); within = m.within }) c.in_ok-ended-2.ensures.found)

pub comparison-returns-else-sees_word-clause-found : goal.comparison-returns-else-sees_word-clause-found
comparison-returns-else-sees_word-clause-found t c = comparison_alone c.args.tokens.now c.args.at c.in_ok-tree.tree.end c.in_ok-tree.ensures.found c.in_ok-tree.ensures.moves (no_sign c.args.tokens.now _ _ c.in_default.not-Some c.compared.ensures) (c.sees_word.ensures.no c.if-sees_word.false)

-- ---- atom

pub atom-returns-in_err-leaf-clause-refused : goal.atom-returns-in_err-leaf-clause-refused
atom-returns-in_err-leaf-clause-refused t c = passed _ _ c.from_residual.ensures.1 c.in_err-leaf.ensures.refused (λ r h. h _)

pub atom-returns-in-Some-clause-found : goal.atom-returns-in-Some-clause-found
atom-returns-in-Some-clause-found t c = let h = rw c.in-Some.is at c.in_ok-leaf.ensures.found in value_atom c.args.bare c.args.tokens.now c.args.at _ _ (h.read _)

pub atom-returns-in-None-clause-refused : goal.atom-returns-in-None-clause-refused
atom-returns-in-None-clause-refused t c = c.compound.ensures.refused (rw c.in-None.is at c.in_ok-leaf.ensures.found)

-- ---- compound

pub compound-returns-in_err-begin-clause-refused : goal.compound-returns-in_err-begin-clause-refused
compound-returns-in_err-begin-clause-refused t c = λ o. passed _ _ c.from_residual.ensures.1 c.in_err-begin.ensures.refused (λ r h. some_open (c.sees_word.ensures.yes c.if-sees_word.true) h)

pub compound-returns-in_err-inner-clause-refused : goal.compound-returns-in_err-inner-clause-refused
compound-returns-in_err-inner-clause-refused t c = λ o. passed _ _ c.from_residual-in_err-inner.ensures.1 c.in_err-inner.ensures.refused (λ r h. some_inner (c.sees_word.ensures.yes c.if-sees_word.true) c.in_ok-begin.ensures.found h)

pub compound-returns-in_err-end-clause-refused : goal.compound-returns-in_err-end-clause-refused
compound-returns-in_err-end-clause-refused t c = λ o. passed _ _ c.from_residual-in_err-end.ensures.1 c.in_err-end.ensures.refused (λ r h. some_close (c.sees_word.ensures.yes c.if-sees_word.true) c.in_ok-begin.ensures.found c.in_ok-inner.inner.end c.in_ok-inner.ensures.found h)

pub compound-returns-in_err-undotted-clause-refused : goal.compound-returns-in_err-undotted-clause-refused
compound-returns-in_err-undotted-clause-refused t c = λ o. passed _ _ c.from_residual-in_err-undotted.ensures.1 c.in_err-undotted.ensures.refused
    (λ r h. some_dotted (c.sees_word.ensures.yes c.if-sees_word.true) c.in_ok-begin.ensures.found c.in_ok-inner.inner.end c.in_ok-inner.ensures.found c.in_ok-end.ensures.found h.0 h.1)

pub compound-returns-in_ok-made-clause-found : goal.compound-returns-in_ok-made-clause-found
compound-returns-in_ok-made-clause-found t c = let e = c.in_ok-made.ensures.found in let e0 = e.0 in let e1 = e.1 in let s = c.span-covered.ensures in
    rw (e0, e1, s) (some_read (c.sees_word.ensures.yes c.if-sees_word.true) c.in_ok-begin.ensures.found c.in_ok-inner.inner.end c.in_ok-inner.ensures.found c.in_ok-end.ensures.found
    (moves_on (mark_moves (c.sees_word.ensures.yes c.if-sees_word.true)) (moves_on (mark_moves c.in_ok-begin.ensures.found) (moves_on c.in_ok-inner.ensures.moves (mark_moves c.in_ok-end.ensures.found)))) c.in_ok-undotted.ensures.found)

pub compound-returns-in_err-number-clause-refused : goal.compound-returns-in_err-number-clause-refused
compound-returns-in_err-number-clause-refused t c = λ o. passed _ _ c.from_residual-in_err-number.ensures.1 c.in_err-number.ensures.refused (λ r h. anti_refused (c.sees.ensures.yes c.if-sees.true) (h _))

pub compound-returns-in_err-undotted-2-clause-refused : goal.compound-returns-in_err-undotted-2-clause-refused
compound-returns-in_err-undotted-2-clause-refused t c = λ o. passed _ _ c.from_residual-in_err-undotted-2.ensures.1 c.in_err-undotted-2.ensures.refused
    (λ r h. anti_dotted (c.sees.ensures.yes c.if-sees.true) c.in_ok-number.ensures.found h.0 h.1)

pub compound-returns-in_ok-undotted-2-clause-found : goal.compound-returns-in_ok-undotted-2-clause-found
compound-returns-in_ok-undotted-2-clause-found t c = let e = c.leaf.ensures.tree in let e1 = c.leaf.ensures.end in let s = c.span-covered-then-sees.ensures in
    rw (e, e1, s) (anti_read (c.sees.ensures.yes c.if-sees.true) c.in_ok-number.ensures.found c.in_ok-number.ensures.moves c.in_ok-undotted-2.ensures.found)

pub compound-returns-in_err-inner-2-clause-refused : goal.compound-returns-in_err-inner-2-clause-refused
compound-returns-in_err-inner-2-clause-refused t c = λ o. passed _ _ c.from_residual-in_err-inner-2.ensures.1 c.in_err-inner-2.ensures.refused (λ r h. inner_refused (c.sees-else-sees.ensures.yes c.if-sees-2.true) h)

pub compound-returns-in_err-end-2-clause-refused : goal.compound-returns-in_err-end-2-clause-refused
compound-returns-in_err-end-2-clause-refused t c = λ o. passed _ _ c.from_residual-in_err-end-2.ensures.1 c.in_err-end-2.ensures.refused
    (λ r h. inner_open (c.sees-else-sees.ensures.yes c.if-sees-2.true) c.in_ok-inner-2.inner.end c.in_ok-inner-2.ensures.found h)

pub compound-returns-in_err-undotted-3-clause-refused : goal.compound-returns-in_err-undotted-3-clause-refused
compound-returns-in_err-undotted-3-clause-refused t c = λ o. passed _ _ c.from_residual-in_err-undotted-3.ensures.1 c.in_err-undotted-3.ensures.refused
    (λ r h. inner_dotted (c.sees-else-sees.ensures.yes c.if-sees-2.true) c.in_ok-inner-2.inner.end c.in_ok-inner-2.ensures.found c.in_ok-end-2.ensures.found h.0 h.1)

pub compound-returns-in_ok-undotted-3-clause-found : goal.compound-returns-in_ok-undotted-3-clause-found
compound-returns-in_ok-undotted-3-clause-found t c = let e = c.ending.ensures.tree in let e1 = c.ending.ensures.end in
    rw (e, e1) (inner_read (c.sees-else-sees.ensures.yes c.if-sees-2.true) c.in_ok-inner-2.inner.end c.in_ok-inner-2.ensures.found c.in_ok-end-2.ensures.found c.in_ok-undotted-3.ensures.found)

pub compound-returns-in_err-tree-clause-refused : goal.compound-returns-in_err-tree-clause-refused
compound-returns-in_err-tree-clause-refused t c = λ o. passed _ _ c.from_residual-in_err-tree.ensures.1 c.in_err-tree.ensures.refused (λ r h. column_refused c.args.bare c.args.tokens.now c.args.at (table_starts c.args.bare (c.sees-else-sees-2.ensures.yes c.if-sees-3.true)) (h _))

pub compound-returns-in_ok-tree-clause-found : goal.compound-returns-in_ok-tree-clause-found
compound-returns-in_ok-tree-clause-found t c = column_read c.args.bare c.args.tokens.now c.args.at c.in_ok-tree.end _ (c.in_ok-tree.ensures.found _)

pub compound-returns-in_err-first-clause-refused : goal.compound-returns-in_err-first-clause-refused
compound-returns-in_err-first-clause-refused t c = λ o. passed _ _ c.from_residual-in_err-first.ensures.1 c.in_err-first.ensures.refused
    (λ r h. atom_missing c.args.bare o (c.sees_word.ensures.no c.if-sees_word.false) (c.sees.ensures.no c.if-sees.false) (c.sees-else-sees.ensures.no c.if-sees-2.false) (c.sees-else-sees-2.ensures.no c.if-sees-3.false) h)

pub compound-returns-in_err-tree-2-clause-refused : goal.compound-returns-in_err-tree-2-clause-refused
compound-returns-in_err-tree-2-clause-refused t c = λ o. passed _ _ c.from_residual-in_err-tree-2.ensures.1 c.in_err-tree-2.ensures.refused (λ r h. column_refused c.args.bare c.args.tokens.now c.args.at (field_starts c.args.bare c.in_ok-first.ensures.found) (h _))

pub compound-returns-in_ok-tree-2-clause-found : goal.compound-returns-in_ok-tree-2-clause-found
compound-returns-in_ok-tree-2-clause-found t c = column_read c.args.bare c.args.tokens.now c.args.at c.in_ok-tree-2.end _ (c.in_ok-tree-2.ensures.found _)

use Rattle.std.proofs.Common.{refl, arith, sym, ◌∙◌, ◌-◌}
use Rattle.ur_parse_rules.specs.Rules.{nested}
use Rattle.ur_parse_rules.proofs.Steps.{passed, made_deep, at_limit}
use Rattle.ur_parse_rules.proofs.Places.{name_moves}
use Rattle.ur_parse_embed_code.proofs.Elements.{parts_here, parts_refused, parts_more, parts_done, text_part, text_refused, element_part, element_refused, no_part, shown_part, shown_refused, splice_part, splice_refused, splice_open, element_begins, opening_refused, attributes_refused, end_refused, tags_differ, element_read, between_empty, no_end, inside_refused, no_closing, closing_refused, closing_open, between_read}
use Rattle.ur_parse_embed_code.proofs.parts.+xml.Goals as goal

-- ---- parts

pub parts-parts-init : goal.parts-parts-init
parts-parts-init t c = let e = c.new-list.ensures in record { start = omega arith; within = λ h. h; so_far = rw e (parts_here c.args.depth c.args.tokens.now c.args.at _) }

pub parts-returns-in_err-item-clause-refused : goal.parts-returns-in_err-item-clause-refused
parts-returns-in_err-item-clause-refused t c = passed _ _ c.from_residual.ensures.1 c.in_err-item.ensures.refused (λ r h. parts_refused c.parts.invariant.so_far (sym c.sees_part.ensures ∙ c.parts-test.true) h)

pub parts-parts-preserved : goal.parts-parts-preserved
parts-parts-preserved t c = let s = c.parts.invariant.start in let m = c.in_ok-item.ensures.moves in let o = m.on in let p = c.in_ok-pushed.ensures.found in record {
  start = omega (arith, s, o);
  within = λ h. m.within;
  so_far = rw p (parts_more c.parts.invariant.so_far c.in_ok-item.next (sym c.sees_part.ensures ∙ c.parts-test.true) c.in_ok-item.ensures.found);
}

pub parts-returns-clause-found : goal.parts-returns-clause-found
parts-returns-clause-found t c = parts_done c.parts.invariant.so_far (sym c.sees_part.ensures ∙ c.parts-test.false)

-- ---- part

pub part-returns-in_err-text-clause-refused : goal.part-returns-in_err-text-clause-refused
part-returns-in_err-text-clause-refused t c = passed _ _ c.from_residual.ensures.1 c.in_err-text.ensures.refused (λ r h. text_refused (c.sees.ensures.yes c.if-sees.true) h)

pub part-returns-in_ok-text-clause-found : goal.part-returns-in_ok-text-clause-found
part-returns-in_ok-text-clause-found t c = let s = c.span-covered.ensures in rw s (text_part _ (name_moves c.in_ok-text.ensures.found) c.in_ok-text.ensures.found)

pub part-returns-in_err-part-clause-refused : goal.part-returns-in_err-part-clause-refused
part-returns-in_err-part-clause-refused t c = passed _ _ c.from_residual-in_err-part.ensures.1 c.in_err-part.ensures.refused (λ r h. element_refused (c.sees-else-sees.ensures.yes c.if-sees-2.true) h)

pub part-returns-in_ok-part-clause-found : goal.part-returns-in_ok-part-clause-found
part-returns-in_ok-part-clause-found t c = element_part c.args.tokens.now c.args.at c.in_ok-part.end c.in_ok-part.ensures.found

pub part-returns-in_err-begin-clause-refused : goal.part-returns-in_err-begin-clause-refused
part-returns-in_err-begin-clause-refused t c = passed _ _ c.from_residual-in_err-begin.ensures.1 c.in_err-begin.ensures.refused (λ r h. no_part c.args.tokens.now c.args.at (c.sees.ensures.no c.if-sees.false) (c.sees-else-sees.ensures.no c.if-sees-2.false) h)

pub part-returns-in_err-number-clause-refused : goal.part-returns-in_err-number-clause-refused
part-returns-in_err-number-clause-refused t c = passed _ _ c.from_residual-in_err-number.ensures.1 c.in_err-number.ensures.refused (λ r h. shown_refused c.in_ok-begin.ensures.found (sym c.sees_shown.ensures ∙ c.if-sees_shown.true) (h _))

pub part-returns-in_ok-number-clause-found : goal.part-returns-in_ok-number-clause-found
part-returns-in_ok-number-clause-found t c = let s = c.span-covered-then-sees_shown.ensures in rw s (shown_part c.in_ok-number.ensures.moves c.in_ok-number.ensures.found)

pub part-returns-in_err-number-2-clause-refused : goal.part-returns-in_err-number-2-clause-refused
part-returns-in_err-number-2-clause-refused t c = passed _ _ c.from_residual-in_err-number-2.ensures.1 c.in_err-number-2.ensures.refused (λ r h. splice_refused c.in_ok-begin.ensures.found (sym c.sees_shown.ensures ∙ c.if-sees_shown.false) (h _))

pub part-returns-in_err-end-clause-refused : goal.part-returns-in_err-end-clause-refused
part-returns-in_err-end-clause-refused t c = passed _ _ c.from_residual-in_err-end.ensures.1 c.in_err-end.ensures.refused
    (λ r h. splice_open c.in_ok-begin.ensures.found (sym c.sees_shown.ensures ∙ c.if-sees_shown.false) c.in_ok-number-2.brace (c.in_ok-number-2.ensures.found.read _) h)

pub part-returns-in_ok-end-clause-found : goal.part-returns-in_ok-end-clause-found
part-returns-in_ok-end-clause-found t c = let s = c.span-covered-else-sees_shown.ensures in let x = c.in_ok-begin.ensures.found.next in let y = c.in_ok-number-2.ensures.moves.on in let z = c.in_ok-end.ensures.found.next in let b = c.in_ok-end.ensures.found.at.below in
    rw s (splice_part c.in_ok-begin.ensures.found (record { on = omega (arith, x, y, z); within = omega (arith, z, b) }) c.in_ok-number-2.ensures.found c.in_ok-end.ensures.found)

-- ---- element

pub element-returns-then-depth-eq0-clause-refused : goal.element-returns-then-depth-eq0-clause-refused
element-returns-then-depth-eq0-clause-refused t c = made_deep _ c.too_deep.ensures (λ r s. nested s (at_limit (omega arith) refl))

pub element-returns-in_err-word-clause-refused : goal.element-returns-in_err-word-clause-refused
element-returns-in_err-word-clause-refused t c = passed _ _ c.from_residual.ensures.1 c.in_err-word.ensures.refused (λ r h. element_begins (c.args.depth - 1) (omega arith) c.args.tokens.now c.args.at h)

pub element-returns-in_err-opening-clause-refused : goal.element-returns-in_err-opening-clause-refused
element-returns-in_err-opening-clause-refused t c = passed _ _ c.from_residual-in_err-opening.ensures.1 c.in_err-opening.ensures.refused (λ r h. opening_refused (c.args.depth - 1) (omega arith) c.args.tokens.now c.args.at c.in_ok-word.ensures.found (h _))

pub element-returns-in_err-list-clause-refused : goal.element-returns-in_err-list-clause-refused
element-returns-in_err-list-clause-refused t c = passed _ _ c.from_residual-in_err-list.ensures.1 c.in_err-list.ensures.refused (λ r h. attributes_refused (c.args.depth - 1) (omega arith) c.args.tokens.now c.args.at c.in_ok-word.ensures.found c.in_ok-opening.behind (c.in_ok-opening.ensures.found _) h)

pub element-returns-in_err-between-clause-refused : goal.element-returns-in_err-between-clause-refused
element-returns-in_err-between-clause-refused t c = passed _ _ c.from_residual-in_err-between.ensures.1 c.in_err-between.ensures.refused
    (λ r h. end_refused (c.args.depth - 1) (omega arith) c.args.tokens.now c.args.at c.in_ok-word.ensures.found c.in_ok-opening.behind (c.in_ok-opening.ensures.found _) c.in_ok-list.mark c.in_ok-list.ensures.found h)

pub element-returns-in_err-closed-clause-refused : goal.element-returns-in_err-closed-clause-refused
element-returns-in_err-closed-clause-refused t c = passed _ _ c.from_residual-in_err-closed.ensures.1 c.in_err-closed.ensures.refused
    (λ r h. tags_differ (c.args.depth - 1) (omega arith) c.args.tokens.now c.args.at c.in_ok-word.ensures.found c.in_ok-opening.behind (c.in_ok-opening.ensures.found _) c.in_ok-list.mark c.in_ok-list.ensures.found c.in_ok-between.end c.in_ok-between.ensures.found h.0 h.1)

pub element-returns-clause-found : goal.element-returns-clause-found
element-returns-clause-found t c = let s = c.span-covered.ensures in let x = c.in_ok-word.ensures.found.next in let y = c.in_ok-opening.ensures.moves.on in let z = c.in_ok-list.ensures.on in let m = c.in_ok-between.ensures.moves in let w = m.on in
    rw s (element_read (c.args.depth - 1) (omega arith) c.args.tokens.now c.args.at c.in_ok-word.ensures.found c.in_ok-opening.behind (c.in_ok-opening.ensures.found _) c.in_ok-list.mark c.in_ok-list.ensures.found c.in_ok-between.end c.in_ok-between.ensures.found
    (record { on = omega (arith, x, y, z, w); within = m.within }) c.in_ok-closed.ensures.found)

-- ---- between

pub between-returns-then-sees-clause-found : goal.between-returns-then-sees-clause-found
between-returns-then-sees-clause-found t c = let e = c.new.ensures in rw e (between_empty _ (c.sees.ensures.yes c.if-sees.true))

pub between-returns-in_err-begin-clause-refused : goal.between-returns-in_err-begin-clause-refused
between-returns-in_err-begin-clause-refused t c = passed _ _ c.from_residual.ensures.1 c.in_err-begin.ensures.refused (λ r h. no_end (c.sees.ensures.no c.if-sees.false) h)

pub between-returns-in_err-list-clause-refused : goal.between-returns-in_err-list-clause-refused
between-returns-in_err-list-clause-refused t c = passed _ _ c.from_residual-in_err-list.ensures.1 c.in_err-list.ensures.refused (λ r h. inside_refused c.in_ok-begin.ensures.found h)

pub between-returns-in_err-word-clause-refused : goal.between-returns-in_err-word-clause-refused
between-returns-in_err-word-clause-refused t c = passed _ _ c.from_residual-in_err-word.ensures.1 c.in_err-word.ensures.refused (λ r h. no_closing c.in_ok-begin.ensures.found c.in_ok-list.tail c.in_ok-list.ensures.found h)

pub between-returns-in_err-closing-clause-refused : goal.between-returns-in_err-closing-clause-refused
between-returns-in_err-closing-clause-refused t c = passed _ _ c.from_residual-in_err-closing.ensures.1 c.in_err-closing.ensures.refused (λ r h. closing_refused c.in_ok-begin.ensures.found c.in_ok-list.tail c.in_ok-list.ensures.found c.in_ok-word.ensures.found (h _))

pub between-returns-in_err-end-clause-refused : goal.between-returns-in_err-end-clause-refused
between-returns-in_err-end-clause-refused t c = passed _ _ c.from_residual-in_err-end.ensures.1 c.in_err-end.ensures.refused
    (λ r h. closing_open c.in_ok-begin.ensures.found c.in_ok-list.tail c.in_ok-list.ensures.found c.in_ok-word.ensures.found c.in_ok-closing.mark (c.in_ok-closing.ensures.found _) h)

pub between-returns-in_ok-end-clause-found : goal.between-returns-in_ok-end-clause-found
between-returns-in_ok-end-clause-found t c = between_read c.in_ok-begin.ensures.found c.in_ok-list.tail c.in_ok-list.ensures.found c.in_ok-word.ensures.found c.in_ok-closing.mark (c.in_ok-closing.ensures.found _) c.in_ok-end.ensures.found

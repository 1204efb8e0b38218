use Rattle.std.proofs.Common.{◌≡◌, ◌≤◌, ◌++◌, ◌+◌, [], true, false, if◌then◌else◌, codes, take, max, ◌∷◌, drop, Some, refl, rules, subst, sym, ap, ◌∙◌, arith}
use Rattle.std.proofs.lemmas.List.{take_more}
use Rattle.ur_values.specs.declared.value.Value.TheVariants as v
use Rattle.ur_terms.specs.declared.term.Op.TheVariants as op
use Rattle.ur_terms.specs.declared.term.Term.TheVariants as term
use Rattle.ur_terms.specs.Run.{first_branch}
use Rattle.ur_tags.specs.Show.{attribute, tag_word, tag_attributes}
use Rattle.ur_tags.proofs.Pieces.{written, around_written, void_is, around_is}
use Rattle.ur_emit.specs.declared.slots.Slot.TheVariants as slot
use Rattle.ur_emit.specs.Slots.{BindsAt, Emits, EmitAll, EmitEach, EmitsCase, Finds}
use Rattle.ur_emit.proofs.Forms.{if_ok, no_items, emits_along, emits_case, emits_element, emits_void, emits_markup, emits_if, emits_each, emits_let}
use Rattle.ur_emit.proofs.Forms.{let_slots, slot_found, slot_written, binds_one, written_comes}
use Rattle.ur_emit.proofs.Matching.{case_slots, emits_branch, not_bound, one_branch, passed_over}
use Rattle.ur_emit.proofs.InPlace.{only_one}
use Rattle.ur_emit.proofs.Calls.{emits_link}
use Rattle.ur_emit.proofs.Writing.{drop_none, front_more, front_none, item_written, none_yet, one_more}
use Rattle.ur_emit.proofs.terms.+emit.Goals as goal

pub emit_all-loop-term-preserved : goal.emit_all-loop-term-preserved
emit_all-loop-term-preserved t c =
    let h = c.args.handlers.now in
    let slots = c.args.slots.now in
    let one : Emits h slots c.term-item.result c.loop-term.out c.emit.new.out c.loop-term.room c.emit.new.room c.in_ok-within.within =
    subst (λ s. Emits h s c.term-item.result c.loop-term.out c.emit.new.out c.loop-term.room c.emit.new.room c.in_ok-within.within)
    c.loop-term.invariant.same c.in_ok-within.ensures.emits in
    let more = one_more h slots (take c.loop-term.term-index c.args.terms.now)
    c.term-item.result c.args.out.now c.loop-term.out c.emit.new.out c.args.room.now c.loop-term.room c.emit.new.room
    c.loop-term.deep c.in_ok-within.within c.loop-term.invariant.sofar one in
    let xs = c.args.terms.now in
    let i = c.loop-term.term-index in
    let list : take (i + 1) xs ≡ take i xs ++ c.term-item.result ∷ [] = take_more xs i _ c.loop-term-test.true
    ∙ ap (λ z. take i xs ++ z ∷ []) (sym c.term-item.is) in
    record {
      same = c.in_ok-within.ensures.slots ∙ c.loop-term.invariant.same;
      sofar = subst (λ m. EmitAll h slots (take (i + 1) xs) c.args.out.now c.emit.new.out c.args.room.now c.emit.new.room m) (sym c.max-deep.ensures)
          (subst (λ l. EmitAll h slots l c.args.out.now c.emit.new.out c.args.room.now c.emit.new.room (max c.in_ok-within.within c.loop-term.deep))
          (sym list) more);
    }

pub emit_element-returns-in-empty-clause-emits : goal.emit_element-returns-in-empty-clause-emits
emit_element-returns-in-empty-clause-emits t c =
    let out = c.args.out.now in
    let word = tag_word c.args.tag in
    let opened : c.push_open.new.out ≡ out ++ (codes "<" ++ word) = c.in_ok-push_open.ensures ∙ ap (λ w. out ++ (codes "<" ++ w)) c.tag_word.ensures in
    let none : c.args.args.now ≡ [] = no_items c.args.args.now c.in-empty.len_below in
    emits_void c.args.handlers.now c.args.slots.now c.args.tag c.args.args.now out c.extend_from_slice.new.self c.args.room.now c.take.new.room none
    (written out c.push_open.new.out c.extend_from_slice.new.self (codes "<" ++ word) (codes "/>") opened c.in_ok-extend_from_slice-in-empty.ensures.ok
    ∙ ap (λ e. out ++ e) (void_is c.args.tag [] (sym c.is_void.ensures ∙ c.if-is_void.true)))
    c.in_ok-take.ensures

pub emit_element-returns-clause-emits : goal.emit_element-returns-clause-emits
emit_element-returns-clause-emits t c =
    let out = c.args.out.now in
    let tag = c.args.tag in
    let word = tag_word tag in
    let opened : c.push_open.new.out ≡ out ++ (codes "<" ++ word) = c.in_ok-push_open.ensures ∙ ap (λ w. out ++ (codes "<" ++ w)) c.tag_word.ensures in
    let closed : c.push_close.new.out ≡ c.emit_all.new.out ++ (codes "</" ++ word ++ codes ">") =
    c.in_ok-push_close.ensures ∙ ap (λ w. c.emit_all.new.out ++ (codes "</" ++ w ++ codes ">")) c.tag_word-2.ensures in
    emits_element c.args.handlers.now c.args.slots.now tag c.args.args.now out c.push.new.self c.emit_all.new.out c.push_close.new.out
    c.args.room.now c.take.new.room c.emit_all.new.room c.in_ok-within.within c.in_ok-deep.deep
    (λ inner filled. around_written out _ _ _ _ _ word (tag_attributes tag)
    inner opened c.in_ok-push_tag_attributes.ensures c.in_ok-push.ensures.ok filled closed
    ∙ ap (λ e. out ++ e) (around_is tag inner (sym c.is_void.ensures ∙ c.if-is_void.false)))
    c.in_ok-take.ensures c.in_ok-deep.ensures c.in_ok-within.ensures.emits

pub emit_items-loop-item-preserved : goal.emit_items-loop-item-preserved
emit_items-loop-item-preserved t c =
    let h = c.args.handlers.now in
    let slots = c.args.slots.now in
    let xs = c.args.items.now in
    let i = c.loop-item.item-index in
    let made = item_written h slots c.args.body.now (take i xs)
    c.item-item.result c.args.out.now c.loop-item.out c.emit.new.out c.args.room.now c.loop-item.room c.emit.new.room
    c.loop-item.deep c.in_ok-within.within _ c.loop-item.slots c.push.new.self c.emit.new.slots c.loop-item.invariant.same c.in_ok-push.ensures.ok refl
    c.loop-item.invariant.sofar
    c.in_ok-within.ensures.slots c.in_ok-within.ensures.emits in
    let list : take (i + 1) xs ≡ take i xs ++ c.item-item.result ∷ [] = take_more xs i _ c.loop-item-test.true
    ∙ ap (λ z. take i xs ++ z ∷ []) (sym c.item-item.is) in
    record {
      same = c.drop_nearest.ensures ∙ made.same;
      sofar = subst (λ m. EmitEach h slots c.args.body.now (take (i + 1) xs) c.args.out.now c.emit.new.out c.args.room.now c.emit.new.room m)
          (sym c.max-deep.ensures)
          (subst (λ l. EmitEach h slots c.args.body.now l c.args.out.now c.emit.new.out c.args.room.now c.emit.new.room
          (max c.in_ok-within.within c.loop-item.deep)) (sym list) made.sofar);
    }

pub emit_make-returns-in-Markup-clause-emits : goal.emit_make-returns-in-Markup-clause-emits
emit_make-returns-in-Markup-clause-emits t c =
    let h = c.args.handlers.now in
    let slots = c.args.slots.now in
    if_ok c.emit_all.result _ _ (λ d e. emits_along h slots _ (term.Make (op.Markup c.in-Markup.field-0) c.args.args.now) _ _ _ _ d
    (ap (λ o. term.Make o c.args.args.now) c.in-Markup.is)
    (emits_markup h slots c.in-Markup.field-0 c.args.args.now _ _ _ _ d e)) c.emit_all.ensures.emits

pub emit-returns-then-truth-clause-emits : goal.emit-returns-then-truth-clause-emits
emit-returns-then-truth-clause-emits t c =
    let h = c.args.handlers.now in
    let slots = c.args.slots.now in
    let f : Finds slots c.in-If.condition (v.Bool true) = subst (λ q. Finds slots q (v.Bool true)) c.get.ensures
    (subst (λ b. Finds slots c.get.result.now (v.Bool b)) c.if-truth.true c.in-Some.ensures) in
    if_ok c.emit.result _ _ (λ d e. emits_along h slots _ (term.If c.in-If.condition c.in-If.yes c.in-If.no) _ _ _ _ d c.in-If.is
    (emits_if h slots c.in-If.condition c.in-If.yes c.in-If.no true _ _ _ _ d f
    (emits_along h slots c.in-If.yes c.get-then-truth.result.now _ _ _ _ d (sym c.get-then-truth.ensures) e))) c.emit.ensures.emits

pub emit-returns-else-truth-clause-emits : goal.emit-returns-else-truth-clause-emits
emit-returns-else-truth-clause-emits t c =
    let h = c.args.handlers.now in
    let slots = c.args.slots.now in
    let f : Finds slots c.in-If.condition (v.Bool false) = subst (λ q. Finds slots q (v.Bool false)) c.get.ensures
    (subst (λ b. Finds slots c.get.result.now (v.Bool b)) c.if-truth.false c.in-Some.ensures) in
    if_ok c.emit-else-truth.result _ _ (λ d e. emits_along h slots _ (term.If c.in-If.condition c.in-If.yes c.in-If.no) _ _ _ _ d c.in-If.is
    (emits_if h slots c.in-If.condition c.in-If.yes c.in-If.no false _ _ _ _ d f
    (emits_along h slots c.in-If.no c.get-else-truth.result.now _ _ _ _ d (sym c.get-else-truth.ensures) e))) c.emit-else-truth.ensures.emits

pub emit-returns-in-Some-items_at-clause-emits : goal.emit-returns-in-Some-items_at-clause-emits
emit-returns-in-Some-items_at-clause-emits t c =
    let h = c.args.handlers.now in
    let slots = c.args.slots.now in
    let items = c.in-Some-items_at.items.now in
    let f : Finds slots c.in-Each.rows (v.Many items) = subst (λ q. Finds slots q (v.Many items)) c.get-in-Each.ensures c.in-Some-items_at.ensures in
    if_ok c.emit_items.result _ _ (λ d e. emits_along h slots _ (term.Each c.in-Each.rows c.in-Each.body) _ _ _ _ d c.in-Each.is
    (emits_each h slots c.in-Each.rows c.in-Each.body items _ _ _ _ d f
    (subst (λ b. EmitEach h slots b items c.args.out.now c.emit_items.new.out c.args.room.now c.emit_items.new.room d) c.get-in-Some-items_at.ensures e)))
    c.emit_items.ensures.emits

pub emit-returns-in-Variable-clause-emits : goal.emit-returns-in-Variable-clause-emits
emit-returns-in-Variable-clause-emits t c =
    let h = c.args.handlers.now in
    let slots = c.args.slots.now in
    if_ok c.emit_variable.result _ _ (λ d e. emits_along h slots _ (term.Variable c.in-Variable.number) _ _ _ _ d c.in-Variable.is e) c.emit_variable.ensures

pub written-returns-clause-comes : goal.written-returns-clause-comes
written-returns-clause-comes t c =
    let deep = c.in_ok-nesting.nesting in
    let small : deep ≤ 1023 = omega arith in
    written_comes c.args.handlers.now c.args.slots.now c.args.term.now c.emit.new.out c.emit.new.room c.saturating_sub.result deep c.saturating_sub.ensures
    small
    (subst (λ b. Emits c.args.handlers.now c.args.slots.now c.args.term.now b c.emit.new.out 16777184 c.emit.new.room deep)
    c.new-bytes.ensures c.in_ok-nesting.ensures.emits)

pub slot_of-returns-in-Some-clause-comes : goal.slot_of-returns-in-Some-clause-comes
slot_of-returns-in-Some-clause-comes t c = slot_found c.args.handlers.now c.args.slots.now c.args.term.now c.in-Some.value c.in-Some.ensures

pub slot_of-returns-in_ok-chunk-in-None-clause-comes : goal.slot_of-returns-in_ok-chunk-in-None-clause-comes
slot_of-returns-in_ok-chunk-in-None-clause-comes t c = slot_written c.args.handlers.now c.args.slots.now c.args.term.now c.in_ok-chunk-in-None.chunk
    c.in_ok-chunk-in-None.ensures.comes

pub bind_one-returns-in_ok-push-in-len1 : goal.bind_one-returns-in_ok-push-in-len1
bind_one-returns-in_ok-push-in-len1 t c =
    binds_one c.args.handlers.now c.args.slots.now c.args.args.now c.arg-item.result c.in_ok-slot-in-len1.slot c.slot_of.new.slots c.push.new.self
    (only_one c.args.args.now c.arg-item.result _ c.in-len1.len_at_least c.in-len1.len_below c.arg-item.is)
    c.in_ok-slot-in-len1.ensures.slots c.in_ok-push-in-len1.ensures.ok c.in_ok-slot-in-len1.ensures.comes

pub emit-returns-in_ok-deep-in-Let-clause-slots : goal.emit-returns-in_ok-deep-in-Let-clause-slots
emit-returns-in_ok-deep-in-Let-clause-slots t c =
    let_slots c.args.handlers.now c.args.slots.now c.as_slice-in-Let.result.now c.bind_one.new.slots c.emit-in-Let.new.slots c.drop_nearest.new.self
    c.in_ok-bind_one-in-Let.ensures c.in_ok-deep-in-Let.ensures.slots c.drop_nearest.ensures

pub emit-returns-in_ok-deep-in-Let-clause-emits : goal.emit-returns-in_ok-deep-in-Let-clause-emits
emit-returns-in_ok-deep-in-Let-clause-emits t c =
    let h = c.args.handlers.now in
    let slots = c.args.slots.now in
    emits_along h slots _ (term.Let c.in-Let.args c.in-Let.body) _ _ _ _ c.in_ok-deep-in-Let.deep c.in-Let.is
    (subst (λ l. Emits h slots (term.Let l c.in-Let.body) c.args.out.now c.emit-in-Let.new.out c.args.room.now c.emit-in-Let.new.room
    c.in_ok-deep-in-Let.deep) c.as_slice-in-Let.ensures
    (emits_let h slots c.as_slice-in-Let.result.now c.in-Let.body c.bind_one.new.slots _ _ _ _ _ c.in_ok-bind_one-in-Let.ensures
    (subst (λ b. Emits h c.bind_one.new.slots b c.args.out.now c.emit-in-Let.new.out c.args.room.now c.emit-in-Let.new.room c.in_ok-deep-in-Let.deep)
    c.get-in-Let.ensures c.in_ok-deep-in-Let.ensures.emits)))

pub emit-returns-in-Some-value_at-clause-emits : goal.emit-returns-in-Some-value_at-clause-emits
emit-returns-in-Some-value_at-clause-emits t c =
    let h = c.args.handlers.now in
    let slots = c.args.slots.now in
    let x = c.in-Some-value_at.value.now in
    let f : Finds slots c.in-Case.subject x = subst (λ q. Finds slots q x) c.get-in-Case.ensures c.in-Some-value_at.ensures in
    if_ok c.emit_case.result _ _ (λ d e. emits_along h slots _ (term.Case c.in-Case.subject c.in-Case.branches) _ _ _ _ d c.in-Case.is
    (emits_case h slots c.in-Case.subject c.in-Case.branches x _ _ _ _ d f
    (subst (λ b. EmitsCase h slots b x c.args.out.now c.emit_case.new.out c.args.room.now c.emit_case.new.room d) c.as_slice-in-Some-value_at.ensures e)))
    c.emit_case.ensures.emits

pub emit_case-loop-branch-init : goal.emit_case-loop-branch-init
emit_case-loop-branch-init t c = record {
  same = refl;
  bytes = refl;
  space = refl;
  left = λ d calls env s. ap (λ bs. first_branch d calls bs c.args.value.now env s)
      (sym (drop_none c.args.branches.now));
}

pub emit_from-loop-i-init : goal.emit_from-loop-i-init
emit_from-loop-i-init t c =
    let h = c.args.handlers.now in
    let slots = c.args.slots.now in
    record {
      same = refl;
      behind = omega arith;
      sofar = subst (λ l. EmitAll h slots l c.args.out.now c.args.out.now c.args.room.now c.args.room.now 0)
          (sym (front_none c.args.from c.args.terms.now)) (none_yet h slots c.args.out.now c.args.room.now);
    }

pub emit_from-loop-i-preserved : goal.emit_from-loop-i-preserved
emit_from-loop-i-preserved t c =
    let h = c.args.handlers.now in
    let slots = c.args.slots.now in
    let xs = c.args.terms.now in
    let i = c.loop-i.i in
    let from = c.args.from in
    let x = c.index-terms-i.result in
    let one : Emits h slots x c.loop-i.out c.emit.new.out c.loop-i.room c.emit.new.room c.in_ok-within.within =
    subst (λ s. Emits h s x c.loop-i.out c.emit.new.out c.loop-i.room c.emit.new.room c.in_ok-within.within)
    c.loop-i.invariant.same c.in_ok-within.ensures.emits in
    let more = one_more h slots (drop from (take i xs))
    x c.args.out.now c.loop-i.out c.emit.new.out c.args.room.now c.loop-i.room c.emit.new.room c.loop-i.deep c.in_ok-within.within c.loop-i.invariant.sofar
    one in
    let list : drop from (take (i + 1) xs) ≡ drop from (take i xs) ++ x ∷ [] = front_more from i xs x c.loop-i.invariant.behind (omega arith)
    c.index-terms-i.is in
    record {
      same = c.in_ok-within.ensures.slots ∙ c.loop-i.invariant.same;
      behind = omega (arith, c.loop-i.invariant.behind);
      sofar = subst (λ m. EmitAll h slots (drop from (take (i + 1) xs)) c.args.out.now c.emit.new.out c.args.room.now c.emit.new.room m)
          (sym c.max-deep.ensures)
          (subst (λ l. EmitAll h slots l c.args.out.now c.emit.new.out c.args.room.now c.emit.new.room (max c.in_ok-within.within c.loop-i.deep))
          (sym list) more);
    }

pub emit_link-returns-clause-emits : goal.emit_link-returns-clause-emits
emit_link-returns-clause-emits t c =
    let h = c.args.handlers.now in
    emits_link h c.args.slots.now c.args.route c.args.count c.args.args.now c.args.out.now c.push_open.new.out c.push_call.new.out c.push.new.self
    c.emit_from.new.out c.push_close.new.out
    c.args.room.now c.take.new.room c.emit_from.new.room c.in_ok-within.within c.in_ok-deep.deep c.in_ok-push_open.ensures c.in_ok-push_call.ensures
    (λ path inner attributed filled. around_written c.args.out.now _ _ _ _ _ (codes "a") (attribute (codes "href") path)
    inner c.in_ok-push_open.ensures attributed c.in_ok-push.ensures.ok filled c.in_ok-push_close.ensures)
    c.in_ok-take.ensures c.in_ok-deep.ensures c.in_ok-within.ensures.emits

pub emit_make-returns-in-Link-clause-emits : goal.emit_make-returns-in-Link-clause-emits
emit_make-returns-in-Link-clause-emits t c =
    let h = c.args.handlers.now in
    let slots = c.args.slots.now in
    if_ok c.emit_link.result _ _
    (λ d e. emits_along h slots _ (term.Make (op.Link c.in-Link.route c.in-Link.count) c.args.args.now) _ _ _ _ d
    (ap (λ o. term.Make o c.args.args.now) c.in-Link.is) e)
    c.emit_link.ensures.emits

pub emit_make-returns-in-Input-clause-emits : goal.emit_make-returns-in-Input-clause-emits
emit_make-returns-in-Input-clause-emits t c =
    let h = c.args.handlers.now in
    let slots = c.args.slots.now in
    if_ok c.emit_input.result _ _
    (λ d e. emits_along h slots _ (term.Make (op.Input c.in-Input.kind c.in-Input.name c.in-Input.text) c.args.args.now) _ _ _ _ d
    (ap (λ o. term.Make o c.args.args.now) c.in-Input.is) e)
    c.emit_input.ensures

pub emit_make-returns-in-Submit-clause-emits : goal.emit_make-returns-in-Submit-clause-emits
emit_make-returns-in-Submit-clause-emits t c =
    let h = c.args.handlers.now in
    let slots = c.args.slots.now in
    if_ok c.emit_submit.result _ _
    (λ d e. emits_along h slots _ (term.Make (op.Submit c.in-Submit.route c.in-Submit.count c.in-Submit.unit) c.args.args.now) _ _ _ _ d
    (ap (λ o. term.Make o c.args.args.now) c.in-Submit.is) e)
    c.emit_submit.ensures

pub emit_case-loop-branch-preserved : goal.emit_case-loop-branch-preserved
emit_case-loop-branch-preserved t c =
    let x = c.args.value.now in
    let bs = c.args.branches.now in
    let i = c.loop-branch.branch-index in
    let b = c.branch-item.result in
    let (other, kept) = not_bound b.pattern x c.loop-branch.slots c.bind.new.slots c.in_ok-bound.bound c.in_default.not-Some c.in_ok-bound.ensures in
    record {
      same = kept ∙ c.loop-branch.invariant.same;
      bytes = c.loop-branch.invariant.bytes;
      space = c.loop-branch.invariant.space;
      left = λ d calls env s. c.loop-branch.invariant.left d calls env s
          ∙ ap (λ l. first_branch d calls l x env s) (one_branch bs i b c.loop-branch-test.true c.branch-item.is)
          ∙ passed_over (drop (i + 1) bs) b x other d calls env s;
    }

pub emit_case-returns-in-Some-clause-slots : goal.emit_case-returns-in-Some-clause-slots
emit_case-returns-in-Some-clause-slots t c =
    let x = c.args.value.now in
    let b = c.branch-item.result in
    let bound = subst (BindsAt b.pattern x c.loop-branch.slots c.bind.new.slots) c.in-Some.is c.in_ok-bound.ensures in
    case_slots b.pattern x c.args.slots.now c.loop-branch.slots c.bind.new.slots c.emit.new.slots c.drop_nearest.new.self c.in-Some.count bound
    c.loop-branch.invariant.same c.in_ok-deep.ensures.slots c.drop_nearest.ensures

pub emit_case-returns-in-Some-clause-emits : goal.emit_case-returns-in-Some-clause-emits
emit_case-returns-in-Some-clause-emits t c =
    let h = c.args.handlers.now in
    let slots = c.args.slots.now in
    let x = c.args.value.now in
    let bs = c.args.branches.now in
    let i = c.loop-branch.branch-index in
    let b = c.branch-item.result in
    let found = subst (BindsAt b.pattern x c.loop-branch.slots c.bind.new.slots) c.in-Some.is c.in_ok-bound.ensures in
    let bound = subst (λ s. BindsAt b.pattern x s c.bind.new.slots (Some c.in-Some.count)) c.loop-branch.invariant.same found in
    let within : Emits h c.bind.new.slots b.body c.args.out.now c.emit.new.out c.args.room.now c.emit.new.room c.in_ok-deep.deep =
    subst (λ r. Emits h c.bind.new.slots b.body c.args.out.now c.emit.new.out r c.emit.new.room c.in_ok-deep.deep) c.loop-branch.invariant.space
    (subst (λ o. Emits h c.bind.new.slots b.body o c.emit.new.out c.loop-branch.room c.emit.new.room c.in_ok-deep.deep) c.loop-branch.invariant.bytes
    c.in_ok-deep.ensures.emits) in
    emits_branch h slots bs (drop (i + 1) bs) b x c.in-Some.count c.bind.new.slots c.args.out.now c.emit.new.out c.args.room.now c.emit.new.room
    c.in_ok-deep.deep
    (λ d calls env s. c.loop-branch.invariant.left d calls env s ∙ ap (λ l. first_branch d calls l x env s)
    (one_branch bs i b c.loop-branch-test.true c.branch-item.is))
    bound within

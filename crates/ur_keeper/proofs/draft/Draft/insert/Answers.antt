use Rattle.std.proofs.Common.{◌≡◌, ◌<◌, ◌^◌, sym, subst, ap, ◌∙◌}
use Rattle.std.proofs.lemmas.Result.{err_from_is_err_and}
use Rattle.ur_values.specs.Numbered.{next_number}
use Rattle.ur_keeper.specs.Drafts.{left}
use Rattle.ur_keeper.proofs.Drafts.{row-added, push-rises, next-left}
use Rattle.ur_keeper.proofs.Rising.{rising}
use Rattle.ur_keeper.proofs.draft.Draft.insert.Goals as goal

pub number_after-number-requires-clause-room : goal.number_after-number-requires-clause-room
number_after-number-requires-clause-room c =
    let rows = c.close_end.new.rows.items in
    let gone = c.close_end.new.gone.items in
    let next : next_number rows ≡ next_number c.args.self.now = sym (next-left rows gone (rising rows c.close_end.ensures.rising) c.close_end.ensures.last) ∙ ap next_number (c.close_end.ensures.left ∙ c.self.view_is) in
    subst (λ n. n < 2 ^ 64) (sym (ap next_number c.deref.ensures.value ∙ next)) c.requires.room

pub returns-in_err-push-clause-err : goal.returns-in_err-push-clause-err
returns-in_err-push-clause-err c =
    let p = err_from_is_err_and c.from_residual.result c.from_residual.ensures.1 in
    rw (p.1) (ap (λ rows. left rows c.close_end.new.gone.items) c.in_err-push.ensures.items ∙ c.close_end.ensures.left ∙ c.self.view_is)

pub invariant_of-self-2 : goal.invariant_of-self-2
invariant_of-self-2 c =
    push-rises c.close_end.new.rows.items c.deref.result.now c.push.new.self.items c.number_after-number.result c.args.row c.deref.ensures.value c.close_end.ensures.rising c.number_after-number.ensures c.in_ok-push.ensures.items

pub returns-clause-ok : goal.returns-clause-ok
returns-clause-ok c =
    row-added c.args.self.now c.close_end.new.rows.items c.deref.result.now c.push.new.self.items c.close_end.new.gone.items c.number_after-number.result c.args.row (c.close_end.ensures.left ∙ c.self.view_is) c.deref.ensures.value
    c.close_end.ensures.rising c.close_end.ensures.marks c.close_end.ensures.last c.number_after-number.ensures c.in_ok-push.ensures.items

use Rattle.std.proofs.Common.{List, ◌++◌, [], ◌∷◌, sym, ap, ap₂, ◌∙◌, flat_map}
use Rattle.ur_pure.specs.declared.act.Act.{Act}
use Rattle.ur_pure.specs.declared.act.Act.TheVariants.{Calls}
use Rattle.ur_pure.specs.Acts.{op_acts, acts}
use Rattle.ur_pure.proofs.Equations.{has_both, has_all, deeds-Make, deeds-Call, deeds-Let, deeds-If, deeds-Case, deeds-Each}
use Rattle.ur_pure.proofs.deeds.+walk.Goals as goal

pub with_term-returns-in_ok-more-in-Make : goal.with_term-returns-in_ok-more-in-Make
with_term-returns-in_ok-more-in-Make t c =
    has_all c.with_terms.result c.args.acts c.in_ok-more-in-Make.more (op_acts c.in-Make.op) (flat_map acts c.in-Make.args) (acts c.args.term.now)
    c.in_ok-more-in-Make.ensures (ap acts c.in-Make.is ∙ deeds-Make c.in-Make.op c.in-Make.args) c.with_terms.ensures

pub with_term-returns-in_ok-more-in-Call : goal.with_term-returns-in_ok-more-in-Call
with_term-returns-in_ok-more-in-Call t c =
    has_all c.with_terms-in-Call.result c.args.acts c.in_ok-more-in-Call.more (Calls c.in-Call.number ∷ []) (flat_map acts c.in-Call.args)
    (acts c.args.term.now)
    c.in_ok-more-in-Call.ensures (ap acts c.in-Call.is ∙ deeds-Call c.in-Call.number c.in-Call.args) c.with_terms-in-Call.ensures

pub with_term-returns-in_ok-more-in-Let : goal.with_term-returns-in_ok-more-in-Let
with_term-returns-in_ok-more-in-Let t c =
    has_all c.with_term.result c.args.acts c.in_ok-more-in-Let.more (flat_map acts c.in-Let.values) (acts c.get.result.now) (acts c.args.term.now)
    c.in_ok-more-in-Let.ensures
    (ap acts c.in-Let.is ∙ deeds-Let c.in-Let.values c.in-Let.body ∙ ap (λ (ds : List Act). flat_map acts c.in-Let.values ++ ds)
    (ap acts (sym c.get.ensures)))
    c.with_term.ensures

pub with_term-returns-in_ok-more-in-If-2 : goal.with_term-returns-in_ok-more-in-If-2
with_term-returns-in_ok-more-in-If-2 t c =
    let first = acts c.get-in-If.result.now ++ acts c.get-in-If-2.result.now in
    has_all c.with_term-in-If-3.result c.args.acts c.in_ok-more-in-If-2.more first (acts c.get-in-If-3.result.now) (acts c.args.term.now)
    (has_both c.args.acts c.in_ok-more-in-If.more c.in_ok-more-in-If-2.more (acts c.get-in-If.result.now)
    (acts c.get-in-If-2.result.now) c.in_ok-more-in-If.ensures c.in_ok-more-in-If-2.ensures)
    (ap acts c.in-If.is ∙ deeds-If c.in-If.test c.in-If.then c.in-If.other
    ∙ ap₂ (λ (u w : List Act). u ++ w)
    (ap₂ (λ (u w : List Act). u ++ w) (ap acts (sym c.get-in-If.ensures)) (ap acts (sym c.get-in-If-2.ensures)))
    (ap acts (sym c.get-in-If-3.ensures)))
    c.with_term-in-If-3.ensures

pub with_term-returns-in_ok-more-in-Case : goal.with_term-returns-in_ok-more-in-Case
with_term-returns-in_ok-more-in-Case t c =
    has_all c.with_branches.result c.args.acts c.in_ok-more-in-Case.more (acts c.get-in-Case.result.now)
    (flat_map (λ branch. acts branch.body) c.in-Case.branches) (acts c.args.term.now)
    c.in_ok-more-in-Case.ensures
    (ap acts c.in-Case.is ∙ deeds-Case c.in-Case.of c.in-Case.branches ∙ ap (λ (ds : List Act). ds ++ flat_map (λ branch. acts branch.body) c.in-Case.branches)
    (ap acts (sym c.get-in-Case.ensures)))
    c.with_branches.ensures

pub with_term-returns-in_ok-more-in-Each : goal.with_term-returns-in_ok-more-in-Each
with_term-returns-in_ok-more-in-Each t c =
    has_all c.with_term-in-Each-2.result c.args.acts c.in_ok-more-in-Each.more (acts c.get-in-Each.result.now) (acts c.get-in-Each-2.result.now)
    (acts c.args.term.now)
    c.in_ok-more-in-Each.ensures
    (ap acts c.in-Each.is ∙ deeds-Each c.in-Each.rows c.in-Each.body
    ∙ ap₂ (λ (u w : List Act). u ++ w) (ap acts (sym c.get-in-Each.ensures)) (ap acts (sym c.get-in-Each-2.ensures)))
    c.with_term-in-Each-2.ensures

use Rattle.std.proofs.Common.{T, ℤ, ◌+◌, ◌≡◌, ◌++◌, ◌∷◌, [], ◌≤◌, List, length, take, map, sym, subst, ap, ◌∙◌, None, Some, w64, arith, rules}
use Rattle.std.specs.Prelude.{FitsSigned}
use Rattle.std.proofs.lemmas.Int.{to_z-of_z}
use Rattle.std.specs.Ordering.{int_cmp}
use Rattle.std.specs.FinMap.{is_sorted}
use Rattle.std.proofs.lemmas.List.{take_more, take_all}
use Rattle.ur_sqlkeeper.specs.Entries.{Entry, Above, entry_in}
use Rattle.ur_sqlkeeper.proofs.Orders.{SoFar, none-so-far, one-more}
use Rattle.ur_sqlkeeper.proofs.reading.entries.Goals as goal

pub loop-row-init : goal.loop-row-init
loop-row-init c = subst (λ (xs : List Entry). SoFar [] xs None) (sym c.new-found.ensures.items) none-so-far

pub loop-row-preserved : goal.loop-row-preserved
loop-row-preserved c =
    let all = c.args.rows.now in
    let i = c.loop-row.row-index in
    let more = take_more all i c.row-item.result c.loop-row-test.true ∙ ap (λ x. take i all ++ x ∷ []) (sym c.row-item.is) in
    let fits : FitsSigned w64 c.in_ok-read.read.0 = search rules in
    let above = subst (λ (n : ℤ). Above c.loop-row.last n) (to_z-of_z w64 c.in_ok-read.read.0 fits) (c.is_above.ensures (c.if-not-is_above.false)) in
    let next = one-more (take i all) (take (i + 1) all) c.row-item.result c.loop-row.found.items c.push.new.self.items c.loop-row.last c.in_ok-read.read c.loop-row.invariant more c.in_ok-read.ensures above c.in_ok-push.ensures.items in
    subst (λ (n : ℤ). SoFar (take (i + 1) all) c.push.new.self.items (Some n)) (sym (to_z-of_z w64 c.in_ok-read.read.0 fits)) next

pub returns-clause-found : goal.returns-clause-found
returns-clause-found c =
    let past : length c.args.rows.now ≤ c.loop-row.row-index = omega (arith, c.loop-row-test.false) in
    c.from_vec.ensures ∙ c.loop-row.invariant.are ∙ ap (map entry_in) (take_all c.loop-row.row-index c.args.rows.now past)

pub returns-clause-rise : goal.returns-clause-rise
returns-clause-rise c = subst (λ (xs : List Entry). T (is_sorted int_cmp xs)) (sym c.from_vec.ensures) c.loop-row.invariant.rise

use Rattle.std.proofs.Common.{◌+◌, ◌++◌, ◌∷◌, ◌≤◌, [], length, take, drop, sym, ap, ◌∙◌, arith}
use Rattle.std.proofs.lemmas.List.{drop_more, take_more, drop_all, take_rest}
use Rattle.ur_keeper_bodies.proofs.NamedReading.{one-more, too-long}
use Rattle.ur_keeper_bodies.proofs.columns.read_columns.Goals as goal

pub loop-column-preserved : goal.loop-column-preserved
loop-column-preserved c =
    let all = c.args.columns.now in
    let i = c.loop-column.column-index in
    let column = c.column-item.result in
    one-more all c.args.bytes.now _ i c.loop-column.at c.loop-column.row _ column c.in_ok-value.field-0 c.in-Some.value c.in-Some.taken
    (drop_more all i column c.loop-column-test.true ∙ ap (λ x. x ∷ drop (i + 1) all) (sym c.column-item.is))
    (take_more all i column c.loop-column-test.true ∙ ap (λ x. take i all ++ x ∷ []) (sym c.column-item.is))
    c.loop-column.invariant (take_rest c.args.bytes.now c.loop-column.at) c.in-Some.is c.in_ok-value.ensures.value c.in_ok-value.ensures.within c.in_ok-push.ensures.ok

pub returns-then-at-bytes-clause-read : goal.returns-then-at-bytes-clause-read
returns-then-at-bytes-clause-read c =
    let past : length c.args.columns.now ≤ c.loop-column.column-index = omega (arith, c.loop-column-test.false) in
    too-long c.args.columns.now c.args.bytes.now c.loop-column.column-index c.loop-column.at c.loop-column.row (drop_all c.loop-column.column-index c.args.columns.now past) c.loop-column.invariant c.if-at-bytes.true

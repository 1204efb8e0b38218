use Rattle.std.proofs.Common.{◌≡◌, ◌+◌, ◌<◌, ◌++◌, ◌∷◌, [], length, drop, IfSome, subst, ap, ◌∙◌, rules}
use Rattle.ur_values.specs.declared.value.Value.TheVariants as v
use Rattle.ur_keeper.specs.Growing.{grown_step}
use Rattle.ur_keeper.proofs.GrowingRows.{with-cell, without-cell}
use Rattle.ur_keeper.proofs.growing.grown_row.Goals as goal
use Rattle.ur_keeper.proofs.growing.grown_row.Goals.{in-Some+in_ok-push-in-Some, in-None+in_ok-push-in-None}

pub loop-column-preserved : goal.loop-column-preserved
loop-column-preserved c =
    let columns = c.args.columns.now in
    let i = c.loop-column.column-index in
    let rest = drop (i + 1) columns in
    let cells = c.as_slice-cells.result.now in
    let kept = c.args.kept.now in
    let at = c.loop-column.at in
    elim c.match-branch-2.branch [
      | in-Some+in_ok-push-in-Some w ↦
          let pushed : c.match-branch-2.all ≡ c.loop-column.all ++ w.in-Some.cell ∷ [] = search rules in
          let more : c.match-branch-2.at ≡ at + 1 = search rules in
          with-cell columns kept cells i at c.loop-column.all c.match-branch-2.all c.column-item.result w.in-Some.cell c.match-branch-2.at c.loop-column-test.true c.column-item.is c.loop-column.invariant
          (c.in_ok-cell.ensures.step rest ∙ ap (grown_step rest kept cells at) w.in-Some.is) (subst (λ o. IfSome o (λ x. at < length cells)) w.in-Some.is c.in_ok-cell.ensures.within) pushed more
      | in-None+in_ok-push-in-None w ↦
          let pushed : c.match-branch-2.all ≡ c.loop-column.all ++ v.Absent ∷ [] = search rules in
          let more : c.match-branch-2.at ≡ at = search rules in
          without-cell columns kept cells i at c.loop-column.all c.match-branch-2.all c.column-item.result c.match-branch-2.at c.loop-column-test.true c.column-item.is c.loop-column.invariant
          (c.in_ok-cell.ensures.step rest ∙ ap (grown_step rest kept cells at) w.in-None.is) pushed more
    ]

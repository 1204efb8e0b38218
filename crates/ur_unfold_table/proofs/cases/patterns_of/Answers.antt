use Rattle.std.proofs.Common.{[], ◌∷◌, ◌++◌, drop, map, ap, ◌∙◌}
use Rattle.ur_tree.specs.declared.exp.Branch.{Branch}
use Rattle.ur_unfold_table.proofs.Telling.{first_told, more_told, all_told}
use Rattle.ur_unfold_table.proofs.cases.patterns_of.Goals as goal

pub loop-i-init : goal.loop-i-init
loop-i-init c =
    ap (λ l. l ++ map (λ (b : Branch). b.pattern) (drop 0 c.as_slice-all.result.now)) c.new-patterns.ensures ∙ first_told (λ (b : Branch). b.pattern) [] c.as_slice-all.result.now

pub loop-i-preserved : goal.loop-i-preserved
loop-i-preserved c =
    more_told (λ (b : Branch). b.pattern) c.as_slice-all.result.now c.loop-i.i c.index-all-i.result c.loop-i.patterns c.push.new.self _ c.loop-i-test.true c.index-all-i.is c.loop-i.invariant
    (c.in_ok-push.ensures.ok ∙ ap (λ p. c.loop-i.patterns ++ p ∷ []) c.in_ok-pattern.ensures)

pub returns : goal.returns
returns c =
    all_told (λ (b : Branch). b.pattern) c.as_slice-all.result.now c.loop-i.i c.loop-i.patterns _ c.loop-i-test.false c.loop-i.invariant
    ∙ ap (map (λ (b : Branch). b.pattern)) c.as_slice-all.ensures

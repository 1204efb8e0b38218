use Rattle.std.proofs.Common.{◌≤◌, All, refl, ap, subst, ◌∙◌, arith}
use Rattle.std.proofs.lemmas.List.{take_all}
use Rattle.std.proofs.lemmas.List.Elements.{All-more}
use Rattle.ur_values.specs.declared.schema.Numbered.{Numbered}
use Rattle.ur_keeper.specs.Versions.{Rows}
use Rattle.ur_keeper.proofs.table.Table.has_low_numbers.Goals as goal

pub loop-row-preserved : goal.loop-row-preserved
loop-row-preserved c =
    All-more (λ (r : Numbered). r.number ≤ 4611686018427387904) c.as_slice-row-items.result.now c.loop-row.row-index c.row-item.result c.loop-row-test.true c.loop-row.invariant
    (subst (λ (r : Numbered). r.number ≤ 4611686018427387904) c.row-item.is c.if-row-gt4611686018427387904.false)

pub returns : goal.returns
returns c = (
  λ _. subst (λ rows. All (λ (r : Numbered). r.number ≤ 4611686018427387904) rows) (take_all c.loop-row.row-index c.as_slice-row-items.result.now (omega arith) ∙ c.as_slice-row-items.ensures ∙ ap (λ (t : Rows). t.saved) c.self.view_is) c.loop-row.invariant,
  λ _. refl,
)

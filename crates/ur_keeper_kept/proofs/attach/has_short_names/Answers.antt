use Rattle.std.proofs.Common.{◌≡◌, ◌+◌, ◌≤◌, ◌++◌, ◌∷◌, [], true, List, length, take, All, ap, sym, subst, ◌∙◌, arith, rules}
use Rattle.std.proofs.lemmas.List.{take_more, take_all}
use Rattle.std.proofs.lemmas.List.Elements.{All-push}
use Rattle.ur_values.specs.declared.schema.TableShape.{TableShape}
use Rattle.ur_keeper_bodies.specs.Columns.{IsShort}
use Rattle.ur_keeper_kept.proofs.attach.has_short_names.Goals as goal

abbrev HasShort : TableShape → Type 0
HasShort shape = All (λ c. IsShort c.0) shape.columns

pub loop-shape-preserved : goal.loop-shape-preserved
loop-shape-preserved c =
    let all = c.as_slice-shape-items.result.now in
    let i = c.loop-shape.shape-index in
    let shape = c.shape-item.result in
    let more : take (i + 1) all ≡ take i all ++ shape ∷ [] =
    take_more all i shape c.loop-shape-test.true ∙ ap (λ x. take i all ++ x ∷ []) (sym c.shape-item.is) in
    let short : c.are_short.result ≡ true = search rules in
    subst (λ (x : List TableShape). All HasShort x) (sym more) (All-push HasShort (take i all) shape c.loop-shape.invariant (c.are_short.ensures short))

pub returns : goal.returns
returns c = λ _.
    let all = c.as_slice-shape-items.result.now in
    let past : length all ≤ c.loop-shape.shape-index = omega (arith, c.loop-shape-test.false) in
    subst (λ (x : List TableShape). All HasShort x) (take_all c.loop-shape.shape-index all past ∙ c.as_slice-shape-items.ensures) c.loop-shape.invariant

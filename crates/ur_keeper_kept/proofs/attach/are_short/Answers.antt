use Rattle.std.proofs.Common.{◌≡◌, ◌+◌, ◌≤◌, ◌<◌, ◌++◌, ◌∷◌, [], List, length, take, All, ap, sym, subst, ◌∙◌, arith}
use Rattle.std.proofs.lemmas.List.{take_more, take_all}
use Rattle.std.proofs.lemmas.List.Elements.{All-push}
use Rattle.ur_keeper_bodies.specs.Columns.{Column, IsShort}
use Rattle.ur_keeper_kept.proofs.attach.are_short.Goals as goal

pub loop-column-preserved : goal.loop-column-preserved
loop-column-preserved c =
    let all = c.as_slice-column-items.result.now in
    let i = c.loop-column.column-index in
    let column = c.column-item.result in
    let more : take (i + 1) all ≡ take i all ++ column ∷ [] = take_more all i column c.loop-column-test.true ∙ ap (λ x. take i all ++ x ∷ [])
    (sym c.column-item.is) in
    let short : length column.0 < 4294967296 = omega (arith, c.len.ensures, c.if-len.false) in
    subst (λ (x : List Column). All (λ d. IsShort d.0) x) (sym more) (All-push (λ (d : Column). IsShort d.0) (take i all) column c.loop-column.invariant short)

pub returns : goal.returns
returns c = λ _.
    let all = c.as_slice-column-items.result.now in
    let past : length all ≤ c.loop-column.column-index = omega (arith, c.loop-column-test.false) in
    subst (λ (x : List Column). All (λ d. IsShort d.0) x) (take_all c.loop-column.column-index all past ∙ c.as_slice-column-items.ensures)
    c.loop-column.invariant

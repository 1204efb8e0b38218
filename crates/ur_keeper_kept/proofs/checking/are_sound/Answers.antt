use Rattle.std.proofs.Common.{◌≡◌, ◌+◌, ◌≤◌, ◌++◌, ◌∷◌, [], List, length, take, All, ap, sym, subst, ◌∙◌, arith, rules}
use Rattle.std.specs.Prelude.{IsNone}
use Rattle.std.proofs.lemmas.List.{take_more, take_all}
use Rattle.std.proofs.lemmas.List.Elements.{All-push}
use Rattle.ur_values.specs.declared.schema.Numbered.{Numbered}
use Rattle.ur_keeper_kept.proofs.checking.are_sound.Goals as goal

pub loop-row-preserved : goal.loop-row-preserved
loop-row-preserved c =
    let all = c.args.rows.now in
    let i = c.loop-row.row-index in
    let row = c.row-item.result in
    let more : take (i + 1) all ≡ take i all ++ row ∷ [] = take_more all i row c.loop-row-test.true ∙ ap (λ x. take i all ++ x ∷ []) (sym c.row-item.is) in
    let low : row.number ≤ 4611686018427387904 = search rules in
    subst (λ (x : List Numbered). All (λ r. r.number ≤ 4611686018427387904) x) (sym more) (All-push (λ (r : Numbered). r.number ≤ 4611686018427387904) (take i all) row c.loop-row.invariant low)

pub returns-clause-sound : goal.returns-clause-sound
returns-clause-sound c = λ t.
    let none : IsNone c.in_ok-key.key = search rules in
    let past : length c.args.rows.now ≤ c.loop-row.row-index = omega (arith, c.loop-row-test.false) in
    record {
      commits = record { distinct = subst (λ o. IsNone o) c.in_ok-key.ensures none; not_over = omega (arith, c.if-rows-gt1000000.false) };
      numbers =
          subst (λ (x : List Numbered). All (λ r. r.number ≤ 4611686018427387904) x) (take_all c.loop-row.row-index c.args.rows.now past) c.loop-row.invariant;
    }

use Rattle.std.proofs.Common.{◌≡◌, ◌++◌, ◌∷◌, [], ◌+◌, ◌≤ℤ◌, ◌+ℤ◌, ℤ, ℕ, List, pos, Some, take, drop, ap, sym, subst, ◌∙◌, w64, rules}
use Rattle.std.specs.Prelude.{unsigned_abs}
use Rattle.std.specs.Int.{cast_signed as to_z, cast_unsigned as of_z}
use Rattle.std.proofs.lemmas.List.{take_more, drop_more}
use Rattle.ur_keeper_bodies.specs.Rows.{kinds_in, MayStand}
use Rattle.ur_keeper_bodies.specs.Stored.{body_row}
use Rattle.ur_keeper_kept.proofs.Finding.{ReadsFrom, reads-all}
use Rattle.ur_keeper_kept.proofs.ReadRows.{read-step}
use Rattle.ur_keeper_kept.proofs.reading.read_rows.Goals as goal

pub loop-entry-preserved : goal.loop-entry-preserved
loop-entry-preserved c =
    let all = c.args.entries.now in
    let i = c.loop-entry.entry-index in
    let e = c.entry-item.result in
    let more : take (i + 1) all ≡ take i all ++ (e.0, e.1) ∷ [] = take_more all i e c.loop-entry-test.true ∙ ap (λ x. take i all ++ x ∷ []) (sym c.entry-item.is) in
    let low : to_z w64 c.loop-entry.next-bits ≤ℤ e.0 = search rules in
    let is : body_row c.args.layout c.args.columns.now e.1 ≡ Some c.in-Some.row = search rules in
    let may : MayStand (kinds_in c.args.columns.now) c.in-Some.row = search rules in
    let pushed : c.push.new.self ≡ c.loop-entry.rows ++ record { number = unsigned_abs e.0; row = c.in_ok-shared.shared } ∷ [] = search rules in
    let rows : c.push.new.self ≡ c.loop-entry.rows ++ record { number = unsigned_abs e.0; row = c.in-Some.row } ∷ [] =
    pushed ∙ ap (λ r. c.loop-entry.rows ++ record { number = unsigned_abs e.0; row = r } ∷ []) c.in_ok-shared.ensures in
    let next : to_z w64 (of_z w64 (to_z w64 (of_z w64 e.0) +ℤ pos 1)) ≡ e.0 +ℤ pos 1 = search rules in
    let dropped : drop i all ≡ e ∷ drop (i + 1) all = drop_more all i e c.loop-entry-test.true ∙ ap (λ x. x ∷ drop (i + 1) all) (sym c.entry-item.is) in
    record {
      read =
          read-step c.args.layout c.args.columns.now (take i all) (take (i + 1) all) c.loop-entry.rows c.push.new.self (to_z w64 c.loop-entry.next-bits) e.0 _ e.1 c.in-Some.row c.loop-entry.invariant.read low is may more rows next;
      left =
          λ s r. subst (λ (z : ℤ). ReadsFrom c.args.layout c.args.columns.now z (drop (i + 1) all)) (sym next) (subst (λ (x : List (ℤ × List ℕ)). ReadsFrom c.args.layout c.args.columns.now (to_z w64 c.loop-entry.next-bits) x) dropped (c.loop-entry.invariant.left s r)).3;
    }

pub loop-entry-init : goal.loop-entry-init
loop-entry-init c = record {
  read = search rules;
  left = λ s r. reads-all c.args.layout c.args.columns.now c.args.entries.now s r;
}

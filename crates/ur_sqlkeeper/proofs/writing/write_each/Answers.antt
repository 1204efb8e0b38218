use Rattle.std.proofs.Common.{◌≡◌, ◌∷◌, ◌≤◌, ◌+◌, Ok, length, drop, refl, rules, sym, subst, ap, ◌∙◌, arith}
use Rattle.std.proofs.lemmas.List.{drop_more, drop_all}
use Rattle.ur_sqlkeeper.proofs.Queries.{nothing-dropped}
use Rattle.ur_sqlkeeper.proofs.Calls.{Goes, begins, goes-on, all-made}
use Rattle.ur_sqlkeeper.proofs.writing.write_each.Goals as goal

pub loop-change-init : goal.loop-change-init
loop-change-init g c = record {
  reference = refl;
  kept = λ honest. refl;
  goes = λ honest inside ours can. subst (Goes _ _ c.args.changes.now) (sym (nothing-dropped c.args.changes.now)) (begins _ c.args.changes.now ours inside can);
}

pub loop-change-preserved : goal.loop-change-preserved
loop-change-preserved g c =
    let all = c.args.changes.now in
    let i = c.loop-change.change-index in
    let left : drop i all ≡ c.change-item.result ∷ drop (i + 1) all = drop_more all i c.change-item.result c.loop-change-test.true ∙ ap (λ x. x ∷ drop (i + 1) all) (sym c.change-item.is) in
    let inv = c.loop-change.invariant in
    let done = c.in_ok-write_one.ensures in
    let one : c.in_ok-write_one.field-0 ≡ 1 = search rules in
    record {
      reference = done.same_reference ∙ inv.reference;
      kept = λ honest. done.kept honest ∙ inv.kept honest;
      goes = λ honest inside ours can.
          let now = subst (Goes _ _ all) left (inv.goes honest inside ours can) in
          goes-on _ _ _ all c.change-item.result (drop (i + 1) all) now (done.made honest now.under_way now.ours now.can.0 (ap (λ n. Ok n) one));
    }

pub returns-clause-made : goal.returns-clause-made
returns-clause-made g c honest inside ours can _ =
    let all = c.args.changes.now in
    let past : length all ≤ c.loop-change.change-index = omega (arith, c.loop-change-test.false) in
    all-made _ _ all (subst (Goes _ _ all) (drop_all c.loop-change.change-index all past) (c.loop-change.invariant.goes honest inside ours can))

use Rattle.std.proofs.Common.{◌≡◌, ◌++◌, ◌∷◌, [], ℤ, ℕ, pos, ◌+ℤ◌, ◌<ℤ◌, IfSome, ap, subst, ◌∙◌, w64, rules}
use Rattle.std.specs.Prelude.{FitsSigned}
use Rattle.std.proofs.lemmas.Int.{to_z-of_z}
use Rattle.ur_keeper_bodies.specs.declared.bodies.BodyChange.TheVariants as change
use Rattle.ur_keeper_bodies.specs.Columns.{columns_body}
use Rattle.ur_keeper_kept.specs.Laid.{table_tab, columns_at}
use Rattle.ur_keeper_kept.proofs.Steps.{is-inserted}
use Rattle.ur_keeper_kept.proofs.KeptRows.{may-write, long-enough}
use Rattle.ur_keeper_kept.proofs.Told.{told-two}
use Rattle.ur_keeper_kept.proofs.work.insert_row.Goals as goal

pub columns_bytes-requires-clause-sizes : goal.columns_bytes-requires-clause-sizes
columns_bytes-requires-clause-sizes g c = c.requires.row.sizes

pub columns_bytes-requires-clause-long : goal.columns_bytes-requires-clause-long
columns_bytes-requires-clause-long g c =
    long-enough c.args.schema.now c.args.table c.args.row.now c.columns_at-columns.result.now c.requires.table c.requires.row c.columns_at-columns.ensures

pub returns-clause-changed : goal.returns-clause-changed
returns-clause-changed g c =
    let n = c.in_ok-number.number in
    let s = c.args.schema.now in
    let old = c.args.pending.now in
    let table = c.args.table in
    let fits : FitsSigned w64 n = search rules in
    let seen = subst (λ (z : ℤ). IfSome c.seen_after-seen.result (λ (x : ℕ × ℤ). x ≡ (table, z +ℤ pos 1))) (to_z-of_z w64 n fits) c.seen_after-seen.ensures in
    let body : c.in_ok-body.body ≡ columns_body (columns_at s table) c.args.row.now = c.in_ok-body.ensures ∙ ap (λ cs. columns_body cs c.args.row.now)
    c.columns_at-columns.ensures in
    let added : c.add.new.self ≡ record {
      changes = old.changes ++ change.Add (table_tab table) n c.in_ok-body.body ∷ [];
      seen = c.seen_after-seen.result;
      drawn = old.drawn;
    } = search rules in
    let new = added ∙ ap (λ b. record {
      changes = old.changes ++ change.Add (table_tab table) n b ∷ [];
      seen = c.seen_after-seen.result;
      drawn = old.drawn;
    }) body in
    let less : n <ℤ pos 9223372036854775808 = search rules in
    told-two _ _ _ _ c.requires.pending c.in_ok-number.ensures.number
    (λ m p number. is-inserted s m old p table c.args.row.now c.requires.table
    (may-write s table c.args.row.now c.requires.table c.requires.row p.good.short) n c.seen_after-seen.result c.add.new.self number less seen new)

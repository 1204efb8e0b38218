use Rattle.std.proofs.Common.{ℤ, map, ap, ◌∙◌, subst, w64}
use Rattle.std.proofs.lemmas.Int.{to_z-of_z}
use Rattle.sqlite.specs.Held.{state}
use Rattle.ur_sqlkeeper.specs.Entries.{entry_in}
use Rattle.ur_sqlkeeper.specs.Rows.{ShowsTable}
use Rattle.ur_sqlkeeper.proofs.Queries.{table-read}
use Rattle.ur_sqlkeeper.proofs.reading.read.Goals as goal

pub returns-clause-bodies : goal.returns-clause-bodies
returns-clause-bodies g c honest ours =
    let rows = (state g.S.Store c.args.conn.now).now.trees 0 in
    let shown = subst (λ (t : ℤ). ShowsTable rows t c.in_ok-rows.rows.items) (to_z-of_z w64 c.args.tab c.ranges.tab) (c.in_ok-rows.ensures.rows honest ours) in
    table-read rows c.args.tab c.in_ok-rows.rows.items c.in_ok-found.found shown (c.in_ok-found.ensures.found ∙ ap (map entry_in) c.as_slice.ensures.value) c.in_ok-found.ensures.rise

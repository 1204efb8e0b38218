use Rattle.std.proofs.Common.{◌≡◌, map, ap, ◌∙◌, subst, w64}
use Rattle.std.specs.Int.{cast_signed as to_z, cast_unsigned as of_z}
use Rattle.std.proofs.lemmas.Int.{to_z-of_z}
use Rattle.sqlite.specs.Held.{state}
use Rattle.ur_keeper_bodies.specs.Bodies.{Place}
use Rattle.ur_sqlkeeper.specs.Entries.{body_in}
use Rattle.ur_sqlkeeper.specs.Rows.{ShowsPlace}
use Rattle.ur_sqlkeeper.proofs.Queries.{place-read}
use Rattle.ur_sqlkeeper.proofs.reading.one.Goals as goal

pub returns-clause-body : goal.returns-clause-body
returns-clause-body g c honest ours =
    let rows = (state g.S.Store c.args.conn.now).now.trees 0 in
    let place : ◌≡◌ {A = Place} (to_z w64 (of_z w64 c.args.tab), to_z w64 (of_z w64 c.args.num)) (c.args.tab, c.args.num) = λ i. (to_z-of_z w64 c.args.tab c.ranges.tab i, to_z-of_z w64 c.args.num c.ranges.num i) in
    let shown = subst (λ (p : Place). ShowsPlace rows p c.in_ok-rows.rows.items) place (c.in_ok-rows.ensures.rows honest ours) in
    place-read rows c.args.tab c.args.num c.in_ok-rows.rows.items c.in_ok-found.found shown (c.in_ok-found.ensures ∙ ap (map body_in) c.as_slice.ensures.value)

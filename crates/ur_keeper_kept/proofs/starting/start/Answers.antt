use Rattle.std.proofs.Common.{◌≡◌, ◌∷◌, length, pos, rules}
use Rattle.ur_keeper_bodies.specs.Stored.{stored_text}
use Rattle.ur_keeper_bodies.specs.declared.bodies.BodyChange.TheVariants as change
use Rattle.ur_keeper_kept.specs.Attach.{ones}
use Rattle.ur_keeper_kept.proofs.Attaching.{can-write-told, starts-told}
use Rattle.ur_keeper_kept.proofs.starting.start.Goals as goal

pub write-requires-clause-each : goal.write-requires-clause-each
write-requires-clause-each g c =
    let s = c.args.schema.now in
    let cs : c.as_slice.result.now ≡ change.Add (pos 0) (pos 0) (stored_text s) ∷ ones 0 (length s.sequences) = search rules in
    can-write-told s c.requires.short _ _ _ c.len-tables.result c.len-sequences.result c.as_slice.result.now c.in_ok-no_rows.ensures.same.same c.in_ok-no_numbers.ensures.same.same c.len-tables.ensures c.len-sequences.ensures cs c.requires.none c.in_ok-no_rows.ensures.empty c.in_ok-no_numbers.ensures.empty

pub returns-clause-starts : goal.returns-clause-starts
returns-clause-starts g c =
    let s = c.args.schema.now in
    let cs : c.as_slice.result.now ≡ change.Add (pos 0) (pos 0) (stored_text s) ∷ ones 0 (length s.sequences) = search rules in
    starts-told s c.requires.short _ _ _ _ c.len-tables.result c.len-sequences.result c.as_slice.result.now c.in_ok-no_rows.ensures.same.same c.in_ok-no_numbers.ensures.same.same c.len-tables.ensures c.len-sequences.ensures cs c.requires.none c.in_ok-no_rows.ensures.empty c.in_ok-no_numbers.ensures.empty c.in_ok-write.ensures.written

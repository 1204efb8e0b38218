use Rattle.std.proofs.Common.{◌≡◌, ◌∷◌, [], pos, rules}
use Rattle.ur_keeper_bodies.specs.declared.bodies.BodyChange.TheVariants as change
use Rattle.ur_keeper_bodies.specs.Stored.{stored_text}
use Rattle.ur_keeper_kept.proofs.GrowingStores.{text-stays, text-anew}
use Rattle.ur_keeper_kept.proofs.growing.text_change.Goals as goal

pub returns-then-same : goal.returns-then-same
returns-then-same c =
    let same : c.args.kept.now ≡ c.args.schema.now = search rules in
    let none : c.new-changes.result ≡ [] = search rules in
    text-stays c.args.schema.now c.args.kept.now c.new-changes.result same none

pub returns : goal.returns
returns c =
    let pushed : c.push.new.self ≡ change.Put (pos 0) (pos 0) (stored_text c.args.schema.now) ∷ [] = search rules in
    text-anew c.args.schema.now c.args.kept.now c.push.new.self pushed

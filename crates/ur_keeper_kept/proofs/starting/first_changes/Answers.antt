use Rattle.std.proofs.Common.{◌≡◌, ◌++◌, ◌∷◌, [], List, pos, ap, sym, ◌∙◌, rules}
use Rattle.ur_keeper_bodies.specs.Rows.{int_body}
use Rattle.ur_keeper_bodies.specs.declared.bodies.BodyChange.{BodyChange}
use Rattle.ur_keeper_bodies.specs.declared.bodies.BodyChange.TheVariants as change
use Rattle.ur_keeper_kept.proofs.Attaching.{ones-more}
use Rattle.ur_keeper_kept.proofs.starting.first_changes.Goals as goal

pub loop-place-preserved : goal.loop-place-preserved
loop-place-preserved c =
    let one = change.Add (pos 1) (pos c.loop-place.place) (int_body (pos 1)) in
    let pushed : c.push-in-loop-place.new.self ≡ c.loop-place.changes ++ one ∷ [] = search rules in
    pushed ∙ ap (λ (cs : List BodyChange). cs ++ one ∷ []) c.loop-place.invariant ∙ ap (λ (cs : List BodyChange). change.Add (pos 0) (pos 0) c.args.text ∷ cs) (sym (ones-more c.loop-place.place))

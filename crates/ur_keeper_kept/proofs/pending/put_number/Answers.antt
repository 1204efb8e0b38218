use Rattle.std.proofs.Common.{ap, List, ℤ, pos, set, get_or, cond, ◌==◌, ◌∙◌, w64, rules}
use Rattle.std.specs.Prelude.{FitsSigned}
use Rattle.std.proofs.lemmas.Int.{to_z-of_z}
use Rattle.ur_keeper_kept.proofs.Numbers.{number-set}
use Rattle.ur_keeper_kept.proofs.pending.put_number.Goals as goal

pub returns : goal.returns
returns c =
    let fits : FitsSigned w64 c.args.number = search rules in
    λ q. ap (λ (xs : List ℤ). get_or xs q (pos 0)) c.set.ensures
    ∙ ap (λ (n : ℤ). get_or (set c.make_room.new.numbers c.args.place n) q (pos 0)) (to_z-of_z w64 c.args.number fits)
    ∙ number-set c.make_room.new.numbers c.args.place q c.args.number c.in_ok-make_room.ensures.room
    ∙ ap (cond (q == c.args.place) c.args.number) (c.in_ok-make_room.ensures.same q)

use Rattle.std.proofs.Common.{◌∙◌, ◌+◌, refl}
use Rattle.std.proofs.lemmas.List.{take_rest}
use Rattle.ur_http.proofs.Pairs.{not_pair, with_pair}
use Rattle.ur_http.proofs.cookies.add_pair.Goals as goal

pub returns-in-None : goal.returns-in-None
returns-in-None c = not_pair c.args.cookies.now c.args.piece.now c.in-None.ensures.pair

pub returns-in_ok-push-in-Some : goal.returns-in_ok-push-in-Some
returns-in_ok-push-in-Some c =
    c.in_ok-push-in-Some.ensures.ok
    ∙ with_pair c.args.cookies.now c.args.piece.now _ _ _ _ c.in-Some.middle c.in-Some.ensures.pair c.in-Some.ensures.place.0
    (c.in_ok-name-in-Some.ensures ∙ c.trim.ensures) (c.in_ok-value-in-Some.ensures ∙ c.trim-in-Some.ensures) refl (take_rest c.args.piece.now (c.in-Some.middle + 1))

-- At the end no pair is left.
use Rattle.std.proofs.Common.{◌≡◌, ◌∙◌, sym, ap, ◌++◌, [], map, append-nil, arith}
use Rattle.form_urlencoded.specs.Parse.{raw_pairs_left}
use Rattle.ur_http.specs.Requests.{form_of, decoded}
use Rattle.ur_http.proofs.forms.form.Goals as goal

pub returns : goal.returns
unfolding form_of
returns c =
    let none : raw_pairs_left c.loop-name.name-iterator ≡ [] = grind arith in
    sym (ap (λ left. c.loop-name.form ++ map decoded left) none ∙ append-nil c.loop-name.form) ∙ c.loop-name.invariant

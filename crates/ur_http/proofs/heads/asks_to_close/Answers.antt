use Rattle.std.proofs.Common.{◌≡◌, ◌==◌, ◌||◌, true, false, sym, ap, ◌∙◌, arith, map}
use Rattle.std.specs.List.{list_any}
use Rattle.std.proofs.lemmas.Bool.Decides.{nat_tests}
use Rattle.ur_http.specs.Fields.{has_close}
use Rattle.ur_http.specs.Reading.{field_pair}
use Rattle.ur_http.specs.Requests.{asks_to_close}
use Rattle.ur_http.proofs.heads.asks_to_close.Goals as goal

pub returns-then-minor-eq0 : goal.returns-then-minor-eq0
unfolding asks_to_close
returns-then-minor-eq0 c =
    let old : (c.args.minor == 0) ≡ true = grind (arith, nat_tests) in
    old ∙ sym (ap (λ v. v || list_any has_close (map field_pair c.args.fields.now)) old)

pub returns-else-minor-eq0 : goal.returns-else-minor-eq0
unfolding asks_to_close
returns-else-minor-eq0 c =
    let old : (c.args.minor == 0) ≡ false = grind (arith, nat_tests) in
    c.any_closes.ensures ∙ sym (ap (λ v. v || list_any has_close (map field_pair c.args.fields.now)) old)

use Rattle.std.proofs.Common.{◌≡◌, ◌≢◌, ◌∙◌, ap, sym, length, arith, Some}
use Rattle.std.proofs.lemmas.Bool.Decides.{nat_tests}
use Rattle.std.proofs.lemmas.List.{take_rest}
use Rattle.ur_http.proofs.Targets.{no_authority, slash_at, no_slash}
use Rattle.ur_http.proofs.target.after_authority.Goals as goal

pub returns-in-Some-eq0 : goal.returns-in-Some-eq0
returns-in-Some-eq0 c = no_authority c.args.bytes.now (c.in-Some-eq0.ensures.place.0 ∙ c.in-Some-eq0.field-0-test)

pub returns-in-Some : goal.returns-in-Some
returns-in-Some c =
    slash_at c.args.bytes.now c.in-Some.end c.in-Some.ensures.place.0 c.in-Some.end-test.1 c.in-Some.ensures.place.1
    ∙ ap Some (sym (take_rest c.args.bytes.now c.in-Some.end))

pub returns-in-None : goal.returns-in-None
returns-in-None c =
    let none : length c.args.bytes.now ≡ 0 = grind (arith, nat_tests) in
    no_authority c.args.bytes.now (c.in-None.ensures.place ∙ none)

pub returns-in-None-2 : goal.returns-in-None-2
returns-in-None-2 c =
    let some : length c.args.bytes.now ≢ 0 = grind (arith, nat_tests) in
    no_slash c.args.bytes.now c.in-None-2.ensures.place some

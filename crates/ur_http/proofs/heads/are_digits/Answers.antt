use Rattle.std.proofs.Common.{◌≡◌, ◌∙◌, sym, ap, true, nat_lt, length, ◌&&◌, arith, rules, tests}
use Rattle.std.specs.List.{list_all}
use Rattle.std.specs.Char.{is_ascii_digit}
use Rattle.std.proofs.lemmas.Bool.Decides.{nat_tests}
use Rattle.std.proofs.lemmas.Iterator.{YieldsList-from_slice}
use Rattle.std.proofs.lemmas.Iterator.Search.{all_from_yields_List}
use Rattle.ur_http.proofs.heads.are_digits.Goals as goal

pub returns-then-not-is_empty : goal.returns-then-not-is_empty
returns-then-not-is_empty c =
    let some : nat_lt 0 (length c.args.bytes.now) ≡ true = grind (arith, nat_tests) in
    let all : c.all.result ≡ list_all is_ascii_digit c.args.bytes.now =
    all_from_yields_List is_ascii_digit _ _ c.all.result c.all.ensures.ran (YieldsList-from_slice c.args.bytes.now c.iter.ensures.rest) (λ x b q k. search (rules, tests)) in
    all ∙ sym (ap (λ v. v && list_all is_ascii_digit c.args.bytes.now) some)

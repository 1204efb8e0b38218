use Rattle.std.proofs.Common.{◌≡◌, ◌∙◌, true, false, sym, ap, ◌++◌, append-nil, arith, codes}
use Rattle.ur_http.specs.Fields.{is_named}
use Rattle.ur_http.specs.Reading.{field_pair}
use Rattle.ur_http.proofs.Pairs.{cookie_field, other_field}
use Rattle.ur_http.proofs.cookies.add_field.Goals as goal

pub returns-then-not-same_name : goal.returns-then-not-same_name
returns-then-not-same_name c =
    let other : is_named (codes "cookie") (field_pair c.args.field.now) ≡ false = grind arith in
    sym (ap (λ t. c.args.cookies.now ++ t) (other_field (field_pair c.args.field.now) other) ∙ append-nil c.args.cookies.now)

pub returns : goal.returns
returns c =
    let named : is_named (codes "cookie") (field_pair c.args.field.now) ≡ true = grind arith in
    c.in_ok-add_pairs.ensures ∙ sym (ap (λ t. c.args.cookies.now ++ t) (cookie_field (field_pair c.args.field.now) named))

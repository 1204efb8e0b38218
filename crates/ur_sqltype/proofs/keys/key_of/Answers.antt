use Rattle.std.proofs.Common.{◌≡◌, ◌∙◌, sym, ap, subst, Some, None, nat_eq}
use Rattle.std.specs.Prelude.{Contains}
use Rattle.ur_sqltype.specs.Lists.{all_of, repeated}
use Rattle.ur_sqltype.specs.Table.{place_of}
use Rattle.ur_sqltype.specs.SqltableFaults.{key_twice, key_optional}
use Rattle.ur_sqltype.proofs.Once.{distinct}
use Rattle.ur_sqltype.proofs.keys.key_of.Goals as goal

pub returns-in-None-optional_place-clause-once : goal.returns-in-None-optional_place-clause-once
returns-in-None-optional_place-clause-once c =
    let once : repeated nat_eq c.in_ok-places.places ≡ None = ap (repeated nat_eq) (sym c.as_slice-2.ensures) ∙ sym c.repeated_place.ensures ∙ c.in-None.is in
    distinct nat_eq c.in_ok-places.places once

pub returns-in_ok-twice_at-in-Some-clause-refused : goal.returns-in_ok-twice_at-in-Some-clause-refused
returns-in_ok-twice_at-in-Some-clause-refused c =
    let places : all_of (place_of c.args.columns.now) c.args.key.now.columns ≡ Some c.in_ok-places.places =
    ap (all_of (place_of c.args.columns.now)) (sym c.as_slice.ensures) ∙ c.in_ok-places.ensures.places in
    let twice : repeated nat_eq c.in_ok-places.places ≡ Some c.in-Some.at = ap (repeated nat_eq) (sym c.as_slice-2.ensures) ∙ sym c.repeated_place.ensures ∙ c.in-Some.is in
    key_twice c.in_ok-places.places c.in-Some.at places twice c.in_ok-twice_at-in-Some.ensures

pub returns-in_ok-optional_at-in-Some-optional_place-clause-refused : goal.returns-in_ok-optional_at-in-Some-optional_place-clause-refused
returns-in_ok-optional_at-in-Some-optional_place-clause-refused c =
    let places : all_of (place_of c.args.columns.now) c.args.key.now.columns ≡ Some c.in_ok-places.places =
    ap (all_of (place_of c.args.columns.now)) (sym c.as_slice.ensures) ∙ c.in_ok-places.ensures.places in
    let once : repeated nat_eq c.in_ok-places.places ≡ None = ap (repeated nat_eq) (sym c.as_slice-2.ensures) ∙ sym c.repeated_place.ensures ∙ c.in-None.is in
    key_optional c.in_ok-places.places c.in-Some-optional_place.at places once
    (subst (λ z. Contains z c.in-Some-optional_place.at) c.as_slice-in-None.ensures c.in-Some-optional_place.ensures.0) c.in-Some-optional_place.ensures.1
    c.in_ok-optional_at-in-Some-optional_place.ensures

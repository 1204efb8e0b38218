-- What the values of single fields make of a head.
use Rattle.std.proofs.Common.{◌≡◌, ℕ, ◌+◌, ◌*◌, ◌-◌, ◌<◌, ◌≤◌, nat_lt, ◌==◌, ◌&&◌, ◌||◌, Bool, true, false, min, List, [], ◌∷◌, length, take, get_or, Some, None, refl, sym, ap, ◌∙◌, arith}
use Rattle.std.specs.List.{list_all}
use Rattle.std.specs.Char.{is_ascii_digit, digit_value}
use Rattle.std.specs.Str.Parse.{digits_value}
use Rattle.std.proofs.lemmas.List.Sums.{AllPass-from_list_all}
use Rattle.std.proofs.lemmas.Int.Digits.{digits_value_more}
use Rattle.std.proofs.lemmas.Str.{digit_value_digit}
use Rattle.std.proofs.lemmas.Bool.Decides.{nat_tests}
use Rattle.ur_http.specs.Fields.{values_of, is_number}
use Rattle.ur_http.specs.Requests.{lacks_host, is_coded, length_in, length_fault}
use Rattle.std.specs.Prelude.{codes}

module _ (fields : List (List ℕ × List ℕ)) where
  pub host_missing : (minor : ℕ) → values_of (codes "host") fields ≡ [] → lacks_host minor fields ≡ (minor == 1)
  unfolding lacks_host
  host_missing minor e = rw e (or_false (minor == 1)) where
    or_false : (v : Bool) → (v || false) ≡ v
    or_false true = refl
    or_false false = refl

  pub host_one : (minor : ℕ) (v : List ℕ) → values_of (codes "host") fields ≡ v ∷ [] → lacks_host minor fields ≡ false
  unfolding lacks_host
  host_one minor v e = rw e refl

  pub host_several : (minor : ℕ) (a b : List ℕ) (more : List (List ℕ)) → values_of (codes "host") fields ≡ a ∷ b ∷ more → lacks_host minor fields ≡ true
  unfolding lacks_host
  host_several minor a b more e = rw e (grind (arith, nat_tests))

  pub coded_missing : values_of (codes "transfer-encoding") fields ≡ [] → is_coded fields ≡ false
  unfolding is_coded
  coded_missing e = rw e refl

  pub coded_some : (a : List ℕ) (more : List (List ℕ)) → values_of (codes "transfer-encoding") fields ≡ a ∷ more → is_coded fields ≡ true
  unfolding is_coded
  coded_some a more e = rw e (grind (arith, nat_tests))

  pub length_missing : values_of (codes "content-length") fields ≡ [] → length_in fields ≡ Some 0
  unfolding length_in
  length_missing e = rw e refl

  pub length_number : (digits : List ℕ) → values_of (codes "content-length") fields ≡ digits ∷ [] → is_number digits ≡ true → length_in fields ≡ Some (digits_value 10 digits)
  unfolding length_in
  length_number digits e is = rw (e, is) refl

  pub length_other : (digits : List ℕ) → values_of (codes "content-length") fields ≡ digits ∷ [] → is_number digits ≡ false → length_in fields ≡ None
  unfolding length_in
  length_other digits e is = rw (e, is) refl

  pub length_several : (a b : List ℕ) (more : List (List ℕ)) → values_of (codes "content-length") fields ≡ a ∷ b ∷ more → length_in fields ≡ None
  unfolding length_in
  length_several a b more e = rw e refl

-- ---- numbers

second : (a b : Bool) → (a && b) ≡ true → b ≡ true
second true b e = e
second false b e = absurd (cc)

pub digit_at : (digits : List ℕ) (i : ℕ) → is_number digits ≡ true → i < length digits → is_ascii_digit (get_or digits i 0) ≡ true
digit_at digits i is within = AllPass-from_list_all is_ascii_digit digits (second (nat_lt 0 (length digits)) (list_all is_ascii_digit digits) is) i 0 within

pub digit_range : (digit : ℕ) → is_ascii_digit digit ≡ true → (48 ≤ digit) × (digit ≤ 57)
digit_range digit e = (grind (arith, nat_tests), grind (arith, nat_tests))

-- one digit more, over numbers that stop at a bound
pub bounded_step : (b v e : ℕ) → min (min v b * 10 + e) b ≡ min (v * 10 + e) b
bounded_step b v e = omega arith

pub value_step : (digits : List ℕ) (i value next : ℕ) → is_number digits ≡ true → i < length digits → value ≡ min (digits_value 10 (take i digits)) 1048577
    → next ≡ min (value * 10 + (get_or digits i 0 - 48)) 1048577 → next ≡ min (digits_value 10 (take (i + 1) digits)) 1048577
value_step digits i value next is within so_far step =
    let range = digit_range (get_or digits i 0) (digit_at digits i is within) in
    let digit : digit_value (get_or digits i 0) ≡ get_or digits i 0 - 48 = let d = digit_value_digit (get_or digits i 0) range in omega arith in
    step ∙ ap (λ v. min (v * 10 + (get_or digits i 0 - 48)) 1048577) so_far ∙ bounded_step 1048577 (digits_value 10 (take i digits)) (get_or digits i 0 - 48)
    ∙ sym (ap (λ n. min n 1048577) (digits_value_more 10 digits i within ∙ ap (λ d. digits_value 10 (take i digits) * 10 + d) digit))

pub small_number : (n d : ℕ) → n ≡ min d 1048577 → n ≤ 1048576 → d ≡ n
small_number n d is small = omega arith

pub great_number : (n d : ℕ) → n ≡ min d 1048577 → 1048576 < n → length_fault (Some d) ≡ Some 413
great_number n d is great = let above : nat_lt 1048576 d ≡ true = grind (arith, nat_tests) in rw above refl

-- The path of a target, case by case.
use Rattle.std.proofs.Common.{◌≡◌, ◌≢◌, ℕ, ◌<◌, nat_lt, ◌==◌, Bool, true, false, List, [], ◌∷◌, length, take, drop, Option, Some, None, refl, sym, ap, ◌∙◌, arith, cond, codes, MatchOption, Bor}
use Rattle.std.specs.List.{position_or_len}
use Rattle.std.specs.Str.{bytes_eq}
use Rattle.std.proofs.lemmas.Bool.Decides.{nat_tests}
use Rattle.ur_http.specs.Fields.{path_after_authority, after_front, absolute_path, absolute_in, path_in, begins_with_slash}

abbrev pub is_slash : ℕ → Bool
is_slash b = b == 47

abbrev pub path_at : List ℕ → ℕ → Option (List ℕ)
path_at bytes n = cond (n == 0) None (cond (nat_lt n (length bytes)) (Some (drop n bytes)) (Some (47 ∷ [])))

at_place : (bytes : List ℕ) (n : ℕ) → position_or_len is_slash bytes ≡ n → path_after_authority bytes ≡ path_at bytes n
unfolding path_after_authority
at_place bytes n is = ap (path_at bytes) is

pub no_authority : (bytes : List ℕ) → position_or_len is_slash bytes ≡ 0 → path_after_authority bytes ≡ None
no_authority bytes is = at_place bytes 0 is

pub slash_at : (bytes : List ℕ) (n : ℕ) → position_or_len is_slash bytes ≡ n → n ≢ 0 → n < length bytes → path_after_authority bytes ≡ Some (drop n bytes)
slash_at bytes n is some within = at_place bytes n is ∙ (let a : (n == 0) ≡ false = grind (arith, nat_tests) in let b : nat_lt n (length bytes) ≡ true = grind (arith, nat_tests) in rw (a, b) refl)

pub no_slash : (bytes : List ℕ) → position_or_len is_slash bytes ≡ length bytes → length bytes ≢ 0 → path_after_authority bytes ≡ Some (47 ∷ [])
no_slash bytes is some = at_place bytes (length bytes) is
    ∙ (let a : (length bytes == 0) ≡ false = grind (arith, nat_tests) in let b : nat_lt (length bytes) (length bytes) ≡ false = grind (arith, nat_tests) in rw (a, b) refl)

pub front_yes : (front bytes : List ℕ) → bytes_eq (take (length front) bytes) front ≡ true → after_front front bytes ≡ Some (drop (length front) bytes)
front_yes front bytes e = rw e refl

pub front_no : (front bytes : List ℕ) → bytes_eq (take (length front) bytes) front ≡ false → after_front front bytes ≡ None
front_no front bytes e = rw e refl

-- the absolute target, where one of the fronts fits
pub by_http : (bytes rest : List ℕ) → bytes_eq (take 7 bytes) (codes "http://") ≡ true → rest ≡ drop 7 bytes → absolute_in bytes ≡ path_after_authority rest
unfolding absolute_in
by_http bytes rest e is = ap (λ o. absolute_path o (after_front (codes "https://") bytes)) (front_yes (codes "http://") bytes e) ∙ ap path_after_authority (sym is)

pub by_https : (bytes rest : List ℕ) → bytes_eq (take 7 bytes) (codes "http://") ≡ false → bytes_eq (take 8 bytes) (codes "https://") ≡ true
    → rest ≡ drop 8 bytes → absolute_in bytes ≡ path_after_authority rest
unfolding absolute_in
by_https bytes rest e f is =
    ap (λ o. absolute_path o (after_front (codes "https://") bytes)) (front_no (codes "http://") bytes e)
    ∙ ap (absolute_path None) (front_yes (codes "https://") bytes f) ∙ ap path_after_authority (sym is)

pub by_neither : (bytes : List ℕ) → bytes_eq (take 7 bytes) (codes "http://") ≡ false → bytes_eq (take 8 bytes) (codes "https://") ≡ false → absolute_in bytes ≡ None
unfolding absolute_in
by_neither bytes e f =
    ap (λ o. absolute_path o (after_front (codes "https://") bytes)) (front_no (codes "http://") bytes e)
    ∙ ap (absolute_path None) (front_no (codes "https://") bytes f)

-- a path that is found is the path of what equals it
abbrev pub IsPath : Option (Bor (List ℕ)) → Option (List ℕ) → Type 0
IsPath found o = MatchOption found (o ≡ None) (λ path. o ≡ Some path.now)

pub path_along : (found : Option (Bor (List ℕ))) (o p : Option (List ℕ)) → p ≡ o → IsPath found o → IsPath found p
path_along None o p e is = e ∙ is
path_along (Some path) o p e is = e ∙ is

pub with_slash : (bytes : List ℕ) → begins_with_slash bytes ≡ true → path_in bytes ≡ Some bytes
unfolding path_in
with_slash bytes e = rw e refl

pub without_slash : (bytes : List ℕ) → begins_with_slash bytes ≡ false → path_in bytes ≡ absolute_in bytes
unfolding path_in
without_slash bytes e = rw e refl

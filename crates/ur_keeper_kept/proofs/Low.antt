-- Bodies whose numbers are below 2^63.
use Rattle.std.proofs.Common.{◌≡◌, ℕ, ◌≤◌, ◌<◌, ℤ, pos, ◌<ℤ◌, Bool, true, false, cond, ◌||◌, ◌==◌, List, [], ◌∷◌, length, All, Option, Some, None, is_some, refl, ap, sym, subst, subst₂, ◌∙◌, arith}
use Rattle.std.specs.Prelude.{IsTrue}
use Rattle.std.specs.declared.cmp.Ordering.{Ordering}
use Rattle.std.specs.declared.cmp.Ordering.TheVariants.{Less, Equal, Greater}
use Rattle.std.specs.Ordering.{int_cmp, is_eq, eq_by_cmp}
use Rattle.std.specs.FinMap.{insert, remove, find, get-insert, get-remove}
use Rattle.std.proofs.lemmas.Int.{ints}
use Rattle.std.proofs.lemmas.Bool.{false≢true}
use Rattle.std.proofs.lemmas.Bool.Decides.{nat_tests}
use Rattle.std.proofs.lemmas.List.Elements.{All-head, All-tail}
use Rattle.ur_values.specs.declared.schema.Schema.{Schema}
use Rattle.ur_values.specs.declared.schema.Numbered.{Numbered}
use Rattle.ur_values.specs.Numbered.{has_number}
use Rattle.ur_keeper_bodies.specs.Bodies.{Place, BodyMap, body_at, bodies_of, place_cmp}
use Rattle.ur_keeper_bodies.proofs.Places.{place_total, place_same}
use Rattle.ur_keeper_bodies.proofs.Tables.{bodies-find}
use Rattle.ur_keeper_kept.specs.Laid.{table_tab}
use Rattle.ur_keeper_kept.specs.Kept.{AreLow}

-- ---- numbers

equal-is : (r : Ordering) → is_eq r ≡ true → r ≡ Equal
equal-is Less e = absurd (false≢true e)
equal-is Equal e = refl
equal-is Greater e = absurd (false≢true e)

pub as-number : (z : ℤ) (k : ℕ) → z ≡ pos k → z <ℤ pos 9223372036854775808 → k < 9223372036854775808
as-number z k e l = omega (arith, ints, e, l)

-- rows whose numbers are at most 2^62
pub has-low : (rows : List Numbered) (n : ℕ) → All (λ r. r.number ≤ 4611686018427387904) rows → has_number rows n ≡ true → n < 9223372036854775808
has-low [] n all h = absurd (false≢true h)
has-low (r ∷ rows) n all h = either (r.number == n) refl (has-low rows n (All-tail (λ (r : Numbered). r.number ≤ 4611686018427387904) r rows all)) h
  where
    same : (a n : ℕ) → (a == n) ≡ true → a ≤ 4611686018427387904 → n ≤ 4611686018427387904
    same a n e l = grind (arith, nat_tests)

    either : (b : Bool) → (r.number == n) ≡ b → (has_number rows n ≡ true → n < 9223372036854775808) → (b || has_number rows n) ≡ true → n < 9223372036854775808
    either true e rest t = omega (arith, same r.number n e (All-head (λ (r : Numbered). r.number ≤ 4611686018427387904) r rows all))
    either false e rest t = rest t

-- ---- bodies

-- where this place is one of a table, its number is below 2^63
abbrev pub IsLowPlace : Schema → ℤ → ℤ → Type 0
IsLowPlace s tab z = (i n : ℕ) → i < length s.tables → tab ≡ table_tab i → z ≡ pos n → n < 9223372036854775808

pub low-place : (s : Schema) (tab z : ℤ) → z <ℤ pos 9223372036854775808 → IsLowPlace s tab z
low-place s tab z less i n l et en = as-number z n en less

pub low-there : (s : Schema) (m : BodyMap) (tab z : ℤ) → AreLow s m → IsTrue (is_some (body_at m tab z)) → IsLowPlace s tab z
low-there s m tab z low there i n l et en = low i n l (subst₂ (λ (t k : ℤ). IsTrue (is_some (body_at m t k))) et en there)

pub low-other : (s : Schema) (z : ℤ) → IsLowPlace s (pos 1) z
low-other s z i n l et en = absurd (omega (arith, ints, et))

place-is : (a b : Place) → eq_by_cmp place_cmp a b ≡ true → b ≡ a
place-is a b e = sym (place_same a b (equal-is (place_cmp a b) e))

pub low-put : (s : Schema) (m : BodyMap) (tab z : ℤ) (v : List ℕ) → IsLowPlace s tab z → AreLow s m → AreLow s (insert m (tab, z) v)
low-put s m tab z v h low i n l there =
    either (eq_by_cmp place_cmp (table_tab i, pos n) (tab, z)) refl (subst (λ (o : Option (List ℕ)). IsTrue (is_some o)) (get-insert place_total m (tab, z) v (table_tab i, pos n)) there)
  where
    either : (b : Bool) → eq_by_cmp place_cmp (table_tab i, pos n) (tab, z) ≡ b → IsTrue (is_some (cond b (Some v) (body_at m (table_tab i) (pos n))))
        → n < 9223372036854775808
    either true e t =
        let same : (tab, z) ≡ (table_tab i, pos n) = place-is (table_tab i, pos n) (tab, z) e in
        h i n l (ap (λ (p : Place). p.0) same) (ap (λ (p : Place). p.1) same)
    either false e t = low i n l t

pub low-taken : (s : Schema) (m : BodyMap) (tab z : ℤ) → AreLow s m → AreLow s (remove m (tab, z))
low-taken s m tab z low i n l there =
    either (eq_by_cmp place_cmp (table_tab i, pos n) (tab, z)) (subst (λ (o : Option (List ℕ)). IsTrue (is_some o)) (get-remove place_total m (tab, z) (table_tab i, pos n)) there)
  where
    either : (b : Bool) → IsTrue (is_some (cond b None (body_at m (table_tab i) (pos n)))) → n < 9223372036854775808
    either true t = absurd (false≢true t)
    either false t = low i n l t

-- no bodies
pub none-low : (s : Schema) (m : BodyMap) → ((i : ℕ) → i < length s.tables → bodies_of m (table_tab i) ≡ []) → AreLow s m
none-low s m none i n l there =
    let gone : body_at m (table_tab i) (pos n) ≡ None = sym (bodies-find m (table_tab i) (pos n)) ∙ ap (find int_cmp (pos n)) (none i l) in
    absurd (false≢true (sym (ap is_some gone) ∙ there))

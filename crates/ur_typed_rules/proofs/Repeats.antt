-- The first name that stands twice.
use Rattle.std.proofs.Common.{◌≡◌, refl, ap, sym, subst, inl, inr, ℕ, Bool, true, false, true≢false, List, [], ◌∷◌, Option, Some, None}
use Rattle.std.specs.Prelude.{◌||◌, if◌then◌else◌}
use Rattle.std.specs.List.{list_any}
use Rattle.std.proofs.lemmas.Slice.Eq.{bytes_eq-Decides}
use Rattle.ur_syntax.specs.declared.con.Con.{Con}
use Rattle.ur_disjoint.proofs.Members.{In, contains-in}
use Rattle.ur_typed_rules.specs.Names.{is_named}
use Rattle.ur_typed_rules.specs.Repeats.{IsTwiceIn, here_twice, further_twice, rows_written, RepeatsName, repeats, or_else, twice_of, first_twice, first_repeated}

-- ---- cases

pub by-or : (a b : Bool) (T : Type 0) → (a || b) ≡ true → (a ≡ true → T) → (b ≡ true → T) → T
by-or true b T h f g = f refl
by-or false b T h f g = g h

pub by-either : {A : Type 0} (x y : Option A) (a : A) (T : Type 0) → or_else x y ≡ Some a → (x ≡ Some a → T) → (y ≡ Some a → T) → T
by-either None y a T h f g = g h
by-either (Some b) y a T h f g = f h

pub by-if : {A : Type 0} (b : Bool) (x y z : Option A) (T : Type 0) → (if b then x else y) ≡ z → (b ≡ true → x ≡ z → T) → (b ≡ false → y ≡ z → T) → T
by-if true x y z T h f g = f refl h
by-if false x y z T h f g = g refl h

-- ---- names

named-is : (x : List ℕ) (y : Option (List ℕ)) → is_named x y ≡ true → y ≡ Some x
named-is x None h = absurd (true≢false (sym h))
named-is x (Some y) h = ap Some (sym ((bytes_eq-Decides x y).0 h))

in-any : (x : List ℕ) (names : List (Option (List ℕ))) → list_any (is_named x) names ≡ true → In (Some x) names
in-any x [] h = absurd (true≢false (sym h))
in-any x (y ∷ names) h = by-or (is_named x y) (list_any (is_named x) names) (In (Some x) (y ∷ names)) h (λ e. inl (named-is x y e)) (λ e. inr (in-any x names e))

twice-if : (x y : List ℕ) (names : List (Option (List ℕ))) (b : Bool) (r : Option (List ℕ)) → b ≡ list_any (is_named x) names → (if b then Some x else r) ≡ Some y → (r ≡ Some y → IsTwiceIn y names) → IsTwiceIn y (Some x ∷ names)
twice-if x y names false r e h k = further_twice (k h)
twice-if x y names true r e h k = subst (λ z. IsTwiceIn z (Some x ∷ names)) (the_one x y h) (here_twice (contains-in (Some x) names (in-any x names (sym e))))
  where
    the_one : (a b : List ℕ) → Some a ≡ Some b → a ≡ b
    the_one a b h = cc

pub twice-stands : (names : List (Option (List ℕ))) (x : List ℕ) → twice_of names ≡ Some x → IsTwiceIn x names
twice-stands [] x h = absurd (cc)
twice-stands (None ∷ names) x h = further_twice (twice-stands names x h)
twice-stands (Some y ∷ names) x h = twice-if y x names (list_any (is_named y) names) (twice_of names) refl h (twice-stands names x)

first-stands : (rows : List (List (Option (List ℕ)))) (x : List ℕ) → first_twice rows ≡ Some x → (r : List (Option (List ℕ))) × In r rows × IsTwiceIn x r
first-stands [] x h = absurd (cc)
first-stands (names ∷ rows) x h = by-either (twice_of names) (first_twice rows) x ((r : List (Option (List ℕ))) × In r (names ∷ rows) × IsTwiceIn x r) h
    (λ k. (names, inl refl, twice-stands names x k)) (λ k. let y = first-stands rows x k in (y.0, inr y.1, y.2))

pub repeats-name : (c : Con) (x : List ℕ) → first_repeated c.form ≡ Some x → RepeatsName c x
repeats-name c x h = let y = first-stands (rows_written c.form) x h in repeats (contains-in y.0 (rows_written c.form) y.1) y.2

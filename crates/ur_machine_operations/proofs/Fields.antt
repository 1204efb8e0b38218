-- Fields of records, and cookies, by their places.
use Rattle.std.proofs.Common.{◌≡◌, ℕ, zero, suc, ◌+◌, ◌<◌, ◌≤◌, ◌==◌, Bool, true, false, not, cond, nat_lt, List, [], ◌∷◌, ◌++◌, length, drop, Option, Some, None, refl, sym, ap, ◌∙◌, ◌≢◌, arith, length-append, drop_of_length-le}
use Rattle.std.proofs.lemmas.List.{append-nil}
use Rattle.std.proofs.Math.Seq.{append_snoc}
use Rattle.ur_machine_frames.proofs.Forms.{drop_at}
use Rattle.std.specs.Prelude.{Result, Ok, Err, IfOk, OnOk, insert, position, slice_get, slice_set, option_map}
use Rattle.std.specs.List.{position_or_len}
use Rattle.std.proofs.lemmas.Bool.Decides.{nat_tests}
use Rattle.std.proofs.lemmas.List.Folds.{find_at}
use Rattle.std.proofs.lemmas.List.Sums.{prefix_len-le-length}
use Rattle.std.proofs.lemmas.Option.{slice_get_past}
use Rattle.ur_base.specs.declared.names.Name.{Name}
use Rattle.ur_values.specs.declared.value.Value.{Value}
use Rattle.ur_terms.specs.State.{with_cookie}
use Rattle.ur_terms.specs.Values.{with_field, field_at, fields_of, fields_together}

one_more : {A : Type 0} (f g : A) (gs more : List A) (n : ℕ) (b : Bool) → insert gs n f ≡ more → insert (g ∷ gs) (cond (not b) (1 + n) 0) f ≡ cond b (f ∷ g ∷ gs) (g ∷ more)
one_more f g gs more n true e = refl
one_more f g gs more n false e =
    let next : 1 + n ≡ suc n = omega arith in
    ap (λ k. insert (g ∷ gs) k f) next ∙ ap (λ l. g ∷ l) e

-- a field goes before the first with a greater name
pub placed : (f : Name × Value) (gs : List (Name × Value)) → insert gs (position_or_len (λ g. nat_lt f.0.0 g.0.0) gs) f ≡ with_field f gs
placed f [] = refl
placed f (g ∷ gs) = one_more f g gs (with_field f gs) (position_or_len (λ g. nat_lt f.0.0 g.0.0) gs) (nat_lt f.0.0 g.0.0) (placed f gs)

pub place_within : {A : Type 0} (test : A → Bool) (xs : List A) → position_or_len test xs ≤ length xs
place_within test xs = prefix_len-le-length (λ x. not (test x)) xs

pub place_found : (n end : ℕ) (i : ℕ) → cond (nat_lt n end) (Some n) None ≡ Some i → (n ≡ i) × (i < end)
place_found n end i e = grind (arith, nat_tests)

no_place : (n end : ℕ) → cond (nat_lt n end) (Some n) None ≡ None → end ≤ n
no_place n end e = grind (arith, nat_tests)

-- where a field goes
pub goes_at : {A : Type 0} (test : A → Bool) (xs : List A) (i : ℕ) → position test xs ≡ Some i → i ≡ position_or_len test xs
goes_at test xs i e = sym (place_found _ _ _ e).0

pub goes_last : {A : Type 0} (test : A → Bool) (xs : List A) → position test xs ≡ None → length xs ≡ position_or_len test xs
goes_last test xs e =
    let past : length xs ≤ position_or_len test xs = no_place _ _ e in
    let within : position_or_len test xs ≤ length xs = place_within test xs in
    omega arith

pub is_within : {A : Type 0} (test : A → Bool) (xs : List A) (i : ℕ) → position test xs ≡ Some i → i < length xs
is_within test xs i e = (place_found _ _ _ e).1

pub at_front : {A : Type 0} (xs : List A) (x : A) → insert xs 0 x ≡ x ∷ xs
at_front [] x = refl
at_front (y ∷ ys) x = refl

pub ok_as : {A E : Type 0} (res : Result A E) (x y : A) → x ≡ y → IfOk res (λ z. z ≡ x) → IfOk res (λ z. z ≡ y)
ok_as (Ok z) x y e h = h ∙ e
ok_as (Err _) x y e h = tt

pub set_as : {A E : Type 0} (res : Result (Unit {0}) E) (x y z : A) → y ≡ z → OnOk res (x ≡ y) → OnOk res (x ≡ z)
set_as (Ok _) x y z e h = h ∙ e
set_as (Err _) x y z e h = tt

pub shown_as : {A E : Type 0} (res : Result A E) (o : Option A) (t : A) → o ≡ Some t → IfOk res (λ z. z ≡ t) → IfOk res (λ z. o ≡ Some z)
shown_as (Ok z) o t e h = e ∙ ap Some (sym h)
shown_as (Err _) o t e h = tt

-- ---- one field

pub found_field : (name : Name) (fields : List (Name × Value)) (i : ℕ) (f : Name × Value) → position (λ g. g.0.0 == name.0) fields ≡ Some i → slice_get fields i ≡ Some f
    → field_at name fields ≡ Some f.1
found_field name fields i f e h =
    let at = place_found _ _ _ e in
    ap (option_map (λ g. g.1)) (find_at (λ g. g.0.0 == name.0) fields ∙ ap (slice_get fields) at.0 ∙ h)

pub no_field : (name : Name) (fields : List (Name × Value)) → position (λ g. g.0.0 == name.0) fields ≡ None → field_at name fields ≡ None
no_field name fields e =
    ap (option_map (λ g. g.1)) (find_at (λ g. g.0.0 == name.0) fields ∙ slice_get_past fields _ (no_place _ _ e))

-- ---- cookies

set_more : {A : Type 0} (y d : A) (ds more : List A) (n : ℕ) (b : Bool) → cond (not b) (1 + n) 0 < suc (length ds) → (n < length ds → slice_set ds n y ≡ more)
    → slice_set (d ∷ ds) (cond (not b) (1 + n) 0) y ≡ cond b (y ∷ ds) (d ∷ more)
set_more y d ds more n true h e = refl
set_more y d ds more n false h e =
    let next : 1 + n ≡ suc n = omega arith in
    ap (λ k. slice_set (d ∷ ds) k y) next ∙ ap (λ l. d ∷ l) (e (omega arith))

set_first : (c : ℕ) (x : Value) (ds : List (ℕ × Value)) → position_or_len (λ d. d.0 == c) ds < length ds
    → slice_set ds (position_or_len (λ d. d.0 == c) ds) (c, x) ≡ with_cookie c x ds
set_first c x [] h = absurd (omega arith)
set_first c x (d ∷ ds) h = set_more (c, x) d ds (with_cookie c x ds) (position_or_len (λ d. d.0 == c) ds) (d.0 == c) h (set_first c x ds)

-- a cookie that was set before is set anew in its place
pub cookie_again : (c : ℕ) (x : Value) (ds : List (ℕ × Value)) (i : ℕ) → position (λ d. d.0 == c) ds ≡ Some i → slice_set ds i (c, x) ≡ with_cookie c x ds
cookie_again c x ds i e =
    let at = place_found _ _ _ e in
    ap (λ k. slice_set ds k (c, x)) (sym at.0) ∙ set_first c x ds (omega arith)

add_more : {A : Type 0} (y d : A) (ds more : List A) (n : ℕ) (b : Bool) → suc (length ds) ≤ cond (not b) (1 + n) 0
    → (length ds ≤ n → ds ++ y ∷ [] ≡ more) → (d ∷ ds) ++ y ∷ [] ≡ cond b (y ∷ ds) (d ∷ more)
add_more y d ds more n true h e = absurd (omega arith)
add_more y d ds more n false h e = ap (λ l. d ∷ l) (e (omega arith))

add_last : (c : ℕ) (x : Value) (ds : List (ℕ × Value)) → length ds ≤ position_or_len (λ d. d.0 == c) ds → ds ++ (c, x) ∷ [] ≡ with_cookie c x ds
add_last c x [] h = refl
add_last c x (d ∷ ds) h = add_more (c, x) d ds (with_cookie c x ds) (position_or_len (λ d. d.0 == c) ds) (d.0 == c) h (add_last c x ds)

-- a new cookie is set last
pub cookie_new : (c : ℕ) (x : Value) (ds : List (ℕ × Value)) → position (λ d. d.0 == c) ds ≡ None → ds ++ (c, x) ∷ [] ≡ with_cookie c x ds
cookie_new c x ds e = add_last c x ds (no_place _ _ e)

-- ---- fields of two records

pub together_last : (fs : List (Name × Value)) (f : Name × Value) (gs : List (Name × Value)) → fields_together (fs ++ f ∷ []) gs ≡ fields_together fs (with_field f gs)
together_last [] f gs = refl
together_last (e ∷ fs) f gs = ap (with_field e) (together_last fs f gs)

-- ---- names with values

with_one : (names : List Name) (name : Name) (xs : List Value) (x : Value) (o : Option (List (Name × Value))) (fields : List (Name × Value)) → fields_of names xs ≡ o
    → ((gs : List (Name × Value)) → fields_of names xs ≡ Some gs → length names ≡ length xs) → option_map (with_field (name, x)) o ≡ Some fields → suc (length names) ≡ suc (length xs)
with_one names name xs x None fields e h k = cc
with_one names name xs x (Some gs) fields e h k = ap suc (h gs e)

-- there are as many names as values
pub as_many : (names : List Name) (xs : List Value) (fields : List (Name × Value)) → fields_of names xs ≡ Some fields → length names ≡ length xs
as_many [] [] fields e = refl
as_many [] (x ∷ xs) fields e = cc
as_many (name ∷ names) [] fields e = cc
as_many (name ∷ names) (x ∷ xs) fields e = with_one names name xs x (fields_of names xs) fields refl (as_many names xs) e

some_there : (o : Option (List (Name × Value))) → o ≢ None → (fields : List (Name × Value)) × (o ≡ Some fields)
some_there None h = absurd (h refl)
some_there (Some fields) h = (fields, refl)

pub as_many_there : (names : List Name) (xs : List Value) → fields_of names xs ≢ None → length names ≡ length xs
as_many_there names xs h = let fields = some_there (fields_of names xs) h in as_many names xs fields.0 fields.1

-- The values from behind are named: these are left, and the others make up these fields.
pub record AreNamed (names : List Name) (all left : List Value) (fields : List (Name × Value)) : Type 0 where
  pub rest : List Value
  pub parts : all ≡ left ++ rest
  pub named : fields_of (drop (length left) names) rest ≡ Some fields

pub none_named : (names : List Name) (all : List Value) → length names ≡ length all → AreNamed names all all []
none_named names all e = record {
  rest = [];
  parts = sym (append-nil all);
  named = ap (λ ns. fields_of ns []) (drop_of_length-le names (omega arith));
}

pub one_named : (names : List Name) (all left new : List Value) (x : Value) (name : Name) (fields : List (Name × Value)) → AreNamed names all left fields → left ≡ new ++ x ∷ []
    → slice_get names (length new) ≡ Some name → AreNamed names all new (with_field (name, x) fields)
one_named names all left new x name fields h e at =
    let longer : length left ≡ suc (length new) = ap length e ∙ omega (arith, length-append new (x ∷ [])) in
    record {
      rest = x ∷ h.rest;
      parts = h.parts ∙ ap (λ l. l ++ h.rest) e ∙ append_snoc new x h.rest;
      named = ap (λ ns. fields_of ns (x ∷ h.rest)) (drop_at (length new) names name at)
          ∙ ap (option_map (with_field (name, x))) (ap (λ k. fields_of (drop k names) h.rest) (sym longer) ∙ h.named);
    }

pub all_named : (names : List Name) (all left : List Value) (fields : List (Name × Value)) → AreNamed names all left fields → left ≡ [] → fields_of names all ≡ Some fields
all_named names all left fields h e =
    ap (fields_of names) (h.parts ∙ ap (λ l. l ++ h.rest) e) ∙ ap (λ l. fields_of (drop (length l) names) h.rest) (sym e) ∙ h.named

none_past : {A : Type 0} (xs : List A) (n : ℕ) → None ≡ slice_get xs n → length xs ≤ n
none_past [] n e = omega arith
none_past (x ∷ xs) zero e = cc
none_past (x ∷ xs) (suc n) e = let past : length xs ≤ n = none_past xs n e in omega arith

pub name_there : (names : List Name) (all left new : List Value) (x : Value) (fields : List (Name × Value)) → AreNamed names all left fields → length names ≡ length all
    → left ≡ new ++ x ∷ [] → None ≡ slice_get names (length new) → ⊥
name_there names all left new x fields h e f none =
    let past : length names ≤ length new = none_past names (length new) none in
    let longer : length left ≡ suc (length new) = ap length f ∙ omega (arith, length-append new (x ∷ [])) in
    let whole : length all ≡ length left + length h.rest = ap length h.parts ∙ length-append left h.rest in
    omega arith

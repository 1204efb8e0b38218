-- Lists of lines: where the first that fails a test stands, and lists without one that stands twice.
use Rattle.std.proofs.Common.{◌≡◌, ◌∙◌, ℕ, Bool, true, false, not, ◌&&◌, ◌||◌, List, [], ◌∷◌, ◌++◌, refl, ap, sym, bytes_eq}
use Rattle.std.specs.List.{list_all}
use Rattle.std.proofs.lemmas.List.Folds.{list_any-append}
use Rattle.std.proofs.lemmas.Slice.Eq.{bytes_eq-Decides}
use Rattle.ur_load.specs.Words.{is_one_of, are_distinct}

pub apart : {A : Type 0} → true ≡ false → A
apart e = let h : ◌≡◌ {A = Bool} true false = e in absurd (cc)

pub and_true : (a b : Bool) → a && b ≡ true → (a ≡ true) × (b ≡ true)
and_true true b h = (refl, h)
and_true false b h = apart (sym h)

pub both_true : (a b : Bool) → a ≡ true → b ≡ true → a && b ≡ true
both_true true b g h = h
both_true false b g h = apart (sym g)

pub or_false : (a b : Bool) → a || b ≡ false → (a ≡ false) × (b ≡ false)
or_false true b h = apart h
or_false false b h = (refl, h)

pub neither : (a b : Bool) → a ≡ false → b ≡ false → a || b ≡ false
neither true b g h = apart g
neither false b g h = h

pub not_true : (a : Bool) → not a ≡ true → a ≡ false
not_true true h = apart (sym h)
not_true false h = refl

-- ---- the first that fails

pub record SameCut {A : Type 0} (xs ys : List A) (a b : A) (us vs : List A) : Type 0 where
  pub before : xs ≡ ys
  pub at' : a ≡ b
  pub behind : us ≡ vs

more_same : {A : Type 0} (x y : A) {xs ys us vs : List A} {a b : A} → x ≡ y → SameCut xs ys a b us vs → SameCut (x ∷ xs) (y ∷ ys) a b us vs
more_same x y e s = record { before = let h = s.before in cc; at' = s.at'; behind = s.behind }

-- a list is cut in one way at the first element that fails a test
pub first_failing : {A : Type 0} (p : A → Bool) (xs ys : List A) {a b : A} {us vs : List A} → list_all p xs ≡ true → list_all p ys ≡ true
    → p a ≡ false → p b ≡ false → xs ++ a ∷ us ≡ ys ++ b ∷ vs → SameCut xs ys a b us vs
first_failing p [] [] f g h k e = record { before = refl; at' = cc; behind = cc }
first_failing p [] (y ∷ ys) {a = a} f g h k e = let t = and_true (p y) (list_all p ys) g in let same : a ≡ y = cc in
    apart (sym t.0 ∙ ap p (sym same) ∙ h)
first_failing p (x ∷ xs) [] {b = b} f g h k e = let t = and_true (p x) (list_all p xs) f in let same : x ≡ b = cc in
    apart (sym t.0 ∙ ap p same ∙ k)
first_failing p (x ∷ xs) (y ∷ ys) {a = a} {b = b} {us = us} {vs = vs} f g h k e =
    let rest : xs ++ a ∷ us ≡ ys ++ b ∷ vs = cc in let same : x ≡ y = cc in
    more_same x y same (first_failing p xs ys (and_true (p x) (list_all p xs) f).1 (and_true (p y) (list_all p ys) g).1 h k rest)

-- where all pass, none fails
pub none_fails : {A : Type 0} (p : A → Bool) (xs : List A) {a : A} (us : List A) → list_all p (xs ++ a ∷ us) ≡ true → p a ≡ true
none_fails p [] {a = a} us h = (and_true (p a) (list_all p us) h).0
none_fails p (x ∷ xs) {a = a} us h = none_fails p xs us (and_true (p x) (list_all p (xs ++ a ∷ us)) h).1

pub all_more : {A : Type 0} (p : A → Bool) (xs : List A) (x : A) → list_all p xs ≡ true → p x ≡ true → list_all p (xs ++ x ∷ []) ≡ true
all_more p [] x f h = both_true (p x) true h refl
all_more p (y ∷ ys) x f h = let t = and_true (p y) (list_all p ys) f in both_true (p y) (list_all p (ys ++ x ∷ [])) t.0 (all_more p ys x t.1 h)

-- ---- two cuts of one list

-- of two cuts of a list one is before the other, or they are the same
pub data Cuts {A : Type 0} (xs ys : List A) (a b : A) : Type 0 where
  same : xs ≡ ys → a ≡ b → Cuts xs ys a b
  earlier : (more : List A) → ys ≡ xs ++ a ∷ more → Cuts xs ys a b
  later : (more : List A) → xs ≡ ys ++ b ∷ more → Cuts xs ys a b

more_cut : {A : Type 0} (x y : A) {xs ys : List A} {a b : A} → x ≡ y → Cuts xs ys a b → Cuts (x ∷ xs) (y ∷ ys) a b
more_cut x y e (Cuts.same g h) = Cuts.same (cc) h
more_cut x y e (Cuts.earlier more h) = Cuts.earlier more cc
more_cut x y e (Cuts.later more h) = Cuts.later more cc

pub two_cuts : {A : Type 0} (xs ys : List A) {a b : A} (us vs : List A) → xs ++ a ∷ us ≡ ys ++ b ∷ vs → Cuts xs ys a b
two_cuts [] [] us vs e = Cuts.same refl (cc)
two_cuts [] (y ∷ ys) us vs e = Cuts.earlier ys cc
two_cuts (x ∷ xs) [] us vs e = Cuts.later xs cc
two_cuts (x ∷ xs) (y ∷ ys) {a = a} {b = b} us vs e =
    let rest : xs ++ a ∷ us ≡ ys ++ b ∷ vs = cc in let h : x ≡ y = cc in more_cut x y h (two_cuts xs ys us vs rest)

-- ---- lists in which none stands twice

turned : (a b : List ℕ) → bytes_eq a b ≡ false → bytes_eq b a ≡ false
turned a b h = by (bytes_eq b a) refl where
  by : (t : Bool) → bytes_eq b a ≡ t → t ≡ false
  by false e = refl
  by true e = apart (sym ((bytes_eq-Decides a b).1 (sym ((bytes_eq-Decides b a).0 e))) ∙ h)

-- the words behind a word are others
pub other_words : (xs us : List (List ℕ)) (a : List ℕ) → are_distinct (xs ++ a ∷ us) ≡ true → is_one_of xs a ≡ false
other_words [] us a h = refl
other_words (x ∷ xs) us a h = let t = and_true (not (is_one_of (xs ++ a ∷ us) x)) (are_distinct (xs ++ a ∷ us)) h in
    let none = sym (list_any-append (bytes_eq x) xs (a ∷ us)) ∙ not_true (is_one_of (xs ++ a ∷ us) x) t.0 in
    let at' = (or_false (bytes_eq x a) (is_one_of us x) (or_false (is_one_of xs x) (is_one_of (a ∷ us) x) none).1).0 in
    neither (bytes_eq a x) (is_one_of xs a) (turned x a at') (other_words xs us a t.1)

pub distinct_more : (xs : List (List ℕ)) (a : List ℕ) → are_distinct xs ≡ true → is_one_of xs a ≡ false → are_distinct (xs ++ a ∷ []) ≡ true
distinct_more [] a d h = refl
distinct_more (x ∷ xs) a d h = let t = and_true (not (is_one_of xs x)) (are_distinct xs) d in let n = or_false (bytes_eq a x) (is_one_of xs a) h in
    let none : is_one_of (xs ++ a ∷ []) x ≡ false = list_any-append (bytes_eq x) xs (a ∷ []) ∙ neither (is_one_of xs x) (is_one_of (a ∷ []) x) (not_true (is_one_of xs x) t.0) (neither (bytes_eq x a) false (turned a x n.0) refl) in
    both_true (not (is_one_of (xs ++ a ∷ []) x)) (are_distinct (xs ++ a ∷ [])) (ap not none) (distinct_more xs a t.1 n.1)

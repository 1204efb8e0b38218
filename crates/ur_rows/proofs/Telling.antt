-- What comparisons of the parts tell of the whole.
use Rattle.std.proofs.Common.{◌≡◌, refl, ap, sym, ◌∙◌, subst, subst₂, ℕ, zero, suc, ◌+◌, ◌<◌, ◌≤◌, Bool, true, false, not, List, [], ◌∷◌, length, drop, get_or, Ordering, Less, Equal, Greater, nat_cmp, is_eq, is_le, arith, true≢false, drop-cons, add-one, drop_of_length-le, ◌==◌, nat_lt}
use Rattle.std.specs.Ordering.{ordering_then}
use Rattle.std.specs.Cmp.Lexicographic.{slice_cmp}
use Rattle.std.proofs.lemmas.Bool.Decides.{nat_tests}
use Rattle.std.proofs.lemmas.Cmp.{same_from_slice_cmp}
use Rattle.ur_rows.specs.declared.normal.Var.{Var}
use Rattle.ur_rows.specs.declared.normal.Var.TheVariants as var
use Rattle.ur_rows.specs.declared.normal.Label.{Label}
use Rattle.ur_rows.specs.declared.normal.Label.TheVariants as label
use Rattle.ur_rows.specs.declared.normal.NormalType.{NormalType}
use Rattle.ur_rows.specs.declared.normal.NormalType.TheVariants as ty
use Rattle.ur_rows.specs.declared.normal.NormalType.TheBlock.{end_of-NormalType as alone, more_of-NormalType as its}
use Rattle.ur_rows.specs.declared.normal.Part.{Part}
use Rattle.ur_rows.specs.declared.normal.Part.TheVariants as part
use Rattle.ur_rows.specs.Made.{option_of, list_of, transaction_of, arrow_of, field, mapped, parts, row, record_of, form_of}
use Rattle.ur_rows.specs.Order.{outward, place, text, label_form, type_form, parts_form, part_form, is_not_after, stands_before}
use Rattle.ur_rows.specs.Told.{Tells, type_tag, row_form}
use Rattle.ur_rows.proofs.Order.{record-parts, form-parts}
use Rattle.ur_rows.proofs.Shapes.{option-made, list-made, transaction-made, arrow-made, field-made, mapped-made, record-made, form-made}

abbrev Form : Type 0
Form = List ℕ → List ℕ

abbrev words : List ℕ → List ℕ → Ordering
words = slice_cmp nat_cmp

same-cmp : (n : ℕ) → nat_cmp n n ≡ Equal
same-cmp n = grind (arith, nat_tests)

then-assoc : (o p q : Ordering) → ordering_then (ordering_then o p) q ≡ ordering_then o (ordering_then p q)
then-assoc Less p q = refl
then-assoc Equal p q = refl
then-assoc Greater p q = refl

-- what comes first is compared first
pub told-then : {o p : Ordering} {f g h k : Form} → Tells o f g → Tells p h k → Tells (ordering_then o p) (λ xs. f (h xs)) (λ ys. g (k ys))
told-then {o} {p} {f} {g} {h} {k} a b = record {
  told = λ xs ys.
      a.told (h xs) (k ys) ∙ ap (ordering_then o) (b.told xs ys) ∙ sym (then-assoc o p (words xs ys));
}

-- the same number before both
pub told-tag : (n : ℕ) {o : Ordering} {f g : Form} → Tells o f g → Tells o (λ xs. n ∷ f xs) (λ ys. n ∷ g ys)
told-tag n {o} {f} {g} a = record { told = λ xs ys. ap (λ z. ordering_then z (words (f xs) (g ys))) (same-cmp n) ∙ a.told xs ys }

pub told-number : (m n : ℕ) → Tells (nat_cmp m n) (λ xs. m ∷ xs) (λ ys. n ∷ ys)
told-number m n = record { told = λ xs ys. refl }

pub told-same : {f : Form} → ((xs ys : List ℕ) → words (f xs) (f ys) ≡ words xs ys) → Tells Equal f f
told-same h = record { told = h }

outward-told : (i j : ℕ) (xs ys : List ℕ) → words (outward i xs) (outward j ys) ≡ ordering_then (nat_cmp j i) (words xs ys)
outward-told zero zero xs ys = refl
outward-told zero (suc j) xs ys = ap (λ z. ordering_then z (words xs ys)) (gt j) where
  gt : (j : ℕ) → Greater ≡ nat_cmp (suc j) 0
  gt j = grind (arith, nat_tests)
outward-told (suc i) zero xs ys = ap (λ z. ordering_then z (words xs ys)) (lt i) where
  lt : (i : ℕ) → Less ≡ nat_cmp 0 (suc i)
  lt i = grind (arith, nat_tests)
outward-told (suc i) (suc j) xs ys = outward-told i j xs ys ∙ ap (λ z. ordering_then z (words xs ys)) (ss i j) where
  ss : (i j : ℕ) → nat_cmp j i ≡ nat_cmp (suc j) (suc i)
  ss i j = grind (arith, nat_tests)

pub told-bound : (a b : Var) (i j : ℕ) (o : Ordering) → a ≡ var.Bound i → b ≡ var.Bound j → o ≡ nat_cmp j i → Tells o (place a) (place b)
told-bound a b i j o e f h = subst₂ (λ x y. Tells o (place x) (place y)) (sym e) (sym f)
    (subst (λ p. Tells p (place (var.Bound i)) (place (var.Bound j))) (sym h) (told-tag 1 (record { told = outward-told i j })))

text-told : (a b xs ys : List ℕ) → words (text a xs) (text b ys) ≡ ordering_then (words a b) (words xs ys)
text-told [] [] xs ys = refl
text-told [] (c ∷ b) xs ys = ap (λ z. ordering_then z (words xs (text b ys))) (lt c) where
  lt : (c : ℕ) → nat_cmp 0 (suc c) ≡ Less
  lt c = grind (arith, nat_tests)
text-told (c ∷ a) [] xs ys = ap (λ z. ordering_then z (words (text a xs) ys)) (gt c) where
  gt : (c : ℕ) → nat_cmp (suc c) 0 ≡ Greater
  gt c = grind (arith, nat_tests)
text-told (c ∷ a) (d ∷ b) xs ys = ap (λ z. ordering_then z (words (text a xs) (text b ys))) (ss c d) ∙ ap (ordering_then (nat_cmp c d)) (text-told a b xs ys) ∙
    sym (then-assoc (nat_cmp c d) (words a b) (words xs ys)) where
      ss : (c d : ℕ) → nat_cmp (suc c) (suc d) ≡ nat_cmp c d
      ss c d = grind (arith, nat_tests)

pub told-literal : (a b : Label) (x y s t : List ℕ) (o : Ordering) → a ≡ label.Literal x → b ≡ label.Literal y → s ≡ x → t ≡ y → o ≡ words s t →
    Tells o (label_form a) (label_form b)
told-literal a b x y s t o e f g h k = subst₂ (λ p q. Tells o (label_form p) (label_form q)) (sym e) (sym f)
    (subst (λ p. Tells p (label_form (label.Literal x)) (label_form (label.Literal y))) (sym (k ∙ ap (λ z. words z t) g ∙ ap (words x) h))
    (told-tag 0 (record { told = text-told x y })))

-- ---- types

pub types-told : {o : Ordering} {a b x y : NormalType} → a ≡ x → b ≡ y → Tells o (type_form x) (type_form y) → Tells o (type_form a) (type_form b)
types-told {o} e f k = subst₂ (λ x y. Tells o (type_form x) (type_form y)) (sym e) (sym f) k

pub told-opt : {o : Ordering} {a b t u x y : NormalType} → a ≡ ty.Opt t → b ≡ ty.Opt u → x ≡ t → y ≡ u → Tells o (type_form x) (type_form y) → Tells o (type_form a) (type_form b)
told-opt {t = t} {u = u} e f g h k = types-told (e ∙ option-made t) (f ∙ option-made u) (told-tag 9 (types-told (sym g) (sym h) k))

pub told-many : {o : Ordering} {a b t u x y : NormalType} → a ≡ ty.Many t → b ≡ ty.Many u → x ≡ t → y ≡ u → Tells o (type_form x) (type_form y) → Tells o (type_form a) (type_form b)
told-many {t = t} {u = u} e f g h k = types-told (e ∙ list-made t) (f ∙ list-made u) (told-tag 10 (types-told (sym g) (sym h) k))

pub told-transaction : {o : Ordering} {a b t u x y : NormalType} → a ≡ ty.Transaction t → b ≡ ty.Transaction u → x ≡ t → y ≡ u → Tells o (type_form x) (type_form y) → Tells o (type_form a) (type_form b)
told-transaction {t = t} {u = u} e f g h k = types-told (e ∙ transaction-made t) (f ∙ transaction-made u) (told-tag 11 (types-told (sym g) (sym h) k))

pub told-arrow : {o p q : Ordering} {a b t u v w tx ux vx wx : NormalType} → a ≡ ty.Arrow t u → b ≡ ty.Arrow v w → tx ≡ t → vx ≡ v → ux ≡ u → wx ≡ w → q ≡ ordering_then o p →
    Tells o (type_form tx) (type_form vx) → Tells p (type_form ux) (type_form wx) → Tells q (type_form a) (type_form b)
told-arrow {o} {p} {q} {a} {b} {t} {u} {v} {w} e f g h i j k m n = subst (λ z. Tells z (type_form a) (type_form b)) (sym k)
    (types-told (e ∙ arrow-made t u) (f ∙ arrow-made v w) (told-tag 12 (told-then (types-told (sym g) (sym h) m) (types-told (sym i) (sym j) n))))

pub told-record : {o : Ordering} {a b : NormalType} (r s : List Part) → a ≡ ty.Record r → b ≡ ty.Record s → Tells o (row_form r) (row_form s) → Tells o (type_form a) (type_form b)
told-record r s e f k = types-told (e ∙ record-made r) (f ∙ record-made s) (told-tag 13 k)

pub told-form : {o : Ordering} {a b : NormalType} (r s : List Part) → a ≡ ty.Form r → b ≡ ty.Form s → Tells o (row_form r) (row_form s) → Tells o (type_form a) (type_form b)
told-form r s e f k = types-told (e ∙ form-made r) (f ∙ form-made s) (told-tag 14 k)

abbrev rest_of : List ℕ → List ℕ
rest_of [] = []
rest_of (x ∷ xs) = xs

tagged : (t : NormalType) (xs : List ℕ) → type_form t xs ≡ type_tag t ∷ rest_of (type_form t xs)
tagged (ty.Opt' _ (its t alone)) xs = refl
tagged (ty.Many' _ (its t alone)) xs = refl
tagged (ty.Transaction' _ (its t alone)) xs = refl
tagged (ty.Arrow' _ (its a alone) _ (its b alone)) xs = refl
tagged t xs = refl

absorbs : (o p q : Ordering) → is_eq o ≡ false → ordering_then o p ≡ ordering_then o q
absorbs Less p q e = refl
absorbs Equal p q e = absurd (true≢false e)
absorbs Greater p q e = refl

pub told-tags : (t u : NormalType) (o : Ordering) → o ≡ nat_cmp (type_tag t) (type_tag u) → is_eq o ≡ false → Tells o (type_form t) (type_form u)
told-tags t u o e f = record {
  told = λ xs ys.
      ap (λ z. words z (type_form u ys)) (tagged t xs) ∙ ap (words (type_tag t ∷ rest_of (type_form t xs))) (tagged u ys) ∙
      ap (λ z. ordering_then z (words (rest_of (type_form t xs)) (rest_of (type_form u ys)))) (sym e) ∙ absorbs o _ (words xs ys) f;
}

-- a constant is its number
abbrev is_constant : NormalType → Bool
is_constant ty.Int = true
is_constant ty.Str = true
is_constant ty.Bool = true
is_constant ty.Page = true
is_constant ty.Xbody = true
is_constant ty.Xtable = true
is_constant ty.Xtr = true
is_constant t = false

constant-form : (t : NormalType) (xs : List ℕ) → is_constant t ≡ true → type_form t xs ≡ type_tag t ∷ xs
constant-form ty.Int xs e = refl
constant-form ty.Str xs e = refl
constant-form ty.Bool xs e = refl
constant-form ty.Page xs e = refl
constant-form ty.Xbody xs e = refl
constant-form ty.Xtable xs e = refl
constant-form ty.Xtr xs e = refl
constant-form t xs e = absurd (true≢false (sym e))

low-constant : (t : NormalType) → type_tag t < 7 → is_constant t ≡ true
low-constant ty.Int h = refl
low-constant ty.Str h = refl
low-constant ty.Bool h = refl
low-constant ty.Page h = refl
low-constant ty.Xbody h = refl
low-constant ty.Xtable h = refl
low-constant ty.Xtr h = refl
low-constant (ty.Variable v) h = absurd (omega arith)
low-constant (ty.Datatype v) h = absurd (omega arith)
low-constant (ty.Opt' _ v) h = absurd (omega arith)
low-constant (ty.Many' _ v) h = absurd (omega arith)
low-constant (ty.Transaction' _ v) h = absurd (omega arith)
low-constant (ty.Arrow' _ v _ w) h = absurd (omega arith)
low-constant (ty.Record' _ v) h = absurd (omega arith)
low-constant (ty.Form' _ v) h = absurd (omega arith)

equal-tags : (m n : ℕ) (o : Ordering) → o ≡ nat_cmp m n → is_eq o ≡ true → m ≡ n
equal-tags m n o e f = grind (arith, nat_tests)

pub told-constant : (t u : NormalType) (o : Ordering) → o ≡ nat_cmp (type_tag t) (type_tag u) → is_eq o ≡ true → type_tag t < 7 → Tells o (type_form t) (type_form u)
told-constant t u o e f h = record {
  told = λ xs ys.
      ap (λ z. words z (type_form u ys)) (constant-form t xs (low-constant t h)) ∙
      ap (words (type_tag t ∷ xs)) (constant-form u ys (low-constant u (subst (λ n. n < 7) (equal-tags (type_tag t) (type_tag u) o e f) h))) ∙
      ap (λ z. ordering_then z (words xs ys)) (sym e);
}

-- ---- parts

pub parts-told : {o : Ordering} {a b x y : Part} → a ≡ x → b ≡ y → Tells o (part_form x) (part_form y) → Tells o (part_form a) (part_form b)
parts-told {o} e f k = subst₂ (λ x y. Tells o (part_form x) (part_form y)) (sym e) (sym f) k

pub told-fields : {o p q : Ordering} {a b : Part} {l m : Label} {t u x y : NormalType} → a ≡ part.Field l t → b ≡ part.Field m u → x ≡ t → y ≡ u → q ≡ ordering_then o p →
    Tells o (label_form l) (label_form m) → Tells p (type_form x) (type_form y) → Tells q (part_form a) (part_form b)
told-fields {a = a} {b = b} {l = l} {m = m} {t = t} {u = u} e f g h k n j = subst (λ z. Tells z (part_form a) (part_form b)) (sym k)
    (parts-told (e ∙ field-made l t) (f ∙ field-made m u) (told-then n (types-told (sym g) (sym h) j)))

is-equal : (o : Ordering) → is_eq o ≡ true → o ≡ Equal
is-equal Less e = absurd (true≢false (sym e))
is-equal Equal e = refl
is-equal Greater e = absurd (true≢false (sym e))

pub told-labels : {o : Ordering} {a b : Part} {l m : Label} (t u : NormalType) → a ≡ part.Field l t → b ≡ part.Field m u → is_eq o ≡ false →
    Tells o (label_form l) (label_form m) → Tells o (part_form a) (part_form b)
told-labels {o} {l = l} {m = m} t u e f h n = parts-told (e ∙ field-made l t) (f ∙ field-made m u)
    (record { told = λ xs ys. n.told (type_form t xs) (type_form u ys) ∙ absorbs o (words (type_form t xs) (type_form u ys)) (words xs ys) h })

pub told-types : {o p : Ordering} {a b : Part} {l m : Label} {t u x y : NormalType} → a ≡ part.Field l t → b ≡ part.Field m u → x ≡ t → y ≡ u → is_eq o ≡ true →
    Tells o (label_form l) (label_form m) → Tells p (type_form x) (type_form y) → Tells p (part_form a) (part_form b)
told-types {o} {p} e f g h i n j = told-fields e f g h (sym (ap (λ z. ordering_then z p) (is-equal o i))) n j

label-before : (l : Label) (t : NormalType) (xs ys : List ℕ) → words (part_form (field l t) xs) (2 ∷ ys) ≡ Less
label-before (label.Literal a) t xs ys = refl
label-before (label.Variable v) t xs ys = refl

label-after : (l : Label) (t : NormalType) (xs ys : List ℕ) → words (2 ∷ xs) (part_form (field l t) ys) ≡ Greater
label-after (label.Literal a) t xs ys = refl
label-after (label.Variable v) t xs ys = refl

pub told-field-piece : {a b : Part} {v : Var} (l : Label) (t : NormalType) → a ≡ part.Field l t → b ≡ part.Piece v → Tells Less (part_form a) (part_form b)
told-field-piece l t e f = parts-told (e ∙ field-made l t) f (record { told = λ xs ys. label-before l t xs _ })

pub told-field-mapped : {a b : Part} (l : Label) (t u : NormalType) (v : Var) → a ≡ part.Field l t → b ≡ part.Mapped v u → Tells Less (part_form a) (part_form b)
told-field-mapped l t u v e f = parts-told (e ∙ field-made l t) (f ∙ mapped-made v u) (record { told = λ xs ys. label-before l t xs _ })

pub told-piece-field : {a b : Part} {v : Var} (l : Label) (t : NormalType) → a ≡ part.Piece v → b ≡ part.Field l t → Tells Greater (part_form a) (part_form b)
told-piece-field l t e f = parts-told e (f ∙ field-made l t) (record { told = λ xs ys. label-after l t _ ys })

pub told-mapped-field : {a b : Part} (l : Label) (t u : NormalType) (v : Var) → a ≡ part.Mapped v u → b ≡ part.Field l t → Tells Greater (part_form a) (part_form b)
told-mapped-field l t u v e f = parts-told (e ∙ mapped-made v u) (f ∙ field-made l t) (record { told = λ xs ys. label-after l t _ ys })

pub told-piece-mapped : {o q : Ordering} {a b : Part} (v w : Var) (u : NormalType) → a ≡ part.Piece v → b ≡ part.Mapped w u → q ≡ ordering_then o Less →
    Tells o (place v) (place w) → Tells q (part_form a) (part_form b)
told-piece-mapped {a = a} {b = b} v w u e f k n = subst (λ z. Tells z (part_form a) (part_form b)) (sym k)
    (parts-told e (f ∙ mapped-made w u) (told-tag 2 (told-then {h = λ xs. 0 ∷ xs} {k = λ ys. 1 ∷ type_form u ys} n (record { told = λ xs ys. refl }))))

pub told-mapped-piece : {o q : Ordering} {a b : Part} (v w : Var) (u : NormalType) → a ≡ part.Mapped v u → b ≡ part.Piece w → q ≡ ordering_then o Greater →
    Tells o (place v) (place w) → Tells q (part_form a) (part_form b)
told-mapped-piece {a = a} {b = b} v w u e f k n = subst (λ z. Tells z (part_form a) (part_form b)) (sym k)
    (parts-told (e ∙ mapped-made v u) f (told-tag 2 (told-then {h = λ xs. 1 ∷ type_form u xs} {k = λ ys. 0 ∷ ys} n (record { told = λ xs ys. refl }))))

pub told-mapped : {o p q : Ordering} {a b : Part} {v w : Var} {t u x y : NormalType} → a ≡ part.Mapped v t → b ≡ part.Mapped w u → x ≡ t → y ≡ u → q ≡ ordering_then o p →
    Tells o (place v) (place w) → Tells p (type_form x) (type_form y) → Tells q (part_form a) (part_form b)
told-mapped {a = a} {b = b} {v = v} {w = w} {t = t} {u = u} e f g h k n j = subst (λ z. Tells z (part_form a) (part_form b)) (sym k)
    (parts-told (e ∙ mapped-made v t) (f ∙ mapped-made w u) (told-tag 2 (told-then n (told-tag 1 (types-told (sym g) (sym h) j)))))

pub told-variables : {o : Ordering} {a b : Part} {v w : Var} (t u : NormalType) → a ≡ part.Mapped v t → b ≡ part.Mapped w u → is_eq o ≡ false →
    Tells o (place v) (place w) → Tells o (part_form a) (part_form b)
told-variables {o} {v = v} {w = w} t u e f h n = parts-told (e ∙ mapped-made v t) (f ∙ mapped-made w u)
    (told-tag 2 (record { told = λ xs ys. n.told (1 ∷ type_form t xs) (1 ∷ type_form u ys) ∙ absorbs o (words (1 ∷ type_form t xs) (1 ∷ type_form u ys)) (words xs ys) h }))

pub told-functions : {o p : Ordering} {a b : Part} {v w : Var} {t u x y : NormalType} → a ≡ part.Mapped v t → b ≡ part.Mapped w u → x ≡ t → y ≡ u → is_eq o ≡ true →
    Tells o (place v) (place w) → Tells p (type_form x) (type_form y) → Tells p (part_form a) (part_form b)
told-functions {o} {p} e f g h i n j = told-mapped e f g h (sym (ap (λ z. ordering_then z p) (is-equal o i))) n j

-- ---- rows

pub told-more : {o : Ordering} (p q : Part) (r s : List Part) → Tells Equal (part_form p) (part_form q) → Tells o (row_form r) (row_form s) → Tells o (row_form (p ∷ r)) (row_form (q ∷ s))
told-more p q r s a b = told-tag 1 (told-then a b)

pub told-first : {o : Ordering} (p q : Part) (r s : List Part) → Tells o (part_form p) (part_form q) → is_eq o ≡ false → Tells o (row_form (p ∷ r)) (row_form (q ∷ s))
told-first {o} p q r s a e = record { told = λ xs ys. a.told _ _ ∙ absorbs o _ (words xs ys) e }

pub told-longer : (p : Part) (r : List Part) → Tells Greater (row_form (p ∷ r)) (row_form [])
told-longer p r = record { told = λ xs ys. refl }

pub told-shorter : (p : Part) (r : List Part) → Tells Less (row_form []) (row_form (p ∷ r))
told-shorter p r = record { told = λ xs ys. refl }

pub told-none : Tells Equal (row_form []) (row_form [])
told-none = record { told = λ xs ys. refl }

not_after-told : (xs ys : List ℕ) → is_le (words xs ys) ≡ is_not_after xs ys
not_after-told = λ xs ys. same_from_slice_cmp nat_cmp is_le is_not_after refl (λ _ _. refl) (λ _ _. refl) (λ x y zs ws o h. grind (arith, nat_tests)) xs ys (words xs ys) refl

then-equal : (o : Ordering) → ordering_then o Equal ≡ o
then-equal Less = refl
then-equal Equal = refl
then-equal Greater = refl

pub before-told : (p q : Part) (o : Ordering) (b : Bool) → Tells o (part_form p) (part_form q) → b ≡ is_le o → b ≡ stands_before p q
unfolding stands_before
before-told p q o b h e = e ∙ ap is_le (sym (h.told [] [] ∙ then-equal o)) ∙ not_after-told (part_form p []) (part_form q [])

-- a type of none of the other forms is a constant
pub constant-tag : (t : NormalType) → ((v : Var) → t ≡ ty.Variable v → ⊥) → ((d : ℕ) → t ≡ ty.Datatype d → ⊥) → ((x : NormalType) → t ≡ ty.Opt x → ⊥) →
    ((x : NormalType) → t ≡ ty.Many x → ⊥) → ((x : NormalType) → t ≡ ty.Transaction x → ⊥) → ((x y : NormalType) → t ≡ ty.Arrow x y → ⊥) →
    ((r : List Part) → t ≡ ty.Record r → ⊥) → ((r : List Part) → t ≡ ty.Form r → ⊥) → type_tag t < 7
constant-tag (ty.Variable v) hv hd ho hm ht ha hr hf = absurd (hv v refl)
constant-tag (ty.Datatype d) hv hd ho hm ht ha hr hf = absurd (hd d refl)
constant-tag (ty.Opt' _ (its x alone)) hv hd ho hm ht ha hr hf = absurd (ho x (sym (option-made x)))
constant-tag (ty.Many' _ (its x alone)) hv hd ho hm ht ha hr hf = absurd (hm x (sym (list-made x)))
constant-tag (ty.Transaction' _ (its x alone)) hv hd ho hm ht ha hr hf = absurd (ht x (sym (transaction-made x)))
constant-tag (ty.Arrow' _ (its x alone) _ (its y alone)) hv hd ho hm ht ha hr hf = absurd (ha x y (sym (arrow-made x y)))
constant-tag (ty.Record' s r) hv hd ho hm ht ha hr hf = absurd (hr (parts r) (sym (record-made (parts r) ∙ record-parts s r)))
constant-tag (ty.Form' s r) hv hd ho hm ht ha hr hf = absurd (hf (parts r) (sym (form-made (parts r) ∙ form-parts s r)))
constant-tag t hv hd ho hm ht ha hr hf = omega arith

-- ---- a loop over two rows

pub rows-told : {o : Ordering} (a b x y : List Part) → x ≡ a → y ≡ b → Tells o (row_form x) (row_form y) → Tells o (row_form a) (row_form b)
rows-told {o} a b x y e f k = subst₂ (λ p q. Tells o (row_form p) (row_form q)) e f k

drop-some : (xs : List Part) (i : ℕ) → i < length xs → (x : Part) × (r : List Part) × (drop i xs ≡ x ∷ r)
drop-some [] i h = absurd (omega arith)
drop-some (x ∷ xs) zero h = (x, xs, refl)
drop-some (x ∷ xs) (suc i) h = drop-some xs i (omega arith)

pub drop-here : (xs : List Part) (i : ℕ) (x : Part) → i < length xs → x ≡ get_or xs i x → drop i xs ≡ x ∷ drop (i + 1) xs
drop-here xs i x h e = rw (add-one, drop-cons xs i x h) (ap (λ z. z ∷ drop (suc i) xs) (sym e))

told-end : (xs ys : List Part) (i : ℕ) → i < length xs → i ≡ length ys → Tells Greater (row_form (drop i xs)) (row_form (drop i ys))
told-end xs ys i h e = let d = drop-some xs i h in
    rows-told (drop i xs) (drop i ys) (d.0 ∷ d.1) [] (sym d.2) (sym (drop_of_length-le ys (omega arith))) (told-longer d.0 d.1)

told-start : (xs ys : List Part) (i : ℕ) → i < length ys → length xs ≤ i → Tells Less (row_form (drop i xs)) (row_form (drop i ys))
told-start xs ys i h e = let d = drop-some ys i h in
    rows-told (drop i xs) (drop i ys) [] (d.0 ∷ d.1) (sym (drop_of_length-le xs e)) (sym d.2) (told-shorter d.0 d.1)

told-both : (xs ys : List Part) (i : ℕ) → length ys ≤ i → length xs ≤ i → Tells Equal (row_form (drop i xs)) (row_form (drop i ys))
told-both xs ys i h e = rows-told (drop i xs) (drop i ys) [] [] (sym (drop_of_length-le xs e)) (sym (drop_of_length-le ys h)) told-none

abbrev Kept : List Part → List Part → ℕ → Type 0
Kept xs ys i = (o : Ordering) → Tells o (row_form (drop i xs)) (row_form (drop i ys)) → Tells o (row_form xs) (row_form ys)

pub loop-longer : (a b xs ys : List Part) (i : ℕ) → xs ≡ a → ys ≡ b → Kept xs ys i → i < length xs → i ≡ length ys → Tells Greater (row_form a) (row_form b)
loop-longer a b xs ys i e f k h g = rows-told a b xs ys e f (k Greater (told-end xs ys i h g))

pub loop-shorter : (a b xs ys : List Part) (i : ℕ) → xs ≡ a → ys ≡ b → Kept xs ys i → length xs ≤ i → i < length ys → Tells Less (row_form a) (row_form b)
loop-shorter a b xs ys i e f k h g = rows-told a b xs ys e f (k Less (told-start xs ys i g h))

pub loop-same : (a b xs ys : List Part) (i : ℕ) → xs ≡ a → ys ≡ b → Kept xs ys i → length xs ≤ i → length ys ≤ i → Tells Equal (row_form a) (row_form b)
loop-same a b xs ys i e f k h g = rows-told a b xs ys e f (k Equal (told-both xs ys i g h))

pub loop-differs : (a b xs ys : List Part) (i : ℕ) (x y : Part) (o : Ordering) → xs ≡ a → ys ≡ b → Kept xs ys i → i < length xs → i < length ys →
    x ≡ get_or xs i x → y ≡ get_or ys i y → Tells o (part_form x) (part_form y) → is_eq o ≡ false → Tells o (row_form a) (row_form b)
loop-differs a b xs ys i x y o e f k h g m n t z = rows-told a b xs ys e f (k o
    (rows-told (drop i xs) (drop i ys) (x ∷ drop (i + 1) xs) (y ∷ drop (i + 1) ys) (sym (drop-here xs i x h m)) (sym (drop-here ys i y g n))
    (told-first x y (drop (i + 1) xs) (drop (i + 1) ys) t z)))

pub loop-goes : (xs ys : List Part) (i : ℕ) (x y : Part) (o : Ordering) → Kept xs ys i → i < length xs → i < length ys →
    x ≡ get_or xs i x → y ≡ get_or ys i y → Tells o (part_form x) (part_form y) → is_eq o ≡ true → Kept xs ys (i + 1)
loop-goes xs ys i x y o k h g m n t z p r = k p
    (rows-told (drop i xs) (drop i ys) (x ∷ drop (i + 1) xs) (y ∷ drop (i + 1) ys) (sym (drop-here xs i x h m)) (sym (drop-here ys i y g n))
    (told-more x y (drop (i + 1) xs) (drop (i + 1) ys) (subst (λ q. Tells q (part_form x) (part_form y)) (is-equal o z) t) r))

-- A row whose pieces are apart has no label twice, so that a type is looked up by its label.
use Rattle.std.proofs.lemmas.Bool.Decides.{nat_tests}
use Rattle.std.proofs.lemmas.Slice.Eq.{bytes_eq-Decides}
use Rattle.std.proofs.Common.{arith, inl, inr, ◌⊎◌, ◌≡◌, ◌∙◌, refl, sym, ap, subst, Bool, true, false, true≢false, if◌then◌else◌, Some, List, [], ◌∷◌, ℕ, suc}
use Rattle.std.specs.Prelude.{◌==◌, Contains, AllPairs}
use Rattle.ur_rows.specs.declared.normal.Var.{Var}
use Rattle.ur_rows.specs.declared.normal.Var.TheVariants as var
use Rattle.ur_rows.specs.declared.normal.Label.{Label}
use Rattle.ur_rows.specs.declared.normal.Label.TheVariants as label
use Rattle.ur_rows.specs.declared.normal.NormalType.{NormalType}
use Rattle.ur_rows.specs.declared.normal.Part.{Part}
use Rattle.ur_rows.specs.declared.normal.Part.TheVariants as part
use Rattle.ur_rows.specs.Apart.{Piece, name, piece_of, pieces, Assumptions, ApartPieces, literals, assumed, turned, AreTwo, AreApart}
use Rattle.ur_rows.specs.Order.{stands_before, with_part}
use Rattle.ur_rows.specs.Types.{field, field_type, is_field, part_type, same_label, same_var}
use Rattle.ur_disjoint.proofs.Members.{In, contains-in}

-- ---- labels

number_self : (n : ℕ) → (n == n) ≡ true
number_self n = grind (arith, nat_tests)

number_is : (m n : ℕ) → (m == n) ≡ true → m ≡ n
number_is m n h = grind (arith, nat_tests, h)

var_self : (v : Var) → same_var v v ≡ true
var_self (var.Free n) = number_self n
var_self (var.Bound n) = number_self n

var_is : (v w : Var) → same_var v w ≡ true → v ≡ w
var_is (var.Free n) (var.Free m) h = ap (λ k. var.Free k) (number_is n m h)
var_is (var.Free n) (var.Bound m) h = absurd (true≢false (sym h))
var_is (var.Bound n) (var.Free m) h = absurd (true≢false (sym h))
var_is (var.Bound n) (var.Bound m) h = ap (λ k. var.Bound k) (number_is n m h)

label_self : (l : Label) → same_label l l ≡ true
label_self (label.Literal a) = (bytes_eq-Decides a a).1 refl
label_self (label.Variable v) = var_self v

label_is : (l m : Label) → same_label l m ≡ true → l ≡ m
label_is (label.Literal a) (label.Literal b) h = ap (λ k. label.Literal k) ((bytes_eq-Decides a b).0 h)
label_is (label.Literal a) (label.Variable w) h = absurd (true≢false (sym h))
label_is (label.Variable v) (label.Literal b) h = absurd (true≢false (sym h))
label_is (label.Variable v) (label.Variable w) h = ap (λ k. label.Variable k) (var_is v w h)

-- ---- no name is apart from itself

names_apart : (known : Assumptions) (p q : Piece) → ApartPieces known p q → (l m : Label) → p ≡ name l → q ≡ name m → (l ≡ m → ⊥)
names_apart known _ _ (literals n) l m h i = λ e. n (literal_of (name_of h ∙ (e ∙ sym (name_of i)))) where
  name_of : {j k : Label} → name j ≡ name k → j ≡ k
  name_of z = cc

  literal_of : {a b : List ℕ} → label.Literal a ≡ label.Literal b → a ≡ b
  literal_of z = cc
names_apart known p q (assumed two c i j) l m h k = λ e. differ p q two l m h k e where
  differ : (p q : Piece) → AreTwo p q → (l m : Label) → p ≡ name l → q ≡ name m → (l ≡ m → ⊥)
  differ p q two l m h k = subst (λ z. AreTwo (name l) z) k (subst (λ z. AreTwo z q) h two)
names_apart known p q (turned two c i j) l m h k = λ e. differ q p two m l k h (sym e) where
  differ : (p q : Piece) → AreTwo p q → (l m : Label) → p ≡ name l → q ≡ name m → (l ≡ m → ⊥)
  differ p q two l m h k = subst (λ z. AreTwo (name l) z) k (subst (λ z. AreTwo z q) h two)

pub not_itself : (known : Assumptions) (l : Label) → ApartPieces known (name l) (name l) → ⊥
not_itself known l a = names_apart known (name l) (name l) a l l refl refl refl

-- ---- rows

first_apart : (known : Assumptions) (p : Piece) (ps : List Piece) → AllPairs (ApartPieces known) (p ∷ ps) → (q : Piece) → In q ps → ApartPieces known p q
first_apart known p ps a q i = let c : Contains ps q = contains-in q ps i in subst (ApartPieces known p) c.2 (a 0 (suc c.0) q (omega arith) (omega (arith, c.1)))

later_apart : (known : Assumptions) (p : Piece) (ps : List Piece) → AllPairs (ApartPieces known) (p ∷ ps) → AllPairs (ApartPieces known) ps
later_apart known p ps a i j d h k = a (suc i) (suc j) d (omega (arith, h)) (omega (arith, k))

in_pieces : (l : Label) (t : NormalType) (r : List Part) → In (field l t) r → In (name l) (pieces r)
in_pieces l t [] i = absurd i
in_pieces l t (p ∷ r) (inl e) = inl (ap piece_of e)
in_pieces l t (p ∷ r) (inr i) = inr (in_pieces l t r i)

-- a part before the field has another name
other_field : (known : Assumptions) (l : Label) (t : NormalType) (p : Part) (r : List Part) → AreApart known (p ∷ r) → In (field l t) r → is_field l p ≡ false
other_field known l t (part.Field' m _ u) r a i = by_test (same_label l m) refl where
  by_test : (b : Bool) → same_label l m ≡ b → b ≡ false
  by_test true h = absurd (not_itself known l (subst (λ z. ApartPieces known (name z) (name l)) (sym (label_is l m h)) (first_apart known (name m) (pieces r) a (name l) (in_pieces l t r i))))
  by_test false h = refl
other_field known l t (part.Piece v) r a i = refl
other_field known l t (part.Mapped' v _ f) r a i = refl

field_first : (l : Label) (t : NormalType) (p : Part) (r : List Part) → p ≡ field l t → field_type l (p ∷ r) ≡ Some t
field_first l t p r e = ap (λ z. field_type l (z ∷ r)) e ∙ ap (λ b. if b then Some t else field_type l r) (label_self l)

-- A field that stands in a row whose pieces are apart is the one that is found by its label.
pub field_found : (known : Assumptions) (l : Label) (t : NormalType) (r : List Part) → AreApart known r → In (field l t) r → field_type l r ≡ Some t
field_found known l t [] a i = absurd i
field_found known l t (p ∷ r) a (inl e) = field_first l t p r e
field_found known l t (p ∷ r) a (inr i) =
    ap (λ b. if b then part_type p else field_type l r) (other_field known l t p r a i) ∙ field_found known l t r (later_apart known (piece_of p) (pieces r) a) i

-- ---- a row with one part more

pub own_in : (p : Part) (r : List Part) → In p (with_part p r)
own_in p [] = inl refl
own_in p (q ∷ r) = choose (stands_before p q) (p ∷ q ∷ r) (q ∷ with_part p r) (inl refl) (inr (own_in p r)) where
  choose : (b : Bool) (x y : List Part) → In p x → In p y → In p (if b then x else y)
  choose true x y h k = h
  choose false x y h k = k

pub further_in : (p : Part) (r : List Part) (x : Part) → In x r → In x (with_part p r)
further_in p [] x i = absurd i
further_in p (q ∷ r) x i = choose (stands_before p q) (p ∷ q ∷ r) (q ∷ with_part p r) (inr i) (behind (λ j. further_in p r x j) i) where
  choose : (b : Bool) (y z : List Part) → In x y → In x z → In x (if b then y else z)
  choose true y z h k = h
  choose false y z h k = k

  behind : (In x r → In x (with_part p r)) → (q ≡ x) ⊎ In x r → (q ≡ x) ⊎ In x (with_part p r)
  behind f (inl e) = inl e
  behind f (inr j) = inr (f j)

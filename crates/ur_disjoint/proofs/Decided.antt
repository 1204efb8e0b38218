-- The tests decide disjointness.
use Rattle.std.proofs.Common.{◌≡◌, refl, ap, ap₂, sym, ◌∙◌, subst, ℕ, ◌⊎◌, inl, inr, Bool, true, false, not, ◌&&◌, ◌||◌, ◌≢◌, ◌↔◌, IsTrue, List, [], ◌∷◌, map, zero, suc, ◌<◌, length, slice_index_or, All, AllPairs, Contains, bytes_eq, true≢false, arith, ◌==◌}
use Rattle.std.proofs.lemmas.Bool.{cases_Bool}
use Rattle.std.proofs.lemmas.Bool.Decides.{nat_tests}
use Rattle.std.proofs.lemmas.Slice.Eq.{bytes_eq-Decides}
use Rattle.std.proofs.lemmas.List.Kept.{AllPairs-cons}
use Rattle.ur_rows.specs.declared.normal.Var.{Var}
use Rattle.ur_rows.specs.declared.normal.Var.TheVariants as var
use Rattle.ur_rows.specs.declared.normal.Label.{Label}
use Rattle.ur_rows.specs.declared.normal.Label.TheVariants as label
use Rattle.ur_rows.specs.declared.normal.Part.{Part}
use Rattle.ur_rows.specs.Types.{same_var, same_label}
use Rattle.ur_rows.specs.Apart.{Piece, name, row, piece_of, pieces, Assumptions, AreTwo, ApartPieces, literals, assumed, turned, Apart, AreApart}
use Rattle.ur_disjoint.specs.declared.rows.Assumed.{Assumed}
use Rattle.ur_disjoint.specs.Tests.{pair, same_piece, holds_piece, differ, one_name, has_pair, assumed_apart, apart_from, is_apart, all_apart}
use Rattle.ur_disjoint.proofs.Members.{In, in-contains, contains-in, in-map}

-- ---- tests

or-true : (a b : Bool) → (a || b) ≡ true → (a ≡ true) ⊎ (b ≡ true)
or-true true b e = inl refl
or-true false b e = inr e

or-first : (a b : Bool) → a ≡ true → (a || b) ≡ true
or-first true b e = refl
or-first false b e = absurd (true≢false (sym e))

or-second : (a b : Bool) → b ≡ true → (a || b) ≡ true
or-second true b e = refl
or-second false b e = e

and-true : (a b : Bool) → (a && b) ≡ true → (a ≡ true) × (b ≡ true)
and-true true b e = (refl, e)
and-true false b e = absurd (true≢false (sym e))

and-both : (a b : Bool) → a ≡ true → b ≡ true → (a && b) ≡ true
and-both a b e f = ap₂ (λ x y. x && y) e f

-- ---- sameness

nat-same : (m n : ℕ) → (m == n) ≡ true → m ≡ n
nat-same m n e = grind (arith, nat_tests)

nat-self : (m : ℕ) → (m == m) ≡ true
nat-self m = grind (arith, nat_tests)

var-same : (v w : Var) → same_var v w ≡ true → v ≡ w
var-same (var.Free n) (var.Free m) e = ap (λ k. var.Free k) (nat-same n m e)
var-same (var.Free n) (var.Bound m) e = absurd (true≢false (sym e))
var-same (var.Bound n) (var.Free m) e = absurd (true≢false (sym e))
var-same (var.Bound n) (var.Bound m) e = ap (λ k. var.Bound k) (nat-same n m e)

var-self : (v : Var) → same_var v v ≡ true
var-self (var.Free n) = nat-self n
var-self (var.Bound n) = nat-self n

label-same : (l m : Label) → same_label l m ≡ true → l ≡ m
label-same (label.Literal a) (label.Literal b) e = ap (λ k. label.Literal k) ((bytes_eq-Decides a b).0 e)
label-same (label.Literal a) (label.Variable w) e = absurd (true≢false (sym e))
label-same (label.Variable v) (label.Literal b) e = absurd (true≢false (sym e))
label-same (label.Variable v) (label.Variable w) e = ap (λ k. label.Variable k) (var-same v w e)

label-self : (l : Label) → same_label l l ≡ true
label-self (label.Literal a) = (bytes_eq-Decides a a).1 refl
label-self (label.Variable v) = var-self v

piece-same : (p q : Piece) → same_piece p q ≡ true → p ≡ q
piece-same (name l) (name m) e = ap (λ k. name k) (label-same l m e)
piece-same (name l) (row w) e = absurd (true≢false (sym e))
piece-same (row v) (name m) e = absurd (true≢false (sym e))
piece-same (row v) (row w) e = ap (λ k. row k) (var-same v w e)

piece-self : (p : Piece) → same_piece p p ≡ true
piece-self (name l) = label-self l
piece-self (row v) = var-self v

-- ---- members

holds-in : (p : Piece) (r : List Part) → holds_piece p r ≡ true → In p (pieces r)
holds-in p [] e = absurd (true≢false (sym e))
holds-in p (q ∷ r) e = go (or-true (same_piece p (piece_of q)) (holds_piece p r) e) (holds-in p r) where
  go : (same_piece p (piece_of q) ≡ true) ⊎ (holds_piece p r ≡ true) → (holds_piece p r ≡ true → In p (pieces r)) → In p (pieces (q ∷ r))
  go (inl x) ih = inl (sym (piece-same p (piece_of q) x))
  go (inr x) ih = inr (ih x)

in-holds : (p : Piece) (r : List Part) → In p (pieces r) → holds_piece p r ≡ true
in-holds p [] i = absurd i
in-holds p (q ∷ r) (inl e) = or-first (same_piece p (piece_of q)) (holds_piece p r) (subst (λ z. same_piece p z ≡ true) (sym e) (piece-self p))
in-holds p (q ∷ r) (inr i) = or-second (same_piece p (piece_of q)) (holds_piece p r) (in-holds p r i)

-- ---- one name

-- pieces that are not one name are not, in the other order
two-turned : (p q : Piece) → AreTwo p q → AreTwo q p
two-turned (name l) (name m) h = λ e. h (sym e)
two-turned (name l) (row w) h = tt
two-turned (row v) (name m) h = tt
two-turned (row v) (row w) h = tt

is-two : (p q : Piece) → not (one_name p q) ≡ true → AreTwo p q
is-two (name l) (name m) h = λ e. true≢false (sym h ∙ ap not (subst (λ z. same_label l z ≡ true) e (label-self l)))
is-two (name l) (row w) h = tt
is-two (row v) (name m) h = tt
is-two (row v) (row w) h = tt

two-is : (p q : Piece) → AreTwo p q → not (one_name p q) ≡ true
two-is (name l) (name m) h = elim (cases_Bool (same_label l m)) [ inl x ↦ absurd (h (label-same l m x)) | inr x ↦ ap not x ]
two-is (name l) (row w) h = refl
two-is (row v) (name m) h = refl
two-is (row v) (row w) h = refl

-- ---- assumptions

abbrev Found : List Assumed → Piece → Piece → Type 0
Found known p q = (a : Assumed) × In a known × ((In p (pieces a.left) × In q (pieces a.right)) ⊎ (In q (pieces a.left) × In p (pieces a.right)))

further : (a : Assumed) (known : List Assumed) (p q : Piece) → Found known p q → Found (a ∷ known) p q
further a known p q f = (f.0, inr f.1, f.2)

assumed-found : (known : List Assumed) (p q : Piece) → has_pair known p q ≡ true → Found known p q
assumed-found [] p q e = absurd (true≢false (sym e))
assumed-found (a ∷ known) p q e = go (or-true (holds_piece p a.left && holds_piece q a.right) ((holds_piece q a.left && holds_piece p a.right) || has_pair known p q) e)
    (assumed-found known p q) where
      go : ((holds_piece p a.left && holds_piece q a.right) ≡ true) ⊎ (((holds_piece q a.left && holds_piece p a.right) || has_pair known p q) ≡ true) →
          (has_pair known p q ≡ true → Found known p q) → Found (a ∷ known) p q
      go (inl x) ih = let h = and-true (holds_piece p a.left) (holds_piece q a.right) x in (a, inl refl, inl (holds-in p a.left h.0, holds-in q a.right h.1))
      go (inr x) ih = elim (or-true (holds_piece q a.left && holds_piece p a.right) (has_pair known p q) x) [
        | inl y ↦ let h = and-true (holds_piece q a.left) (holds_piece p a.right) y in (a, inl refl, inr (holds-in q a.left h.0, holds-in p a.right h.1))
        | inr y ↦ further a known p q (ih y)
      ]

found-apart : (known : List Assumed) (p q : Piece) → AreTwo p q → Found known p q → ApartPieces (map pair known) p q
found-apart known p q two f = go f.2 where
  here : Contains (map pair known) (f.0.left, f.0.right)
  here = contains-in (f.0.left, f.0.right) (map pair known) (in-map pair f.0 known f.1)

  go : (In p (pieces f.0.left) × In q (pieces f.0.right)) ⊎ (In q (pieces f.0.left) × In p (pieces f.0.right)) → ApartPieces (map pair known) p q
  go (inl x) = assumed two here (contains-in p (pieces f.0.left) x.0) (contains-in q (pieces f.0.right) x.1)
  go (inr x) = turned (two-turned p q two) here (contains-in q (pieces f.0.left) x.0) (contains-in p (pieces f.0.right) x.1)

assumed-holds : (known : List Assumed) (p q : Piece) (r s : List Part) → In (r, s) (map pair known) → In p (pieces r) → In q (pieces s) → has_pair known p q ≡ true
assumed-holds [] p q r s i j k = absurd i
assumed-holds (a ∷ known) p q r s (inl e) j k = or-first (holds_piece p a.left && holds_piece q a.right) ((holds_piece q a.left && holds_piece p a.right) || has_pair known p q)
    (and-both (holds_piece p a.left) (holds_piece q a.right)
    (in-holds p a.left (subst (λ z. In p (pieces z)) (sym (ap (λ (z : List Part × List Part). z.0) e)) j))
    (in-holds q a.right (subst (λ z. In q (pieces z)) (sym (ap (λ (z : List Part × List Part). z.1) e)) k)))
assumed-holds (a ∷ known) p q r s (inr i) j k = or-second (holds_piece p a.left && holds_piece q a.right) ((holds_piece q a.left && holds_piece p a.right) || has_pair known p q)
    (or-second (holds_piece q a.left && holds_piece p a.right) (has_pair known p q) (assumed-holds known p q r s i j k))

turned-holds : (known : List Assumed) (p q : Piece) (r s : List Part) → In (r, s) (map pair known) → In p (pieces r) → In q (pieces s) → has_pair known q p ≡ true
turned-holds [] p q r s i j k = absurd i
turned-holds (a ∷ known) p q r s (inl e) j k = or-second (holds_piece q a.left && holds_piece p a.right) ((holds_piece p a.left && holds_piece q a.right) || has_pair known q p)
    (or-first (holds_piece p a.left && holds_piece q a.right) (has_pair known q p) (and-both (holds_piece p a.left) (holds_piece q a.right)
    (in-holds p a.left (subst (λ z. In p (pieces z)) (sym (ap (λ (z : List Part × List Part). z.0) e)) j))
    (in-holds q a.right (subst (λ z. In q (pieces z)) (sym (ap (λ (z : List Part × List Part). z.1) e)) k))))
turned-holds (a ∷ known) p q r s (inr i) j k = or-second (holds_piece q a.left && holds_piece p a.right) ((holds_piece p a.left && holds_piece q a.right) || has_pair known q p)
    (or-second (holds_piece p a.left && holds_piece q a.right) (has_pair known q p) (turned-holds known p q r s i j k))

-- ---- pieces

differ-apart : (known : Assumptions) (p q : Piece) → differ p q ≡ true → ApartPieces known p q
differ-apart known (name (label.Literal a)) (name (label.Literal b)) e = literals (λ x. true≢false (sym e ∙ ap not ((bytes_eq-Decides a b).1 x)))
differ-apart known (name (label.Literal a)) (name (label.Variable w)) e = absurd (true≢false (sym e))
differ-apart known (name (label.Variable v)) (name m) e = absurd (true≢false (sym e))
differ-apart known (name l) (row w) e = absurd (true≢false (sym e))
differ-apart known (row v) q e = absurd (true≢false (sym e))

literals-differ : (a b : List ℕ) → a ≢ b → not (bytes_eq a b) ≡ true
literals-differ a b n = elim (cases_Bool (bytes_eq a b)) [ inl x ↦ absurd (n ((bytes_eq-Decides a b).0 x)) | inr x ↦ ap not x ]

pub tested-apart : (known : List Assumed) (p q : Piece) → (differ p q || assumed_apart known p q) ≡ true → ApartPieces (map pair known) p q
tested-apart known p q e = elim (or-true (differ p q) (assumed_apart known p q) e) [
  | inl x ↦ differ-apart (map pair known) p q x
  | inr x ↦ let h = and-true (not (one_name p q)) (has_pair known p q) x in found-apart known p q (is-two p q h.0) (assumed-found known p q h.1)
]

pub apart-tested : (known : List Assumed) (p q : Piece) → ApartPieces (map pair known) p q → (differ p q || assumed_apart known p q) ≡ true
apart-tested known p q (literals {a = a} {b = b} n) = or-first (not (bytes_eq a b)) (assumed_apart known p q) (literals-differ a b n)
apart-tested known p q (assumed {r = r} {s = s} two c i j) = or-second (differ p q) (assumed_apart known p q) (and-both (not (one_name p q)) (has_pair known p q) (two-is p q two)
    (assumed-holds known p q r s (in-contains (r, s) (map pair known) c) (in-contains p (pieces r) i) (in-contains q (pieces s) j)))
apart-tested known p q (turned {r = r} {s = s} two c i j) = or-second (differ p q) (assumed_apart known p q) (and-both (not (one_name p q)) (has_pair known p q) (two-is p q (two-turned q p two))
    (turned-holds known q p r s (in-contains (r, s) (map pair known) c) (in-contains q (pieces r) i) (in-contains p (pieces s) j)))

-- ---- rows

from-apart : (known : List Assumed) (p : Piece) (s : List Part) → apart_from known p s ≡ true → (q : Piece) → In q (pieces s) → ApartPieces (map pair known) p q
from-apart known p [] e q i = absurd i
from-apart known p (x ∷ s) e q (inl i) = subst (λ z. ApartPieces (map pair known) p z) i
    (tested-apart known p (piece_of x) (and-true (differ p (piece_of x) || assumed_apart known p (piece_of x)) (apart_from known p s) e).0)
from-apart known p (x ∷ s) e q (inr i) = from-apart known p s (and-true (differ p (piece_of x) || assumed_apart known p (piece_of x)) (apart_from known p s) e).1 q i

apart-from : (known : List Assumed) (p : Piece) (s : List Part) → ((q : Piece) → In q (pieces s) → ApartPieces (map pair known) p q) → apart_from known p s ≡ true
apart-from known p [] h = refl
apart-from known p (x ∷ s) h = and-both (differ p (piece_of x) || assumed_apart known p (piece_of x)) (apart_from known p s)
    (apart-tested known p (piece_of x) (h (piece_of x) (inl refl))) (apart-from known p s (λ q i. h q (inr i)))

tests-apart : (known : List Assumed) (r s : List Part) → is_apart known r s ≡ true → (p q : Piece) → In p (pieces r) → In q (pieces s) → ApartPieces (map pair known) p q
tests-apart known [] s e p q i j = absurd i
tests-apart known (x ∷ r) s e p q (inl i) j = subst (λ z. ApartPieces (map pair known) z q) i
    (from-apart known (piece_of x) s (and-true (apart_from known (piece_of x) s) (is_apart known r s) e).0 q j)
tests-apart known (x ∷ r) s e p q (inr i) j = tests-apart known r s (and-true (apart_from known (piece_of x) s) (is_apart known r s) e).1 p q i j

apart-tests : (known : List Assumed) (r s : List Part) → ((p q : Piece) → In p (pieces r) → In q (pieces s) → ApartPieces (map pair known) p q) → is_apart known r s ≡ true
apart-tests known [] s h = refl
apart-tests known (x ∷ r) s h = and-both (apart_from known (piece_of x) s) (is_apart known r s)
    (apart-from known (piece_of x) s (λ q j. h (piece_of x) q (inl refl) j)) (apart-tests known r s (λ p q i j. h p q (inr i) j))

pub is_apart-decides : (known : List Assumed) (r s : List Part) (b : Bool) → b ≡ is_apart known r s → IsTrue b ↔ Apart (map pair known) r s
is_apart-decides known r s b e = (
  λ t p q i j. tests-apart known r s (sym e ∙ t) p q (in-contains p (pieces r) i) (in-contains q (pieces s) j),
  λ h. e ∙ apart-tests known r s (λ p q i j. h p q (contains-in p (pieces r) i) (contains-in q (pieces s) j)),
)

-- ---- the pieces of one row

in-at : (p : Piece) (ps : List Piece) (i : ℕ) → i < length ps → In (slice_index_or ps i p) ps
in-at p [] i h = absurd (omega arith)
in-at p (q ∷ ps) zero h = inl refl
in-at p (q ∷ ps) (suc i) h = inr (in-at p ps i (omega arith))

in-all : (P : Piece → Type 0) (ps : List Piece) → ((q : Piece) → In q ps → P q) → All P ps
in-all P ps h = λ i d k. h (slice_index_or ps i d) (in-at d ps i k)

tests-all : (known : List Assumed) (r : List Part) → all_apart known r ≡ true → AreApart (map pair known) r
tests-all known [] e = λ i j d h k. absurd (omega arith)
tests-all known (x ∷ r) e =
    let a = and-true (apart_from known (piece_of x) r) (all_apart known r) e in
    AllPairs-cons (ApartPieces (map pair known)) (piece_of x) (pieces r) (in-all (ApartPieces (map pair known) (piece_of x)) (pieces r) (from-apart known (piece_of x) r a.0)) (tests-all known r a.1)

-- the pairs of a list with one element more at its front
first-apart : (known : Assumptions) (p : Piece) (ps : List Piece) → AllPairs (ApartPieces known) (p ∷ ps) → (q : Piece) → In q ps → ApartPieces known p q
first-apart known p ps a q i = let c = contains-in q ps i in subst (ApartPieces known p) c.2 (a 0 (suc c.0) q (omega arith) (omega (arith, c.1)))

later-apart : (known : Assumptions) (p : Piece) (ps : List Piece) → AllPairs (ApartPieces known) (p ∷ ps) → AllPairs (ApartPieces known) ps
later-apart known p ps a i j d h k = a (suc i) (suc j) d (omega arith) (omega arith)

all-tests : (known : List Assumed) (r : List Part) → AreApart (map pair known) r → all_apart known r ≡ true
all-tests known [] a = refl
all-tests known (x ∷ r) a = and-both (apart_from known (piece_of x) r) (all_apart known r)
    (apart-from known (piece_of x) r (first-apart (map pair known) (piece_of x) (pieces r) a)) (all-tests known r (later-apart (map pair known) (piece_of x) (pieces r) a))

pub all_apart-decides : (known : List Assumed) (r : List Part) (b : Bool) → b ≡ all_apart known r → IsTrue b ↔ AreApart (map pair known) r
all_apart-decides known r b e = (λ t. tests-all known r (sym e ∙ t), λ a. e ∙ all-tests known r a)

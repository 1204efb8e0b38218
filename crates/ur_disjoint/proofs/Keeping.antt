-- Disjointness is kept by substitution.
use Rattle.std.proofs.Common.{◌≡◌, refl, sym, ◌∙◌, subst, ℕ, zero, suc, ◌⊎◌, inl, inr, Bool, true, false, List, [], ◌∷◌, if◌then◌else◌}
use Rattle.ur_rows.specs.declared.normal.Var.{Var}
use Rattle.ur_rows.specs.declared.normal.Var.TheVariants as var
use Rattle.ur_rows.specs.declared.normal.Label.TheVariants as label
use Rattle.ur_rows.specs.declared.normal.NormalType.{NormalType}
use Rattle.ur_rows.specs.declared.normal.NormalType.TheVariants as ty
use Rattle.ur_rows.specs.declared.normal.NormalType.TheBlock.{end_of-NormalType as alone, more_of-NormalType as its}
use Rattle.ur_rows.specs.declared.normal.Part.{Part}
use Rattle.ur_rows.specs.declared.normal.Part.TheVariants as part
use Rattle.ur_rows.specs.declared.normal.Normal.{Normal}
use Rattle.ur_rows.specs.Order.{stands_before, with_part, joined}
use Rattle.ur_rows.specs.Put.{put_label, put_type, put_part, mapped_variable, mapped_part, mapped_row, composed, arguments, instance_row}
use Rattle.ur_rows.specs.Apart.{Piece, name, row, piece_of, pieces, Assumptions, ApartPieces, literals, assumed, turned}
use Rattle.ur_disjoint.specs.Kept.{ApartIsKept}
use Rattle.ur_disjoint.proofs.Members.{In, in-contains, contains-in}

-- ---- the pieces of a row built part by part

pub with-in : (x : Piece) (p : Part) (r : List Part) → In x (pieces (with_part p r)) → (piece_of p ≡ x) ⊎ In x (pieces r)
with-in x p [] i = i
with-in x p (q ∷ r) i = go (stands_before p q) refl (with-in x p r) where
  go : (b : Bool) → stands_before p q ≡ b → (In x (pieces (with_part p r)) → (piece_of p ≡ x) ⊎ In x (pieces r)) → (piece_of p ≡ x) ⊎ In x (pieces (q ∷ r))
  go true e ih = subst (λ b. In x (pieces (if b then p ∷ q ∷ r else q ∷ with_part p r))) e i
  go false e ih = later (subst (λ b. In x (pieces (if b then p ∷ q ∷ r else q ∷ with_part p r))) e i) where
    later : (piece_of q ≡ x) ⊎ In x (pieces (with_part p r)) → (piece_of p ≡ x) ⊎ In x (pieces (q ∷ r))
    later (inl y) = inr (inl y)
    later (inr y) = elim (ih y) [ inl z ↦ inl z | inr z ↦ inr (inr z) ]

in-with : (x : Piece) (p : Part) (r : List Part) → (piece_of p ≡ x) ⊎ In x (pieces r) → In x (pieces (with_part p r))
in-with x p [] i = i
in-with x p (q ∷ r) i = go (stands_before p q) refl (in-with x p r) where
  go : (b : Bool) → stands_before p q ≡ b → ((piece_of p ≡ x) ⊎ In x (pieces r) → In x (pieces (with_part p r))) → In x (pieces (with_part p (q ∷ r)))
  go true e ih = subst (λ b. In x (pieces (if b then p ∷ q ∷ r else q ∷ with_part p r))) (sym e) i
  go false e ih = subst (λ b. In x (pieces (if b then p ∷ q ∷ r else q ∷ with_part p r))) (sym e) (later i) where
    later : (piece_of p ≡ x) ⊎ In x (pieces (q ∷ r)) → (piece_of q ≡ x) ⊎ In x (pieces (with_part p r))
    later (inl y) = inr (ih (inl y))
    later (inr (inl y)) = inl y
    later (inr (inr y)) = inr (ih (inr y))

pub joined-in : (x : Piece) (r s : List Part) → In x (pieces (joined r s)) → In x (pieces r) ⊎ In x (pieces s)
joined-in x [] s i = inr i
joined-in x (p ∷ r) s i = elim (with-in x p (joined r s) i) [
  | inl y ↦ inl (inl y)
  | inr y ↦ elim (joined-in x r s y) [ inl z ↦ inl (inr z) | inr z ↦ inr z ]
]

in-joined : (x : Piece) (r s : List Part) → In x (pieces r) ⊎ In x (pieces s) → In x (pieces (joined r s))
in-joined x [] s (inl i) = absurd i
in-joined x [] s (inr i) = i
in-joined x (p ∷ r) s (inl (inl i)) = in-with x p (joined r s) (inl i)
in-joined x (p ∷ r) s (inl (inr i)) = in-with x p (joined r s) (inr (in-joined x r s (inl i)))
in-joined x (p ∷ r) s (inr i) = in-with x p (joined r s) (inr (in-joined x r s (inr i)))

-- ---- `map` keeps the pieces

pub variable-piece : (f : NormalType) (v : Var) → piece_of (mapped_variable f v) ≡ row v
variable-piece (ty.Variable (var.Bound n)) v = go n where
  go : (n : ℕ) → piece_of (mapped_variable (ty.Variable (var.Bound n)) v) ≡ row v
  go zero = refl
  go (suc n) = refl
variable-piece f v = refl

pub mapped-piece : (f : NormalType) (p : Part) → piece_of (mapped_part f p) ≡ piece_of p
mapped-piece f (part.Field' l _ (its t alone)) = refl
mapped-piece f (part.Piece v) = variable-piece f v
mapped-piece f (part.Mapped' v _ (its g alone)) = variable-piece (composed f g) v

pub mapped-in : (x : Piece) (f : NormalType) (r : List Part) → In x (pieces (mapped_row f r)) → In x (pieces r)
mapped-in x f [] i = i
mapped-in x f (p ∷ r) i = elim (with-in x (mapped_part f p) (mapped_row f r) i) [ inl y ↦ inl (sym (mapped-piece f p) ∙ y) | inr y ↦ inr (mapped-in x f r y) ]

in-mapped : (x : Piece) (f : NormalType) (r : List Part) → In x (pieces r) → In x (pieces (mapped_row f r))
in-mapped x f [] i = i
in-mapped x f (p ∷ r) (inl i) = in-with x (mapped_part f p) (mapped_row f r) (inl (mapped-piece f p ∙ i))
in-mapped x f (p ∷ r) (inr i) = in-with x (mapped_part f p) (mapped_row f r) (inr (in-mapped x f r i))

-- ---- what takes the place of a piece

module _ (args : List Normal) where
  abbrev pub put_piece : Piece → List Piece
  put_piece (name l) = name (put_label (arguments args) 0 l) ∷ []
  put_piece (row v) = pieces ((arguments args).rows 0 v)

  part-in : (x : Piece) (p : Part) → In x (pieces (put_part (arguments args) 0 p)) → In x (put_piece (piece_of p))
  part-in x (part.Field' l _ (its t alone)) i = i
  part-in x (part.Piece v) i = i
  part-in x (part.Mapped' v _ (its f alone)) i = mapped-in x (put_type (arguments args) 1 f) ((arguments args).rows 0 v) i

  in-part : (x : Piece) (p : Part) → In x (put_piece (piece_of p)) → In x (pieces (put_part (arguments args) 0 p))
  in-part x (part.Field' l _ (its t alone)) i = i
  in-part x (part.Piece v) i = i
  in-part x (part.Mapped' v _ (its f alone)) i = in-mapped x (put_type (arguments args) 1 f) ((arguments args).rows 0 v) i

  row-in : (x : Piece) (r : List Part) → In x (pieces (instance_row args r)) → (p : Piece) × In p (pieces r) × In x (put_piece p)
  row-in x [] i = absurd i
  row-in x (p ∷ r) i = go (joined-in x (put_part (arguments args) 0 p) (instance_row args r) i) (row-in x r) where
    go : In x (pieces (put_part (arguments args) 0 p)) ⊎ In x (pieces (instance_row args r)) →
        (In x (pieces (instance_row args r)) → (p : Piece) × In p (pieces r) × In x (put_piece p)) → (q : Piece) × In q (pieces (p ∷ r)) × In x (put_piece q)
    go (inl y) ih = (piece_of p, inl refl, part-in x p y)
    go (inr y) ih = let h = ih y in (h.0, inr h.1, h.2)

  pub in-row : (x p : Piece) (r : List Part) → In p (pieces r) → In x (put_piece p) → In x (pieces (instance_row args r))
  in-row x p [] i j = absurd i
  in-row x p (q ∷ r) (inl e) j = in-joined x (put_part (arguments args) 0 q) (instance_row args r) (inl (in-part x q (subst (λ z. In x (put_piece z)) (sym e) j)))
  in-row x p (q ∷ r) (inr i) j = in-joined x (put_part (arguments args) 0 q) (instance_row args r) (inr (in-row x p r i j))

pub other_way : {known : Assumptions} (p q : Piece) → ApartPieces known p q → ApartPieces known q p
other_way p q (literals n) = literals (λ e. n (sym e))
other_way p q (assumed two c i j) = turned two c i j
other_way p q (turned two c i j) = assumed two c i j

pub apart-kept : ApartIsKept
apart-kept known known' args r s holds h x y i j = go (row-in args x r (in-contains x (pieces (instance_row args r)) i)) (row-in args y s (in-contains y (pieces (instance_row args s)) j)) where
  pair : (p q : Piece) → ApartPieces known p q → In x (put_piece args p) → In y (put_piece args q) → ApartPieces known' x y
  pair p q (literals {a = a} {b = b} n) (inl e) (inl f) = subst (λ z. ApartPieces known' z y) e (subst (λ z. ApartPieces known' (name (label.Literal a)) z) f (literals n))
  pair p q (literals n) (inr e) f = absurd e
  pair p q (literals n) (inl e) (inr f) = absurd f
  pair p q (assumed {r = a} {s = b} two c k l) e f = holds a b c x y
      (contains-in x (pieces (instance_row args a)) (in-row args x p a (in-contains p (pieces a) k) e))
      (contains-in y (pieces (instance_row args b)) (in-row args y q b (in-contains q (pieces b) l) f))
  pair p q (turned {r = a} {s = b} two c k l) e f = other_way y x (holds a b c y x
      (contains-in y (pieces (instance_row args a)) (in-row args y q a (in-contains q (pieces a) k) f))
      (contains-in x (pieces (instance_row args b)) (in-row args x p b (in-contains p (pieces b) l) e)))

  go : (p : Piece) × In p (pieces r) × In x (put_piece args p) → (q : Piece) × In q (pieces s) × In y (put_piece args q) → ApartPieces known' x y
  go a b = pair a.0 b.0 (h a.0 b.0 (contains-in a.0 (pieces r) a.1) (contains-in b.0 (pieces s) b.1)) a.2 b.2

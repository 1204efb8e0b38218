-- Rows whose parts are apart from each other.
use Rattle.std.proofs.Common.{◌≡◌, refl, ap, sym, ◌∙◌, subst, ℕ, zero, suc, ◌<◌, arith, List, [], ◌∷◌, ◌++◌, length, slice_index_or, Contains}
use Rattle.std.proofs.lemmas.List.Elements.{Contains-get_or}
use Rattle.std.proofs.lemmas.List.Kept.{AllPairs-cons}
use mathlib.Core.List.{append_assoc}
use Rattle.ur_rows.specs.declared.normal.Part.{Part}
use Rattle.ur_rows.specs.Apart.{Piece, piece_of, pieces, Assumptions, ApartPieces, Apart, AreApart}
use Rattle.ur_xmltype.specs.Laws.{MeetingIsNotApart}

more-apart : (known : Assumptions) (p : Part) (rest : List Part) → Apart known (p ∷ []) rest → AreApart known rest → AreApart known (p ∷ rest)
more-apart known p rest a b =
    AllPairs-cons (ApartPieces known) (piece_of p) (pieces rest)
    (λ i d h. a (piece_of p) (slice_index_or (pieces rest) i d) (0, omega arith, refl) (Contains-get_or (pieces rest) i d h)) b

-- the parts before are apart from each other and from those that are left, which are to be apart from each other
pub record SoFar (known : Assumptions) (row left : List Part) : Type 0 where
  pub before : List Part
  pub is : row ≡ before ++ left
  pub all : AreApart known left → AreApart known row

pub so_far-next : (known : Assumptions) (row left : List Part) (p : Part) (rest : List Part) → SoFar known row left → left ≡ p ∷ rest → Apart known (p ∷ []) rest → SoFar known row rest
so_far-next known row left p rest s e a = record {
  before = s.before ++ (p ∷ []);
  is = s.is ∙ (ap (λ z. s.before ++ z) e ∙ sym (append_assoc s.before (p ∷ []) rest));
  all = λ b. s.all (subst (AreApart known) (sym e) (more-apart known p rest a b));
}

-- ---- a row that is refused

later-apart : (known : Assumptions) (before left : List Part) → AreApart known (before ++ left) → AreApart known left
later-apart known [] left a = a
later-apart known (x ∷ before) left a = later-apart known before left (λ i j d h k. a (suc i) (suc j) d (omega arith) (omega arith))

sole-piece : (p q : Piece) → Contains (p ∷ []) q → p ≡ q
sole-piece p q c = go c.0 c.1 c.2 where
  go : (k : ℕ) → k < length (p ∷ []) → slice_index_or (p ∷ []) k q ≡ q → p ≡ q
  go zero h e = e
  go (suc k) h e = absurd (omega arith)

first-apart : (known : Assumptions) (p : Part) (rest : List Part) → AreApart known (p ∷ rest) → Apart known (p ∷ []) rest
first-apart known p rest a q r c d =
    subst (λ z. ApartPieces known z r) (sole-piece (piece_of p) q c) (subst (λ z. ApartPieces known (piece_of p) z) d.2 (a 0 (suc d.0) r (omega arith) (omega (arith, d.1))))

pub meeting-not_apart : MeetingIsNotApart
meeting-not_apart names known r x m a = m.meet (first-apart known m.part m.behind (later-apart known m.before (m.part ∷ m.behind) (subst (AreApart known) m.is a)))

-- One byte of a text that is split.
use Rattle.std.proofs.Common.{◌≡◌, ℕ, true, false, ◌==◌, List, [], ◌∷◌, ◌++◌, refl, ap, sym, ◌∙◌}
use Rattle.std.specs.Prelude.{if◌then◌else◌}
use Rattle.ur_keeper_bodies.specs.Pieces.{grown, pieces}

grown-twice : (a b : List ℕ) (ps : List (List ℕ)) → grown a (grown b ps) ≡ grown (a ++ b) ps
grown-twice a b [] = refl
grown-twice a b (p ∷ ps) = ap (λ (x : List ℕ). x ∷ ps) (group a)
  where
    group : (a : List ℕ) → a ++ (b ++ p) ≡ (a ++ b) ++ p
    group [] = refl
    group (x ∷ a) = ap (λ r. x ∷ r) (group a)

pub grown-nothing : (mark : ℕ) (bytes : List ℕ) → grown [] (pieces mark bytes) ≡ pieces mark bytes
grown-nothing mark [] = refl
grown-nothing mark (b ∷ bytes) = elim (b == mark) as (λ t. grown [] (if t then [] ∷ pieces mark bytes else grown (b ∷ []) (pieces mark bytes)) ≡ (if t then [] ∷ pieces mark bytes else grown (b ∷ []) (pieces mark bytes))) [
  | true ↦ refl
  | false ↦ grown-twice [] (b ∷ []) (pieces mark bytes)
]

nothing : (xs : List ℕ) → xs ++ [] ≡ xs
nothing [] = refl
nothing (x ∷ xs) = ap (λ r. x ∷ r) (nothing xs)

pub ended : (mark byte : ℕ) (done : List (List ℕ)) (piece rest : List ℕ) → (byte == mark) ≡ true → (done ++ piece ∷ []) ++ grown [] (pieces mark rest) ≡ done ++ grown piece (pieces mark (byte ∷ rest))
ended mark byte done piece rest e =
    ap (λ (x : List (List ℕ)). (done ++ piece ∷ []) ++ x) (grown-nothing mark rest)
    ∙ group done
    ∙ ap (λ (x : List ℕ). done ++ x ∷ pieces mark rest) (sym (nothing piece))
    ∙ ap (λ t. done ++ grown piece (if t then [] ∷ pieces mark rest else grown (byte ∷ []) (pieces mark rest))) (sym e)
  where
    group : (xs : List (List ℕ)) → (xs ++ piece ∷ []) ++ pieces mark rest ≡ xs ++ piece ∷ pieces mark rest
    group [] = refl
    group (x ∷ xs) = ap (λ r. x ∷ r) (group xs)

pub went-on : (mark byte : ℕ) (done : List (List ℕ)) (piece rest : List ℕ) → (byte == mark) ≡ false → done ++ grown (piece ++ byte ∷ []) (pieces mark rest) ≡ done ++ grown piece (pieces mark (byte ∷ rest))
went-on mark byte done piece rest e =
    ap (λ (x : List (List ℕ)). done ++ x) (sym (grown-twice piece (byte ∷ []) (pieces mark rest)))
    ∙ ap (λ t. done ++ grown piece (if t then [] ∷ pieces mark rest else grown (byte ∷ []) (pieces mark rest))) (sym e)

pub split-end : (done : List (List ℕ)) (piece : List ℕ) → done ++ grown piece (pieces 0 []) ≡ done ++ piece ∷ []
split-end done piece = ap (λ (x : List ℕ). done ++ x ∷ []) (nothing piece)

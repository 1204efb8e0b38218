-- The steps of a fold that are left.
use Rattle.std.proofs.Common.{◌≡◌, ℕ, zero, suc, List, [], ◌∷◌, ◌++◌, take, reverse, Some, refl, sym, ap, subst, ◌∙◌, arith}
use Rattle.std.specs.Prelude.{slice_get, option_and_then}
use Rattle.std.specs.List.{AllZip}
use Rattle.std.proofs.lemmas.List.{reverse-append}
use Rattle.ur_source.specs.Reading.{Cons}
use Rattle.ur_unfold_static.specs.declared.node.Step.{Step}
use Rattle.ur_unfold_static.specs.Scopes.{StepIs}
use Rattle.ur_unfold_pieces.specs.declared.opening.Opening.{Opening}
use Rattle.ur_unfold_pieces.specs.Standing.{StepsLeft}

take_more : {A : Type 0} (xs : List A) (j : ℕ) (x : A) → slice_get xs j ≡ Some x → take (suc j) xs ≡ take j xs ++ x ∷ []
take_more [] j x e = absurd (cc)
take_more (a ∷ xs) zero x e = cc
take_more (a ∷ xs) (suc j) x e = ap (λ l. a ∷ l) (take_more xs j x e)

module _ {A B : Type 0} (P : A → B → Type 0) where
  more_left : (xs : List A) (x : A) → AllZip P (xs ++ x ∷ []) [] → ⊥
  more_left [] x h = absurd h
  more_left (y ∷ xs) x h = absurd h

  more_right : (ys : List B) (y : B) → AllZip P [] (ys ++ y ∷ []) → ⊥
  more_right [] y h = absurd h
  more_right (z ∷ ys) y h = absurd h

  zip_last : (xs : List A) (x : A) (ys : List B) (y : B) → AllZip P (xs ++ x ∷ []) (ys ++ y ∷ []) → AllZip P xs ys × P x y
  zip_last [] x [] y h = (tt, h.0)
  zip_last [] x (z ∷ ys) y h = absurd (more_right ys y h.1)
  zip_last (w ∷ xs) x [] y h = absurd (more_left xs x h.1)
  zip_last (w ∷ xs) x (z ∷ ys) y h =
      let r = zip_last xs x ys y h.1 in
      ((h.0, r.0), r.1)

  turned : (y : B) (ys : List B) → reverse (y ∷ ys) ≡ reverse ys ++ y ∷ []
  turned y ys = reverse-append (y ∷ []) ys

  pub none_left : (ys : List B) → AllZip P [] (reverse ys) → ys ≡ []
  none_left [] h = refl
  none_left (y ∷ ys) h = absurd (more_right (reverse ys) y (subst (AllZip P []) (turned y ys) h))

  -- the last of those that stand in turn
  pub record Ahead (xs : List A) (l : ℕ) (x : A) (ys : List B) : Type 0 where
    pub first : B
    pub rest : List B
    pub are : ys ≡ first ∷ rest
    pub here : P x first
    pub others : AllZip P (take l xs) (reverse rest)

  pub ahead : (xs : List A) (l : ℕ) (x : A) (ys : List B) → slice_get xs l ≡ Some x → AllZip P (take (suc l) xs) (reverse ys) → Ahead xs l x ys
  ahead xs l x [] e h = absurd (more_left (take l xs) x (subst (λ zs. AllZip P zs []) (take_more xs l x e) h))
  ahead xs l x (y ∷ ys) e h =
      let both = zip_last (take l xs) x (reverse ys) y (subst (λ zs. AllZip P zs (reverse ys ++ y ∷ [])) (take_more xs l x e) (subst (AllZip P (take (suc l) xs)) (turned y ys) h)) in
      record { first = y; rest = ys; are = refl; here = both.1; others = both.0 }

-- ---- of a table

-- the next step of those that are left, and the others
pub record Next (s : Opening) (steps l : ℕ) (at : Step) (ks : List Cons) : Type 0 where
  pub first : Cons
  pub rest : List Cons
  pub are : ks ≡ first ∷ rest
  pub here : StepIs s.closing at first
  pub others : StepsLeft s steps l rest

pub next_step : (s : Opening) (steps left l : ℕ) (at : Step) (ks : List Cons) → left ≡ suc l → option_and_then (λ ss. slice_get ss l) (slice_get s.folds steps) ≡ Some at → StepsLeft s steps left ks
    → Next s steps l at ks
next_step s steps left l at ks e found h =
    let there : slice_get h.0 l ≡ Some at = ap (option_and_then (λ (ss : List Step). slice_get ss l)) (sym h.1) ∙ found in
    let a = ahead (StepIs s.closing) h.0 l at ks there (subst (λ n. AllZip (StepIs s.closing) (take n h.0) (reverse ks)) e h.3) in
    record { first = a.first; rest = a.rest; are = a.are; here = a.here; others = (h.0, h.1, omega (arith, e, h.2), a.others) }

pub no_step : (s : Opening) (steps left : ℕ) (ks : List Cons) → left ≡ 0 → StepsLeft s steps left ks → ks ≡ []
no_step s steps left ks e h = none_left (StepIs s.closing) ks (subst (λ n. AllZip (StepIs s.closing) (take n h.0) (reverse ks)) e h.3)

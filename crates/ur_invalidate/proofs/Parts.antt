-- The parts of a term are smaller, and have its atoms.
use Rattle.std.proofs.Common.{◌≡◌, ℕ, ◌<◌, List, [], ◌∷◌, ◌++◌, length, ap, arith, length-append}
use Rattle.ur_sql.specs.declared.term.SqlTerm.{SqlTerm}
use Rattle.ur_conditions.specs.Terms.{subterms, HasAtoms}
use Rattle.ur_invalidate.proofs.Shapes.{IsApplication}

pub record ArePartsOf (a b : SqlTerm) (size : ℕ) : Type 0 where
  pub left : HasAtoms a
  pub right : HasAtoms b
  pub left_smaller : length (subterms a) < size
  pub right_smaller : length (subterms b) < size

pub both_parts : (term a b : SqlTerm) (f size : ℕ) → IsApplication term f (a ∷ b ∷ []) → HasAtoms term → length (subterms term) ≡ size → ArePartsOf a b size
both_parts term a b f size is atoms whole =
    let each = is.atoms atoms in
    let e = ap (λ (xs : List SqlTerm). length xs) is.terms in
    let left = length-append (subterms a) (subterms b ++ []) in
    let right = length-append (subterms b) [] in
    record { left = each.0; right = each.1.0; left_smaller = omega (arith, e, left, right, whole); right_smaller = omega (arith, e, left, right, whole) }

pub record IsPartOf (a : SqlTerm) (size : ℕ) : Type 0 where
  pub atoms : HasAtoms a
  pub smaller : length (subterms a) < size

pub one_part : (term a : SqlTerm) (f size : ℕ) → IsApplication term f (a ∷ []) → HasAtoms term → length (subterms term) ≡ size → IsPartOf a size
one_part term a f size is atoms whole =
    let each = is.atoms atoms in
    let e = ap (λ (xs : List SqlTerm). length xs) is.terms in
    let right = length-append (subterms a) [] in
    record { atoms = each.0; smaller = omega (arith, e, right, whole) }

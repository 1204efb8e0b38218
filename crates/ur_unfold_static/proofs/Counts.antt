-- How many static names parameters bind, from a place on.
use Rattle.std.proofs.Common.{◌≡◌, ◌<◌, ℕ, suc, ◌+◌, Bool, true, false, if◌then◌else◌, List, ◌∷◌, filter, length, drop, get_or, refl, ap, ◌∙◌, arith}
use Rattle.ur_tree.specs.declared.exp.Param.{Param}
use Rattle.ur_source.specs.Names.{fixed_count, acc_count}
use Rattle.ur_unfold_static.proofs.Names.{at-here}

count-first : (p : Param) (ps : List Param) → fixed_count (p ∷ ps) ≡ acc_count p.fixed + fixed_count ps
count-first p ps = by p.fixed refl
  where
    by : (b : Bool) → p.fixed ≡ b → fixed_count (p ∷ ps) ≡ acc_count p.fixed + fixed_count ps
    by true e =
        let one : acc_count p.fixed ≡ 1 = ap acc_count e in
        let first : fixed_count (p ∷ ps) ≡ suc (fixed_count ps) = ap (λ b. length (if b then p ∷ filter (λ q. q.fixed) ps else filter (λ q. q.fixed) ps)) e in
        omega (arith, one, first)
    by false e =
        let no : acc_count p.fixed ≡ 0 = ap acc_count e in
        let first : fixed_count (p ∷ ps) ≡ fixed_count ps = ap (λ b. length (if b then p ∷ filter (λ q. q.fixed) ps else filter (λ q. q.fixed) ps)) e in
        omega (arith, no, first)

pub count-here : (r : List Param) (i : ℕ) (p : Param) → i < length r → p ≡ get_or r i p
    → fixed_count (drop i r) ≡ acc_count p.fixed + fixed_count (drop (i + 1) r)
count-here r i p h e = ap fixed_count (at-here r i p h e) ∙ count-first p (drop (i + 1) r)

pub ruleset counted = (count-here)

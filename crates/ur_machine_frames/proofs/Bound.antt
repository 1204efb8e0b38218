-- Variables under binders.
use Rattle.std.proofs.Common.{◌≡◌, ◌≢◌, ℕ, zero, suc, ◌+◌, ℤ, Bool, true, false, List, [], ◌∷◌, ◌++◌, length, Option, Some, None, refl, sym, ap, subst, ◌∙◌, arith}
use Rattle.std.specs.Prelude.{slice_get, ◌==◌}
use Rattle.std.specs.Str.{bytes_eq}
use Rattle.std.specs.Ordering.{int_eq, bool_cmp, is_eq}
use Rattle.ur_values.specs.declared.value.Value.{Value, out-Value}
use Rattle.ur_values.specs.declared.value.Node.TheOpen as o
use Rattle.ur_terms.specs.declared.term.Pattern.{Pattern}
use Rattle.ur_terms.specs.declared.term.Pattern.TheVariants as p
use Rattle.ur_terms.specs.Values.{Open}
use Rattle.ur_terms.specs.Run.{if_matches, if_empty, first_and_rest, held_by, matched, matched_open}
use Rattle.ur_machine_frames.specs.Unread.{under, OfBound, SameBut, there, further}

-- another variable holds the same
pub other_same : (i j : ℕ) (env env' : List Value) → j ≢ i → SameBut i env env' → slice_get env j ≡ slice_get env' j
other_same zero zero _ _ u (there x y env) = absurd (u refl)
other_same zero (suc j) _ _ u (there x y env) = refl
other_same (suc i) zero _ _ u (further _ x env env' h) = refl
other_same (suc i) (suc j) _ _ u (further _ x env env' h) = other_same i j env env' (λ e. u (ap suc e)) h

pub bound_same : (xs : List Value) (i : ℕ) (env env' : List Value) → SameBut i env env' → SameBut (under (length xs) i) (xs ++ env) (xs ++ env')
bound_same [] i env env' h = h
bound_same (x ∷ xs) i env env' h = further _ x _ _ (bound_same xs i env env' h)

pub under_sum : (n i : ℕ) → under n i ≡ i + n
under_sum zero i = omega arith
under_sum (suc n) i = omega (arith, under_sum n i)

-- ---- what a pattern binds

of_length : (P : ℕ → Type 0) (xs bound : List Value) → Some xs ≡ Some bound → P (length xs) → P (length bound)
of_length P xs bound e h = subst (λ l. P (length l)) (cc) h

matching_bound : (P : ℕ → Type 0) (b : Bool) (xs bound : List Value) → if_matches b xs ≡ Some bound → P (length xs) → P (length bound)
matching_bound P true xs bound e h = of_length P xs bound e h
matching_bound P false xs bound e h = cc

held_bound : (P : ℕ → Type 0) (b : Bool) (x : Option Value) (bound : List Value) → if_matches b (held_by x) ≡ Some bound → P 0 → P 1 → P (length bound)
held_bound P b None bound e h k = matching_bound P b [] bound e h
held_bound P b (Some x) bound e h k = matching_bound P b (x ∷ []) bound e k

empty_bound : (P : ℕ → Type 0) (xs bound : List Value) → if_empty xs ≡ Some bound → P 0 → P (length bound)
empty_bound P [] bound e h = of_length P [] bound e h
empty_bound P (x ∷ xs) bound e h = cc

cons_bound : (P : ℕ → Type 0) (xs bound : List Value) → first_and_rest xs ≡ Some bound → P 2 → P (length bound)
cons_bound P [] bound e h = cc
cons_bound P (x ∷ xs) bound e h = of_length P _ bound e h

open_bound : (P : ℕ → Type 0) (q : Pattern) (x : Open) (bound : List Value) → matched_open q x ≡ Some bound → OfBound q P → P (length bound)
open_bound P (p.Int i) (o.Int j) bound e h = matching_bound P (int_eq i j) [] bound e h
open_bound P (p.Str s) (o.Str t) bound e h = matching_bound P (bytes_eq s t) [] bound e h
open_bound P (p.Bool a) (o.Bool b) bound e h = matching_bound P (is_eq (bool_cmp a b)) [] bound e h
open_bound P p.Absent o.Absent bound e h = of_length P [] bound e h
open_bound P p.Present (o.Present x) bound e h = of_length P (x ∷ []) bound e h
open_bound P p.Empty (o.Many xs) bound e h = empty_bound P xs bound e h
open_bound P p.Cons (o.Many xs) bound e h = cons_bound P xs bound e h
open_bound P (p.Tagged c) (o.Tagged d x) bound e h = held_bound P (c == d) x bound e h.0 h.1
open_bound P _ _ bound e h = cc

pub pattern_bound : (P : ℕ → Type 0) (q : Pattern) (x : Value) (bound : List Value) → matched q x ≡ Some bound → OfBound q P → P (length bound)
pattern_bound P p.Any x bound e h = of_length P (x ∷ []) bound e h
pattern_bound P (p.Int i) x bound e h = open_bound P (p.Int i) (out-Value x) bound e h
pattern_bound P (p.Str s) x bound e h = open_bound P (p.Str s) (out-Value x) bound e h
pattern_bound P (p.Bool b) x bound e h = open_bound P (p.Bool b) (out-Value x) bound e h
pattern_bound P p.Absent x bound e h = open_bound P p.Absent (out-Value x) bound e h
pattern_bound P p.Present x bound e h = open_bound P p.Present (out-Value x) bound e h
pattern_bound P p.Empty x bound e h = open_bound P p.Empty (out-Value x) bound e h
pattern_bound P p.Cons x bound e h = open_bound P p.Cons (out-Value x) bound e h
pattern_bound P (p.Tagged c) x bound e h = open_bound P (p.Tagged c) (out-Value x) bound e h

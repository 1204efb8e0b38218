-- Bytes that are given piece by piece.
use Rattle.std.proofs.Common.{◌≡◌, ℕ, ◌+◌, List, [], ◌∷◌, ◌++◌, length, take, drop, Option, Some, None, slice_range, refl, sym, ap, ◌∙◌, append_assoc, append-nil}
use Rattle.std.proofs.Math.Seq.{take-add}
use Rattle.std.proofs.lemmas.List.{take-append-drop, take_rest}
use Rattle.ur_base.specs.Told.{WhereTold}
use Rattle.ur_io.specs.Fronts.{IsFront}
use Rattle.ur_io.specs.Traffic.{onto_last, after_write}

-- adding two pieces one after the other is adding them joined
pub record Gathers {A : Type 0} (add : A → List ℕ → A) : Type 0 where
  pub none : (a : A) → add a [] ≡ a
  pub more : (a : A) (xs ys : List ℕ) → add (add a xs) ys ≡ add a (xs ++ ys)

-- what is told now is what was told first with these bytes added
abbrev pub Added : {A : Type 0} → (A → List ℕ → A) → Option A → List ℕ → Option A → Type 0
Added add first bytes now = WhereTold first (λ a. now ≡ Some (add a bytes))

pub added-none : {A : Type 0} (add : A → List ℕ → A) → Gathers add → (told : Option A) → Added add told [] told
added-none add gathers None = tt
added-none add gathers (Some a) = ap Some (sym (gathers.none a))

pub added-more : {A : Type 0} (add : A → List ℕ → A) → Gathers add → (first middle last : Option A) (n m : ℕ) (bytes : List ℕ) →
    Added add first (take n bytes) middle → Added add middle (take m (slice_range bytes n (length bytes))) last →
    Added add first (take (n + m) bytes) last
added-more add gathers None middle last n m bytes before more = tt
added-more add gathers (Some a) middle last n m bytes before more =
    let front = take n bytes in
    let piece = take m (drop n bytes) in
    let whole : Added add middle piece last = rw (take_rest bytes n) at more in
    let told : Added add (Some (add a front)) piece last = rw before at whole in
    told ∙ ap Some (gathers.more a front piece ∙ ap (add a) (sym (take-add n m bytes)))

pub front-taken : (n : ℕ) (bytes : List ℕ) → IsFront (take n bytes) bytes
front-taken n bytes = (drop n bytes, sym (take-append-drop n bytes))

onto_last-none : (lists : List (List ℕ)) → onto_last lists [] ≡ lists
onto_last-none [] = refl
onto_last-none (last ∷ []) = simp append-nil
onto_last-none (first ∷ second ∷ rest) = ap (λ lists. first ∷ lists) (onto_last-none (second ∷ rest))

onto_last-more : (lists : List (List ℕ)) (xs ys : List ℕ) → onto_last (onto_last lists xs) ys ≡ onto_last lists (xs ++ ys)
onto_last-more [] xs ys = refl
onto_last-more (last ∷ []) xs ys = ap (λ bytes. bytes ∷ []) (append_assoc last xs ys)
onto_last-more (first ∷ second ∷ []) xs ys = ap (λ lists. first ∷ lists) (onto_last-more (second ∷ []) xs ys)
onto_last-more (first ∷ second ∷ third ∷ rest) xs ys = ap (λ lists. first ∷ lists) (onto_last-more (second ∷ third ∷ rest) xs ys)

pub onto_wire : Gathers after_write
onto_wire = record {
  none = λ t. ap (λ given. record t { given = given }) (onto_last-none t.given);
  more = λ t xs ys. ap (λ given. record t { given = given }) (onto_last-more t.given xs ys);
}

pub onto_sink : Gathers (λ (given bytes : List ℕ). given ++ bytes)
onto_sink = record { none = λ given. append-nil given; more = λ given xs ys. append_assoc given xs ys }

-- a failed call left what was told, so a front of the bytes was given
pub front_given : {A : Type 0} (add : A → List ℕ → A) (first middle last : Option A) (n : ℕ) (bytes : List ℕ) →
    Added add first (take n bytes) middle → last ≡ middle →
    WhereTold first (λ a. (front : List ℕ) × IsFront front bytes × (last ≡ Some (add a front)))
front_given add None middle last n bytes before same = tt
front_given add (Some a) middle last n bytes before same = (take n bytes, front-taken n bytes, same ∙ before)

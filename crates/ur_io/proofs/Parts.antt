-- Bytes that are given in parts, one for each connection.
use Rattle.std.proofs.Common.{◌≡◌, ℕ, zero, suc, ◌+◌, ◌-◌, ◌<◌, ◌≤◌, List, [], ◌∷◌, ◌++◌, length, take, drop, get_or, slice_get, Some, refl, sym, subst, ap, ◌∙◌, arith, add-one}
use Rattle.std.proofs.Math.Seq.{drop-length}
use Rattle.std.proofs.lemmas.List.{take_rest, take-append-le, drop-append-le, length-drop}
use Rattle.ur_io.specs.Memory.{cut_at, Rises}
use Rattle.ur_io.specs.Traffic.{onto_last}

-- the first start is not beyond the end
first_within : (start : ℕ) (starts : List ℕ) (end : ℕ) → Rises (start ∷ starts) end → start ≤ end
first_within start [] end rises = rises
first_within start (next ∷ starts) end rises = omega (arith, rises.0, first_within next starts end rises.1)

-- a part ends where the next one starts, or at the end of all
pub record IsPart (starts bytes : List ℕ) (k end : ℕ) : Type 0 where
  pub within : end ≤ length bytes
  pub rises : get_or starts k 0 ≤ end
  pub part : slice_get (cut_at starts bytes) k ≡ Some (take (end - get_or starts k 0) (drop (get_or starts k 0) bytes))

part_at : (starts bytes : List ℕ) (k : ℕ) → k < length starts → Rises starts (length bytes) → IsPart starts bytes k (get_or starts (suc k) (length bytes))
part_at [] bytes k within rises = absurd (omega arith)
part_at (start ∷ []) bytes zero within rises = record { within = omega arith; rises = rises; part = ap Some (sym (take_rest bytes start)) }
part_at (start ∷ []) bytes (suc k) within rises = absurd (omega arith)
part_at (start ∷ next ∷ starts) bytes zero within rises =
    record { within = first_within next starts (length bytes) rises.1; rises = rises.0; part = refl }
part_at (start ∷ next ∷ starts) bytes (suc k) within rises =
    let rest = part_at (next ∷ starts) bytes k (omega arith) rises.1 in
    record { within = rest.within; rises = rest.rises; part = rest.part }

pub part_is : (starts bytes : List ℕ) (k end : ℕ) → k < length starts → Rises starts (length bytes) →
    get_or starts (k + 1) (length bytes) ≡ end → IsPart starts bytes k end
part_is starts bytes k end within rises e =
    let here : get_or starts (suc k) (length bytes) ≡ end = rw add-one at e in
    subst (λ n. IsPart starts bytes k n) here (part_at starts bytes k within rises)

-- one more part, of which nothing is given yet
pub cut_more : (starts bytes : List ℕ) → cut_at (starts ++ length bytes ∷ []) bytes ≡ cut_at starts bytes ++ [] ∷ []
cut_more [] bytes = ap (λ part. part ∷ []) (drop-length bytes)
cut_more (start ∷ []) bytes = rw (take_rest bytes start, drop-length bytes) refl
cut_more (start ∷ next ∷ starts) bytes = ap (λ parts. take (next - start) (drop start bytes) ∷ parts) (cut_more (next ∷ starts) bytes)

pub rises_more : (starts : List ℕ) (end : ℕ) → Rises starts end → Rises (starts ++ end ∷ []) end
rises_more [] end rises = omega arith
rises_more (start ∷ []) end rises = (rises, omega arith)
rises_more (start ∷ next ∷ starts) end rises = (rises.0, rises_more (next ∷ starts) end rises.1)

-- the end moves on
pub rises_on : (starts : List ℕ) (end later : ℕ) → end ≤ later → Rises starts end → Rises starts later
rises_on [] end later on rises = tt
rises_on (start ∷ []) end later on rises = omega (arith, rises)
rises_on (start ∷ next ∷ starts) end later on rises = (rises.0, rises_on (next ∷ starts) end later on rises.1)

-- bytes given go to the last part
part_same : (start next : ℕ) (bytes more : List ℕ) → start ≤ next → next ≤ length bytes →
    take (next - start) (drop start (bytes ++ more)) ≡ take (next - start) (drop start bytes)
part_same start next bytes more rise within =
    let held : next - start ≤ length (drop start bytes) = omega (arith, length-drop start bytes) in
    ap (take (next - start)) (drop-append-le start bytes more (omega arith)) ∙ take-append-le (next - start) (drop start bytes) more held

pub cut_onto : (starts bytes more : List ℕ) → Rises starts (length bytes) → cut_at starts (bytes ++ more) ≡ onto_last (cut_at starts bytes) more
cut_onto [] bytes more rises = refl
cut_onto (start ∷ []) bytes more rises = let within : start ≤ length bytes = rises in ap (λ part. part ∷ []) (drop-append-le start bytes more within)
cut_onto (start ∷ next ∷ []) bytes more rises =
    rw (part_same start next bytes more rises.0 rises.1)
    (ap (λ parts. take (next - start) (drop start bytes) ∷ parts) (cut_onto (next ∷ []) bytes more rises.1))
cut_onto (start ∷ next ∷ third ∷ starts) bytes more rises =
    rw (part_same start next bytes more rises.0 (first_within next (third ∷ starts) (length bytes) rises.1))
    (ap (λ parts. take (next - start) (drop start bytes) ∷ parts) (cut_onto (next ∷ third ∷ starts) bytes more rises.1))

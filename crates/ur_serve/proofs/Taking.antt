-- What is taken of a connection's input, read after read, and the marks before the last.
use Rattle.std.proofs.Common.{◌≡◌, ◌≤◌, ◌<◌, ◌+◌, ◌-◌, ◌*◌, ℕ, List, [], ◌∷◌, ◌++◌, length, take, All, Option, Some, None, refl, sym, ap, subst, ◌∙◌}
use Rattle.std.proofs.Common.{arith, append_assoc, length-append}
use Rattle.std.proofs.Math.Nat.{add-mul, mul-le-mul_right}
use Rattle.std.proofs.Math.Seq.{take-append_seam}
use Rattle.std.proofs.lemmas.List.Elements.{All-take}
use Rattle.ur_base.specs.Told.{WhereTold, Tells}
use Rattle.ur_io.specs.Traffic.{Traffic, after_write}
use Rattle.ur_io.specs.declared.session.Mark.{Mark}
use Rattle.ur_io.specs.declared.session.Mark.TheVariants as mark
use Rattle.ur_io.specs.declared.session.Why.{Why}
use Rattle.ur_io.specs.declared.session.Why.TheVariants.{End, Truncated, Closed, Full, Wire}
use Rattle.ur_serve.specs.Arrivals.{HasTaken}
use Rattle.ur_serve.specs.Saying.{Writes}

-- at most so many bytes were taken, where the wire tells
abbrev pub Taken : Option Traffic → Option Traffic → ℕ → Type 0
Taken told0 told n = WhereTold told0 (λ t. Tells told (HasTaken n t))

pub taken_none : (told : Option Traffic) (n : ℕ) → Taken told told n
taken_none None n = tt
taken_none (Some t) n = ([], refl, omega arith)

pub taken_weaker : (told0 told : Option Traffic) (m n : ℕ) → m ≤ n → Taken told0 told m → Taken told0 told n
taken_weaker None told m n fewer taken = tt
taken_weaker (Some t) None m n fewer taken = absurd taken
taken_weaker (Some t) (Some u) m n fewer (front, is, few) = (front, is, omega (arith, few, fewer))

pub taken_more : (told0 told1 told2 : Option Traffic) (m n : ℕ) → Taken told0 told1 m → Taken told1 told2 n → Taken told0 told2 (m + n)
taken_more None told1 told2 m n taken more = tt
taken_more (Some t) None told2 m n taken more = absurd taken
taken_more (Some t) (Some u) None m n taken more = absurd more
taken_more (Some t) (Some u) (Some v) m n (front, is, few) (next, also, some) =
    (front ++ next, is ∙ ap (λ l. front ++ l) also ∙ sym (append_assoc front next v.left), omega (arith, length-append front next, few, some))

-- one read more, where the splitter held so many bytes at first and so many before and behind it
pub taken_fed : (told0 told1 told2 : Option Traffic) (first before now n : ℕ) → Taken told0 told1 (before - first) → first ≤ before
    → WhereTold told1 (λ t. Tells told2 (HasTaken n t)) → now ≡ before + n → Taken told0 told2 (now - first)
taken_fed told0 told1 told2 first before now n taken grown more is =
    taken_weaker told0 told2 (before - first + n) (now - first) (omega (arith, grown, is)) (taken_more told0 told1 told2 (before - first) n taken more)

-- ---- what is given takes nothing

written : (v w : Traffic) (bytes : List ℕ) → Some w ≡ Some (after_write v bytes) → Taken (Some v) (Some w) 0
written v w bytes e = let same : w ≡ after_write v bytes = cc in ([], ap (λ (t : Traffic). t.left) (sym same), omega arith)

pub taken_written : (told0 told1 : Option Traffic) (bytes : List ℕ) (over : Option Why) → WhereTold told0 (λ v. Writes v bytes over told1) → Taken told0 told1 0
taken_written None told1 bytes over writes = tt
taken_written (Some v) (Some w) bytes None writes = written v w bytes writes
taken_written (Some v) (Some w) bytes (Some Wire) (front, is, wrote) = written v w front wrote
taken_written (Some v) (Some w) bytes (Some End) writes = written v w bytes writes
taken_written (Some v) (Some w) bytes (Some Truncated) writes = written v w bytes writes
taken_written (Some v) (Some w) bytes (Some Closed) writes = written v w bytes writes
taken_written (Some v) (Some w) bytes (Some Full) writes = written v w bytes writes
taken_written (Some v) None bytes None writes = absurd (cc)
taken_written (Some v) None bytes (Some Wire) (front, is, wrote) = absurd (cc)
taken_written (Some v) None bytes (Some End) writes = absurd (cc)
taken_written (Some v) None bytes (Some Truncated) writes = absurd (cc)
taken_written (Some v) None bytes (Some Closed) writes = absurd (cc)
taken_written (Some v) None bytes (Some Full) writes = absurd (cc)

-- ---- rounds, in each of which at most `most` bytes are taken

one_more : (k n most : ℕ) → k < n → k * most + most ≤ n * most
one_more k n most less =
    let next : (k + 1) * most ≤ n * most = mul-le-mul_right most (omega (arith, less)) in
    let sum : (k + 1) * most ≡ k * most + 1 * most = add-mul k 1 most in
    let one : 1 * most ≡ most = omega arith in
    omega (arith, next, sum, one)

pub taken_ended : (told0 told1 told2 : Option Traffic) (k n most : ℕ) → Taken told0 told1 (k * most) → Taken told1 told2 most → k < n → Taken told0 told2 (n * most)
taken_ended told0 told1 told2 k n most sofar more less =
    taken_weaker told0 told2 (k * most + most) (n * most) (one_more k n most less) (taken_more told0 told1 told2 (k * most) most sofar more)

pub taken_round : (told0 told1 told2 told3 : Option Traffic) (bytes : List ℕ) (over : Option Why) (k n most : ℕ) → Taken told0 told1 (k * most) → Taken told1 told2 most
    → WhereTold told2 (λ v. Writes v bytes over told3) → k < n → Taken told0 told3 (n * most)
taken_round told0 told1 told2 told3 bytes over k n most sofar more writes less =
    taken_weaker told0 told3 (n * most + 0) (n * most) (omega arith)
    (taken_more told0 told2 told3 (n * most) 0 (taken_ended told0 told1 told2 k n most sofar more less) (taken_written told2 told3 bytes over writes))

-- ---- the marks before the last

pub all_before : (marks before : List Mark) (m : Mark) → All (λ k. k ≡ mark.Done) marks → marks ≡ before ++ m ∷ [] → All (λ k. k ≡ mark.Done) before
all_before marks before m all is =
    subst (All (λ k. k ≡ mark.Done)) (ap (take (length before)) is ∙ take-append_seam before (m ∷ [])) (All-take (λ k. k ≡ mark.Done) (length before) marks all)

pub last_said : (marks : List Mark) (x : Mark) (before : List Mark) (m : Mark) → All (λ k. k ≡ mark.Done) marks → marks ++ x ∷ [] ≡ before ++ m ∷ [] → All (λ k. k ≡ mark.Done) before
last_said marks x before m all is =
    let long : length before ≡ length marks = omega (arith, ap length is, length-append marks (x ∷ []), length-append before (m ∷ [])) in
    let same : marks ≡ before = sym (take-append_seam marks (x ∷ [])) ∙ ap (take (length marks)) is ∙ ap (λ n. take n (before ++ m ∷ [])) (sym long) ∙ take-append_seam before (m ∷ []) in
    subst (All (λ k. k ≡ mark.Done)) same all

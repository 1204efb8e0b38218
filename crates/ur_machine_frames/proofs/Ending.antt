-- How far a variable is read, from what is known of the frames.
use Rattle.std.proofs.Common.{◌≡◌, ℕ, zero, suc, ◌+◌, ◌-◌, ◌<◌, List, [], ◌∷◌, ◌++◌, length, drop, Some, refl, sym, ap, subst, ◌∙◌, arith, Bor}
use Rattle.std.specs.Prelude.{reverse, slice_set}
use Rattle.std.proofs.lemmas.List.{reverse-append, length-reverse}
use Rattle.ur_terms.specs.declared.term.Op.{Op}
use Rattle.ur_terms.specs.declared.term.Branch.{Branch}
use Rattle.ur_terms.specs.declared.term.Term.{Term, out-Term}
use Rattle.ur_terms.specs.declared.term.Term.TheVariants as t
use Rattle.ur_terms.specs.declared.term.Function.{Function}
use Rattle.ur_values.specs.declared.value.Value.{Value}
use Rattle.ur_machine_frames.specs.Unread.{under, Unread, AreUnread, AreBranchesUnread}
use Rattle.ur_machine_frames.specs.declared.frame.Frame.{Frame}
use Rattle.ur_machine_frames.specs.declared.frame.Frame.TheVariants as frame
use Rattle.ur_machine_frames.specs.Rest.{standing}
use Rattle.ur_machine_frames.specs.Steps.{below}
use Rattle.ur_machine_frames.specs.Places.{AreLed}
use Rattle.ur_machine_frames.specs.Over.{Outside, LeavesUnread, IsThere, IsOver}

pub no_items : {A : Type 0} (xs : List A) → 0 ≡ length xs → xs ≡ []
no_items [] e = refl
no_items (x ∷ xs) e = absurd (omega arith)

-- ---- binders

pub outside_within : (n i : ℕ) (P : ℕ → Type 0) → i < n → Outside n i P
outside_within zero i P h = absurd (omega arith)
outside_within (suc n) zero P h = tt
outside_within (suc n) (suc i) P h = outside_within n i P (omega arith)

pub outside_past : (n i : ℕ) (P : ℕ → Type 0) → (i < n → ⊥) → P (i - n) → Outside n i P
outside_past zero i P h k = subst P (omega arith) k
outside_past (suc n) zero P h k = absurd (h (omega arith))
outside_past (suc n) (suc i) P h k = outside_past n i P (λ l. h (omega arith)) (subst P (omega arith) k)

-- ---- what a frame leaves of its term

pub leaves_make : (place : Term) (op : Op) (args : List Term) (done : List Value) (i : ℕ) → place ≡ t.Make op args → AreUnread i (drop (suc (length done)) args)
    → LeavesUnread (frame.Args done) (out-Term place) i
leaves_make place op args done i e h = subst (λ p. LeavesUnread (frame.Args done) p i) (sym (ap out-Term e ∙ t.outs-Make op args)) h

pub leaves_call : (place : Term) (f : ℕ) (args : List Term) (done : List Value) (i : ℕ) → place ≡ t.Call f args → AreUnread i (drop (suc (length done)) args)
    → LeavesUnread (frame.Args done) (out-Term place) i
leaves_call place f args done i e h = subst (λ p. LeavesUnread (frame.Args done) p i) (sym (ap out-Term e ∙ t.outs-Call f args)) h

pub leaves_let : (place : Term) (args : List Term) (body : Term) (done : List Value) (i : ℕ) → place ≡ t.Let args body → length done < length args → AreUnread i (drop (suc (length done)) args)
    → Unread (under (length args) i) body → LeavesUnread (frame.Args done) (out-Term place) i
leaves_let place args body done i e l h k = subst (λ p. LeavesUnread (frame.Args done) p i) (sym (ap out-Term e ∙ t.outs-Let args body)) (l, h, k)

pub leaves_choice : (place q a b : Term) (i : ℕ) → place ≡ t.If q a b → Unread i a → Unread i b → LeavesUnread frame.Condition (out-Term place) i
leaves_choice place q a b i e h k = subst (λ p. LeavesUnread frame.Condition p i) (sym (ap out-Term e ∙ t.outs-If q a b)) (h, k)

pub leaves_case : (place q : Term) (bs : List Branch) (i : ℕ) → place ≡ t.Case q bs → AreBranchesUnread i bs → LeavesUnread frame.Subject (out-Term place) i
leaves_case place q bs i e h = subst (λ p. LeavesUnread frame.Subject p i) (sym (ap out-Term e ∙ t.outs-Case q bs)) h

pub leaves_rows : (place q body : Term) (i : ℕ) → place ≡ t.Each q body → Unread (suc i) body → LeavesUnread frame.Rows (out-Term place) i
leaves_rows place q body i e h = subst (λ p. LeavesUnread frame.Rows p i) (sym (ap out-Term e ∙ t.outs-Each q body)) h

-- ---- places

pub led_under : (fs : List Function) (under : List Frame) (f : Frame) (known : List (Bor Term)) (p : Bor Term) → AreLed fs (reverse (under ++ f ∷ [])) (reverse (known ++ p ∷ []))
    → AreLed fs (reverse under) (reverse known)
led_under fs under f known p h =
    (subst (λ l. AreLed fs l (p ∷ reverse known)) (reverse-append under (f ∷ [])) (subst (AreLed fs (reverse (under ++ f ∷ []))) (reverse-append known (p ∷ [])) h)).1

pub led_known : (fs : List Function) (frames : List Frame) (known : List (Bor Term)) (p : Bor Term) → AreLed fs frames (reverse (known ++ p ∷ [])) → AreLed fs (below frames) (reverse known)
led_known fs frames known p h = (subst (AreLed fs frames) (reverse-append known (p ∷ [])) h).1

pub led_place : (fs : List Function) (frames : List Frame) (known : List (Bor Term)) (p : Bor Term) → AreLed fs frames (reverse (known ++ p ∷ [])) → standing fs frames ≡ Some p.now
led_place fs frames known p h = (subst (AreLed fs frames) (reverse-append known (p ∷ [])) h).0

pub over_head : (fs : List Function) (frames : List Frame) (f : Frame) (place : Term) (i : ℕ) → standing fs frames ≡ Some place → LeavesUnread f (out-Term place) i
    → IsThere (standing fs frames) (λ a. LeavesUnread f a i)
over_head fs frames f place i e h = subst (λ o. IsThere o (λ a. LeavesUnread f a i)) (sym e) h

pub over_nearest : (fs : List Function) (under : List Frame) (f : Frame) (i : ℕ) → IsOver fs (f ∷ reverse under) i → IsOver fs (reverse (under ++ f ∷ [])) i
over_nearest fs under f i h = subst (λ l. IsOver fs l i) (sym (reverse-append under (f ∷ []))) h

-- ---- an item of a stack is replaced

set_end : {A : Type 0} (zs : List A) (y x : A) (n : ℕ) → n ≡ length zs → slice_set (zs ++ y ∷ []) n x ≡ zs ++ x ∷ []
set_end [] y x zero e = refl
set_end [] y x (suc n) e = cc
set_end (z ∷ zs) y x zero e = cc
set_end (z ∷ zs) y x (suc n) e = ap (λ l. z ∷ l) (set_end zs y x n (omega arith))

set_before : {A : Type 0} (zs ws : List A) (n : ℕ) (x : A) → n < length zs → slice_set (zs ++ ws) n x ≡ slice_set zs n x ++ ws
set_before [] ws n x h = absurd (omega arith)
set_before (z ∷ zs) ws zero x h = refl
set_before (z ∷ zs) ws (suc n) x h = ap (λ l. z ∷ l) (set_before zs ws n x (omega arith))

pub reversed_set : {A : Type 0} (xs : List A) (k n : ℕ) (x : A) → length xs ≡ suc (k + n) → reverse (slice_set xs k x) ≡ slice_set (reverse xs) n x
reversed_set [] k n x e = absurd (omega arith)
reversed_set (y ∷ ys) zero n x e =
    reverse-append (x ∷ []) ys ∙ sym (ap (λ l. slice_set l n x) (reverse-append (y ∷ []) ys) ∙ set_end (reverse ys) y x n (omega (arith, length-reverse ys)))
reversed_set (y ∷ ys) (suc k) n x e =
    reverse-append (y ∷ []) (slice_set ys k x)
    ∙ ap (λ l. l ++ y ∷ []) (reversed_set ys k n x (omega arith))
    ∙ sym (ap (λ l. slice_set l n x) (reverse-append (y ∷ []) ys) ∙ set_before (reverse ys) (y ∷ []) n x (omega (arith, length-reverse ys)))

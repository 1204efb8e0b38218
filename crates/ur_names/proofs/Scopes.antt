-- Names that are looked up, and scopes that are closed.
use Rattle.std.proofs.Common.{◌≡◌, refl, ap, ap₂, sym, ◌∙◌, subst, ℕ, suc, ◌+◌, ◌<◌, ◌≤◌, List, [], ◌∷◌, ◌++◌, length, take, drop, get_or, Option, Some, None, Result, Ok, Err, arith}
use Rattle.std.specs.Result.{IsErrAnd}
use Rattle.std.proofs.Math.Seq.{drop-cons, drop-length}
use Rattle.ur_base.specs.declared.refusal.Stop.{Stop}
use Rattle.ur_base.specs.declared.refusal.Stop.TheVariants as stop
use Rattle.ur_names.specs.declared.event.Event.{Event}
use Rattle.ur_names.specs.declared.keys.Key.{Key}
use Rattle.ur_names.specs.declared.scope.Frame.{Frame}
use Rattle.ur_names.specs.declared.scope.Scope.{Scope}
use Rattle.ur_names.specs.Faults.{Fault, Told, first, fault_in, fault_at, after, last_frame, outer, closed_at}

pub meet : (i n : ℕ) → n ≤ i → i ≤ n → i ≡ n
meet i n h k = omega arith

pub next-drop : {A : Type 0} (xs : List A) (i : ℕ) (x : A) → i < length xs → x ≡ get_or xs i x → drop i xs ≡ x ∷ drop (i + 1) xs
next-drop xs i x h g = drop-cons xs i x h ∙ ap₂ (λ y n. y ∷ drop n xs) (sym g) (more i) where
  more : (i : ℕ) → suc i ≡ i + 1
  more i = omega arith

-- ---- the last frame

pub last-made : (fs : List Frame) (f : Frame) → last_frame (fs ++ f ∷ []) ≡ Some f
last-made [] f = refl
last-made (g ∷ []) f = refl
last-made (g ∷ h ∷ fs) f = last-made (h ∷ fs) f

pub outer-made : (fs : List Frame) (f : Frame) → outer (fs ++ f ∷ []) ≡ fs
outer-made [] f = refl
outer-made (g ∷ []) f = refl
outer-made (g ∷ h ∷ fs) f = ap (λ gs. g ∷ gs) (outer-made (h ∷ fs) f)

abbrev made : List ℕ → List Key → List Key → List Frame → Scope
made h b g fs = record { home = h; bound = b; given = g; frames = fs }

pub closed-is : (s : Scope) (fs : List Frame) (f : Frame) (b g : List Key) → s.frames ≡ fs ++ f ∷ [] → b ≡ take f.bound s.bound → g ≡ take f.given s.given → made s.home b g fs ≡ closed_at (last_frame s.frames) s
closed-is s fs f b g e h k = sym (ap (λ o. closed_at o s) (ap last_frame e ∙ last-made fs f) ∙
    (ap₂ (λ x y. made s.home x y (outer s.frames)) (sym h) (sym k) ∙ ap (λ z. made s.home b g z) (ap outer e ∙ outer-made fs f)))

-- ---- the first fault

first-told : (e : Stop) (o p : Option Fault) → Told (Err e) o → Told (Err e) (first o p)
first-told (stop.Refused r) (Some x) p t = t
first-told (stop.Refused r) None p t = absurd t
first-told stop.Memory o p t = tt

pub told-exit : (r : Result (Unit {0}) Stop) (e : Stop) (o p w : Option Fault) → w ≡ first o p → IsErrAnd r (λ y. y ≡ e) → Told (Err e) o → Told r w
told-exit (Ok b) e o p w q i t = absurd i
told-exit (Err y) e o p w q i t = subst (λ z. Told (Err y) z) (sym q) (subst (λ z. Told (Err z) (first o p)) (sym i) (first-told e o p t))

pub fault-next : (s : Scope) (es : List Event) (i : ℕ) (e : Event) → i < length es → e ≡ get_or es i e → fault_in s (drop i es) ≡ first (fault_at s e) (fault_in (after s e) (drop (i + 1) es))
fault-next s es i e h g = ap (fault_in s) (next-drop es i e h g)

pub passed : (o p w : Option Fault) → w ≡ first o p → o ≡ None → w ≡ p
passed o p w e n = e ∙ ap (λ o. first o p) n

pub fault-end : (s : Scope) (es : List Event) (i : ℕ) (w : Option Fault) → length es ≤ i → i ≤ length es → w ≡ fault_in s (drop i es) → w ≡ None
fault-end s es i w h k n = n ∙ (ap (λ j. fault_in s (drop j es)) (meet i (length es) h k) ∙ ap (fault_in s) (drop-length es))

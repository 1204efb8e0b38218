-- Values that are looked up from the last one on, and scopes that are closed.
use Rattle.std.proofs.Common.{◌≡◌, refl, ap, ap₂, sym, ◌∙◌, subst, ℕ, ◌+◌, ◌-◌, ◌<◌, ◌≤◌, arith, Bool, true, false, if◌then◌else◌, List, [], ◌∷◌, ◌++◌, length, take, get_or, Option, Some}
use Rattle.std.proofs.lemmas.List.{take_more, take-append-le}
use Rattle.ur_syntax.specs.declared.kind.Kind.{Kind}
use Rattle.ur_syntax.specs.declared.con.ConName.{ConName}
use Rattle.ur_syntax.specs.declared.con.ConEntry.{ConEntry}
use Rattle.ur_syntax.specs.declared.con.ConParam.{ConParam}
use Rattle.ur_syntax.specs.declared.con.ConParam.TheVariants as con_param
use Rattle.ur_syntax.specs.Names.{same_con, looked_up}
use Rattle.ur_kinds.specs.declared.state.Value.{Value}
use Rattle.ur_kinds.specs.declared.state.Frame.{Frame}
use Rattle.ur_kinds.specs.declared.state.State.{State}
use Rattle.ur_kinds.specs.Acts.{kinds_of}
use Rattle.ur_kinds.specs.KindedFaults.{named_after, last_frame, outer, closed_at, in_env}

named-more : (names : List (ConName × List Kind)) (vs : List Value) (v : Value) → named_after names (vs ++ v ∷ []) ≡ (v.name, v.kinds) ∷ named_after names vs
named-more names [] v = refl
named-more names (w ∷ vs) v = named-more ((w.name, w.kinds) ∷ names) vs v

abbrev pub within_last : ConName → List Value → Option (List Kind)
within_last key vs = looked_up key (named_after [] vs)

taken : {A : Type 0} (b : Bool) (x y : A) → b ≡ true → (if b then x else y) ≡ x
taken b x y e = ap (λ z. if z then x else y) e

left-out : {A : Type 0} (b : Bool) (x y : A) → b ≡ false → (if b then x else y) ≡ y
left-out b x y e = ap (λ z. if z then x else y) e

one-more : (n i l : ℕ) → i < l → n ≡ l - 1 - i → l - i ≡ n + 1
one-more n i l h e = omega arith

one-less : (n i l : ℕ) → i < l → n ≡ l - 1 - i → n ≡ l - (i + 1)
one-less n i l h e = omega arith

below : (n i l : ℕ) → i < l → n ≡ l - 1 - i → n < l
below n i l h e = omega arith

last-at : (key : ConName) (vs : List Value) (n : ℕ) (v : Value) → n < length vs → v ≡ get_or vs n v →
    within_last key (take (n + 1) vs) ≡ (if same_con key v.name then Some v.kinds else within_last key (take n vs))
last-at key vs n v h g = ap (within_last key) (take_more vs n v h ∙ ap (λ x. take n vs ++ x ∷ []) (sym g)) ∙ ap (looked_up key) (named-more [] (take n vs) v)

last-value : (key : ConName) (vs : List Value) (i : ℕ) (v : Value) → i < length vs → v ≡ get_or vs (length vs - 1 - i) v →
    within_last key (take (length vs - i) vs) ≡ (if same_con key v.name then Some v.kinds else within_last key (take (length vs - (i + 1)) vs))
last-value key vs i v h g =
    ap (λ n. within_last key (take n vs)) (one-more (length vs - 1 - i) i (length vs) h refl) ∙
    (last-at key vs (length vs - 1 - i) v (below (length vs - 1 - i) i (length vs) h refl) g ∙
    ap (λ n. if same_con key v.name then Some v.kinds else within_last key (take n vs)) (one-less (length vs - 1 - i) i (length vs) h refl))

pub is-last : (key : ConName) (vs : List Value) (i : ℕ) (v : Value) → i < length vs → v ≡ get_or vs (length vs - 1 - i) v → same_con key v.name ≡ true →
    within_last key (take (length vs - i) vs) ≡ Some v.kinds
is-last key vs i v h g t = last-value key vs i v h g ∙ taken (same_con key v.name) (Some v.kinds) (within_last key (take (length vs - (i + 1)) vs)) t

pub not-last : (key : ConName) (vs : List Value) (i : ℕ) (v : Value) → i < length vs → v ≡ get_or vs (length vs - 1 - i) v → same_con key v.name ≡ false →
    within_last key (take (length vs - i) vs) ≡ within_last key (take (length vs - (i + 1)) vs)
not-last key vs i v h g t = last-value key vs i v h g ∙ left-out (same_con key v.name) (Some v.kinds) (within_last key (take (length vs - (i + 1)) vs)) t

-- ---- the kinds of parameters

pub kinds-more : (params : List ConParam) (p : ConParam) → kinds_of (params ++ p ∷ []) ≡ kinds_of params ++ kinds_of (p ∷ [])
kinds-more [] p = refl
kinds-more (con_param.Kinded x k ∷ params) p = ap (λ ks. k ∷ ks) (kinds-more params p)
kinds-more (con_param.Disjoint c d ∷ params) p = kinds-more params p

pub kinds-next : (params : List ConParam) (i : ℕ) (p : ConParam) (old new : List Kind) → i < length params → p ≡ get_or params i p → old ≡ kinds_of (take i params) → new ≡ old ++ kinds_of (p ∷ []) →
    new ≡ kinds_of (take (i + 1) params)
kinds-next params i p old new h g e f =
    f ∙ (ap (λ ks. ks ++ kinds_of (p ∷ [])) e ∙ sym (ap kinds_of (take_more params i p h ∙ ap (λ x. take i params ++ x ∷ []) (sym g)) ∙ kinds-more (take i params) p))

-- ---- the last frame

last-made : (fs : List Frame) (f : Frame) → last_frame (fs ++ f ∷ []) ≡ Some f
last-made [] f = refl
last-made (g ∷ []) f = refl
last-made (g ∷ h ∷ fs) f = last-made (h ∷ fs) f

outer-made : (fs : List Frame) (f : Frame) → outer (fs ++ f ∷ []) ≡ fs
outer-made [] f = refl
outer-made (g ∷ []) f = refl
outer-made (g ∷ h ∷ fs) f = ap (λ gs. g ∷ gs) (outer-made (h ∷ fs) f)

abbrev made : State → List ConEntry → List Value → List Frame → State
made s es vs fs = record { env = in_env s.env es; values = vs; frames = fs }

pub closed-is : (s : State) (fs : List Frame) (f : Frame) (es : List ConEntry) (vs : List Value) → s.frames ≡ fs ++ f ∷ [] → es ≡ take f.entries s.env.entries → vs ≡ take f.values s.values →
    made s es vs fs ≡ closed_at (last_frame s.frames) s
closed-is s fs f es vs e h k = sym (ap (λ o. closed_at o s) (ap last_frame e ∙ last-made fs f) ∙
    (ap₂ (λ x y. made s x y (outer s.frames)) (sym h) (sym k) ∙ ap (λ z. made s es vs z) (ap outer e ∙ outer-made fs f)))

-- ---- taking away at the end

longer : (n m : ℕ) → n < m + 1 → n ≤ m
longer n m h = omega arith

pub cut-step : {A : Type 0} (n : ℕ) (old new : List A) (x : A) → old ≡ new ++ x ∷ [] → n < length old → take n new ≡ take n old
cut-step n old new x e h = sym (ap (take n) e ∙ take-append-le n new (x ∷ []) (longer n (length new) (subst (λ m. n < m) (ap length e ∙ more new x) h))) where
  more : {A : Type 0} (xs : List A) (x : A) → length (xs ++ x ∷ []) ≡ length xs + 1
  more [] x = refl
  more (y ∷ xs) x = omega (arith, more xs x)

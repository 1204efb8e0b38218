-- Events that leave the scopes as they were: what is opened in them is closed in them.
use Rattle.std.proofs.Common.{◌≡◌, ◌∙◌, refl, sym, ap, subst, Bool, true, false, Some, None, List, [], ◌∷◌, ◌++◌, length, append_assoc, append-nil, if◌then◌else◌}
use Rattle.std.specs.Prelude.{take, flat_map}
use Rattle.std.proofs.Math.Seq.{take-append_seam}
use Rattle.ur_names.specs.declared.event.Event.{Event}
use Rattle.ur_names.specs.declared.event.Event.TheVariants as event
use Rattle.ur_names.specs.declared.keys.Key.{Key}
use Rattle.ur_names.specs.declared.scope.Frame.{Frame}
use Rattle.ur_names.specs.declared.scope.Scope.{Scope}
use Rattle.ur_names.specs.Faults.{after, last_frame, outer, closed_at, key}

-- the scope behind events
abbrev pub behind : Scope → List Event → Scope
behind s [] = s
behind s (e ∷ es) = behind (after s e) es

pub behind_both : (s : Scope) (es fs : List Event) → behind s (es ++ fs) ≡ behind (behind s es) fs
behind_both s [] fs = refl
behind_both s (e ∷ es) fs = behind_both (after s e) es fs

-- the same scopes are open, and what was given before is given
pub record Stays (s t : Scope) : Type 0 where
  pub frames : t.frames ≡ s.frames
  pub more : List Key
  pub given : t.given ≡ s.given ++ more

pub record IsEven (es : List Event) : Type 0 where
  pub stays : (s : Scope) → Stays s (behind s es)

stays_same : (s : Scope) → Stays s s
stays_same s = record { frames = refl; more = []; given = sym (append-nil s.given) }

stays_both : (s t u : Scope) → Stays s t → Stays t u → Stays s u
stays_both s t u h g = record {
  frames = g.frames ∙ h.frames;
  more = h.more ++ g.more;
  given = g.given ∙ (ap (λ z. z ++ g.more) h.given ∙ append_assoc s.given h.more g.more);
}

pub even_none : IsEven []
even_none = record { stays = λ s. stays_same s }

pub even_both : (es fs : List Event) → IsEven es → IsEven fs → IsEven (es ++ fs)
even_both es fs h g = record { stays = λ s. subst (Stays s) (sym (behind_both s es fs)) (stays_both s (behind s es) (behind (behind s es) fs) (h.stays s) (g.stays (behind s es))) }

-- ---- single events

-- an event that opens and closes nothing
abbrev pub IsFlat : Event → Type 0
IsFlat event.Open = ⊥
IsFlat event.Close = ⊥
IsFlat (event.Enter m) = ⊥
IsFlat _ = Unit {0}

stays_flat : (e : Event) → IsFlat e → (s : Scope) → Stays s (after s e)
stays_flat (event.Own t p x) h s = stays_same s
stays_flat (event.Member t p m x) h s = stays_same s
stays_flat (event.Map p) h s = stays_same s
stays_flat (event.Form p) h s = stays_same s
stays_flat (event.New t p x) h s = record { frames = refl; more = key t None x ∷ []; given = refl }
stays_flat (event.Bind t x) h s = record { frames = refl; more = []; given = sym (append-nil s.given) }
stays_flat (event.Declare t x) h s = record { frames = refl; more = []; given = sym (append-nil s.given) }
stays_flat event.Open h s = absurd h
stays_flat event.Close h s = absurd h
stays_flat (event.Enter m) h s = absurd h

pub even_one : (e : Event) → IsFlat e → IsEven (e ∷ [])
even_one e h = record { stays = λ s. stays_flat e h s }

-- ---- scopes

last_of : (fs : List Frame) (f : Frame) → last_frame (fs ++ f ∷ []) ≡ Some f
last_of [] f = refl
last_of (g ∷ []) f = refl
last_of (g ∷ h ∷ fs) f = last_of (h ∷ fs) f

outer_of : (fs : List Frame) (f : Frame) → outer (fs ++ f ∷ []) ≡ fs
outer_of [] f = refl
outer_of (g ∷ []) f = refl
outer_of (g ∷ h ∷ fs) f = ap (λ z. g ∷ z) (outer_of (h ∷ fs) f)

-- the frame that a scope is opened with
abbrev opened : Scope → Frame
opened s = record { bound = length s.bound; given = length s.given }

closed_stays : (s t : Scope) → Stays (after s event.Open) t → Stays s (closed_at (Some (opened s)) t)
closed_stays s t h = record {
  frames = ap outer h.frames ∙ outer_of s.frames (opened s);
  more = [];
  given = ap (take (length s.given)) h.given ∙ (take-append_seam s.given h.more ∙ sym (append-nil s.given));
}

pub even_scope : (es : List Event) → IsEven es → IsEven ((event.Open ∷ []) ++ es ++ event.Close ∷ [])
even_scope es h = record {
  stays = λ s.
      let t : Scope = behind (after s event.Open) es in
      let k : Stays (after s event.Open) t = h.stays (after s event.Open) in
      let last : last_frame t.frames ≡ Some (opened s) = ap last_frame k.frames ∙ last_of s.frames (opened s) in
      subst (Stays s) (sym (behind_both (after s event.Open) es (event.Close ∷ []))) (subst (λ o. Stays s (closed_at o t)) (sym last) (closed_stays s t k));
}

-- ---- lists

pub even_if : (b : Bool) (es fs : List Event) → IsEven es → IsEven fs → IsEven (if b then es else fs)
even_if true es fs h g = h
even_if false es fs h g = g

pub even_all : {A : Type 0} (f : A → List Event) → ((x : A) → IsEven (f x)) → (xs : List A) → IsEven (flat_map f xs)
even_all f h [] = even_none
even_all f h (x ∷ xs) = even_both (f x) (flat_map f xs) (h x) (even_all f h xs)

-- each of some lists of events
abbrev pub AreEven : List (List Event) → Type 0
AreEven [] = Unit {0}
AreEven (es ∷ ess) = IsEven es × AreEven ess

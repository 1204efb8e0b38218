-- What is known of the terms to which frames lead.
use Rattle.std.proofs.Common.{◌≡◌, List, [], ◌∷◌, ◌++◌, Option, Some, None, MatchOption, sym, ap, subst, ◌∙◌, Bor}
use Rattle.std.specs.Prelude.{reverse, slice_get}
use Rattle.std.proofs.lemmas.List.{reverse-append}
use Rattle.ur_terms.specs.declared.term.Term.{Term}
use Rattle.ur_terms.specs.declared.term.Function.{Function}
use Rattle.ur_machine_frames.specs.declared.frame.Frame.{Frame}
use Rattle.ur_machine_frames.specs.declared.frame.Frames.{Frames}
use Rattle.ur_machine_frames.specs.declared.control.Control.TheVariants as control
use Rattle.ur_machine_frames.specs.declared.control.Next.{Next}
use Rattle.ur_machine_frames.specs.declared.control.Next.TheVariants as next
use Rattle.ur_machine_frames.specs.Rest.{standing}
use Rattle.ur_machine_frames.specs.Steps.{below, IsAbove, NextStands}
use Rattle.ur_machine_frames.specs.Places.{AreLed, IfOn}

-- what is done with the places known where a frame on top leads to a term
abbrev pub Notes : Bor Term → List (Bor Term) → List (Bor Term) → Type 0
Notes place old new = (fs : List Function) (f : Frame) (frames : List Frame) → AreLed fs frames old → standing fs (f ∷ frames) ≡ Some place.now → AreLed fs (f ∷ frames) new

pub none_led : (fs : List Function) (frames : List Frame) (known : List (Bor Term)) → known ≡ [] → AreLed fs frames known
none_led fs frames known e = subst (AreLed fs frames) (sym e) tt

pub noted : (place : Bor Term) (old new : List (Bor Term)) → new ≡ place ∷ old → Notes place old new
noted place old new e fs f frames h stands = subst (AreLed fs (f ∷ frames)) (sym e) (stands, h)

pub not_noted : (place : Bor Term) (old new : List (Bor Term)) → new ≡ [] → Notes place old new
not_noted place old new e fs f frames h stands = none_led fs (f ∷ frames) new e

-- ---- a step is followed

pub entered_led : (place : Bor Term) (old new : List (Bor Term)) (r : Next) → r ≡ next.On (control.Enter place) → Notes place old new
    → (fs : List Function) (frames : List Frame) (m : Frames) → AreLed fs frames old → IsAbove frames m.frames r → NextStands fs m r → IfOn r (AreLed fs m.frames new)
entered_led place old new r is note fs frames m h above stands =
    subst (λ z. IfOn z (AreLed fs m.frames new)) (sym is)
    (go (subst (IsAbove frames m.frames) is above) (subst (NextStands fs m) is stands))
  where
    go : IsAbove frames m.frames (next.On (control.Enter place)) → standing fs m.frames ≡ Some place.now → AreLed fs m.frames new
    go a s = subst (λ l. AreLed fs l new) (sym a.1) (note fs a.0 frames h (subst (λ l. standing fs l ≡ Some place.now) a.1 s))

pub same_led : (old : List (Bor Term)) (r : Next) → ((fs : List Function) (frames : List Frame) (m : Frames) → IsAbove frames m.frames r → AreLed fs frames old → IfOn r (AreLed fs m.frames old))
    → (fs : List Function) (frames : List Frame) (m : Frames) → AreLed fs frames old → IsAbove frames m.frames r → NextStands fs m r → IfOn r (AreLed fs m.frames old)
same_led old r go fs frames m h above stands = go fs frames m above h

-- ---- the nearest frame is left

pub popped_led : (fs : List Function) (frames : List Frame) (old new : List (Bor Term)) (o : Option (Bor Term)) → MatchOption o ((old ≡ []) × (new ≡ [])) (λ x. old ≡ x ∷ new)
    → AreLed fs frames old → AreLed fs (below frames) new
popped_led fs frames old new None m h = none_led fs (below frames) new m.1
popped_led fs frames old new (Some x) m h = (subst (AreLed fs frames) m h).1

pub nearest_place : (fs : List Function) (frames : List Frame) (known : List (Bor Term)) (p : Bor Term) → Some p ≡ slice_get known 0 → AreLed fs frames known
    → Some p.now ≡ standing fs frames
nearest_place fs frames [] p e h = cc
nearest_place fs frames (q ∷ known) p e h = ap (option_now) e ∙ sym h.0
  where
    option_now : Option (Bor Term) → Option Term
    option_now None = None
    option_now (Some b) = Some b.now

-- ---- frames as they lie, the nearest last

pub below_last : (under : List Frame) (f : Frame) → below (reverse (under ++ f ∷ [])) ≡ reverse under
below_last under f = ap below (reverse-append under (f ∷ []))

pub last_first : (under : List Frame) (f : Frame) → reverse (under ++ f ∷ []) ≡ f ∷ reverse under
last_first under f = reverse-append under (f ∷ [])

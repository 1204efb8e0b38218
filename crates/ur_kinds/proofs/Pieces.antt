-- Events one by one, and pieces by number.
use Rattle.std.proofs.Common.{◌≡◌, ap, sym, ◌∙◌, ℕ, ◌≤◌, List, [], ◌∷◌, ◌++◌, length, map, slice_get, Option, None}
use Rattle.std.specs.Option.{option_map}
use Rattle.std.proofs.lemmas.List.{append-nil, map-append}
use Rattle.std.proofs.lemmas.Option.{slice_get_past, slice_get-map}
use Rattle.ur_kinds.specs.declared.event.Event.{Event}
use Rattle.ur_kinds.specs.Acts.{Act, act_of, acts}
use Rattle.ur_kinds.specs.Exps.{if_given}

pub told-one : (old new : List Event) (e : Event) → new ≡ old ++ e ∷ [] → acts new ≡ acts old ++ act_of e ∷ []
told-one old new e h = ap acts h ∙ map-append act_of old (e ∷ [])

pub none-at : (all : List (List Event)) (n : ℕ) → length all ≤ n → slice_get (map acts all) n ≡ None
none-at all n h = slice_get-map acts all n ∙ ap (option_map acts) (slice_get_past all n h)

pub nothing : (o : List Act) (g : Option (List Act)) → g ≡ None → o ≡ o ++ if_given g
nothing o g e = sym (ap (λ z. o ++ if_given z) e ∙ append-nil o)

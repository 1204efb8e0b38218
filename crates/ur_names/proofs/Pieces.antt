-- Pieces by number.
use Rattle.std.proofs.Common.{◌≡◌, refl, ap, sym, ◌∙◌, ℕ, ◌≤◌, List, ◌++◌, length, slice_get, Option, None}
use Rattle.std.proofs.lemmas.List.{append-nil}
use Rattle.std.proofs.lemmas.Option.{slice_get_past}
use Rattle.ur_names.specs.declared.event.Event.{Event}
use Rattle.ur_names.specs.Exps.{if_given}

pub none-at : (all : List (List Event)) (n : ℕ) → length all ≤ n → slice_get all n ≡ None
none-at all n h = slice_get_past all n h

pub nothing : (o : List Event) (g : Option (List Event)) → g ≡ None → o ≡ o ++ if_given g
nothing o g e = sym (ap (λ z. o ++ if_given z) e ∙ append-nil o)

-- The queries of turns, one after the other.
use Rattle.std.proofs.Common.{◌≡◌, ℕ, List, [], ◌∷◌, ◌++◌, map, Option, Some, None, IfSome, sym, ap, ap₂, subst, ◌∙◌}
use Rattle.std.proofs.lemmas.List.{append-nil, append_assoc, map-append}
use Rattle.std.proofs.lemmas.List.Elements.{All-nil, All-append, All-from_recursion}
use Rattle.ur_values.specs.declared.atom.Atom.{Atom}
use Rattle.ur_values.specs.declared.value.Value.{Value}
use Rattle.ur_values.specs.Event.{Event}
use Rattle.ur_code.specs.declared.code.Code.{Code}
use Rattle.ur_machine.specs.declared.reached.Reached.TheVariants as reached
use Rattle.ur_machine.specs.Answers.{IsEntryOf}
use Rattle.ur_machine.specs.Reached.{HasReached}
use Rattle.ur_pages.specs.declared.page.Ask.{Ask}
use Rattle.ur_pages.specs.Pages.{Asked, read_ask}
use Rattle.ur_memo.specs.Remembered.{asked_of, ask_of}
use Rattle.ur_serve.specs.Noting.{IsNoted}

-- nothing was asked
pub none_noted : (code : Code) (asks : Option (List Ask)) (events : List Event) → events ≡ [] → IsNoted code asks asks events
none_noted code None events e = tt
none_noted code (Some asks) events e = ([], All-nil (IsEntryOf code), sym (append-nil (map read_ask asks)), e)

-- nothing is noted any more
pub no_more_noted : (code : Code) (asks more : Option (List Ask)) (events : List Event) → more ≡ None → IsNoted code asks more events
no_more_noted code asks more events e = subst (λ o. IsNoted code asks o events) (sym e) tt

-- a query
pub query_noted : (code : Code) (asks more : List Ask) (site : ℕ) (key : List Atom) (events : List Event)
    → more ≡ asks ++ record { site = site; key = key } ∷ []
    → HasReached code (reached.Query site (Some key)) events → IsNoted code (Some asks) (Some more) events
query_noted code asks more site key events e (entry, typed, same_site, same_key, is) = (
  entry ∷ [],
  All-from_recursion (IsEntryOf code) (entry ∷ []) (typed, tt),
  ap (map read_ask) e ∙ map-append read_ask asks (record { site = site; key = key } ∷ [])
      ∙ ap (λ (a : Asked). map read_ask asks ++ a ∷ []) (ap₂ (λ (n : ℕ) (k : List Value). record { site = n; key = k }) (sym same_site) (sym same_key)),
  is,
)

-- what more is noted, if anything is
pub query_noted_if : (code : Code) (asks : List Ask) (result : Option (List Ask)) (site : ℕ) (key : List Atom) (events : List Event)
    → IfSome result (λ more. more ≡ asks ++ record { site = site; key = key } ∷ []) → HasReached code (reached.Query site (Some key)) events
    → IsNoted code (Some asks) result events
query_noted_if code asks None site key events h r = tt
query_noted_if code asks (Some more) site key events h r = query_noted code asks more site key events h r

-- one after the other
pub both_noted : (code : Code) (asks₀ asks₁ asks₂ : Option (List Ask)) (es fs : List Event) → IsNoted code asks₀ asks₁ es → IsNoted code asks₁ asks₂ fs
    → IsNoted code asks₀ asks₂ (es ++ fs)
both_noted code asks₀ asks₁ None es fs h k = tt
both_noted code asks₀ None (Some c) es fs h k = absurd k
both_noted code None (Some b) (Some c) es fs h k = absurd h
both_noted code (Some a) (Some b) (Some c) es fs (xs, typed, same, is) (ys, others, more, are) = (
  xs ++ ys,
  All-append (IsEntryOf code) xs ys typed others,
  more ∙ ap (λ (l : List Asked). l ++ map asked_of ys) same ∙ append_assoc (map read_ask a) (map asked_of xs) (map asked_of ys)
      ∙ ap (λ (l : List Asked). map read_ask a ++ l) (sym (map-append asked_of xs ys)),
  ap₂ (λ (u w : List Event). u ++ w) is are ∙ sym (map-append ask_of xs ys),
)

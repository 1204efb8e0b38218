-- What leads to an act, by the chains of calls.
use Rattle.std.proofs.Common.{◌≡◌, ℕ, zero, suc, Bool, true, false, List, [], ◌∷◌, Some, refl, sym, ap, ◌∙◌, slice_get}
use Rattle.std.proofs.lemmas.Bool.{false≢true}
use Rattle.std.proofs.lemmas.Option.{none-some, same_Some}
use Rattle.ur_terms.specs.declared.term.Function.{Function}
use Rattle.ur_pure.specs.declared.act.Act.TheVariants.{Calls}
use Rattle.ur_pure.specs.Acts.{acts, bodies, Holds, Reaches, itself, through, OnlyAsks}
use Rattle.ur_pure.specs.Spread.{sought, Leads, here, there, AreMarked}

body_at : (fs : List Function) (f : ℕ) (function : Function) → slice_get fs f ≡ Some function → slice_get (bodies fs) f ≡ Some (acts function.body)
body_at [] f function e = absurd (none-some _ e)
body_at (g ∷ fs) zero function e = ap (λ (h : Function). Some (acts h.body)) (same_Some _ _ e)
body_at (g ∷ fs) (suc f) function e = body_at fs f function e

pub reaches_leads : (fs : List Function) (b : Bool) (f g : ℕ) → Reaches fs f g → Holds fs g (sought b) → Leads (bodies fs) b f
reaches_leads fs b _ _ (itself f) h = here f (acts h.function.body) (body_at fs f h.function h.is_function) h.held
reaches_leads fs b _ _ (through f g k call more) h =
    there f g (acts call.function.body) (body_at fs f call.function call.is_function) call.held (reaches_leads fs b g k more h)

-- a function that is not marked only asks
pub untouched : (fs : List Function) (marks : List Bool) → AreMarked (bodies fs) false marks → (f : ℕ) → slice_get marks f ≡ Some false → OnlyAsks fs f
untouched fs marks t f clear = λ g reached touch. false≢true (same_Some _ _ (sym clear ∙ t.whole f (reaches_leads fs false f g reached touch)))

-- What an operation on tables gives.
use Rattle.std.proofs.Common.{◌≡◌, ℕ, ◌+◌, ◌<◌, ◌≤◌, min, List, [], ◌∷◌, length, take, leb, ◌&&◌, codes, Result, Ok, Err, refl, sym, ap, ◌∙◌, arith}
use Rattle.std.proofs.lemmas.Bool.{le-leb, lt-leb}
use Rattle.std.proofs.lemmas.Bool.Decides.{nat_tests}
use Rattle.std.proofs.lemmas.List.{take_all}
use Rattle.ur_values.specs.declared.value.Value.{Value}
use Rattle.ur_values.specs.declared.value.Value.TheVariants as v
use Rattle.ur_values.specs.Atom.{IsBasic}
use Rattle.ur_values.specs.Size.{size, nesting, sizes, nestings, is_small}
use Rattle.ur_values.proofs.Equations.{size-Many, nesting-Many}
use Rattle.ur_tags.specs.Segments.{segment}
use Rattle.ur_terms.specs.declared.term.AnswerForm.TheVariants as form
use Rattle.ur_terms.specs.State.{State, Outcome, Done, built, error_text}
use Rattle.ur_terms.specs.Ops.{answered}
use Rattle.ur_machine.specs.declared.stop.TurnStop.{TurnStop}
use Rattle.ur_machine.specs.declared.stop.TurnStop.TheVariants as stop
use Rattle.ur_machine.specs.StoreCalls.{Gives}

-- what two operations come to alike, both give
pub gives_as : {w u : State → Outcome Value} (r : Result Value TurnStop) → ((s : State) → u s ≡ w s) → Gives w r → Gives u r
gives_as (Ok x) e h = λ s. e s ∙ h s
gives_as (Err (stop.Failed body)) e h = λ s. e s ∙ h s
gives_as (Err stop.Spent) e h = λ s. e s ∙ h s
gives_as (Err stop.Keeper) e h = absurd h
gives_as (Err stop.Undone) e h = absurd h
gives_as (Err stop.Memory) e h = tt

-- ---- rows

-- the only row
pub only_given : (rows : List Value) (x y : Value) → rows ≡ x ∷ [] → y ≡ x → (s : State) → answered form.One rows s ≡ built y s
only_given rows x y e f s = ap (λ xs. answered form.One xs s) e ∙ ap (λ z. built z s) (sym f)

pub other_than_one : (rows : List Value) → (length rows ≡ 1 → ⊥) → (s : State) → answered form.One rows s ≡ error_text (codes "expected one row") s
other_than_one [] n s = refl
other_than_one (x ∷ []) n s = absurd (n refl)
other_than_one (x ∷ y ∷ rows) n s = refl

-- at most one row
pub none_given : (rows : List Value) → rows ≡ [] → (s : State) → answered form.OneOrNone rows s ≡ Done v.Absent s
none_given rows e s = ap (λ xs. answered form.OneOrNone xs s) e

pub one_given : (rows : List Value) (x y : Value) → rows ≡ x ∷ [] → y ≡ x → (s : State) → answered form.OneOrNone rows s ≡ built (v.Present y) s
one_given rows x y e f s = ap (λ xs. answered form.OneOrNone xs s) e ∙ ap (λ z. built (v.Present z) s) (sym f)

pub more_than_one : (rows : List Value) → 2 ≤ length rows → (s : State) → answered form.OneOrNone rows s ≡ error_text (codes "expected one row") s
more_than_one [] n s = absurd (omega arith)
more_than_one (x ∷ []) n s = absurd (omega arith)
more_than_one (x ∷ y ∷ rows) n s = refl

-- ---- lists

-- a list of values, whose size and nesting are told as far as the numbers go
pub small_by_nesting : (values : List Value) (i most deep : ℕ) → length values ≤ i → most ≡ min (32 + sizes (take i values)) 18446744073709551615
    → deep ≡ min (nestings (take i values)) 4294967295 → most ≤ 16777216 → leb deep 1023 ≡ is_small (v.Many values)
small_by_nesting values i most deep past s n few =
    let whole = take_all i values past in
    let size_is : most ≡ min (32 + sizes values) 18446744073709551615 = s ∙ ap (λ vs. min (32 + sizes vs) 18446744073709551615) whole in
    let nesting_is : deep ≡ min (nestings values) 4294967295 = n ∙ ap (λ vs. min (nestings vs) 4294967295) whole in
    let fits : size (v.Many values) ≤ 16777216 = omega (arith, size_is, size-Many values, few) in
    let same : leb deep 1023 ≡ leb (nesting (v.Many values)) 1024 = grind (arith, nat_tests, nesting_is, nesting-Many values) in
    same ∙ ap (λ b. b && leb (nesting (v.Many values)) 1024) (sym (le-leb (size (v.Many values)) 16777216 fits))

pub not_small : (values : List Value) (i most : ℕ) → length values ≤ i → most ≡ min (32 + sizes (take i values)) 18446744073709551615
    → 16777216 < most → leb most 16777216 ≡ is_small (v.Many values)
not_small values i most past s many =
    let size_is : most ≡ min (32 + sizes values) 18446744073709551615 = s ∙ ap (λ vs. min (32 + sizes vs) 18446744073709551615) (take_all i values past) in
    let large : 16777216 < size (v.Many values) = omega (arith, size_is, size-Many values, many) in
    lt-leb most 16777216 many ∙ ap (λ b. b && leb (nesting (v.Many values)) 1024) (sym (lt-leb (size (v.Many values)) 16777216 large))

-- ---- cookies

-- what is no int, string or bool has no segment
pub no_segment : (x : Value) → (IsBasic x → ⊥) → [] ≡ segment x
no_segment (v.Int z) n = absurd (n tt)
no_segment (v.Str t) n = absurd (n tt)
no_segment (v.Bool b) n = absurd (n tt)
no_segment _ n = refl

-- A field of a variable is read where it stands.
use Rattle.std.proofs.Common.{◌≡◌, ℕ, ◌<◌, ◌≤◌, List, [], ◌∷◌, length, get_or, arith, Option, Some, None, IfSome, refl, sym, ap, subst, ◌∙◌, Bor}
use Rattle.std.specs.Prelude.{slice_get, option_and_then}
use Rattle.std.specs.Option.{option_copied}
use Rattle.ur_base.specs.declared.names.Name.{Name}
use Rattle.ur_values.specs.declared.value.Value.{Value}
use Rattle.ur_values.specs.declared.value.Value.TheVariants as v
use Rattle.ur_terms.specs.declared.term.Op.TheVariants as op
use Rattle.ur_terms.specs.declared.term.Term.{Term}
use Rattle.ur_terms.specs.declared.term.Term.TheVariants as t
use Rattle.ur_terms.specs.declared.term.Function.{Function}
use Rattle.ur_terms.specs.State.{State, Done, after}
use Rattle.ur_terms.specs.Values.{Fields, as_fields, open_fields, field_at}
use Rattle.ur_terms.specs.Ops.{given}
use Rattle.ur_terms.specs.Run.{eval, outcome_of}
use Rattle.ur_terms.proofs.Equations.{eval-Make}
use Rattle.ur_machine_frames.specs.declared.frame.Frames.{Frames}
use Rattle.ur_machine_frames.specs.declared.control.Control.TheVariants as control
use Rattle.ur_machine_frames.specs.declared.control.Next.TheVariants as next
use Rattle.ur_machine_frames.specs.Rest.{state_of}
use Rattle.ur_machine_frames.specs.Steps.{Leads, entering, entering_cost}
use Rattle.ur_machine_frames.specs.Fields.{ReadsAs}
use Rattle.ur_machine_frames.proofs.Leading.{gives}

-- a list of one item
pub only_one : {A : Type 0} (xs : List A) (x d : A) → 1 ≤ length xs → length xs < 2 → x ≡ get_or xs 0 d → xs ≡ x ∷ []
only_one [] x d one two e = absurd (omega arith)
only_one (y ∷ []) x d one two e = ap (λ z. z ∷ []) (sym e)
only_one (y ∷ z ∷ more) x d one two e = absurd (omega arith)

pub reads_along : (env : List Value) (a b : Term) (found : Option (Bor Value)) → a ≡ b → IfSome found (λ x. ReadsAs env b x.now) → IfSome found (λ x. ReadsAs env a x.now)
reads_along env a b found is h = subst (λ z. IfSome found (λ x. ReadsAs env z x.now)) (sym is) h

pub reads_variable : (env : List Value) (a : Term) (i : ℕ) (found : Option (Bor Value)) → a ≡ t.Variable i → option_copied found ≡ slice_get env i
    → IfSome found (λ x. ReadsAs env a x.now)
reads_variable env a i None is e = tt
reads_variable env a i (Some x) is e = λ d p calls s. ap (λ z. eval d calls z env s) is ∙ ap (λ z. given z (λ x. Done x s)) (sym e)

-- the field of a record
pub row_field : (r : Value) (fields : Fields) (name : Name) (found : Option (Bor Value)) → r ≡ v.Row fields → option_copied found ≡ field_at name fields
    → IfSome found (λ x. option_and_then (field_at name) (as_fields r) ≡ Some x.now)
row_field r fields name None is e = tt
row_field r fields name (Some x) is e =
    ap (λ z. option_and_then (field_at name) (as_fields z)) is ∙ ap (λ z. option_and_then (field_at name) (open_fields z)) (v.outs-Row fields) ∙ sym e

taken : (fields : Option Fields) (look : Fields → Option Value) (y : Value) (s : State) → option_and_then look fields ≡ Some y
    → given fields (λ fs. given (look fs) (λ z. Done z s)) ≡ Done y s
taken None look y s e = cc
taken (Some fs) look y s e = ap (λ z. given z (λ z. Done z s)) e

reads_field : (env : List Value) (a : Term) (name : Name) (r y : Value) → ReadsAs env a r → option_and_then (field_at name) (as_fields r) ≡ Some y
    → ReadsAs env (t.Make (op.Project name) (a ∷ [])) y
reads_field env a name r y h e = λ d p calls s.
    eval-Make d calls (op.Project name) (a ∷ []) env s
    ∙ ap (λ o. after (after o (λ z u. after (Done [] u) (λ zs w. Done (z ∷ zs) w))) (d (op.Project name))) (h d p calls s)
    ∙ p.plain (op.Project name) tt (r ∷ []) s
    ∙ taken (as_fields r) (field_at name) y s e

pub reads_projected : (env : List Value) (args : List Term) (a : Term) (name : Name) (r : Value) (found : Option (Bor Value)) → args ≡ a ∷ [] → ReadsAs env a r
    → IfSome found (λ x. option_and_then (field_at name) (as_fields r) ≡ Some x.now) → IfSome found (λ x. ReadsAs env (t.Make (op.Project name) args) x.now)
reads_projected env args a name r None is h e = tt
reads_projected env args a name r (Some x) is h e = subst (λ l. ReadsAs env (t.Make (op.Project name) l) x.now) (sym is) (reads_field env a name r x.now h e)

-- a term is entered whose value stands in its variables
pub enter_read : (fs : List Function) (m : Frames) (place : Term) (x y : Value) → ReadsAs m.values place x → y ≡ x
    → Leads fs m (entering fs place) (entering_cost fs place) m (next.On (control.Give y))
enter_read fs m place x y h e = gives fs m m (entering fs place) (entering_cost fs place) y refl refl
    (λ d p store events. h d p (outcome_of d fs) (state_of m store events) ∙ ap (λ z. Done z (state_of m store events)) (sym e))

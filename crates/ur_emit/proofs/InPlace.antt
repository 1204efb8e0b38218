-- Values that are read where they stand.
use Rattle.std.proofs.Common.{◌≡◌, ℕ, zero, suc, ◌<◌, ◌≤◌, List, [], ◌∷◌, length, get_or, arith, Option, Some, None, IfSome, refl, sym, ap, subst, ◌∙◌, Bor}
use Rattle.std.specs.Prelude.{slice_get, option_and_then}
use Rattle.std.specs.Option.{option_copied}
use Rattle.ur_base.specs.declared.names.Name.{Name}
use Rattle.ur_values.specs.declared.value.Value.{Value}
use Rattle.ur_values.specs.declared.value.Value.TheVariants as v
use Rattle.ur_terms.specs.declared.term.Op.TheVariants as op
use Rattle.ur_terms.specs.declared.term.Term.{Term}
use Rattle.ur_terms.specs.declared.term.Term.TheVariants as t
use Rattle.ur_terms.specs.State.{State, Done, after}
use Rattle.ur_terms.specs.Values.{Fields, as_fields, open_fields, field_at}
use Rattle.ur_terms.specs.Ops.{given}
use Rattle.ur_terms.specs.Run.{eval}
use Rattle.ur_terms.proofs.Equations.{eval-Make}
use Rattle.ur_machine_frames.specs.Fields.{ReadsAs}
use Rattle.ur_tags.specs.declared.routes.Handlers.{Handlers}
use Rattle.ur_emit.specs.declared.slots.Slot.{Slot}
use Rattle.ur_emit.specs.declared.slots.Slot.TheVariants as slot
use Rattle.ur_emit.specs.Slots.{Stand, IsSlot, Finds}

-- a list of one item
pub only_one : {A : Type 0} (xs : List A) (x d : A) → 1 ≤ length xs → length xs < 2 → x ≡ get_or xs 0 d → xs ≡ x ∷ []
only_one [] x d one two e = absurd (omega arith)
only_one (y ∷ []) x d one two e = ap (λ z. z ∷ []) (sym e)
only_one (y ∷ z ∷ more) x d one two e = absurd (omega arith)

-- the value for which a variable stands
pub record Held (h : Handlers) (env : List Value) (i : ℕ) (s : Slot) : Type 0 where
  pub value : Value
  pub at : slice_get env i ≡ Some value
  pub is : IsSlot h s value

pub stands_at : (h : Handlers) (slots : List Slot) (env : List Value) (i : ℕ) (s : Slot) → Stand h slots env → slice_get slots i ≡ Some s → Held h env i s
stands_at h [] env i s st e = cc
stands_at h (r ∷ slots) env zero s (x, rest, is, here, others) e =
    record { value = x; at = ap (λ l. slice_get l 0) is; is = subst (λ q. IsSlot h q x) (some_same r s e) here }
  where
    some_same : (a b : Slot) → Some a ≡ Some b → a ≡ b
    some_same a b e = cc
stands_at h (r ∷ slots) env (suc i) s (x, rest, is, here, others) e =
    let k = stands_at h slots rest i s others e in
    record { value = k.value; at = ap (λ l. slice_get l (suc i)) is ∙ k.at; is = k.is }

pub finds_variable : (slots : List Slot) (a : Term) (i : ℕ) (s : Slot) (found : Option (Bor Value)) → a ≡ t.Variable i → Some s ≡ slice_get slots i
    → IfSome found (λ x. (h : Handlers) (y : Value) → IsSlot h s y → x.now ≡ y) → IfSome found (λ x. Finds slots a x.now)
finds_variable slots a i s None is e f = tt
finds_variable slots a i s (Some x) is e f = λ h env st d p calls u.
    let k = stands_at h slots env i s st (sym e) in
    ap (λ z. eval d calls z env u) is ∙ ap (λ z. given z (λ x. Done x u)) k.at ∙ ap (λ z. Done z u) (sym (f h k.value k.is))

taken : (fields : Option Fields) (look : Fields → Option Value) (y : Value) (s : State) → option_and_then look fields ≡ Some y
    → given fields (λ fs. given (look fs) (λ z. Done z s)) ≡ Done y s
taken None look y s e = cc
taken (Some fs) look y s e = ap (λ z. given z (λ z. Done z s)) e

reads_field : (env : List Value) (a : Term) (name : Name) (r y : Value) → ReadsAs env a r → option_and_then (field_at name) (as_fields r) ≡ Some y
    → ReadsAs env (t.Make (op.Project name) (a ∷ [])) y
reads_field env a name r y h e = λ d p calls s.
    eval-Make d calls (op.Project name) (a ∷ []) env s
    ∙ ap (λ o. after (after o (λ z u. after (Done [] u) (λ zs w. Done (z ∷ zs) w))) (d (op.Project name))) (h d p calls s)
    ∙ p.plain (op.Project name) tt (r ∷ []) s
    ∙ taken (as_fields r) (field_at name) y s e

pub finds_projected : (slots : List Slot) (args : List Term) (a : Term) (name : Name) (r : Value) (found : Option (Bor Value)) → args ≡ a ∷ [] → Finds slots a r
    → IfSome found (λ x. option_and_then (field_at name) (as_fields r) ≡ Some x.now) → IfSome found (λ x. Finds slots (t.Make (op.Project name) args) x.now)
finds_projected slots args a name r None is f e = tt
finds_projected slots args a name r (Some x) is f e = λ h env st.
    subst (λ l. ReadsAs env (t.Make (op.Project name) l) x.now) (sym is) (reads_field env a name r x.now (f h env st) e)

pub finds_along : (slots : List Slot) (a b : Term) (found : Option (Bor Value)) → a ≡ b → IfSome found (λ x. Finds slots b x.now)
    → IfSome found (λ x. Finds slots a x.now)
finds_along slots a b found is f = subst (λ z. IfSome found (λ x. Finds slots z x.now)) (sym is) f

-- the field of a record
pub row_field : (r : Value) (fields : Fields) (name : Name) (found : Option (Bor Value)) → r ≡ v.Row fields → option_copied found ≡ field_at name fields
    → IfSome found (λ x. option_and_then (field_at name) (as_fields r) ≡ Some x.now)
row_field r fields name None is e = tt
row_field r fields name (Some x) is e =
    ap (λ z. option_and_then (field_at name) (as_fields z)) is ∙ ap (λ z. option_and_then (field_at name) (open_fields z)) (v.outs-Row fields) ∙ sym e

-- ---- lists

pub finds_items : (slots : List Slot) (a : Term) (i : ℕ) (s : Slot) (found : Option (Bor (List Value))) → a ≡ t.Variable i → Some s ≡ slice_get slots i
    → IfSome found (λ xs. (h : Handlers) (y : Value) → IsSlot h s y → v.Many xs.now ≡ y) → IfSome found (λ xs. Finds slots a (v.Many xs.now))
finds_items slots a i s None is e f = tt
finds_items slots a i s (Some xs) is e f = λ h env st d p calls u.
    let k = stands_at h slots env i s st (sym e) in
    ap (λ z. eval d calls z env u) is ∙ ap (λ z. given z (λ x. Done x u)) k.at ∙ ap (λ z. Done z u) (sym (f h k.value k.is))

pub items_within : (slots : List Slot) (a : Term) (x : Value) (found : Option (Bor (List Value))) → Finds slots a x
    → IfSome found (λ xs. v.Many xs.now ≡ x) → IfSome found (λ xs. Finds slots a (v.Many xs.now))
items_within slots a x None f e = tt
items_within slots a x (Some xs) f e = subst (Finds slots a) (sym e) f

-- a list that stands in a value
pub held_within : (s : Slot) (b : Bor Value) (found : Option (Bor (List Value))) → s ≡ slot.Value b → IfSome found (λ xs. v.Many xs.now ≡ b.now)
    → IfSome found (λ xs. (h : Handlers) (y : Value) → IsSlot h s y → v.Many xs.now ≡ y)
held_within s b None is e = tt
held_within s b (Some xs) is e = λ h y st. e ∙ subst (λ z. IsSlot h z y) is st

pub held_rows : (s : Slot) (xs : Bor (List Value)) → s ≡ slot.Rows xs → (h : Handlers) (y : Value) → IsSlot h s y → v.Many xs.now ≡ y
held_rows s xs is h y st = subst (λ z. IsSlot h z y) is st

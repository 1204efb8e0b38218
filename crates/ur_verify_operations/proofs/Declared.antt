-- What a program declares, and the operations that stand on it.
use Rattle.std.proofs.Common.{◌≡◌, ℕ, Bool, true, false, not, List, [], ◌∷◌, take, drop, Option, Some, Result, refl, sym, ap, ap₂, ◌∙◌, subst, true≢false}
use Rattle.std.specs.Prelude.{map, option_map, slice_get, IsTrue, ◌↔◌}
use Rattle.std.proofs.lemmas.Option.{slice_get-map}
use Rattle.ur_values.specs.declared.value.FieldKind.TheVariants as kind
use Rattle.ur_values.specs.declared.types.ValueType.{ValueType}
use Rattle.ur_values.specs.declared.types.ValueType.TheVariants as ty
use Rattle.ur_values.specs.declared.types.TypeField.{TypeField}
use Rattle.ur_terms.specs.declared.term.AnswerForm.{AnswerForm}
use Rattle.ur_terms.specs.declared.term.Op.{Op}
use Rattle.ur_terms.specs.declared.term.Op.TheVariants as op
use Rattle.ur_terms.specs.Types.{Signature, RouteType, OpType, Holds, IsValueFor, IsUnitForm, answer_type, record_type, form_type, typed_field}
use Rattle.ur_verify_operations.specs.declared.misfit.Untyped.{Untyped}
use Rattle.ur_verify_operations.specs.Answering.{Answers}
use Rattle.ur_verify_operations.specs.Parts.{IsLast, Submits}
use Rattle.ur_verify_operations.proofs.FieldTypes.{Pairs, pairs, record_is}
use Rattle.ur_verify_operations.proofs.Replies.{answers_by}
use Rattle.ur_verify_operations.proofs.SameTypes.{record_same}

some_same : {A : Type 0} {x y : A} → Some x ≡ Some y → x ≡ y
some_same e = cc

pub mapped_at : {A B : Type 0} (f : A → B) (xs : List A) (i : ℕ) (x : A) → slice_get xs i ≡ Some x → slice_get (map f xs) i ≡ Some (f x)
mapped_at f xs i x e = slice_get-map f xs i ∙ ap (option_map f) e

-- arguments of these types, and this result
pub exactly_as : (ts v w : List ValueType) (a b : ValueType) (o : Result ValueType Untyped) → v ≡ w → a ≡ b → Answers (λ r. (ts ≡ v) × (r ≡ a)) o → Answers (λ r. (ts ≡ w) × (r ≡ b)) o
exactly_as ts v w a b o e f h = subst (λ x. Answers (λ r. (ts ≡ w) × (r ≡ x)) o) f (subst (λ x. Answers (λ r. (ts ≡ x) × (r ≡ a)) o) e h)

abbrev some_pair : List ValueType → ValueType → Option (List ValueType × ValueType)
some_pair ts r = Some (ts, r)

module _ (sig : Signature) where
  pub of_operation : (o p : Op) (ts : List ValueType) (r : Result ValueType Untyped) → o ≡ p → Answers (OpType sig p ts) r → Answers (OpType sig o ts) r
  of_operation o p ts r e h = subst (λ x. Answers (OpType sig x ts) r) (sym e) h

  -- ---- queries

  pub ask_at : (how : AnswerForm) (site : ℕ) (params : List ValueType) (row : ValueType) (ts : List ValueType) (o : Result ValueType Untyped)
      → slice_get sig.queries site ≡ some_pair params row → Answers (λ r. (ts ≡ params) × (r ≡ answer_type how row)) o → Answers (OpType sig (op.Ask how site) ts) o
  ask_at how site params row ts o slot h = answers_by o to from h
    where
      to : (r : ValueType) → (ts ≡ params) × (r ≡ answer_type how row) → OpType sig (op.Ask how site) ts r
      to r q = (row, slot ∙ ap (λ z. some_pair z row) (sym q.0), q.1)

      parts : (k : ValueType) → some_pair params row ≡ some_pair ts k → (params ≡ ts) × (row ≡ k)
      parts k e = let same = some_same e in (ap (λ z. z.0) same, ap (λ z. z.1) same)

      from : (r : ValueType) → OpType sig (op.Ask how site) ts r → (ts ≡ params) × (r ≡ answer_type how row)
      from r (k, other, is) = let same = parts k (sym slot ∙ other) in (sym same.0, is ∙ ap (answer_type how) (sym same.1))

  -- ---- routes

  -- what a link needs of its route
  pub link_of : (route k : ℕ) (ts : List ValueType) (r : ValueType) (target : RouteType) → slice_get sig.routes route ≡ Some target → OpType sig (op.Link route k) ts r
      → (target.get ≡ true) × (take k ts ≡ target.params) × Holds (drop k ts) r
  link_of route k ts r target slot (post, other, holds) =
      let same = some_same (sym slot ∙ other) in (ap (λ z. z.get) same, sym (ap (λ z. z.params) same), holds)

  pub link_at : (route k : ℕ) (ts : List ValueType) (target : RouteType) (o : Result ValueType Untyped) → slice_get sig.routes route ≡ Some target → target.get ≡ true
      → take k ts ≡ target.params → Answers (Holds (drop k ts)) o → Answers (OpType sig (op.Link route k) ts) o
  link_at route k ts target o slot get params h = answers_by o to (λ r q. (link_of route k ts r target slot q).2) h
    where
      to : (r : ValueType) → Holds (drop k ts) r → OpType sig (op.Link route k) ts r
      to r q = (target.post, slot ∙ ap₂ (λ x y. Some (record { params = x; get = y; post = target.post })) (sym params) get, q)

  pub submit_of : (route k : ℕ) (unit : Bool) (ts : List ValueType) (r : ValueType) (target : RouteType) → slice_get sig.routes route ≡ Some target → OpType sig (op.Submit route k unit) ts r
      → Submits unit (take k ts) target.params
  submit_of route k unit ts r target slot (last, get, other, is_unit, label, is) = (last, ap (λ z. z.params) (some_same (sym slot ∙ other)), is_unit)

  pub submit_fits : (route k : ℕ) (unit : Bool) (ts : List ValueType) (r : ValueType) (target : RouteType) → slice_get sig.routes route ≡ Some target → target.post ≡ true
      → Submits unit (take k ts) target.params → IsValueFor kind.Textbox (drop k ts) → r ≡ form_type [] → OpType sig (op.Submit route k unit) ts r
  submit_fits route k unit ts r target slot post (last, params, is_unit) label is =
      (last, target.get, slot ∙ ap₂ (λ x y. Some (record { params = x; get = target.get; post = y })) params post, is_unit, label, is)

pub submits_as : (unit : Bool) (ts us params others : List ValueType) → ts ≡ us → params ≡ others → Submits unit ts params → Submits unit us others
submits_as unit ts us params others e f h = subst (λ xs. Submits unit us xs) f (subst (λ xs. Submits unit xs params) e h)

-- ---- the last argument of a submit button's route

pub not_true : (b : Bool) → IsTrue (not b) ↔ (b ≡ false)
not_true true = ((λ q. absurd (true≢false (sym q))), (λ e. absurd (true≢false e)))
not_true false = ((λ q. refl), (λ e. refl))

nothing : (last : Pairs) → map typed_field last ≡ [] → last ≡ []
nothing [] e = refl
nothing (f ∷ fs) e = cc

nothing_paired : (gs : List TypeField) → pairs gs ≡ [] → gs ≡ []
nothing_paired [] e = refl
nothing_paired (g ∷ gs) e = cc

module _ (of : ValueType) (fs : List TypeField) (is : of ≡ ty.Record fs) where
  same_fields : (last : Pairs) → of ≡ record_type last → fs ≡ map typed_field last
  same_fields last k = record_same fs (map typed_field last) (sym is ∙ k)

  is_last_from : (u b : Bool) → IsTrue b ↔ (fs ≡ []) → IsLast u of → b ≡ u
  is_last_from true b e (last, k, empty) = e.1 (same_fields last k ∙ ap (map typed_field) empty)
  is_last_from false true e (last, k, some) = absurd (some (nothing last (sym (same_fields last k) ∙ e.0 refl)))
  is_last_from false false e h = refl

  unit_of : (u b : Bool) → IsTrue b ↔ (fs ≡ []) → b ≡ u → IsUnitForm u (pairs fs)
  unit_of true b e k = ap pairs (e.0 k)
  unit_of false b e k = λ h. true≢false (sym (e.1 (nothing_paired fs h)) ∙ k)

  pub is_last : (unit empty r : Bool) → IsTrue empty ↔ (fs ≡ []) → IsTrue r ↔ (empty ≡ unit) → IsTrue r ↔ IsLast unit of
  is_last unit empty r e w = ((λ q. (pairs fs, is ∙ record_is fs, unit_of unit empty e (w.0 q))), (λ h. w.1 (is_last_from unit empty e h)))

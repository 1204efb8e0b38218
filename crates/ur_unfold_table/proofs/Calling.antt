-- The forms of calls by what is found.
use Rattle.std.proofs.Common.{◌≡◌, ℕ, List, [], ◌∷◌, ◌++◌, map, Option, None, Some, Result, Ok, Err, refl, sym, ap, subst, ◌∙◌}
use Rattle.std.specs.Prelude.{slice_get}
use Rattle.ur_tree.specs.declared.exp.Exp.{Exp}
use Rattle.ur_tree.specs.declared.exp.Exp.TheVariants as x
use Rattle.ur_tree.specs.declared.exp.Param.{Param}
use Rattle.ur_tree.specs.declared.typed.Function.{Function}
use Rattle.ur_tree.specs.declared.typed.Typed.{Typed}
use Rattle.ur_tree.specs.declared.closed.Static.{Static, out-Static}
use Rattle.ur_tree.specs.declared.closed.Static.TheVariants as st
use Rattle.ur_meaning.specs.Form.{call_form, let_form, no_form}
use Rattle.ur_source.specs.Reading.{Cons}
use Rattle.ur_source.specs.Items as i
use Rattle.ur_source.specs.Items.{Scope, ItemForm, exps, form_of, form_with, static_in, fixed_args, value_args, applied_form, closed_form, constant_form}
use Rattle.ur_source.specs.Source.{source_of}
use Rattle.ur_meaning.specs.declared.head.Head.TheVariants as head
use Rattle.ur_meaning.specs.declared.head.Opened.{Opened}
use Rattle.ur_meaning.specs.declared.halt.Halt.{Halt}
use Rattle.ur_meaning.specs.Heads as heads
use Rattle.ur_unfold_static.specs.declared.node.Scope.{Scope as Numbers}
use Rattle.ur_unfold_static.specs.Held.{Held}
use Rattle.ur_unfold_static.specs.Scopes.{Statics, IsAt, AreAt, MayBeAt, Stands}
use Rattle.ur_unfold_static.proofs.Standing.{are_more, cons_grown}
use Rattle.ur_unfold_pieces.specs.declared.piece.Piece.{Piece}
use Rattle.ur_unfold_pieces.specs.declared.opening.Opening.{Opening}
use Rattle.ur_unfold_pieces.specs.Told.{exp, told, exps_told}
use Rattle.ur_unfold_pieces.specs.Keys as keys
use Rattle.ur_unfold_pieces.specs.Keys.{instance_of, Added, Gives}
use Rattle.ur_unfold_pieces.specs.Standing.{ScopeIs, IsWhole, instances_in}
use Rattle.ur_unfold_pieces.specs.Moving.{Widens, Stays}
use Rattle.ur_unfold_pieces.specs.Forming.{FormedAs}
use Rattle.ur_unfold_pieces.proofs.Staying.{instances_stay, scope_stays, whole_stays, stays_so, stays_then}
use Rattle.ur_unfold_pieces.proofs.Scoped.{added_at}
use Rattle.ur_unfold_table.specs.Opened.{IsOpened}
use Rattle.ur_unfold_table.specs.Applying.{AreMayBeAt}
use Rattle.ur_unfold_table.proofs.Forms.{form-Apply}
use Rattle.ur_unfold_table.proofs.Telling.{exps_say, both_say}
use Rattle.ur_unfold_table.proofs.Forming.{opened_formed, formed_after}
use Rattle.ur_unfold_table.proofs.Called.{constant-known, call-unknown, call-dynamic, call-static, lambda-dynamic, lambda-static, instance_is, called_formed, call_stops}

-- ---- a named function

module _ (old : Opening) (n : ℕ) (scope : Scope) (at : ScopeIs old n scope) (whole : IsWhole old) (args : List Exp) (k : ℕ) (js : List ℕ) (cs : Cons) (are : AreAt old.closing.cons js cs) where
  abbrev call : ItemForm
  call = applied_form (source_of old.typed.now) scope args (out-Static (st.Function k cs))

  pub unknown_formed : (r : Result (Opened Piece) Halt) → slice_get old.typed.now.functions k ≡ None → FormedAs old old no_form r → FormedAs old old call r
  unknown_formed r e f = subst (λ form. FormedAs old old form r) (sym (call-unknown (source_of old.typed.now) scope args k cs e)) f

  module _ (function : Function) (known : slice_get old.typed.now.functions k ≡ Some function) (mid : Opening) (st : Stays old mid) (o : Option (List ℕ))
      (made : AreMayBeAt mid.closing.statics o (fixed_args (static_in (source_of old.typed.now) scope) function.params args)) where
    pub dynamic_formed : (r : Result (Opened Piece) Halt) → o ≡ None → FormedAs old mid no_form r → FormedAs old mid call r
    dynamic_formed r e f =
        let none = subst (λ p. AreMayBeAt mid.closing.statics p (fixed_args (static_in (source_of old.typed.now) scope) function.params args)) e made in
        subst (λ form. FormedAs old mid form r) (sym (call-dynamic (source_of old.typed.now) scope args k cs function known none)) f

    module _ (fixed : List ℕ) (found : o ≡ Some fixed) (new : Opening) (w : Widens mid new) where
      are_there : AreMayBeAt mid.closing.statics (Some fixed) (fixed_args (static_in (source_of old.typed.now) scope) function.params args)
      are_there = subst (λ p. AreMayBeAt mid.closing.statics p (fixed_args (static_in (source_of old.typed.now) scope) function.params args)) found made

      key_is : instance_of mid.closing (record { function = k; cons = js; fixed = fixed }) ≡ record { function = k; cons = cs; fixed = are_there.0 }
      key_is = instance_is mid.closing k js fixed cs are_there.0 (cons_grown old.closing mid.closing st.widens.closing js cs are) are_there.1

      call_is : call ≡ call_form (record { function = k; cons = cs; fixed = are_there.0 }) (exps scope (value_args function.params args))
      call_is = call-static (source_of old.typed.now) scope args k cs function are_there.0 known are_there.2

      pub numbered_formed : (j : ℕ) (o : Opened Piece) → (IsWhole mid → keys.Numbers keys.IsOf (instances_in mid) (instances_in new) (instance_of mid.closing (record { function = k; cons = js; fixed = fixed })) (Ok j)) → o.head ≡ head.Call j
          → map told o.parts ≡ exps_told n (value_args function.params args) → FormedAs old new call (Ok o)
      numbered_formed j o numbers h ps =
          subst (λ form. FormedAs old new form (Ok o)) (sym call_is)
          (called_formed old mid new st w whole (record { function = k; cons = cs; fixed = are_there.0 }) (exps_told n (value_args function.params args)) (exps scope (value_args function.params args))
          (exps_say new n scope (scope_stays mid new w n scope (scope_stays old mid st.widens n scope at)) (value_args function.params args)) j (Ok o)
          (subst (λ i. keys.Numbers keys.IsOf (instances_in mid) (instances_in new) i (Ok j)) key_is (numbers (whole_stays old mid st whole))) (h, ps))

      pub unnumbered_formed : (e : Halt) → (IsWhole mid → keys.Numbers keys.IsOf (instances_in mid) (instances_in new) (instance_of mid.closing (record { function = k; cons = js; fixed = fixed })) (Err e)) → FormedAs old new call (Err e)
      unnumbered_formed e numbers =
          subst (λ form. FormedAs old new form (Err e)) (sym call_is)
          (call_stops old mid new st w whole (record { function = k; cons = cs; fixed = are_there.0 }) (exps scope (value_args function.params args)) e
          (subst (λ i. keys.Numbers keys.IsOf (instances_in mid) (instances_in new) i (Err e)) key_is (numbers (whole_stays old mid st whole))))

-- ---- a function as a value

pub constant_none : (old : Opening) (k : ℕ) (cs : Cons) (r : Result (Opened Piece) Halt) → closed_form old.typed.now.functions (out-Static (st.Function k cs)) ≡ no_form → FormedAs old old no_form r
    → FormedAs old old (closed_form old.typed.now.functions (out-Static (st.Function k cs))) r
constant_none old k cs r e f = subst (λ form. FormedAs old old form r) (sym e) f

module _ (old new : Opening) (k : ℕ) (js : List ℕ) (cs : Cons) (are : AreAt old.closing.cons js cs) (function : Function) (known : slice_get old.typed.now.functions k ≡ Some function) (none : function.params ≡ [])
    (fixed : List ℕ) (empty : fixed ≡ []) (w : Widens old new) (whole : IsWhole old) where
  constant_is : closed_form old.typed.now.functions (out-Static (st.Function k cs)) ≡ call_form (record { function = k; cons = cs; fixed = [] }) []
  constant_is = constant-known old.typed.now.functions k cs function known ∙ ap (constant_form k cs) none

  constant_key : instance_of old.closing (record { function = k; cons = js; fixed = fixed }) ≡ record { function = k; cons = cs; fixed = [] }
  constant_key = instance_is old.closing k js fixed cs [] are (subst (λ (l : List ℕ). AreAt old.closing.statics l []) (sym empty) tt)

  pub constant_called : (j : ℕ) (r : Result (Opened Piece) Halt) → (IsWhole old → keys.Numbers keys.IsOf (instances_in old) (instances_in new) (instance_of old.closing (record { function = k; cons = js; fixed = fixed })) (Ok j))
      → IsOpened (head.Call j) [] r → FormedAs old new (closed_form old.typed.now.functions (out-Static (st.Function k cs))) r
  constant_called j r numbers is =
      subst (λ form. FormedAs old new form r) (sym constant_is)
      (called_formed old old new (stays_so old) w whole (record { function = k; cons = cs; fixed = [] }) [] [] tt j r (subst (λ i. keys.Numbers keys.IsOf (instances_in old) (instances_in new) i (Ok j)) constant_key (numbers whole)) is)

  pub constant_stops : (e : Halt) → (IsWhole old → keys.Numbers keys.IsOf (instances_in old) (instances_in new) (instance_of old.closing (record { function = k; cons = js; fixed = fixed })) (Err e))
      → FormedAs old new (closed_form old.typed.now.functions (out-Static (st.Function k cs))) (Err e)
  constant_stops e numbers =
      subst (λ form. FormedAs old new form (Err e)) (sym constant_is)
      (call_stops old old new (stays_so old) w whole (record { function = k; cons = cs; fixed = [] }) [] e (subst (λ i. keys.Numbers keys.IsOf (instances_in old) (instances_in new) i (Err e)) constant_key (numbers whole)))

-- ---- a lambda

pub found_args : (old : Opening) (n : ℕ) (scope : Scope) (args : List Exp) (params : List Param) (mid : Opening) (o : Option (List ℕ)) (fixed : List ℕ) → o ≡ Some fixed
    → AreMayBeAt mid.closing.statics o (fixed_args (static_in (source_of old.typed.now) scope) params args) → (gs : Statics) × AreAt mid.closing.statics fixed gs
found_args old n scope args params mid o fixed found made =
    let there = subst (λ p. AreMayBeAt mid.closing.statics p (fixed_args (static_in (source_of old.typed.now) scope) params args)) found made in
    (there.0, there.1)

module _ (old : Opening) (n : ℕ) (scope : Scope) (at : ScopeIs old n scope) (whole : IsWhole old) (args : List Exp) (params : List Param) (body : Exp) (cs : Cons) (known : Statics) where
  abbrev applied : ItemForm
  applied = applied_form (source_of old.typed.now) scope args (out-Static (st.Lambda params body cs known))

  module _ (mid : Opening) (st : Stays old mid) (o : Option (List ℕ)) (made : AreMayBeAt mid.closing.statics o (fixed_args (static_in (source_of old.typed.now) scope) params args)) where
    pub lambda_dynamic : (r : Result (Opened Piece) Halt) → o ≡ None → FormedAs old mid no_form r → FormedAs old mid applied r
    lambda_dynamic r e f =
        let none = subst (λ p. AreMayBeAt mid.closing.statics p (fixed_args (static_in (source_of old.typed.now) scope) params args)) e made in
        subst (λ form. FormedAs old mid form r) (sym (lambda-dynamic (source_of old.typed.now) scope args params body cs known none)) f

    -- the body's scope has this number
    pub lambda_formed : (fixed : List ℕ) → o ≡ Some fixed → (new : Opening) → Stays mid new → (within : ℕ) → ((gs : Statics) → AreAt mid.closing.statics fixed gs → ScopeIs new within (record { cons = cs; fixed = gs ++ known }))
        → (o : Opened Piece) → o.head ≡ head.Let → map told o.parts ≡ exps_told n (value_args params args) ++ exp within body ∷ [] → FormedAs old new applied (Ok o)
    lambda_formed fixed found new sn within inside o h ps =
        let there = subst (λ p. AreMayBeAt mid.closing.statics p (fixed_args (static_in (source_of old.typed.now) scope) params args)) found made in
        let values = exps scope (value_args params args) in
        let item = i.exp (record { cons = cs; fixed = there.0 ++ known }) body in
        let both = stays_then old mid new st sn in
        subst (λ form. FormedAs old new form (Ok o)) (sym (lambda-static (source_of old.typed.now) scope args params body cs known there.0 there.2))
        (opened_formed old new (instances_stay old new both whole) head.Let (exps_told n (value_args params args) ++ exp within body ∷ []) (values ++ item ∷ []) (let_form values item) (Ok o) (h, ps)
        (both_say new (exps_told n (value_args params args)) (exp within body ∷ []) values (item ∷ []) (exps_say new n scope (scope_stays old new both.widens n scope at) (value_args params args)) ((record { cons = cs; fixed = there.0 ++ known }, inside there.0 there.1, refl), tt))
        (heads.bound values item) refl)

-- the scope of a lambda's body that was added
pub body_scoped : (old new : Opening) (known : Numbers) (fixed : List ℕ) (made : Numbers) (cs : Cons) (fs gs : Statics) (r : Result ℕ Halt) → Stands old.closing known cs fs → AreAt old.closing.statics fixed gs
    → made.cons ≡ known.cons → made.fixed ≡ fixed ++ known.fixed → new.closing ≡ old.closing → Added old.scopes new.scopes made r → Gives (λ n. ScopeIs new n (record { cons = cs; fixed = gs ++ fs })) r
body_scoped old new known fixed made cs fs gs (Ok j) h g e f c a =
    let stands : Stands old.closing made cs (gs ++ fs) = (
      subst (λ (js : List ℕ). AreAt old.closing.cons js cs) (sym e) h.0,
      subst (λ (js : List ℕ). AreAt old.closing.statics js (gs ++ fs)) (sym f) (are_more old.closing.statics fixed known.fixed gs fs g h.1),
    ) in
    (made, added_at old.scopes new.scopes made j a, subst (λ (k : Held). Stands k made cs (gs ++ fs)) (sym c) stands)
body_scoped old new known fixed made cs fs gs (Err x) h g e f c a = a.0

-- ---- what is applied

module _ (old mid : Opening) (st : Stays old mid) (n : ℕ) (scope : Scope) (at : ScopeIs old n scope) (whole : IsWhole old) (g : Exp) (args : List Exp) (o : Option ℕ)
    (made : MayBeAt mid.closing.statics o (static_in (source_of old.typed.now) scope g)) where
  abbrev with_static : Static → ItemForm
  with_static s = applied_form (source_of old.typed.now) scope args (out-Static s)

  pub apply_none : (new : Opening) (r : Result (Opened Piece) Halt) → o ≡ None → FormedAs old new no_form r → FormedAs old new (form_of (source_of old.typed.now) (i.exp scope (x.Apply g args))) r
  apply_none new r e f =
      let none = subst (λ p. MayBeAt mid.closing.statics p (static_in (source_of old.typed.now) scope g)) e made in
      subst (λ form. FormedAs old new form r) (sym (form-Apply (source_of old.typed.now) scope g args ∙ ap (λ s. form_with s with_static) none)) f

  pub apply_some : (new : Opening) (r : Result (Opened Piece) Halt) (j : ℕ) → o ≡ Some j → ((s : Static) → IsAt mid.closing.statics j s → FormedAs mid new (applied_form (source_of mid.typed.now) scope args (out-Static s)) r)
      → FormedAs old new (form_of (source_of old.typed.now) (i.exp scope (x.Apply g args))) r
  apply_some new r j e go =
      let there = subst (λ p. MayBeAt mid.closing.statics p (static_in (source_of old.typed.now) scope g)) e made in
      let here = subst (λ (app : Typed). FormedAs mid new (applied_form (source_of app) scope args (out-Static there.0)) r) st.widens.typed (go there.0 there.1) in
      subst (λ form. FormedAs old new form r) (sym (form-Apply (source_of old.typed.now) scope g args ∙ ap (λ s. form_with s with_static) there.2))
      (formed_after old mid new (with_static there.0) r st.widens.typed (instances_stay old mid st whole) here)

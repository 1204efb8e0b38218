-- Functions by their names, and constructors that are too large.
use Rattle.std.proofs.Common.{◌≡◌, ℕ, List, [], map, Option, None, Some, Result, Err, refl, sym, ap, subst, ◌∙◌}
use Rattle.std.specs.Prelude.{slice_get}
use Rattle.ur_rows.specs.declared.normal.Normal.{Normal}
use Rattle.ur_rows.specs.Put.{instance}
use Rattle.ur_tree.specs.declared.exp.Exp.{Exp}
use Rattle.ur_tree.specs.declared.exp.Exp.TheVariants as x
use Rattle.ur_tree.specs.declared.typed.Typed.{Typed}
use Rattle.ur_tree.specs.declared.typed.Function.{Function}
use Rattle.ur_tree.specs.declared.closed.Static.{Static, out-Static}
use Rattle.ur_tree.specs.declared.closed.Instance.{Instance}
use Rattle.ur_tree.specs.declared.closed.Static.TheVariants as st
use Rattle.ur_meaning.specs.Form.{call_form, no_form, callee}
use Rattle.ur_meaning.specs.Instances as n
use Rattle.ur_source.specs.Reading.{Cons}
use Rattle.ur_source.specs.Items as i
use Rattle.ur_source.specs.Items.{Source, Scope, Item, exps, form_of, form_with, fixed_args, value_args, static_in, applied_form, constant_form, if_static}
use Rattle.ur_source.specs.Source.{source_of}
use Rattle.ur_unfold_static.specs.Held.{Held}
use Rattle.ur_unfold_static.specs.Scopes.{Statics, AreAt}
use Rattle.ur_unfold_pieces.proofs.Equations.{static-Function}
use Rattle.ur_meaning.specs.declared.head.Head.TheVariants as head
use Rattle.ur_meaning.specs.declared.head.Opened.{Opened}
use Rattle.ur_meaning.specs.declared.halt.Halt.{Halt}
use Rattle.ur_meaning.specs.declared.halt.Halt.TheVariants as halt
use Rattle.ur_unfold_pieces.specs.declared.piece.Piece.{Piece}
use Rattle.ur_unfold_pieces.specs.declared.opening.Opening.{Opening}
use Rattle.ur_unfold_pieces.specs.Constructors.{AreNumbered}
use Rattle.ur_unfold_pieces.specs.Keys.{instance_of}
use Rattle.ur_unfold_pieces.specs.Moving.{Stays}
use Rattle.ur_unfold_pieces.specs.Standing.{ScopeIs, IsWhole, instances_in}
use Rattle.ur_unfold_pieces.specs.Forming.{FormedAs, OpensExp, CallsBy, IsLarge, itself, in_part}
use Rattle.ur_unfold_pieces.proofs.Staying.{instances_stay, scope_stays, whole_stays}
use Rattle.ur_unfold_table.specs.Opened.{IsOpened}
use Rattle.ur_unfold_table.proofs.Forms.{form-Apply, form-Function}
use Rattle.ur_unfold_table.proofs.Forming.{none_formed, formed_after}
use Rattle.ur_unfold_table.proofs.Called.{call-unknown, call-dynamic, call-static, closed-Function, instance_is}
use Rattle.ur_unfold_table.proofs.Formed.{opens_exp}

-- a call of what has a constructor that is too large
pub cons_halt : (old new : Opening) (held : Held) (k : Instance) (items : List Item) (h : Halt) → AreNumbered held k.cons (Err h) → FormedAs old new (call_form k items) (Err h)
cons_halt old new held k items halt.Nodes g = absurd g
cons_halt old new held k items halt.Nesting g = absurd g
cons_halt old new held k items (halt.Instances function) g = absurd g
cons_halt old new held k items halt.Large g = record { called = k; calls = itself refl; large = g }
cons_halt old new held k items halt.Memory g = tt

-- ---- the form of a call by name

module _ (p : Source) (scope : Scope) (k : ℕ) (cons : List Normal) (args : List Exp) where
  abbrev pub named_instance : Statics → Instance
  named_instance fixed = record { function = k; cons = map (instance scope.cons) cons; fixed = fixed }

  named_is : form_of p (i.exp scope (x.Apply (x.Function k cons) args)) ≡ applied_form p scope args (out-Static (st.Function k (map (instance scope.cons) cons)))
  named_is =
      form-Apply p scope (x.Function k cons) args
      ∙ ap (λ (c : Option Static). form_with c (λ s. applied_form p scope args (out-Static s))) (static-Function p.names p.vals scope.cons scope.fixed k cons)

  module _ (old new : Opening) (r : Result (Opened Piece) Halt) where
    pub no_function : instances_in new ≡ instances_in old → slice_get p.functions k ≡ None → IsOpened head.Nothing [] r → FormedAs old new (form_of p (i.exp scope (x.Apply (x.Function k cons) args))) r
    no_function stay e h = subst (λ f. FormedAs old new f r) (sym (named_is ∙ call-unknown p scope args k (map (instance scope.cons) cons) e)) (none_formed old new stay r h)

    pub no_arguments : (f : Function) → instances_in new ≡ instances_in old → slice_get p.functions k ≡ Some f → fixed_args (static_in p scope) f.params args ≡ None → IsOpened head.Nothing [] r
        → FormedAs old new (form_of p (i.exp scope (x.Apply (x.Function k cons) args))) r
    no_arguments f stay e none h = subst (λ f. FormedAs old new f r) (sym (named_is ∙ call-dynamic p scope args k (map (instance scope.cons) cons) f e none)) (none_formed old new stay r h)

    pub with_arguments : (f : Function) (fixed : Statics) → slice_get p.functions k ≡ Some f → fixed_args (static_in p scope) f.params args ≡ Some fixed
        → FormedAs old new (call_form (named_instance fixed) (exps scope (value_args f.params args))) r → FormedAs old new (form_of p (i.exp scope (x.Apply (x.Function k cons) args))) r
    with_arguments f fixed e some h = subst (λ f. FormedAs old new f r) (sym (named_is ∙ call-static p scope args k (map (instance scope.cons) cons) f fixed e some)) h

-- the call of the key is that of the instance by its name
pub key_called : (old mid new : Opening) (k : ℕ) (js fs : List ℕ) (cs : List Normal) (ss : Statics) (items : List Item) (r : Result (Opened Piece) Halt) → Stays old mid → IsWhole old
    → AreAt mid.closing.cons js cs → AreAt mid.closing.statics fs ss → FormedAs mid new (call_form (instance_of mid.closing (record { function = k; cons = js; fixed = fs })) items) r
    → FormedAs old new (call_form (record { function = k; cons = cs; fixed = ss }) items) r
key_called old mid new k js fs cs ss items r st whole h g formed =
    formed_after old mid new (call_form (record { function = k; cons = cs; fixed = ss }) items) r st.widens.typed (instances_stay old mid st whole)
    (subst (λ (one : Instance). FormedAs mid new (call_form one items) r) (instance_is mid.closing k js fs cs ss h g) formed)

-- ---- a name as a value

module _ (p : Source) (scope : Scope) (k : ℕ) (cons : List Normal) where
  abbrev named : Cons
  named = map (instance scope.cons) cons

  the_name : static_in p scope (x.Function k cons) ≡ Some (st.Function k named)
  the_name = static-Function p.names p.vals scope.cons scope.fixed k cons

  name_calls : (f : Function) → slice_get p.functions k ≡ Some f → f.params ≡ [] → CallsBy p (if_static (static_in p scope (x.Function k cons)) no_form) (record { function = k; cons = named; fixed = [] })
  name_calls f e none =
      subst (λ c. CallsBy p (if_static c no_form) (record { function = k; cons = named; fixed = [] })) (sym the_name)
      (in_part (i.closed (st.Function k named)) (n.first (i.closed (st.Function k named)) [])
      (ap callee (closed-Function p.functions k named ∙ ap (λ o. form_with o (λ f. constant_form k named f.params)) e ∙ ap (constant_form k named) none)))

  name_halts : (old new : Opening) (held : Held) (f : Function) (h : Halt) → p ≡ source_of old.typed.now → slice_get p.functions k ≡ Some f → f.params ≡ [] → AreNumbered held named (Err h)
      → FormedAs old new (if_static (static_in p scope (x.Function k cons)) no_form) (Err h)
  name_halts old new held f halt.Nodes q e none g = absurd g
  name_halts old new held f halt.Nesting q e none g = absurd g
  name_halts old new held f (halt.Instances function) q e none g = absurd g
  name_halts old new held f halt.Large q e none g =
      subst (λ (source : Source). IsLarge source (if_static (static_in p scope (x.Function k cons)) no_form)) q
      (record { called = record { function = k; cons = named; fixed = [] }; calls = name_calls f e none; large = g })
  name_halts old new held f halt.Memory q e none g = tt

-- the name is its closed static expression
pub name_opens : (old new : Opening) (n : ℕ) (e : Exp) (k : ℕ) (cons : List Normal) (r : Result (Opened Piece) Halt) → e ≡ x.Function k cons
    → ((scope : Scope) → ScopeIs old n scope → IsWhole old → FormedAs old new (if_static (static_in (source_of old.typed.now) scope e) no_form) r) → OpensExp old new n e r
name_opens old new n e k cons r is go =
    opens_exp old new n e (x.Function k cons) r (λ scope. if_static (static_in (source_of old.typed.now) scope (x.Function k cons)) no_form) is (λ scope. form-Function (source_of old.typed.now) scope k cons)
    (λ scope at whole. subst (λ e. FormedAs old new (if_static (static_in (source_of old.typed.now) scope e) no_form) r) is (go scope at whole))

pub name_stops : (old new : Opening) (n : ℕ) (e : Exp) (k : ℕ) (cons : List Normal) (f : Function) (held : Held) (h : Halt) → e ≡ x.Function k cons → slice_get old.typed.now.functions k ≡ Some f → f.params ≡ []
    → ((scope : Scope) → ScopeIs old n scope → AreNumbered held (map (instance scope.cons) cons) (Err h)) → OpensExp old new n e (Err h)
name_stops old new n e k cons f held h is at none go =
    opens_exp old new n e (x.Function k cons) (Err h) (λ scope. if_static (static_in (source_of old.typed.now) scope (x.Function k cons)) no_form) is (λ scope. form-Function (source_of old.typed.now) scope k cons)
    (λ scope there whole. name_halts (source_of old.typed.now) scope k cons old new held f h refl at none (go scope there))

pub opens_after : (old mid new : Opening) (n : ℕ) (e : Exp) (k : ℕ) (cons : List Normal) (r : Result (Opened Piece) Halt) → Stays old mid → e ≡ x.Function k cons
    → ((scope : Scope) → ScopeIs mid n scope → IsWhole mid → FormedAs mid new (if_static (static_in (source_of mid.typed.now) scope e) no_form) r) → OpensExp old new n e r
opens_after old mid new n e k cons r st is go =
    name_opens old new n e k cons r is
    (λ scope at whole.
    formed_after old mid new (if_static (static_in (source_of old.typed.now) scope e) no_form) r st.widens.typed (instances_stay old mid st whole)
    (subst (λ (app : Typed). FormedAs mid new (if_static (static_in (source_of app) scope e) no_form) r) st.widens.typed
    (go scope (scope_stays old mid st.widens n scope at) (whole_stays old mid st whole))))

-- The forms of calls and of applied lambdas.
use Rattle.std.proofs.Common.{◌≡◌, ◌<◌, ◌≤◌, ℕ, zero, suc, ◌+◌, Bool, true, false, List, [], ◌∷◌, ◌++◌, map, length, drop, get_or, Option, None, Some, option_map, Result, Ok, Err, refl, sym, ap, ap₂, subst, ◌∙◌, arith, append_assoc, append-nil, drop-cons, add-one}
use Rattle.std.specs.Prelude.{slice_get}
use Rattle.std.specs.List.{AllZip}
use Rattle.std.proofs.lemmas.Bool.{false≢true}
use Rattle.std.proofs.lemmas.List.{drop_all, map-append}
use Rattle.ur_tree.specs.declared.exp.Exp.{Exp}
use Rattle.ur_tree.specs.declared.exp.Param.{Param}
use Rattle.ur_tree.specs.declared.typed.Function.{Function}
use Rattle.ur_tree.specs.declared.closed.Static.{Static, out-Static}
use Rattle.ur_tree.specs.declared.closed.Static.TheVariants as st
use Rattle.ur_tree.specs.declared.closed.Instance.{Instance}
use Rattle.ur_meaning.specs.Form.{call_form, let_form, no_form}
use Rattle.ur_meaning.specs.Instances.{IsNumbered}
use Rattle.ur_source.specs.Reading.{Cons, cons_option}
use Rattle.ur_source.specs.Items as i
use Rattle.ur_source.specs.Items.{Source, Scope, Item, ItemForm, exps, form_with, static_in, fixed_args, value_args, if_fixed, if_value, applied_form, closed_form, constant_form}
use Rattle.ur_meaning.specs.declared.head.Head.TheVariants as head
use Rattle.ur_meaning.specs.declared.head.Opened.{Opened}
use Rattle.ur_meaning.specs.declared.halt.Halt.{Halt}
use Rattle.ur_meaning.specs.declared.halt.Halt.TheVariants as halt
use Rattle.ur_meaning.specs.Heads as heads
use Rattle.ur_unfold_static.specs.Held.{Held, Grows}
use Rattle.ur_unfold_static.specs.Scopes.{Statics, AreAt}
use Rattle.ur_unfold_static.proofs.Standing.{cons_are, statics_are, are_more, statics_grown}
use Rattle.ur_unfold_pieces.specs.declared.piece.Piece.{Piece}
use Rattle.ur_unfold_pieces.specs.declared.opening.Opening.{Opening}
use Rattle.ur_unfold_pieces.specs.Told.{Told, exp, told, exps_told}
use Rattle.ur_unfold_pieces.specs.Keys.{instance_of, IsOf, IsAdded, Numbers}
use Rattle.ur_unfold_pieces.specs.Standing.{SaysFor, IsWhole, instances_in}
use Rattle.ur_unfold_pieces.specs.Moving.{Widens, Stays}
use Rattle.ur_unfold_pieces.specs.Forming.{FormedAs}
use Rattle.ur_unfold_pieces.proofs.Staying.{instances_stay}
use Rattle.ur_unfold_table.specs.Applying.{AreMayBeAt, IsPushed, one_value}
use Rattle.ur_unfold_table.specs.Opened.{IsOpened}
use Rattle.ur_unfold_table.proofs.Telling.{told_zip}
use Rattle.ur_unfold_table.proofs.Forming.{no_memory}

-- ---- the equations of what is applied

module _ (p : Source) (scope : Scope) (args : List Exp) where
  abbrev with_fixed : ℕ → Cons → Function → Statics → ItemForm
  with_fixed k cs function fixed = call_form (record { function = k; cons = cs; fixed = fixed }) (exps scope (value_args function.params args))

  abbrev with_function : ℕ → Cons → Function → ItemForm
  with_function k cs function = form_with (fixed_args (static_in p scope) function.params args) (with_fixed k cs function)

  call-is : (k : ℕ) (cs : Cons) → applied_form p scope args (out-Static (st.Function k cs)) ≡ form_with (slice_get p.functions k) (with_function k cs)
  call-is k cs = ap (applied_form p scope args) (st.outs-Function k cs)

  pub call-unknown : (k : ℕ) (cs : Cons) → slice_get p.functions k ≡ None → applied_form p scope args (out-Static (st.Function k cs)) ≡ no_form
  call-unknown k cs e = call-is k cs ∙ ap (λ o. form_with o (with_function k cs)) e

  pub call-dynamic : (k : ℕ) (cs : Cons) (function : Function) → slice_get p.functions k ≡ Some function → fixed_args (static_in p scope) function.params args ≡ None
      → applied_form p scope args (out-Static (st.Function k cs)) ≡ no_form
  call-dynamic k cs function e f = call-is k cs ∙ ap (λ o. form_with o (with_function k cs)) e ∙ ap (λ o. form_with o (with_fixed k cs function)) f

  pub call-static : (k : ℕ) (cs : Cons) (function : Function) (fixed : Statics) → slice_get p.functions k ≡ Some function → fixed_args (static_in p scope) function.params args ≡ Some fixed
      → applied_form p scope args (out-Static (st.Function k cs)) ≡ with_fixed k cs function fixed
  call-static k cs function fixed e f = call-is k cs ∙ ap (λ o. form_with o (with_function k cs)) e ∙ ap (λ o. form_with o (with_fixed k cs function)) f

  abbrev with_known : List Param → Exp → Cons → Statics → Statics → ItemForm
  with_known params body cs known fixed = let_form (exps scope (value_args params args)) (i.exp (record { cons = cs; fixed = fixed ++ known }) body)

  lambda-is : (params : List Param) (body : Exp) (cs : Cons) (known : Statics) → applied_form p scope args (out-Static (st.Lambda params body cs known)) ≡ form_with (fixed_args (static_in p scope) params args) (with_known params body cs known)
  lambda-is params body cs known = ap (applied_form p scope args) (st.outs-Lambda params body cs known)

  pub lambda-dynamic : (params : List Param) (body : Exp) (cs : Cons) (known : Statics) → fixed_args (static_in p scope) params args ≡ None → applied_form p scope args (out-Static (st.Lambda params body cs known)) ≡ no_form
  lambda-dynamic params body cs known f = lambda-is params body cs known ∙ ap (λ o. form_with o (with_known params body cs known)) f

  pub lambda-static : (params : List Param) (body : Exp) (cs : Cons) (known fixed : Statics) → fixed_args (static_in p scope) params args ≡ Some fixed
      → applied_form p scope args (out-Static (st.Lambda params body cs known)) ≡ with_known params body cs known fixed
  lambda-static params body cs known fixed f = lambda-is params body cs known ∙ ap (λ o. form_with o (with_known params body cs known)) f

pub closed-Function : (functions : List Function) (k : ℕ) (cs : Cons) → closed_form functions (out-Static (st.Function k cs)) ≡ form_with (slice_get functions k) (λ function. constant_form k cs function.params)
closed-Function functions k cs = ap (closed_form functions) (st.outs-Function k cs)

pub constant-unknown : (functions : List Function) (k : ℕ) (cs : Cons) → slice_get functions k ≡ None → closed_form functions (out-Static (st.Function k cs)) ≡ no_form
constant-unknown functions k cs e = closed-Function functions k cs ∙ ap (λ o. form_with o (λ (f : Function). constant_form k cs f.params)) e

pub constant-known : (functions : List Function) (k : ℕ) (cs : Cons) (function : Function) → slice_get functions k ≡ Some function → closed_form functions (out-Static (st.Function k cs)) ≡ constant_form k cs function.params
constant-known functions k cs function e = closed-Function functions k cs ∙ ap (λ o. form_with o (λ (f : Function). constant_form k cs f.params)) e

pub constant-applied : (k : ℕ) (cs : Cons) (params : List Param) → ¬ (params ≡ []) → constant_form k cs params ≡ no_form
constant-applied k cs [] h = absurd (h refl)
constant-applied k cs (q ∷ params) h = refl

-- ---- calls

-- the instance of a key whose numbers are known
pub instance_is : (held : Held) (k : ℕ) (js fs : List ℕ) (cs : Cons) (ss : Statics) → AreAt held.cons js cs → AreAt held.statics fs ss
    → instance_of held (record { function = k; cons = js; fixed = fs }) ≡ record { function = k; cons = cs; fixed = ss }
instance_is held k js fs cs ss h g = ap₂ (λ a b. record { function = k; cons = a; fixed = b }) (cons_are held.cons js cs h) (statics_are held.statics fs ss g)

module _ (old mid new : Opening) (st : Stays old mid) (w : Widens mid new) (whole : IsWhole old) (k : Instance) where
  added_old : IsAdded k (instances_in mid) (instances_in new) → IsAdded k (instances_in old) (instances_in new)
  added_old = subst (λ l. IsAdded k l (instances_in new)) (instances_stay old mid st whole)

  pub called_formed : (ts : List Told) (items : List Item) → AllZip (SaysFor new) ts items → (j : ℕ) (r : Result (Opened Piece) Halt) → Numbers IsOf (instances_in mid) (instances_in new) k (Ok j) → IsOpened (head.Call j) ts r
      → FormedAs old new (call_form k items) r
  called_formed ts items says j (Ok o) numbers is = record {
    items = items;
    parts = told_zip new o.parts ts items is.1 says;
    heads = subst (λ a. heads.Heads (instances_in new) a items (call_form k items)) (sym is.0) (heads.call k items j numbers.0);
    added = added_old numbers.1;
  }
  called_formed ts items says j (Err e) numbers is = no_memory old new (call_form k items) e is

  pub call_stops : (items : List Item) (e : Halt) → Numbers IsOf (instances_in mid) (instances_in new) k (Err e) → FormedAs old new (call_form k items) (Err e)
  call_stops items halt.Nodes n = absurd n
  call_stops items halt.Nesting n = absurd n
  call_stops items (halt.Instances function) n = record {
    same = n.0 ∙ instances_stay old mid st whole;
    full = subst (λ l. 4096 ≤ length l) (sym n.0) n.1;
    called = k;
    is_called = refl;
    unnumbered = subst (λ l. ¬ (IsNumbered l k)) (sym n.0) n.2;
    is_of = n.3;
  }
  call_stops items halt.Large n = absurd n
  call_stops items halt.Memory n = tt

-- ---- arguments

from-here : {A : Type 0} (xs : List A) (i : ℕ) (d : A) → i < length xs → drop i xs ≡ get_or xs i d ∷ drop (i + 1) xs
from-here xs i d h = rw (add-one) (drop-cons xs i d h)

-- the static arguments so far, with those that are left, are all
pub record FixedTo (static : Exp → Option Static) (statics : Statics) (ps : List Param) (es : List Exp) (n : ℕ) (js : List ℕ) : Type 0 where
  pub done : Statics
  pub at : AreAt statics js done
  pub rest : option_map (λ more. done ++ more) (fixed_args static (drop n ps) (drop n es)) ≡ fixed_args static ps es

pub no_args : (static : Exp → Option Static) (ps : List Param) (es : List Exp) → ¬ (length ps ≡ length es) → fixed_args static ps es ≡ None
no_args static [] [] h = absurd (h refl)
no_args static [] (a ∷ es) h = refl
no_args static (q ∷ ps) [] h = refl
no_args static (q ∷ ps) (a ∷ es) h = by q.fixed (static a) (no_args static ps es (λ e. h (ap suc e)))
  where
    by : (b : Bool) (s : Option Static) → fixed_args static ps es ≡ None → if_fixed b s (fixed_args static ps es) ≡ None
    by true None e = refl
    by true (Some s) e = ap (cons_option (Some s)) e
    by false s e = e

both_first : (done : Statics) (y : Static) (r : Option Statics) → option_map (λ l. done ++ l) (cons_option (Some y) r) ≡ option_map (λ l. (done ++ y ∷ []) ++ l) r
both_first done y None = refl
both_first done y (Some l) = ap Some (sym (append_assoc done (y ∷ []) l))

module _ (static : Exp → Option Static) (ps : List Param) (es : List Exp) where
  pub fixed_from : (statics : Statics) (js : List ℕ) → js ≡ [] → FixedTo static statics ps es 0 js
  fixed_from statics js e = record {
    done = [];
    at = subst (λ l. AreAt statics l []) (sym e) tt;
    rest = same_rest (fixed_args static (drop 0 ps) (drop 0 es)) ∙ ap₂ (fixed_args static) (drop_none ps) (drop_none es);
  }
    where
      same_rest : (r : Option Statics) → option_map (λ more. [] ++ more) r ≡ r
      same_rest None = refl
      same_rest (Some l) = refl

      drop_none : {A : Type 0} (xs : List A) → drop 0 xs ≡ xs
      drop_none [] = refl
      drop_none (y ∷ xs) = refl

  next_args : (n : ℕ) (q : Param) (e : Exp) → n < length ps → n < length es → q ≡ get_or ps n q → e ≡ get_or es n e
      → fixed_args static (drop n ps) (drop n es) ≡ if_fixed q.fixed (static e) (fixed_args static (drop (n + 1) ps) (drop (n + 1) es))
  next_args n q e h g a b =
      ap₂ (fixed_args static) (from-here ps n q h ∙ ap (λ x. x ∷ drop (n + 1) ps) (sym a)) (from-here es n e g ∙ ap (λ x. x ∷ drop (n + 1) es) (sym b))

  pub fixed_more : (mid new : Held) → Grows mid new → (n : ℕ) (q : Param) (e : Exp) (js ks : List ℕ) → n < length ps → n < length es → q ≡ get_or ps n q → e ≡ get_or es n e → FixedTo static mid.statics ps es n js
      → IsPushed new.statics q.fixed (static e) js ks true → FixedTo static new.statics ps es (n + 1) ks
  fixed_more mid new g n q e js ks h k a b f pushed = by q.fixed (next_args n q e h k a b) pushed
    where
      rest : Option Statics
      rest = fixed_args static (drop (n + 1) ps) (drop (n + 1) es)

      by : (t : Bool) → fixed_args static (drop n ps) (drop n es) ≡ if_fixed t (static e) rest → IsPushed new.statics t (static e) js ks true → FixedTo static new.statics ps es (n + 1) ks
      by false next p = record {
        done = f.done;
        at = subst (λ l. AreAt new.statics l f.done) (sym p.1) (statics_grown mid new g js f.done f.at);
        rest = sym (ap (option_map (λ more. f.done ++ more)) next) ∙ f.rest;
      }
      by true next p = record {
        done = f.done ++ p.1 ∷ [];
        at = subst (λ l. AreAt new.statics l (f.done ++ p.1 ∷ [])) (sym p.2) (are_more new.statics js (p.0 ∷ []) f.done (p.1 ∷ []) (statics_grown mid new g js f.done f.at) (p.3, tt));
        rest = sym (ap (option_map (λ more. f.done ++ more)) (next ∙ ap (λ s. cons_option s rest) p.4) ∙ both_first f.done p.1 rest) ∙ f.rest;
      }

  pub fixed_stop : (statics new : Statics) (n : ℕ) (q : Param) (e : Exp) (js ks : List ℕ) → n < length ps → n < length es → q ≡ get_or ps n q → e ≡ get_or es n e → FixedTo static statics ps es n js
      → IsPushed new q.fixed (static e) js ks false → fixed_args static ps es ≡ None
  fixed_stop statics new n q e js ks h k a b f pushed = sym f.rest ∙ ap (option_map (λ more. f.done ++ more)) (by q.fixed (next_args n q e h k a b) pushed)
    where
      rest : Option Statics
      rest = fixed_args static (drop (n + 1) ps) (drop (n + 1) es)

      by : (t : Bool) → fixed_args static (drop n ps) (drop n es) ≡ if_fixed t (static e) rest → IsPushed new t (static e) js ks false → fixed_args static (drop n ps) (drop n es) ≡ None
      by false next p = absurd (false≢true p.0)
      by true next p = next ∙ ap (λ s. cons_option s rest) p

  pub fixed_end : (statics : Statics) (n : ℕ) (js : List ℕ) → length ps ≤ n → length ps ≡ length es → FixedTo static statics ps es n js → AreMayBeAt statics (Some js) (fixed_args static ps es)
  fixed_end statics n js h e f = (
    f.done,
    f.at,
    sym f.rest ∙ ap (option_map (λ more. f.done ++ more)) (ap₂ (fixed_args static) (drop_all n ps h) (drop_all n es (omega (arith, h, e)))) ∙ ap Some (append-nil f.done),
  )

-- ---- values

one_first : (q : Param) (e : Exp) (rest : List Exp) → if_value q.fixed e rest ≡ one_value q (Some e) ++ rest
one_first q e rest = by q.fixed
  where
    by : (b : Bool) → if_value b e rest ≡ if_value b e [] ++ rest
    by true = refl
    by false = refl

no_values : (ps : List Param) → value_args ps [] ≡ []
no_values [] = refl
no_values (q ∷ ps) = refl

abbrev no_exps : List Exp
no_exps = []

drop_next : (n : ℕ) (e : Exp) (es : List Exp) → drop (n + 1) es ≡ drop (suc n + 1) (e ∷ es)
drop_next n e es =
    let place : suc (n + 1) ≡ suc n + 1 = omega arith in
    ap (λ m. drop m (e ∷ es)) place

next_value : (q : Param) (ps : List Param) (es : List Exp) (n : ℕ) → value_args (q ∷ ps) (drop n es) ≡ one_value q (slice_get es n) ++ value_args ps (drop (n + 1) es)
next_value q ps [] n = ap (value_args (q ∷ ps)) (drop_empty n) ∙ sym (no_values ps) ∙ ap (value_args ps) (sym (drop_empty (n + 1)))
  where
    drop_empty : (n : ℕ) → drop n no_exps ≡ []
    drop_empty zero = refl
    drop_empty (suc n) = refl
next_value q ps (e ∷ es) zero = one_first q e (value_args ps es)
next_value q ps (e ∷ es) (suc n) =
    next_value q ps es n ∙ ap (λ l. one_value q (slice_get es n) ++ value_args ps l) (drop_next n e es)

-- what is said so far, and what will be said of the values that are left, is all
abbrev pub ValuedTo : ℕ → List Param → List Exp → List Told → ℕ → List Piece → Type 0
ValuedTo n ps es first place parts = map told parts ++ exps_told n (value_args (drop place ps) (drop place es)) ≡ first ++ exps_told n (value_args ps es)

module _ (n : ℕ) (ps : List Param) (es : List Exp) (first : List Told) where
  pub values_from : (parts : List Piece) → map told parts ≡ first → ValuedTo n ps es first 0 parts
  values_from parts e = ap₂ (λ a b. a ++ exps_told n b) e (ap₂ value_args (none ps) (none es))
    where
      none : {A : Type 0} (xs : List A) → drop 0 xs ≡ xs
      none [] = refl
      none (x ∷ xs) = refl

  pub values_more : (place : ℕ) (q : Param) (parts new : List Piece) → place < length ps → q ≡ get_or ps place q → ValuedTo n ps es first place parts
      → map told new ≡ map told parts ++ exps_told n (one_value q (slice_get es place)) → ValuedTo n ps es first (place + 1) new
  values_more place q parts new h e so more =
      let one = one_value q (slice_get es place) in
      let rest = value_args (drop (place + 1) ps) (drop (place + 1) es) in
      let here : value_args (drop place ps) (drop place es) ≡ one ++ rest =
      ap (λ l. value_args l (drop place es)) (from-here ps place q h ∙ ap (λ x. x ∷ drop (place + 1) ps) (sym e)) ∙ next_value q (drop (place + 1) ps) es place in
      ap (λ l. l ++ exps_told n rest) more ∙ append_assoc (map told parts) (exps_told n one) (exps_told n rest)
      ∙ ap (λ l. map told parts ++ l) (sym (map-append (exp n) one rest)) ∙ ap (λ l. map told parts ++ exps_told n l) (sym here) ∙ so

  pub values_end : (place : ℕ) (parts : List Piece) → length ps ≤ place → ValuedTo n ps es first place parts → map told parts ≡ first ++ exps_told n (value_args ps es)
  values_end place parts h so = sym (append-nil (map told parts)) ∙ ap (λ l. map told parts ++ exps_told n (value_args l (drop place es))) (sym (drop_all place ps h)) ∙ so

-- What is read under the scope with a number.
use Rattle.std.proofs.Common.{◌≡◌, ℕ, List, [], ◌∷◌, ◌++◌, map, Some, Result, Ok, Err, refl, sym, ap, subst, ◌∙◌, append-nil}
use Rattle.std.specs.Prelude.{slice_get, option_map}
use Rattle.ur_rows.specs.declared.normal.Normal.TheVariants as normal
use Rattle.ur_rows.specs.Made.{unit}
use Rattle.ur_tree.specs.declared.typed.Typed.{Typed}
use Rattle.ur_tree.specs.declared.typed.Function.{Function}
use Rattle.ur_tree.specs.declared.closed.Instance.{Instance}
use Rattle.ur_source.specs.Reading.{Cons}
use Rattle.ur_source.specs.Static.{static_record}
use Rattle.ur_source.specs.Items as i
use Rattle.ur_source.specs.Items.{Scope, Item, in_step}
use Rattle.ur_unfold_static.specs.declared.node.Scope.{Scope as Numbers}
use Rattle.ur_unfold_static.specs.declared.node.Step.{Step}
use Rattle.ur_unfold_static.specs.Held.{Held, Grows, con_at, static_at}
use Rattle.ur_unfold_static.specs.Scopes.{AreAt, Stands, StepIs, cons_of}
use Rattle.ur_unfold_static.proofs.Laws.{at_seam, grows_so}
use Rattle.ur_unfold_static.proofs.Standing.{are_more, cons_are}
use Rattle.ur_unfold_pieces.specs.declared.opening.Opening.{Opening}
use Rattle.ur_unfold_pieces.specs.declared.opening.Key.{Key}
use Rattle.ur_unfold_pieces.specs.Told.{exp}
use Rattle.ur_meaning.specs.declared.halt.Halt.{Halt}
use Rattle.ur_unfold_pieces.specs.Keys.{instance_of, KeyFits, Added, Gives}
use Rattle.ur_unfold_pieces.specs.Moving.{Stays}
use Rattle.ur_unfold_pieces.specs.Standing.{ScopeIs, SaysFor, IsWhole, instances_in, language}
use Rattle.ur_unfold_pieces.proofs.Lists.{the_same, all_at, below_at, of_map}

-- the scope that was found is the one with the number
pub scope_at : (s : Opening) (n : ℕ) (around : Scope) (numbers : Numbers) → slice_get s.scopes n ≡ Some numbers → ScopeIs s n around → Stands s.closing numbers around.cons around.fixed
scope_at s n around numbers e h = subst (λ (m : Numbers). Stands s.closing m around.cons around.fixed) (the_same h.0 numbers (sym h.1 ∙ e)) h.2

pub scope_cons : (s : Opening) (n : ℕ) (around : Scope) (numbers : Numbers) → slice_get s.scopes n ≡ Some numbers → ScopeIs s n around → cons_of s.closing numbers ≡ around.cons
scope_cons s n around numbers e h = cons_are s.closing.cons numbers.cons around.cons (scope_at s n around numbers e h).0

-- ---- what changes but what is closed and scopes stays

pub closing_stays : (old new : Opening) → new.typed ≡ old.typed → new.vals ≡ old.vals → Grows old.closing new.closing → new.scopes ≡ old.scopes → new.folds ≡ old.folds → new.instances ≡ old.instances → Stays old new
closing_stays old new t v g s f k = record {
  widens = record {
    typed = ap (λ x. x.now) t;
    vals = v;
    closing = g;
    scopes = [];
    more_scopes = s ∙ sym (append-nil old.scopes);
    folds = [];
    more_folds = f ∙ sym (append-nil old.folds);
  };
  keys = ap (λ x. x.keys) k;
}

pub added_more : {A : Type 0} (old new : List A) (x : A) (r : Result ℕ _) → Added old new x r → (more : List A) × (new ≡ old ++ more)
added_more old new x (Ok j) a = (x ∷ [], a.1)
added_more old new x (Err e) a = ([], a.1 ∙ sym (append-nil old))

pub scopes_stay : (old new : Opening) (numbers : Numbers) (r : Result ℕ _) → new.typed ≡ old.typed → new.vals ≡ old.vals → new.closing ≡ old.closing → Added old.scopes new.scopes numbers r → new.folds ≡ old.folds
    → new.instances ≡ old.instances → Stays old new
scopes_stay old new numbers r t v c s f k =
    let more = added_more old.scopes new.scopes numbers r s in
    record {
      widens = record {
        typed = ap (λ x. x.now) t;
        vals = v;
        closing = subst (Grows old.closing) (sym c) (grows_so old.closing);
        scopes = more.0;
        more_scopes = more.1;
        folds = [];
        more_folds = f ∙ sym (append-nil old.folds);
      };
      keys = ap (λ x. x.keys) k;
    }

-- the scope that was added
pub added_at : {A : Type 0} (old new : List A) (x : A) (j : ℕ) → Added old new x (Ok j) → slice_get new j ≡ Some x
added_at old new x j a = ap (λ l. slice_get l j) a.1 ∙ ap (slice_get (old ++ x ∷ [])) a.0 ∙ at_seam old x []

-- ---- the scope of a step

pub step_stands : (held : Held) (numbers made : Numbers) (step : Step) (around : Scope) (k : Cons) → made.cons ≡ numbers.cons ++ step.name ∷ step.of ∷ step.rest ∷ [] → made.fixed ≡ numbers.fixed
    → Stands held numbers around.cons around.fixed → StepIs held step k → Stands held made (in_step k around).cons (in_step k around).fixed
step_stands held numbers made step around k e f h g = (
  subst (λ (js : List ℕ). AreAt held.cons js (around.cons ++ k)) (sym e) (are_more held.cons numbers.cons (step.name ∷ step.of ∷ step.rest ∷ []) around.cons k h.0 g),
  subst (λ (js : List ℕ). AreAt held.statics js around.fixed) (sym f) h.1,
)

-- ---- bodies

-- the scope of a key is that of its instance
pub key_stands : (held : Held) (key : Key) (made : Numbers) → KeyFits held key → made.cons ≡ key.cons → made.fixed ≡ key.fixed → Stands held made (instance_of held key).cons (instance_of held key).fixed
key_stands held key made h e f = (
  subst (λ (js : List ℕ). AreAt held.cons js (map (con_at held.cons) key.cons)) (sym e) (below_at (normal.Type unit) held.cons key.cons h.0),
  subst (λ (js : List ℕ). AreAt held.statics js (map (static_at held.statics) key.fixed)) (sym f) (below_at (static_record []) held.statics key.fixed h.1),
)

body_is : (app : Typed) (k : Instance) (function : Function) → slice_get app.functions k.function ≡ Some function → (language app).body k ≡ Some (i.exp (i.scope_of k) function.body)
unfolding language
body_is app k function e = ap (option_map (λ (f : Function). i.exp (i.scope_of k) f.body)) e

-- the body of the instance of a key
pub body_stands : (old new : Opening) (number : ℕ) (k : Instance) (key : Key) (function : Function) (made : Numbers) (j : ℕ) → slice_get (instances_in old) number ≡ Some k → IsWhole old
    → slice_get old.instances.keys number ≡ Some key → slice_get old.typed.now.functions key.function ≡ Some function → made.cons ≡ key.cons → made.fixed ≡ key.fixed → new.closing ≡ old.closing
    → slice_get new.scopes j ≡ Some made → (body : Item) × ((language old.typed.now).body k ≡ Some body) × SaysFor new (exp j function.body) body
body_stands old new number k key function made j e whole at is_function cs fs held scope =
    let one = of_map (instance_of old.closing) old.instances.keys number k e in
    let is : instance_of old.closing key ≡ k = sym (one.2 ∙ ap (instance_of old.closing) (the_same one.0 key (sym one.1 ∙ at))) in
    let fits = all_at (KeyFits old.closing) old.instances.keys number key whole.keys at in
    let stands = subst (λ (h : Held). Stands h made (instance_of old.closing key).cons (instance_of old.closing key).fixed) (sym held) (key_stands old.closing key made fits cs fs) in
    subst (λ (l : Instance). (body : Item) × ((language old.typed.now).body l ≡ Some body) × SaysFor new (exp j function.body) body) is
    (i.exp (i.scope_of (instance_of old.closing key)) function.body, body_is old.typed.now (instance_of old.closing key) function is_function, (i.scope_of (instance_of old.closing key), (made, scope, stands), refl))

-- the scope of a step that was added
pub step_scoped : (old new : Opening) (n : ℕ) (around : Scope) (numbers made : Numbers) (step : Step) (k : Cons) (r : Result ℕ Halt) → slice_get old.scopes n ≡ Some numbers
    → made.cons ≡ numbers.cons ++ step.name ∷ step.of ∷ step.rest ∷ [] → made.fixed ≡ numbers.fixed → new.closing ≡ old.closing → Added old.scopes new.scopes made r → ScopeIs old n around → StepIs old.closing step k
    → Gives (λ j. ScopeIs new j (in_step k around)) r
step_scoped old new n around numbers made step k (Ok j) e f g c a at is = (
  made,
  added_at old.scopes new.scopes made j a,
  subst (λ (h : Held). Stands h made (in_step k around).cons (in_step k around).fixed) (sym c) (step_stands old.closing numbers made step around k f g (scope_at old n around numbers e at) is),
)
step_scoped old new n around numbers made step k (Err e) _ f g c a at is = a.0

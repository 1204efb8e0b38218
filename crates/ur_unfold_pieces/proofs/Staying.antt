-- What pieces stand for stays.
use Rattle.std.proofs.Common.{◌≡◌, ℕ, List, [], ◌∷◌, ◌++◌, map, length, reverse, take, refl, sym, ap, ap₂, subst, ◌∙◌, append-nil, append_assoc}
use Rattle.std.specs.Prelude.{slice_get, Some}
use Rattle.ur_rows.specs.declared.normal.Normal.TheVariants as normal
use Rattle.ur_rows.specs.Made.{unit}
use Rattle.ur_tree.specs.declared.typed.Typed.{Typed}
use Rattle.ur_meaning.specs.Instances.{Different}
use Rattle.ur_source.specs.Reading.{Cons}
use Rattle.ur_source.specs.Static.{static_record, vals_after}
use Rattle.ur_source.specs.Items.{Scope, Item}
use Rattle.ur_unfold_static.specs.Held.{Held, Grows, AreBelow, con_at, static_at}
use Rattle.ur_unfold_static.specs.Scopes.{AreAt}
use Rattle.ur_unfold_static.proofs.Laws.{grows_so, grows_then}
use Rattle.ur_unfold_static.proofs.Standing.{at_longer, are_below, cons_are, statics_are, cons_grown, statics_grown, static_grown, stands_grown, steps_grown}
use Rattle.ur_unfold_pieces.specs.declared.opening.Opening.{Opening}
use Rattle.ur_unfold_pieces.specs.declared.opening.Key.{Key}
use Rattle.ur_unfold_pieces.specs.Told.{Told, exp, part, bool, closed, folding, asking}
use Rattle.ur_unfold_pieces.specs.Keys.{instance_of, KeyFits, KeysFit}
use Rattle.ur_unfold_pieces.specs.Standing.{ScopeIs, StepsLeft, SaysFor, IsWhole, instances_in}
use Rattle.ur_unfold_pieces.specs.Moving.{Widens, Stays, Moves}
use Rattle.ur_unfold_pieces.proofs.Lists.{below_at}

pub widens_so : (s : Opening) → Widens s s
widens_so s = record {
  typed = refl;
  vals = refl;
  closing = grows_so s.closing;
  scopes = [];
  more_scopes = sym (append-nil s.scopes);
  folds = [];
  more_folds = sym (append-nil s.folds);
}

pub widens_then : (a b c : Opening) → Widens a b → Widens b c → Widens a c
widens_then a b c g h = record {
  typed = h.typed ∙ g.typed;
  vals = h.vals ∙ g.vals;
  closing = grows_then a.closing b.closing c.closing g.closing h.closing;
  scopes = g.scopes ++ h.scopes;
  more_scopes = h.more_scopes ∙ ap (λ l. l ++ h.scopes) g.more_scopes ∙ append_assoc a.scopes g.scopes h.scopes;
  folds = g.folds ++ h.folds;
  more_folds = h.more_folds ∙ ap (λ l. l ++ h.folds) g.more_folds ∙ append_assoc a.folds g.folds h.folds;
}

pub stays_so : (s : Opening) → Stays s s
stays_so s = record { widens = widens_so s; keys = refl }

pub stays_then : (a b c : Opening) → Stays a b → Stays b c → Stays a c
stays_then a b c g h = record { widens = widens_then a b c g.widens h.widens; keys = h.keys ∙ g.keys }

pub moves_then : (a b c : Opening) → Moves a b → Moves b c → Moves a c
moves_then a b c g h = record { widens = widens_then a b c g.widens h.widens; whole = λ w. h.whole (g.whole w) }

-- ---- what numbers stand for

module _ (old new : Held) (g : Grows old new) where
  cons_stay : (js : List ℕ) → AreBelow (length old.cons) js → map (con_at new.cons) js ≡ map (con_at old.cons) js
  cons_stay js h = cons_are new.cons js (map (con_at old.cons) js) (cons_grown old new g js (map (con_at old.cons) js) (below_at (normal.Type unit) old.cons js h))

  statics_stay : (js : List ℕ) → AreBelow (length old.statics) js → map (static_at new.statics) js ≡ map (static_at old.statics) js
  statics_stay js h = statics_are new.statics js (map (static_at old.statics) js) (statics_grown old new g js (map (static_at old.statics) js) (below_at (static_record []) old.statics js h))

  key_fits_more : (key : Key) → KeyFits old key → KeyFits new key
  key_fits_more key h = (
    are_below new.cons key.cons (map (con_at old.cons) key.cons) (cons_grown old new g key.cons (map (con_at old.cons) key.cons) (below_at (normal.Type unit) old.cons key.cons h.0)),
    are_below new.statics key.fixed (map (static_at old.statics) key.fixed) (statics_grown old new g key.fixed (map (static_at old.statics) key.fixed) (below_at (static_record []) old.statics key.fixed h.1)),
  )

  pub keys_fit_more : (keys : List Key) → KeysFit old keys → KeysFit new keys
  keys_fit_more [] h = tt
  keys_fit_more (k ∷ keys) h = (key_fits_more k h.0, keys_fit_more keys h.1)

  pub instance_stays : (key : Key) → KeyFits old key → instance_of new key ≡ instance_of old key
  instance_stays key h = ap₂ (λ cs fs. record { function = key.function; cons = cs; fixed = fs }) (cons_stay key.cons h.0) (statics_stay key.fixed h.1)

  pub all_stay : (keys : List Key) → KeysFit old keys → map (instance_of new) keys ≡ map (instance_of old) keys
  all_stay [] h = refl
  all_stay (k ∷ keys) h = ap₂ (λ a b. a ∷ b) (instance_stays k h.0) (all_stay keys h.1)

-- ---- what pieces stand for

module _ (old new : Opening) (w : Widens old new) where
  pub scope_stays : (n : ℕ) (scope : Scope) → ScopeIs old n scope → ScopeIs new n scope
  scope_stays n scope h = (
    h.0,
    subst (λ l. slice_get l n ≡ Some h.0) (sym w.more_scopes) (at_longer old.scopes w.scopes n h.0 h.1),
    stands_grown old.closing new.closing w.closing h.0 scope.cons scope.fixed h.2,
  )

  pub steps_stay : (n left : ℕ) (ks : List Cons) → StepsLeft old n left ks → StepsLeft new n left ks
  steps_stay n left ks h = (
    h.0,
    subst (λ l. slice_get l n ≡ Some h.0) (sym w.more_folds) (at_longer old.folds w.folds n h.0 h.1),
    h.2,
    steps_grown old.closing new.closing w.closing (take left h.0) (reverse ks) h.3,
  )

  pub says_stays : (t : Told) (item : Item) → SaysFor old t item → SaysFor new t item
  says_stays (exp n e) item h = (h.0, scope_stays n h.0 h.1, h.2)
  says_stays (part n m) item h = (h.0, scope_stays n h.0 h.1, h.2)
  says_stays (bool n b) item h = (h.0, scope_stays n h.0 h.1, h.2)
  says_stays (closed j) item h = (h.0, static_grown old.closing new.closing w.closing j h.0 h.1, h.2)
  says_stays (folding n step start steps left) item h = (h.0, h.1, scope_stays n h.0 h.2, steps_stay steps left h.1 h.3, h.4)
  says_stays (asking n q args) item h = (h.0, scope_stays n h.0 h.1, h.2)

  pub vals_stay : AreAt old.closing.statics old.vals (vals_after old.typed.now.names [] old.typed.now.vals) → AreAt new.closing.statics new.vals (vals_after new.typed.now.names [] new.typed.now.vals)
  vals_stay h =
      subst (λ (app : Typed). AreAt new.closing.statics new.vals (vals_after app.names [] app.vals)) (sym w.typed)
      (subst (λ js. AreAt new.closing.statics js (vals_after old.typed.now.names [] old.typed.now.vals)) (sym w.vals)
      (statics_grown old.closing new.closing w.closing old.vals (vals_after old.typed.now.names [] old.typed.now.vals) h))

module _ (old new : Opening) (h : Stays old new) where
  pub whole_stays : IsWhole old → IsWhole new
  whole_stays w = record {
    keys = subst (KeysFit new.closing) (sym h.keys) (keys_fit_more old.closing new.closing h.widens.closing old.instances.keys w.keys);
    once = subst (λ (l : List Key). Different l) (sym h.keys) w.once;
    vals = vals_stay old new h.widens w.vals;
  }

  pub moves_of : Moves old new
  moves_of = record { widens = h.widens; whole = whole_stays }

  pub instances_stay : IsWhole old → instances_in new ≡ instances_in old
  instances_stay w = ap (map (instance_of new.closing)) h.keys ∙ all_stay old.closing new.closing h.widens.closing old.instances.keys w.keys

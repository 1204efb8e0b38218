-- Keys that are told apart are instances that are told apart.
use Rattle.std.proofs.Common.{◌≡◌, ◌≤◌, ℕ, List, [], ◌∷◌, map, Result, Ok, Err, refl, sym, ap, subst, ◌∙◌, append-nil}
use Rattle.std.proofs.lemmas.List.{map-append, length-map}
use Rattle.ur_rows.specs.declared.normal.Normal.TheVariants as normal
use Rattle.ur_rows.specs.Made.{unit}
use Rattle.ur_tree.specs.declared.closed.Instance.{Instance}
use Rattle.ur_meaning.specs.Instances.{Different, IsNumbered}
use Rattle.ur_source.specs.Static.{static_record}
use Rattle.ur_meaning.specs.declared.halt.Halt.{Halt}
use Rattle.ur_meaning.specs.declared.halt.Halt.TheVariants as halt
use Rattle.ur_unfold_static.specs.Held.{Held, Grows}
use Rattle.ur_unfold_static.proofs.Laws.{grows_so}
use Rattle.ur_unfold_static.proofs.Differ.{last_differs}
use Rattle.ur_unfold_pieces.specs.declared.opening.Opening.{Opening}
use Rattle.ur_unfold_pieces.specs.declared.opening.Key.{Key}
use Rattle.ur_unfold_pieces.specs.Keys.{instance_of, KeyFits, KeysFit, IsOf, IsKeyOf, IsAdded, nothing, last, Numbers}
use Rattle.ur_unfold_pieces.specs.Moving.{Widens, Moves}
use Rattle.ur_unfold_pieces.proofs.Lists.{absent_of, all_last, numbers_once, different_map, numbered_back, numbered_map}
use Rattle.ur_unfold_pieces.proofs.Staying.{vals_stay}

key_of : (a b : Key) → a.function ≡ b.function → a.cons ≡ b.cons → a.fixed ≡ b.fixed → a ≡ b
key_of a b e f g = same a.function b.function a.cons b.cons a.fixed b.fixed e f g
  where
    same : (k l : ℕ) (js is fs gs : List ℕ) → k ≡ l → js ≡ is → fs ≡ gs → ◌≡◌ {A = Key} (record { function = k; cons = js; fixed = fs }) (record { function = l; cons = is; fixed = gs })
    same k l js is fs gs e f g = rw (e, f, g) refl

module _ (held : Held) (different_cons : Different held.cons) (different_statics : Different held.statics) where
  pub instance_once : (a b : Key) → KeyFits held a → KeyFits held b → instance_of held a ≡ instance_of held b → a ≡ b
  instance_once a b h g e =
      key_of a b (ap (λ (k : Instance). k.function) e)
      (numbers_once (normal.Type unit) held.cons different_cons a.cons b.cons h.0 g.0 (ap (λ (k : Instance). k.cons) e))
      (numbers_once (static_record []) held.statics different_statics a.fixed b.fixed h.1 g.1 (ap (λ (k : Instance). k.fixed) e))

  pub instances_differ : (keys : List Key) → KeysFit held keys → Different keys → Different (map (instance_of held) keys)
  instances_differ = different_map (instance_of held) (KeyFits held) instance_once

  pub unnumbered : (keys : List Key) (key : Key) → KeysFit held keys → KeyFits held key → ¬ (IsNumbered keys key) → ¬ (IsNumbered (map (instance_of held) keys) (instance_of held key))
  unnumbered keys key h g new at = new (numbered_back (instance_of held) (KeyFits held) instance_once keys key h g at)

  pub added_instances : (keys new : List Key) (key : Key) → KeysFit held keys → KeyFits held key → IsAdded key keys new
      → IsAdded (instance_of held key) (map (instance_of held) keys) (map (instance_of held) new)
  added_instances keys new key h g (nothing e) = nothing (ap (map (instance_of held)) e)
  added_instances keys new key h g (last e u) =
      last (ap (map (instance_of held)) e ∙ map-append (instance_of held) keys (key ∷ [])) (unnumbered keys key h g u)

  pub numbers_instances : (keys new : List Key) (key : Key) (r : Result ℕ Halt) → KeysFit held keys → KeyFits held key → Numbers IsKeyOf keys new key r
      → Numbers IsOf (map (instance_of held) keys) (map (instance_of held) new) (instance_of held key) r
  numbers_instances keys new key (Ok j) h g n = (numbered_map (instance_of held) new j key n.0, added_instances keys new key h g n.1)
  numbers_instances keys new key (Err halt.Nodes) h g n = absurd n
  numbers_instances keys new key (Err halt.Nesting) h g n = absurd n
  numbers_instances keys new key (Err halt.Large) h g n = absurd n
  numbers_instances keys new key (Err (halt.Instances function)) h g n =
      (ap (map (instance_of held)) n.0, subst (λ m. 4096 ≤ m) (sym (length-map keys (instance_of held))) n.1, unnumbered keys key h g n.2, n.3)
  numbers_instances keys new key (Err halt.Memory) h g n = ap (map (instance_of held)) n

pub added_by : (keys new : List Key) (key : Key) (r : Result ℕ Halt) → Numbers IsKeyOf keys new key r → IsAdded key keys new
added_by keys new key (Ok j) n = n.1
added_by keys new key (Err halt.Nodes) n = absurd n
added_by keys new key (Err halt.Nesting) n = absurd n
added_by keys new key (Err halt.Large) n = absurd n
added_by keys new key (Err (halt.Instances function)) n = nothing n.0
added_by keys new key (Err halt.Memory) n = nothing n

fit_added : (held : Held) (keys new : List Key) (key : Key) → KeysFit held keys → KeyFits held key → IsAdded key keys new → KeysFit held new
fit_added held keys new key h g (nothing e) = subst (KeysFit held) (sym e) h
fit_added held keys new key h g (last e u) = subst (KeysFit held) (sym e) (all_last (KeyFits held) keys key h g)

once_added : (keys new : List Key) (key : Key) → Different keys → IsAdded key keys new → Different new
once_added keys new key d (nothing e) = subst (λ (l : List Key). Different l) (sym e) d
once_added keys new key d (last e u) = subst (λ (l : List Key). Different l) (sym e) (last_differs keys key d (absent_of keys key u))

-- only instances are numbered
widens_numbered : (old new : Opening) → new.typed ≡ old.typed → new.vals ≡ old.vals → new.closing ≡ old.closing → new.scopes ≡ old.scopes → new.folds ≡ old.folds → Widens old new
widens_numbered old new t v c s f = record {
  typed = ap (λ x. x.now) t;
  vals = v;
  closing = subst (Grows old.closing) (sym c) (grows_so old.closing);
  scopes = [];
  more_scopes = s ∙ sym (append-nil old.scopes);
  folds = [];
  more_folds = f ∙ sym (append-nil old.folds);
}

pub moves_numbered : (old new : Opening) (key : Key) → new.typed ≡ old.typed → new.vals ≡ old.vals → new.closing ≡ old.closing → new.scopes ≡ old.scopes → new.folds ≡ old.folds
    → KeyFits old.closing key → IsAdded key old.instances.keys new.instances.keys → Moves old new
moves_numbered old new key t v c s f g a =
    let w = widens_numbered old new t v c s f in
    record {
      widens = w;
      whole = λ h. record {
        keys = subst (λ (held : Held). KeysFit held new.instances.keys) (sym c) (fit_added old.closing old.instances.keys new.instances.keys key h.keys g a);
        once = once_added old.instances.keys new.instances.keys key h.once a;
        vals = vals_stay old new w h.vals;
      };
    }

-- The `val`s so far.
use Rattle.std.proofs.Common.{◌≡◌, ◌<◌, ◌≤◌, ℕ, suc, ◌+◌, List, [], ◌∷◌, ◌++◌, length, drop, get_or, Option, None, Some, refl, sym, ap, subst, ◌∙◌, add-one, drop-cons}
use Rattle.std.specs.Prelude.{unwrap_or}
use Rattle.std.proofs.lemmas.List.{drop_all}
use Rattle.ur_tree.specs.declared.typed.ModuleVal.{ModuleVal}
use Rattle.ur_tree.specs.declared.closed.Static.{Static}
use Rattle.ur_source.specs.Reading.{Names}
use Rattle.ur_source.specs.Static.{static_of, static_record, vals_after}
use Rattle.ur_unfold_static.specs.Held.{Held, Grows}
use Rattle.ur_unfold_static.specs.Scopes.{Statics, IsAt, AreAt, MayBeAt}
use Rattle.ur_unfold_static.proofs.Laws.{grows_so, grows_then}
use Rattle.ur_unfold_static.proofs.Standing.{are_more, statics_grown}

-- what a `val` is under those before it
abbrev val_of : Names → Statics → ModuleVal → Static
val_of names done d = unwrap_or (static_of names done [] [] d.body) (static_record [])

pub record ValsTo (names : Names) (all : List ModuleVal) (init held : Held) (i : ℕ) (js : List ℕ) : Type 0 where
  pub done : Statics
  pub at : AreAt held.statics js done
  pub rest : vals_after names done (drop i all) ≡ vals_after names [] all
  pub grows : Grows init held

pub vals_from : (names : Names) (all : List ModuleVal) (held : Held) (js : List ℕ) → js ≡ [] → ValsTo names all held held 0 js
vals_from names all held js e = record {
  done = [];
  at = subst (λ (l : List ℕ). AreAt held.statics l []) (sym e) tt;
  rest = from_first all;
  grows = grows_so held;
}
  where
    from_first : (all : List ModuleVal) → vals_after names [] (drop 0 all) ≡ vals_after names [] all
    from_first [] = refl
    from_first (d ∷ all) = refl

pub vals_more : (names : Names) (all : List ModuleVal) (init mid new : Held) (i : ℕ) (d : ModuleVal) (js ks : List ℕ) (j : ℕ) → i < length all → d ≡ get_or all i d → (v : ValsTo names all init mid i js)
    → Grows mid new → ((vs : Statics) → AreAt mid.statics js vs → IsAt new.statics j (val_of names vs d)) → ks ≡ js ++ j ∷ [] → ValsTo names all init new (i + 1) ks
vals_more names all init mid new i d js ks j h e v g at k =
    let y = val_of names v.done d in
    let left : drop i all ≡ d ∷ drop (i + 1) all = rw (add-one) (drop-cons all i d h ∙ ap (λ (x : ModuleVal). x ∷ drop (suc i) all) (sym e)) in
    record {
      done = v.done ++ y ∷ [];
      at = subst (λ (l : List ℕ). AreAt new.statics l (v.done ++ y ∷ [])) (sym k) (are_more new.statics js (j ∷ []) v.done (y ∷ []) (statics_grown mid new g js v.done v.at) (at v.done v.at, tt));
      rest = sym (ap (vals_after names v.done) left) ∙ v.rest;
      grows = grows_then init mid new v.grows g;
    }

pub vals_end : (names : Names) (all vals : List ModuleVal) (init held : Held) (i : ℕ) (js : List ℕ) → all ≡ vals → length all ≤ i → ValsTo names all init held i js → AreAt held.statics js (vals_after names [] vals)
vals_end names all vals init held i js s h v =
    subst (AreAt held.statics js) (sym (ap (vals_after names v.done) (drop_all i all h)) ∙ v.rest ∙ ap (vals_after names []) s) v.at

-- one that is static, and one that is not
pub val_there : (new : Held) (o : Option ℕ) (j : ℕ) (s : Option Static) → o ≡ Some j → MayBeAt new.statics o s → IsAt new.statics j (unwrap_or s (static_record []))
val_there new o j s e m = by (subst (λ p. MayBeAt new.statics p s) e m)
  where
    by : MayBeAt new.statics (Some j) s → IsAt new.statics j (unwrap_or s (static_record []))
    by h = subst (λ (t : Option Static). IsAt new.statics j (unwrap_or t (static_record []))) (sym h.2) h.1

pub val_blank : (new : Held) (o : Option ℕ) (j : ℕ) (s : Option Static) → o ≡ None → MayBeAt new.statics o s → IsAt new.statics j (static_record []) → IsAt new.statics j (unwrap_or s (static_record []))
val_blank new o j s e m h =
    let none : s ≡ None = subst (λ p. MayBeAt new.statics p s) e m in
    subst (λ (t : Option Static). IsAt new.statics j (unwrap_or t (static_record []))) (sym none) h

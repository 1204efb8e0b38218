-- What a lambda keeps, by number.
use Rattle.std.proofs.Common.{◌≡◌, ◌<◌, ◌≤◌, ℕ, suc, ◌+◌, Bool, true, false, ◌||◌, if◌then◌else◌, List, [], ◌∷◌, ◌++◌, map, length, drop, get_or, Result, Ok, Err, IfOk, refl, sym, ap, ap₂, subst, ◌∙◌, arith, append_assoc, append-nil, drop-cons, add-one}
use Rattle.std.specs.List.{list_any}
use Rattle.std.proofs.lemmas.List.{drop_all}
use Rattle.ur_rows.specs.declared.normal.Normal.TheVariants as normal
use Rattle.ur_rows.specs.Made.{unit}
use Rattle.ur_tree.specs.declared.exp.Exp.{Exp}
use Rattle.ur_tree.specs.declared.exp.Param.{Param}
use Rattle.ur_tree.specs.declared.closed.Static.TheVariants as st
use Rattle.ur_source.specs.Names.{Name, is_con, is_fixed, kept, in_params, in_exp, fixed_count}
use Rattle.ur_source.specs.Reading.{Cons}
use Rattle.ur_source.specs.Static.{static_record, closed_lambda}
use Rattle.ur_unfold_static.specs.declared.sought.Sought.{Sought}
use Rattle.ur_unfold_static.specs.declared.sought.Sought.TheVariants as sought
use Rattle.ur_unfold_static.specs.Sought.{is_among}
use Rattle.ur_unfold_static.specs.Words.{params_name, exp_names}
use Rattle.ur_unfold_static.proofs.Names.{both}
use Rattle.ur_unfold_static.specs.declared.node.Node.TheVariants as node
use Rattle.ur_unfold_static.specs.Held.{Held, Grows, con_at, static_at, lambda_with, static_of_node}
use Rattle.ur_unfold_static.specs.Scopes.{IsAt, AreAt, Stands, Statics}
use Rattle.ur_unfold_static.specs.declared.node.Scope.{Scope}
use Rattle.ur_unfold_static.proofs.Standing.{cons_are, statics_are, cons_grown, statics_grown}
use Rattle.ur_unfold_pieces.specs.Lambdas.{lambda_names}

-- ---- whether a name is among those of a lambda

pub among_con : (n : ℕ) (names : List Name) → is_among (sought.Con n) names ≡ list_any (is_con n) names
unfolding is_among
among_con n names = refl

pub among_fixed : (n : ℕ) (names : List Name) → is_among (sought.Fixed n) names ≡ list_any (is_fixed n) names
unfolding is_among
among_fixed n names = refl

pub named_is : (of : Sought) (params : List Param) (body : Exp) (bound : ℕ) (a b : Bool) → bound ≡ fixed_count params → a ≡ params_name of params → b ≡ exp_names of bound body
    → (a || b) ≡ is_among of (lambda_names params body)
unfolding params_name exp_names
named_is of params body bound a b e f g =
    ap₂ (λ (x y : Bool). x || y) f (g ∙ ap (λ (n : ℕ). is_among of (in_exp n body)) e) ∙ sym (both of (in_params params) (in_exp (fixed_count params) body))

pub picked : (of : ℕ → Sought) (is : ℕ → Name → Bool) → ((n : ℕ) (names : List Name) → is_among (of n) names ≡ list_any (is n) names) → (names : List Name) (place i j blank y : ℕ) (named : Bool)
    → place ≡ i → named ≡ is_among (of place) names → y ≡ (if named then j else blank) → y ≡ (if list_any (is i) names then j else blank)
picked of is same names place i j blank y named e f g =
    g ∙ ap (λ (b : Bool). if b then j else blank) (f ∙ same place names ∙ ap (λ (n : ℕ). list_any (is n) names) e)

-- ---- the loop

from-here : {A : Type 0} (xs : List A) (i : ℕ) (d : A) → i < length xs → drop i xs ≡ get_or xs i d ∷ drop (i + 1) xs
from-here xs i d h = rw (add-one) (drop-cons xs i d h)

module _ (is : ℕ → Name → Bool) (names : List Name) (blank : ℕ) where
  pub kept_more : (xs : List ℕ) (i d y : ℕ) (made new : List ℕ) → i < length xs → y ≡ (if list_any (is i) names then get_or xs i d else blank)
      → made ++ kept is names blank i (drop i xs) ≡ kept is names blank 0 xs → new ≡ made ++ y ∷ [] → new ++ kept is names blank (i + 1) (drop (i + 1) xs) ≡ kept is names blank 0 xs
  kept_more xs i d y made new h e so n =
      let rest = kept is names blank (i + 1) (drop (i + 1) xs) in
      let next : suc i ≡ i + 1 = omega arith in
      let here : kept is names blank i (drop i xs) ≡ y ∷ rest =
      ap (kept is names blank i) (from-here xs i d h)
      ∙ ap₂ (λ (z : ℕ) (k : ℕ). z ∷ kept is names blank k (drop (i + 1) xs)) (sym e) next in
      ap (λ (l : List ℕ). l ++ rest) n ∙ append_assoc made (y ∷ []) rest ∙ ap (λ (l : List ℕ). made ++ l) (sym here) ∙ so

  pub kept_end : (ys xs : List ℕ) (i : ℕ) (made : List ℕ) → xs ≡ ys → length xs ≤ i → made ++ kept is names blank i (drop i xs) ≡ kept is names blank 0 xs → made ≡ kept is names blank 0 ys
  kept_end ys xs i made s h so =
      sym (append-nil made) ∙ ap (λ (l : List ℕ). made ++ kept is names blank i l) (sym (drop_all i xs h)) ∙ so ∙ ap (kept is names blank 0) s

  -- what stands for the numbers is kept with them
  pub kept_at : {A : Type 0} (table : List A) (d : A) → IsAt table blank d → (n : ℕ) (js : List ℕ) (xs : List A) → AreAt table js xs → AreAt table (kept is names blank n js) (kept is names d n xs)
  kept_at table d b n [] [] h = tt
  kept_at table d b n [] (x ∷ xs) h = absurd h
  kept_at table d b n (j ∷ js) [] h = absurd h
  kept_at table d b n (j ∷ js) (x ∷ xs) h = (pick (list_any (is n) names), kept_at table d b (suc n) js xs h.1)
    where
      pick : (t : Bool) → IsAt table (if t then j else blank) (if t then x else d)
      pick true = h.0
      pick false = b

-- ---- the node of a lambda

pub lambda_static : (held : Held) (l : ℕ) (params : List Param) (body : Exp) (js fs : List ℕ) (cs : Cons) (ss : Statics) → IsAt held.lambdas l (params, body) → AreAt held.cons js cs → AreAt held.statics fs ss
    → static_of_node held (node.Lambda l js fs) ≡ st.Lambda params body cs ss
lambda_static held l params body js fs cs ss at h g =
    ap (λ w. lambda_with w (map (con_at held.cons) js) (map (static_at held.statics) fs)) at
    ∙ ap₂ (λ (a : Cons) (b : Statics). st.Lambda params body a b) (cons_are held.cons js cs h) (statics_are held.statics fs ss g)

pub closes_lambda : (old mid : Held) → Grows old mid → (scope : Scope) (params : List Param) (body : Exp) (b d : ℕ) (js ks : List ℕ) (l : ℕ) → IsAt old.cons b (normal.Type unit) → IsAt old.statics d (static_record [])
    → js ≡ kept is_con (lambda_names params body) b 0 scope.cons → ks ≡ kept is_fixed (lambda_names params body) d 0 scope.fixed → IsAt mid.lambdas l (params, body)
    → (cs : Cons) (fs : Statics) → Stands old scope cs fs → static_of_node mid (node.Lambda l js ks) ≡ closed_lambda cs fs params body
closes_lambda old mid g scope params body b d js ks l u r p q at cs fs h =
    let cons = kept_at is_con (lambda_names params body) b old.cons (normal.Type unit) u 0 scope.cons cs h.0 in
    let fixed = kept_at is_fixed (lambda_names params body) d old.statics (static_record []) r 0 scope.fixed fs h.1 in
    lambda_static mid l params body js ks (kept is_con (lambda_names params body) (normal.Type unit) 0 cs) (kept is_fixed (lambda_names params body) (static_record []) 0 fs) at
    (subst (λ (ns : List ℕ). AreAt mid.cons ns (kept is_con (lambda_names params body) (normal.Type unit) 0 cs)) (sym p) (cons_grown old mid g (kept is_con (lambda_names params body) b 0 scope.cons) (kept is_con (lambda_names params body) (normal.Type unit) 0 cs) cons))
    (subst (λ (ns : List ℕ). AreAt mid.statics ns (kept is_fixed (lambda_names params body) (static_record []) 0 fs)) (sym q) (statics_grown old mid g (kept is_fixed (lambda_names params body) d 0 scope.fixed) (kept is_fixed (lambda_names params body) (static_record []) 0 fs) fixed))

pub ok-along : {A E : Type 0} (r : Result A E) {P Q : A → Type 0} → ((x : A) → P x → Q x) → IfOk r P → IfOk r Q
ok-along (Ok b) f h = f b h
ok-along (Err e) f h = h

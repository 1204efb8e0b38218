-- How a name is looked for among the names of binders.
use Rattle.std.proofs.Common.{arith, ◌≡◌, refl, ap, sym, ◌∙◌, subst, ℕ, ◌+◌, suc, Bool, true, false, List, [], ◌∷◌, ◌++◌, length, map, Option, Some, None, slice_get}
use Rattle.std.proofs.lemmas.List.{nil_from_length}
use Rattle.std.specs.Prelude.{if◌then◌else◌}
use Rattle.ur_rows.specs.declared.normal.NormalType.{NormalType}
use Rattle.ur_typed_rules.specs.Names.{Local, value, static, is_named, local_from}
use Rattle.ur_check_scopes.specs.declared.locals.Local.{Local as HeldLocal}
use Rattle.ur_check_scopes.specs.declared.locals.Place.{Place}
use Rattle.ur_check_scopes.specs.declared.locals.Place.TheVariants as place
use Rattle.ur_check_scopes.specs.declared.locals.Before.{Before}
use Rattle.ur_check_scopes.specs.Views.{StandsFor, local_in, of_variables, of_fixed}
use Rattle.ur_check_scopes.specs.Searching.{past, visible, InOwn}

abbrev held : Option (List ℕ) → Bool → NormalType → HeldLocal
held y b t = record { name = y; fixed = b; of = t }

-- a static name that is another stands before
past-static : (x : List ℕ) (v f : ℕ) (y : Option (List ℕ)) (t : NormalType) (names : List Local) (values fixed : List NormalType) → is_named x y ≡ false → (found : Option Place) →
    StandsFor x v (f + 1) names values fixed found → StandsFor x v f (static y ∷ names) values (t ∷ fixed) found
past-static x v f y t names values fixed e None h = ap (λ b. if b then Some (true, f) else local_from x v (f + 1) names) e ∙ h
past-static x v f y t names values fixed e (Some (place.Variable n u)) h = (h.0, h.1, ap (λ b. if b then Some (true, f) else local_from x v (f + 1) names) e ∙ h.2, h.3)
past-static x v f y t names values fixed e (Some (place.Fixed n u)) h =
    (suc h.0, (let q : n ≡ (f + 1) + h.0 = h.1 in omega arith), ap (λ b. if b then Some (true, f) else local_from x v (f + 1) names) e ∙ h.2, h.3)
past-static x v f y t names values fixed e (Some place.Hidden) h = (h.0, ap (λ b. if b then Some (true, f) else local_from x v (f + 1) names) e ∙ h.1, h.2)

-- a variable that is another stands before
past-value : (x : List ℕ) (v f : ℕ) (y : Option (List ℕ)) (t : NormalType) (names : List Local) (values fixed : List NormalType) → is_named x y ≡ false → (found : Option Place) →
    StandsFor x (v + 1) f names values fixed found → StandsFor x v f (value y ∷ names) (t ∷ values) fixed found
past-value x v f y t names values fixed e None h = ap (λ b. if b then Some (false, v) else local_from x (v + 1) f names) e ∙ h
past-value x v f y t names values fixed e (Some (place.Variable n u)) h =
    (suc h.0, (let q : n ≡ (v + 1) + h.0 = h.1 in omega arith), ap (λ b. if b then Some (false, v) else local_from x (v + 1) f names) e ∙ h.2, h.3)
past-value x v f y t names values fixed e (Some (place.Fixed n u)) h = (h.0, h.1, ap (λ b. if b then Some (false, v) else local_from x (v + 1) f names) e ∙ h.2, h.3)
past-value x v f y t names values fixed e (Some place.Hidden) h =
    (suc h.0, ap (λ b. if b then Some (false, v) else local_from x (v + 1) f names) e ∙ h.1 ∙ ap (λ n. Some (false, n)) (the_sum v h.0), h.2)
  where
    the_sum : (v k : ℕ) → (v + 1) + k ≡ v + suc k
    the_sum v k = omega arith

-- the same where a lambda hides it
past-hidden : (x : List ℕ) (v f : ℕ) (y : Option (List ℕ)) (names : List Local) (fixed : List NormalType) → is_named x y ≡ false → (found : Option Place) →
    StandsFor x (v + 1) f names [] fixed found → StandsFor x v f (value y ∷ names) [] fixed found
past-hidden x v f y names fixed e None h = ap (λ b. if b then Some (false, v) else local_from x (v + 1) f names) e ∙ h
past-hidden x v f y names fixed e (Some (place.Variable n u)) h = absurd (nothing h.0 u.now h.3)
  where
    nothing : (k : ℕ) (t : NormalType) → slice_get [] k ≡ Some t → ⊥
    nothing k t q = cc
past-hidden x v f y names fixed e (Some (place.Fixed n u)) h = (h.0, h.1, ap (λ b. if b then Some (false, v) else local_from x (v + 1) f names) e ∙ h.2, h.3)
past-hidden x v f y names fixed e (Some place.Hidden) h =
    (suc h.0, ap (λ b. if b then Some (false, v) else local_from x (v + 1) f names) e ∙ h.1 ∙ ap (λ n. Some (false, n)) (the_sum v h.0), refl)
  where
    the_sum : (v k : ℕ) → (v + 1) + k ≡ v + suc k
    the_sum v k = omega arith

past-held : (x : List ℕ) (c : Before) (h : Bool) (y : Option (List ℕ)) (b : Bool) (t : NormalType) (rest : List HeldLocal) → is_named x y ≡ false → (names : List Local) (values fixed : List NormalType) (found : Option Place) →
    InOwn x (past b c) h rest names values fixed found → InOwn x c h (held y b t ∷ rest) names values fixed found
past-held x c h y true t rest e names values fixed found k = past-static x c.variables c.fixed y t (map local_in rest ++ names) (visible h (of_variables rest ++ values)) (of_fixed rest ++ fixed) e found k
past-held x c false y false t rest e names values fixed found k = past-value x c.variables c.fixed y t (map local_in rest ++ names) (of_variables rest ++ values) (of_fixed rest ++ fixed) e found k
past-held x c true y false t rest e names values fixed found k = past-hidden x c.variables c.fixed y (map local_in rest ++ names) (of_fixed rest ++ fixed) e found k

-- what stands for the name among the rest of the locals does so among all of them
pub record Leads (x : List ℕ) (b : Before) (h : Bool) (all : List HeldLocal) (c : Before) (left : List HeldLocal) : Type 0 where
  pub leads : (names : List Local) (values fixed : List NormalType) (found : Option Place) → InOwn x c h left names values fixed found → InOwn x b h all names values fixed found

pub leads-start : (x : List ℕ) (b : Before) (h : Bool) (all : List HeldLocal) → Leads x b h all b all
leads-start x b h all = record { leads = λ names values fixed found k. k }

pub leads-past : (x : List ℕ) (b : Before) (h : Bool) (all : List HeldLocal) (c d : Before) (left rest : List HeldLocal) (l : HeldLocal) → left ≡ l ∷ rest → is_named x l.name ≡ false → d ≡ past l.fixed c → Leads x b h all c left → Leads x b h all d rest
leads-past x b h all c d left rest l is e q g = record {
  leads = λ names values fixed found k.
      g.leads names values fixed found (subst (λ z. InOwn x c h z names values fixed found) (sym is)
      (past-held x c h l.name l.fixed l.of rest e names values fixed found (subst (λ z. InOwn x z h rest names values fixed found) q k)));
}

-- the name is that of the first one
here-held : (x : List ℕ) (c : Before) (h : Bool) (y : Option (List ℕ)) (b : Bool) (t : NormalType) (rest : List HeldLocal) → is_named x y ≡ true → (names : List Local) (values fixed : List NormalType) (p : Place) →
    ((names : List Local) (values fixed : List NormalType) → InOwn x c h (held y b t ∷ []) names values fixed (Some p)) → InOwn x c h (held y b t ∷ rest) names values fixed (Some p)
here-held x c h y true t rest e names values fixed p k = k (map local_in rest ++ names) (of_variables rest ++ values) (of_fixed rest ++ fixed)
here-held x c h y false t rest e names values fixed p k = k (map local_in rest ++ names) (of_variables rest ++ values) (of_fixed rest ++ fixed)

abbrev pub IsPlaceOf : HeldLocal → Before → Bool → Place → Type 0
IsPlaceOf l c h p = (x : List ℕ) (names : List Local) (values fixed : List NormalType) → is_named x l.name ≡ true → InOwn x c h (l ∷ []) names values fixed (Some p)

pub leads-here : (x : List ℕ) (b : Before) (h : Bool) (all : List HeldLocal) (c : Before) (left rest : List HeldLocal) (l : HeldLocal) (p : Place) → left ≡ l ∷ rest → is_named x l.name ≡ true → IsPlaceOf l c h p → Leads x b h all c left →
    (names : List Local) (values fixed : List NormalType) → InOwn x b h all names values fixed (Some p)
leads-here x b h all c left rest l p is e k g names values fixed =
    g.leads names values fixed (Some p) (subst (λ z. InOwn x c h z names values fixed (Some p)) (sym is)
    (here-held x c h l.name l.fixed l.of rest e names values fixed p (λ ns vs fs. k x ns vs fs e)))

pub leads-end : (x : List ℕ) (b : Before) (h : Bool) (all : List HeldLocal) (c : Before) (left : List HeldLocal) → length left ≡ 0 → Leads x b h all c left →
    (names : List Local) (values fixed : List NormalType) (found : Option Place) → StandsFor x c.variables c.fixed names (visible h values) fixed found → InOwn x b h all names values fixed found
leads-end x b h all c left is g names values fixed found k = g.leads names values fixed found (subst (λ z. InOwn x c h z names values fixed found) (sym (nil_from_length left is)) k)

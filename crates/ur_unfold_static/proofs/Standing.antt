-- What numbers stand for stays as the lists grow.
use Rattle.std.proofs.Common.{◌≡◌, ℕ, zero, suc, List, [], ◌∷◌, ◌++◌, map, length, get_or, Option, None, Some, refl, sym, ap₂, subst, ◌∙◌}
use Rattle.std.specs.Prelude.{slice_get}
use Rattle.std.specs.List.{AllZip}
use Rattle.std.proofs.lemmas.Option.{slice_get_within, slice_get-get_or}
use Rattle.ur_rows.specs.declared.normal.Normal.{Normal}
use Rattle.ur_rows.specs.declared.normal.Normal.TheVariants as normal
use Rattle.ur_rows.specs.Made.{unit}
use Rattle.ur_tree.specs.declared.closed.Static.{Static}
use Rattle.ur_source.specs.Reading.{Cons}
use Rattle.ur_source.specs.Static.{StaticFields, static_record, static_field}
use Rattle.ur_unfold_static.specs.declared.node.Field.{Field}
use Rattle.ur_unfold_static.specs.declared.node.Scope.{Scope}
use Rattle.ur_unfold_static.specs.declared.node.Step.{Step}
use Rattle.ur_unfold_static.specs.Held.{Held, AreBelow, Grows, con_at, static_at, field_of}
use Rattle.ur_unfold_static.specs.Scopes.{Statics, IsAt, AreAt, MayBeAt, Stands, FieldsAre, StepIs}
use Rattle.ur_unfold_static.proofs.Laws.{get_longer}

-- ---- lists

pub at_longer : {A : Type 0} (xs ys : List A) (j : ℕ) (x : A) → IsAt xs j x → IsAt (xs ++ ys) j x
at_longer xs ys j x e = get_longer xs ys j x (slice_get_within xs j x e) ∙ e

are_longer : {A : Type 0} (xs ys : List A) (js : List ℕ) (zs : List A) → AreAt xs js zs → AreAt (xs ++ ys) js zs
are_longer xs ys [] [] h = tt
are_longer xs ys [] (z ∷ zs) h = absurd h
are_longer xs ys (j ∷ js) [] h = absurd h
are_longer xs ys (j ∷ js) (z ∷ zs) h = (at_longer xs ys j z h.0, are_longer xs ys js zs h.1)

value_at : {A : Type 0} (d : A) (xs : List A) (j : ℕ) (x : A) → IsAt xs j x → get_or xs j d ≡ x
value_at d xs j x e = same (get_or xs j d) x (sym (slice_get-get_or xs j d (slice_get_within xs j x e)) ∙ e)
  where
    same : {A : Type 0} (a b : A) → Some a ≡ Some b → a ≡ b
    same a b e = cc

are_values : {A : Type 0} (d : A) (xs : List A) (js : List ℕ) (ys : List A) → AreAt xs js ys → map (λ j. get_or xs j d) js ≡ ys
are_values d xs [] [] h = refl
are_values d xs [] (y ∷ ys) h = absurd h
are_values d xs (j ∷ js) [] h = absurd h
are_values d xs (j ∷ js) (y ∷ ys) h = ap₂ (λ a b. a ∷ b) (value_at d xs j y h.0) (are_values d xs js ys h.1)

pub are_below : {A : Type 0} (xs : List A) (js : List ℕ) (ys : List A) → AreAt xs js ys → AreBelow (length xs) js
are_below xs [] [] h = tt
are_below xs [] (y ∷ ys) h = absurd h
are_below xs (j ∷ js) [] h = absurd h
are_below xs (j ∷ js) (y ∷ ys) h = (slice_get_within xs j y h.0, are_below xs js ys h.1)

pub are_more : {A : Type 0} (xs : List A) (js ks : List ℕ) (ys zs : List A) → AreAt xs js ys → AreAt xs ks zs → AreAt xs (js ++ ks) (ys ++ zs)
are_more xs [] ks [] zs h g = g
are_more xs [] ks (y ∷ ys) zs h g = absurd h
are_more xs (j ∷ js) ks [] zs h g = absurd h
are_more xs (j ∷ js) ks (y ∷ ys) zs h g = (h.0, are_more xs js ks ys zs h.1 g)

-- the number at a place stands for what is at that place
pub at_place : {A : Type 0} (xs : List A) (js : List ℕ) (ys : List A) → AreAt xs js ys → (i : ℕ) → MayBeAt xs (slice_get js i) (slice_get ys i)
at_place xs [] [] h i = refl
at_place xs [] (y ∷ ys) h i = absurd h
at_place xs (j ∷ js) [] h i = absurd h
at_place xs (j ∷ js) (y ∷ ys) h zero = (y, h.0, refl)
at_place xs (j ∷ js) (y ∷ ys) h (suc i) = at_place xs js ys h.1 i

-- ---- what is held

pub cons_are : (cons : List Normal) (js : List ℕ) (cs : Cons) → AreAt cons js cs → map (con_at cons) js ≡ cs
cons_are = are_values (normal.Type unit)

pub statics_are : (statics : Statics) (js : List ℕ) (fs : Statics) → AreAt statics js fs → map (static_at statics) js ≡ fs
statics_are = are_values (static_record [])

pub fields_are : (statics : Statics) (fs : List Field) (gs : StaticFields) → FieldsAre statics fs gs → map (field_of statics) fs ≡ map static_field gs
fields_are statics [] [] h = refl
fields_are statics [] (g ∷ gs) h = absurd h
fields_are statics (f ∷ fs) [] h = absurd h
fields_are statics (f ∷ fs) (g ∷ gs) h = ap₂ (λ a b. a ∷ b) (ap₂ (λ n s. record { name = n; of = s }) h.0.0 (value_at (static_record []) statics f.of g.1 h.0.1)) (fields_are statics fs gs h.1)

pub fields_below : (statics : Statics) (fs : List Field) (gs : StaticFields) → FieldsAre statics fs gs → AreBelow (length statics) (map (λ f. f.of) fs)
fields_below statics [] [] h = tt
fields_below statics [] (g ∷ gs) h = absurd h
fields_below statics (f ∷ fs) [] h = absurd h
fields_below statics (f ∷ fs) (g ∷ gs) h = (slice_get_within statics f.of g.1 h.0.1, fields_below statics fs gs h.1)

module _ (old new : Held) (g : Grows old new) where
  pub con_grown : (j : ℕ) (c : Normal) → IsAt old.cons j c → IsAt new.cons j c
  con_grown j c e = subst (λ xs. IsAt xs j c) (sym g.more_cons) (at_longer old.cons g.cons j c e)

  pub static_grown : (j : ℕ) (s : Static) → IsAt old.statics j s → IsAt new.statics j s
  static_grown j s e = subst (λ xs. IsAt xs j s) (sym g.more_statics) (at_longer old.statics g.statics j s e)

  pub cons_grown : (js : List ℕ) (cs : Cons) → AreAt old.cons js cs → AreAt new.cons js cs
  cons_grown js cs h = subst (λ xs. AreAt xs js cs) (sym g.more_cons) (are_longer old.cons g.cons js cs h)

  pub statics_grown : (js : List ℕ) (fs : Statics) → AreAt old.statics js fs → AreAt new.statics js fs
  statics_grown js fs h = subst (λ xs. AreAt xs js fs) (sym g.more_statics) (are_longer old.statics g.statics js fs h)

  pub stands_grown : (scope : Scope) (cs : Cons) (fs : Statics) → Stands old scope cs fs → Stands new scope cs fs
  stands_grown scope cs fs h = (cons_grown scope.cons cs h.0, statics_grown scope.fixed fs h.1)

  pub may_be_grown : (j : Option ℕ) (s : Option Static) → MayBeAt old.statics j s → MayBeAt new.statics j s
  may_be_grown None s h = h
  may_be_grown (Some j) s h = (h.0, static_grown j h.0 h.1, h.2)

  pub fields_grown : (fs : List Field) (gs : StaticFields) → FieldsAre old.statics fs gs → FieldsAre new.statics fs gs
  fields_grown [] [] h = tt
  fields_grown [] (k ∷ gs) h = absurd h
  fields_grown (f ∷ fs) [] h = absurd h
  fields_grown (f ∷ fs) (k ∷ gs) h = ((h.0.0, static_grown f.of k.1 h.0.1), fields_grown fs gs h.1)

  pub steps_grown : (ss : List Step) (ks : List Cons) → AllZip (StepIs old) ss ks → AllZip (StepIs new) ss ks
  steps_grown [] [] h = tt
  steps_grown [] (k ∷ ks) h = absurd h
  steps_grown (s ∷ ss) [] h = absurd h
  steps_grown (s ∷ ss) (k ∷ ks) h = (cons_grown (s.name ∷ s.of ∷ s.rest ∷ []) k h.0, steps_grown ss ks h.1)

-- Records of typed fields: built, joined, cut, and read.
use Rattle.std.proofs.Common.{◌≡◌, ◌==◌, List, [], ◌∷◌, Option, Some, None, Bool, true, false, if◌then◌else◌, not, refl, sym, subst, ap}
use Rattle.std.specs.Prelude.{nat_lt, find, option_map}
use Rattle.std.specs.List.{AllZip}
use Rattle.ur_base.specs.declared.names.Name.{Name}
use Rattle.ur_values.specs.declared.types.ValueType.{ValueType}
use Rattle.ur_values.specs.declared.value.Value.{Value}
use Rattle.ur_terms.specs.Values.{with_field, fields_together, field_at, without_field, fields_of}
use Rattle.ur_terms.specs.Inhabits.{Variants}
use Rattle.ur_terms.proofs.Inhabiting.{Of, FieldsOf}

some_same : {A : Type 0} {x y : A} → Some x ≡ Some y → x ≡ y
some_same e = cc

none_some : {A : Type 0} {x : A} → None ≡ Some x → ⊥
none_some e = cc

module _ (own : Value → Type 0) (vs : Variants) where
  abbrev V : Value → ValueType → Type 0
  V x t = Of own vs x t

  abbrev F : List (Name × Value) → List (Name × ValueType) → Type 0
  F gs fs = FieldsOf own vs gs fs

  -- one field more, before the others or behind the first
  put_first : (b : Bool) (n : Name) (x : Value) (t : ValueType) (g : Name × Value) (f : Name × ValueType) (gs more : List (Name × Value)) (fs others : List (Name × ValueType))
      → V x t → g.0 ≡ f.0 → V g.1 f.1 → F gs fs → F more others
      → F (if b then (n, x) ∷ g ∷ gs else g ∷ more) (if b then (n, t) ∷ f ∷ fs else f ∷ others)
  put_first true n x t g f gs more fs others h e hg hs k = (refl, h, (e, hg, hs))
  put_first false n x t g f gs more fs others h e hg hs k = (e, hg, k)

  pub typed_with : (n : Name) (x : Value) (t : ValueType) (gs : List (Name × Value)) (fs : List (Name × ValueType)) → V x t → F gs fs
      → F (with_field (n, x) gs) (with_field (n, t) fs)
  typed_with n x t [] [] h hs = (refl, h, tt)
  typed_with n x t [] (f ∷ fs) h hs = absurd hs
  typed_with n x t (g ∷ gs) [] h hs = absurd hs
  typed_with n x t (g ∷ gs) (f ∷ fs) h (e, hg, hs) =
      subst (λ m. F (with_field (n, x) (g ∷ gs)) (if nat_lt n.0 m.0 then (n, t) ∷ f ∷ fs else f ∷ with_field (n, t) fs)) e
      (put_first (nat_lt n.0 g.0.0) n x t g f gs (with_field (n, x) gs) fs (with_field (n, t) fs) h e hg hs (typed_with n x t gs fs h hs))

  pub typed_together : (gs hs : List (Name × Value)) (fs ks : List (Name × ValueType)) → F gs fs → F hs ks → F (fields_together gs hs) (fields_together fs ks)
  typed_together [] hs [] ks h k = k
  typed_together [] hs (f ∷ fs) ks h k = absurd h
  typed_together (g ∷ gs) hs [] ks h k = absurd h
  typed_together (g ∷ gs) hs (f ∷ fs) ks (e, hg, hs_) k =
      subst (λ m. F (with_field g (fields_together gs hs)) (with_field (m, f.1) (fields_together fs ks))) e
      (typed_with g.0 g.1 f.1 (fields_together gs hs) (fields_together fs ks) hg (typed_together gs hs fs ks hs_ k))

  -- what a look-up finds has the type that is found
  found_first : (b : Bool) (t : ValueType) (g : Name × Value) (f : Name × ValueType) (gs : Option (Name × Value)) (fs : Option (Name × ValueType)) → V g.1 f.1
      → (option_map (λ (k : Name × ValueType). k.1) fs ≡ Some t → (y : Value) × (option_map (λ (k : Name × Value). k.1) gs ≡ Some y) × V y t)
      → option_map (λ (k : Name × ValueType). k.1) (if b then Some f else fs) ≡ Some t
      → (y : Value) × (option_map (λ (k : Name × Value). k.1) (if b then Some g else gs) ≡ Some y) × V y t
  found_first true t g f gs fs h k e = (g.1, refl, subst (V g.1) (some_same e) h)
  found_first false t g f gs fs h k e = k e

  pub typed_at : (n : Name) (t : ValueType) (gs : List (Name × Value)) (fs : List (Name × ValueType)) → F gs fs → field_at n fs ≡ Some t
      → (y : Value) × (field_at n gs ≡ Some y) × V y t
  typed_at n t [] [] h e = absurd (none_some e)
  typed_at n t [] (f ∷ fs) h e = absurd h
  typed_at n t (g ∷ gs) [] h e = absurd h
  typed_at n t (g ∷ gs) (f ∷ fs) (is, hg, hs) e =
      found_first (g.0.0 == n.0) t g f (find (λ k. k.0.0 == n.0) gs) (find (λ k. k.0.0 == n.0) fs) hg (λ k. typed_at n t gs fs hs k)
      (subst (λ m. option_map (λ (k : Name × ValueType). k.1) (if m.0 == n.0 then Some f else find (λ k. k.0.0 == n.0) fs) ≡ Some t) (sym is) e)

  kept_first : (b : Bool) (g : Name × Value) (f : Name × ValueType) (gs : List (Name × Value)) (fs : List (Name × ValueType)) → g.0 ≡ f.0 → V g.1 f.1 → F gs fs
      → F (if b then g ∷ gs else gs) (if b then f ∷ fs else fs)
  kept_first true g f gs fs e h hs = (e, h, hs)
  kept_first false g f gs fs e h hs = hs

  pub typed_without : (n : Name) (gs : List (Name × Value)) (fs : List (Name × ValueType)) → F gs fs → F (without_field n gs) (without_field n fs)
  typed_without n [] [] h = tt
  typed_without n [] (f ∷ fs) h = absurd h
  typed_without n (g ∷ gs) [] h = absurd h
  typed_without n (g ∷ gs) (f ∷ fs) (e, hg, hs) =
      subst (λ m. F (without_field n (g ∷ gs)) (if not (m.0 == n.0) then f ∷ without_field n fs else without_field n fs)) e
      (kept_first (not (g.0.0 == n.0)) g f (without_field n gs) (without_field n fs) e hg (typed_without n gs fs hs))

  -- a name more before fields that are there
  named_first : (n : Name) (x : Value) (t : ValueType) (gs : Option (List (Name × Value))) (ks : Option (List (Name × ValueType))) (fs : List (Name × ValueType)) → V x t
      → ((ls : List (Name × ValueType)) → ks ≡ Some ls → (hs : List (Name × Value)) × (gs ≡ Some hs) × F hs ls)
      → option_map (with_field (n, t)) ks ≡ Some fs → (hs : List (Name × Value)) × (option_map (with_field (n, x)) gs ≡ Some hs) × F hs fs
  named_first n x t gs None fs h rest e = absurd (none_some e)
  named_first n x t gs (Some ls) fs h rest e =
      let (hs, is, typed) = rest ls refl in
      (with_field (n, x) hs, ap (option_map (with_field (n, x))) is, subst (F (with_field (n, x) hs)) (some_same e) (typed_with n x t hs ls h typed))

  pub typed_named : (ns : List Name) (xs : List Value) (ts : List ValueType) (fs : List (Name × ValueType)) → AllZip V xs ts → fields_of ns ts ≡ Some fs
      → (gs : List (Name × Value)) × (fields_of ns xs ≡ Some gs) × F gs fs
  typed_named [] [] [] fs h e = ([], refl, subst (F []) (some_same e) tt)
  typed_named [] [] (t ∷ ts) fs h e = absurd h
  typed_named [] (x ∷ xs) [] fs h e = absurd h
  typed_named [] (x ∷ xs) (t ∷ ts) fs h e = absurd (none_some e)
  typed_named (n ∷ ns) [] [] fs h e = absurd (none_some e)
  typed_named (n ∷ ns) [] (t ∷ ts) fs h e = absurd h
  typed_named (n ∷ ns) (x ∷ xs) [] fs h e = absurd h
  typed_named (n ∷ ns) (x ∷ xs) (t ∷ ts) fs h e =
      named_first n x t (fields_of ns xs) (fields_of ns ts) fs h.0 (λ ls is. typed_named ns xs ts ls h.1 is) e

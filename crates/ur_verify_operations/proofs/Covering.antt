-- Patterns that leave out no value of a type.
use Rattle.std.proofs.Common.{◌≡◌, ◌≢◌, ◌⊎◌, inl, inr, ℕ, ◌<◌, ◌≤◌, ◌+◌, Bool, true, false, List, [], ◌∷◌, length, get_or, Option, Some, refl, sym, ap, ◌∙◌, subst, arith, true≢false}
use Rattle.std.specs.Prelude.{◌↔◌, ◌==◌, IsTrue, Contains, slice_get}
use Rattle.std.proofs.Math.Nat.{eq-or-lt_of_le}
use Rattle.std.proofs.lemmas.Option.{slice_get_read, get_or_from_slice_get, slice_get_within}
use Rattle.ur_values.specs.declared.types.ValueType.{ValueType, out-ValueType}
use Rattle.ur_values.specs.declared.types.ValueType.TheOpen as open_type
use Rattle.ur_values.specs.declared.types.ValueType.TheVariants as ty
use Rattle.ur_terms.specs.declared.term.Pattern.{Pattern}
use Rattle.ur_terms.specs.declared.term.Pattern.TheVariants as p
use Rattle.ur_terms.specs.declared.term.Branch.{Branch}
use Rattle.ur_terms.specs.Types.{Signature, Cover, by_any, by_bool, by_option, by_list, by_datatype}
use Rattle.ur_verify_operations.specs.Fields.{OpenType}
use Rattle.ur_verify_operations.specs.Wanting.{patterns_in, HasEach}

module _ (sig : Signature) (ps : List Pattern) where
  -- what covers a type but for a pattern that matches anything
  abbrev pub CoverOpen : OpenType → Type 0
  CoverOpen open_type.Bool = Contains ps (p.Bool true) × Contains ps (p.Bool false)
  CoverOpen (open_type.Opt of) = Contains ps p.Absent × Contains ps p.Present
  CoverOpen (open_type.Many of) = Contains ps p.Empty × Contains ps p.Cons
  CoverOpen (open_type.Datatype d) = (ps ≢ []) × HasEach sig.variants ps d
  CoverOpen _ = ⊥

  cover_parts : (a : ValueType) → Cover sig ps a → Contains ps p.Any ⊎ CoverOpen (out-ValueType a)
  cover_parts a (by_any _ h) = inl h
  cover_parts _ (by_bool h k) = inr (subst CoverOpen (sym ty.outs-Bool) (h, k))
  cover_parts _ (by_option b h k) = inr (subst CoverOpen (sym (ty.outs-Opt b)) (h, k))
  cover_parts _ (by_list b h k) = inr (subst CoverOpen (sym (ty.outs-Many b)) (h, k))
  cover_parts _ (by_datatype d some all) = inr (subst CoverOpen (sym (ty.outs-Datatype d)) (some, all))

  -- where no pattern matches anything
  pub cover_at : (a b : ValueType) (o : OpenType) → a ≡ b → out-ValueType b ≡ o → (Contains ps p.Any → ⊥) → Cover sig ps a → CoverOpen o
  cover_at a b o e f other h = go (cover_parts a h)
    where
      go : Contains ps p.Any ⊎ CoverOpen (out-ValueType a) → CoverOpen o
      go (inl k) = absurd (other k)
      go (inr k) = subst CoverOpen (ap out-ValueType e ∙ f) k

  pub cover_bool : (a : ValueType) → a ≡ ty.Bool → Contains ps (p.Bool true) × Contains ps (p.Bool false) → Cover sig ps a
  cover_bool a e h = subst (λ x. Cover sig ps x) (sym e) (by_bool h.0 h.1)

  pub cover_option : (a b : ValueType) → a ≡ ty.Opt b → Contains ps p.Absent × Contains ps p.Present → Cover sig ps a
  cover_option a b e h = subst (λ x. Cover sig ps x) (sym e) (by_option b h.0 h.1)

  pub cover_list : (a b : ValueType) → a ≡ ty.Many b → Contains ps p.Empty × Contains ps p.Cons → Cover sig ps a
  cover_list a b e h = subst (λ x. Cover sig ps x) (sym e) (by_list b h.0 h.1)

  pub cover_datatype : (a : ValueType) (d : ℕ) → a ≡ ty.Datatype d → (ps ≢ []) × HasEach sig.variants ps d → Cover sig ps a
  cover_datatype a d e h = subst (λ x. Cover sig ps x) (sym e) (by_datatype d h.0 h.1)

-- ---- a pattern for each constructor

-- answers of tests
pub never : {A : Type 0} → (A → ⊥) → IsTrue false ↔ A
never h = ((λ q. absurd (true≢false (sym q))), (λ a. absurd (h a)))

pub not_so : {A : Type 0} (r : Bool) → IsTrue r ↔ A → r ≡ false → A → ⊥
not_so r h e a = true≢false (sym (h.1 a) ∙ e)

abbrev Variants : Type 0
Variants = List (ℕ × Option ValueType)

pub slot_at : (vs ws : Variants) (i d : ℕ) (x : ℕ × Option ValueType) → ws ≡ vs → i < length ws → x ≡ get_or ws i x → x.0 ≡ d → slice_get vs i ≡ Some (d, x.1)
slot_at vs ws i d x e h is same = subst (λ (us : Variants). slice_get us i ≡ Some (d, x.1)) e (slice_get_read ws (length ws) i x refl h is ∙ ap (λ k. Some (k, x.1)) same)

module _ (vs : Variants) (ps : List Pattern) (d : ℕ) where
  -- there is a pattern for each constructor before this number
  abbrev pub HasSome : ℕ → Type 0
  HasSome i = (c : ℕ) (arg : Option ValueType) → c < i → slice_get vs c ≡ Some (d, arg) → Contains ps (p.Tagged c)

  pub each_has : (i : ℕ) → HasSome i → Contains ps (p.Tagged i) → HasSome (i + 1)
  each_has i all h c arg lt slot = go (eq-or-lt_of_le (omega (arith, lt)))
    where
      go : (c ≡ i) ⊎ (c < i) → Contains ps (p.Tagged c)
      go (inl e) = subst (λ k. Contains ps (p.Tagged k)) (sym e) h
      go (inr below) = all c arg below slot

  pub each_other : (i : ℕ) (x : ℕ × Option ValueType) → x ≡ get_or vs i x → (x.0 ≡ d → ⊥) → HasSome i → HasSome (i + 1)
  each_other i x is other all c arg lt slot = go (eq-or-lt_of_le (omega (arith, lt)))
    where
      go : (c ≡ i) ⊎ (c < i) → Contains ps (p.Tagged c)
      go (inl e) =
          let found : x ≡ (d, arg) = is ∙ get_or_from_slice_get vs i (d, arg) x (subst (λ k. slice_get vs k ≡ Some (d, arg)) e slot) in absurd (other (ap (λ z. z.0) found))
      go (inr below) = all c arg below slot

  pub each_end : (i : ℕ) → length vs ≤ i → HasSome i → HasEach vs ps d
  each_end i h all c arg slot = all c arg (let k = slice_get_within vs c (d, arg) slot in omega (arith, h, k)) slot

-- branches have patterns
pub some_patterns : (bs : List Branch) (empty : Bool) → empty ≡ (length bs == 0) → empty ≡ false → patterns_in bs ≢ []
some_patterns [] empty e f = absurd (true≢false (sym e ∙ f))
some_patterns (b ∷ bs) empty e f = apart
  where
    apart : b.pattern ∷ patterns_in bs ≡ [] → ⊥
    apart h = cc

-- the answer of a test of two parts, behind the first of them
pub both_decide : {A B C : Type 0} (p r : Bool) → (C → A × B) → (A × B → C) → IsTrue p ↔ A → p ≡ true → IsTrue r ↔ B → IsTrue r ↔ C
both_decide p r to from h e k = ((λ q. from (h.0 e, k.0 q)), (λ c. k.1 (to c).1))

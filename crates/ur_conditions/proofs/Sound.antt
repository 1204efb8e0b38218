-- The disjuncts of a condition are an over-approximation of its truth.
use Rattle.std.proofs.Common.{◌≡◌, ◌≢◌, ℕ, Bool, true, false, not, inl, inr, ⊎_elim, List, [], ◌∷◌, ◌++◌, map, refl, sym, ap, ap₂, ◌∙◌, subst, get_or, Option, Some, None, is_eq, Ordering, Less, Equal, Greater}
use Rattle.std.specs.Ordering.{is_ne}
use Rattle.std.specs.List.{AllZip, AllByRecursion}
use Rattle.std.specs.Int.{w64, int_wrapping_add, int_wrapping_sub, int_wrapping_mul}
use Rattle.std.proofs.lemmas.Bool.{or_cases, or_parts, and_parts, and_cases}
use Rattle.ur_values.specs.declared.value.Value.{Value}
use Rattle.ur_values.specs.declared.value.Value.TheVariants as v
use Rattle.ur_values.specs.declared.schema.ColumnKind.{ColumnKind}
use Rattle.ur_values.specs.declared.schema.ColumnKind.TheVariants as kind
use Rattle.ur_values.specs.Order.{value_cmp}
use Rattle.ur_values.specs.Store.{Row, FitsKind, FitKinds}
use Rattle.ur_sql.specs.declared.scalar.Comparison.{Comparison}
use Rattle.ur_sql.specs.declared.scalar.Comparison.TheVariants as op
use Rattle.ur_sql.specs.declared.scalar.Scalar.{Scalar, more_of-Scalar as one, end_of-Scalar as end}
use Rattle.ur_sql.specs.declared.scalar.Scalar.TheVariants as s
use Rattle.ur_sql.specs.declared.term.SqlTerm.{SqlTerm}
use Rattle.ur_sql.specs.declared.term.SqlTerm.TheVariants as t
use Rattle.ur_sql.specs.Scalar.{value_of, column_at, on_ints, int_neg, is_true, compares}
use Rattle.ur_sql.specs.Typing.{Kinds, HasKind, column_kind}
use Rattle.ur_conditions.specs.declared.disjunct.Disjunct.{Disjunct}
use Rattle.ur_conditions.specs.declared.side.Side.{Side}
use Rattle.ur_conditions.specs.Terms.{column_term, param_term, term_map, term_both, term_of}
use Rattle.ur_conditions.specs.Disjuncts.{no_condition, both, paired, equation, equation_if_both, comparison, constant, truth, disjuncts_of}
use Rattle.ur_conditions.proofs.Valuation.{Valuation, term_value, Holds}
use Rattle.ur_sql.proofs.Members.{In, in_append_left, in_append_right, in_flat_map, in_map}
use Rattle.ur_conditions.proofs.Values.{value_cmp-refl, IsPlain, same_plain, fits_plain}
use Rattle.ur_sql.proofs.Typed.{value_fits, bool_is, presented_is}

pub all_append : {X : Type 0} (P : X → Type 0) (xs ys : List X) → AllByRecursion P xs → AllByRecursion P ys → AllByRecursion P (xs ++ ys)
all_append P [] ys a b = b
all_append P (x ∷ xs) ys a b = (a.0, all_append P xs ys (a.1) b)

pub all_by_in : {X : Type 0} (P : X → Type 0) (xs : List X) (x : X) → AllByRecursion P xs → In x xs → P x
all_by_in P [] x a h = absurd h
all_by_in P (y ∷ xs) x a (inl e) = subst P e (a.0)
all_by_in P (y ∷ xs) x a (inr h) = all_by_in P xs x (a.1) h

-- some of these disjuncts holds
abbrev pub SomeHolds : Valuation → List Disjunct → Type 0
SomeHolds w ds = (d : Disjunct) × In d ds × Holds w d

-- the term's value, where there is a term
abbrev pub TermIs : Valuation → Option SqlTerm → Value → Type 0
TermIs w None x = Unit {0}
TermIs w (Some a) x = term_value w a ≡ x

module _ (w : Valuation) where
  pub no_condition_holds : SomeHolds w no_condition
  no_condition_holds = (record { equations = []; disequations = [] }, inl refl, record { equations = tt; disequations = tt })

  pub some_left : (ds es : List Disjunct) → SomeHolds w ds → SomeHolds w (ds ++ es)
  some_left ds es h = (h.0, in_append_left ds es (h.0) (h.1), h.2)

  pub some_right : (ds es : List Disjunct) → SomeHolds w es → SomeHolds w (ds ++ es)
  some_right ds es h = (h.0, in_append_right ds es (h.0) (h.1), h.2)

  pub some_paired : (ds es : List Disjunct) → SomeHolds w ds → SomeHolds w es → SomeHolds w (paired ds es)
  some_paired ds es h k = (
    both (h.0) (k.0),
    in_flat_map (λ d. map (both d) es) ds (h.0) (both (h.0) (k.0)) (h.1) (in_map (both (h.0)) es (k.0) (k.1)),
    record {
      equations = all_append _ (h.0).equations (k.0).equations (h.2).equations (k.2).equations;
      disequations = all_append _ (h.0).disequations (k.0).disequations (h.2).disequations (k.2).disequations;
    },
  )

  equal_holds : (a b : SqlTerm) → term_value w a ≡ term_value w b → SomeHolds w (equation true a b)
  equal_holds a b e = (record { equations = (a, b) ∷ []; disequations = [] }, inl refl, record { equations = (e, tt); disequations = tt })

  unequal_holds : (a b : SqlTerm) → term_value w a ≢ term_value w b → SomeHolds w (equation false a b)
  unequal_holds a b e = (record { equations = []; disequations = (a, b) ∷ [] }, inl refl, record { equations = tt; disequations = (e, tt) })

  equation_holds : (positive : Bool) (a b : SqlTerm) (x y : Value) → IsPlain x → term_value w a ≡ x → term_value w b ≡ y
      → is_eq (value_cmp x y) ≡ positive → SomeHolds w (equation positive a b)
  equation_holds true a b x y at ea eb e = equal_holds a b (ea ∙ same_plain x y at e ∙ sym eb)
  equation_holds false a b x y at ea eb e =
      unequal_holds a b (λ same. let z : x ≡ y = sym ea ∙ same ∙ eb in
      let r : is_eq (value_cmp x y) ≡ true = subst (λ u. is_eq (value_cmp x u) ≡ true) z (ap is_eq (value_cmp-refl x)) in cc)

  ne_not : (o : Ordering) (b : Bool) → is_ne o ≡ b → is_eq o ≡ not b
  ne_not Less b e = cc
  ne_not Equal b e = cc
  ne_not Greater b e = cc

  if_both_holds : (positive : Bool) (a b : Option SqlTerm) (x y : Value) → IsPlain x → TermIs w a x → TermIs w b y
      → is_eq (value_cmp x y) ≡ positive → SomeHolds w (equation_if_both positive a b)
  if_both_holds positive None b x y at ea eb e = no_condition_holds
  if_both_holds positive (Some a) None x y at ea eb e = no_condition_holds
  if_both_holds positive (Some a) (Some b) x y at ea eb e = equation_holds positive a b x y at ea eb e

  comparison_holds : (positive : Bool) (c : Comparison) (a b : Option SqlTerm) (x y : Value) → IsPlain x → TermIs w a x → TermIs w b y
      → compares c (value_cmp x y) ≡ positive → SomeHolds w (comparison positive c a b)
  comparison_holds positive op.Equal a b x y at ea eb e = if_both_holds positive a b x y at ea eb e
  comparison_holds positive op.Unequal a b x y at ea eb e = if_both_holds (not positive) a b x y at ea eb (ne_not (value_cmp x y) positive e)
  comparison_holds positive _ a b x y at ea eb e = no_condition_holds

  constant_holds : (positive : Bool) (x : Value) → FitsKind x kind.Bool → is_true x ≡ positive → SomeHolds w (constant positive x)
  constant_holds true (v.Bool true) f e = no_condition_holds
  constant_holds true (v.Bool false) f e = cc
  constant_holds false (v.Bool true) f e = cc
  constant_holds false (v.Bool false) f e = no_condition_holds
  constant_holds _ _ f e = absurd f

  truth_holds : (positive : Bool) (a : SqlTerm) (x : Value) → term_value w a ≡ x → FitsKind x kind.Bool → is_true x ≡ positive → SomeHolds w (truth positive a)
  unfolding term_value
  truth_holds positive a x ea f e = equal_holds a (t.Constant (v.Bool positive)) (ea ∙ bool_is x positive f e)

  -- an operation of two terms is of their values
  both_is : (o : SqlTerm → SqlTerm → SqlTerm) (f : Value → Value → Value) → ((a b : SqlTerm) → term_value w (o a b) ≡ f (term_value w a) (term_value w b))
      → (a b : Option SqlTerm) (x y : Value) → TermIs w a x → TermIs w b y → TermIs w (term_both o a b) (f x y)
  both_is o f is None b x y ea eb = tt
  both_is o f is (Some a) None x y ea eb = tt
  both_is o f is (Some a) (Some b) x y ea eb = is a b ∙ ap₂ f ea eb

  one_is : (o : SqlTerm → SqlTerm) (f : Value → Value) → ((a : SqlTerm) → term_value w (o a) ≡ f (term_value w a))
      → (a : Option SqlTerm) (x : Value) → TermIs w a x → TermIs w (term_map o a) (f x)
  one_is o f is None x ea = tt
  one_is o f is (Some a) x ea = is a ∙ ap f ea

  pub add_is : (a b : SqlTerm) → term_value w (t.Add a b) ≡ on_ints (int_wrapping_add w64) (term_value w a) (term_value w b)
  unfolding term_value Rattle.ur_sql.specs.declared.term.SqlTerm.TheBlock.hidden-the_row-SqlTerm-0 denote.Hole.Carrier.hidden
  add_is a b = refl

  pub sub_is : (a b : SqlTerm) → term_value w (t.Sub a b) ≡ on_ints (int_wrapping_sub w64) (term_value w a) (term_value w b)
  unfolding term_value Rattle.ur_sql.specs.declared.term.SqlTerm.TheBlock.hidden-the_row-SqlTerm-0 denote.Hole.Carrier.hidden
  sub_is a b = refl

  pub mul_is : (a b : SqlTerm) → term_value w (t.Mul a b) ≡ on_ints (int_wrapping_mul w64) (term_value w a) (term_value w b)
  unfolding term_value Rattle.ur_sql.specs.declared.term.SqlTerm.TheBlock.hidden-the_row-SqlTerm-0 denote.Hole.Carrier.hidden
  mul_is a b = refl

  pub present_is : (a : SqlTerm) → term_value w (t.Present a) ≡ v.Present (term_value w a)
  unfolding term_value Rattle.ur_sql.specs.declared.term.SqlTerm.TheBlock.hidden-the_row-SqlTerm-0 denote.Hole.Carrier.hidden
  present_is a = refl

  pub neg_is : (a : SqlTerm) → term_value w (t.Neg a) ≡ int_neg (term_value w a)
  unfolding term_value Rattle.ur_sql.specs.declared.term.SqlTerm.TheBlock.hidden-the_row-SqlTerm-0 denote.Hole.Carrier.hidden
  neg_is a = refl

-- The valuation gives the columns and parameters of this side their values.
pub record Agrees (w : Valuation) (side : Side) (ks : Kinds) (params : List Value) (rows : List Row) : Type 0 where
  pub column : (i c : ℕ) (k : ColumnKind) → column_kind ks i c ≡ Some k → term_value w (column_term side i c) ≡ column_at rows i c
  pub param : (n : ℕ) → term_value w (param_term side n) ≡ get_or params n v.Absent
  pub params_fit : FitKinds params ks.params
  pub rows_fit : AllZip FitKinds rows ks.items

module _ (w : Valuation) (side : Side) (ks : Kinds) (params : List Value) (rows : List Row) (agree : Agrees w side ks params rows) where
  fits : (e : Scalar) (k : ColumnKind) → HasKind ks e k → FitsKind (value_of params rows e) k
  fits = value_fits ks params rows agree.params_fit agree.rows_fit

  pub term_is : (e : Scalar) (k : ColumnKind) → HasKind ks e k → TermIs w (term_of side e) (value_of params rows e)
  unfolding value_of term_of term_value
  term_is (s.Constant x) k h = refl
  term_is (s.Column i c) k h = agree.column i c k h
  term_is (s.Param n) k h = agree.param n
  term_is (s.Or' _ (one a end) _ (one b end)) k h = tt
  term_is (s.And' _ (one a end) _ (one b end)) k h = tt
  term_is (s.Not' _ (one a end)) k h = tt
  term_is (s.Compare' c _ (one a end) _ (one b end)) k h = tt
  term_is (s.Add' _ (one a end) _ (one b end)) k h =
      both_is w t.Add (on_ints (int_wrapping_add w64)) (add_is w) (term_of side a) (term_of side b) (value_of params rows a) (value_of params rows b)
      (term_is a kind.Int (h.1)) (term_is b kind.Int (h.2))
  term_is (s.Sub' _ (one a end) _ (one b end)) k h =
      both_is w t.Sub (on_ints (int_wrapping_sub w64)) (sub_is w) (term_of side a) (term_of side b) (value_of params rows a) (value_of params rows b)
      (term_is a kind.Int (h.1)) (term_is b kind.Int (h.2))
  term_is (s.Mul' _ (one a end) _ (one b end)) k h =
      both_is w t.Mul (on_ints (int_wrapping_mul w64)) (mul_is w) (term_of side a) (term_of side b) (value_of params rows a) (value_of params rows b)
      (term_is a kind.Int (h.1)) (term_is b kind.Int (h.2))
  term_is (s.Neg' _ (one a end)) k h = one_is w t.Neg int_neg (neg_is w) (term_of side a) (value_of params rows a) (term_is a kind.Int (h.1))
  term_is (s.Null j) k h = refl
  term_is (s.Present' _ (one a end)) k h =
      subst (TermIs w (term_map t.Present (term_of side a))) (sym (presented_is (value_of params rows a) (h.0) k (h.1) (fits a (h.0) (h.2))))
      (one_is w t.Present v.Present (present_is w) (term_of side a) (value_of params rows a) (term_is a (h.0) (h.2)))

  not_not : (b c : Bool) → not b ≡ c → b ≡ not c
  not_not true c e = cc
  not_not false c e = cc

  -- Where a condition is TRUE some disjunct of it holds, and where it is not, some disjunct of its negation.
  pub disjuncts_hold : (e : Scalar) → HasKind ks e kind.Bool → (positive : Bool) → is_true (value_of params rows e) ≡ positive → SomeHolds w (disjuncts_of side positive e)
  unfolding value_of disjuncts_of
  disjuncts_hold (s.Constant x) h positive e = constant_holds w positive x h e
  disjuncts_hold (s.Column i c) h positive e =
      truth_holds w positive (column_term side i c) (column_at rows i c) (agree.column i c kind.Bool h) (fits (s.Column i c) kind.Bool h) e
  disjuncts_hold (s.Param n) h positive e =
      truth_holds w positive (param_term side n) (get_or params n v.Absent) (agree.param n) (fits (s.Param n) kind.Bool h) e
  disjuncts_hold (s.Or' _ (one a end) _ (one b end)) h true e =
      ⊎_elim (λ i. some_left w _ _ (disjuncts_hold a (h.1) true i)) (λ i. some_right w _ _ (disjuncts_hold b (h.2) true i)) (or_cases _ _ e)
  disjuncts_hold (s.Or' _ (one a end) _ (one b end)) h false e =
      let p = or_parts (is_true (value_of params rows a)) (is_true (value_of params rows b)) e in
      some_paired w _ _ (disjuncts_hold a (h.1) false (p.0)) (disjuncts_hold b (h.2) false (p.1))
  disjuncts_hold (s.And' _ (one a end) _ (one b end)) h true e =
      let p = and_parts (is_true (value_of params rows a)) (is_true (value_of params rows b)) e in
      some_paired w _ _ (disjuncts_hold a (h.1) true (p.0)) (disjuncts_hold b (h.2) true (p.1))
  disjuncts_hold (s.And' _ (one a end) _ (one b end)) h false e =
      ⊎_elim (λ i. some_left w _ _ (disjuncts_hold a (h.1) false i)) (λ i. some_right w _ _ (disjuncts_hold b (h.2) false i)) (and_cases _ _ e)
  disjuncts_hold (s.Not' _ (one a end)) h positive e = disjuncts_hold a (h.1) (not positive) (not_not _ positive e)
  disjuncts_hold (s.Compare' c _ (one a end) _ (one b end)) h positive e =
      comparison_holds w positive c (term_of side a) (term_of side b) (value_of params rows a) (value_of params rows b)
      (fits_plain (value_of params rows a) (h.1.0) (fits a (h.1.0) (h.1.1))) (term_is a (h.1.0) (h.1.1)) (term_is b (h.1.0) (h.1.2)) e
  disjuncts_hold (s.Add' _ (one a end) _ (one b end)) h positive e = let x = h.0 in cc
  disjuncts_hold (s.Sub' _ (one a end) _ (one b end)) h positive e = let x = h.0 in cc
  disjuncts_hold (s.Mul' _ (one a end) _ (one b end)) h positive e = let x = h.0 in cc
  disjuncts_hold (s.Neg' _ (one a end)) h positive e = let x = h.0 in cc
  disjuncts_hold (s.Null j) h positive e = no_condition_holds w
  disjuncts_hold (s.Present' _ (one a end)) h positive e = no_condition_holds w

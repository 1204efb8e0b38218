-- The numbers of classes in a closure tell the classes of a pair's terms.
use Rattle.std.proofs.Common.{◌≡◌, ◌↔◌, ℕ, ◌<◌, Bool, true, false, not, ◌&&◌, inl, inr, ◌==◌, List, [], ◌∷◌, map, length, Option, Some, None, All, Contains, refl, sym, ap, ap₂, ◌∙◌, subst, eq-eqb, eqb-true, true≢false, arith}
use Rattle.std.specs.Prelude.{IsTrue, slice_get, slice_index, unwrap_or}
use Rattle.std.specs.List.{list_any, AllZip, AllByRecursion, range_with_len}
use Rattle.std.proofs.lemmas.Bool.{and_from, and_parts}
use Rattle.std.proofs.lemmas.List.Elements.{All-contains, All-from_recursion, All-weaker, recursion_from_All}
use Rattle.ur_values.specs.declared.value.Value.{Value}
use Rattle.ur_sql.specs.declared.term.SqlTerm.{SqlTerm}
use Rattle.ur_sql.specs.declared.term.SqlTerm.TheVariants as t
use Rattle.ur_congruence.specs.declared.terms.TermNode.{TermNode}
use Rattle.ur_congruence.specs.declared.terms.TermNode.TheVariants.{Variable, Apply}
use Rattle.ur_congruence.specs.Graph.{Graph}
use Rattle.ur_congruence.specs.Terms.{Follows, HasTerm, IsApplied as IsNode, AreClasses, MeetsSome}
use Rattle.ur_congruence.specs.Derives.{some_symbol}
use Rattle.ur_conditions.specs.Disjuncts.{Equation}
use Rattle.ur_conditions.specs.declared.pair.Pair.{Pair}
use Rattle.ur_conditions.specs.Pairs.{terms_of, key_terms, arg_terms, IsApplied, SharesClass, TellsClasses}
use Rattle.ur_conditions.specs.Patterns.{constants_of, somes_of, is_some, is_null}
use Rattle.ur_invalidate.specs.declared.leaf.Leaf.{Leaf}
use Rattle.ur_invalidate.specs.Numbers.{leaf_of, all_numbers, number_of, IsNumber, AreNumbered, HaveNumbers}
use Rattle.ur_invalidate.specs.PairClasses.{Classes, AreClassesOf}
use Rattle.ur_invalidate.specs.declared.pair_numbers.PairNumbers.{PairNumbers}
use Rattle.ur_invalidate.specs.Stages.{classes_at, constants_at, sides_at, read_at, IsApart, AreApart, AreWithin, AreNumbersOf}
use Rattle.ur_invalidate.proofs.Numbers.{cons_numbers, node_of_application, node_of_leaf, own, number_within}
use Rattle.ur_invalidate.proofs.Shapes.{one_symbol, one_parts, Shape, of_parts, of_none, shape}
use Rattle.ur_invalidate.proofs.Somes.{some_shape, symbol_is, all_by_members}
use Rattle.ur_invalidate.proofs.Transfer.{carried}
use Rattle.ur_sql.proofs.Members.{In, in_from_contains, contains_from_in, in_map, in_map_back, in_filter, in_from_filter, any_in, any_from}

abbrev classes_record : List ℕ → List ℕ → List (Value × ℕ) → List (ℕ × ℕ) → Bool → Classes
classes_record ks as' cs ss meet = record { keys = ks; args = as'; constants = cs; disequations = ss; null_meets_some = meet }

module _ (p : Pair) (leaves : List Leaf) (g : Graph) (constants : List (Value × ℕ))
    (numbered : AreNumbered (terms_of p) leaves g.nodes constants) (equated : HaveNumbers leaves g.nodes p.equations g.equations) where
  abbrev number : SqlTerm → Option ℕ
  number = number_of leaves g.nodes

  abbrev Has : SqlTerm → ℕ → Type 0
  Has a n = number a ≡ Some n

  abbrev StandsFor : ℕ → SqlTerm → Type 0
  StandsFor n a = number a ≡ Some n

  parts_numbered : (parts : List SqlTerm) (ns : List ℕ) → all_numbers (map number parts) ≡ Some ns → AllZip Has parts ns
  parts_numbered [] ns e = let none : [] ≡ ns = cc in subst (AllZip Has []) none tt
  parts_numbered (a ∷ parts) ns e =
      let r = cons_numbers (number a) (map number parts) ns e in
      subst (AllZip Has (a ∷ parts)) (sym (r.4)) (r.2, parts_numbered parts (r.1) (r.3))

  turned : (parts : List SqlTerm) (ns : List ℕ) → AllZip Has parts ns → AllZip StandsFor ns parts
  turned [] [] z = tt
  turned [] (n ∷ ns) z = absurd z
  turned (a ∷ parts) [] z = absurd z
  turned (a ∷ parts) (n ∷ ns) z = (z.0, turned parts ns (z.1))

  -- an application of terms is one of their numbers
  application_forth : (a : SqlTerm) (f : ℕ) (parts : List SqlTerm) → IsApplied p a f parts → (n : ℕ) × (ns : List ℕ) × Has a n × IsNode g n f ns × AllZip Has parts ns
  application_forth a f parts is = go (shape a)
    where
      mine : (n : ℕ) × Has a n
      mine = All-contains (λ b. (n : ℕ) × Has b n) (terms_of p) a numbered.each (is.0)

      go : Shape a → (n : ℕ) × (ns : List ℕ) × Has a n × IsNode g n f ns × AllZip Has parts ns
      go (of_none leaf) = let clash : Some (f, parts) ≡ None = sym (is.1) ∙ leaf.is in cc
      go (of_parts h qs its) =
          let r = node_of_application leaves g.nodes h (all_numbers (map number qs)) (mine.0) (sym (its.number leaves g.nodes) ∙ mine.1) in
          let symbol : h ≡ f = one_symbol a h f qs parts its.is (is.1) in
          let same : qs ≡ parts = one_parts a h f qs parts its.is (is.1) in
          (mine.0, r.0, mine.1, subst (λ k. slice_get g.nodes (mine.0) ≡ Some (Apply k (r.0))) symbol (r.2), subst (λ ps. AllZip Has ps (r.0)) same (parts_numbered qs (r.0) (r.1)))

  -- and back
  application_back : (n f : ℕ) (ns : List ℕ) → IsNode g n f ns → (a : SqlTerm) × (parts : List SqlTerm) × StandsFor n a × IsApplied p a f parts × AllZip StandsFor ns parts
  application_back n f ns is = go (shape (mine.0))
    where
      mine : (a : SqlTerm) × Contains (terms_of p) a × Has a n
      mine = numbered.back n f ns is

      go : Shape (mine.0) → (a : SqlTerm) × (parts : List SqlTerm) × StandsFor n a × IsApplied p a f parts × AllZip StandsFor ns parts
      go (of_none leaf) =
          let r = node_of_leaf leaves g.nodes (leaf_of (mine.0)) n (sym (leaf.number leaves g.nodes) ∙ mine.2) in
          let both : Some (Apply f ns) ≡ Some (Variable (r.1)) = sym is ∙ r.4 in
          let clash : Apply f ns ≡ Variable (r.1) = cc in
          cc
      go (of_parts h qs its) =
          let r = node_of_application leaves g.nodes h (all_numbers (map number qs)) n (sym (its.number leaves g.nodes) ∙ mine.2) in
          let both : Some (Apply h (r.0)) ≡ Some (Apply f ns) = sym (r.2) ∙ is in
          let node : Apply h (r.0) ≡ Apply f ns = cc in
          let symbol : h ≡ f = cc in
          let same : r.0 ≡ ns = cc in
          (mine.0, qs, mine.2, (mine.1, its.is ∙ ap (λ (k : ℕ). Some (k, qs)) symbol), subst (λ ms. AllZip StandsFor ms qs) same (turned qs (r.0) (parts_numbered qs (r.0) (r.1))))

  equation_forth : (es : List Equation) (qs : List (ℕ × ℕ)) → HaveNumbers leaves g.nodes es qs → (a b : SqlTerm) → In (a, b) es
      → (m : ℕ) × (n : ℕ) × Has a m × Has b n × In (m, n) qs
  equation_forth [] qs z a b i = absurd i
  equation_forth (e ∷ es) [] z a b i = absurd z
  equation_forth (e ∷ es) (q ∷ qs) z a b (inl same) =
      let left : e.0 ≡ a = ap (λ (x : Equation). x.0) same in
      let right : e.1 ≡ b = ap (λ (x : Equation). x.1) same in
      (q.0, q.1, subst (λ x. Has x (q.0)) left (z.0.0), subst (λ x. Has x (q.1)) right (z.0.1), inl refl)
  equation_forth (e ∷ es) (q ∷ qs) z a b (inr i) = let r = equation_forth es qs (z.1) a b i in (r.0, r.1, r.2, r.3, inr (r.4))

  equation_back : (es : List Equation) (qs : List (ℕ × ℕ)) → HaveNumbers leaves g.nodes es qs → (m n : ℕ) → In (m, n) qs
      → (a : SqlTerm) × (b : SqlTerm) × StandsFor m a × StandsFor n b × In (a, b) es
  equation_back [] [] z m n i = absurd i
  equation_back [] (q ∷ qs) z m n i = absurd z
  equation_back (e ∷ es) [] z m n i = absurd z
  equation_back (e ∷ es) (q ∷ qs) z m n (inl same) =
      let left : q.0 ≡ m = ap (λ (x : ℕ × ℕ). x.0) same in
      let right : q.1 ≡ n = ap (λ (x : ℕ × ℕ). x.1) same in
      (e.0, e.1, subst (λ x. Has (e.0) x) left (z.0.0), subst (λ x. Has (e.1) x) right (z.0.1), inl refl)
  equation_back (e ∷ es) (q ∷ qs) z m n (inr i) = let r = equation_back es qs (z.1) m n i in (r.0, r.1, r.2, r.3, inr (r.4))

  pub shares_class : (a b : SqlTerm) (m n : ℕ) → Has a m → Has b n → Follows g m n ↔ SharesClass p a b
  shares_class a b m n ha hb = (
    λ d. carried (IsNode g) g.equations (IsApplied p) p.equations StandsFor
        (λ k x y hx hy. own leaves g.nodes x y k hx hy) application_back
        (λ k l i. let r = equation_back p.equations g.equations equated k l (in_from_contains g.equations (k, l) i) in (r.0, r.1, r.2, r.3, contains_from_in p.equations (r.0, r.1) (r.4)))
        m n a b ha hb d,
    λ d. carried (IsApplied p) p.equations (IsNode g) g.equations Has
        (λ x k l hk hl. let same : Some k ≡ Some l = sym hk ∙ hl in cc) application_forth
        (λ x y i. let r = equation_forth p.equations g.equations equated x y (in_from_contains p.equations (x, y) i) in (r.0, r.1, r.2, r.3, contains_from_in g.equations (r.0, r.1) (r.4)))
        a b m n ha hb d,
  )

  -- the class of a term's number
  abbrev class_by : List ℕ → SqlTerm → ℕ
  class_by classes a = slice_index classes (unwrap_or (number a) 0)

  pub tells : (classes : List ℕ) → AreClasses g classes → TellsClasses p (λ a b. class_by classes a == class_by classes b)
  tells classes are a b ia ib =
      let x = All-contains (λ c. (n : ℕ) × Has c n) (terms_of p) a numbered.each ia in
      let y = All-contains (λ c. (n : ℕ) × Has c n) (terms_of p) b numbered.each ib in
      let here : class_by classes a ≡ slice_index classes (x.0) = ap (λ (o : Option ℕ). slice_index classes (unwrap_or o 0)) (x.1) in
      let there : class_by classes b ≡ slice_index classes (y.0) = ap (λ (o : Option ℕ). slice_index classes (unwrap_or o 0)) (y.1) in
      let told = are.exactly (x.0) (y.0) (number_within leaves g.nodes a (x.0) (x.1)) (number_within leaves g.nodes b (y.0) (y.1)) in
      let shares = shares_class a b (x.0) (y.0) (x.1) (y.1) in
      (λ e. shares.0 (told.0 (sym here ∙ eqb-true (class_by classes a) (class_by classes b) e ∙ there)), λ d. eq-eqb (class_by classes a) (class_by classes b) (here ∙ told.1 (shares.1 d) ∙ sym there))

  -- ---- the classes that a pattern is read off

  module _ (classes : List ℕ) where
    class_of_number : (a : SqlTerm) (n : ℕ) → Has a n → slice_index classes n ≡ class_by classes a
    class_of_number a n e = sym (ap (λ (o : Option ℕ). slice_index classes (unwrap_or o 0)) e)

    pub numbers_read : (term : ℕ → SqlTerm) (ks ns : List ℕ) → AllZip Has (map term ks) ns → classes_at classes ns ≡ map (λ k. class_by classes (term k)) ks
    numbers_read term [] [] z = refl
    numbers_read term [] (n ∷ ns) z = absurd z
    numbers_read term (k ∷ ks) [] z = absurd z
    numbers_read term (k ∷ ks) (n ∷ ns) z = ap₂ (λ (c : ℕ) (cs : List ℕ). c ∷ cs) (class_of_number (term k) n (z.0)) (numbers_read term ks ns (z.1))

    pub constants_read : (cs : List (Value × ℕ)) → AllByRecursion (λ c. Has (t.Constant (c.0)) (c.1)) cs
        → constants_at classes cs ≡ map (λ (c : Value). (c, class_by classes (t.Constant c))) (map (λ (c : Value × ℕ). c.0) cs)
    constants_read [] all = refl
    constants_read (c ∷ cs) all = ap₂ (λ (k : ℕ) (ks : List (Value × ℕ)). (c.0, k) ∷ ks) (class_of_number (t.Constant (c.0)) (c.1) (all.0)) (constants_read cs (all.1))

    pub sides_read : (es : List Equation) (qs : List (ℕ × ℕ)) → HaveNumbers leaves g.nodes es qs → sides_at classes qs ≡ map (λ (d : Equation). (class_by classes (d.0), class_by classes (d.1))) es
    sides_read [] [] z = refl
    sides_read [] (q ∷ qs) z = absurd z
    sides_read (e ∷ es) [] z = absurd z
    sides_read (e ∷ es) (q ∷ qs) z =
        ap₂ (λ (s : ℕ × ℕ) (ss : List (ℕ × ℕ)). s ∷ ss) (ap₂ (λ (m n : ℕ). (m, n)) (class_of_number (e.0) (q.0) (z.0.0)) (class_of_number (e.1) (q.1) (z.0.1))) (sides_read es qs (z.1))

    -- ---- NULL beside SOME

    abbrev meets : Value → Bool
    meets c = is_null c && list_any (λ s. class_by classes (t.Constant c) == class_by classes s) (somes_of p)

    constant_has : (x : Value × ℕ) → In x constants → Has (t.Constant (x.0)) (x.1)
    constant_has x i = All-contains (λ (y : Value × ℕ). Has (t.Constant (y.0)) (y.1)) constants x numbered.constants_have (contains_from_in constants x i)

    -- a NULL that shares its class with a SOME of the pair is not apart
    none_meets : AreClasses g classes → All (IsApart g) constants → list_any meets (constants_of p) ≡ true → ⊥
    none_meets are apart e =
        let c = any_in meets (constants_of p) e in
        let parts = and_parts (is_null (c.0)) (list_any (λ s. class_by classes (t.Constant (c.0)) == class_by classes s) (somes_of p)) (c.2) in
        let s = any_in (λ s. class_by classes (t.Constant (c.0)) == class_by classes s) (somes_of p) (parts.1) in
        let there = in_filter is_some (terms_of p) (s.0) (s.1) in
        let inside = some_shape (s.0) (there.1) in
        let x = in_map_back (λ (y : Value × ℕ). y.0) constants (c.0) (subst (λ (cs : List Value). In (c.0) cs) (sym numbered.constants_are) (c.1)) in
        let null : Has (t.Constant (c.0)) ((x.0).1) = subst (λ (y : Value). Has (t.Constant y) ((x.0).1)) (x.2) (constant_has (x.0) (x.1)) in
        let node = application_forth (s.0) some_symbol (inside.0 ∷ []) (contains_from_in (terms_of p) (s.0) (there.0), inside.1) in
        let part = one_number (inside.0) (node.1) (node.4) in
        let told = are.exactly ((x.0).1) (node.0) (number_within leaves g.nodes (t.Constant (c.0)) ((x.0).1) null)
        (number_within leaves g.nodes (s.0) (node.0) (node.2)) in
        let same : slice_index classes ((x.0).1) ≡ slice_index classes (node.0) =
        class_of_number (t.Constant (c.0)) ((x.0).1) null ∙ eqb-true (class_by classes (t.Constant (c.0))) (class_by classes (s.0)) (s.2) ∙ sym
        (class_of_number (s.0) (node.0) (node.2)) in
        let some : MeetsSome g ((x.0).1) = (node.0, part.0, subst (IsNode g (node.0) some_symbol) (part.1) (node.3), told.0 same) in
        All-contains (IsApart g) constants (x.0) apart (contains_from_in constants (x.0) (x.1)) (ap is_null (x.2) ∙ parts.0) some
      where
        one_number : (a : SqlTerm) (ns : List ℕ) → AllZip Has (a ∷ []) ns → (n : ℕ) × (ns ≡ n ∷ [])
        one_number a [] z = absurd z
        one_number a (n ∷ []) z = (n, refl)
        one_number a (n ∷ m ∷ ns) z = absurd (z.1)

    -- and where none does, each is apart
    each_apart : AreClasses g classes → (list_any meets (constants_of p) ≡ true → ⊥) → All (IsApart g) constants
    each_apart are none = All-from_recursion (IsApart g) constants (all_by_members (IsApart g) constants apart)
      where
        apart : (x : Value × ℕ) → In x constants → IsApart g x
        apart x i null some =
            let term = application_back (some.0) some_symbol (some.1 ∷ []) (some.2) in
            let there = in_from_filter is_some (terms_of p) (term.0) (in_from_contains (terms_of p) (term.0) (term.3.0))
            (symbol_is (term.0) (term.1) (term.3.1)) in
            let told = are.exactly (x.1) (some.0) (number_within leaves g.nodes (t.Constant (x.0)) (x.1) (constant_has x i))
            (number_within leaves g.nodes (term.0) (some.0) (term.2)) in
            let same = eq-eqb (class_by classes (t.Constant (x.0))) (class_by classes (term.0))
            (sym (class_of_number (t.Constant (x.0)) (x.1) (constant_has x i)) ∙ told.1 (some.3) ∙ class_of_number (term.0) (some.0) (term.2)) in
            let mine : In (x.0) (constants_of p) = subst (λ (cs : List Value). In (x.0) cs) numbered.constants_are
            (in_map (λ (y : Value × ℕ). y.0) constants x i) in
            none (any_from meets (constants_of p) (x.0) mine
            (and_from (is_null (x.0)) (list_any (λ s. class_by classes (t.Constant (x.0)) == class_by classes s) (somes_of p)) null
            (any_from (λ s. class_by classes (t.Constant (x.0)) == class_by classes s) (somes_of p) (term.0) there same)))

    met : AreClasses g classes → (apart : Bool) → IsTrue apart ↔ All (IsApart g) constants → not apart ≡ list_any meets (constants_of p)
    met are apart told = go apart (list_any meets (constants_of p)) refl refl
      where
        go : (a b : Bool) → apart ≡ a → list_any meets (constants_of p) ≡ b → not apart ≡ list_any meets (constants_of p)
        go true true e f = absurd (none_meets are (told.0 e) f)
        go true false e f = ap not e ∙ sym f
        go false true e f = ap not e ∙ sym f
        go false false e f = absurd (true≢false (sym (told.1 (each_apart are (λ h. true≢false (sym h ∙ f)))) ∙ e))

    -- what is read at the numbers of a pair's terms are its classes
    pub are_classes : AreClasses g classes → (keys args : List ℕ) (sides : List (ℕ × ℕ))
        → AllZip Has (key_terms p.keys) keys → AllZip Has (arg_terms p.args) args → HaveNumbers leaves g.nodes p.disequations sides
        → (apart : Bool) → IsTrue apart ↔ All (IsApart g) constants
        → AreClassesOf p (classes_record (classes_at classes keys) (classes_at classes args) (constants_at classes constants) (sides_at classes sides)
        (not apart))
    are_classes are keys args sides key_numbers arg_numbers side_numbers apart told = record {
      class = class_by classes;
      tells = tells classes are;
      are = read
          (numbers_read t.Key (range_with_len 0 p.keys) keys key_numbers)
          (numbers_read t.Arg (range_with_len 0 p.args) args arg_numbers)
          (constants_read constants (recursion_from_All (λ c. Has (t.Constant (c.0)) (c.1)) constants numbered.constants_have) ∙ ap (map (λ (c : Value). (c, class_by classes (t.Constant c)))) numbered.constants_are)
          (sides_read p.disequations sides side_numbers)
          (met are apart told);
    }
      where
        read : {ks ks' as' bs : List ℕ} {cs ds : List (Value × ℕ)} {ss us : List (ℕ × ℕ)} {m n : Bool} → ks ≡ ks' → as' ≡ bs → cs ≡ ds → ss ≡ us → m ≡ n
            → classes_record ks as' cs ss m ≡ classes_record ks' bs ds us n
        read e f h i j = λ x. classes_record (e x) (f x) (h x) (i x) (j x)

-- ---- all numbers have classes

terms_within : (leaves : List Leaf) (nodes : List TermNode) (size : ℕ) → size ≡ length nodes → (ts : List SqlTerm) (ns : List ℕ) → AllZip (IsNumber leaves nodes) ts ns → AllByRecursion (λ n. n < size) ns
terms_within leaves nodes size is [] [] z = tt
terms_within leaves nodes size is [] (n ∷ ns) z = absurd z
terms_within leaves nodes size is (a ∷ ts) [] z = absurd z
terms_within leaves nodes size is (a ∷ ts) (n ∷ ns) z =
    let small = number_within leaves nodes a n (z.0) in (omega (arith, small, is), terms_within leaves nodes size is ts ns (z.1))

sides_within : (leaves : List Leaf) (nodes : List TermNode) (size : ℕ) → size ≡ length nodes → (es : List Equation) (qs : List (ℕ × ℕ)) → HaveNumbers leaves nodes es qs → AllByRecursion (λ (s : ℕ × ℕ). (s.0 < size) × (s.1 < size)) qs
sides_within leaves nodes size is [] [] z = tt
sides_within leaves nodes size is [] (q ∷ qs) z = absurd z
sides_within leaves nodes size is (e ∷ es) [] z = absurd z
sides_within leaves nodes size is (e ∷ es) (q ∷ qs) z =
    let left = number_within leaves nodes (e.0) (q.0) (z.0.0) in
    let right = number_within leaves nodes (e.1) (q.1) (z.0.1) in
    ((omega (arith, left, is), omega (arith, right, is)), sides_within leaves nodes size is es qs (z.1))

pub all_within : (p : Pair) (numbers : PairNumbers) (classes : List ℕ) → AreNumbersOf p numbers → length classes ≡ length numbers.numbering.closure.nodes → AreWithin classes numbers
all_within p numbers classes are size = (
  All-from_recursion (λ n. n < length classes) numbers.keys (terms_within numbers.numbering.leaves.keys numbers.numbering.closure.nodes (length classes) size (key_terms p.keys) numbers.keys are.keys),
  All-from_recursion (λ n. n < length classes) numbers.args (terms_within numbers.numbering.leaves.keys numbers.numbering.closure.nodes (length classes) size (arg_terms p.args) numbers.args are.args),
  All-weaker (λ (c : Value × ℕ). IsNumber numbers.numbering.leaves.keys numbers.numbering.closure.nodes (t.Constant (c.0)) (c.1)) (λ (c : Value × ℕ). c.1 < length classes)
      (λ c h. let small = number_within numbers.numbering.leaves.keys numbers.numbering.closure.nodes (t.Constant (c.0)) (c.1) h in omega (arith, small, size)) numbers.numbering.constants are.stands.numbered.constants_have,
  All-from_recursion (λ (s : ℕ × ℕ). (s.0 < length classes) × (s.1 < length classes)) numbers.sides (sides_within numbers.numbering.leaves.keys numbers.numbering.closure.nodes (length classes) size p.disequations numbers.sides are.sides),
)

pub constants_within : (p : Pair) (numbers : PairNumbers) → AreNumbersOf p numbers →
    All (λ c. HasTerm numbers.numbering.closure (c.1)) numbers.numbering.constants
constants_within p numbers are =
    All-weaker (λ (c : Value × ℕ). IsNumber numbers.numbering.leaves.keys numbers.numbering.closure.nodes (t.Constant (c.0)) (c.1))
    (λ (c : Value × ℕ). HasTerm numbers.numbering.closure (c.1))
    (λ c h. number_within numbers.numbering.leaves.keys numbers.numbering.closure.nodes (t.Constant (c.0)) (c.1) h) numbers.numbering.constants
    are.stands.numbered.constants_have

pub pair_classes : (p : Pair) (numbers : PairNumbers) (classes : List ℕ) → AreNumbersOf p numbers → AreClasses numbers.numbering.closure classes
    → (apart : Bool) → IsTrue apart ↔ AreApart numbers.numbering → AreClassesOf p (read_at classes numbers (not apart))
pair_classes p numbers classes are tell apart told =
    are_classes p numbers.numbering.leaves.keys numbers.numbering.closure numbers.numbering.constants are.stands.numbered are.stands.equated classes tell
    numbers.keys numbers.args numbers.sides are.keys are.args are.sides apart told

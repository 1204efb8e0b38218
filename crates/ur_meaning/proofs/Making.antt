-- How what is made of parts goes together.
use Rattle.std.proofs.Common.{◌≡◌, ℕ, pos, suc, ◌+◌, ◌≤◌, ◌<◌, List, [], ◌∷◌, ◌++◌, Ok, Err, refl, sym, ap, subst, ◌∙◌, arith, append_assoc, append-nil}
use Rattle.std.specs.List.{AllByRecursion}
use Rattle.ur_terms.specs.declared.term.Term.{Term}
use Rattle.ur_terms.specs.declared.term.Term.TheVariants as t
use Rattle.ur_terms.specs.Shape.{nodes, depth}
use Rattle.ur_meaning.specs.Form.{Language, same_form, no_form, parts}
use Rattle.ur_meaning.specs.Unfolds as u
use Rattle.ur_meaning.specs.Unfolds.{Unfolds, Becomes, UnfoldAll, stuck_term}
use Rattle.ur_meaning.proofs.Sizes.{nodes-If, depth-If}
use Rattle.ur_meaning.specs.Instances as n
use Rattle.ur_meaning.specs.Instances.{Among, Calls, AllAtLeast, Nests, own_nodes, own_levels}
use Rattle.ur_meaning.proofs.Parts.{all_more, with_last, known_all}
use Rattle.ur_meaning.specs.declared.halt.Halt.{Halt}
use Rattle.ur_meaning.specs.declared.halt.Halt.TheVariants as halt
use Rattle.ur_meaning.specs.Entering.{Enters, EntersStuck}
use Rattle.ur_meaning.specs.Making.{State, state, list_nodes, AreWithin, CalledIn, Grown, Made, Full, TooMany, TooDeep, CallsLarge, Halted}
use Rattle.ur_meaning.specs.Opening as o
use Rattle.ur_meaning.specs.Opening.{Sames}

-- ---- lists of expressions

among_left : {A : Type 0} (xs ys : List A) (x : A) → Among xs x → Among (xs ++ ys) x
among_left _ ys _ (n.first x xs) = n.first x (xs ++ ys)
among_left _ ys _ (n.later x y xs h) = n.later x y (xs ++ ys) (among_left xs ys y h)

among_right : {A : Type 0} (xs ys : List A) (y : A) → Among ys y → Among (xs ++ ys) y
among_right [] ys y h = h
among_right (x ∷ xs) ys y h = n.later x y (xs ++ ys) (among_right xs ys y h)

abbrev pub head_of : {A : Type 0} → A → List A → A
head_of x [] = x
head_of x (a ∷ l) = a

abbrev pub tail_of : {A : Type 0} → List A → List A
tail_of [] = []
tail_of (a ∷ l) = l

pub nothing_in : {A : Type 0} (l : List A) (x : A) → l ≡ [] → Among l x → ⊥
nothing_in _ _ e (n.first x xs) = absurd (cc)
nothing_in _ _ e (n.later z x xs h) = absurd (cc)

module _ {I K : Type 0} (p : Language I K) where
  call_left : (is js : List I) (k : K) → CalledIn p is k → CalledIn p (is ++ js) k
  call_left is js k c = record { item = c.item; among = among_left is js c.item c.among; calls = c.calls }

  call_right : (is js : List I) (k : K) → CalledIn p js k → CalledIn p (is ++ js) k
  call_right is js k c = record { item = c.item; among = among_right is js c.item c.among; calls = c.calls }

  large_in : (large : K → Type 0) (is js : List I) → ((k : K) → CalledIn p is k → CalledIn p js k) → CallsLarge p large is → CallsLarge p large js
  large_in large is js go c = record { instance = c.instance; called = go c.instance c.called; is_large = c.is_large }

  calls_left : (is js : List I) (ks : List K) → AllByRecursion (CalledIn p is) ks → AllByRecursion (CalledIn p (is ++ js)) ks
  calls_left is js [] h = tt
  calls_left is js (k ∷ ks) h = (call_left is js k h.0, calls_left is js ks h.1)

  calls_right : (is js : List I) (ks : List K) → AllByRecursion (CalledIn p js) ks → AllByRecursion (CalledIn p (is ++ js)) ks
  calls_right is js [] h = tt
  calls_right is js (k ∷ ks) h = (call_right is js k h.0, calls_right is js ks h.1)

  all_both : (is : List I) (ks ls : List K) → AllByRecursion (CalledIn p is) ks → AllByRecursion (CalledIn p is) ls → AllByRecursion (CalledIn p is) (ks ++ ls)
  all_both is [] ls h g = g
  all_both is (k ∷ ks) ls h g = (h.0, all_both is ks ls h.1 g)

  grown_then : (is js : List I) (a b c : List K) → Grown p is a b → Grown p js b c → Grown p (is ++ js) a c
  grown_then is js a b c g h = record {
    more = g.more ++ h.more;
    grows = h.grows ∙ ap (λ l. l ++ h.more) g.grows ∙ append_assoc a g.more h.more;
    reasons = all_both (is ++ js) g.more h.more (calls_left is js g.more g.reasons) (calls_right is js h.more h.reasons);
  }

  grown_left : (is js : List I) (a b : List K) → Grown p is a b → Grown p (is ++ js) a b
  grown_left is js a b g = record { more = g.more; grows = g.grows; reasons = calls_left is js g.more g.reasons }

  -- what is unfolded stays so when the numbering grows
  pub later_too : (is js : List I) (ts : List Term) (old new : List K) → Grown p js old new → UnfoldAll p old is ts → UnfoldAll p new is ts
  later_too is js ts old new g w = subst (λ l. UnfoldAll p l is ts) (sym g.grows) (all_more p old g.more is ts w)

  nodes_last : (ts : List Term) (a : Term) → list_nodes (ts ++ a ∷ []) ≡ list_nodes ts + (nodes a + 0)
  nodes_last [] a = omega arith
  nodes_last (b ∷ ts) a = ap (λ k. nodes b + k) (nodes_last ts a) ∙ omega arith

  within_last : (levels : ℕ) (ts : List Term) (a : Term) → AreWithin levels ts → depth a ≤ levels → AreWithin levels (ts ++ a ∷ [])
  within_last levels [] a h k = (k, tt)
  within_last levels (b ∷ ts) a h k = (h.0, within_last levels ts a h.1 k)

  -- one more expression
  pub then_one : (start mid new : State K) (levels : ℕ) (is : List I) (ts : List Term) (i : I) (a : Term) → Made p start levels is mid ts
      → Made p mid levels (i ∷ []) new (a ∷ []) → Made p start levels (is ++ i ∷ []) new (ts ++ a ∷ [])
  then_one start mid new levels is ts i a m o = record {
    grown = grown_then is (i ∷ []) start.called mid.called new.called m.grown o.grown;
    unfolds = with_last p new.called is i ts a (later_too is (i ∷ []) ts mid.called new.called o.grown m.unfolds) (only o.unfolds);
    nodes = omega (arith, nodes_last ts a, m.nodes, o.nodes);
    within = within_last levels ts a m.within o.within.0;
  }
    where
      only : UnfoldAll p new.called (i ∷ []) (a ∷ []) → Unfolds p new.called i a
      only (u.one_more _ _ _ _ w v) = w

  all_left : (is js : List I) (m k : ℕ) → AllAtLeast p is m → AllAtLeast p js k → AllAtLeast p (is ++ js) (m + k)
  all_left _ js _ k n.no_part g = subst (AllAtLeast p js) (omega arith) g
  all_left _ js _ k (n.part_more i rest m l h r) g =
      subst (AllAtLeast p (i ∷ rest ++ js)) (omega arith) (n.part_more i (rest ++ js) m (l + k) h (all_left rest js l k r g))

  all_unknown : (is : List I) → AllAtLeast p is 0
  all_unknown [] = n.no_part
  all_unknown (i ∷ is) = n.part_more i is 0 0 (n.unknown i) (all_unknown is)

  deep_right : (is js : List I) (levels : ℕ) → TooDeep p js levels → TooDeep p (is ++ js) levels
  deep_right is js levels t = record { item = t.item; among = among_right is js t.item t.among; depth = t.depth; deeper = t.deeper; nests = t.nests }

  deep_left : (is js : List I) (levels : ℕ) → TooDeep p is levels → TooDeep p (is ++ js) levels
  deep_left is js levels t = record { item = t.item; among = among_left is js t.item t.among; depth = t.depth; deeper = t.deeper; nests = t.nests }

  -- a later expression halts
  pub then_halts : (large : K → Type 0) (named : ℕ → K → Type 0) (start mid new : State K) (levels : ℕ) (is : List I) (ts : List Term) (i : I) (h : Halt) → Made p start levels is mid ts
      → Halted p large named mid levels (i ∷ []) new h → Halted p large named start levels (is ++ i ∷ []) new h
  then_halts large named start mid new levels is ts i halt.Nodes m g = record {
    many = list_nodes ts + g.many;
    more = omega (arith, m.nodes, g.more);
    known = all_left is (i ∷ []) (list_nodes ts) g.many (known_all p mid.called is ts m.unfolds) g.known;
  }
  then_halts large named start mid new levels is ts i halt.Nesting m g = deep_right is (i ∷ []) levels g
  then_halts large named start mid new levels is ts i (halt.Instances name) m g = record {
    grown = grown_then is (i ∷ []) start.called mid.called new.called m.grown g.grown;
    full = g.full;
    one = g.one;
    called = call_right is (i ∷ []) g.one g.called;
    unnumbered = g.unnumbered;
    is_named = g.is_named;
  }
  then_halts large named start mid new levels is ts i halt.Large m g = large_in large (i ∷ []) (is ++ i ∷ []) (call_right is (i ∷ [])) g
  then_halts large named start mid new levels is ts i halt.Memory m g = tt

  -- what halts, halts before the others
  pub halts_before : (large : K → Type 0) (named : ℕ → K → Type 0) (start new : State K) (levels : ℕ) (is js : List I) (h : Halt) → Halted p large named start levels is new h → Halted p large named start levels (is ++ js) new h
  halts_before large named start new levels is js halt.Nodes g = record { many = g.many + 0; more = omega (arith, g.more); known = all_left is js g.many 0 g.known (all_unknown js) }
  halts_before large named start new levels is js halt.Nesting g = deep_left is js levels g
  halts_before large named start new levels is js (halt.Instances name) g = record {
    grown = grown_left is js start.called new.called g.grown;
    full = g.full;
    one = g.one;
    called = call_left is js g.one g.called;
    unnumbered = g.unnumbered;
    is_named = g.is_named;
  }
  halts_before large named start new levels is js halt.Large g = large_in large is (is ++ js) (call_left is js) g
  halts_before large named start new levels is js halt.Memory g = tt

  pub grown_and : (is : List I) (a b c : List K) → Grown p is a b → Grown p is b c → Grown p is a c
  grown_and is a b c g h = record {
    more = g.more ++ h.more;
    grows = h.grows ∙ ap (λ l. l ++ h.more) g.grows ∙ append_assoc a g.more h.more;
    reasons = all_both is g.more h.more g.reasons h.reasons;
  }

  pub grown_not : (is : List I) (a : List K) → Grown p is a a
  grown_not is a = record { more = []; grows = sym (append-nil a); reasons = tt }

  -- ---- a node

  part_calls : (i : I) (k : K) → CalledIn p (parts (p.form i)) k → CalledIn p (i ∷ []) k
  part_calls i k c = record { item = i; among = n.first i []; calls = n.within i c.item k c.among c.calls }

  parts_call : (i : I) (ks : List K) → AllByRecursion (CalledIn p (parts (p.form i))) ks → AllByRecursion (CalledIn p (i ∷ [])) ks
  parts_call i [] h = tt
  parts_call i (k ∷ ks) h = (part_calls i k h.0, parts_call i ks h.1)

  pub grown_at : (i : I) (a b : List K) → Grown p (parts (p.form i)) a b → Grown p (i ∷ []) a b
  grown_at i a b g = record { more = g.more; grows = g.grows; reasons = parts_call i g.more g.reasons }

  -- The node of an expression whose parts are made.
  pub node_made : (i : I) (called : List K) (room rest levels within : ℕ) (new : State K) (ts : List Term) (a : Term) → Enters room levels rest (Ok within)
      → Made p (state called rest) within (parts (p.form i)) new ts → Becomes p new.called (p.form i) a → nodes a ≡ suc (list_nodes ts)
      → (AreWithin within ts → depth a ≤ suc within) → Made p (state called room) levels (i ∷ []) new (a ∷ [])
  node_made i called room rest levels within new ts a enter m b count deep =
      let d : depth a ≤ suc within = deep m.within in
      record {
        grown = grown_at i called new.called m.grown;
        unfolds = u.one_more i [] a [] (u.by_form i a b) u.no_item;
        nodes = omega (arith, count, m.nodes, enter.1);
        within = (subst (λ l. depth a ≤ l) (sym enter.0) d, tt);
      }

  pub full_at : (named : ℕ → K → Type 0) (i : I) (a b : List K) (name : ℕ) → Full p named (parts (p.form i)) a b name → Full p named (i ∷ []) a b name
  full_at named i a b name t =
      record { grown = grown_at i a b t.grown; full = t.full; one = t.one; called = part_calls i t.one t.called; unnumbered = t.unnumbered; is_named = t.is_named }

  -- A node of which a part halts.
  pub node_halts : (large : K → Type 0) (named : ℕ → K → Type 0) (i : I) (called : List K) (room rest levels within : ℕ) (new : State K) (h : Halt) → own_nodes (p.form i) ≡ 1 → own_levels (p.form i) ≡ 1
      → Enters room levels rest (Ok within) → Halted p large named (state called rest) within (parts (p.form i)) new h → Halted p large named (state called room) levels (i ∷ []) new h
  node_halts large named i called room rest levels within new halt.Nodes one two enter g =
      record { many = own_nodes (p.form i) + g.many + 0; more = omega (arith, enter.1, one, g.more); known = n.part_more i [] _ 0 (n.known i g.many g.known) n.no_part }
  node_halts large named i called room rest levels within new halt.Nesting one two enter g =
      record {
        item = i;
        among = n.first i [];
        depth = own_levels (p.form i) + g.depth;
        deeper = omega (arith, enter.0, two, g.deeper);
        nests = n.within i g.item g.depth g.among g.nests;
      }
  node_halts large named i called room rest levels within new (halt.Instances name) one two enter g = full_at named i called new.called name g
  node_halts large named i called room rest levels within new halt.Large one two enter g = large_in large (parts (p.form i)) (i ∷ []) (part_calls i) g
  node_halts large named i called room rest levels within new halt.Memory one two enter g = tt

  too_many : (i : I) (start : State K) → start.room < own_nodes (p.form i) → TooMany p (i ∷ []) start
  too_many i start h = record { many = own_nodes (p.form i) + 0 + 0; more = omega (arith, h); known = n.part_more i [] _ 0 (n.known i 0 (all_unknown (parts (p.form i)))) n.no_part }

  too_deep : (i : I) (levels : ℕ) → levels < own_levels (p.form i) → TooDeep p (i ∷ []) levels
  too_deep i levels h = record { item = i; among = n.first i []; depth = own_levels (p.form i); deeper = h; nests = n.itself i }

  -- There is no room for a node.
  pub no_node : (large : K → Type 0) (named : ℕ → K → Type 0) (i : I) (new : State K) (called : List K) (room rest levels : ℕ) (h : Halt) → own_nodes (p.form i) ≡ 1 → own_levels (p.form i) ≡ 1
      → Enters room levels rest (Err h) → Halted p large named (state called room) levels (i ∷ []) new h
  no_node large named i new called room rest levels halt.Nodes one two enter = too_many i (state called room) (omega (arith, enter, one))
  no_node large named i new called room rest levels halt.Nesting one two enter = too_deep i levels (omega (arith, enter, two))
  no_node large named i new called room rest levels (halt.Instances name) one two enter = absurd enter
  no_node large named i new called room rest levels halt.Large one two enter = absurd enter
  no_node large named i new called room rest levels halt.Memory one two enter = tt

  -- ---- what has no form

  -- There is no room for the term of what has no form.
  pub no_stuck : (large : K → Type 0) (named : ℕ → K → Type 0) (i : I) (new : State K) (called : List K) (room rest levels : ℕ) (h : Halt) → p.form i ≡ no_form → EntersStuck room levels rest (Err h)
      → Halted p large named (state called room) levels (i ∷ []) new h
  no_stuck large named i new called room rest levels halt.Nodes e enter = too_many i (state called room) (omega (arith, enter, ap own_nodes e))
  no_stuck large named i new called room rest levels halt.Nesting e enter = too_deep i levels (omega (arith, enter, ap own_levels e))
  no_stuck large named i new called room rest levels (halt.Instances name) e enter = absurd enter
  no_stuck large named i new called room rest levels halt.Large e enter = absurd enter
  no_stuck large named i new called room rest levels halt.Memory e enter = tt

  pub stuck_made : (i : I) (called : List K) (room rest levels : ℕ) (a : Term) → p.form i ≡ no_form → EntersStuck room levels rest (Ok tt) → a ≡ stuck_term
      → Made p (state called room) levels (i ∷ []) (state called rest) (a ∷ [])
  stuck_made i called room rest levels a e enter is =
      let count : nodes a ≡ 4 = ap nodes is ∙ nodes-If (t.Int (pos 0)) (t.Int (pos 0)) (t.Int (pos 0)) in
      let deep : depth a ≡ 2 = ap depth is ∙ depth-If (t.Int (pos 0)) (t.Int (pos 0)) (t.Int (pos 0)) in
      record {
        grown = grown_not (i ∷ []) called;
        unfolds = u.one_more i [] a [] (u.by_form i a (subst (Becomes p called (p.form i)) (sym is) (subst (λ f. Becomes p called f stuck_term) (sym e) u.nothing))) u.no_item;
        nodes = omega (arith, count, enter.1);
        within = (omega (arith, deep, enter.0), tt);
      }

  -- ---- what is the same

  only_item : {A : Type 0} (P : A → Type 0) (l : List A) (i x : A) → l ≡ i ∷ [] → Among l x → P x → P i
  only_item P _ i _ e (n.first x xs) h = subst P (ap (head_of x) e) h
  only_item P _ i _ e (n.later z x xs g) h = absurd (nothing_in xs x (ap tail_of e) g)

  call_same : (i j : I) (k : K) → p.form i ≡ same_form j → CalledIn p (j ∷ []) k → CalledIn p (i ∷ []) k
  call_same i j k e c = record {
    item = i;
    among = n.first i [];
    calls = n.within i j k (subst (λ f. Among (parts f) j) (sym e) (n.first j [])) (only_item (λ x. Calls p x k) (j ∷ []) j c.item refl c.among c.calls);
  }

  calls_same : (i j : I) (ks : List K) → p.form i ≡ same_form j → AllByRecursion (CalledIn p (j ∷ [])) ks → AllByRecursion (CalledIn p (i ∷ [])) ks
  calls_same i j [] e h = tt
  calls_same i j (k ∷ ks) e h = (call_same i j k e h.0, calls_same i j ks e h.1)

  grown_same : (i j : I) (a b : List K) → p.form i ≡ same_form j → Grown p (j ∷ []) a b → Grown p (i ∷ []) a b
  grown_same i j a b e g = record { more = g.more; grows = g.grows; reasons = calls_same i j g.more e g.reasons }

  full_same : (named : ℕ → K → Type 0) (i j : I) (a b : List K) (name : ℕ) → p.form i ≡ same_form j → Full p named (j ∷ []) a b name → Full p named (i ∷ []) a b name
  full_same named i j a b name e g =
      record { grown = grown_same i j a b e g.grown; full = g.full; one = g.one; called = call_same i j g.one e g.called; unnumbered = g.unnumbered; is_named = g.is_named }

  large_same : (large : K → Type 0) (i j : I) → p.form i ≡ same_form j → CallsLarge p large (j ∷ []) → CallsLarge p large (i ∷ [])
  large_same large i j e = large_in large (j ∷ []) (i ∷ []) (λ k. call_same i j k e)

  at_same : (i j : I) (m : ℕ) → p.form i ≡ same_form j → AllAtLeast p (j ∷ []) m → AllAtLeast p (i ∷ []) m
  at_same i j m e g =
      subst (AllAtLeast p (i ∷ [])) (omega (arith, ap own_nodes e)) (n.part_more i [] (own_nodes (p.form i) + m) 0 (n.known i m (subst (λ f. AllAtLeast p (parts f) m) (sym e) g)) n.no_part)

  unfold_same : (i j : I) (a : Term) (l : List K) → p.form i ≡ same_form j → Unfolds p l j a → Unfolds p l i a
  unfold_same i j a l e w = u.by_form i a (subst (λ f. Becomes p l f a) (sym e) (u.same j a w))

  only : (i : I) (a : Term) (l : List K) → UnfoldAll p l (i ∷ []) (a ∷ []) → Unfolds p l i a
  only i a l (u.one_more _ _ _ _ w v) = w

  made_same : (i j : I) (start new : State K) (levels : ℕ) (a : Term) → p.form i ≡ same_form j → Made p start levels (j ∷ []) new (a ∷ []) → Made p start levels (i ∷ []) new (a ∷ [])
  made_same i j start new levels a e m = record {
    grown = grown_same i j start.called new.called e m.grown;
    unfolds = u.one_more i [] a [] (unfold_same i j a new.called e (only j a new.called m.unfolds)) u.no_item;
    nodes = m.nodes;
    within = m.within;
  }

  deep_same : (i j : I) (levels : ℕ) → p.form i ≡ same_form j → TooDeep p (j ∷ []) levels → TooDeep p (i ∷ []) levels
  deep_same i j levels e t = record {
    item = i;
    among = n.first i [];
    depth = own_levels (p.form i) + t.depth;
    deeper = omega (arith, t.deeper, ap own_levels e);
    nests = n.within i j t.depth (subst (λ f. Among (parts f) j) (sym e) (n.first j [])) (only_item (λ x. Nests p x t.depth) (j ∷ []) j t.item refl t.among t.nests);
  }

  halted_same : (large : K → Type 0) (named : ℕ → K → Type 0) (i j : I) (start new : State K) (levels : ℕ) (h : Halt) → p.form i ≡ same_form j → Halted p large named start levels (j ∷ []) new h → Halted p large named start levels (i ∷ []) new h
  halted_same large named i j start new levels halt.Nodes e g = record { many = g.many; more = g.more; known = at_same i j g.many e g.known }
  halted_same large named i j start new levels halt.Nesting e g = deep_same i j levels e g
  halted_same large named i j start new levels (halt.Instances name) e g = full_same named i j start.called new.called name e g
  halted_same large named i j start new levels halt.Large e g = large_same large i j e g
  halted_same large named i j start new levels halt.Memory e g = tt

  pub grown_sames : (i j : I) (a b : List K) → Sames p i j → Grown p (j ∷ []) a b → Grown p (i ∷ []) a b
  grown_sames _ _ a b (o.itself i) g = g
  grown_sames _ _ a b (o.through i j k e s) g = grown_same i j a b e (grown_sames j k a b s g)

  pub full_sames : (named : ℕ → K → Type 0) (i j : I) (a b : List K) (name : ℕ) → Sames p i j → Full p named (j ∷ []) a b name → Full p named (i ∷ []) a b name
  full_sames named _ _ a b name (o.itself i) g = g
  full_sames named _ _ a b name (o.through i j k e s) g = full_same named i j a b name e (full_sames named j k a b name s g)

  pub large_sames : (large : K → Type 0) (i j : I) → Sames p i j → CallsLarge p large (j ∷ []) → CallsLarge p large (i ∷ [])
  large_sames large _ _ (o.itself i) g = g
  large_sames large _ _ (o.through i j k e s) g = large_same large i j e (large_sames large j k s g)

  pub made_sames : (i j : I) (start new : State K) (levels : ℕ) (a : Term) → Sames p i j → Made p start levels (j ∷ []) new (a ∷ []) → Made p start levels (i ∷ []) new (a ∷ [])
  made_sames _ _ start new levels a (o.itself i) m = m
  made_sames _ _ start new levels a (o.through i j k e s) m = made_same i j start new levels a e (made_sames j k start new levels a s m)

  pub halted_sames : (large : K → Type 0) (named : ℕ → K → Type 0) (i j : I) (start new : State K) (levels : ℕ) (h : Halt) → Sames p i j → Halted p large named start levels (j ∷ []) new h → Halted p large named start levels (i ∷ []) new h
  halted_sames large named _ _ start new levels h (o.itself i) g = g
  halted_sames large named _ _ start new levels h (o.through i j k e s) g = halted_same large named i j start new levels h e (halted_sames large named j k start new levels h s g)

  pub sames_last : (i j k : I) → Sames p i j → p.form j ≡ same_form k → Sames p i k
  sames_last _ _ k (o.itself i) e = o.through i k k e (o.itself k)
  sames_last _ _ k (o.through i j l e s) q = o.through i j k e (sames_last j l k s q)

  -- ---- the numbering had grown before

  pub made_after : (i : I) (before called : List K) (room levels : ℕ) (new : State K) (a : Term) → Grown p (i ∷ []) before called
      → Made p (state called room) levels (i ∷ []) new (a ∷ []) → Made p (state before room) levels (i ∷ []) new (a ∷ [])
  made_after i before called room levels new a g m =
      record { grown = grown_and (i ∷ []) before called new.called g m.grown; unfolds = m.unfolds; nodes = m.nodes; within = m.within }

  pub full_after : (named : ℕ → K → Type 0) (i : I) (before called new : List K) (name : ℕ) → Grown p (i ∷ []) before called → Full p named (i ∷ []) called new name → Full p named (i ∷ []) before new name
  full_after named i before called new name g t =
      record { grown = grown_and (i ∷ []) before called new g t.grown; full = t.full; one = t.one; called = t.called; unnumbered = t.unnumbered; is_named = t.is_named }

  pub halted_after : (large : K → Type 0) (named : ℕ → K → Type 0) (i : I) (before called : List K) (room levels : ℕ) (new : State K) (h : Halt) → Grown p (i ∷ []) before called
      → Halted p large named (state called room) levels (i ∷ []) new h → Halted p large named (state before room) levels (i ∷ []) new h
  halted_after large named i before called room levels new halt.Nodes g t = record { many = t.many; more = t.more; known = t.known }
  halted_after large named i before called room levels new halt.Nesting g t = t
  halted_after large named i before called room levels new (halt.Instances name) g t = full_after named i before called new.called name g t
  halted_after large named i before called room levels new halt.Large g t = t
  halted_after large named i before called room levels new halt.Memory g t = tt

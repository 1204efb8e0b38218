-- How the terms of a pair are numbered, one after another.
use Rattle.std.proofs.Common.{◌≡◌, ℕ, ◌+◌, ◌<◌, List, [], ◌∷◌, ◌++◌, map, length, take, get_or, Some, refl, sym, ap, ◌∙◌, subst, arith, append-nil, append_assoc}
use Rattle.std.specs.Prelude.{slice_get}
use Rattle.std.specs.List.{range_with_len}
use Rattle.std.proofs.lemmas.Grind.{flat_map-append}
use Rattle.std.proofs.lemmas.List.{take_more}
use Rattle.std.proofs.lemmas.List.Elements.{All-from_recursion}
use Rattle.std.proofs.lemmas.List.FromFn.{map-range_with_len_more}
use Rattle.ur_values.specs.declared.value.Value.{Value}
use Rattle.ur_sql.specs.declared.term.SqlTerm.{SqlTerm}
use Rattle.ur_sql.specs.declared.term.SqlTerm.TheVariants as t
use Rattle.ur_congruence.specs.declared.terms.TermNode.{TermNode}
use Rattle.ur_congruence.specs.declared.terms.TermNode.TheVariants.{Apply}
use Rattle.ur_congruence.specs.Terms.{Equates}
use Rattle.ur_conditions.specs.declared.pair.Pair.{Pair}
use Rattle.ur_conditions.specs.Disjuncts.{Equation}
use Rattle.ur_conditions.specs.Terms.{subterms}
use Rattle.ur_conditions.specs.Pairs.{side_terms, key_terms, arg_terms}
use Rattle.ur_invalidate.specs.declared.leaf.Leaf.{Leaf}
use Rattle.ur_invalidate.specs.declared.numbering.Numbering.{Numbering}
use Rattle.ur_invalidate.specs.Numbers.{IsNumber, AreNumbered, HaveNumbers}
use Rattle.ur_invalidate.specs.Numbering.{NumberIn, Keeps, AddsTerm}
use Rattle.ur_invalidate.specs.Stages.{Stands, AddsSides, AddsEquation, AddsAllSides, TermsHave, AddsPlain, AreNumbersOf}
use Rattle.ur_invalidate.proofs.Shapes.{IsLeaf}

pub numbers_kept : (old new : Numbering) → Keeps old new → (es : List Equation) (qs : List (ℕ × ℕ))
    → HaveNumbers old.leaves.keys old.closure.nodes es qs → HaveNumbers new.leaves.keys new.closure.nodes es qs
numbers_kept old new keeps [] [] z = tt
numbers_kept old new keeps [] (q ∷ qs) z = absurd z
numbers_kept old new keeps (e ∷ es) [] z = absurd z
numbers_kept old new keeps (e ∷ es) (q ∷ qs) z = ((keeps (e.0) (q.0) (z.0.0), keeps (e.1) (q.1) (z.0.1)), numbers_kept old new keeps es qs (z.1))

-- one term more
pub term_stands : (old new : Numbering) (a : SqlTerm) (n : ℕ) → AddsTerm old new a n → (equations : List Equation) (known : List SqlTerm) → Stands equations known old
    → Stands equations (known ++ subterms a) new × NumberIn new a n
term_stands old new a n adds equations known stands =
    let r = adds.numbered known stands.numbered in (
      record {
        numbered = r.0;
        equated = subst (λ (qs : List (ℕ × ℕ)). HaveNumbers new.leaves.keys new.closure.nodes equations qs) (sym adds.equations) (numbers_kept old new adds.keeps equations old.closure.equations stands.equated);
      },
      r.1,
    )

-- two terms more
pub sides_stand : (old middle new : Numbering) (e : Equation) (m n : ℕ) → AddsTerm old middle (e.0) m → AddsTerm middle new (e.1) n → AddsSides old new e (m, n)
sides_stand old middle new e m n left right =
    let within = left.within in
    let longer = right.longer in
    record {
      keeps = λ a k h. right.keeps a k (left.keeps a k h);
      left = omega (arith, within, longer);
      right = right.within;
      stands = λ equations known stands.
          let r = term_stands old middle (e.0) m left equations known stands in
          let s = term_stands middle new (e.1) n right equations (known ++ subterms (e.0)) (r.0) in
          (subst (λ (ks : List SqlTerm). Stands equations ks new) (append_assoc known (subterms (e.0)) (subterms (e.1))) (s.0), right.keeps (e.0) m (r.1), s.1);
    }

-- the same leaves, nodes and constants
number_moved : (leaves leaves' : List Leaf) (nodes nodes' : List TermNode) → leaves' ≡ leaves → nodes' ≡ nodes → (a : SqlTerm) (n : ℕ) → IsNumber leaves nodes a n → IsNumber leaves' nodes' a n
number_moved leaves leaves' nodes nodes' e f a n h = subst (λ ls. IsNumber ls nodes' a n) (sym e) (subst (λ ns. IsNumber leaves ns a n) (sym f) h)

numbered_moved : (known : List SqlTerm) (leaves leaves' : List Leaf) (nodes nodes' : List TermNode) (constants constants' : List (Value × ℕ)) → leaves' ≡ leaves → nodes' ≡ nodes → constants' ≡ constants
    → AreNumbered known leaves nodes constants → AreNumbered known leaves' nodes' constants'
numbered_moved known leaves leaves' nodes nodes' constants constants' e f g h =
    subst (λ ls. AreNumbered known ls nodes' constants') (sym e) (subst (λ ns. AreNumbered known leaves ns constants') (sym f) (subst (λ cs. AreNumbered known leaves nodes cs) (sym g) h))

zip_push : (numbering : Numbering) (es : List Equation) (qs : List (ℕ × ℕ)) (d : Equation) (q : ℕ × ℕ) → HaveNumbers numbering.leaves.keys numbering.closure.nodes es qs
    → NumberIn numbering (d.0) (q.0) × NumberIn numbering (d.1) (q.1) → HaveNumbers numbering.leaves.keys numbering.closure.nodes (es ++ d ∷ []) (qs ++ q ∷ [])
zip_push numbering [] [] d q z h = (h, tt)
zip_push numbering [] (p ∷ qs) d q z h = absurd z
zip_push numbering (c ∷ es) [] d q z h = absurd z
zip_push numbering (c ∷ es) (p ∷ qs) d q z h = (z.0, zip_push numbering es qs d q (z.1) h)

-- an equation more
pub equation_stands : (old middle new : Numbering) (e : Equation) (m n : ℕ) → AddsSides old middle e (m, n) → Equates middle.closure new.closure m n
    → new.leaves.keys ≡ middle.leaves.keys → new.constants ≡ middle.constants → AddsEquation old new e
equation_stands old middle new e m n sides equates leaves constants equations known stands =
    let r = sides.stands equations known stands in
    let keeps : Keeps middle new = number_moved middle.leaves.keys new.leaves.keys middle.closure.nodes new.closure.nodes leaves equates.terms in
    record {
      numbered = numbered_moved (known ++ (subterms (e.0) ++ subterms (e.1))) middle.leaves.keys new.leaves.keys middle.closure.nodes new.closure.nodes middle.constants new.constants leaves equates.terms constants r.0.numbered;
      equated = subst (λ (qs : List (ℕ × ℕ)). HaveNumbers new.leaves.keys new.closure.nodes (equations ++ e ∷ []) qs) (sym equates.equations)
          (zip_push new equations middle.closure.equations e (m, n) (numbers_kept middle new keeps equations middle.closure.equations r.0.equated) (keeps (e.0) m (r.1), keeps (e.1) n (r.2)));
    }

-- ---- the loops

-- nothing is numbered at first
pub start_stands : (n : Numbering) → n.leaves.keys ≡ [] → n.closure.nodes ≡ [] → n.closure.equations ≡ [] → n.constants ≡ [] → Stands [] [] n
start_stands n leaves nodes equations constants = record {
  numbered = numbered_moved [] [] n.leaves.keys [] n.closure.nodes [] n.constants leaves nodes constants nothing;
  equated = subst (λ (qs : List (ℕ × ℕ)). HaveNumbers n.leaves.keys n.closure.nodes [] qs) (sym equations) tt;
}
  where
    none_there : (k : ℕ) (node : TermNode) → slice_get [] k ≡ Some node → ⊥
    none_there k node e = cc

    nothing : AreNumbered [] [] [] []
    nothing = record {
      once = λ s u node e f. absurd (none_there s node e);
      each = All-from_recursion (λ a. (n : ℕ) × IsNumber [] [] a n) [] tt;
      back = λ k f parts e. absurd (none_there k (Apply f parts) e);
      constants_are = refl;
      constants_have = All-from_recursion (λ (c : Value × ℕ). IsNumber [] [] (t.Constant (c.0)) (c.1)) [] tt;
    }

last_side : (es : List Equation) (e : Equation) → side_terms (es ++ e ∷ []) ≡ side_terms es ++ (subterms (e.0) ++ subterms (e.1))
last_side es e = flat_map-append (λ (d : Equation). subterms (d.0) ++ subterms (d.1)) es (e ∷ []) ∙ ap (λ ts. side_terms es ++ ts) (append-nil (subterms (e.0) ++ subterms (e.1)))

next_item : {X : Type 0} (xs : List X) (i : ℕ) (x : X) → i < length xs → x ≡ get_or xs i x → take (i + 1) xs ≡ take i xs ++ x ∷ []
next_item xs i x small is = take_more xs i x small ∙ ap (λ y. take i xs ++ y ∷ []) (sym is)

pub stands_more : (xs : List Equation) (i : ℕ) (e : Equation) (old new : Numbering) → i < length xs → e ≡ get_or xs i e → Stands (take i xs) (side_terms (take i xs)) old → AddsEquation old new e
    → Stands (take (i + 1) xs) (side_terms (take (i + 1) xs)) new
stands_more xs i e old new small is stands adds =
    subst (λ (zs : List Equation). Stands zs (side_terms zs) new) (sym (next_item xs i e small is))
    (subst (λ (ts : List SqlTerm). Stands (take i xs ++ e ∷ []) ts new) (sym (last_side (take i xs) e)) (adds (take i xs) (side_terms (take i xs)) stands))

pub no_sides : (n : Numbering) → AddsAllSides n n [] []
no_sides n = record {
  keeps = λ a k h. h;
  stands = λ equations known s. (subst (λ (ts : List SqlTerm). Stands equations ts n) (sym (append-nil known)) s, tt);
}

pub sides_more : (xs : List Equation) (i : ℕ) (e : Equation) (start old new : Numbering) (ns : List (ℕ × ℕ)) (q : ℕ × ℕ) → i < length xs → e ≡ get_or xs i e → AddsAllSides start old (take i xs) ns
    → AddsSides old new e q → AddsAllSides start new (take (i + 1) xs) (ns ++ q ∷ [])
sides_more xs i e start old new ns q small is all one = subst (λ (zs : List Equation). AddsAllSides start new zs (ns ++ q ∷ [])) (sym (next_item xs i e small is)) pushed
  where
    pushed : AddsAllSides start new (take i xs ++ e ∷ []) (ns ++ q ∷ [])
    pushed = record {
      keeps = λ a k h. one.keeps a k (all.keeps a k h);
      stands = λ equations known s.
          let r = all.stands equations known s in
          let u = one.stands equations (known ++ side_terms (take i xs)) (r.0) in (
            subst (λ (ts : List SqlTerm). Stands equations ts new)
                (append_assoc known (side_terms (take i xs)) (subterms (e.0) ++ subterms (e.1)) ∙ ap (λ ts. known ++ ts) (sym (last_side (take i xs) e))) (u.0),
            zip_push new (take i xs) ns e q (numbers_kept old new one.keeps (take i xs) ns (r.1)) (u.1, u.2),
          );
    }

have_kept : (old new : Numbering) → Keeps old new → (ts : List SqlTerm) (ns : List ℕ) → TermsHave old ts ns → TermsHave new ts ns
have_kept old new keeps [] [] z = tt
have_kept old new keeps [] (n ∷ ns) z = absurd z
have_kept old new keeps (a ∷ ts) [] z = absurd z
have_kept old new keeps (a ∷ ts) (n ∷ ns) z = (keeps a n (z.0), have_kept old new keeps ts ns (z.1))

have_push : (numbering : Numbering) (ts : List SqlTerm) (ns : List ℕ) (a : SqlTerm) (n : ℕ) → TermsHave numbering ts ns → NumberIn numbering a n → TermsHave numbering (ts ++ a ∷ []) (ns ++ n ∷ [])
have_push numbering [] [] a n z h = (h, tt)
have_push numbering [] (m ∷ ns) a n z h = absurd z
have_push numbering (b ∷ ts) [] a n z h = absurd z
have_push numbering (b ∷ ts) (m ∷ ns) a n z h = (z.0, have_push numbering ts ns a n (z.1) h)

pub no_terms : (n : Numbering) → AddsPlain n n [] []
no_terms n = record {
  keeps = λ a k h. h;
  stands = λ equations known s. (subst (λ (ts : List SqlTerm). Stands equations ts n) (sym (append-nil known)) s, tt);
}

-- a key position or an argument more
pub plain_more : (term : ℕ → SqlTerm) (leaf : (k : ℕ) → IsLeaf (term k)) (i : ℕ) (start old new : Numbering) (ns : List ℕ) (n : ℕ) → AddsPlain start old (map term (range_with_len 0 i)) ns
    → AddsTerm old new (term i) n → AddsPlain start new (map term (range_with_len 0 (i + 1))) (ns ++ n ∷ [])
plain_more term leaf i start old new ns n all adds =
    subst (λ (ts : List SqlTerm). AddsPlain start new ts (ns ++ n ∷ [])) (sym (map-range_with_len_more term 0 i i (omega arith))) pushed
  where
    alone : subterms (term i) ≡ term i ∷ []
    alone = let is = leaf i in is.terms

    pushed : AddsPlain start new (map term (range_with_len 0 i) ++ term i ∷ []) (ns ++ n ∷ [])
    pushed = record {
      keeps = λ a k h. adds.keeps a k (all.keeps a k h);
      stands = λ equations known s.
          let r = all.stands equations known s in
          let u = term_stands old new (term i) n adds equations (known ++ map term (range_with_len 0 i)) (r.0) in (
            subst (λ (ts : List SqlTerm). Stands equations ts new)
                (append_assoc known (map term (range_with_len 0 i)) (subterms (term i)) ∙ ap (λ ts. known ++ (map term (range_with_len 0 i) ++ ts)) alone) (u.0),
            have_push new (map term (range_with_len 0 i)) ns (term i) n (have_kept old new adds.keeps (map term (range_with_len 0 i)) ns (r.1)) (u.1),
          );
    }

-- all terms of a pair
pub pair_numbered : (p : Pair) (es ds : List Equation) (first second third last : Numbering) (ss : List (ℕ × ℕ)) (ks ns : List ℕ) → es ≡ p.equations → ds ≡ p.disequations
    → Stands es (side_terms es) first → AddsAllSides first second ds ss → AddsPlain second third (key_terms p.keys) ks → AddsPlain third last (arg_terms p.args) ns
    → AreNumbersOf p (record { numbering = last; keys = ks; args = ns; sides = ss })
pair_numbered p es ds first second third last ss ks ns are_equations are_disequations stands sides keys args =
    let start : Stands p.equations (side_terms p.equations) first = subst (λ (zs : List Equation). Stands zs (side_terms zs) first) are_equations stands in
    let other : AddsAllSides first second p.disequations ss = subst (λ (zs : List Equation). AddsAllSides first second zs ss) are_disequations sides in
    let a = other.stands p.equations (side_terms p.equations) start in
    let b = keys.stands p.equations (side_terms p.equations ++ side_terms p.disequations) (a.0) in
    let c = args.stands p.equations ((side_terms p.equations ++ side_terms p.disequations) ++ key_terms p.keys) (b.0) in
    record {
      stands = subst (λ (ts : List SqlTerm). Stands p.equations ts last)
          (ap (λ (ts : List SqlTerm). ts ++ key_terms p.keys ++ arg_terms p.args) (sym (flat_map-append (λ (d : Equation). subterms (d.0) ++ subterms (d.1)) p.equations p.disequations))) (c.0);
      keys = have_kept third last args.keeps (key_terms p.keys) ks (b.1);
      args = c.1;
      sides = numbers_kept second last (λ t n h. args.keeps t n (keys.keeps t n h)) p.disequations ss (a.1);
    }

-- A pattern, or all patterns of a `case`, fail their test exactly where there is a breach.
use Rattle.std.proofs.Common.{inl, inr, ◌≡◌, refl, sym, ap, subst, true, false, true≢false, Option, Some, None, List, [], ◌∷◌, ℕ, Contains, map}
use Rattle.std.specs.Prelude.{◌||◌, ◌==◌, not, length}
use Rattle.std.specs.List.{list_all, list_any}
use Rattle.std.proofs.lemmas.Slice.Eq.{bytes_eq-Decides}
use Rattle.ur_syntax.specs.Names.{own, member as of_module, name_text}
use Rattle.ur_syntax.specs.declared.con.ConName.{ConName}
use Rattle.ur_syntax.specs.declared.exp.Argument.TheVariants as argument
use Rattle.ur_syntax.specs.declared.exp.PatForm.{PatForm}
use Rattle.ur_syntax.specs.declared.exp.PatForm.TheVariants as pat
use Rattle.ur_terms.specs.declared.term.Pattern.{Pattern}
use Rattle.ur_rows.specs.declared.normal.NormalType.{NormalType}
use Rattle.ur_disjoint.proofs.Members.{In, in-contains, contains-in, in-map}
use Rattle.ur_tree.specs.Patterns.{bound_by, same_pattern, constructors_of, has_all, last_is_any}
use Rattle.ur_typed_rules.specs.Names.{Local, Globals, declared}
use Rattle.ur_typed_rules.specs.Scopes.{World}
use Rattle.ur_typed_rules.specs.Tests.{local_name, same_name, same_local, are_once, are_distinct, covers}
use Rattle.ur_typed_rules.specs.Faults.{Fault}
use Rattle.ur_typed_rules.specs.Repeats.{IsTwiceIn, here_twice, further_twice}
use Rattle.ur_typed_rules.specs.Rules.{tag_pattern, pattern_of, if_as_many, bound_in}
use Rattle.ur_typed_rules.specs.Patterns as patterns
use Rattle.ur_typed_rules.specs.Patterns.{NamesConstructor, bare_constructor, member_constructor, BreaksPat, of_other_type, of_other_count, unknown_pat, binds_twice, IsMissing, IsRepeated, repeated_here, repeated_later, BreaksCover, comes_twice, is_missing}
use Rattle.ur_typed_rules.proofs.Options.{first_none, then_none, map_none, map_none_is, so_false, some_none, then_none_is, if_none_is, and_left, and_right, both_false, right_false, not_false, not_all, not_all_is}

-- ---- one pattern

pub pattern_none : (g : Globals) (p : PatForm) (c : ConName) (text : List ℕ) → NamesConstructor p c text → declared g c g.constructors ≡ None → pattern_of g p ≡ None
pattern_none g _ _ _ (bare_constructor {a = argument.Absent}) h = map_none _ _ h
pattern_none g _ _ _ (bare_constructor {a = argument.Bound y}) h = map_none _ _ h
pattern_none g _ _ _ (member_constructor {a = argument.Absent}) h = map_none _ _ h
pattern_none g _ _ _ (member_constructor {a = argument.Bound y}) h = map_none _ _ h

pub pattern_unknown : (g : Globals) (p : PatForm) → pattern_of g p ≡ None → (c : ConName) × (text : List ℕ) × NamesConstructor p c text × (declared g c g.constructors ≡ None)
pattern_unknown g (pat.Constructor x argument.Absent) h = (own x, x, bare_constructor, map_none_is (tag_pattern []) (declared g (own x) g.constructors) h)
pattern_unknown g (pat.Constructor x (argument.Bound y)) h = (own x, x, bare_constructor, map_none_is (tag_pattern _) (declared g (own x) g.constructors) h)
pattern_unknown g (pat.Member m x argument.Absent) h = (of_module m x, name_text (Some m) x, member_constructor, map_none_is (tag_pattern []) (declared g (of_module m x) g.constructors) h)
pattern_unknown g (pat.Member m x (argument.Bound y)) h = (of_module m x, name_text (Some m) x, member_constructor, map_none_is (tag_pattern _) (declared g (of_module m x) g.constructors) h)
pattern_unknown g _ h = absurd (some_none h)

twice_named : (a b : Option (List ℕ)) → same_name a b ≡ true → (x : List ℕ) × (a ≡ Some x) × (b ≡ Some x)
twice_named (Some x) (Some y) h = (x, refl, ap (λ z. Some z) (sym ((bytes_eq-Decides x y).0 h)))
twice_named (Some x) None h = cc
twice_named None b h = cc

-- locals that are not distinct have a name twice
pub local_twice : (ls : List Local) → are_distinct ls ≡ false → (x : List ℕ) × IsTwiceIn x (map local_name ls)
local_twice [] h = absurd (true≢false h)
local_twice (l ∷ ls) h = elim (both_false (list_all (λ k. not (same_local l k)) ls) (are_once same_local ls) h) [
  | inl a ↦
      let q : (k : Local) × In k ls × (not (same_local l k) ≡ false) = not_all_is (λ k. not (same_local l k)) ls a in
      let n : (x : List ℕ) × (local_name l ≡ Some x) × (local_name q.0 ≡ Some x) = twice_named (local_name l) (local_name q.0) (not_false (same_local l q.0) q.2) in
      (n.0, subst (λ z. IsTwiceIn n.0 (z ∷ map local_name ls)) (sym n.1) (here_twice (subst (λ z. Contains (map local_name ls) z) n.2 (contains-in (local_name q.0) (map local_name ls) (in-map local_name q.0 ls q.1)))))
  | inr b ↦ let q : (x : List ℕ) × IsTwiceIn x (map local_name ls) = local_twice ls b in (q.0, further_twice q.1)
]

-- a pattern is written in its scope, binds distinct names, and stands for values of the type
pub data PatFails (w : World) (u : NormalType) (p : PatForm) : Type 0 where
  stands_for_none : pattern_of w.globals p ≡ None → PatFails w u p
  not_distinct : {q : List Local × Pattern} → pattern_of w.globals p ≡ Some q → are_distinct q.0 ≡ false → PatFails w u p
  binds_none : {q : List Local × Pattern} → pattern_of w.globals p ≡ Some q → bound_in w u q ≡ None → PatFails w u p

pub pat_fails : (names : List (List ℕ)) (w : World) (u : NormalType) (p : PatForm) (f : Fault) → BreaksPat names w u p f → PatFails w u p
pat_fails names w u p _ (of_other_type {q = q} e h) = binds_none e (first_none _ _ h)
pat_fails names w u p _ (of_other_count {q = q} {bound = bound} e h n) = binds_none e (then_none (if_as_many q.0) (bound_by w.declared u q.1) bound h (so_false _ _ n))
pat_fails names w u p _ (unknown_pat {c = c} {text = text} n h) = stands_for_none (pattern_none w.globals p c text n h)
pat_fails names w u p _ (binds_twice e t h) = not_distinct e h

binds_broken : (names : List (List ℕ)) (w : World) (u : NormalType) (p : PatForm) (q : List Local × Pattern) → pattern_of w.globals p ≡ Some q → bound_in w u q ≡ None → (f : Fault) × BreaksPat names w u p f
binds_broken names w u p q e h = elim (then_none_is (if_as_many q.0) (bound_by w.declared u q.1) h) [
  | inl a ↦ (_, of_other_type e a)
  | inr b ↦ elim (if_none_is (length q.0 == length b.0) (Some b.0) b.2) [ inl a ↦ (_, of_other_count e b.1 a) | inr z ↦ absurd (some_none z) ]
]

pub pat_broken : (names : List (List ℕ)) (w : World) (u : NormalType) (p : PatForm) → PatFails w u p → (f : Fault) × BreaksPat names w u p f
pat_broken names w u p (stands_for_none h) = let c : (c : ConName) × (text : List ℕ) × NamesConstructor p c text × (declared w.globals c w.globals.constructors ≡ None) = pattern_unknown w.globals p h in (_, unknown_pat c.2 c.3)
pat_broken names w u p (not_distinct {q = q} e h) = let t : (x : List ℕ) × IsTwiceIn x (map local_name q.0) = local_twice q.0 h in (_, binds_twice e t.1 h)
pat_broken names w u p (binds_none {q = q} e h) = binds_broken names w u p q e h

-- ---- all patterns of a `case`

repeated_false : (ps : List Pattern) (p : Pattern) → IsRepeated ps p → are_once same_pattern ps ≡ false
repeated_false _ _ (repeated_here {p = p} {q = q} {qs = qs} c h) = and_left _ _ (not_all (λ y. not (same_pattern p y)) q qs (in-contains q qs c) (ap not h))
repeated_false _ q (repeated_later {qs = qs} r) = and_right _ _ (repeated_false qs q r)

repeated_of : (ps : List Pattern) → are_once same_pattern ps ≡ false → (q : Pattern) × IsRepeated ps q
repeated_of [] h = absurd (true≢false h)
repeated_of (p ∷ ps) h = elim (both_false (list_all (λ q. not (same_pattern p q)) ps) (are_once same_pattern ps) h) [
  | inl a ↦ let q : (q : Pattern) × In q ps × (not (same_pattern p q) ≡ false) = not_all_is (λ q. not (same_pattern p q)) ps a in (p, repeated_here (contains-in q.0 ps q.1) (not_false (same_pattern p q.0) q.2))
  | inr b ↦ let q : (q : Pattern) × IsRepeated ps q = repeated_of ps b in (q.0, repeated_later q.1)
]

missing_of : (w : World) (u : NormalType) (ps : List Pattern) (cs : Option (List Pattern)) → constructors_of w.declared u ≡ cs → has_all cs ps ≡ false → (name : List ℕ) × IsMissing w u ps name
missing_of w u ps None ec h = (_, patterns.any ec)
missing_of w u [] (Some []) ec h = (_, patterns.nothing ec refl)
missing_of w u [] (Some (c ∷ cs)) ec h = (_, patterns.constructor ec (contains-in c (c ∷ cs) (inl refl)) refl)
missing_of w u (p ∷ ps) (Some cs) ec h =
    let c : (c : Pattern) × In c cs × (list_any (same_pattern c) (p ∷ ps) ≡ false) = not_all_is (λ c. list_any (same_pattern c) (p ∷ ps)) cs h in (_, patterns.constructor ec (contains-in c.0 cs c.1) c.2)

pub cover_fails : (w : World) (u : NormalType) (ps : List Pattern) (f : Fault) → BreaksCover w u ps f → covers w.declared u ps ≡ false
cover_fails w u ps _ (comes_twice {q = q} r) = and_left _ _ (repeated_false ps q r)
cover_fails w u ps _ (is_missing h m) = and_right _ _ h

pub cover_broken : (w : World) (u : NormalType) (ps : List Pattern) → covers w.declared u ps ≡ false → (f : Fault) × BreaksCover w u ps f
cover_broken w u ps h = elim (both_false (are_once same_pattern ps) (last_is_any ps || has_all (constructors_of w.declared u) ps) h) [
  | inl a ↦ let q : (q : Pattern) × IsRepeated ps q = repeated_of ps a in (_, comes_twice q.1)
  | inr a ↦ let m : (name : List ℕ) × IsMissing w u ps name = missing_of w u ps (constructors_of w.declared u) refl (right_false (last_is_any ps) (has_all (constructors_of w.declared u) ps) a) in (_, is_missing a m.1)
]

-- What patterns bind.
use Rattle.std.proofs.Common.{◌≡◌, refl, ap, ap₂, sym, ◌∙◌, subst, ℕ, ◌+◌, ◌<◌, ◌≤◌, suc, ◌++◌, append_assoc, drop, get_or, drop_of_length-le, Bool, true, false, true≢false, not, ◌&&◌, ◌||◌, List, [], ◌∷◌, map, length, Option, Some, None, Result, IfOk, arith}
use Rattle.std.specs.Prelude.{option_map, option_and_then, if◌then◌else◌, slice_get}
use Rattle.std.proofs.lemmas.List.{append-nil}
use Rattle.std.proofs.lemmas.Option.{slice_get_within, get_or_from_slice_get, slice_get-map}
use Rattle.std.specs.List.{list_any, list_all}
use Rattle.ur_base.specs.declared.refusal.Memory.{Memory}
use Rattle.ur_syntax.specs.Names.{own, member as of_module}
use Rattle.ur_syntax.specs.declared.exp.Argument.TheVariants as argument
use Rattle.ur_syntax.specs.declared.exp.PatForm.{PatForm}
use Rattle.ur_syntax.specs.declared.exp.PatForm.TheVariants as pat
use Rattle.ur_rows.specs.declared.normal.NormalType.{NormalType}
use Rattle.ur_rows.specs.declared.normal.NormalType.TheVariants as ty
use Rattle.ur_rows.specs.Made.{list_of}
use Rattle.ur_rows.proofs.Shapes.{option-made, list-made}
use Rattle.ur_terms.specs.declared.term.Pattern.{Pattern}
use Rattle.ur_terms.specs.declared.term.Pattern.TheVariants as pattern
use Rattle.ur_tree.specs.declared.typed.Variant.{Variant}
use Rattle.ur_tree.specs.Heads.{Declared}
use Rattle.ur_tree.specs.Patterns.{bound_by, absent_of, present_of, empty_of, cons_of, none_of, tagged_of}
use Rattle.ur_typed_rules.specs.Names.{Local, value, Globals, declared, bound_name, is_named}
use Rattle.ur_typed_rules.specs.Tests.{are_distinct, local_name, same_name, same_local}
use Rattle.ur_typed_rules.specs.Rules.{pattern_of, tag_pattern}
use Rattle.ur_typed_rules.specs.Repeats.{twice_of}
use Rattle.ur_typed_rules.proofs.Repeats.{by-if}
use Rattle.ur_check_scopes.specs.declared.locals.Local.{Local as HeldLocal}
use Rattle.ur_check_scopes.specs.Views.{local_in, of_variables}
use Rattle.ur_check_scopes.proofs.Loops.{drop-here}
use Rattle.ur_check_cases.specs.Binding.{plain_pattern, names_of, variants_in, variable, locals_with}

-- ---- a pattern and its names, apart and together

abbrev pub named : List Local → Pattern → List Local × Pattern
named names q = (names, q)

tag-names : (names : List Local) (o : Option ℕ) → option_map (tag_pattern names) o ≡ option_map (named names) (option_map pattern.Tagged o)
tag-names names None = refl
tag-names names (Some n) = refl

pub names-apart : (g : Globals) (p : PatForm) → pattern_of g p ≡ option_map (named (map value (names_of p))) (plain_pattern g p)
names-apart g pat.Wild = refl
names-apart g (pat.Var x) = refl
names-apart g (pat.Int n) = refl
names-apart g (pat.Negative n) = refl
names-apart g (pat.Str s) = refl
names-apart g pat.True = refl
names-apart g pat.False = refl
names-apart g pat.None = refl
names-apart g (pat.Some x) = refl
names-apart g pat.Nil = refl
names-apart g (pat.Cons x y) = refl
names-apart g (pat.Constructor x argument.Absent) = tag-names [] (declared g (own x) g.constructors)
names-apart g (pat.Constructor x (argument.Bound y)) = tag-names (value (bound_name y) ∷ []) (declared g (own x) g.constructors)
names-apart g (pat.Member m x argument.Absent) = tag-names [] (declared g (of_module m x) g.constructors)
names-apart g (pat.Member m x (argument.Bound y)) = tag-names (value (bound_name y) ∷ []) (declared g (of_module m x) g.constructors)

pub with-names : (names : List (Option (List ℕ))) (types : List NormalType) → length names ≡ length types → map local_in (locals_with names types) ≡ map value names
with-names [] [] h = refl
with-names [] (t ∷ types) h = absurd (omega arith)
with-names (x ∷ names) [] h = absurd (omega arith)
with-names (x ∷ names) (t ∷ types) h = ap (λ z. value x ∷ z) (with-names names types (omega arith))

pub with-types : (names : List (Option (List ℕ))) (types : List NormalType) → length names ≡ length types → of_variables (locals_with names types) ≡ types
with-types [] [] h = refl
with-types [] (t ∷ types) h = absurd (omega arith)
with-types (x ∷ names) [] h = absurd (omega arith)
with-types (x ∷ names) (t ∷ types) h = ap (λ z. t ∷ z) (with-types names types (omega arith))

pub with-length : (names : List (Option (List ℕ))) (types : List NormalType) → length names ≡ length types → length (locals_with names types) ≡ length types
with-length [] [] h = refl
with-length [] (t ∷ types) h = absurd (omega arith)
with-length (x ∷ names) [] h = absurd (omega arith)
with-length (x ∷ names) (t ∷ types) h = ap (λ n. suc n) (with-length names types (omega arith))

pub whole-pattern : (g : Globals) (p : PatForm) (q : Pattern) (types : List NormalType) (ls : List HeldLocal) → plain_pattern g p ≡ Some q → length (names_of p) ≡ length types → ls ≡ locals_with (names_of p) types →
    pattern_of g p ≡ Some (map local_in ls, q)
whole-pattern g p q types ls e h is = names-apart g p ∙ ap (option_map (named (map value (names_of p)))) e ∙ ap (λ z. Some (named z q)) (sym (ap (map local_in) is ∙ with-names (names_of p) types h))

-- ---- names and types, one after the other

pub locals-step : (done : List HeldLocal) (names : List (Option (List ℕ))) (types : List NormalType) (i : ℕ) (x : Option (List ℕ)) (t : NormalType) → i < length names → x ≡ get_or names i x → slice_get types i ≡ Some t →
    (done ++ variable x t ∷ []) ++ locals_with (drop (i + 1) names) (drop (i + 1) types) ≡ done ++ locals_with (drop i names) (drop i types)
locals-step done names types i x t h e g =
    let here : drop i types ≡ t ∷ drop (i + 1) types = drop-here types i t (slice_get_within types i t g) (sym (get_or_from_slice_get types i t t g)) in
    append_assoc done (variable x t ∷ []) (locals_with (drop (i + 1) names) (drop (i + 1) types)) ∙ ap (λ z. done ++ z) (sym (ap₂ locals_with (drop-here names i x h e) here))

with-none : (names : List (Option (List ℕ))) → locals_with names [] ≡ []
with-none [] = refl
with-none (x ∷ names) = refl

pub locals-none : (done : List HeldLocal) (names : List (Option (List ℕ))) (types : List NormalType) (i : ℕ) → length types ≤ i → done ++ locals_with (drop i names) (drop i types) ≡ done
locals-none done names types i h = ap (λ z. done ++ locals_with (drop i names) z) (drop_of_length-le types h) ∙ ap (λ z. done ++ z) (with-none (drop i names)) ∙ append-nil done

pub locals-end : (done : List HeldLocal) (names : List (Option (List ℕ))) (types : List NormalType) (i : ℕ) → length names ≤ i → done ++ locals_with (drop i names) (drop i types) ≡ done
locals-end done names types i h = ap (λ z. done ++ locals_with z (drop i types)) (drop_of_length-le names h) ∙ append-nil done

-- ---- names that stand once

name-of : (y : Option (List ℕ)) (b : Bool) (t : NormalType) → local_name (local_in (record { name = y; fixed = b; of = t })) ≡ y
name-of y true t = refl
name-of y false t = refl

pub names-in : (ls : List HeldLocal) → map local_name (map local_in ls) ≡ map (λ l. l.name) ls
names-in [] = refl
names-in (l ∷ ls) = ap₂ (λ y ys. y ∷ ys) (name-of l.name l.fixed l.of) (names-in ls)

-- none of the names is this one
abbrev none-same : Option (List ℕ) → List (Option (List ℕ)) → Bool
none-same y names = list_all (λ z. not (same_name y z)) names

none-bare : (names : List (Option (List ℕ))) → none-same None names ≡ true
none-bare [] = refl
none-bare (z ∷ names) = none-bare names

same-is : (x : List ℕ) (z : Option (List ℕ)) → same_name (Some x) z ≡ is_named x z
same-is x None = refl
same-is x (Some y) = refl

neither : (a b : Bool) → (not a && not b) ≡ not (a || b)
neither true b = refl
neither false b = refl

none-named : (x : List ℕ) (names : List (Option (List ℕ))) → none-same (Some x) names ≡ not (list_any (is_named x) names)
none-named x [] = refl
none-named x (z ∷ names) = ap₂ (λ a b. not a && b) (same-is x z) (none-named x names) ∙ neither (is_named x z) (list_any (is_named x) names)

first-same : (y : Option (List ℕ)) (ls : List HeldLocal) (l : HeldLocal) → l.name ≡ y → list_all (λ k. not (same_local (local_in l) k)) (map local_in ls) ≡ none-same y (map (λ l. l.name) ls)
first-same y [] l e = refl
first-same y (k ∷ ls) l e = ap₂ (λ a b. not a && b) (ap₂ same_name (name-of l.name l.fixed l.of ∙ e) (name-of k.name k.fixed k.of)) (first-same y ls l e)

once-none : (y : Option (List ℕ)) (names : List (Option (List ℕ))) → twice_of (y ∷ names) ≡ None → (none-same y names ≡ true) × (twice_of names ≡ None)
once-none None names h = (none-bare names, h)
once-none (Some x) names h = by-if (list_any (is_named x) names) (Some x) (twice_of names) None ((none-same (Some x) names ≡ true) × (twice_of names ≡ None)) h
    (λ e k. absurd (cc)) (λ e k. (none-named x names ∙ ap not e, k))

both : (a b : Bool) → a ≡ true → b ≡ true → (a && b) ≡ true
both true b e h = h
both false b e h = absurd (true≢false (sym e))

pub distinct-once : (ls : List HeldLocal) → twice_of (map (λ l. l.name) ls) ≡ None → are_distinct (map local_in ls) ≡ true
distinct-once [] h = refl
distinct-once (l ∷ ls) h = let k : (none-same l.name (map (λ l. l.name) ls) ≡ true) × (twice_of (map (λ l. l.name) ls) ≡ None) = once-none l.name (map (λ l. l.name) ls) h in
    both (list_all (λ k. not (same_local (local_in l) k)) (map local_in ls)) (are_distinct (map local_in ls)) (first-same l.name ls l refl ∙ k.0) (distinct-once ls k.1)

left-false : (a b : Bool) → a ≡ false → (a && b) ≡ false
left-false a b e = ap (λ z. z && b) e

right-false : (a b : Bool) → b ≡ false → (a && b) ≡ false
right-false true b e = e
right-false false b e = refl

by-twice : (y : Option (List ℕ)) (names : List (Option (List ℕ))) (x : List ℕ) (T : Type 0) → twice_of (y ∷ names) ≡ Some x → (none-same y names ≡ false → T) → (twice_of names ≡ Some x → T) → T
by-twice None names x T h f g = g h
by-twice (Some z) names x T h f g = by-if (list_any (is_named z) names) (Some z) (twice_of names) (Some x) T h (λ e k. f (none-named z names ∙ ap not e)) (λ e k. g k)

pub distinct-twice : (ls : List HeldLocal) (x : List ℕ) → twice_of (map (λ l. l.name) ls) ≡ Some x → are_distinct (map local_in ls) ≡ false
distinct-twice [] x h = absurd (cc)
distinct-twice (l ∷ ls) x h = by-twice l.name (map (λ l. l.name) ls) x (are_distinct (map local_in (l ∷ ls)) ≡ false) h
    (λ e. left-false (list_all (λ k. not (same_local (local_in l) k)) (map local_in ls)) (are_distinct (map local_in ls)) (first-same l.name ls l refl ∙ e))
    (λ k. right-false (list_all (λ k. not (same_local (local_in l) k)) (map local_in ls)) (are_distinct (map local_in ls)) (distinct-twice ls x k))

-- ---- the types that options and lists hold

pub absent-opt : (t : NormalType) → absent_of (ty.Opt t) ≡ none_of
absent-opt t = ap absent_of (option-made t)

pub present-opt : (t : NormalType) → present_of (ty.Opt t) ≡ Some (t ∷ [])
present-opt t = ap present_of (option-made t)

pub empty-many : (t : NormalType) → empty_of (ty.Many t) ≡ none_of
empty-many t = ap empty_of (list-made t)

pub cons-many : (t : NormalType) → cons_of (ty.Many t) ≡ Some (t ∷ list_of t ∷ [])
cons-many t = ap cons_of (list-made t)

pub ruleset holding = (absent-opt, present-opt, empty-many, cons-many, list-made)

-- ---- one form among all

pub same-names : (p q : PatForm) (r : Result (List (Option (List ℕ))) Memory) → p ≡ q → IfOk r (λ names. names ≡ names_of q) → IfOk r (λ names. names ≡ names_of p)
same-names p q r is h = subst (λ z. IfOk r (λ names. names ≡ names_of z)) (sym is) h

pub same-bound : (d : Declared) (t : NormalType) (p q : Pattern) (r : Result (Option (List NormalType)) Memory) → p ≡ q → IfOk r (λ types. types ≡ bound_by d t q) → IfOk r (λ types. types ≡ bound_by d t p)
same-bound d t p q r is h = subst (λ z. IfOk r (λ types. types ≡ bound_by d t z)) (sym is) h

pub bound-if : (d : Declared) (t : NormalType) (p q : Pattern) (b : Bool) (r : Result (Option (List NormalType)) Memory) → p ≡ q → (if b then none_of else None) ≡ bound_by d t q → IfOk r (λ types. types ≡ (if b then none_of else None)) → IfOk r (λ types. types ≡ bound_by d t p)
bound-if d t p q b r is e h = same-bound d t p q r is (subst (λ z. IfOk r (λ types. types ≡ z)) e h)

-- ---- the constructor with a number

abbrev told : Variant → ℕ × Option NormalType
told v = (v.datatype, v.arg)

pub variant-there : (vs : List Variant) (n : ℕ) (v : Variant) (t : NormalType) → slice_get vs n ≡ Some v → tagged_of t (v.datatype, v.arg) ≡ option_and_then (tagged_of t) (slice_get (variants_in vs) n)
variant-there vs n v t e = sym (ap (option_and_then (tagged_of t)) (slice_get-map told vs n ∙ ap (option_map told) e))

pub variant-none : (vs : List Variant) (n : ℕ) (t : NormalType) → slice_get vs n ≡ None → None ≡ option_and_then (tagged_of t) (slice_get (variants_in vs) n)
variant-none vs n t e = sym (ap (option_and_then (tagged_of t)) (slice_get-map told vs n ∙ ap (option_map told) e))

pub ruleset variants = (variant-there, variant-none)

pub ruleset locals = (locals-step, locals-none, locals-end)

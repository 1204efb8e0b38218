-- A pattern with what it binds, and what is wrong with one.
use Rattle.std.proofs.Common.{◌≡◌, refl, ap, sym, ◌∙◌, subst, ℕ, Bool, true, false, List, [], map, length, Option, Some, None}
use Rattle.std.specs.Prelude.{option_map, option_and_then, ◌==◌, if◌then◌else◌}
use Rattle.std.proofs.lemmas.Bool.Decides.{Decides-eqb}
use Rattle.std.proofs.lemmas.List.{length-map}
use Rattle.ur_base.specs.declared.refusal.Refusal.{Refusal}
use Rattle.ur_syntax.specs.declared.exp.PatForm.{PatForm}
use Rattle.ur_terms.specs.declared.term.Pattern.{Pattern}
use Rattle.ur_rows.specs.declared.normal.NormalType.{NormalType}
use Rattle.ur_tree.specs.Patterns.{bound_by}
use Rattle.ur_typed_rules.specs.Names.{value}
use Rattle.ur_typed_rules.specs.Scopes.{World}
use Rattle.ur_typed_rules.specs.Tests.{are_distinct}
use Rattle.ur_typed_rules.specs.Faults.{TellsType, unknown, twice}
use Rattle.ur_typed_rules.specs.Repeats.{IsTwiceIn, twice_of}
use Rattle.ur_typed_rules.specs.Rules.{if_so, pattern_of, if_as_many, bound_in}
use Rattle.ur_typed_rules.specs.Patterns.{BreaksPat, of_other_type, of_other_count, unknown_pat, binds_twice, of_another}
use Rattle.ur_typed_rules.proofs.Repeats.{twice-stands, by-if}
use Rattle.ur_base.specs.Stopping.{Says}
use Rattle.ur_check_scopes.specs.declared.locals.Local.{Local as HeldLocal}
use Rattle.ur_check_scopes.specs.Views.{local_in, of_variables, Refuses}
use Rattle.ur_check_cases.specs.Binding.{plain_pattern, names_of, locals_with, paired, bound_as, IsUnknown}
use Rattle.ur_check_cases.proofs.Binders.{named, names-apart, with-length, with-types, whole-pattern, names-in, distinct-once, distinct-twice}

-- ---- what is bound

one-list : (x y : List HeldLocal) → Some x ≡ Some y → x ≡ y
one-list x y h = cc

one-types : (x y : List NormalType) → Some x ≡ Some y → x ≡ y
one-types x y h = cc

abbrev IsPaired : List (Option (List ℕ)) → Option (List NormalType) → List HeldLocal → Type 0
IsPaired names o ls = (types : List NormalType) × (o ≡ Some types) × (length names ≡ length types) × (ls ≡ locals_with names types)

is-paired : (names : List (Option (List ℕ))) (o : Option (List NormalType)) (ls : List HeldLocal) → option_and_then (paired names) o ≡ Some ls → IsPaired names o ls
is-paired names None ls h = absurd (cc)
is-paired names (Some types) ls h = by-if (length names == length types) (Some (locals_with names types)) None (Some ls) (IsPaired names (Some types) ls) h
    (λ e k. (types, refl, (Decides-eqb (length names) (length types)).0 e, sym (one-list (locals_with names types) ls k))) (λ e k. absurd (cc))

other-count : (names : List (Option (List ℕ))) (o : Option (List NormalType)) (types : List NormalType) → option_and_then (paired names) o ≡ None → o ≡ Some types → (length names == length types) ≡ false
other-count names None types h e = absurd (cc)
other-count names (Some ts) types h e = by-if (length names == length ts) (Some (locals_with names ts)) None None ((length names == length types) ≡ false) h
    (λ t k. absurd (cc)) (λ f k. subst (λ z. (length names == length z) ≡ false) (one-types ts types e) f)

so-true : {A : Type 0} (b : Bool) (o : Option A) → b ≡ true → if_so b o ≡ o
so-true b o e = ap (λ z. if_so z o) e

pub whole-bound : (w : World) (t : NormalType) (q : Pattern) (names : List (Option (List ℕ))) (ls : List HeldLocal) → bound_as w.declared t q names ≡ Some ls → bound_in w t (map local_in ls, q) ≡ Some (of_variables ls)
whole-bound w t q names ls b =
    let p : IsPaired names (bound_by w.declared t q) ls = is-paired names (bound_by w.declared t q) ls b in
    let types : List NormalType = p.0 in
    let same : length (map local_in ls) ≡ length types = length-map ls local_in ∙ ap length p.3 ∙ with-length names types p.2 in
    ap (option_and_then (if_as_many (map local_in ls))) p.1 ∙ so-true (length (map local_in ls) == length types) (Some types) ((Decides-eqb (length (map local_in ls)) (length types)).1 same)
    ∙ ap Some (sym (ap of_variables p.3 ∙ with-types names types p.2))

pub bound-pattern : (w : World) (t : NormalType) (p : PatForm) (q : Pattern) (ls : List HeldLocal) → plain_pattern w.globals p ≡ Some q → bound_as w.declared t q (names_of p) ≡ Some ls → pattern_of w.globals p ≡ Some (map local_in ls, q)
bound-pattern w t p q ls e b =
    let y : IsPaired (names_of p) (bound_by w.declared t q) ls = is-paired (names_of p) (bound_by w.declared t q) ls b in
    whole-pattern w.globals p q y.0 ls e y.2 y.3

-- ---- what is wrong

pub unknown-told : (names : List (List ℕ)) (w : World) (u : NormalType) (p : PatForm) (r : Refusal) → IsUnknown w.globals p r → Refuses names (BreaksPat names w u p) r
unknown-told names w u p r x = (unknown x.1, unknown_pat x.2 x.3, x.4)

apart-is : (w : World) (p : PatForm) (q : Pattern) → plain_pattern w.globals p ≡ Some q → pattern_of w.globals p ≡ Some (map value (names_of p), q)
apart-is w p q e = names-apart w.globals p ∙ ap (option_map (named (map value (names_of p)))) e

other-broken : (names : List (List ℕ)) (w : World) (u : NormalType) (p : PatForm) (q : Pattern) → plain_pattern w.globals p ≡ Some q → bound_as w.declared u q (names_of p) ≡ None → (o : Option (List NormalType)) → bound_by w.declared u q ≡ o → BreaksPat names w u p (of_another names u)
other-broken names w u p q e b None h = of_other_type (apart-is w p q e) h
other-broken names w u p q e b (Some types) h = of_other_count (apart-is w p q e) h (ap (λ n. n == length types) (length-map (names_of p) value) ∙ other-count (names_of p) (bound_by w.declared u q) types b h)

pub other-told : (names : List (List ℕ)) (w : World) (u : NormalType) (p : PatForm) (q : Pattern) → plain_pattern w.globals p ≡ Some q → (r : Refusal) → TellsType names r (of_another names u) × (bound_as w.declared u q (names_of p) ≡ None) → Refuses names (BreaksPat names w u p) r
other-told names w u p q e r x = (of_another names u, other-broken names w u p q e x.1 (bound_by w.declared u q) refl, x.0)

twice-broken : (names : List (List ℕ)) (w : World) (u : NormalType) (p : PatForm) (q : Pattern) (ls : List HeldLocal) (x : List ℕ) → plain_pattern w.globals p ≡ Some q → bound_as w.declared u q (names_of p) ≡ Some ls → twice_of (map (λ l. l.name) ls) ≡ Some x →
    BreaksPat names w u p (twice x)
twice-broken names w u p q ls x e b h =
    binds_twice (bound-pattern w u p q ls e b) (subst (λ z. IsTwiceIn x z) (sym (names-in ls)) (twice-stands (map (λ l. l.name) ls) x h)) (distinct-twice ls x h)

pub twice-told : (names : List (List ℕ)) (w : World) (u : NormalType) (p : PatForm) (q : Pattern) (ls ms : List HeldLocal) → plain_pattern w.globals p ≡ Some q → bound_as w.declared u q (names_of p) ≡ Some ls → ms ≡ ls →
    (r : Refusal) → (x : List ℕ) × (twice_of (map (λ l. l.name) ms) ≡ Some x) × Says r 8 x [] → Refuses names (BreaksPat names w u p) r
twice-told names w u p q ls ms e b s r x = (twice x.0, twice-broken names w u p q ls x.0 e b (ap (λ z. twice_of (map (λ l. l.name) z)) (sym s) ∙ x.1), x.2)

pub once-distinct : (ls ms : List HeldLocal) → ms ≡ ls → twice_of (map (λ l. l.name) ms) ≡ None → are_distinct (map local_in ls) ≡ true
once-distinct ls ms s h = distinct-once ls (ap (λ z. twice_of (map (λ l. l.name) z)) (sym s) ∙ h)

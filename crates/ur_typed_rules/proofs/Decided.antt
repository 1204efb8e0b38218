-- The tests of parameters, branches, names and page functions.
use Rattle.std.proofs.Common.{inl, inr, ◌≡◌, refl, ap, ap₂, sym, ◌∙◌, subst, ℕ, Bool, true, false, not, ◌&&◌, ◌||◌, ◌↔◌, IsTrue, IsFalse, List, [], ◌∷◌, Option, Some, None, bytes_eq, true≢false}
use Rattle.std.proofs.lemmas.Bool.{cases_Bool}
use Rattle.std.proofs.lemmas.Slice.Eq.{bytes_eq-Decides}
use Rattle.std.specs.List.{AllByRecursion, IsDistinct, list_all}
use Rattle.ur_rows.specs.declared.normal.NormalType.{NormalType, end_of-NormalType as sole, more_of-NormalType as the}
use Rattle.ur_rows.specs.declared.normal.NormalType.TheVariants as ty
use Rattle.ur_rows.specs.Types.{holds_arrow, is_placed, transaction_of}
use Rattle.ur_terms.specs.declared.term.Pattern.{Pattern}
use Rattle.ur_tree.specs.declared.exp.Param.{Param}
use Rattle.ur_tree.specs.declared.typed.ConParam.{ConParam}
use Rattle.ur_tree.specs.Heads.{Head, Declared}
use Rattle.ur_tree.specs.Env.{Env, IsType}
use Rattle.ur_tree.specs.Patterns.{same_pattern, last_is_any, has_all, constructors_of, Covers}
use Rattle.ur_tree.specs.Typing.{IsParam, AreParams, no_fixed, IsPage}
use Rattle.ur_typed_rules.specs.Names.{Local, Binds, binds_value, binds_static, AreDistinct}
use Rattle.ur_typed_rules.specs.Names as here
use Rattle.ur_typed_rules.specs.Tests.{is_type, is_param, are_params, all_pairs, are_once, covers, local_name, same_name, same_local, are_distinct, is_page_type, no_cons, is_page}
use Rattle.ur_typed_rules.specs.Laws.{AreStaticByType}
use Rattle.ur_typed_rules.proofs.Lists.{both_of, of_both, pairs_of_test, test_of_pairs}
use Rattle.ur_typed_rules.proofs.Rows.{type_decided}

-- ---- parameters

params_of_test : (env : Env) (ps : List Param) → are_params env ps ≡ true → AreStaticByType ps → AreParams env ps
params_of_test env [] h s = tt
params_of_test env (p ∷ ps) h s =
    let k : (is_param env p ≡ true) × (are_params env ps ≡ true) = both_of (is_param env p) (are_params env ps) h in
    let m : (is_type env p.of ≡ true) × (is_placed p.of ≡ true) = both_of (is_type env p.of) (is_placed p.of) k.0 in
    (record { written = (type_decided env p.of).0 m.0; placed = m.1; fixed = s.0 }, params_of_test env ps k.1 s.1)

test_of_params : (env : Env) (ps : List Param) → AreParams env ps → are_params env ps ≡ true
test_of_params env [] h = refl
test_of_params env (p ∷ ps) h = of_both (is_param env p) (are_params env ps) (of_both (is_type env p.of) (is_placed p.of) ((type_decided env p.of).1 h.0.written) h.0.placed) (test_of_params env ps h.1)

static_of_params : (env : Env) (ps : List Param) → AreParams env ps → AreStaticByType ps
static_of_params env [] h = tt
static_of_params env (p ∷ ps) h = (h.0.fixed, static_of_params env ps h.1)

pub params_decided : (env : Env) (ps : List Param) → (IsTrue (are_params env ps) × AreStaticByType ps) ↔ AreParams env ps
params_decided env ps = (λ h. params_of_test env ps h.0 h.1, λ h. (test_of_params env ps h, static_of_params env ps h))

-- ---- branches

false_of : (b : Bool) → not b ≡ true → b ≡ false
false_of false e = refl
false_of true e = absurd (true≢false (sym e))

differ_of_test : {A : Type 0} (eq : A → A → Bool) (x : A) (xs : List A) → list_all (λ y. not (eq x y)) xs ≡ true → AllByRecursion (λ y. eq x y ≡ false) xs
differ_of_test eq x [] h = tt
differ_of_test eq x (y ∷ ys) h = let k : (not (eq x y) ≡ true) × (list_all (λ y. not (eq x y)) ys ≡ true) = both_of (not (eq x y)) (list_all (λ y. not (eq x y)) ys) h in (false_of (eq x y) k.0, differ_of_test eq x ys k.1)

test_of_differ : {A : Type 0} (eq : A → A → Bool) (x : A) (xs : List A) → AllByRecursion (λ y. eq x y ≡ false) xs → list_all (λ y. not (eq x y)) xs ≡ true
test_of_differ eq x [] h = refl
test_of_differ eq x (y ∷ ys) h = of_both (not (eq x y)) (list_all (λ y. not (eq x y)) ys) (ap not h.0) (test_of_differ eq x ys h.1)

once_of_test : {A : Type 0} (eq : A → A → Bool) (xs : List A) → are_once eq xs ≡ true → IsDistinct eq xs
unfolding IsDistinct
once_of_test eq [] h = tt
once_of_test eq (x ∷ xs) h = let k : (list_all (λ y. not (eq x y)) xs ≡ true) × (are_once eq xs ≡ true) = both_of (list_all (λ y. not (eq x y)) xs) (are_once eq xs) h in (differ_of_test eq x xs k.0, once_of_test eq xs k.1)

test_of_once : {A : Type 0} (eq : A → A → Bool) (xs : List A) → IsDistinct eq xs → are_once eq xs ≡ true
unfolding IsDistinct
test_of_once eq [] h = refl
test_of_once eq (x ∷ xs) h = of_both (list_all (λ y. not (eq x y)) xs) (are_once eq xs) (test_of_differ eq x xs h.0) (test_of_once eq xs h.1)

pub branches_decided : (d : Declared) (t : NormalType) (ps : List Pattern) → IsTrue (covers d t ps) ↔ Covers d t ps
branches_decided d t ps =
    let whole : Bool = last_is_any ps || has_all (constructors_of d t) ps in (
      λ h. let k : (are_once same_pattern ps ≡ true) × (whole ≡ true) = both_of (are_once same_pattern ps) whole h in record { once = once_of_test same_pattern ps k.0; whole = k.1 },
      λ h. of_both (are_once same_pattern ps) whole (test_of_once same_pattern ps h.once) h.whole,
    )

-- ---- names

Apart_names : Local → Local → Type 0
Apart_names l k = (x : List ℕ) → Binds l x → Binds k x → ⊥

name_of_binds : (l : Local) (x : List ℕ) → Binds l x → local_name l ≡ Some x
name_of_binds _ _ binds_value = refl
name_of_binds _ _ binds_static = refl

binds_of_name : (l : Local) (x : List ℕ) → local_name l ≡ Some x → Binds l x
binds_of_name (here.value (Some y)) x e = subst (λ z. Binds (here.value (Some y)) z) (cc) binds_value
binds_of_name (here.static (Some y)) x e = subst (λ z. Binds (here.static (Some y)) z) (cc) binds_static
binds_of_name (here.value None) x e = cc
binds_of_name (here.static None) x e = cc

same_self : (x : List ℕ) → same_name (Some x) (Some x) ≡ true
same_self x = (bytes_eq-Decides x x).1 refl

apart_of_test : (l k : Local) → not (same_local l k) ≡ true → (x : List ℕ) → Binds l x → Binds k x → ⊥
apart_of_test l k h x a b = true≢false (sym (ap₂ same_name (name_of_binds l x a) (name_of_binds k x b) ∙ same_self x) ∙ false_of (same_local l k) h)

test_of_names : (l k : Local) (m n : Option (List ℕ)) → local_name l ≡ m → local_name k ≡ n → ((x : List ℕ) → Binds l x → Binds k x → ⊥) → not (same_name m n) ≡ true
test_of_names l k None n em en h = refl
test_of_names l k (Some x) None em en h = refl
test_of_names l k (Some x) (Some y) em en h = elim (cases_Bool (bytes_eq x y)) [
  | inl e ↦ absurd (h x (binds_of_name l x em) (binds_of_name k x (en ∙ ap (λ z. Some z) (sym ((bytes_eq-Decides x y).0 e)))))
  | inr e ↦ ap not e
]

pub names_decided : (ls : List Local) → IsTrue (are_distinct ls) ↔ AreDistinct ls
names_decided ls = (
  pairs_of_test (λ l k. not (same_local l k)) (λ l k. (x : List ℕ) → Binds l x → Binds k x → ⊥) apart_of_test ls,
  test_of_pairs (λ l k. not (same_local l k)) (λ l k. (x : List ℕ) → Binds l x → Binds k x → ⊥) (λ l k h. test_of_names l k (local_name l) (local_name k) refl refl h) ls,
)

-- ---- page functions

no_cons_is : (cons : List ConParam) → no_cons cons ≡ true → cons ≡ []
no_cons_is [] h = refl
no_cons_is (c ∷ cons) h = absurd (true≢false (sym h))

page_is : (t : NormalType) → is_page_type t ≡ true → t ≡ transaction_of ty.Page
page_is (ty.Transaction' _ (the ty.Page sole)) h = refl
page_is _ h = cc

pub pages_decided : (h : Head) → IsTrue (is_page h) ↔ IsPage h
pages_decided h = (
  λ e. let k : (no_cons h.cons ≡ true) × ((no_fixed h.params && is_page_type h.result) ≡ true) = both_of (no_cons h.cons) (no_fixed h.params && is_page_type h.result) e in
      let m : (no_fixed h.params ≡ true) × (is_page_type h.result ≡ true) = both_of (no_fixed h.params) (is_page_type h.result) k.1 in
      record { no_cons = no_cons_is h.cons k.0; values = m.0; result = page_is h.result m.1 },
  λ p. of_both (no_cons h.cons) (no_fixed h.params && is_page_type h.result) (ap no_cons p.no_cons) (of_both (no_fixed h.params) (is_page_type h.result) p.values (ap is_page_type p.result)),
)

-- What a written form is, told by its tests.
use Rattle.std.proofs.Common.{arith, ◌≡◌, ◌≢◌, ◌∙◌, refl, sym, subst, Bool, true, false, true≢false, Some, None, List, [], ◌∷◌, ◌++◌, ℕ, zero, suc, ◌+◌}
use Rattle.std.specs.Prelude.{bytes_eq, codes, slice_get}
use Rattle.std.proofs.lemmas.Slice.Eq.{bytes_eq-Decides}
use mathlib.Core.Former.{Count}
use Rattle.ur_base.specs.Shape.{Shape, count}
use Rattle.ur_base.specs.declared.refusal.Span.{Span}
use Rattle.ur_syntax.specs.declared.exp.LambdaParam.{LambdaParam}
use Rattle.ur_syntax.specs.declared.exp.ExpForm.{ExpForm, Row_of-Exp, end_of-Exp as alone, more_of-Exp as its, Row_of-Field, Row_of-LetVal, end_of-LetVal}
use Rattle.ur_syntax.specs.declared.exp.ExpForm.TheVariants as e
use Rattle.ur_typed.specs.Resolves.{IsAntiquote, later}
use Rattle.ur_typed.specs.Rules.{says_true, says_false, says_none, says_other, chosen, capital_of}
use Rattle.ur_typed.specs.Causes.{is_lambda, is_record}

-- ---- names with a capital

pub true_of : (a b c : Bool) → chosen a says_true (chosen b says_false (chosen c says_none says_other)) ≡ says_true → a ≡ true
true_of true b c h = refl
true_of false true c h = cc
true_of false false true h = cc
true_of false false false h = cc

pub false_of : (a b c : Bool) → chosen a says_true (chosen b says_false (chosen c says_none says_other)) ≡ says_false → b ≡ true
false_of true b c h = cc
false_of false true c h = refl
false_of false false true h = cc
false_of false false false h = cc

pub none_of : (a b c : Bool) → chosen a says_true (chosen b says_false (chosen c says_none says_other)) ≡ says_none → c ≡ true
none_of true b c h = cc
none_of false true c h = cc
none_of false false true h = refl
none_of false false false h = cc

pub none_word : (x : List ℕ) → capital_of x ≡ says_none → x ≡ codes "None"
none_word x ek = (bytes_eq-Decides x (codes "None")).0 (none_of (bytes_eq x (codes "True")) (bytes_eq x (codes "False")) (bytes_eq x (codes "None")) ek)

pub other_of : (a b c : Bool) → chosen a says_true (chosen b says_false (chosen c says_none says_other)) ≡ says_other → (a ≡ false) × (b ≡ false) × (c ≡ false)
other_of true b c h = cc
other_of false true c h = cc
other_of false false true h = cc
other_of false false false h = (refl, refl, refl)

pub word_is : (x y : List ℕ) → bytes_eq x y ≡ true → x ≡ y
word_is x y h = (bytes_eq-Decides x y).0 h

pub word_is_not : (x y : List ℕ) → bytes_eq x y ≡ false → x ≢ y
word_is_not x y h k = true≢false (sym ((bytes_eq-Decides x y).1 k) ∙ h)

-- ---- forms

pub record_is : (y : ExpForm) → is_record y ≡ true → (n : Shape) × (fields : Row_of-Field (count n)) × (y ≡ e.Record' n fields)
record_is (e.Record' n fields) h = (n, fields, refl)
record_is _ h = cc

pub lambda_is : (x : ExpForm) → is_lambda x ≡ true → (ps : List LambdaParam) × (a : Span) × (b : ExpForm) × (x ≡ e.Lambda' ps tt (its a b alone))
lambda_is (e.Lambda' ps _ (its a b alone)) h = (ps, a, b, refl)
lambda_is _ h = cc

pub next_of : (n : Count) (p : Span) (y x : ExpForm) (rest : Row_of-Exp n) (i : ℕ) → IsAntiquote n rest i x → IsAntiquote _ (its p y rest) (suc i) x
next_of n p y x rest i r = let j : i + 1 ≡ suc i = omega arith in subst (λ k. IsAntiquote _ (its p y rest) k x) j (later r)

-- whether a `let` has a `val`
abbrev pub has_vals : {n : _} → Row_of-LetVal n → Bool
has_vals end_of-LetVal = false
has_vals _ = true

-- ---- lists

pub front_get : {A : Type 0} (xs ys : List A) (n : ℕ) (x : A) → slice_get xs n ≡ Some x → slice_get (xs ++ ys) n ≡ Some x
front_get [] ys n x h = cc
front_get (y ∷ xs) ys zero x h = h
front_get (y ∷ xs) ys (suc n) x h = front_get xs ys n x h

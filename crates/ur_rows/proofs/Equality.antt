-- Comparisons tell what is equal.
use Rattle.std.proofs.Common.{◌≡◌, refl, ap, sym, ◌∙◌, subst, ℕ, Bool, true, false, List, [], ◌∷◌, Ordering, Less, Equal, Greater, nat_cmp, is_eq, ◌↔◌, IsTrue, true≢false}
use Rattle.std.specs.Ordering.{ordering_then}
use Rattle.std.specs.Cmp.Lexicographic.{slice_cmp}
use Rattle.std.proofs.lemmas.Cmp.{tied_itself, nat_list_cmp_total}
use Rattle.std.proofs.lemmas.Map.Text.{is_eq-slice_cmp}
use Rattle.std.proofs.lemmas.Slice.Eq.{bytes_eq-Decides}
use Rattle.ur_rows.specs.declared.normal.Label.{Label}
use Rattle.ur_rows.specs.declared.normal.NormalType.{NormalType}
use Rattle.ur_rows.specs.declared.normal.Part.{Part}
use Rattle.ur_rows.specs.Made.{row}
use Rattle.ur_rows.specs.Order.{label_form, type_form, parts_form}
use Rattle.ur_rows.specs.Told.{Tells, row_form}
use Rattle.ur_rows.proofs.Order.{label-one, type-one, parts-one, parts-row}

then-equal : (o : Ordering) → ordering_then o Equal ≡ o
then-equal Less = refl
then-equal Equal = refl
then-equal Greater = refl

told-forms : {o : Ordering} {f g : List ℕ → List ℕ} → Tells o f g → o ≡ slice_cmp nat_cmp (f []) (g [])
told-forms {o} k = sym (k.told [] [] ∙ then-equal o)

forms-equal : (x y : List ℕ) (o : Ordering) → o ≡ slice_cmp nat_cmp x y → is_eq o ≡ true → x ≡ y
forms-equal x y o e f = (bytes_eq-Decides x y).0 (sym (is_eq-slice_cmp x y) ∙ ap is_eq (sym e) ∙ f)

equal-forms : (x y : List ℕ) (o : Ordering) → o ≡ slice_cmp nat_cmp x y → x ≡ y → is_eq o ≡ true
equal-forms x y o e f = ap is_eq e ∙ is_eq-slice_cmp x y ∙ (bytes_eq-Decides x y).1 f

pub equal-types : (t u : NormalType) (o : Ordering) (b : Bool) → Tells o (type_form t) (type_form u) → b ≡ is_eq o → IsTrue b ↔ (t ≡ u)
equal-types t u o b k e = (
  λ h. (type-one t u [] [] (forms-equal (type_form t []) (type_form u []) o (told-forms k) (sym e ∙ h))).0,
  λ h. e ∙ equal-forms (type_form t []) (type_form u []) o (told-forms k) (ap (λ z. type_form z []) h),
)

pub equal-rows : (r s : List Part) (o : Ordering) (b : Bool) → Tells o (row_form r) (row_form s) → b ≡ is_eq o → IsTrue b ↔ (r ≡ s)
equal-rows r s o b k e = (
  λ h. sym (parts-row r) ∙ (parts-one (row r).1 (row s).1 [] [] (forms-equal (row_form r []) (row_form s []) o (told-forms k) (sym e ∙ h))).0 ∙ parts-row s,
  λ h. e ∙ equal-forms (row_form r []) (row_form s []) o (told-forms k) (ap (λ z. row_form z []) h),
)

pub equal-labels : (l m : Label) (o : Ordering) (b : Bool) → Tells o (label_form l) (label_form m) → b ≡ is_eq o → IsTrue b ↔ (l ≡ m)
equal-labels l m o b k e = (
  λ h. (label-one l m [] [] (forms-equal (label_form l []) (label_form m []) o (told-forms k) (sym e ∙ h))).0,
  λ h. e ∙ equal-forms (label_form l []) (label_form m []) o (told-forms k) (ap (λ z. label_form z []) h),
)

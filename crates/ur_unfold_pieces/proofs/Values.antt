-- First-order types, form by form, and lists that a loop makes.
use Rattle.std.proofs.Common.{◌≡◌, ◌<◌, ◌≤◌, ℕ, ◌+◌, List, [], ◌∷◌, ◌++◌, map, flat_map, length, drop, get_or, Result, Ok, Err, IfOk, refl, sym, ap, ap₂, ◌∙◌, append_assoc, append-nil, drop-cons, add-one}
use Rattle.std.proofs.lemmas.List.{drop_all, map-append}
use Rattle.std.specs.Prelude.{OnOk}
use Rattle.ur_base.specs.declared.names.Name.{Name}
use Rattle.ur_values.specs.declared.types.TypeField.{TypeField}
use Rattle.ur_values.specs.declared.types.ValueType.{ValueType}
use Rattle.ur_values.specs.declared.types.ValueType.TheVariants as vt
use Rattle.ur_terms.specs.Types.{typed_field, unit_type}
use Rattle.ur_rows.specs.declared.normal.Label.{Label}
use Rattle.ur_rows.specs.declared.normal.Var.{Var}
use Rattle.ur_rows.specs.declared.normal.NormalType.{NormalType}
use Rattle.ur_rows.specs.declared.normal.NormalType.TheVariants as ty
use Rattle.ur_rows.specs.declared.normal.NormalType.TheBlock.{end_of-NormalType as alone, more_of-NormalType as its}
use Rattle.ur_rows.specs.declared.normal.Part.{Part}
use Rattle.ur_rows.specs.declared.normal.Part.TheVariants as part
use Rattle.ur_rows.specs.Made.{row}
use Rattle.ur_rows.proofs.Shapes.{option-made, list-made, transaction-made, arrow-made, record-made, form-made, field-made, mapped-made}
use Rattle.ur_source.specs.Reading.{Names, Cons, value_type, field_types, field_type, number_or_first, closed_type, result_type}
use Rattle.ur_unfold_pieces.specs.Reading.{part_field_types, row_field_types}

fields-are : (names : Names) (r : List Part) → map typed_field (field_types names (row r).1) ≡ row_field_types names r
fields-are names [] = refl
fields-are names (p ∷ r) = map-append typed_field (field_type names p) (field_types names (row r).1) ∙ ap (λ fs. part_field_types names p ++ fs) (fields-are names r)

pub value-Opt : (names : Names) (t : NormalType) → value_type names (ty.Opt t) ≡ vt.Opt (value_type names t)
value-Opt names t = ap (value_type names) (option-made t)

pub value-Many : (names : Names) (t : NormalType) → value_type names (ty.Many t) ≡ vt.Many (value_type names t)
value-Many names t = ap (value_type names) (list-made t)

pub value-Transaction : (names : Names) (t : NormalType) → value_type names (ty.Transaction t) ≡ unit_type
value-Transaction names t = ap (value_type names) (transaction-made t)

pub value-Arrow : (names : Names) (t u : NormalType) → value_type names (ty.Arrow t u) ≡ unit_type
value-Arrow names t u = ap (value_type names) (arrow-made t u)

pub value-Record : (names : Names) (r : List Part) → value_type names (ty.Record r) ≡ vt.Record (row_field_types names r)
value-Record names r = ap (value_type names) (record-made r) ∙ ap vt.Record (fields-are names r)

pub value-Form : (names : Names) (r : List Part) → value_type names (ty.Form r) ≡ vt.Form (row_field_types names r)
value-Form names r = ap (value_type names) (form-made r) ∙ ap vt.Form (fields-are names r)

pub part-Field : (names : Names) (l : Label) (t : NormalType) → part_field_types names (part.Field l t) ≡ record { name = number_or_first names l; of = value_type names t } ∷ []
part-Field names l t = ap (part_field_types names) (field-made l t)

pub part-Piece : (names : Names) (v : Var) → part_field_types names (part.Piece v) ≡ []
part-Piece names v = refl

pub part-Mapped : (names : Names) (v : Var) (t : NormalType) → part_field_types names (part.Mapped v t) ≡ []
part-Mapped names v t = ap (part_field_types names) (mapped-made v t)

pub pushed_field : {A E : Type 0} (names : Names) (p : Part) (l : Label) (t : NormalType) (n : Name) (of : ValueType) (old new : List TypeField) (r : Result A E) → p ≡ part.Field l t → n ≡ number_or_first names l → of ≡ value_type names t
    → OnOk r (new ≡ old ++ record { name = n; of = of } ∷ []) → OnOk r (new ≡ old ++ part_field_types names p)
pushed_field names p l t n of old new (Ok u) e f g h =
    h ∙ ap (λ (fs : List TypeField). old ++ fs) (ap₂ (λ (a : Name) (b : ValueType). record { name = a; of = b } ∷ []) f g ∙ sym (ap (part_field_types names) e ∙ part-Field names l t))
pushed_field names p l t n of old new (Err y) e f g h = tt

pub ruleset values = (value-Opt, value-Many, value-Transaction, value-Arrow, value-Record, value-Form, part-Field, part-Piece, part-Mapped)

-- ---- results

pub result-Transaction : (names : Names) (cs : Cons) (t : NormalType) → (result_type names cs (ty.Transaction t)).1 ≡ closed_type names cs t
result-Transaction names cs t = ap (λ u. (result_type names cs u).1) (transaction-made t)

pub result-other : (names : Names) (cs : Cons) (t : NormalType) → ((u : NormalType) → t ≡ ty.Transaction u → ⊥) → (result_type names cs t).1 ≡ closed_type names cs t
result-other names cs ty.Int h = refl
result-other names cs ty.Str h = refl
result-other names cs ty.Bool h = refl
result-other names cs ty.Page h = refl
result-other names cs ty.Xbody h = refl
result-other names cs ty.Xtable h = refl
result-other names cs ty.Xtr h = refl
result-other names cs (ty.Variable v) h = refl
result-other names cs (ty.Datatype d) h = refl
result-other names cs (ty.Opt' _ t) h = refl
result-other names cs (ty.Many' _ t) h = refl
result-other names cs (ty.Transaction' _ (its t alone)) h = absurd (h t (sym (transaction-made t)))
result-other names cs (ty.Arrow' _ a _ b) h = refl
result-other names cs (ty.Record' _ r) h = refl
result-other names cs (ty.Form' _ r) h = refl

pub result_is : {E : Type 0} (names : Names) (cs : Cons) (u t : NormalType) (r : Result ValueType E) → u ≡ ty.Transaction t → IfOk r (λ x. x ≡ closed_type names cs t) → IfOk r (λ x. x ≡ (result_type names cs u).1)
result_is names cs u t (Ok x) e h = h ∙ sym (ap (λ (v : NormalType). (result_type names cs v).1) e ∙ result-Transaction names cs t)
result_is names cs u t (Err y) e h = tt

-- ---- lists

from-here : {A : Type 0} (xs : List A) (i : ℕ) (d : A) → i < length xs → drop i xs ≡ get_or xs i d ∷ drop (i + 1) xs
from-here xs i d h = rw (add-one) (drop-cons xs i d h)

pub lists_more : {A B : Type 0} (f : A → List B) (xs : List A) (i : ℕ) (x : A) (made new : List B) → i < length xs → x ≡ get_or xs i x
    → made ++ flat_map f (drop i xs) ≡ flat_map f xs → new ≡ made ++ f x → new ++ flat_map f (drop (i + 1) xs) ≡ flat_map f xs
lists_more f xs i x made new h e so n =
    let here : drop i xs ≡ x ∷ drop (i + 1) xs = from-here xs i x h ∙ ap (λ y. y ∷ drop (i + 1) xs) (sym e) in
    ap (λ l. l ++ flat_map f (drop (i + 1) xs)) n ∙ append_assoc made (f x) (flat_map f (drop (i + 1) xs))
    ∙ ap (λ l. made ++ flat_map f l) (sym here) ∙ so

pub lists_end : {A B : Type 0} (f : A → List B) (ys xs : List A) (i : ℕ) (made : List B) → xs ≡ ys → length xs ≤ i → made ++ flat_map f (drop i xs) ≡ flat_map f xs → made ≡ flat_map f ys
lists_end f ys xs i made s h so =
    sym (append-nil made) ∙ ap (λ l. made ++ flat_map f l) (sym (drop_all i xs h)) ∙ so ∙ ap (flat_map f) s

pub map_more : {A B : Type 0} (f : A → B) (xs : List A) (i : ℕ) (d : A) (y : B) (made new : List B) → i < length xs → y ≡ f (get_or xs i d)
    → made ++ map f (drop i xs) ≡ map f xs → new ≡ made ++ y ∷ [] → new ++ map f (drop (i + 1) xs) ≡ map f xs
map_more f xs i d y made new h e so n =
    ap (λ l. l ++ map f (drop (i + 1) xs)) n ∙ append_assoc made (y ∷ []) (map f (drop (i + 1) xs))
    ∙ ap (λ z. made ++ z ∷ map f (drop (i + 1) xs)) e ∙ ap (λ l. made ++ map f l) (sym (from-here xs i d h)) ∙ so

pub map_end : {A B : Type 0} (f : A → B) (ys xs : List A) (i : ℕ) (made : List B) → xs ≡ ys → length xs ≤ i → made ++ map f (drop i xs) ≡ map f xs → made ≡ map f ys
map_end f ys xs i made s h so =
    sym (append-nil made) ∙ ap (λ l. made ++ map f l) (sym (drop_all i xs h)) ∙ so ∙ ap (map f) s

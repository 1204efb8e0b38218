-- What breaks a rule of tables has no shape.
use Rattle.std.proofs.Common.{◌≡◌, ◌∙◌, ◌<◌, ℕ, zero, suc, Bool, true, false, true≢false, List, [], ◌∷◌, Option, Some, None, refl, sym, ap, subst, length, map, nat_eq, arith}
use Rattle.std.specs.Prelude.{All, Contains, bytes_eq, slice_index_or}
use Rattle.std.specs.List.{AllByRecursion, IsDistinct}
use Rattle.std.proofs.lemmas.List.Elements.{recursion_from_All, All-get_or}
use Rattle.ur_base.specs.declared.refusal.Refusal.{Refusal}
use Rattle.ur_values.specs.declared.schema.ColumnKind.{ColumnKind}
use Rattle.ur_values.specs.declared.schema.TableShape.{TableShape}
use Rattle.ur_rows.specs.declared.normal.Part.{Part}
use Rattle.ur_sqltype.specs.Expression.{is_optional}
use Rattle.ur_sqltype.specs.declared.keys.SqlKey.{SqlKey}
use Rattle.ur_sqltype.specs.Lists.{and_then, all_of, repeated}
use Rattle.ur_sqltype.specs.Table.{column_from, place_of, key_of, kind_at, HasNoOption, IsTableOf}
use Rattle.ur_sqltype.specs.SqltableFaults.{Names, KeyBreaks, key_unknown, key_twice, key_optional, KeysBreak, RowBreaks, no_column, column_twice, in_keys, no_record, in_row, BrokenIsNone}
use Rattle.ur_sqltype.proofs.Once.{none_twice}

some_is : {A : Type 0} {x y : A} → Some x ≡ Some y → x ≡ y
some_is e = cc

never : {A : Type 0} {m : Option A} {x : A} → m ≡ None → m ≡ Some x → ⊥
never e f = absurd (cc)

taken : {B : Type 0} (m : Option B) (n : Option (List B)) (ys : List B) → and_then m n ≡ Some ys → (y : B) × (rest : List B) × (m ≡ Some y) × (n ≡ Some rest) × (ys ≡ y ∷ rest)
taken None n ys e = absurd (cc)
taken (Some y) None ys e = absurd (cc)
taken (Some y) (Some rest) ys e = (y, rest, refl, refl, sym (some_is e))

-- what is an element of the list has a value, which is one of the values
each : {A B : Type 0} (f : A → Option B) (P : B → Type 0) (xs : List A) (ys : List B) → all_of f xs ≡ Some ys → AllByRecursion P ys → (k : ℕ) (x : A) → k < length xs → slice_index_or xs k x ≡ x → (y : B) × (f x ≡ Some y) × P y
each f P [] ys e a k x l i = absurd (omega (arith, l))
each f P (z ∷ xs) ys e a zero x l i = let t = taken (f z) (all_of f xs) ys e in (t.0, ap f (sym i) ∙ t.2, (subst (AllByRecursion P) t.4 a).0)
each f P (z ∷ xs) ys e a (suc k) x l i = let t = taken (f z) (all_of f xs) ys e in each f P xs t.1 t.3 (subst (AllByRecursion P) t.4 a).1 k x (omega (arith, l)) i

any : {B : Type 0} (ys : List B) → AllByRecursion (λ y. Unit {0}) ys
any [] = tt
any (y ∷ ys) = (tt, any ys)

none_of : {A B : Type 0} (f : A → Option B) (xs : List A) (ys : List B) (x : A) → Contains xs x → f x ≡ None → all_of f xs ≡ Some ys → ⊥
none_of f xs ys x c n e = let y = each f (λ z. Unit {0}) xs ys e (any ys) c.0 x c.1 c.2 in never n y.1

key_broken : (columns : List (List ℕ × ColumnKind)) (names : List (List ℕ)) (ps : List ℕ) (r : Refusal) → KeyBreaks columns names r →
    all_of (place_of columns) names ≡ Some ps → IsDistinct nat_eq ps → HasNoOption columns ps → ⊥
key_broken columns names ps r (key_unknown a c n) e d o = none_of (place_of columns) names ps a c n.none e
key_broken columns names ps r (key_twice places n h t told) e d o = never (none_twice nat_eq ps d) (ap (repeated nat_eq) (some_is (sym e ∙ h)) ∙ t)
key_broken columns names ps r (key_optional places n h _ c q told) e d o =
    let at : HasNoOption columns places = subst (HasNoOption columns) (some_is (sym e ∙ h)) o in
    true≢false (sym q ∙ subst (λ m. is_optional (kind_at columns m) ≡ false) c.2
    (All-get_or (λ m. is_optional (kind_at columns m) ≡ false) places c.0 n c.1 at))

keys_broken : (columns : List (List ℕ × ColumnKind)) (keys : List SqlKey) (ks : List (List ℕ)) (r : Refusal) → KeysBreak columns keys r →
    all_of (key_of columns) keys ≡ Some ks → All (IsDistinct nat_eq) ks → All (HasNoOption columns) ks → ⊥
keys_broken columns keys ks r k e d o =
    let c = k.stands in
    let y = each (key_of columns) (IsDistinct nat_eq) keys ks e (recursion_from_All (IsDistinct nat_eq) ks d) c.0 k.key c.1 c.2 in
    let z = each (key_of columns) (HasNoOption columns) keys ks e (recursion_from_All (HasNoOption columns) ks o) c.0 k.key c.1 c.2 in
    key_broken columns k.key.columns y.0 r k.fault y.1 y.2 (subst (HasNoOption columns) (some_is (sym z.1 ∙ y.1)) z.2)

row_broken : (names : Names) (name : List ℕ) (row : List Part) (keys : List SqlKey) (r : Refusal) (shape : TableShape) → RowBreaks names row keys r → IsTableOf name row keys shape → ⊥
row_broken names name row keys r shape (no_column n) t = none_of column_from row shape.columns n.place n.stands n.fault.none t.columns
row_broken names name row keys r shape (column_twice columns a h e told) t =
    never (none_twice bytes_eq (map (λ c. c.0) shape.columns) t.distinct) (ap (λ cs. repeated bytes_eq (map (λ c. c.0) cs)) (some_is (sym t.columns ∙ h)) ∙ e)
row_broken names name row keys r shape (in_keys columns h k) t =
    keys_broken shape.columns keys shape.keys r (subst (λ cs. KeysBreak cs keys r) (some_is (sym h ∙ t.columns)) k) t.are_keys t.once t.plain_keys

pub broken : BrokenIsNone
broken names name of keys r shape (no_record h told) t = never h t.is_record
broken names name of keys r shape (in_row row h b) t = row_broken names name row keys r shape b (subst (λ z. IsTableOf name z keys shape) (sym (some_is (sym h ∙ t.is_record))) t.table)

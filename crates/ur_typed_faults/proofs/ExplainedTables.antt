-- A table, a cookie or a type that is not declared breaks a rule.
use Rattle.std.proofs.Common.{inl, inr, ◌≡◌, ◌∙◌, refl, sym, ap, subst, true, false, true≢false, Option, Some, None, List, [], ◌∷◌, ℕ, map, Bool}
use Rattle.std.specs.Prelude.{IsTrue, ◌&&◌, nat_le, nat_eq, bytes_eq, codes, is_none, option_map, option_and_then, not}
use Rattle.std.specs.List.{list_all}
use Rattle.ur_base.specs.Codes.{is_refusal_code}
use Rattle.ur_base.specs.declared.refusal.Refusal.{Refusal}
use Rattle.ur_syntax.specs.declared.con.Con.{Con}
use Rattle.ur_syntax.specs.declared.decl.Constraint.{Constraint}
use Rattle.ur_syntax.specs.declared.decl.Variant.{Variant as WrittenVariant}
use Rattle.ur_values.specs.declared.schema.ColumnKind.{ColumnKind}
use Rattle.ur_rows.specs.declared.normal.Normal.{Normal}
use Rattle.ur_rows.specs.declared.normal.Normal.TheVariants as normal
use Rattle.ur_rows.specs.declared.normal.NormalType.{NormalType}
use Rattle.ur_rows.specs.declared.normal.Part.{Part as RowPart}
use Rattle.ur_rows.specs.Nodes.{nodes}
use Rattle.ur_rows.specs.Normal.{nf}
use Rattle.ur_rows.specs.Put.{as_type}
use Rattle.ur_rows.specs.Types.{is_value_type}
use Rattle.ur_sqltype.specs.Expression.{is_optional}
use Rattle.ur_sqltype.specs.Faults.{kind_text, six_kinds}
use Rattle.ur_disjoint.proofs.Members.{In, contains-in}
use Rattle.ur_tree.specs.App.{nothing_in_scope}
use Rattle.ur_typed_rules.specs.Tests.{con_rows_are_apart, is_type}
use Rattle.ur_sqltype.specs.declared.keys.SqlKey.{SqlKey}
use Rattle.ur_sqltype.specs.Lists.{all_of, repeated}
use Rattle.ur_sqltype.specs.Table.{type_kind, record_row, column_from, place_of, key_of, name_at, kind_at}
use Rattle.ur_sqltype.specs.SqltableFaults.{normal_text, part_found, plain_of, key_unknown, key_twice, key_optional, KeysBreak, RowBreaks, no_column, column_twice, in_keys, TableBreaks, no_record, in_row}
use Rattle.ur_typed_rules.specs.Faults.{Fault, unknown, twice, mismatch, not_apart, misfit, misplaced, not_so, too_large, unkinded, told_there, TellsType, as_refused}
use Rattle.ur_tree.specs.Text.{apart_from, row_text}
use Rattle.ur_typed_rules.specs.Arguments.{BreaksCon, BreaksType}
use Rattle.ur_typed_rules.specs.Rules.{if_so, small_type, written_type}
use Rattle.ur_typed_rules.proofs.Options.{some_none, some_of, then_none_is, if_none_is, map_none_is, opened_if, both_false, not_all_is, not_false}
use Rattle.ur_typed_rules.proofs.Lists.{both_of}
use Rattle.ur_typed_rules.proofs.Written.{con_broken, type_broken}
use Rattle.ur_typed.specs.Project.{env_at, written_keys}
use Rattle.ur_typed.specs.Declaring.{Sofar, world_behind, top_scope, datatype_names, may_be_defined, argument_out, variant_out, variants_out, columns_shape, has_no_option, plain_shape, keyed_shape, shape_with, shape_out, full_name, with_shape, table_out, with_named_cookie, cookie_out}
use Rattle.ur_typed.specs.DeclFaults.{form_of, type_of, BreaksDefined, large_con, rows_meet, BreaksArgument, argument_type, argument_moves, BreaksVariants, this_variant, later_variant, BreaksTable, large_table, no_table, BreaksCookie, large_cookie, other_cookie}

-- ---- what a refusal tells

abbrev pub refused : (c : ℕ) → IsTrue (is_refusal_code c) → List ℕ → List ℕ → Refusal
refused c named x y = record { code = c; span = record { file = 0; «from» = 0; to = 0 }; left = x; right = y; named = named }

-- a fault is told by some refusal
pub tell : (names : List (List ℕ)) (f : Fault) → (r : Refusal) × TellsType names r f
tell names (unknown x) = (refused 7 refl x [], (refl, refl, refl))
tell names (twice x) = (refused 8 refl x [], (refl, refl, refl))
tell names (mismatch x y) = (refused 10 refl x (apart_from x y), (refl, refl, refl))
tell names (not_apart a b) = (refused 11 refl (row_text names a) (row_text names b), (refl, refl, refl))
tell names (misfit x y) = (refused 12 refl x (apart_from x y), (refl, refl, refl))
tell names (misplaced x y) = (refused 13 refl x (apart_from x y), (refl, refl, refl))
tell names (not_so x y) = (refused 15 refl x (apart_from x y), (refl, refl, refl))
tell names too_large = (refused 16 refl (codes "65537") (codes "65536"), (refl, refl, refl))
tell names (unkinded x y) = (refused 9 refl x (apart_from x y), (refl, refl, refl))
tell names (told_there q) = (q, (refl, refl, refl))

-- ---- lists

abbrev pub Lacking : {A B : Type 0} → (A → Option B) → List A → Type 0
Lacking {A} f xs = (x : A) × In x xs × (f x ≡ None)

none_by : {A B : Type 0} (f : A → Option B) (x : A) (xs : List A) → (all_of f xs ≡ None → Lacking f xs) → (o : Option B) → f x ≡ o → option_and_then (λ a. option_map (λ rest. a ∷ rest) (all_of f xs)) o ≡ None → Lacking f (x ∷ xs)
none_by f x xs k None e g = (x, inl refl, e)
none_by f x xs k (Some b) e g = let r : Lacking f xs = k (map_none_is (λ rest. b ∷ rest) (all_of f xs) g) in (r.0, inr r.1, r.2)

-- one of the list has no value
pub all_of_none_is : {A B : Type 0} (f : A → Option B) (xs : List A) → all_of f xs ≡ None → Lacking f xs
all_of_none_is f [] h = absurd (some_none h)
all_of_none_is f (x ∷ xs) h = none_by f x xs (all_of_none_is f xs) (f x) refl h

abbrev pub Source : {A B : Type 0} → (A → Option B) → List A → B → Type 0
Source {A} f xs z = (x : A) × In x xs × (f x ≡ Some z)

in_front : {A B : Type 0} (f : A → Option B) (x : A) (xs : List A) (b z : B) (bs zs : List B) → f x ≡ Some b → (In z bs → Source f xs z) → b ∷ bs ≡ zs → In z zs → Source f (x ∷ xs) z
in_front f x xs b z bs [] e k q i = absurd i
in_front f x xs b z bs (c ∷ cs) e k q (inl p) = let r : b ≡ c = cc in (x, inl refl, e ∙ ap (λ u. Some u) (r ∙ p))
in_front {A} {B} f x xs b z bs (c ∷ cs) e k q (inr j) =
    let r : cs ≡ bs = cc in
    let y : Source f xs z = k (subst (λ (l : List B). In z l) r j) in (y.0, inr y.1, y.2)

comes_by : {A B : Type 0} (f : A → Option B) (x : A) (xs : List A) (zs : List B) (z : B) → ((ys : List B) → all_of f xs ≡ Some ys → In z ys → Source f xs z) → (o : Option B) → f x ≡ o → (r : Option (List B)) → all_of f xs ≡ r → option_and_then (λ a. option_map (λ rest. a ∷ rest) r) o ≡ Some zs → In z zs → Source f (x ∷ xs) z
comes_by f x xs zs z k None e r er g i = absurd (some_none (sym g))
comes_by f x xs zs z k (Some b) e None er g i = absurd (some_none (sym g))
comes_by f x xs zs z k (Some b) e (Some bs) er g i = in_front f x xs b z bs zs e (k bs er) (some_of g) i

-- where a value of the list comes from
pub comes_of : {A B : Type 0} (f : A → Option B) (xs : List A) (zs : List B) (z : B) → all_of f xs ≡ Some zs → In z zs → Source f xs z
comes_of {A} {B} f [] zs z h i = absurd (subst (λ (l : List B). In z l) (sym (some_of h)) i)
comes_of f (x ∷ xs) zs z h i = comes_by f x xs zs z (λ ys e j. comes_of f xs ys z e j) (f x) refl (all_of f xs) refl h i

some_is : {A : Type 0} (o : Option A) → is_none o ≡ false → (x : A) × (o ≡ Some x)
some_is None h = absurd (true≢false h)
some_is (Some x) h = (x, refl)

-- a small type is the one that is written
pub small_is : (most : ℕ) (n : Normal) (t : NormalType) → small_type most n ≡ Some t → t ≡ as_type n
small_is most n t h = let q : (nat_le (nodes n) most ≡ true) × (Some (as_type n) ≡ Some t) = opened_if (nat_le (nodes n) most) (Some (as_type n)) t h in sym (some_of q.1)

pub large_is : (most : ℕ) (n : Normal) → small_type most n ≡ None → nat_le (nodes n) most ≡ false
large_is most n h = elim (if_none_is (nat_le (nodes n) most) (Some (as_type n)) h) [ inl a ↦ a | inr z ↦ absurd (some_none z) ]

-- ---- types and datatypes

pub defined_broken : (most : ℕ) (z : Sofar) (c : Con) → may_be_defined most z c ≡ false → (f : Fault) × BreaksDefined most z c f
defined_broken most z c h = elim (both_false (nat_le (nodes (form_of z c)) most) (con_rows_are_apart nothing_in_scope (form_of z c)) h) [
  | inl a ↦ (_, large_con a)
  | inr a ↦ let b : (f : Fault) × BreaksCon [] c (form_of z c) f = con_broken nothing_in_scope c (form_of z c) a in (b.0, rows_meet b.1)
]

written_form : (most : ℕ) (z : Sofar) (c : Con) (t : NormalType) → written_type (world_behind most z) (top_scope z) c ≡ Some t → type_of z c ≡ t
written_form most z c t h =
    let q : ((nat_le (nodes (form_of z c)) most && is_type nothing_in_scope (type_of z c)) ≡ true) × (Some (type_of z c) ≡ Some t) = opened_if (nat_le (nodes (form_of z c)) most && is_type nothing_in_scope (type_of z c)) (Some (type_of z c)) t h in some_of q.1

argument_broken : (most : ℕ) (z : Sofar) (c : Con) → argument_out most z c ≡ None → (f : Fault) × BreaksArgument most z c f
argument_broken most z c h = elim (then_none_is (λ (t : NormalType). if_so (is_value_type t) (Some t)) (written_type (world_behind most z) (top_scope z) c) h) [
  | inl a ↦ let b : (f : Fault) × BreaksType (world_behind most z) (top_scope z) c f = type_broken (world_behind most z) (top_scope z) c a in (b.0, argument_type b.1)
  | inr t ↦ elim (if_none_is (is_value_type t.0) (Some t.0) t.2) [ inl a ↦ (_, argument_moves (ap is_value_type (written_form most z c t.0 t.1) ∙ a)) | inr n ↦ absurd (some_none n) ]
]

pub datatype_broken : (most datatype : ℕ) (vs : List WrittenVariant) (z : Sofar) → variants_out most datatype vs z ≡ None → (f : Fault) × BreaksVariants most datatype vs z f
datatype_broken most datatype [] z h = absurd (some_none h)
datatype_broken most datatype (v ∷ vs) z h = elim (then_none_is (variants_out most datatype vs) (variant_out most datatype v.name v.con z) h) [
  | inl a ↦ this_by v vs z v.con refl a
  | inr y ↦ let b : (f : Fault) × BreaksVariants most datatype vs y.0 f = datatype_broken most datatype vs y.0 y.2 in (b.0, later_variant y.1 b.1)
] where
  this_by : (v : WrittenVariant) (vs : List WrittenVariant) (z : Sofar) (k : Option Con) → v.con ≡ k → variant_out most datatype v.name k z ≡ None → (f : Fault) × BreaksVariants most datatype (v ∷ vs) z f
  this_by v vs z None e g = absurd (some_none g)
  this_by v vs z (Some c) e g = let b : (f : Fault) × BreaksArgument most z c f = argument_broken most z c (map_none_is _ (argument_out most z c) g) in (b.0, this_variant e b.1)

-- ---- tables and cookies

key_broken : (columns : List (List ℕ × ColumnKind)) (keys : List SqlKey) (key : SqlKey) → In key keys → key_of columns key ≡ None → (r : Refusal) × KeysBreak columns keys r
key_broken columns keys key i h =
    let a : (a : List ℕ) × In a key.columns × (place_of columns a ≡ None) = all_of_none_is (place_of columns) key.columns h in
    (refused 7 refl a.0 [], record { key = key; stands = contains-in key keys i; fault = key_unknown a.0 (contains-in a.0 key.columns a.1) (record { none = a.2; told = (refl, refl, refl) }) })

twice_broken : (columns : List (List ℕ × ColumnKind)) (keys : List SqlKey) (places : List (List ℕ)) → all_of (key_of columns) keys ≡ Some places → list_all (λ k. is_none (repeated nat_eq k)) places ≡ false → (r : Refusal) × KeysBreak columns keys r
twice_broken columns keys places e h =
    let p : (p : List ℕ) × In p places × (is_none (repeated nat_eq p) ≡ false) = not_all_is (λ k. is_none (repeated nat_eq k)) places h in
    let n : (n : ℕ) × (repeated nat_eq p.0 ≡ Some n) = some_is (repeated nat_eq p.0) p.2 in
    let k : (k : SqlKey) × In k keys × (key_of columns k ≡ Some p.0) = comes_of (key_of columns) keys places p.0 e p.1 in
    (refused 8 refl (name_at columns n.0) [], record { key = k.0; stands = contains-in k.0 keys k.1; fault = key_twice p.0 n.0 k.2 n.1 (refl, refl, refl) })

no_number : {A : Type 0} (o : Option A) → is_none o ≡ true → o ≡ None
no_number None h = refl
no_number (Some a) h = cc

in_all : {A : Type 0} (f : A → Bool) (x : A) (xs : List A) → In x xs → list_all f xs ≡ true → f x ≡ true
in_all f x [] i h = absurd i
in_all f x (y ∷ ys) (inl e) h = ap f (sym e) ∙ (both_of (f y) (list_all f ys) h).0
in_all f x (y ∷ ys) (inr i) h = in_all f x ys i (both_of (f y) (list_all f ys) h).1

-- no key has a column twice, and one has an optional column
option_broken : (columns : List (List ℕ × ColumnKind)) (keys : List SqlKey) (places : List (List ℕ)) → all_of (key_of columns) keys ≡ Some places →
    list_all (λ k. is_none (repeated nat_eq k)) places ≡ true → list_all (has_no_option columns) places ≡ false → (r : Refusal) × KeysBreak columns keys r
option_broken columns keys places e o h =
    let p : (p : List ℕ) × In p places × (has_no_option columns p ≡ false) = not_all_is (has_no_option columns) places h in
    let n : (n : ℕ) × In n p.0 × (not (is_optional (kind_at columns n)) ≡ false) = not_all_is (λ m. not (is_optional (kind_at columns m))) p.0 p.2 in
    let k : (k : SqlKey) × In k keys × (key_of columns k ≡ Some p.0) = comes_of (key_of columns) keys places p.0 e p.1 in
    let once : repeated nat_eq p.0 ≡ None = no_number (repeated nat_eq p.0) (in_all (λ k. is_none (repeated nat_eq k)) p.0 places p.1 o) in (
      refused 12 refl (kind_text (kind_at columns n.0)) (kind_text (plain_of (kind_at columns n.0))),
      record {
        key = k.0;
        stands = contains-in k.0 keys k.1;
        fault = key_optional p.0 n.0 k.2 once (contains-in n.0 p.0 n.1) (not_false (is_optional (kind_at columns n.0)) n.2) (refl, refl, refl);
      },
    )

keys_broken : (name : List ℕ) (keys : List SqlKey) (columns : List (List ℕ × ColumnKind)) (places : List (List ℕ)) →
    all_of (key_of columns) keys ≡ Some places → keyed_shape name keys columns places ≡ None → (r : Refusal) × KeysBreak columns keys r
keys_broken name keys columns places e h = by (list_all (λ k. is_none (repeated nat_eq k)) places) refl h where
  by : (b : Bool) → list_all (λ k. is_none (repeated nat_eq k)) places ≡ b → if_so b (plain_shape name keys columns places) ≡ None →
      (r : Refusal) × KeysBreak columns keys r
  by false o g = twice_broken columns keys places e o
  by true o g =
      elim (if_none_is (list_all (has_no_option columns) places) (Some (shape_with name keys columns places)) g)
      [ inl a ↦ option_broken columns keys places e o a | inr n ↦ absurd (some_none n) ]

row_broken : (name : List ℕ) (keys : List SqlKey) (names : List (List ℕ)) (row : List RowPart) → option_and_then (columns_shape name keys) (all_of column_from row) ≡ None → (r : Refusal) × RowBreaks names row keys r
row_broken name keys names row h = elim (then_none_is (columns_shape name keys) (all_of column_from row) h) [
  | inl a ↦
      let p : (p : RowPart) × In p row × (column_from p ≡ None) = all_of_none_is column_from row a in (
        refused 12 refl (part_found names p.0) six_kinds,
        no_column
            (record { place = p.0; stands = contains-in p.0 row p.1; fault = record { none = p.2; told = (refl, refl, refl) } }),
      )
  | inr cs ↦ elim (if_none_is (is_none (repeated bytes_eq (map (λ (c : List ℕ × ColumnKind). c.0) cs.0))) (option_and_then (keyed_shape name keys cs.0) (all_of (key_of cs.0) keys)) cs.2) [
    | inl a ↦ let n : (n : List ℕ) × (repeated bytes_eq (map (λ (c : List ℕ × ColumnKind). c.0) cs.0) ≡ Some n) = some_is
        (repeated bytes_eq (map (λ (c : List ℕ × ColumnKind). c.0) cs.0)) a in (refused 8 refl n.0 [], column_twice cs.0 n.0 cs.1 n.1 (refl, refl, refl))
    | inr b ↦ elim (then_none_is (keyed_shape name keys cs.0) (all_of (key_of cs.0) keys) b) [
      | inl a ↦
          let k : (k : SqlKey) × In k keys × (key_of cs.0 k ≡ None) = all_of_none_is (key_of cs.0) keys a in
          let r : (r : Refusal) × KeysBreak cs.0 keys r = key_broken cs.0 keys k.0 k.1 k.2 in (r.0, in_keys cs.0 cs.1 r.1)
      | inr ps ↦ let r : (r : Refusal) × KeysBreak cs.0 keys r = keys_broken name keys cs.0 ps.0 ps.1 ps.2 in (r.0, in_keys cs.0 cs.1 r.1)
    ]
  ]
]

shape_broken : (name : List ℕ) (keys : List SqlKey) (names : List (List ℕ)) (t : NormalType) → shape_out name keys t ≡ None → (r : Refusal) × TableBreaks names (normal.Type t) keys r
shape_broken name keys names t h = elim (then_none_is (λ row. option_and_then (columns_shape name keys) (all_of column_from row)) (record_row (normal.Type t)) h) [
  | inl a ↦ (refused 12 refl (normal_text names (normal.Type t)) (codes "record"), no_record a (refl, refl, refl))
  | inr row ↦ let b : (r : Refusal) × RowBreaks names row.0 keys r = row_broken name keys names row.0 row.2 in (b.0, in_row row.0 row.1 b.1)
]

pub table_broken : (most : ℕ) (x : List ℕ) (z : Sofar) (c : Con) (primary : Option (List (List ℕ))) (cs : List Constraint) → table_out most x c primary cs z ≡ None → (f : Fault) × BreaksTable most z c primary cs f
table_broken most x z c primary cs h = elim (then_none_is (shape_out (full_name z x) (written_keys primary cs)) (small_type most (nf (env_at z.place) c)) (map_none_is (with_shape z) (option_and_then (shape_out (full_name z x) (written_keys primary cs)) (small_type most (nf (env_at z.place) c))) h)) [
  | inl a ↦ (_, large_table (large_is most (form_of z c) a))
  | inr t ↦
      let e : t.0 ≡ type_of z c = small_is most (form_of z c) t.0 t.1 in
      let b : (r : Refusal) × TableBreaks (datatype_names z) (normal.Type (type_of z c)) (written_keys primary cs) r = shape_broken (full_name z x) (written_keys primary cs) (datatype_names z) (type_of z c) (ap (shape_out (full_name z x) (written_keys primary cs)) (sym e) ∙ t.2) in
      (as_refused b.0, no_table b.1)
]

pub cookie_broken : (most : ℕ) (x : List ℕ) (z : Sofar) (c : Con) → cookie_out most x c z ≡ None → (f : Fault) × BreaksCookie most z c f
cookie_broken most x z c h = elim (then_none_is type_kind (small_type most (nf (env_at z.place) c)) (map_none_is (with_named_cookie x z) (option_and_then type_kind (small_type most (nf (env_at z.place) c))) h)) [
  | inl a ↦ (_, large_cookie (large_is most (form_of z c) a))
  | inr t ↦ let e : t.0 ≡ type_of z c = small_is most (form_of z c) t.0 t.1 in (_, other_cookie (ap type_kind (sym e) ∙ t.2))
]

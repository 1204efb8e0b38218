-- What stands for an expression of a query or change has its kind in the core.
use Rattle.std.proofs.Common.{◌≡◌, ◌∙◌, refl, sym, ap, subst, ℕ, ◌+◌, Bool, true, false, true≢false, List, [], ◌∷◌, map, Option, Some, None, arith}
use Rattle.std.specs.Option.{is_some}
use Rattle.std.specs.Prelude.{◌^◌, pos, nat_lt, if◌then◌else◌, option_map, IsSome, slice_get, bytes_eq}
use Rattle.std.proofs.lemmas.Option.{slice_get-map}
use Rattle.ur_syntax.specs.declared.sql.SqlExp.{SqlExp}
use Rattle.ur_syntax.specs.declared.sql.DeclName.{DeclName}
use Rattle.ur_syntax.specs.declared.sql.Limit.{Limit}
use Rattle.ur_syntax.specs.declared.sql.Limit.TheVariants as limit
use Rattle.ur_syntax.specs.Names.{name_text}
use Rattle.ur_values.specs.declared.schema.ColumnKind.{ColumnKind}
use Rattle.ur_values.specs.declared.schema.ColumnKind.TheVariants as kind
use Rattle.ur_values.specs.declared.schema.TableShape.{TableShape}
use Rattle.ur_values.specs.declared.schema.Schema.{Schema}
use Rattle.ur_values.specs.Kinds.{inside}
use Rattle.ur_values.specs.Store.{kinds_of}
use Rattle.ur_sql.specs.declared.scalar.Scalar.{Scalar}
use Rattle.ur_sql.specs.declared.scalar.Scalar.TheVariants as s
use Rattle.ur_sql.specs.declared.query.ColumnAt.{ColumnAt}
use Rattle.ur_sql.specs.declared.query.Bound.{Bound}
use Rattle.ur_sql.specs.declared.query.Bound.TheVariants as bound
use Rattle.ur_sql.specs.Typing.{Kinds, column_kind, HasKind, HasSomeKind, HasBasicKind, BoundFits}
use Rattle.ur_sqltype.specs.declared.scope.Within.{Within}
use Rattle.ur_sqltype.specs.Scope.{column_of}
use Rattle.ur_sqltype.specs.Expression.{Kinded, kinded, same_kind, as_kind, is_optional}
use Rattle.ur_sqltype.specs.Fits.{kinds_within, BareStand, KindedFits}
use Rattle.ur_sqltype.specs.Tables.{shape_at, table_from, table_at}
use Rattle.ur_sqltype.specs.Query.{of_kind, of_some_kind, if_basic, of_basic_kind, as_column, column_in, int_param, limited}
use Rattle.ur_sqltype.proofs.Fitting.{same_is}
use Rattle.ur_sqltype.proofs.Lists.{some_is, none_is}
use Rattle.ur_sqltype.proofs.Taken.{then_taken, map_taken}
use Rattle.ur_sqltype.proofs.SqltypeValues.{if_taken, if_not, named_there}

-- a kind that is not optional has none inside
plain_inside : (k : ColumnKind) → is_optional k ≡ false → inside k ≡ None
plain_inside kind.Int e = refl
plain_inside kind.Str e = refl
plain_inside kind.Bool e = refl
plain_inside kind.OptInt e = absurd (true≢false e)
plain_inside kind.OptStr e = absurd (true≢false e)
plain_inside kind.OptBool e = absurd (true≢false e)

unless_taken : {A : Type 0} (b : Bool) (y x : A) → (if b then None else Some y) ≡ Some x → (b ≡ false) × (y ≡ x)
unless_taken true y x e = none_is e
unless_taken false y x e = (refl, some_is e)

-- the column of a plain column is there
column_some : (ks : Kinds) (x : Scalar) (at : ColumnAt) (k : ColumnKind) → as_column x ≡ Some at → HasKind ks x k → IsSome (column_kind ks at.item at.column)
column_some ks (s.Column i c) at k e h = subst (λ (z : ColumnAt). IsSome (column_kind ks z.item z.column)) (some_is e) (ap (λ o. is_some o) h)
column_some ks _ at k e h = none_is e

module _ (fits : KindedFits) (w : Within) (bare : BareStand w) where
  pub has_kind : (k : ColumnKind) (e : SqlExp) (x : Scalar) → of_kind k w e ≡ Some x → HasKind (kinds_within w) x k
  has_kind k e x h =
      let a = then_taken (as_kind k) (kinded w e.form) x h in
      let t = if_taken (same_kind a.0.1 k) a.0.0 x a.2 in
      subst (λ z. HasKind (kinds_within w) z k) t.1 (subst (λ j. HasKind (kinds_within w) a.0.0 j) (same_is a.0.1 k t.0) (fits w bare e.form a.0.0 a.0.1 a.1))

  pub some_kind : (e : SqlExp) (x : Scalar) → of_some_kind w e ≡ Some x → HasSomeKind (kinds_within w) x
  some_kind e x h =
      let m = map_taken (λ (y : Kinded). y.0) (kinded w e.form) x h in
      (m.0.1, subst (λ z. HasKind (kinds_within w) z m.0.1) m.2 (fits w bare e.form m.0.0 m.0.1 m.1))

  pub basic_kind : (e : SqlExp) (x : Scalar) → of_basic_kind w e ≡ Some x → HasBasicKind (kinds_within w) x
  basic_kind e x h =
      let a = then_taken if_basic (kinded w e.form) x h in
      let t = unless_taken (is_optional a.0.1) a.0.0 x a.2 in
      (a.0.1, plain_inside a.0.1 t.0, subst (λ z. HasKind (kinds_within w) z a.0.1) t.1 (fits w bare e.form a.0.0 a.0.1 a.1))

  pub column_there : (e : SqlExp) (at : ColumnAt) → column_in w e ≡ Some at → IsSome (column_kind (kinds_within w) at.item at.column)
  column_there e at h =
      let a = then_taken as_column (of_some_kind w e) at h in
      let k = some_kind e a.0 a.1 in
      column_some (kinds_within w) a.0 at k.0 a.2 k.1

-- ---- bounds

param_fits : (params : List ColumnKind) (n : ℕ) (k : ColumnKind) (b : Bound) → slice_get params n ≡ Some k → int_param n k ≡ Some b → BoundFits params b
param_fits params n kind.Int b h e = subst (BoundFits params) (some_is e) h
param_fits params n kind.Str b h e = none_is e
param_fits params n kind.Bool b h e = none_is e
param_fits params n kind.OptInt b h e = none_is e
param_fits params n kind.OptStr b h e = none_is e
param_fits params n kind.OptBool b h e = none_is e

pub bound_fits : (w : Within) (l : Limit) (b : Bound) → limited w l ≡ Some b → BoundFits w.antiquotes b
bound_fits w (limit.Int n) b e = let t = if_taken (nat_lt n (2 ^ 63)) (bound.Is (pos n)) b e in subst (BoundFits w.antiquotes) t.1 tt
bound_fits w (limit.Anti n) b e = let a = then_taken (int_param n) (slice_get w.antiquotes n) b e in param_fits w.antiquotes n a.0 b a.1 a.2

-- ---- tables and columns

zero_more : (n k : ℕ) → n ≡ 0 + k → k ≡ n
zero_more n k e = omega (arith, e)

pub column_at_place : (a : List ℕ) (columns : List (List ℕ × ColumnKind)) (c : ℕ × ColumnKind) → column_of a columns ≡ Some c → slice_get (map (λ c. c.1) columns) c.0 ≡ Some c.1
column_at_place a columns c e =
    let t = named_there (λ (c : List ℕ × ColumnKind). c.0) (λ (c : List ℕ × ColumnKind). c.1) a 0 columns c e in
    subst (λ n. slice_get (map (λ c. c.1) columns) n ≡ Some c.1) (zero_more c.0 t.0 t.1) t.2

map_same : {A : Type 0} (xs : List A) → map (λ x. x) xs ≡ xs
map_same [] = refl
map_same (x ∷ xs) = ap (λ z. x ∷ z) (map_same xs)

shape_there : (m x : List ℕ) (tables : Schema) (t : ℕ × TableShape) → shape_at m x tables ≡ Some t → slice_get (map kinds_of tables.tables) t.0 ≡ Some (kinds_of t.1)
shape_there m x tables t e =
    let f = named_there (λ (s : TableShape). s.name) (λ (s : TableShape). s) (name_text (Some m) x) 0 tables.tables t e in
    let at : slice_get tables.tables t.0 ≡ Some t.1 = ap (λ ss. slice_get ss t.0) (sym (map_same tables.tables)) ∙ subst (λ n. slice_get (map (λ (s : TableShape). s) tables.tables) n ≡ Some t.1) (zero_more t.0 f.0 f.1) f.2 in
    slice_get-map kinds_of tables.tables t.0 ∙ ap (λ o. option_map kinds_of o) at

table_named : (m : List ℕ) (tables : Schema) (o : Option (List ℕ)) (x : List ℕ) (t : ℕ × TableShape) → table_from m tables o x ≡ Some t → slice_get (map kinds_of tables.tables) t.0 ≡ Some (kinds_of t.1)
table_named m tables None x t e = shape_there m x tables t e
table_named m tables (Some n) x t e = shape_there n x tables t (if_not (bytes_eq n m) (shape_at n x tables) t e)

-- a table stands at its number with the kinds of its columns
pub table_there : (m : List ℕ) (tables : Schema) (x : DeclName) (t : ℕ × TableShape) → table_at m tables x ≡ Some t → slice_get (map kinds_of tables.tables) t.0 ≡ Some (kinds_of t.1)
table_there m tables x t e = table_named m tables x.«module» x.name t e

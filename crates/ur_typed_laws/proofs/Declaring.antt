-- A declaration without a body, as the function gives it, is one by the rules.
use Rattle.std.proofs.lemmas.Option.{slice_get_within}
use Rattle.std.proofs.Common.{◌≡◌, refl, subst, true, Option, Some, List, ℕ, length}
use Rattle.std.specs.Prelude.{nat_le, option_and_then, slice_get}
use Rattle.std.specs.List.{AllByRecursion}
use Rattle.ur_syntax.specs.declared.con.Con.{Con}
use Rattle.ur_syntax.specs.declared.kind.Kind.{Kind}
use Rattle.ur_syntax.specs.declared.kind.Kind.TheVariants as kind
use Rattle.ur_syntax.specs.declared.decl.Constraint.{Constraint}
use Rattle.ur_syntax.specs.declared.decl.DeclForm.{DeclForm}
use Rattle.ur_syntax.specs.declared.decl.DeclForm.TheVariants as decl
use Rattle.ur_syntax.specs.declared.decl.Variant.{Variant as WrittenVariant}
use Rattle.ur_values.specs.declared.schema.ColumnKind.{ColumnKind}
use Rattle.ur_values.specs.declared.schema.TableShape.{TableShape}
use Rattle.ur_rows.specs.declared.normal.NormalType.{NormalType}
use Rattle.ur_rows.specs.Nodes.{nodes}
use Rattle.ur_rows.specs.Normal.{nf}
use Rattle.ur_tree.specs.Scalars.{kind_type}
use Rattle.ur_sqltype.specs.Table.{type_kind}
use Rattle.ur_tree.specs.declared.typed.Typed.{Typed}
use Rattle.ur_tree.specs.App.{VariantIsTyped, nothing_in_scope}
use Rattle.ur_typed_rules.specs.Names.{WritesType}
use Rattle.ur_typed_rules.specs.Tests.{con_rows_are_apart}
use Rattle.ur_typed_rules.proofs.Lists.{both_of}
use Rattle.ur_typed_rules.specs.Rules.{small_type}
use Rattle.ur_typed_rules.proofs.Options.{some_of, opened, opened_if, mapped}
use Rattle.ur_typed.specs.Project.{Place, env_at, written_keys, DeclResolves}
use Rattle.ur_typed.specs.Project as project
use Rattle.ur_typed.specs.Declaring.{Sofar, with_defined, may_be_defined, defined_out, variants_out, with_datatype, shape_out, with_shape, full_name, table_out, with_named_sequence, with_named_cookie, cookie_out}
use Rattle.ur_typed_laws.proofs.Begun.{begun_last}
use Rattle.ur_typed_laws.proofs.Holding.{Holds, Tallied, Grows, grows_on, defined_grows, a_datatype, datatype_grows, table_grows, sequence_grows, cookie_grows}
use Rattle.ur_typed_laws.proofs.Writing.{is_written, small_writes, con_of_test}
use Rattle.ur_typed_laws.proofs.Tabling.{shape_told, kind_told, basic_told}
use Rattle.ur_typed_laws.proofs.Varying.{Varied, variants_told}

pub record Declares (app : Typed) (most home : ℕ) (d : DeclForm) (z y : Sofar) : Type 0 where
  pub grows : Grows app z y
  pub functions : y.place.functions ≡ z.place.functions
  pub vals : y.place.vals ≡ z.place.vals
  pub resolves : Holds app y → Tallied z → slice_get app.modules home ≡ Some z.place.globals.home → DeclResolves app most home z.place d y.place
  pub typed : Holds app y → Tallied z → AllByRecursion (VariantIsTyped app) z.variants → AllByRecursion (VariantIsTyped app) y.variants

-- ---- constructors and types

-- what is needed of a written definition
record MayDefine (most : ℕ) (z : Sofar) (c : Con) : Type 0 where
  small : nat_le (nodes (nf (env_at z.place) c)) most ≡ true
  apart : con_rows_are_apart nothing_in_scope (nf (env_at z.place) c) ≡ true

defined_told : (most : ℕ) (x : List ℕ) (k : Kind) (c : Con) (z y : Sofar) → defined_out most x k c z ≡ Some y → MayDefine most z c × (with_defined x k c z ≡ y)
defined_told most x k c z y h =
    let i : (may_be_defined most z c ≡ true) × (Some (with_defined x k c z) ≡ Some y) = opened_if (may_be_defined most z c) (Some (with_defined x k c z)) y h in
    let j : (nat_le (nodes (nf (env_at z.place) c)) most ≡ true) × (con_rows_are_apart nothing_in_scope (nf (env_at z.place) c) ≡ true) = both_of (nat_le (nodes (nf (env_at z.place) c)) most) (con_rows_are_apart nothing_in_scope (nf (env_at z.place) c)) i.0 in
    (record { small = j.0; apart = j.1 }, some_of i.1)

pub con_told : (app : Typed) (most home : ℕ) (x : List ℕ) (k : Kind) (c : Con) (z y : Sofar) → defined_out most x k c z ≡ Some y → Declares app most home (decl.Con x k c) z y
con_told app most home x k c z y h =
    let i : MayDefine most z c × (with_defined x k c z ≡ y) = defined_told most x k c z y h in
    subst (Declares app most home (decl.Con x k c) z) i.1 (record {
      grows = defined_grows app x k c z;
      functions = refl;
      vals = refl;
      resolves = λ k t m. project.DeclResolves.con (is_written most (env_at z.place) c i.0.small) (con_of_test nothing_in_scope (nf (env_at z.place) c) i.0.apart);
      typed = λ k t a. a;
    })

pub type_told : (app : Typed) (most home : ℕ) (x : List ℕ) (c : Con) (z y : Sofar) → defined_out most x kind.Star c z ≡ Some y → Declares app most home (decl.Type x c) z y
type_told app most home x c z y h =
    let i : MayDefine most z c × (with_defined x kind.Star c z ≡ y) = defined_told most x kind.Star c z y h in
    subst (Declares app most home (decl.Type x c) z) i.1 (record {
      grows = defined_grows app x kind.Star c z;
      functions = refl;
      vals = refl;
      resolves = λ k t m. project.DeclResolves.type_ (is_written most (env_at z.place) c i.0.small) (con_of_test nothing_in_scope (nf (env_at z.place) c) i.0.apart);
      typed = λ k t a. a;
    })

pub datatype_told : (app : Typed) (most home : ℕ) (x : List ℕ) (vs : List WrittenVariant) (z y : Sofar) → variants_out most z.place.datatypes vs (with_datatype home x z) ≡ Some y → Declares app most home (decl.Datatype x vs) z y
datatype_told app most home x vs z y h = record {
  grows = grows_on g v.grows;
  functions = v.functions;
  vals = v.vals;
  resolves = λ k t m. project.DeclResolves.datatype (there k t) (v.resolve k (g.tallied t));
  typed = λ k t a. v.typed (slice_get_within app.datatypes z.place.datatypes (a_datatype home x) (there k t)) a;
} where
  g : Grows app z (with_datatype home x z)
  g = datatype_grows app home x z

  v : Varied app most z.place.datatypes vs (with_datatype home x z) y
  v = variants_told app most z.place.datatypes vs (with_datatype home x z) y h

  there : Holds app y → Tallied z → slice_get app.datatypes z.place.datatypes ≡ Some (a_datatype home x)
  there k t = begun_last z.datatypes app.datatypes (a_datatype home x) z.place.datatypes (v.grows.held k).datatypes t.datatypes

-- ---- tables, sequences, cookies

pub table_told : (app : Typed) (most home : ℕ) (x : List ℕ) (c : Con) (primary : Option (List (List ℕ))) (cs : List Constraint) (z y : Sofar) → table_out most x c primary cs z ≡ Some y → Declares app most home (decl.Table x c primary cs) z y
table_told app most home x c primary cs z y h =
    let i : (s : TableShape) × (option_and_then (shape_out (full_name z x) (written_keys primary cs)) (small_type most (nf (env_at z.place) c)) ≡ Some s) × (with_shape z s ≡ y) = mapped _ _ y h in
    let j : (t : NormalType) × (small_type most (nf (env_at z.place) c) ≡ Some t) × (shape_out (full_name z x) (written_keys primary cs) t ≡ Some i.0) = opened _ _ i.0 i.1 in
    subst (Declares app most home (decl.Table x c primary cs) z) i.2 (record {
      grows = table_grows app z i.0;
      functions = refl;
      vals = refl;
      resolves = λ k t m. project.DeclResolves.table (small_writes most (env_at z.place) c j.0 j.1) m (shape_told (full_name z x) j.0 (written_keys primary cs) i.0 j.2) (begun_last z.place.globals.tables.tables app.schema.tables i.0 (length z.place.globals.tables.tables) k.tables refl);
      typed = λ k t a. a;
    })

pub sequence_told : (app : Typed) (most home : ℕ) (x : List ℕ) (z y : Sofar) → Some (with_named_sequence x z) ≡ Some y → Declares app most home (decl.Sequence x) z y
sequence_told app most home x z y h = subst (Declares app most home (decl.Sequence x) z) (some_of h) (record {
  grows = sequence_grows app x z;
  functions = refl;
  vals = refl;
  resolves = λ k t m. project.DeclResolves.sequence m (begun_last z.sequences app.schema.sequences (full_name z x) (length z.place.globals.sequences) k.sequences t.sequences);
  typed = λ k t a. a;
})

pub cookie_told : (app : Typed) (most home : ℕ) (x : List ℕ) (c : Con) (z y : Sofar) → cookie_out most x c z ≡ Some y → Declares app most home (decl.Cookie x c) z y
cookie_told app most home x c z y h =
    let i : (n : ColumnKind) × (option_and_then type_kind (small_type most (nf (env_at z.place) c)) ≡ Some n) × (with_named_cookie x z n ≡ y) = mapped _ _ y h in
    let j : (u : NormalType) × (small_type most (nf (env_at z.place) c) ≡ Some u) × (type_kind u ≡ Some i.0) = opened _ _ i.0 i.1 in
    let w : WritesType most (env_at z.place) c (kind_type i.0) = subst (WritesType most (env_at z.place) c) (kind_told j.0 i.0 j.2) (small_writes most (env_at z.place) c j.0 j.1) in
    subst (Declares app most home (decl.Cookie x c) z) i.2 (record {
      grows = cookie_grows app x z i.0;
      functions = refl;
      vals = refl;
      resolves = λ k t m. project.DeclResolves.cookie w (basic_told j.0 i.0 j.2) m
          (begun_last z.cookies app.cookies (full_name z x, i.0) (length z.place.globals.cookies) k.cookies t.cookies);
      typed = λ k t a. a;
    })

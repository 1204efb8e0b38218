-- The names of the project's fields stay what they are.
use Rattle.std.proofs.Common.{◌≡◌, ◌∙◌, sym, ap, ℕ, ◌+◌, true, List, [], ◌∷◌, Option, Some, None}
use Rattle.std.specs.Prelude.{option_and_then}
use Rattle.ur_syntax.specs.declared.con.Con.{Con}
use Rattle.ur_syntax.specs.declared.kind.Kind.TheVariants as kind
use Rattle.ur_syntax.specs.declared.decl.Variant.{Variant as WrittenVariant}
use Rattle.ur_syntax.specs.declared.decl.FunDef.{FunDef}
use Rattle.ur_syntax.specs.declared.decl.Decl.{Decl}
use Rattle.ur_syntax.specs.declared.decl.DeclForm.{DeclForm}
use Rattle.ur_syntax.specs.declared.decl.DeclForm.TheVariants as decl
use Rattle.ur_syntax.specs.declared.decl.Module.{Module}
use Rattle.ur_values.specs.declared.schema.ColumnKind.{ColumnKind}
use Rattle.ur_values.specs.declared.schema.TableShape.{TableShape}
use Rattle.ur_rows.specs.declared.normal.NormalType.{NormalType}
use Rattle.ur_rows.specs.Normal.{nf}
use Rattle.ur_sqltype.specs.Table.{type_kind}
use Rattle.ur_typed_rules.specs.Rules.{small_type}
use Rattle.ur_typed_rules.proofs.Options.{some_of, opened, opened_if, mapped}
use Rattle.ur_typed.specs.Project.{env_at, names_at, written_keys}
use Rattle.ur_typed.specs.Declaring.{Sofar, Bodies, Checked, with_defined, may_be_defined, argument_out, with_constructor, variant_out, variants_out, with_datatype, full_name, shape_out, with_shape, with_named_cookie, Heading, heading_out, with_head, headings_out, val_type_out, with_val_of, decl_out, bodies_out, decls_out, entered, modules_out}

abbrev pub fields_of : Sofar → List (List ℕ)
fields_of z = z.place.fields

variants-keep : (most datatype : ℕ) (vs : List WrittenVariant) (z y : Sofar) → variants_out most datatype vs z ≡ Some y → fields_of y ≡ fields_of z
variants-keep most datatype [] z y h = ap fields_of (sym (some_of h))
variants-keep most datatype (v ∷ vs) z y h =
    let q : (x : Sofar) × (variant_out most datatype v.name v.con z ≡ Some x) × (variants_out most datatype vs x ≡ Some y) = opened _ _ y h in
    variants-keep most datatype vs q.0 y q.2 ∙ one_keeps v.con q.0 q.1
  where
    one_keeps : (c : Option Con) (x : Sofar) → variant_out most datatype v.name c z ≡ Some x → fields_of x ≡ fields_of z
    one_keeps None x e = ap fields_of (sym (some_of e))
    one_keeps (Some c) x e = let r : (t : NormalType) × (argument_out most z c ≡ Some t) × (with_constructor datatype v.name (Some t) z ≡ x) = mapped _ _ x e in ap fields_of (sym r.2)

headings-keep : (most home : ℕ) (fs : List FunDef) (z y : Sofar) → headings_out most home fs z ≡ Some y → fields_of y ≡ fields_of z
headings-keep most home [] z y h = ap fields_of (sym (some_of h))
headings-keep most home (f ∷ fs) z y h =
    let q : (g : Heading) × (heading_out most (names_at z.place) f ≡ Some g) × (headings_out most home fs (with_head home f z g) ≡ Some y) = opened _ _ y h in
    headings-keep most home fs (with_head home f z q.0) y q.2

decl-keeps : (most home : ℕ) (d : DeclForm) (z y : Sofar) → decl_out most home d z ≡ Some y → fields_of y ≡ fields_of z
decl-keeps most home (decl.Con x j c) z y h = let q : (may_be_defined most z c ≡ true) × (Some (with_defined x j c z) ≡ Some y) = opened_if (may_be_defined most z c) (Some (with_defined x j c z)) y h in ap fields_of (sym (some_of q.1))
decl-keeps most home (decl.Type x c) z y h = let q : (may_be_defined most z c ≡ true) × (Some (with_defined x kind.Star c z) ≡ Some y) = opened_if (may_be_defined most z c) (Some (with_defined x kind.Star c z)) y h in ap fields_of (sym (some_of q.1))
decl-keeps most home (decl.Datatype x vs) z y h = variants-keep most z.place.datatypes vs (with_datatype home x z) y h
decl-keeps most home (decl.Table x c primary cs) z y h =
    let q : (s : TableShape) × (option_and_then (shape_out (full_name z x) (written_keys primary cs)) (small_type most (nf (env_at z.place) c)) ≡ Some s) × (with_shape z s ≡ y) = mapped _ _ y h in ap fields_of (sym q.2)
decl-keeps most home (decl.Sequence x) z y h = ap fields_of (sym (some_of h))
decl-keeps most home (decl.Cookie x c) z y h =
    let q : (t : ColumnKind) × (option_and_then type_kind (small_type most (nf (env_at z.place) c)) ≡ Some t) × (with_named_cookie x z t ≡ y) = mapped _ _ y h in ap fields_of (sym q.2)
decl-keeps most home (decl.Val x c e) z y h = let q : (t : NormalType) × (val_type_out most c z ≡ Some t) × (with_val_of x z t ≡ y) = mapped _ _ y h in ap fields_of (sym q.2)
decl-keeps most home (decl.Fun fs) z y h = headings-keep most home fs z y h

decls-keep : (most home : ℕ) (ds : List Decl) (p q : Checked) → decls_out most home ds p ≡ Some q → fields_of q.0 ≡ fields_of p.0
decls-keep most home [] p q h = ap (λ (z : Checked). fields_of z.0) (sym (some_of h))
decls-keep most home (d ∷ ds) p q h =
    let a : (after : Sofar) × (decl_out most home d.form p.0 ≡ Some after) × (option_and_then (λ b. decls_out most home ds (after, b)) (bodies_out most d.form p.0 after p.1) ≡ Some q) = opened _ _ q h in
    let b : (b : Bodies) × (bodies_out most d.form p.0 a.0 p.1 ≡ Some b) × (decls_out most home ds (a.0, b) ≡ Some q) = opened _ _ q a.2 in
    decls-keep most home ds (a.0, b.0) q b.2 ∙ decl-keeps most home d.form p.0 a.0 a.1

pub modules-keep : (most n : ℕ) (names : List (List ℕ)) (modules : List Module) (p q : Checked) → modules_out most n names modules p ≡ Some q →
    fields_of q.0 ≡ fields_of p.0
modules-keep most n [] modules p q h = ap (λ (z : Checked). fields_of z.0) (sym (some_of h))
modules-keep most n (m ∷ names) [] p q h = ap (λ (z : Checked). fields_of z.0) (sym (some_of h))
modules-keep most n (m ∷ names) (x ∷ modules) p q h =
    let a : (y : Checked) × (decls_out most n x.decls (entered m p) ≡ Some y) × (modules_out most (n + 1) names modules y ≡ Some q) = opened _ _ q h in
    modules-keep most (n + 1) names modules a.0 q a.2 ∙ decls-keep most n x.decls (entered m p) a.0 a.1

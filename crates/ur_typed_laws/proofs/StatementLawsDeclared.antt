-- The statements of a project fit the tables that are declared in all of it.
use Rattle.std.proofs.Common.{refl, sym, subst, Option, Some, None, List, [], ◌∷◌, ℕ, ◌+◌, length, map}
use Rattle.std.specs.Prelude.{pred, All, IfSome}
use Rattle.std.proofs.lemmas.List.Elements.{All-nil, All-cons, All-head, All-tail, All-weaker}
use Rattle.ur_values.specs.declared.schema.Schema.{Schema}
use Rattle.ur_syntax.specs.declared.con.Con.{Con}
use Rattle.ur_syntax.specs.declared.decl.Variant.{Variant as WrittenVariant}
use Rattle.ur_syntax.specs.declared.decl.Decl.{Decl}
use Rattle.ur_syntax.specs.declared.decl.DeclForm.{DeclForm}
use Rattle.ur_syntax.specs.declared.decl.DeclForm.TheVariants as decl
use Rattle.ur_syntax.specs.declared.decl.FunDef.{FunDef}
use Rattle.ur_syntax.specs.declared.decl.Module.{Module}
use Rattle.ur_syntax.specs.declared.decl.Signature.{Signature}
use Rattle.ur_syntax.specs.declared.exp.ExpForm.{ExpForm}
use Rattle.ur_sql.specs.Typing.{QueryFits, ChangeFits}
use Rattle.ur_rows.specs.declared.normal.NormalType.{NormalType}
use Rattle.ur_typed_rules.specs.Scopes.{wants}
use Rattle.ur_sqltype.specs.SqltypeFits.{QueryOfFits, ChangeOfFits}
use Rattle.ur_typed.specs.Project.{names_at}
use Rattle.ur_typed.specs.Typed.{nothing_declared}
use Rattle.ur_typed.specs.Declaring.{Sofar, world_behind, top_scope, variant_out, variants_out, with_datatype, heading_out, headings_out, with_head, val_type_out, decl_out, Heading, Bodies, with_body, body_scope, body_out, group_out, val_body_out, bodies_out, Checked, decls_out, entered, modules_out, nothing_yet, entries_out, ended, project_out}
use Rattle.ur_typed_laws.specs.Fitting.{Begins, SitesFit, ProjectStatementsFit}
use Rattle.ur_typed_laws.proofs.More.{begins_self, begins_then, begins_same, query_more, change_more, sites_more}
use Rattle.ur_typed_laws.proofs.Options.{Brings, some_brings, then_brings, then_any, map_brings, map_any, if_brings}
use Rattle.ur_typed_laws.proofs.StatementLawsWalked.{typed_fits}

-- ---- tables behind a declaration

abbrev tables_of : Sofar → Schema
tables_of z = z.place.globals.tables

abbrev Goes : Sofar → Sofar → Type 0
Goes z after = Begins (tables_of z) (tables_of after)

variant_goes : (most n : ℕ) (x : List ℕ) (c : Option Con) (z : Sofar) → Brings (Goes z) (variant_out most n x c z)
variant_goes most n x None z = some_brings (begins_self (tables_of z))
variant_goes most n x (Some c) z = map_any _ _ (λ u. begins_self (tables_of z))

variants_go : (most n : ℕ) (vs : List WrittenVariant) (z : Sofar) → Brings (Goes z) (variants_out most n vs z)
variants_go most n [] z = some_brings (begins_self (tables_of z))
variants_go most n (v ∷ vs) z = then_brings (variant_goes most n v.name v.con z) (λ y b. record { on = λ after h. begins_then b ((variants_go most n vs y).on after h) })

headings_go : (most home : ℕ) (fs : List FunDef) (z : Sofar) → Brings (Goes z) (headings_out most home fs z)
headings_go most home [] z = some_brings (begins_self (tables_of z))
headings_go most home (f ∷ fs) z = then_any (heading_out most (names_at z.place) f) (λ h. record { on = λ after e. begins_then (begins_self (tables_of z)) ((headings_go most home fs (with_head home f z h)).on after e) })

decl_goes : (most home : ℕ) (d : DeclForm) (z : Sofar) → Brings (Goes z) (decl_out most home d z)
decl_goes most home (decl.Con x k c) z = if_brings _ (some_brings (begins_self (tables_of z)))
decl_goes most home (decl.Type x c) z = if_brings _ (some_brings (begins_self (tables_of z)))
decl_goes most home (decl.Datatype x vs) z = variants_go most z.place.datatypes vs (with_datatype home x z)
decl_goes most home (decl.Table x c primary cs) z = map_any _ _ (λ shape. record { more = shape ∷ []; are = refl })
decl_goes most home (decl.Sequence x) z = some_brings (begins_self (tables_of z))
decl_goes most home (decl.Cookie x c) z = map_any _ _ (λ k. begins_self (tables_of z))
decl_goes most home (decl.Val x c e) z = map_any _ _ (λ u. begins_self (tables_of z))
decl_goes most home (decl.Fun fs) z = headings_go most home fs z

-- ---- bodies

abbrev BodiesFit : Schema → Bodies → Type 0
BodiesFit t b = SitesFit t b.sites

abbrev CheckedFits : Checked → Type 0
CheckedFits p = SitesFit (tables_of p.0) p.1.sites

nothing_fits : (fields : List (List ℕ)) → CheckedFits (nothing_yet (nothing_declared fields))
nothing_fits fields = record { queries = All-nil _; changes = All-nil _ }

abbrev EndedFits : Checked × List ℕ → Type 0
EndedFits r = CheckedFits r.0

module _ (queries : QueryOfFits) (changes : ChangeOfFits) where
  body_fits : (most : ℕ) (z : Sofar) (f : FunDef) (b : Bodies) (h : Heading) → BodiesFit (tables_of z) b → Brings (BodiesFit (tables_of z)) (body_out most z f b h)
  body_fits most z f b h k = map_brings (with_body b) (typed_fits queries changes (world_behind most z) f.body.form (body_scope h) b.sites (wants h.head.result) k) (λ o i. i)

  group_fits : (most : ℕ) (z : Sofar) (fs : List FunDef) (b : Bodies) → BodiesFit (tables_of z) b → Brings (BodiesFit (tables_of z)) (group_out most z fs b)
  group_fits most z [] b k = some_brings k
  group_fits most z (f ∷ fs) b k = then_brings (then_any (heading_out most (names_at z.place) f) (λ h. body_fits most z f b h k)) (λ c i. group_fits most z fs c i)

  val_fits : (most : ℕ) (z : Sofar) (x : ExpForm) (b : Bodies) (u : NormalType) → BodiesFit (tables_of z) b → Brings (BodiesFit (tables_of z)) (val_body_out most z x b u)
  val_fits most z x b u k = then_brings (typed_fits queries changes (world_behind most z) x (top_scope z) b.sites (wants u) k) (λ o i. if_brings _ (some_brings i))

  -- the bodies of a declaration, seen where it is declared
  bodies_fit : (most : ℕ) (d : DeclForm) (z after : Sofar) (b : Bodies) → Goes z after → BodiesFit (tables_of z) b → Brings (BodiesFit (tables_of after)) (bodies_out most d z after b)
  bodies_fit most (decl.Val x c e) z after b g k = then_any (val_type_out most c z) (λ u. record { on = λ y h. sites_more g ((val_fits most z e.form b u k).on y h) })
  bodies_fit most (decl.Fun fs) z after b g k = group_fits most after fs b (sites_more g k)
  bodies_fit most _ z after b g k = some_brings (sites_more g k)

  -- ---- modules

  decls_fit : (most home : ℕ) (ds : List Decl) (p : Checked) → CheckedFits p → Brings CheckedFits (decls_out most home ds p)
  decls_fit most home [] p k = some_brings k
  decls_fit most home (d ∷ ds) p k = then_brings (decl_goes most home d.form p.0) (λ after g. then_brings (bodies_fit most d.form p.0 after p.1 g k) (λ b i. decls_fit most home ds (after, b) i))

  modules_fit : (most n : ℕ) (names : List (List ℕ)) (modules : List Module) (p : Checked) → CheckedFits p → Brings CheckedFits (modules_out most n names modules p)
  modules_fit most n (m ∷ names) (x ∷ modules) p k = then_brings (decls_fit most n x.decls (entered m p) k) (λ q i. modules_fit most (n + 1) names modules q i)
  modules_fit most n _ _ p k = some_brings k

  project_goes : (most : ℕ) (fields names : List (List ℕ)) (modules : List Module) (signature : Option Signature) → Brings EndedFits (project_out most (nothing_yet (nothing_declared fields)) names modules signature)
  project_goes most fields names modules signature = then_brings (modules_fit most 0 names modules (nothing_yet (nothing_declared fields)) (nothing_fits fields)) (λ p k. map_any (ended p) (entries_out most p.0 (pred (length names)) signature) (λ n. k))

-- ---- all statements

-- what is said of each that is there
each_there : {A : Type 0} (P : A → Type 0) (xs : List A) → All (λ o. IfSome o P) (map (λ x. Some x) xs) → All P xs
each_there P [] h = All-nil P
each_there P (x ∷ xs) h = All-cons P x xs (All-head (λ o. IfSome o P) (Some x) (map (λ y. Some y) xs) h) (each_there P xs (All-tail (λ o. IfSome o P) (Some x) (map (λ y. Some y) xs) h))

pub project_fits : QueryOfFits → ChangeOfFits → ProjectStatementsFit
project_fits f g most fields names modules signature behind entries schema queries changes e t q u = all_fit ((project_goes f g most fields names modules signature).on (behind, entries) e) where
  all_fit : CheckedFits behind → All (QueryFits schema) queries × All (ChangeFits schema) changes
  all_fit i =
      let b : Begins (tables_of behind.0) schema = begins_same (tables_of behind.0) schema t in (
        All-weaker (QueryFits (tables_of behind.0)) (QueryFits schema) (λ x k. query_more (tables_of behind.0) schema x b k) queries (each_there (QueryFits (tables_of behind.0)) queries (subst (λ z. All (λ o. IfSome o (QueryFits (tables_of behind.0))) z) (sym q) i.queries)),
        All-weaker (ChangeFits (tables_of behind.0)) (ChangeFits schema) (λ x k. change_more (tables_of behind.0) schema x b k) changes (each_there (ChangeFits (tables_of behind.0)) changes (subst (λ z. All (λ o. IfSome o (ChangeFits (tables_of behind.0))) z) (sym u) i.changes)),
      )

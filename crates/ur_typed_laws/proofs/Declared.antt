-- What a project declares is determined, and what is seen at each place.
use Rattle.std.proofs.lemmas.Option.{slice_get-map}
use Rattle.std.proofs.Common.{arith, ◌≡◌, ◌∙◌, refl, sym, ap, subst, Option, Some, None, List, [], ◌∷◌, ℕ, ◌+◌, length, map, take}
use Rattle.std.specs.Prelude.{slice_get, option_map}
use Rattle.ur_syntax.specs.Names.{name_text}
use Rattle.ur_syntax.specs.declared.con.ConMeaning.TheVariants as meaning
use Rattle.ur_syntax.specs.declared.kind.Kind.TheVariants as kind
use Rattle.ur_syntax.specs.declared.decl.Variant.{Variant as WrittenVariant}
use Rattle.ur_syntax.specs.declared.decl.FunDef.{FunDef}
use Rattle.ur_syntax.specs.declared.decl.Decl.{Decl}
use Rattle.ur_syntax.specs.declared.decl.DeclForm.{DeclForm}
use Rattle.ur_syntax.specs.declared.decl.Module.{Module}
use Rattle.ur_rows.specs.declared.normal.Normal.TheVariants as normal
use Rattle.ur_rows.specs.declared.normal.NormalType.{NormalType}
use Rattle.ur_tree.specs.Scalars.{kind_type}
use Rattle.ur_sqltype.specs.Table.{IsTable}
use Rattle.ur_tree.specs.declared.typed.Typed.{Typed}
use Rattle.ur_tree.specs.declared.typed.ModuleVal.{ModuleVal}
use Rattle.ur_tree.specs.declared.typed.Variant.{Variant}
use Rattle.ur_typed_rules.specs.Names.{WritesType}
use Rattle.ur_typed.specs.Project.{Place, env_at, with_entry, with_table, with_variant, with_function, enter, written_keys, AreNamed, FunctionsResolve, VariantsResolve, DeclResolves, DeclsResolve, ModulesResolve}
use Rattle.ur_typed.specs.Project as project
use Rattle.ur_typed_rules.proofs.Options.{some_of, some_none}
use Rattle.ur_typed_laws.proofs.Lists.{Agree, agree_next, agree_more}
use Rattle.ur_typed_laws.proofs.Written.{one_type, one_shape, one_kind, headed, one_function}

abbrev pub val_of : ModuleVal → NormalType
val_of v = v.of

-- ---- two sources that agree on what is declared before a place

pub record Agreed (a b : Typed) (p : Place) : Type 0 where
  pub functions : Agree p.functions (map headed a.functions) (map headed b.functions)
  pub vals : Agree p.vals (map val_of a.vals) (map val_of b.vals)
  pub datatypes : Agree p.datatypes a.datatypes b.datatypes
  pub variants : Agree p.variants a.variants b.variants
  pub cookies : Agree (length p.globals.cookies) a.cookies b.cookies
  pub sequences : Agree (length p.globals.sequences) a.schema.sequences b.schema.sequences

-- at a place that counts as many
kept : (a b : Typed) (p q : Place) → p.functions ≡ q.functions → p.vals ≡ q.vals → p.datatypes ≡ q.datatypes → p.variants ≡ q.variants → length p.globals.cookies ≡ length q.globals.cookies → length p.globals.sequences ≡ length q.globals.sequences → Agreed a b p → Agreed a b q
kept a b p q f v d n c s g = record {
  functions = subst (λ k. Agree k (map headed a.functions) (map headed b.functions)) f g.functions;
  vals = subst (λ k. Agree k (map val_of a.vals) (map val_of b.vals)) v g.vals;
  datatypes = subst (λ k. Agree k a.datatypes b.datatypes) d g.datatypes;
  variants = subst (λ k. Agree k a.variants b.variants) n g.variants;
  cookies = subst (λ k. Agree k a.cookies b.cookies) c g.cookies;
  sequences = subst (λ k. Agree k a.schema.sequences b.schema.sequences) s g.sequences;
}

-- behind a declaration they are at one place
pub record Step (a b : Typed) (q z : Place) : Type 0 where
  pub same : q ≡ z
  pub agreed : Agreed a b q

-- ---- functions

one_named : (p : Place) (fs : List FunDef) (q z : Place) → AreNamed p fs q → AreNamed p fs z → q ≡ z
one_named p _ _ _ project.AreNamed.none project.AreNamed.none = refl
one_named p _ q z (project.AreNamed.one {f = f} {fs = fs} x) (project.AreNamed.one y) = one_named (with_function f.name p) fs q z x y

-- only functions are counted
pub named_counts : (p : Place) (fs : List FunDef) (q : Place) → AreNamed p fs q →
    (p.functions + length fs ≡ q.functions) × (p.vals ≡ q.vals) × (p.datatypes ≡ q.datatypes) × (p.variants ≡ q.variants) × (length p.globals.cookies ≡ length q.globals.cookies) × (length p.globals.sequences ≡ length q.globals.sequences)
named_counts p _ _ project.AreNamed.none = let e : p.functions + length {A = FunDef} [] ≡ p.functions = omega arith in (e, refl, refl, refl, refl, refl)
named_counts p _ q (project.AreNamed.one {f = f} {fs = fs} x) =
    let i = named_counts (with_function f.name p) fs q x in
    let e : p.functions + length (f ∷ fs) ≡ (p.functions + 1) + length fs = omega arith in
    (e ∙ i.0, i.1, i.2, i.3, i.4, i.5)

functions_agree : (a b : Typed) (most home : ℕ) (q : Place) (n : ℕ) (fs : List FunDef) → FunctionsResolve a most home q n fs → FunctionsResolve b most home q n fs → Agree n (map headed a.functions) (map headed b.functions) → Agree (n + length fs) (map headed a.functions) (map headed b.functions)
functions_agree a b most home q n _ project.FunctionsResolve.none project.FunctionsResolve.none g = let e : n ≡ n + length {A = FunDef} [] = omega arith in subst (λ k. Agree k (map headed a.functions) (map headed b.functions)) e g
functions_agree a b most home q n _ (project.FunctionsResolve.one {f = f} {d = d} {fs = fs} h x r) (project.FunctionsResolve.one {d = e} h' y r') g =
    let s : headed d ≡ headed e = (one_function x y).head in
    let k : Agree (n + 1) (map headed a.functions) (map headed b.functions) = agree_more n (map headed a.functions) (map headed b.functions) (headed d) g (slice_get-map headed a.functions n ∙ ap (option_map headed) h) (slice_get-map headed b.functions n ∙ (ap (option_map headed) h' ∙ ap (λ z. Some z) (sym s))) in
    let i : (n + 1) + length fs ≡ n + length (f ∷ fs) = omega arith in
    subst (λ k. Agree k (map headed a.functions) (map headed b.functions)) i (functions_agree a b most home q (n + 1) fs r r' k)

-- ---- datatypes

abbrev a_variant : ℕ → List ℕ → Option NormalType → Variant
a_variant k x t = record { datatype = k; name = x; arg = t }

another : (a b : Typed) (p : Place) (x : List ℕ) (v : Variant) → slice_get a.variants p.variants ≡ Some v → slice_get b.variants p.variants ≡ Some v → Agreed a b p → Agreed a b (with_variant x p)
another a b p x v h i g = record { functions = g.functions; vals = g.vals; datatypes = g.datatypes; variants = agree_more p.variants a.variants b.variants v g.variants h i; cookies = g.cookies; sequences = g.sequences }

variants_step : (a b : Typed) (most k : ℕ) (p : Place) (vs : List WrittenVariant) (q z : Place) → VariantsResolve a most k p vs q → VariantsResolve b most k p vs z → Agreed a b p → Step a b q z
variants_step a b most k p _ _ _ project.VariantsResolve.none project.VariantsResolve.none g = record { same = refl; agreed = g }
variants_step a b most k p _ q z (project.VariantsResolve.plain {v = v} {vs = vs} e h r) (project.VariantsResolve.plain e' h' r') g = variants_step a b most k (with_variant v.name p) vs q z r r' (another a b p v.name (a_variant k v.name None) h h' g)
variants_step a b most k p _ q z (project.VariantsResolve.plain e h r) (project.VariantsResolve.with e' w' h' r') g = absurd (some_none (sym e' ∙ e))
variants_step a b most k p _ q z (project.VariantsResolve.with e w h r) (project.VariantsResolve.plain e' h' r') g = absurd (some_none (sym e ∙ e'))
variants_step a b most k p _ q z (project.VariantsResolve.with {v = v} {vs = vs} {c = c} {t = t} e w h r) (project.VariantsResolve.with {c = c'} {t = u} e' w' h' r') g =
    let i : c ≡ c' = some_of (sym e ∙ e') in
    let j : t ≡ u = one_type most (env_at p) c t u w (subst (λ y. WritesType most (env_at p) y u) (sym i) w') in
    variants_step a b most k (with_variant v.name p) vs q z r r' (another a b p v.name (a_variant k v.name (Some t)) h (h' ∙ ap (λ y. Some (a_variant k v.name (Some y))) (sym j)) g)

-- ---- declarations

pub decl_step : (a b : Typed) → a.modules ≡ b.modules → (most home : ℕ) (p : Place) (d : DeclForm) (q z : Place) → DeclResolves a most home p d q → DeclResolves b most home p d z → Agreed a b p → Step a b q z
decl_step a b m most home p _ _ _ (project.DeclResolves.con {x = x} {k = k} {c = c} h i) (project.DeclResolves.con h' i') g = record { same = refl; agreed = kept a b p (with_entry x k (meaning.Defined c) p) refl refl refl refl refl refl g }
decl_step a b m most home p _ _ _ (project.DeclResolves.type_ {x = x} {c = c} h i) (project.DeclResolves.type_ h' i') g = record { same = refl; agreed = kept a b p (with_entry x kind.Star (meaning.Defined c) p) refl refl refl refl refl refl g }
decl_step a b m most home p _ q z (project.DeclResolves.datatype {x = x} {vs = vs} h r) (project.DeclResolves.datatype h' r') g =
    variants_step a b most p.datatypes (with_entry x kind.Star (meaning.Datatype p.datatypes) (record p { datatypes = p.datatypes + 1 })) vs q z r r'
    (record { functions = g.functions; vals = g.vals; datatypes = agree_more p.datatypes a.datatypes b.datatypes (record { «module» = home; name = x }) g.datatypes h h'; variants = g.variants; cookies = g.cookies; sequences = g.sequences })
decl_step a b m most home p _ _ _ (project.DeclResolves.table {x = x} {m = n} {c = c} {primary = primary} {cs = cs} {t = t} {shape = s} w h i l) (project.DeclResolves.table {m = n'} {t = u} {shape = s'} w' h' i' l') g =
    let e : n ≡ n' = some_of (sym h ∙ (ap (λ y. slice_get y home) m ∙ h')) in
    let j : t ≡ u = one_type most (env_at p) c t u w w' in
    let i'' : IsTable (name_text (Some n) x) (normal.Type t) (written_keys primary cs) s' = subst (λ y. IsTable (name_text (Some y) x) (normal.Type t) (written_keys primary cs) s') (sym e) (subst (λ y. IsTable (name_text (Some n') x) (normal.Type y) (written_keys primary cs) s') (sym j) i') in
    record { same = ap (λ y. with_table y p) (one_shape (name_text (Some n) x) (normal.Type t) (written_keys primary cs) s s' i i''); agreed = kept a b p (with_table s p) refl refl refl refl refl refl g }
decl_step a b m most home p _ _ _ (project.DeclResolves.sequence {x = x} {m = n} i l) (project.DeclResolves.sequence {m = n'} i' l') g =
    let e : n ≡ n' = some_of (sym i ∙ (ap (λ y. slice_get y home) m ∙ i')) in
    record {
      same = refl;
      agreed = record { functions = g.functions; vals = g.vals; datatypes = g.datatypes; variants = g.variants; cookies = g.cookies; sequences = agree_next (length p.globals.sequences) a.schema.sequences b.schema.sequences (name_text (Some n) x) g.sequences l (l' ∙ ap (λ y. Some (name_text (Some y) x)) (sym e)) };
    }
decl_step a b m most home p _ _ _ (project.DeclResolves.cookie {x = x} {m = n} {c = c} {k = k} w o i l) (project.DeclResolves.cookie {m = n'} {k = k'} w' o' i' l') g =
    let e : n ≡ n' = some_of (sym i ∙ (ap (λ y. slice_get y home) m ∙ i')) in
    let j : k ≡ k' = one_kind k k' (one_type most (env_at p) c (kind_type k) (kind_type k') w w') in
    record {
      same = refl;
      agreed = record {
        functions = g.functions;
        vals = g.vals;
        datatypes = g.datatypes;
        variants = g.variants;
        cookies = agree_next (length p.globals.cookies) a.cookies b.cookies (name_text (Some n) x, k) g.cookies l (l' ∙ (ap (λ y. Some (name_text (Some y) x, k')) (sym e) ∙ ap (λ y. Some (name_text (Some n) x, y)) (sym j)));
        sequences = g.sequences;
      };
    }
decl_step a b m most home p _ _ _ (project.DeclResolves.val {x = x} {c = c} {d = v} w r l) (project.DeclResolves.val {d = v'} w' r' l') g =
    let j : v.of ≡ v'.of = one_type most (env_at p) c v.of v'.of w w' in
    record {
      same = refl;
      agreed = record {
        functions = g.functions;
        vals = agree_more p.vals (map val_of a.vals) (map val_of b.vals) v.of g.vals (slice_get-map val_of a.vals p.vals ∙ ap (option_map val_of) l) (slice_get-map val_of b.vals p.vals ∙ (ap (option_map val_of) l' ∙ ap (λ y. Some y) (sym j)));
        datatypes = g.datatypes;
        variants = g.variants;
        cookies = g.cookies;
        sequences = g.sequences;
      };
    }
decl_step a b m most home p _ q z (project.DeclResolves.functions {fs = fs} n r) (project.DeclResolves.functions n' r') g =
    let e : q ≡ z = one_named p fs q z n n' in
    let c = named_counts p fs q n in
    let k : Agree (p.functions + length fs) (map headed a.functions) (map headed b.functions) = functions_agree a b most home q p.functions fs r (subst (λ y. FunctionsResolve b most home y p.functions fs) (sym e) r') g.functions in
    record {
      same = e;
      agreed = record {
        functions = subst (λ y. Agree y (map headed a.functions) (map headed b.functions)) c.0 k;
        vals = subst (λ y. Agree y (map val_of a.vals) (map val_of b.vals)) c.1 g.vals;
        datatypes = subst (λ y. Agree y a.datatypes b.datatypes) c.2 g.datatypes;
        variants = subst (λ y. Agree y a.variants b.variants) c.3 g.variants;
        cookies = subst (λ y. Agree y a.cookies b.cookies) c.4 g.cookies;
        sequences = subst (λ y. Agree y a.schema.sequences b.schema.sequences) c.5 g.sequences;
      };
    }

decls_step : (a b : Typed) → a.modules ≡ b.modules → (most home : ℕ) (p : Place) (ds : List Decl) (q z : Place) → DeclsResolve a most home p ds q → DeclsResolve b most home p ds z → Agreed a b p → Step a b q z
decls_step a b m most home p _ _ _ project.DeclsResolve.none project.DeclsResolve.none g = record { same = refl; agreed = g }
decls_step a b m most home p _ q z (project.DeclsResolve.one {q = q'} {d = d} {ds = ds} x r) (project.DeclsResolve.one {q = z'} y s) g =
    let i : Step a b q' z' = decl_step a b m most home p d.form q' z' x y g in
    decls_step a b m most home q' ds q z r (subst (λ v. DeclsResolve b most home v ds z) (sym i.same) s) i.agreed

pub modules_step : (a b : Typed) → a.modules ≡ b.modules → (most n : ℕ) (p : Place) (names : List (List ℕ)) (modules : List Module) (q z : Place) → ModulesResolve a most n p names modules q → ModulesResolve b most n p names modules z → Agreed a b p → Step a b q z
modules_step a b e most n p _ _ _ _ project.ModulesResolve.none project.ModulesResolve.none g = record { same = refl; agreed = g }
modules_step a b e most n p _ _ q z (project.ModulesResolve.one {q = q'} {m = m} {names = names} {x = x} {modules = modules} h r rs) (project.ModulesResolve.one {q = z'} h' s ss) g =
    let i : Step a b q' z' = decls_step a b e most n (enter m p) x.decls q' z' r s (kept a b p (enter m p) refl refl refl refl refl refl g) in
    modules_step a b e most (n + 1) q' names modules q z rs (subst (λ v. ModulesResolve b most (n + 1) v names modules z) (sym i.same) ss) i.agreed

-- ---- two sources that agree on all that is declared

pub record SameHeads (a b : Typed) : Type 0 where
  pub modules : a.modules ≡ b.modules
  pub names : a.names ≡ b.names
  pub functions : map headed a.functions ≡ map headed b.functions
  pub vals : map val_of a.vals ≡ map val_of b.vals
  pub datatypes : a.datatypes ≡ b.datatypes
  pub variants : a.variants ≡ b.variants
  pub cookies : a.cookies ≡ b.cookies
  pub sequences : a.schema.sequences ≡ b.schema.sequences

pub always : (a b : Typed) → SameHeads a b → (p : Place) → Agreed a b p
always a b s p = record {
  functions = ap (take p.functions) s.functions;
  vals = ap (take p.vals) s.vals;
  datatypes = ap (take p.datatypes) s.datatypes;
  variants = ap (take p.variants) s.variants;
  cookies = ap (take (length p.globals.cookies)) s.cookies;
  sequences = ap (take (length p.globals.sequences)) s.sequences;
}

-- The functions of a source are those of its modules, in order.
use Rattle.std.proofs.Common.{◌≡◌, ◌∙◌, refl, sym, ap, subst, Some, List, [], ◌∷◌, ◌++◌, ℕ, suc, ◌+◌, length, map, take, append_assoc, append-nil}
use Rattle.std.specs.Prelude.{slice_get, option_map}
use Rattle.std.proofs.Math.Seq.{take-length}
use Rattle.std.proofs.lemmas.List.{map-append}
use Rattle.std.proofs.lemmas.Option.{slice_get-map}
use Rattle.ur_syntax.specs.declared.con.ConMeaning.TheVariants as meaning
use Rattle.ur_syntax.specs.declared.kind.Kind.TheVariants as kind
use Rattle.ur_syntax.specs.declared.decl.Variant.{Variant}
use Rattle.ur_syntax.specs.declared.decl.FunDef.{FunDef}
use Rattle.ur_syntax.specs.declared.decl.Decl.{Decl}
use Rattle.ur_syntax.specs.declared.decl.DeclForm.{DeclForm}
use Rattle.ur_syntax.specs.declared.decl.Module.{Module}
use Rattle.ur_tree.specs.declared.typed.Typed.{Typed}
use Rattle.ur_tree.specs.declared.typed.Function.{Function}
use Rattle.ur_typed.specs.Project.{Place, with_function, with_variant, with_entry, enter, FunctionResolves, AreNamed, FunctionsResolve, VariantsResolve, DeclResolves, DeclsResolve, ModulesResolve}
use Rattle.ur_typed.specs.Project as project
use Rattle.ur_compile_laws.proofs.Places.{take_next}
use Rattle.ur_compile_laws.proofs.Spelled.{functions_of, functions_in}

-- the number of its module and its name
abbrev pub Title : Type 0
Title = ℕ × List ℕ

abbrev pub title_of : Function → Title
title_of d = (d.«module», d.name)

abbrev pub titles : ℕ → List FunDef → List Title
titles n fs = map (λ f. (n, f.name)) fs

abbrev pub all_titles : ℕ → List (List ℕ) → List Module → List Title
all_titles n (m ∷ names) (x ∷ modules) = titles n (functions_in x.decls) ++ all_titles (n + 1) names modules
all_titles n _ _ = []

-- the functions up to the second number are those up to the first, and these
abbrev Follow : Typed → ℕ → List Title → ℕ → Type 0
Follow app a xs b = take b (map title_of app.functions) ≡ take a (map title_of app.functions) ++ xs

follow_none : (app : Typed) (a b : ℕ) → b ≡ a → Follow app a [] b
follow_none app a b e = ap (λ n. take n (map title_of app.functions)) e ∙ sym (append-nil (take a (map title_of app.functions)))

follow_both : (app : Typed) (a b c : ℕ) (xs ys : List Title) → Follow app a xs b → Follow app b ys c → Follow app a (xs ++ ys) c
follow_both app a b c xs ys h g = g ∙ (ap (λ z. z ++ ys) h ∙ append_assoc (take a (map title_of app.functions)) xs ys)

same_title : (a b : ℕ) (x y : List ℕ) → a ≡ b → x ≡ y → ◌≡◌ {A = Title} (a, x) (b, y)
same_title a b x y h g = ap (λ n. (n, x)) h ∙ ap (λ z. (b, z)) g

follow_one : (app : Typed) (n home : ℕ) (f : FunDef) (d : Function) → slice_get app.functions n ≡ Some d → d.«module» ≡ home → d.name ≡ f.name → Follow app n ((home, f.name) ∷ []) (n + 1)
follow_one app n home f d h k e =
    let there : slice_get (map title_of app.functions) n ≡ Some (home, f.name) = slice_get-map title_of app.functions n ∙ (ap (option_map title_of) h ∙ ap (λ z. Some z) (same_title d.«module» home d.name f.name k e)) in
    take_next (map title_of app.functions) n (home, f.name) there

functions_follow : (app : Typed) (most home : ℕ) (r p : Place) (fs : List FunDef) (q : Place) → AreNamed p fs q → FunctionsResolve app most home r p.functions fs → Follow app p.functions (titles home fs) q.functions
functions_follow app most home r p _ _ project.AreNamed.none g = follow_none app p.functions p.functions refl
functions_follow app most home r p _ q (project.AreNamed.one {f = f} {fs = fs} k) (project.FunctionsResolve.one {d = d} there h g) =
    follow_both app p.functions (p.functions + 1) q.functions ((home, f.name) ∷ []) (titles home fs) (follow_one app p.functions home f d there h.place h.name)
    (functions_follow app most home r (with_function f.name p) fs q k g)

variants_same : (app : Typed) (most n : ℕ) (p : Place) (vs : List Variant) (q : Place) → VariantsResolve app most n p vs q → q.functions ≡ p.functions
variants_same app most n p _ _ project.VariantsResolve.none = refl
variants_same app most n p _ q (project.VariantsResolve.plain {v = v} {vs = vs} a b h) = variants_same app most n (with_variant v.name p) vs q h
variants_same app most n p _ q (project.VariantsResolve.with {v = v} {vs = vs} a b c h) = variants_same app most n (with_variant v.name p) vs q h

decl_follows : (app : Typed) (most home : ℕ) (p : Place) (x : DeclForm) (q : Place) → DeclResolves app most home p x q → Follow app p.functions (titles home (functions_of x)) q.functions
decl_follows app most home p _ _ (project.DeclResolves.con a b) = follow_none app p.functions p.functions refl
decl_follows app most home p _ _ (project.DeclResolves.type_ a b) = follow_none app p.functions p.functions refl
decl_follows app most home p _ q (project.DeclResolves.datatype {x = x} {vs = vs} a h) =
    follow_none app p.functions q.functions (variants_same app most p.datatypes (with_entry x kind.Star (meaning.Datatype p.datatypes) (record p { datatypes = p.datatypes + 1 })) vs q h)
decl_follows app most home p _ _ (project.DeclResolves.table a b c d) = follow_none app p.functions p.functions refl
decl_follows app most home p _ _ (project.DeclResolves.sequence a b) = follow_none app p.functions p.functions refl
decl_follows app most home p _ _ (project.DeclResolves.cookie a o b c) = follow_none app p.functions p.functions refl
decl_follows app most home p _ _ (project.DeclResolves.val a b c) = follow_none app p.functions p.functions refl
decl_follows app most home p _ q (project.DeclResolves.functions {fs = fs} k g) = functions_follow app most home q p fs q k g

decls_follow : (app : Typed) (most home : ℕ) (p : Place) (ds : List Decl) (q : Place) → DeclsResolve app most home p ds q → Follow app p.functions (titles home (functions_in ds)) q.functions
decls_follow app most home p _ _ project.DeclsResolve.none = follow_none app p.functions p.functions refl
decls_follow app most home p _ r (project.DeclsResolve.one {q = q} {d = d} {ds = ds} h g) =
    subst (λ z. Follow app p.functions z r.functions) (sym (map-append (λ (f : FunDef). (home, f.name)) (functions_of d.form) (functions_in ds)))
    (follow_both app p.functions q.functions r.functions (titles home (functions_of d.form)) (titles home (functions_in ds)) (decl_follows app most home p d.form q h) (decls_follow app most home q ds r g))

modules_follow : (app : Typed) (most n : ℕ) (p : Place) (names : List (List ℕ)) (modules : List Module) (r : Place) → ModulesResolve app most n p names modules r → Follow app p.functions (all_titles n names modules) r.functions
modules_follow app most n p _ _ _ project.ModulesResolve.none = follow_none app p.functions p.functions refl
modules_follow app most n p _ _ r (project.ModulesResolve.one {q = q} {m = m} {names = names} {x = x} {modules = modules} a h g) =
    follow_both app p.functions q.functions r.functions (titles n (functions_in x.decls)) (all_titles (n + 1) names modules) (decls_follow app most n (enter m p) x.decls q h) (modules_follow app most (n + 1) q names modules r g)

many : (fs : List Function) → length (map title_of fs) ≡ length fs
many [] = refl
many (f ∷ fs) = ap (λ n. suc n) (many fs)

-- all of them
pub titles_are : (app : Typed) (most : ℕ) (p : Place) (names : List (List ℕ)) (modules : List Module) (r : Place) → ModulesResolve app most 0 p names modules r → p.functions ≡ 0 → length app.functions ≡ r.functions →
    map title_of app.functions ≡ all_titles 0 names modules
titles_are app most p names modules r h z e =
    let all : List Title = map title_of app.functions in
    sym (take-length all) ∙ (ap (λ n. take n all) (many app.functions ∙ e) ∙ (modules_follow app most 0 p names modules r h ∙ ap (λ n. take n all ++ all_titles 0 names modules) z))

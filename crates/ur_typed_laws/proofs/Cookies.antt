-- Each cookie that is declared is of an int, a text or a bool.
use Rattle.std.proofs.Common.{arith, ◌≡◌, List, ℕ, suc, ◌+◌, length, Some}
use Rattle.std.specs.Prelude.{◌<◌, slice_get}
use Rattle.ur_syntax.specs.declared.con.ConMeaning.TheVariants as meaning
use Rattle.ur_syntax.specs.declared.kind.Kind.TheVariants as kind
use Rattle.ur_syntax.specs.declared.decl.Variant.{Variant as WrittenVariant}
use Rattle.ur_syntax.specs.declared.decl.FunDef.{FunDef}
use Rattle.ur_syntax.specs.declared.decl.Decl.{Decl}
use Rattle.ur_syntax.specs.declared.decl.DeclForm.{DeclForm}
use Rattle.ur_syntax.specs.declared.decl.Module.{Module}
use Rattle.ur_values.specs.declared.schema.ColumnKind.{ColumnKind}
use Rattle.ur_tree.specs.declared.typed.Typed.{Typed}
use Rattle.ur_tree.specs.App.{IsBasicCookie}
use Rattle.ur_typed.specs.Project.{Place, with_entry, with_function, with_variant, enter, AreNamed, VariantsResolve, DeclResolves, DeclsResolve, ModulesResolve}
use Rattle.ur_typed.specs.Project as project
use Rattle.ur_typed.specs.Declaring.{counted}
use Rattle.ur_typed_laws.proofs.SoundLawsBodying.{one_more}

-- the cookies below a number are basic
abbrev pub AreBasicBelow : Typed → ℕ → Type 0
AreBasicBelow app n = (i : ℕ) (c : List ℕ × ColumnKind) → i < n → slice_get app.cookies i ≡ Some c → IsBasicCookie c

pub none_below : (app : Typed) → AreBasicBelow app 0
none_below app i c l h = absurd (omega (arith, l))

and_one : (app : Typed) (n : ℕ) (c : List ℕ × ColumnKind) → slice_get app.cookies n ≡ Some c → IsBasicCookie c → AreBasicBelow app n → AreBasicBelow app (suc n)
and_one app n c g b f i d l h = one_more (λ k x. IsBasicCookie x) app.cookies n c g b f i d (omega (arith, l)) h

-- the cookies that were declared before a place
abbrev AreBasic : Typed → Place → Type 0
AreBasic app p = AreBasicBelow app (length p.globals.cookies)

variants_basic : (app : Typed) (most k : ℕ) (p : Place) (vs : List WrittenVariant) (q : Place) → VariantsResolve app most k p vs q → AreBasic app p →
    AreBasic app q
variants_basic app most k p _ _ project.VariantsResolve.none h = h
variants_basic app most k p _ q (project.VariantsResolve.plain {v = v} {vs = vs} e g x) h = variants_basic app most k (with_variant v.name p) vs q x h
variants_basic app most k p _ q (project.VariantsResolve.with {v = v} {vs = vs} e w g x) h = variants_basic app most k (with_variant v.name p) vs q x h

named_basic : (app : Typed) (p : Place) (fs : List FunDef) (q : Place) → AreNamed p fs q → AreBasic app p → AreBasic app q
named_basic app p _ _ project.AreNamed.none h = h
named_basic app p _ q (project.AreNamed.one {f = f} {fs = fs} x) h = named_basic app (with_function f.name p) fs q x h

decl_basic : (app : Typed) (most home : ℕ) (p : Place) (d : DeclForm) (q : Place) → DeclResolves app most home p d q → AreBasic app p → AreBasic app q
decl_basic app most home p _ _ (project.DeclResolves.con i j) h = h
decl_basic app most home p _ _ (project.DeclResolves.type_ i j) h = h
decl_basic app most home p _ q (project.DeclResolves.datatype {x = x} {vs = vs} i y) h =
    variants_basic app most p.datatypes (with_entry x kind.Star (meaning.Datatype p.datatypes) (counted p)) vs q y h
decl_basic app most home p _ _ (project.DeclResolves.table w i j l) h = h
decl_basic app most home p _ _ (project.DeclResolves.sequence i l) h = h
decl_basic app most home p _ _ (project.DeclResolves.cookie w b i l) h = and_one app (length p.globals.cookies) _ l b h
decl_basic app most home p _ _ (project.DeclResolves.val w y l) h = h
decl_basic app most home p _ q (project.DeclResolves.functions {fs = fs} n y) h = named_basic app p fs q n h

decls_basic : (app : Typed) (most home : ℕ) (p : Place) (ds : List Decl) (q : Place) → DeclsResolve app most home p ds q → AreBasic app p → AreBasic app q
decls_basic app most home p _ _ project.DeclsResolve.none h = h
decls_basic app most home p _ r (project.DeclsResolve.one {q = q} {d = d} {ds = ds} x y) h =
    decls_basic app most home q ds r y (decl_basic app most home p d.form q x h)

pub modules_basic : (app : Typed) (most n : ℕ) (p : Place) (names : List (List ℕ)) (modules : List Module) (q : Place) →
    ModulesResolve app most n p names modules q → AreBasic app p → AreBasic app q
modules_basic app most n p _ _ _ project.ModulesResolve.none h = h
modules_basic app most n p _ _ r (project.ModulesResolve.one {q = q} {m = m} {names = names} {x = x} {modules = modules} e y z) h =
    modules_basic app most (n + 1) q names modules r z (decls_basic app most n (enter m p) x.decls q y h)

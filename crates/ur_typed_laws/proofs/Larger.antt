-- A typed source within a limit is one within a larger limit.
use Rattle.std.proofs.Common.{refl, List, [], ◌∷◌, ℕ}
use Rattle.std.specs.Prelude.{◌≤◌, All}
use Rattle.std.specs.List.{AllByRecursion}
use Rattle.std.proofs.lemmas.List.Elements.{recursion_from_All, All-from_recursion}
use Rattle.ur_syntax.specs.declared.con.ConParam.{ConParam as WrittenConParam}
use Rattle.ur_syntax.specs.declared.decl.Decl.{Decl}
use Rattle.ur_syntax.specs.declared.decl.DeclForm.{DeclForm}
use Rattle.ur_syntax.specs.declared.decl.FunDef.{FunDef}
use Rattle.ur_syntax.specs.declared.decl.Module.{Module}
use Rattle.ur_syntax.specs.declared.decl.Signature.{Signature}
use Rattle.ur_syntax.specs.declared.decl.Variant.{Variant as WrittenVariant}
use Rattle.ur_syntax.specs.declared.exp.Param.{Param as WrittenParam}
use Rattle.ur_rows.specs.declared.normal.NormalType.{NormalType}
use Rattle.ur_tree.specs.declared.exp.Exp.{Exp}
use Rattle.ur_tree.specs.declared.exp.Param.{Param}
use Rattle.ur_tree.specs.declared.typed.Typed.{Typed}
use Rattle.ur_tree.specs.declared.typed.ConParam.{ConParam}
use Rattle.ur_tree.specs.declared.typed.Function.{Function}
use Rattle.ur_tree.specs.Heads.{Declared, declared_of}
use Rattle.ur_tree.specs.Env.{Env}
use Rattle.ur_tree.specs.App.{BodyFits, FunctionIsTyped, ValIsTyped, AppIsTyped}
use Rattle.ur_typed_rules.specs.Names.{Local, Names}
use Rattle.ur_typed.specs.Project.{Place, AreConParams, AreParams, FunctionResolves, FunctionsResolve, VariantsResolve, DeclResolves, DeclsResolve, ModulesResolve}
use Rattle.ur_typed.specs.Project as project
use Rattle.ur_typed.specs.Typed.{SignatureFits}
use Rattle.ur_typed_laws.specs.One.{LargerLimit}
use Rattle.ur_typed_laws.proofs.Finding.{accepts, checks}
use Rattle.ur_typed_laws.proofs.Wider.{wider_written, wider_type, wider_row, wider_param, wider}

-- ---- heads

larger_cons : {m n : ℕ} {names after : Names} {ps : List WrittenConParam} {cs : List ConParam} → m ≤ n → AreConParams m names ps after cs → AreConParams n names ps after cs
larger_cons l project.AreConParams.none = project.AreConParams.none
larger_cons l (project.AreConParams.kinded x) = project.AreConParams.kinded (larger_cons l x)
larger_cons l (project.AreConParams.apart r s x) = project.AreConParams.apart (wider_row l r) (wider_row l s) (larger_cons l x)

larger_params : {m n : ℕ} {names : Names} {ps : List WrittenParam} {ls : List Local} {qs : List Param} → m ≤ n → AreParams m names ps ls qs → AreParams n names ps ls qs
larger_params l project.AreParams.none = project.AreParams.none
larger_params l (project.AreParams.one x xs) = project.AreParams.one (wider_param l x) (larger_params l xs)

larger_function : {app : Typed} {m n home : ℕ} {p : Place} {f : FunDef} {d : Function} → m ≤ n → FunctionResolves app m home p f d → FunctionResolves app n home p f d
larger_function l x = record {
  after = x.after;
  locals = x.locals;
  cons = larger_cons l x.cons;
  params = larger_params l x.params;
  result = wider_type l x.result;
  body = wider l refl x.body;
  name = x.name;
  place = x.place;
}

larger_functions : {app : Typed} {m n home : ℕ} {p : Place} {k : ℕ} {fs : List FunDef} → m ≤ n → FunctionsResolve app m home p k fs → FunctionsResolve app n home p k fs
larger_functions l project.FunctionsResolve.none = project.FunctionsResolve.none
larger_functions l (project.FunctionsResolve.one h x xs) = project.FunctionsResolve.one h (larger_function l x) (larger_functions l xs)

-- ---- declarations

larger_variants : {app : Typed} {m n k : ℕ} {p q : Place} {vs : List WrittenVariant} → m ≤ n → VariantsResolve app m k p vs q → VariantsResolve app n k p vs q
larger_variants l project.VariantsResolve.none = project.VariantsResolve.none
larger_variants l (project.VariantsResolve.plain e h x) = project.VariantsResolve.plain e h (larger_variants l x)
larger_variants l (project.VariantsResolve.with e w h x) = project.VariantsResolve.with e (wider_type l w) h (larger_variants l x)

larger_decl : {app : Typed} {m n home : ℕ} {p q : Place} {d : DeclForm} → m ≤ n → DeclResolves app m home p d q → DeclResolves app n home p d q
larger_decl l (project.DeclResolves.con w a) = project.DeclResolves.con (wider_written l w) a
larger_decl l (project.DeclResolves.type_ w a) = project.DeclResolves.type_ (wider_written l w) a
larger_decl l (project.DeclResolves.datatype h x) = project.DeclResolves.datatype h (larger_variants l x)
larger_decl l (project.DeclResolves.table w h i s) = project.DeclResolves.table (wider_type l w) h i s
larger_decl l (project.DeclResolves.sequence h s) = project.DeclResolves.sequence h s
larger_decl l (project.DeclResolves.cookie w b h s) = project.DeclResolves.cookie (wider_type l w) b h s
larger_decl l (project.DeclResolves.val w r s) = project.DeclResolves.val (wider_type l w) (wider l refl r) s
larger_decl l (project.DeclResolves.functions h x) = project.DeclResolves.functions h (larger_functions l x)

larger_decls : {app : Typed} {m n home : ℕ} {p q : Place} {ds : List Decl} → m ≤ n → DeclsResolve app m home p ds q → DeclsResolve app n home p ds q
larger_decls l project.DeclsResolve.none = project.DeclsResolve.none
larger_decls l (project.DeclsResolve.one x xs) = project.DeclsResolve.one (larger_decl l x) (larger_decls l xs)

larger_modules : {app : Typed} {m n k : ℕ} {p q : Place} {names : List (List ℕ)} {modules : List Module} → m ≤ n → ModulesResolve app m k p names modules q → ModulesResolve app n k p names modules q
larger_modules l project.ModulesResolve.none = project.ModulesResolve.none
larger_modules l (project.ModulesResolve.one h x xs) = project.ModulesResolve.one h (larger_decls l x) (larger_modules l xs)

-- ---- types

larger_body : (d : Declared) (m n : ℕ) → m ≤ n → (env : Env) (e : Exp) (t : NormalType) → BodyFits d m env e t → BodyFits d n env e t
larger_body d m n l env e t x = (checks d m n l env e t x.0, accepts m n l e t x.1)

by_each : {A : Type 0} (P Q : A → Type 0) → ((x : A) → P x → Q x) → (xs : List A) → AllByRecursion P xs → AllByRecursion Q xs
by_each P Q f [] a = tt
by_each P Q f (x ∷ xs) a = (f x a.0, by_each P Q f xs a.1)

larger_all : {A : Type 0} (P Q : A → Type 0) → ((x : A) → P x → Q x) → (xs : List A) → All P xs → All Q xs
larger_all P Q f xs a = All-from_recursion Q xs (by_each P Q f xs (recursion_from_All P xs a))

larger_app : (app : Typed) (m n : ℕ) → m ≤ n → AppIsTyped m app → AppIsTyped n app
larger_app app m n l x = record {
  variants = x.variants;
  vals = λ k v h.
      let i : ValIsTyped (declared_of app) m k v = x.vals k v h in
      record { written = i.written; placed = i.placed; static = i.static; body = larger_body _ m n l _ v.body v.of i.body };
  functions = larger_all (FunctionIsTyped (declared_of app) m) (FunctionIsTyped (declared_of app) n) (λ f i. record { head = i.head; body = larger_body _ m n l _ f.body f.result i.body }) app.functions x.functions;
  queries = x.queries;
  changes = x.changes;
  routes = x.routes;
  cookies = x.cookies;
}

larger_signature : {app : Typed} {m n : ℕ} {p : Place} {s : Signature} → m ≤ n → SignatureFits app m p s → SignatureFits app n p s
larger_signature l x = record { fits = λ v c. let i = x.fits v c in (i.0, i.1, i.2, i.3, wider_type l i.4, i.5, i.6) }

pub larger_limit : LargerLimit
larger_limit most more l names modules signature app x = record {
  after = x.after;
  home = x.home;
  resolved = larger_modules l x.resolved;
  functions = x.functions;
  vals = x.vals;
  datatypes = x.datatypes;
  variants = x.variants;
  cookies = x.cookies;
  tables = x.tables;
  sequences = x.sequences;
  bodies = x.bodies;
  are_bodies = x.are_bodies;
  sites = x.sites;
  updates = x.updates;
  entries = λ s e. larger_signature l (x.entries s e);
  routes = x.routes;
  names_occur = x.names_occur;
  names_rise = x.names_rise;
  typed = larger_app app most more l x.typed;
}

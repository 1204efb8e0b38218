-- A project is typed, and `app` is its typed source.
use Rattle.std.specs.Prelude.{◌≡◌, ◌≢◌, ◌+◌, ◌<◌, ◌↔◌, ◌⊎◌, ℕ, pred, IsTrue, List, [], ◌∷◌, ◌++◌, length, Option, Some, None, slice_get, Contains, AllPairs}
use Rattle.std.specs.List.{AllZip}
use Rattle.ur_syntax.specs.declared.con.Con.{Con}
use Rattle.ur_syntax.specs.declared.kind.Kind.{Kind}
use Rattle.ur_syntax.specs.declared.decl.Variant.{Variant as WrittenVariant}
use Rattle.ur_syntax.specs.declared.decl.Constraint.{Constraint}
use Rattle.ur_syntax.specs.declared.exp.Exp.{Exp as WrittenExp}
use Rattle.ur_syntax.specs.declared.decl.Decl.{Decl}
use Rattle.ur_syntax.specs.declared.decl.DeclForm.{DeclForm}
use Rattle.ur_syntax.specs.declared.decl.DeclForm.TheVariants as decl
use Rattle.ur_syntax.specs.declared.decl.FunDef.{FunDef}
use Rattle.ur_syntax.specs.declared.decl.Module.{Module}
use Rattle.ur_syntax.specs.declared.decl.ValDecl.{ValDecl}
use Rattle.ur_syntax.specs.declared.decl.Signature.{Signature}
use Rattle.ur_syntax.specs.Names.{looked_up}
use Rattle.ur_tree.specs.FieldNames.{of_modules}
use Rattle.ur_rows.specs.Order.{is_not_after}
use Rattle.ur_tree.specs.declared.exp.Exp.{Exp}
use Rattle.ur_tree.specs.declared.typed.Typed.{Typed}
use Rattle.ur_tree.specs.declared.typed.Function.{Function}
use Rattle.ur_tree.specs.declared.typed.ModuleVal.{ModuleVal}
use Rattle.ur_tree.specs.Heads.{function_type, head_of}
use Rattle.ur_tree.specs.Typing.{IsPage, are_linkable, types_of}
use Rattle.ur_tree.specs.Occurrences.{Occurrence, link, action, site, update, occurrences}
use Rattle.ur_tree.specs.App.{AppIsTyped}
use Rattle.ur_typed_rules.specs.Names.{WritesType}
use Rattle.ur_typed_rules.specs.Names as here
use Rattle.ur_typed.specs.Project.{Place, ModulesResolve, at, env_at}

-- before the first module
abbrev pub nothing_declared : List (List ℕ) → Place
nothing_declared fields = record {
  fields = fields;
  cons = [];
  globals = record { home = []; values = []; constructors = []; sequences = []; cookies = []; tables = record { tables = []; sequences = [] } };
  functions = 0;
  vals = 0;
  datatypes = 0;
  variants = 0;
}

pub data IsVal : DeclForm → Type 0 where
  val : {x : List ℕ} {c : Con} {e : WrittenExp} → IsVal (decl.Val x c e)

pub data HasNoBody : DeclForm → Type 0 where
  con : {x : List ℕ} {k : Kind} {c : Con} → HasNoBody (decl.Con x k c)
  type_ : {x : List ℕ} {c : Con} → HasNoBody (decl.Type x c)
  datatype : {x : List ℕ} {vs : List WrittenVariant} → HasNoBody (decl.Datatype x vs)
  table : {x : List ℕ} {c : Con} {key : Option (List (List ℕ))} {cs : List Constraint} → HasNoBody (decl.Table x c key cs)
  sequence : {x : List ℕ} → HasNoBody (decl.Sequence x)
  cookie : {x : List ℕ} {c : Con} → HasNoBody (decl.Cookie x c)

pub data AreFunctions (app : Typed) : ℕ → List FunDef → List Exp → Type 0 where
  none : {f : ℕ} → AreFunctions app f [] []
  one : {f : ℕ} {d : Function} {x : FunDef} {xs : List FunDef} {es : List Exp} → slice_get app.functions f ≡ Some d → AreFunctions app (f + 1) xs es → AreFunctions app f (x ∷ xs) (d.body ∷ es)

abbrev pub all_decls : List Module → List Decl
all_decls [] = []
all_decls (m ∷ modules) = m.decls ++ all_decls modules

-- the bodies of the project in the order of modules and place: those of a `val` and of the functions of a group, from these numbers on
pub data AreBodies (app : Typed) : ℕ → ℕ → List Decl → ℕ → ℕ → List Exp → Type 0 where
  none : {f v : ℕ} → AreBodies app f v [] f v []
  val : {f v g w : ℕ} {d : Decl} {ds : List Decl} {m : ModuleVal} {bodies : List Exp} → IsVal d.form → slice_get app.vals v ≡ Some m → AreBodies app f (v + 1) ds g w bodies → AreBodies app f v (d ∷ ds) g w (m.body ∷ bodies)
  functions : {f v g w : ℕ} {d : Decl} {ds : List Decl} {fs : List FunDef} {own bodies : List Exp} → d.form ≡ decl.Fun fs → AreFunctions app f fs own → AreBodies app (f + length fs) v ds g w bodies → AreBodies app f v (d ∷ ds) g w (own ++ bodies)
  other : {f v g w : ℕ} {d : Decl} {ds : List Decl} {bodies : List Exp} → HasNoBody d.form → AreBodies app f v ds g w bodies → AreBodies app f v (d ∷ ds) g w bodies

-- GET routes are entries and link targets: the entries are the names of the signature, or else all page functions of the main
-- module with linkable parameters
pub data IsEntry (app : Typed) (after : Place) (main : ℕ) : Option Signature → ℕ → Type 0 where
  signed : {s : Signature} {v : ValDecl} {f : ℕ} {d : Function} → Contains s.vals v → looked_up (at after v.name) after.globals.values ≡ Some (here.function f) →
      slice_get app.functions f ≡ Some d → IsEntry app after main (Some s) f
  unsigned : {f : ℕ} {d : Function} → slice_get app.functions f ≡ Some d → d.«module» ≡ main → IsPage (head_of d) → IsTrue (are_linkable (types_of d.params)) → IsEntry app after main None f

-- each name of the signature is a page function of that type with linkable parameters
pub record SignatureFits (app : Typed) (most : ℕ) (after : Place) (s : Signature) : Type 0 where
  pub fits : (v : ValDecl) → Contains s.vals v → (f : ℕ) × (d : Function) × (looked_up (at after v.name) after.globals.values ≡ Some (here.function f)) × (slice_get app.functions f ≡ Some d) ×
      WritesType most (env_at after) v.con (function_type (head_of d)) × IsPage (head_of d) × IsTrue (are_linkable (types_of d.params))

abbrev pub sites_in : List Occurrence → List ℕ
sites_in [] = []
sites_in (site q ∷ os) = q ∷ sites_in os
sites_in (_ ∷ os) = sites_in os

abbrev pub updates_in : List Occurrence → List ℕ
updates_in [] = []
updates_in (update u ∷ os) = u ∷ updates_in os
updates_in (_ ∷ os) = updates_in os

abbrev pub all_occurrences : List Exp → List Occurrence
all_occurrences [] = []
all_occurrences (e ∷ es) = occurrences e ++ all_occurrences es

-- 0, 1, .. from one number on
abbrev pub CountsFrom : ℕ → List ℕ → Type 0
CountsFrom n [] = Unit {0}
CountsFrom n (k ∷ ks) = (k ≡ n) × CountsFrom (n + 1) ks

-- a function that is an entry or that a link leads to
pub data IsGot (app : Typed) (after : Place) (main : ℕ) (signature : Option Signature) (all : List Occurrence) : ℕ → Type 0 where
  entry : {f : ℕ} → IsEntry app after main signature f → IsGot app after main signature all f
  linked : {f : ℕ} → Contains all (link f) → IsGot app after main signature all f

-- The routes are the functions with a method, by rising number: entries and targets of links have GET, targets of actions POST.
pub record RoutesFit (app : Typed) (after : Place) (main : ℕ) (signature : Option Signature) (all : List Occurrence) : Type 0 where
  pub rising : AllPairs (λ f g. f < g) app.targets
  pub get : AllZip (λ r f. IsTrue r.get ↔ IsGot app after main signature all f) app.handlers.routes app.targets
  pub post : AllZip (λ r f. IsTrue r.post ↔ Contains all (action f)) app.handlers.routes app.targets
  pub gets : (f : ℕ) → IsGot app after main signature all f → Contains app.targets f
  pub posts : (f : ℕ) → Contains all (action f) → Contains app.targets f
  pub used : (f : ℕ) → Contains app.targets f → IsGot app after main signature all f ⊎ Contains all (action f)

-- `app` is the typed source of the project, no normal form having more than `most` nodes
pub record IsTypedWithin (most : ℕ) (names : List (List ℕ)) (modules : List Module) (signature : Option Signature) (app : Typed) : Type 0 where
  pub after : Place
  pub home : app.modules ≡ names
  pub resolved : ModulesResolve app most 0 (nothing_declared app.names) names modules after
  -- nothing more stands in it than was declared
  pub functions : length app.functions ≡ after.functions
  pub vals : length app.vals ≡ after.vals
  pub datatypes : length app.datatypes ≡ after.datatypes
  pub variants : length app.variants ≡ after.variants
  pub cookies : length app.cookies ≡ length after.globals.cookies
  pub tables : app.schema.tables ≡ after.globals.tables.tables
  pub sequences : length app.schema.sequences ≡ length after.globals.sequences
  pub bodies : List Exp
  pub are_bodies : AreBodies app 0 0 (all_decls modules) (length app.functions) (length app.vals) bodies
  pub sites : CountsFrom 0 (sites_in (all_occurrences bodies)) × (length (sites_in (all_occurrences bodies)) ≡ length app.queries)
  pub updates : CountsFrom 0 (updates_in (all_occurrences bodies)) × (length (updates_in (all_occurrences bodies)) ≡ length app.changes)
  pub entries : (s : Signature) → signature ≡ Some s → SignatureFits app most after s
  pub routes : RoutesFit app after (pred (length names)) signature (all_occurrences bodies)
  -- the names of fields that occur in the project, by their bytes, each once
  pub names_occur : (x : List ℕ) → Contains app.names x ↔ Contains (of_modules modules) x
  pub names_rise : AllPairs (λ a b. IsTrue (is_not_after a b) × (a ≢ b)) app.names
  pub typed : AppIsTyped most app

-- `app` is the typed source of the project
abbrev pub IsTyped : List (List ℕ) → List Module → Option Signature → Typed → Type 0
IsTyped names modules signature app = (most : ℕ) × IsTypedWithin most names modules signature app

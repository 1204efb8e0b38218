-- What the code of the checker holds, as the definitions see it.
use Rattle.std.specs.Prelude.{◌≡◌, ℕ, pred, length, List, ◌∷◌, Some, Option, map, codes, false, ◌++◌}
use Rattle.ur_rows.specs.Nodes.{most_nodes}
use Rattle.ur_base.specs.declared.refusal.Refusal.{Refusal}
use Rattle.ur_syntax.specs.declared.decl.FunDef.{FunDef}
use Rattle.ur_syntax.specs.declared.decl.Decl.{Decl}
use Rattle.ur_syntax.specs.declared.decl.DeclForm.{DeclForm}
use Rattle.ur_syntax.specs.declared.decl.Module.{Module}
use Rattle.ur_syntax.specs.declared.decl.Signature.{Signature}
use Rattle.ur_syntax.specs.declared.exp.Exp.{Exp as WrittenExp}
use Rattle.ur_rows.specs.declared.normal.NormalType.{NormalType}
use Rattle.ur_tree.specs.IsStatic.{is_static}
use Rattle.ur_typed_rules.specs.Scopes.{wants}
use Rattle.ur_typed_rules.specs.Faults.{TellsType, not_so}
use Rattle.ur_check_scopes.specs.declared.world.Head.{Head as HeldHead}
use Rattle.ur_check_scopes.specs.declared.world.World.{World as Held}
use Rattle.ur_check_scopes.specs.Views.{head_in}
use Rattle.ur_check_rules.specs.Views.{sites_in}
use Rattle.ur_typed.specs.Rules.{Sites, Out}
use Rattle.ur_typed.specs.Typed.{all_occurrences}
use Rattle.ur_typed.specs.Walking.{typed}
use Rattle.ur_typed.specs.Causes.{HasFault}
use Rattle.ur_typed.specs.Project.{names_at}
use Rattle.ur_typed.specs.Declaring.{Sofar, Heading, Bodies, Checked, entries_out, project_out, world_behind, top_scope, datatype_names, heading_out, headings_out, decl_out, bodies_out, decls_out, entered, modules_out}
use Rattle.ur_typed.specs.DeclFaults.{DeclsHaveFault, ModulesHaveFault, ProjectHasFault}
use Rattle.ur_check_heads.specs.declared.project.Project.{Project}
use Rattle.ur_check_heads.specs.Views.{Sees, function_in}
use Rattle.ur_typed.specs.Made.{function_head, IsMadeOf}
use Rattle.ur_typed.specs.Routing.{AreRoutes}
use Rattle.ur_check_heads.specs.declared.routes.Routes.{Routes}
use Rattle.ur_tree.specs.declared.typed.Typed.{Typed}
use Rattle.ur_check.specs.declared.bodies.Bodies.{Bodies as HeldBodies}
use Rattle.ur_typed.specs.Source.{begun}

abbrev pub bodies_in : HeldBodies → Bodies
bodies_in b = record { functions = b.functions; vals = b.vals; sites = sites_in b.sites }

-- something is declared so far, and the project has it
abbrev pub SeesSome : Project → Type 0
SeesSome p = (home : ℕ) × (z : Sofar) × Sees p home z

-- the head is that of the function
abbrev pub HasHeading : Project → HeldHead → FunDef → Type 0
HasHeading p head f = (home : ℕ) × (z : Sofar) × (h : Heading) × Sees p home z × (heading_out most_nodes (names_at z.place) f ≡ Some h) × (h.head ≡ head_in head)

-- the functions stand behind so many others
abbrev pub AreHeaded : Project → ℕ → List FunDef → Type 0
AreHeaded p first fs = (home : ℕ) × (y : Sofar) × (z : Sofar) × Sees p home z × (headings_out most_nodes home fs y ≡ Some z) × (first ≡ length y.functions)

-- the right side of a `val` of that type has a fault, or is not static
pub data RightSideTells (z : Sofar) (e : WrittenExp) (t : NormalType) (st : Sites) (r : Refusal) : Type 0 where
  has_fault : HasFault (datatype_names z) (world_behind most_nodes z) (top_scope z) st e.form (wants t) r → RightSideTells z e t st r
  moves : {o : Out} → typed (world_behind most_nodes z) e.form (top_scope z) st (wants t) ≡ Some o → is_static o.exp ≡ false →
      TellsType (datatype_names z) r (not_so (codes "the right side of a val") (codes "a static expression")) → RightSideTells z e t st r

-- ---- declarations

-- behind the declaration the project and the bodies are these
abbrev pub Declares : Project → HeldBodies → DeclForm → Project → HeldBodies → Type 0
Declares p b d q c = (home : ℕ) (z : Sofar) → Sees p home z →
    (after : Sofar) × (decl_out most_nodes home d z ≡ Some after) × (bodies_out most_nodes d z after (bodies_in b) ≡ Some (bodies_in c)) × Sees q home after

-- the declaration breaks a rule
abbrev pub DeclHasFault : Project → HeldBodies → DeclForm → Refusal → Type 0
DeclHasFault p b f r = (home : ℕ) (z : Sofar) → Sees p home z → (d : Decl) (ds : List Decl) → d.form ≡ f → DeclsHaveFault most_nodes home r (d ∷ ds) (z, bodies_in b)

abbrev pub DeclaresAll : Project → HeldBodies → List Decl → Project → HeldBodies → Type 0
DeclaresAll p b ds q c = (home : ℕ) (z : Sofar) → Sees p home z → (after : Sofar) × (decls_out most_nodes home ds (z, bodies_in b) ≡ Some (after, bodies_in c)) × Sees q home after

abbrev pub DeclsFault : Project → HeldBodies → List Decl → Refusal → Type 0
DeclsFault p b ds r = (home : ℕ) (z : Sofar) → Sees p home z → DeclsHaveFault most_nodes home r ds (z, bodies_in b)

-- ---- modules

abbrev pub AddsModule : Project → HeldBodies → ℕ → List ℕ → Module → Project → HeldBodies → Type 0
AddsModule p b n m x q c = (home : ℕ) (z : Sofar) → Sees p home z →
    (after : Sofar) × (decls_out most_nodes n x.decls (entered m (z, bodies_in b)) ≡ Some (after, bodies_in c)) × Sees q n after

abbrev pub ModuleHasFault : Project → HeldBodies → ℕ → List ℕ → Module → Refusal → Type 0
ModuleHasFault p b n m x r = (home : ℕ) (z : Sofar) → Sees p home z → DeclsHaveFault most_nodes n r x.decls (entered m (z, bodies_in b))

-- behind all modules, seen from the last of them
abbrev pub AddsModules : Project → HeldBodies → List (List ℕ) → List Module → Project → HeldBodies → Type 0
AddsModules p b names modules q c = (z : Sofar) → Sees p 0 z →
    (after : Sofar) × (modules_out most_nodes 0 names modules (z, bodies_in b) ≡ Some (after, bodies_in c)) × Sees q (pred (length names)) after

abbrev pub ModulesFault : Project → HeldBodies → List (List ℕ) → List Module → Refusal → Type 0
ModulesFault p b names modules r = (z : Sofar) → Sees p 0 z → ModulesHaveFault most_nodes r 0 names modules (z, bodies_in b)

-- ---- the source

pub record IsSourceOf (names : List (List ℕ)) (w : Held) (b : HeldBodies) (r : Routes) (app : Typed) : Type 0 where
  pub modules : app.modules ≡ names
  pub fields : app.names ≡ w.env.fields
  pub datatypes : app.datatypes ≡ w.datatypes
  pub variants : app.variants ≡ w.variants
  pub schema : app.schema ≡ w.schema
  pub cookies : app.cookies ≡ w.cookie_kinds
  pub val_types : map (λ v. v.of) app.vals ≡ w.vals
  pub val_bodies : map (λ v. v.body) app.vals ≡ b.vals
  pub heads : map function_head app.functions ≡ map function_in w.functions
  pub bodies : map (λ f. f.body) app.functions ≡ b.functions
  pub queries : map (λ q. Some q) app.queries ≡ b.sites.queries
  pub changes : map (λ u. Some u) app.changes ≡ b.sites.changes
  pub handlers : app.handlers ≡ r.handlers
  pub targets : app.targets ≡ r.targets

-- the routes are those of what is declared and of the bodies
abbrev pub Routed : List (List ℕ) → Held → List ℕ → HeldBodies → Routes → Type 0
Routed names w entries b r = AreRoutes names w.env.fields (map function_in w.functions) entries (all_occurrences (b.vals ++ b.functions)) r.handlers.routes r.targets

-- ---- the whole

-- the entries of what is declared
abbrev pub EntersAll : Project → Option Signature → List ℕ → Type 0
EntersAll q signature entries = (home : ℕ) (z : Sofar) → Sees q home z → entries_out most_nodes z home signature ≡ Some entries

abbrev pub ProjectFaults : Project → HeldBodies → List (List ℕ) → List Module → Option Signature → Refusal → Type 0
ProjectFaults p b names modules signature r = (z : Sofar) → Sees p 0 z → ProjectHasFault most_nodes (z, bodies_in b) names modules signature r

-- the source of a project whose names of fields are known
pub record Resolves (names known : List (List ℕ)) (modules : List Module) (signature : Option Signature) (app : Typed) : Type 0 where
  pub behind : Checked
  pub entries : List ℕ
  pub walked : project_out most_nodes (begun known) names modules signature ≡ Some (behind, entries)
  pub made : IsMadeOf names behind entries app
  pub kept : app.names ≡ known

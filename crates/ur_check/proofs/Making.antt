-- The source put together.
use Rattle.std.proofs.Common.{◌≡◌, ◌∙◌, sym, ap, ap₂, subst, subst₂, ℕ, List, [], ◌++◌, map, Some}
use Rattle.ur_tags.specs.declared.routes.Handlers.{Handlers}
use Rattle.ur_tree.specs.declared.exp.Exp.{Exp}
use Rattle.ur_tree.specs.declared.typed.Typed.{Typed}
use Rattle.ur_check_scopes.specs.declared.world.World.{World as Held}
use Rattle.ur_check_scopes.specs.declared.world.FunctionHead.{FunctionHead as HeldFunction}
use Rattle.ur_values.specs.declared.schema.Schema.{Schema}
use Rattle.ur_typed.specs.Typed.{all_occurrences}
use Rattle.ur_typed.specs.Declaring.{Sofar}
use Rattle.ur_check_heads.specs.declared.project.Project.{Project}
use Rattle.ur_check_heads.specs.Views.{Sees, function_in}
use Rattle.ur_typed.specs.Routing.{AreRoutes}
use Rattle.ur_typed.specs.Made.{IsMadeOf, function_head}
use Rattle.ur_check_heads.specs.declared.routes.Routes.{Routes}
use Rattle.ur_check.specs.declared.bodies.Bodies.{Bodies as HeldBodies}
use Rattle.ur_check.specs.Views.{bodies_in, IsSourceOf, Routed}

-- slices of what is held are what is held
pub slices-routed : (names : List (List ℕ)) (w : Held) (entries : List ℕ) (b : HeldBodies) (r : Routes) (fields : List (List ℕ)) (functions : List HeldFunction) (vals bodies : List Exp) → fields ≡ w.env.fields → functions ≡ w.functions → vals ≡ b.vals → bodies ≡ b.functions →
    AreRoutes names fields (map function_in functions) entries (all_occurrences (vals ++ bodies)) r.handlers.routes r.targets → Routed names w entries b r
slices-routed names w entries b r fields functions vals bodies f g v e h =
    subst (λ (o : List Exp). AreRoutes names w.env.fields (map function_in w.functions) entries (all_occurrences o) r.handlers.routes r.targets) (ap₂ (λ x y. x ++ y) v e)
    (subst₂ (λ (x : List (List ℕ)) (y : List HeldFunction). AreRoutes names x (map function_in y) entries (all_occurrences (vals ++ bodies)) r.handlers.routes r.targets) f g h)

pub made-of : (names : List (List ℕ)) (p : Project) (entries : List ℕ) (b : HeldBodies) (r : Routes) (app : Typed) → IsSourceOf names p.world b r app →
    Routed names p.world entries b r → (home : ℕ) (z : Sofar) → Sees p home z → IsMadeOf names (z, bodies_in b) entries app
made-of names p entries b r app i routes home z s =
    subst (λ (y : Sofar). IsMadeOf names (y, bodies_in b) entries app) (sym s.held) (record {
      modules = i.modules;
      fields = i.fields;
      datatypes = i.datatypes;
      variants = i.variants;
      tables = ap (λ (x : Schema). x.tables) i.schema;
      sequences = ap (λ (x : Schema). x.sequences) i.schema;
      cookies = i.cookies;
      val_types = i.val_types;
      val_bodies = i.val_bodies;
      heads = i.heads;
      bodies = i.bodies;
      queries = i.queries;
      changes = i.changes;
      routes = subst₂ (λ h t. AreRoutes names p.world.env.fields (map function_in p.world.functions) entries (all_occurrences (b.vals ++ b.functions)) h t) (ap (λ (x : Handlers). x.routes) (sym i.handlers)) (sym i.targets) routes;
    })

-- the fields that are not taken out stay
pub is-source : (names : List (List ℕ)) (w v : Held) (b : HeldBodies) (r : Routes) (app : Typed) → v ≡ record w { vals = []; functions = [] } →
    app.modules ≡ names → app.names ≡ v.env.fields → app.datatypes ≡ v.datatypes → app.variants ≡ v.variants → app.schema ≡ v.schema →
    app.cookies ≡ v.cookie_kinds →
    map (λ x. x.of) app.vals ≡ w.vals → map (λ x. x.body) app.vals ≡ b.vals → map function_head app.functions ≡ map function_in w.functions → map (λ f. f.body) app.functions ≡ b.functions → map (λ q. Some q) app.queries ≡ b.sites.queries → map (λ u. Some u) app.changes ≡ b.sites.changes →
    app.handlers ≡ r.handlers → app.targets ≡ r.targets → IsSourceOf names w b r app
is-source names w v b r app e modules fields datatypes variants schema cookies types sides heads bodies queries changes handlers targets = record {
  modules = modules;
  fields = fields ∙ ap (λ (x : Held). x.env.fields) e;
  datatypes = datatypes ∙ ap (λ (x : Held). x.datatypes) e;
  variants = variants ∙ ap (λ (x : Held). x.variants) e;
  schema = schema ∙ ap (λ (x : Held). x.schema) e;
  cookies = cookies ∙ ap (λ (x : Held). x.cookie_kinds) e;
  val_types = types;
  val_bodies = sides;
  heads = heads;
  bodies = bodies;
  queries = queries;
  changes = changes;
  handlers = handlers;
  targets = targets;
}

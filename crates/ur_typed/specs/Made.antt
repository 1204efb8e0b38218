-- A source is put together of what a project declares, its bodies and its routes.
use Rattle.std.specs.Prelude.{◌≡◌, ◌++◌, ℕ, List, map, Some}
use Rattle.ur_tree.specs.declared.typed.Typed.{Typed}
use Rattle.ur_tree.specs.declared.typed.Function.{Function}
use Rattle.ur_tree.specs.Heads.{head_of}
use Rattle.ur_tree.specs.Occurrences.{Occurrence}
use Rattle.ur_typed.specs.Typed.{all_occurrences}
use Rattle.ur_typed.specs.Declaring.{FunctionHead, Checked}
use Rattle.ur_typed.specs.Routing.{AreRoutes}

abbrev pub function_head : Function → FunctionHead
function_head f = record { «module» = f.«module»; name = f.name; head = head_of f }

-- the links, actions and statements in all bodies
abbrev pub occurring : Checked → List Occurrence
occurring p = all_occurrences (p.1.vals ++ p.1.functions)

pub record IsMadeOf (names : List (List ℕ)) (p : Checked) (entries : List ℕ) (app : Typed) : Type 0 where
  pub modules : app.modules ≡ names
  pub fields : app.names ≡ p.0.place.fields
  pub datatypes : app.datatypes ≡ p.0.datatypes
  pub variants : app.variants ≡ p.0.variants
  pub tables : app.schema.tables ≡ p.0.place.globals.tables.tables
  pub sequences : app.schema.sequences ≡ p.0.sequences
  pub cookies : app.cookies ≡ p.0.cookies
  pub val_types : map (λ v. v.of) app.vals ≡ p.0.vals
  pub val_bodies : map (λ v. v.body) app.vals ≡ p.1.vals
  pub heads : map function_head app.functions ≡ p.0.functions
  pub bodies : map (λ f. f.body) app.functions ≡ p.1.functions
  pub queries : map (λ q. Some q) app.queries ≡ p.1.sites.queries
  pub changes : map (λ u. Some u) app.changes ≡ p.1.sites.changes
  pub routes : AreRoutes names p.0.place.fields p.0.functions entries (occurring p) app.handlers.routes app.targets

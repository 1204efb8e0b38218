-- The calls that a page's links and submit buttons hold.
use Rattle.std.specs.Prelude.{◌≡◌, ℕ, true, List, [], ◌∷◌}
use Rattle.ur_values.specs.declared.value.Value.{Value, Row_of-Value, end_of-Value, more_of-Value, Row_of-Node, end_of-Node, more_of-Node}
use Rattle.ur_values.specs.declared.value.Value.TheVariants as v
use Rattle.ur_values.specs.declared.value.Node.{Node}
use Rattle.ur_values.specs.declared.value.Node.TheVariants as n
use Rattle.ur_tags.specs.declared.routes.Param.{Param}
use Rattle.ur_tags.specs.declared.routes.Route.{Route}
use Rattle.ur_tags.specs.declared.routes.Handlers.{Handlers}
use Rattle.ur_tags.specs.Routes.{FitsParam, HasRoute}

-- what a call comes from
pub data Origin : Type 0 where
  from_link from_button : Origin

-- the route answers the call's request
abbrev pub AnswersTo : Origin → Route → Type 0
AnswersTo from_link r = r.get ≡ true
AnswersTo from_button r = r.post ≡ true

-- arguments of these types, as they stand in a node
abbrev pub FitRow : {m : _} → Row_of-Value m → List Param → Type 0
FitRow end_of-Value [] = Unit {0}
FitRow (more_of-Value x rest) (p ∷ params) = FitsParam x p × FitRow rest params
FitRow _ _ = ⊥

-- the call is one of a route that answers it
abbrev pub IsOwnCall : {m : _} → Handlers → Origin → ℕ → Row_of-Value m → Type 0
IsOwnCall handlers origin number args = (r : Route) × HasRoute handlers number r × AnswersTo origin r × FitRow args r.params

abbrev mutual
  pub LinksOwn : Handlers → Node → Type 0
  LinksOwn handlers (n.Text t) = Unit {0}
  LinksOwn handlers (n.Element' t _ kids) = AllLinkOwn handlers kids
  LinksOwn handlers (n.Link' number _ args _ kids) = IsOwnCall handlers from_link number args × AllLinkOwn handlers kids
  LinksOwn handlers (n.Field kind name value) = Unit {0}
  LinksOwn handlers (n.Submit' number _ args label) = IsOwnCall handlers from_button number args

  pub AllLinkOwn : Handlers → {m : _} → Row_of-Node m → Type 0
  AllLinkOwn handlers end_of-Node = Unit {0}
  AllLinkOwn handlers (more_of-Node x rest) = LinksOwn handlers x × AllLinkOwn handlers rest

-- Every link leads to a route that answers GET and every button to one that answers POST, with arguments of the types
-- that stand in the route's path.
abbrev pub HasOwnCalls : Handlers → Value → Type 0
HasOwnCalls handlers (v.Markup' _ nodes) = AllLinkOwn handlers nodes
HasOwnCalls handlers x = Unit {0}

-- The small program fits, and its call is a request.
use Rattle.std.proofs.Common.{◌≡◌, ◌<◌, refl, [], ◌∷◌, arith}
use Rattle.std.proofs.lemmas.List.Elements.{All-from_recursion}
use denote.Hole.Carrier
use Rattle.ur_values.specs.declared.types.ValueType.TheVariants as ty
use Rattle.ur_sql.specs.Typing.{QueryFits, ChangeFits}
use Rattle.ur_terms.specs.declared.term.Term.TheBlock as block
use Rattle.ur_terms.specs.Types.{FitsFunction, alike, xml_page}
use Rattle.ur_code.specs.Fits.{Fits, IsBasicCookie, signature}
use Rattle.ur_code.specs.RouteTypes.{IsRequestOf}
use Rattle.ur_machine.specs.Sample.{main, route, small, call}

first_is_there : 0 < 1
first_is_there = omega arith

main_fits : FitsFunction (signature small) main
unfolding block.hidden-the_row-Term-0 block.hidden-the_row-Term-1 Carrier.hidden
main_fits = (
  ty.Int ∷ [],
  (ty.Int, [], refl, ([], refl, (refl, first_is_there, refl)), refl),
  ([], refl, (alike [] ty.Page xml_page (All-from_recursion (λ t. t ≡ ty.Page) [] tt), refl)),
)

pub small_fits : Fits small
small_fits = record {
  functions = All-from_recursion (FitsFunction (signature small)) (main ∷ []) (main_fits, tt);
  queries = All-from_recursion (QueryFits small.schema) [] tt;
  changes = All-from_recursion (ChangeFits small.schema) [] tt;
  routes = (record { function = main; is_function = refl; params = refl; page = refl; no_form = λ e. refl }, tt);
  tables = All-from_recursion _ [] tt;
  cookies = All-from_recursion IsBasicCookie [] tt;
}

pub is_request : IsRequestOf small.handlers call
is_request = record { route = route; in_path = []; in_form = []; is_route = refl; args = refl; path = tt; form = refl }

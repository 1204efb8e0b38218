-- A small program: its code fits, and what a call of its route comes to.
use Rattle.std.proofs.Common.{◌≡◌, ◌<◌, refl, ℕ, pos, true, false, [], ◌∷◌, arith}
use Rattle.std.specs.Prelude.{codes}
use Rattle.std.proofs.lemmas.Int.{ints}
use Rattle.std.proofs.lemmas.List.Elements.{All-from_recursion}
use denote.Hole.Carrier
use Rattle.ur_values.specs.declared.value.Node.TheBlock as nodes
use Rattle.ur_values.specs.declared.types.ValueType.TheVariants as ty
use Rattle.ur_values.specs.declared.value.Value.TheVariants as v
use Rattle.ur_values.specs.declared.value.Call.{Call}
use Rattle.ur_values.specs.Order.{value_cmp}
use Rattle.ur_values.specs.Store.{empty_store}
use Rattle.ur_values.specs.Values.{IsInt}
use Rattle.ur_sql.specs.Typing.{QueryFits, ChangeFits}
use Rattle.ur_tags.specs.declared.routes.Route.{Route}
use Rattle.ur_terms.specs.declared.term.Function.{Function}
use Rattle.ur_terms.specs.declared.term.Op.TheVariants as op
use Rattle.ur_terms.specs.declared.term.Term.TheBlock as block
use Rattle.ur_terms.specs.declared.term.Term.TheVariants as t
use Rattle.ur_terms.specs.State.{State, Done, Spent}
use Rattle.ur_terms.specs.Types.{FitsFunction, scalar_int, alike, xml_page}
use Rattle.ur_code.specs.declared.code.Code.{Code}
use Rattle.ur_code.specs.Fits.{Fits, IsBasicCookie, signature}
use Rattle.ur_code.specs.Meaning.{outcome}
use Rattle.ur_code.specs.RouteTypes.{IsRequestOf}
use Rattle.ur_code.specs.Sound.{FitsState, IsSound}
use Rattle.ur_code.proofs.Unstuck.{never_stuck}

-- if n = 0 then 0 else down (n - 1)
abbrev down : Function
down = record {
  name = codes "M.down";
  params = ty.Int ∷ [];
  result = ty.Int;
  runs = false;
  body = t.If (t.Make op.Equal (t.Variable 0 ∷ t.Int (pos 0) ∷ [])) (t.Int (pos 0))
      (t.Call 0 (t.Make op.Sub (t.Variable 0 ∷ t.Int (pos 1) ∷ []) ∷ []));
}

-- calls down 4 and gives an empty page
abbrev main : Function
main = record {
  name = codes "M.main";
  params = [];
  result = ty.Page;
  runs = true;
  body = t.Let (t.Call 0 (t.Int (pos 4) ∷ []) ∷ []) (t.Make (op.Markup ty.Page) []);
}

abbrev route : Route
route = record { module_name = codes "M"; function_name = codes "main"; params = []; form = []; get = true; post = false }

abbrev small : Code
small = record {
  schema = record { tables = []; sequences = [] };
  handlers = record { routes = route ∷ [] };
  targets = 1 ∷ [];
  names = [];
  variants = [];
  cookies = [];
  functions = down ∷ main ∷ [];
  queries = [];
  changes = [];
}

is_int : (n : ℕ) → n < 5 → IsInt (pos n)
is_int n h = (omega (arith, ints), omega (arith, ints))

down_fits : FitsFunction (signature small) down
unfolding block.hidden-the_row-Term-0 block.hidden-the_row-Term-1 Carrier.hidden
down_fits = (
  (ty.Int ∷ ty.Int ∷ [], (ty.Int, ty.Int ∷ [], refl, refl, (ty.Int, [], refl, (refl, is_int 0 (omega arith)), refl)), (ty.Int, refl, scalar_int, refl)),
  (refl, is_int 0 (omega arith)),
  (
    ty.Int ∷ [],
    (
      ty.Int,
      [],
      refl,
      (ty.Int ∷ ty.Int ∷ [], (ty.Int, ty.Int ∷ [], refl, refl, (ty.Int, [], refl, (refl, is_int 1 (omega arith)), refl)), (refl, refl)),
      refl,
    ),
    refl,
  ),
)

main_fits : FitsFunction (signature small) main
unfolding block.hidden-the_row-Term-0 block.hidden-the_row-Term-1 Carrier.hidden
main_fits = (
  ty.Int ∷ [],
  (ty.Int, [], refl, (ty.Int ∷ [], (ty.Int, [], refl, (refl, is_int 4 (omega arith)), refl), refl), refl),
  ([], refl, (alike [] ty.Page xml_page (All-from_recursion (λ t. t ≡ ty.Page) [] tt), refl)),
)

small_fits : Fits small
small_fits = record {
  functions = All-from_recursion (FitsFunction (signature small)) (down ∷ main ∷ []) (down_fits, (main_fits, tt));
  queries = All-from_recursion (QueryFits small.schema) [] tt;
  changes = All-from_recursion (ChangeFits small.schema) [] tt;
  routes = (record { function = main; is_function = refl; params = refl; page = refl; no_form = λ e. refl }, tt);
  tables = All-from_recursion _ [] tt;
  cookies = All-from_recursion IsBasicCookie [] tt;
}

abbrev call : Call
call = record { route = 0; args = [] }

abbrev start : ℕ → State
start steps = record { store = empty_store small.schema; carried = []; sent = []; units = steps; events = [] }

is_request : IsRequestOf small.handlers call
is_request = record { route = route; in_path = []; in_form = []; is_route = refl; args = refl; path = tt; form = refl }

starts : (steps : ℕ) → FitsState small (start steps)
starts steps = record { store = record { tables = tt; sequences = tt }; numbers = λ q below. absurd (omega (arith, below)); carried = tt }

with_any_steps : (steps : ℕ) → IsSound small (outcome small call (start steps))
with_any_steps steps = never_stuck small small_fits call (start steps) is_request (starts steps)

five_steps : outcome small call (start 5) ≡ Done (v.Markup []) (start 0)
unfolding block.hidden-the_row-Term-0 block.hidden-the_row-Term-1 Carrier.hidden value_cmp nodes.hidden-the_row-Node-0
five_steps = refl

four_steps : outcome small call (start 4) ≡ Spent []
unfolding block.hidden-the_row-Term-0 block.hidden-the_row-Term-1 Carrier.hidden value_cmp nodes.hidden-the_row-Node-0
four_steps = refl

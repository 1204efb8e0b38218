-- A small program.
use Rattle.std.specs.Prelude.{true, false, [], ◌∷◌, codes}
use Rattle.ur_values.specs.declared.types.ValueType.TheVariants as ty
use Rattle.ur_values.specs.declared.value.Call.{Call}
use Rattle.ur_tags.specs.declared.routes.Route.{Route}
use Rattle.ur_terms.specs.declared.term.Function.{Function}
use Rattle.ur_terms.specs.declared.term.Op.TheVariants as op
use Rattle.ur_terms.specs.declared.term.Term.TheVariants as t
use Rattle.ur_code.specs.declared.code.Code.{Code}

-- draws a number and gives an empty page
abbrev pub main : Function
main = record {
  name = codes "main";
  params = [];
  result = ty.Page;
  runs = true;
  body = t.Let (t.Make (op.Next 0) [] ∷ []) (t.Make (op.Markup ty.Page) []);
}

abbrev pub route : Route
route = record { module_name = codes "M"; function_name = codes "main"; params = []; form = []; get = true; post = false }

abbrev pub small : Code
small = record {
  schema = record { tables = []; sequences = codes "s" ∷ [] };
  handlers = record { routes = route ∷ [] };
  targets = 0 ∷ [];
  names = [];
  variants = [];
  cookies = [];
  functions = main ∷ [];
  queries = [];
  changes = [];
}

abbrev pub call : Call
call = record { route = 0; args = [] }

-- Closed examples, which compute.
use Rattle.std.specs.Prelude.{◌≡◌, refl, ℕ, pos, true, false, List, [], ◌∷◌, codes}
use Rattle.ur_values.specs.declared.value.Value.TheVariants as v
use Rattle.ur_values.specs.declared.types.ValueType.TheVariants as ty
use Rattle.ur_values.specs.Order.{value_cmp}
use Rattle.ur_values.specs.declared.value.Value.{Value}
use Rattle.ur_values.specs.declared.value.Node.TheVariants as n
use Rattle.ur_values.specs.Event.{Event, Ask, Write}
use Rattle.ur_terms.specs.declared.term.Term.{Term}
use Rattle.ur_terms.specs.declared.term.Term.TheBlock as block
use Rattle.ur_terms.specs.declared.term.AnswerForm.TheVariants as form
use denote.Hole.Carrier
use Rattle.ur_terms.specs.declared.term.Op.TheVariants as op
use Rattle.ur_terms.specs.declared.term.Term.TheVariants as t
use Rattle.ur_terms.specs.declared.term.Function.{Function}
use Rattle.ur_terms.specs.State.{State, Outcome, Done, Error, Spent}
use Rattle.ur_values.specs.Sql.{Sql, After, DuplicateKey}
use Rattle.ur_terms.specs.Ops.{does}
use Rattle.ur_terms.specs.Run.{outcome_of}

abbrev no_sql : Sql
no_sql = record { answer = λ q key s. []; change = λ u args s. After s; table = λ u. [] }

-- if n = 0 then 0 else down (n - 1)
abbrev down : Function
down = record {
  name = codes "M.down";
  params = ty.Int ∷ [];
  result = ty.Int;
  runs = false;
  body = t.If (t.Make op.Equal (t.Variable 0 ∷ t.Int (pos 0) ∷ [])) (t.Int (pos 0))
      (t.Call 0 (t.Make op.Sub (t.Variable 0 ∷ t.Int (pos 1) ∷ []) ∷ []));
}

-- calls down 4 and gives 7
abbrev main : Function
main = record {
  name = codes "M.main";
  params = [];
  result = ty.Int;
  runs = true;
  body = t.Let (t.Call 0 (t.Int (pos 4) ∷ []) ∷ []) (t.Int (pos 7));
}

abbrev start : ℕ → State
start steps = record { store = record { tables = []; sequences = [] }; carried = []; sent = []; units = steps; events = [] }

five_steps : outcome_of (does no_sql) (down ∷ main ∷ []) 1 [] (start 5) ≡ Done (v.Int (pos 7)) (start 0)
unfolding block.hidden-the_row-Term-0 block.hidden-the_row-Term-1 Carrier.hidden value_cmp
five_steps = refl

four_steps : outcome_of (does no_sql) (down ∷ main ∷ []) 1 [] (start 4) ≡ Spent []
unfolding block.hidden-the_row-Term-0 block.hidden-the_row-Term-1 Carrier.hidden value_cmp
four_steps = refl

-- ---- one term each

-- each query answers one row, its number, and each change meets a second row of its key
abbrev small_sql : Sql
small_sql = record { answer = λ q key s. v.Int (pos q) ∷ []; change = λ u args s. DuplicateKey 0; table = λ u. codes "t" }

-- what a term comes to by itself, with so many units
abbrev alone : Sql → Term → ℕ → Outcome Value
alone sql term units =
    outcome_of (does sql) (record { name = codes "M.f"; params = []; result = ty.Int; runs = true; body = term } ∷ []) 0 []
    (record (start units) { carried = v.Absent ∷ [] })

abbrev ended : ℕ → List Event → State
ended units events = record (start units) { carried = v.Absent ∷ []; events = events }

a_query_costs_a_unit_and_one_for_each_row : alone small_sql (t.Make (op.Ask form.One 5) []) 2 ≡ Done (v.Int (pos 5)) (ended 0 (Ask 5 [] (v.Int (pos 5) ∷ []) ∷ []))
unfolding block.hidden-the_row-Term-0 Carrier.hidden
a_query_costs_a_unit_and_one_for_each_row = refl

a_row_with_no_unit_left : alone small_sql (t.Make (op.Ask form.One 5) []) 1 ≡ Spent (Ask 5 [] (v.Int (pos 5) ∷ []) ∷ [])
unfolding block.hidden-the_row-Term-0 Carrier.hidden
a_row_with_no_unit_left = refl

the_left_argument_first : alone small_sql (t.Make op.Sub (t.Make (op.Ask form.One 5) [] ∷ t.Make (op.Ask form.One 3) [] ∷ [])) 9
    ≡ Done (v.Int (pos 2)) (ended 5 (Ask 5 [] (v.Int (pos 5) ∷ []) ∷ Ask 3 [] (v.Int (pos 3) ∷ []) ∷ []))
unfolding block.hidden-the_row-Term-0 Carrier.hidden
the_left_argument_first = refl

a_change_costs_a_unit : alone no_sql (t.Make (op.Write 0) []) 0 ≡ Spent []
unfolding block.hidden-the_row-Term-0 Carrier.hidden
a_change_costs_a_unit = refl

a_second_row_of_a_key : alone small_sql (t.Make (op.Write 0) []) 1 ≡ Error (v.Markup (n.Text (codes "duplicate key in t") ∷ [])) (Write 0 [] ∷ [])
unfolding block.hidden-the_row-Term-0 Carrier.hidden
a_second_row_of_a_key = refl

a_cookie_is_set_for_later_requests : alone no_sql (t.Let (t.Make (op.SetCookie 0) (t.Int (pos 1) ∷ []) ∷ []) (t.Make (op.GetCookie 0) [])) 9
    ≡ Done v.Absent (record (ended 9 []) { sent = (0, v.Int (pos 1)) ∷ [] })
unfolding block.hidden-the_row-Term-0 block.hidden-the_row-Term-1 Carrier.hidden
a_cookie_is_set_for_later_requests = refl

-- The answer to a request, over what a call of the program means.
use Rattle.std.specs.Prelude.{◌≡◌, ℕ, Bool, true, false, ◌||◌, List, [], ◌∷◌, ◌++◌, Option, Some, None, if◌then◌else◌, codes, slice_get, is_some}
use Rattle.std.specs.Prelude.{option_map, option_and_then}
use Rattle.ur_base.specs.declared.names.Name.{Name}
use Rattle.ur_values.specs.declared.value.Value.{Value}
use Rattle.ur_values.specs.declared.value.Value.TheVariants as v
use Rattle.ur_values.specs.declared.value.Call.{Call}
use Rattle.ur_values.specs.Event.{Event}
use Rattle.ur_values.specs.Store.{Store}
use Rattle.ur_terms.specs.State.{State, Outcome, Done, Error, Spent}
use Rattle.ur_tags.specs.declared.routes.FormField.{FormField}
use Rattle.ur_tags.specs.declared.routes.Route.{Route}
use Rattle.ur_tags.specs.declared.routes.Handlers.{Handlers}
use Rattle.ur_code.specs.declared.code.Cookie.{Cookie}
use Rattle.ur_machine.specs.Cookies.{first_value}
use Rattle.ur_machine.specs.TurnsCookies.{sent_pairs}
use Rattle.ur_tags.specs.Paths.{route_path}
use Rattle.ur_tags.specs.Show.{show, show_error, show_text}
use Rattle.ur_http.specs.declared.request.Method.{Method}
use Rattle.ur_http.specs.declared.request.Method.TheVariants.{Get, Head, Post, Other}
use Rattle.ur_http.specs.declared.request.HttpRequest.{HttpRequest}
use Rattle.ur_serve.specs.Sessions.{Answer}
use Rattle.ur_http.specs.Answers.{respond, status_answer}

-- ---- the call of a request

-- a field's value: a text, which must be there, or whether a checkbox is
abbrev pub field_value : FormField → Option (List ℕ) → Option Value
field_value f given = if f.checkbox then Some (v.Bool (is_some given)) else option_map v.Str given

-- the fields of a form's record, each by its number
abbrev pub fields_of : List FormField → List (List ℕ × List ℕ) → Option (List (Name × Value))
fields_of [] pairs = Some []
fields_of (f ∷ fs) pairs =
    option_and_then (λ x. option_map (λ xs. (f.number, x) ∷ xs) (fields_of fs pairs)) (field_value f (first_value f.name pairs))

-- the call with one argument more, a record of these fields
abbrev pub with_record : Call → List (Name × Value) → Call
with_record call xs = record { route = call.route; args = call.args ++ v.Row xs ∷ [] }

-- the call with the record of these fields as its last argument, where there are any; a text field may be missing
abbrev pub with_form : List FormField → List (List ℕ × List ℕ) → Call → Option Call
with_form [] pairs call = Some call
with_form (f ∷ fs) pairs call = option_map (with_record call) (fields_of (f ∷ fs) pairs)

-- the methods that a route answers
abbrev pub allow : Route → List ℕ
allow r = if r.get then (if r.post then codes "GET, HEAD, POST" else codes "GET, HEAD") else codes "POST"

-- what is done with a request: a handler is called, or it is turned away with a status and the methods allowed
pub data Routed : Type 0 where
  handled : Call → Routed
  turned_away : (status : ℕ) (allowed : List ℕ) → Routed

abbrev pub called : Option Call → Routed
called (Some call) = handled call
called None = turned_away 400 []

-- the call is handled where the route answers the method
abbrev pub if_answered : Bool → Route → Call → Routed
if_answered answers r call = if answers then handled call else turned_away 405 (allow r)

abbrev pub by_method : Method → Route → List (List ℕ × List ℕ) → Call → Routed
by_method Get r pairs call = if_answered r.get r call
by_method Head r pairs call = if_answered r.get r call
by_method Post r pairs call = if r.post then called (with_form r.form pairs call) else turned_away 405 (allow r)
by_method Other r pairs call = turned_away 501 []

-- the request's call, at its route
abbrev pub routed_at : HttpRequest → Call → Option Route → Routed
routed_at q call None = turned_away 404 []
routed_at q call (Some r) = by_method q.method r q.form call

abbrev pub routed_to : Handlers → HttpRequest → Option Call → Routed
routed_to handlers q None = turned_away 404 []
routed_to handlers q (Some call) = routed_at q call (slice_get handlers.routes call.route)

-- a method that is not known is turned away, whatever the path
abbrev pub if_known : Method → Routed → Routed
if_known Other r = turned_away 501 []
if_known m r = r

-- a method that is not known is 501, a path that routes nowhere 404, a route without the method 405, and a missing text field 400
abbrev pub routed : Handlers → HttpRequest → Routed
routed handlers q = if_known q.method (routed_to handlers q (route_path handlers q.path))

-- ---- answers

abbrev pub is_head : Method → Bool
is_head Head = true
is_head m = false

abbrev pub is_post : Method → Bool
is_post Post = true
is_post m = false

-- the bytes that answer a request: the page with its cookies, or a program error's body, or that the budget is spent
pub data Shows (handlers : Handlers) (cookies : List Cookie) (q : HttpRequest) (closes : Bool) : Outcome Value → List ℕ → Type 0 where
  page : (x : Value) (s : State)
      → Shows handlers cookies q closes (Done x s) (respond 200 [] (sent_pairs cookies s.sent) (show handlers x) (is_head q.method) closes)
  error : (body : Value) (events : List Event)
      → Shows handlers cookies q closes (Error body events) (respond 500 [] [] (show_error handlers body) (is_head q.method) closes)
  spent : (events : List Event)
      → Shows handlers cookies q closes (Spent events) (respond 500 [] [] (show_text (codes "Error") (codes "budget spent")) (is_head q.method) closes)

-- what a call comes to at a store, with the cookies that the request carries
abbrev pub Meaning : Type 1
Meaning = Store → Call → List (List ℕ × List ℕ) → Outcome Value → Type 0

-- A state has a store, and `moved` says what a request that came to an outcome makes of it.
module _ {S : Type 0} (handlers : Handlers) (cookies : List Cookie) (means : Meaning) (store : S → Store) (moved : HttpRequest → Outcome Value → S → S) where
  -- the answer to a request; `last` says that no other is answered on the connection
  pub data Replies (state : S) (q : HttpRequest) (last : Bool) : Answer S → Type 0 where
    away : (status : ℕ) (allowed : List ℕ) → routed handlers q ≡ turned_away status allowed
        → Replies state q last (record {
          bytes = status_answer status allowed (is_head q.method) (q.close || last);
          closes = q.close || last;
          after = state;
        })
    answered : (call : Call) (o : Outcome Value) (bytes : List ℕ) → routed handlers q ≡ handled call
        → means (store state) call q.cookies o → Shows handlers cookies q (q.close || last) o bytes
        → Replies state q last (record { bytes = bytes; closes = q.close || last; after = moved q o state })

-- a request that reaches its handler
abbrev pub ReachesHandler : Handlers → HttpRequest → Type 0
ReachesHandler handlers q = (call : Call) × (routed handlers q ≡ handled call)

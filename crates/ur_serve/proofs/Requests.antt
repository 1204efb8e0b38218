-- The calls of requests.
use Rattle.std.proofs.Common.{◌≡◌, ℕ, Bool, true, false, if◌then◌else◌, List, [], ◌∷◌, ◌++◌, Option, Some, None, option_map, option_and_then}
use Rattle.std.proofs.Common.{slice_get, refl, sym, ap, subst, ◌∙◌}
use Rattle.std.specs.Prelude.{All, IsUtf8, is_some}
use Rattle.std.specs.List.{AllZip, AllByRecursion}
use Rattle.std.proofs.lemmas.List.{append-nil}
use Rattle.std.proofs.lemmas.List.Elements.{All-weaker, All-get_or, All-from_recursion}
use Rattle.std.proofs.lemmas.Option.{slice_get_within, get_or_from_slice_get}
use Rattle.ur_base.specs.declared.names.Name.{Name}
use Rattle.ur_values.specs.declared.value.Value.{Value}
use Rattle.ur_values.specs.declared.value.Value.TheVariants as v
use Rattle.ur_values.specs.declared.value.Call.{Call}
use Rattle.ur_tags.specs.declared.routes.FormField.{FormField}
use Rattle.ur_tags.specs.declared.routes.Route.{Route}
use Rattle.ur_tags.specs.declared.routes.Handlers.{Handlers}
use Rattle.ur_tags.specs.Routes.{IsCallOf}
use Rattle.ur_http.specs.declared.request.Method.{Method}
use Rattle.ur_http.specs.declared.request.Method.TheVariants.{Get, Head, Post, Other}
use Rattle.ur_http.specs.declared.request.HttpRequest.{HttpRequest}
use Rattle.ur_code.specs.declared.code.Code.{Code}
use Rattle.ur_code.specs.Fits.{Fits, FitsRoute}
use Rattle.ur_code.specs.RouteTypes.{IsRequestOf, IsFormArgument, FitsField, FitsBox}
use Rattle.ur_machine.specs.Cookies.{first_value}
use Rattle.ur_machine.proofs.Fitting.{first_is_utf8}
use Rattle.ur_serve.specs.declared.ends.Routed.{Routed}
use Rattle.ur_serve.specs.declared.ends.Routed.TheVariants as routing
use Rattle.ur_serve.specs.Replies.{handled, turned_away, called, if_answered, by_method, routed_at, routed_to, if_known, routed, allow, with_form}
use Rattle.ur_serve.specs.Replies.{with_record, fields_of, field_value}
use Rattle.ur_serve.specs.Replies as meant
use Rattle.ur_serve.specs.Routes.{IsBare, AreBare}
use Rattle.ur_serve.specs.Served.{IsRoutedAs, IfHandled, IfAway}
use Rattle.ur_http.specs.Texts.{IsTextPair}

-- ---- the code's answer and the definition's

pub as_handled : (m : meant.Routed) (own : Call) → IsRoutedAs m (routing.Handled own) → m ≡ handled own
as_handled (handled call) own h = ap handled (sym h)
as_handled (turned_away status allowed) own h = absurd h

pub as_away : (m : meant.Routed) (r : Routed) → IsRoutedAs m r → IfAway r (λ status methods. m ≡ turned_away status methods)
as_away (handled call) (routing.Handled own) h = tt
as_away (handled call) (routing.Away own methods) h = absurd h
as_away (turned_away status allowed) (routing.Handled own) h = absurd h
as_away (turned_away status allowed) (routing.Away own methods) h = let s : own ≡ status = h.0 in let a : methods.now ≡ allowed = h.1 in cc

-- ---- forms

-- a call with what a form gives as its last argument
pub record IsWithForm (r : Route) (call own : Call) : Type 0 where
  pub in_form : List Value
  pub same_route : own.route ≡ call.route
  pub args : own.args ≡ call.args ++ in_form
  pub form : IsFormArgument in_form r.form

box_fits : (b : Bool) (given : Option (List ℕ)) (x : Value) → (if b then Some (v.Bool (is_some given)) else option_map v.Str given) ≡ Some x
    → ((text : List ℕ) → Some text ≡ given → IsUtf8 text) → FitsBox x b
box_fits true given x e h = let same : v.Bool (is_some given) ≡ x = cc in subst (λ z. FitsBox z true) same tt
box_fits false None x e h = cc
box_fits false (Some text) x e h = let same : v.Str text ≡ x = cc in subst (λ z. FitsBox z false) same (h text refl)

step_fits : (f : FormField) (fs : List FormField) (o : Option Value) (more : Option (List (Name × Value))) (xs : List (Name × Value))
    → option_and_then (λ x. option_map (λ ys. (f.number, x) ∷ ys) more) o ≡ Some xs
    → ((x : Value) → o ≡ Some x → FitsBox x f.checkbox) → ((ys : List (Name × Value)) → more ≡ Some ys → AllZip FitsField ys fs) → AllZip FitsField xs (f ∷ fs)
step_fits f fs None more xs e h k = cc
step_fits f fs (Some x) None xs e h k = cc
step_fits f fs (Some x) (Some ys) xs e h k =
    let same : ((f.number, x) ∷ ys) ≡ xs = cc in
    subst (λ zs. AllZip FitsField zs (f ∷ fs)) same ((refl, h x refl), k ys refl)

none_fits : (xs : List (Name × Value)) → Some [] ≡ Some xs → AllZip FitsField xs []
none_fits [] e = tt
none_fits (x ∷ xs) e = cc

pub fields_fit : (fs : List FormField) (pairs : List (List ℕ × List ℕ)) (xs : List (Name × Value)) → All (λ (pair : List ℕ × List ℕ). IsUtf8 pair.1) pairs
    → fields_of fs pairs ≡ Some xs → AllZip FitsField xs fs
fields_fit [] pairs xs h e = none_fits xs e
fields_fit (f ∷ fs) pairs xs h e =
    step_fits f fs (field_value f (first_value f.name pairs)) (fields_of fs pairs) xs e
    (λ x is. box_fits f.checkbox (first_value f.name pairs) x is (λ text t. first_is_utf8 f.name pairs text h t))
    (λ ys is. fields_fit fs pairs ys h is)

with_fields : (f : FormField) (fs : List FormField) (call own : Call) (o : Option (List (Name × Value))) → option_map (with_record call) o ≡ Some own
    → ((xs : List (Name × Value)) → o ≡ Some xs → AllZip FitsField xs (f ∷ fs)) → (xs : List (Name × Value)) × (own ≡ with_record call xs) × AllZip FitsField xs (f ∷ fs)
with_fields f fs call own None e h = cc
with_fields f fs call own (Some xs) e h = let same : own ≡ with_record call xs = cc in (xs, same, h xs refl)

form_made : (r : Route) (fs : List FormField) (pairs : List (List ℕ × List ℕ)) (call own : Call) → r.form ≡ fs → All (λ (pair : List ℕ × List ℕ). IsUtf8 pair.1) pairs
    → with_form fs pairs call ≡ Some own → IsWithForm r call own
form_made r [] pairs call own is h e =
    let same : call ≡ own = cc in
    record { in_form = []; same_route = ap (λ (c : Call). c.route) (sym same); args = ap (λ (c : Call). c.args) (sym same) ∙ sym (append-nil call.args); form = subst (IsFormArgument []) (sym is) refl }
form_made r (f ∷ fs) pairs call own is h e =
    let made = with_fields f fs call own (fields_of (f ∷ fs) pairs) e (λ xs k. fields_fit (f ∷ fs) pairs xs h k) in
    record {
      in_form = v.Row made.0 ∷ [];
      same_route = ap (λ (c : Call). c.route) made.1;
      args = ap (λ (c : Call). c.args) made.1;
      form = subst (IsFormArgument (v.Row made.0 ∷ [])) (sym is) (made.0, refl, made.2);
    }

-- ---- the call of a request that is handled

answered_is : (answers : Bool) (r : Route) (call own : Call) → if_answered answers r call ≡ handled own → (answers ≡ true) × (own ≡ call)
answered_is true r call own e = let same : own ≡ call = cc in (refl, same)
answered_is false r call own e = cc

bare_made : (r : Route) (call own : Call) → IsBare r → (r.get ≡ true) × (own ≡ call) → IsWithForm r call own
bare_made r call own bare h =
    record { in_form = []; same_route = ap (λ (c : Call). c.route) h.1; args = ap (λ (c : Call). c.args) h.1 ∙ sym (append-nil call.args); form = subst (IsFormArgument []) (sym (bare h.0)) refl }

called_is : (o : Option Call) (own : Call) → called o ≡ handled own → o ≡ Some own
called_is None own e = cc
called_is (Some call) own e = let same : call ≡ own = cc in ap Some same

post_is : (b : Bool) (r : Route) (o : Option Call) (own : Call) → (if b then called o else turned_away 405 (allow r)) ≡ handled own → o ≡ Some own
post_is true r o own e = called_is o own e
post_is false r o own e = cc

by_method_made : (m : Method) (r : Route) (pairs : List (List ℕ × List ℕ)) (call own : Call) → IsBare r → All (λ (pair : List ℕ × List ℕ). IsUtf8 pair.1) pairs
    → by_method m r pairs call ≡ handled own → IsWithForm r call own
by_method_made Get r pairs call own bare h e = bare_made r call own bare (answered_is r.get r call own e)
by_method_made Head r pairs call own bare h e = bare_made r call own bare (answered_is r.get r call own e)
by_method_made Post r pairs call own bare h e = form_made r r.form pairs call own refl h (post_is r.post r (with_form r.form pairs call) own e)
by_method_made Other r pairs call own bare h e = cc

bare_at : (handlers : Handlers) (n : ℕ) (r : Route) → AreBare handlers → slice_get handlers.routes n ≡ Some r → IsBare r
bare_at handlers n r bare at = subst IsBare (get_or_from_slice_get handlers.routes n r r at) (All-get_or IsBare handlers.routes n r (slice_get_within handlers.routes n r at) bare)

pub request_at : (handlers : Handlers) (q : HttpRequest) (call : Call) (r : Routed) → IsCallOf handlers call → AreBare handlers → All IsTextPair q.form
    → IsRoutedAs (routed_at q call (slice_get handlers.routes call.route)) r → IfHandled r (IsRequestOf handlers)
request_at handlers q call (routing.Away status methods) own bare text h = tt
request_at handlers q call (routing.Handled made) own bare text h =
    let at : routed_at q call (slice_get handlers.routes call.route) ≡ handled made = as_handled (routed_at q call (slice_get handlers.routes call.route)) made h in
    let by : by_method q.method own.0 q.form call ≡ handled made = sym (ap (routed_at q call) own.1) ∙ at in
    let with = by_method_made q.method own.0 q.form call made (bare_at handlers call.route own.0 bare own.1) (All-weaker IsTextPair (λ (pair : List ℕ × List ℕ). IsUtf8 pair.1) (λ pair t. t.1) q.form text) by in
    record {
      route = own.0;
      in_path = call.args;
      in_form = with.in_form;
      is_route = ap (slice_get handlers.routes) with.same_route ∙ own.1;
      args = with.args;
      path = own.2;
      form = with.form;
    }

-- ---- code that fits

bare_routes : (code : Code) (rs : List Route) (ts : List ℕ) → AllZip (FitsRoute code) rs ts → AllByRecursion IsBare rs
bare_routes code [] ts h = tt
bare_routes code (r ∷ rs) [] h = absurd h
bare_routes code (r ∷ rs) (t ∷ ts) h = (h.0.no_form, bare_routes code rs ts h.1)

pub are_bare : (code : Code) → Fits code → AreBare code.handlers
are_bare code fits = All-from_recursion IsBare code.handlers.routes (bare_routes code code.handlers.routes code.targets fits.routes)

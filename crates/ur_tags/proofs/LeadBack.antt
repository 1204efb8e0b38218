-- The path of a call leads back to it.
use Rattle.std.proofs.Common.{◌≡◌, ℕ, zero, suc, ◌+◌, ◌<◌, ◌==◌, Bool, true, false, cond, ◌&&◌, List, [], ◌∷◌, ◌++◌, Option, Some, None, length, drop, get_or, slice_get, bytes_eq, codes, All, AllPairs, option_map, option_and_then, refl, sym, ap, ap₂, subst, ◌∙◌, ⊎_elim, append_assoc, append-nil, arith}
use Rattle.std.specs.List.{flat_map, AllZip}
use Rattle.std.proofs.lemmas.Bool.{and_parts}
use Rattle.std.proofs.lemmas.List.Splits.{slice_split_none, slice_split_at}
use Rattle.std.proofs.lemmas.Option.{get_or_from_slice_get, slice_get_within}
use Rattle.std.proofs.lemmas.Slice.Eq.{bytes_eq-Decides}
use Rattle.ur_values.specs.declared.schema.ColumnKind.{ColumnKind}
use Rattle.ur_values.specs.declared.schema.ColumnKind.TheVariants as kind
use Rattle.ur_values.specs.declared.value.Value.{Value}
use Rattle.ur_values.specs.declared.value.Value.TheVariants as v
use Rattle.ur_values.specs.declared.value.Call.{Call}
use Rattle.ur_values.specs.Store.{FitsBasic}
use Rattle.ur_tags.specs.declared.routes.Param.{Param}
use Rattle.ur_tags.specs.declared.routes.Param.TheVariants as param
use Rattle.ur_tags.specs.declared.routes.Route.{Route}
use Rattle.ur_tags.specs.declared.routes.Handlers.{Handlers}
use Rattle.ur_tags.specs.Routes.{FitsParam, IsNamed, AreApart, AreRoutes}
use Rattle.ur_tags.specs.Segments.{encode, decode, segment, text_of}
use Rattle.ur_tags.specs.Paths.{argument_path, names_path, path, kind_of, argument, arguments, is_named, call_from, route, split, decode_all, segments_of, RoutesBack}
use Rattle.ur_tags.proofs.Bytes.{decode-encode, IsNoSlash, encode-IsNoSlash}
use Rattle.ur_tags.proofs.ReadBack.{has_text, decode_back}

-- ---- one argument

-- an argument of this kind is a segment after a slash
argument_segment : (x : Value) (kind : ColumnKind) → FitsBasic x kind → argument_path x ≡ 47 ∷ segment x
argument_segment (v.Int z) kind h = refl
argument_segment (v.Str t) kind h = refl
argument_segment (v.Bool b) kind h = refl
argument_segment _ _ h = elim h [ ]

-- the first of the texts, where the argument has one
abbrev onto : Option ColumnKind → Value → List (List ℕ) → (Value → List ℕ) → List (List ℕ)
onto None x rest f = rest
onto (Some kind) x rest f = f x ∷ rest

-- what an argument is in a path, and how it is read
record IsArgument (x : Value) (kind : Option ColumnKind) : Type 0 where
  pub in_path : argument_path x ≡ elim kind as (λ k. List ℕ) [ None ↦ [] | Some k ↦ 47 ∷ segment x ]
  pub read : (texts : List (List ℕ)) → argument kind (onto kind x texts text_of) ≡ Some (x, texts)
  pub decoded : elim kind as (λ k. Type 0) [ None ↦ Unit {0} | Some k ↦ decode (segment x) ≡ Some (text_of x) ]

fits_argument : (x : Value) (kind : ColumnKind) → FitsBasic x kind → IsArgument x (Some kind)
fits_argument x kind h = record {
  in_path = argument_segment x kind h;
  read = λ texts. ap (option_map (λ (y : Value). (y, texts))) (has_text x kind h).back;
  decoded = decode_back x kind h;
}

is_argument : (x : Value) (p : Param) → FitsParam x p → IsArgument x (kind_of p)
is_argument (v.Int z) param.Int h = fits_argument (v.Int z) kind.Int h
is_argument (v.Str t) param.Str h = fits_argument (v.Str t) kind.Str h
is_argument (v.Bool b) param.Bool h = fits_argument (v.Bool b) kind.Bool tt
is_argument x param.Unit h = subst (λ y. IsArgument y None) (sym h) (record { in_path = refl; read = λ texts. ap (λ y. Some (y, texts)) refl; decoded = tt })
is_argument _ _ h = elim h [ ]

-- ---- the arguments of a call

-- the segments of arguments of these types, and their texts
abbrev segments : List Value → List Param → List (List ℕ)
segments (x ∷ args) (p ∷ params) = onto (kind_of p) x (segments args params) segment
segments _ _ = []

abbrev texts_of : List Value → List Param → List (List ℕ)
texts_of (x ∷ args) (p ∷ params) = onto (kind_of p) x (texts_of args params) text_of
texts_of _ _ = []

split_argument : (piece : List ℕ) (kind : Option ColumnKind) (x : Value) (more : List ℕ) (rest : List (List ℕ)) → All IsNoSlash piece → IsArgument x kind
    → ((q : List ℕ) → All IsNoSlash q → split (q ++ more) ≡ q ∷ rest) → split (piece ++ (argument_path x ++ more)) ≡ piece ∷ onto kind x rest segment
split_argument piece None x more rest plain is after = ap (λ a. split (piece ++ (a ++ more))) is.in_path ∙ after piece plain
split_argument piece (Some kind) x more rest plain is after =
    ap (λ a. split (piece ++ (a ++ more))) is.in_path ∙ slice_split_at (λ b. b == 47) piece 47 (segment x ++ more) plain refl
    ∙ ap (λ r. piece ∷ r) (after (segment x) (encode-IsNoSlash (text_of x)))

split_arguments : (args : List Value) (params : List Param) → AllZip FitsParam args params → (piece : List ℕ) → All IsNoSlash piece
    → split (piece ++ flat_map argument_path args) ≡ piece ∷ segments args params
split_arguments [] [] fit piece plain = ap split (append-nil piece) ∙ slice_split_none (λ b. b == 47) piece plain
split_arguments (x ∷ args) (p ∷ params) fit piece plain =
    split_argument piece (kind_of p) x (flat_map argument_path args) (segments args params) plain (is_argument x p fit.0) (split_arguments args params fit.1)
split_arguments _ _ fit piece plain = elim fit [ ]

decode_more : (s text : List ℕ) (rest texts : List (List ℕ)) → decode s ≡ Some text → decode_all rest ≡ Some texts → decode_all (s ∷ rest) ≡ Some (text ∷ texts)
decode_more s text rest texts first e =
    ap (option_and_then (λ t. option_map (λ ts. t ∷ ts) (decode_all rest))) first ∙ ap (option_map (λ ts. text ∷ ts)) e

decode_argument : (kind : Option ColumnKind) (x : Value) (rest texts : List (List ℕ)) → IsArgument x kind → decode_all rest ≡ Some texts
    → decode_all (onto kind x rest segment) ≡ Some (onto kind x texts text_of)
decode_argument None x rest texts is e = e
decode_argument (Some kind) x rest texts is e = decode_more (segment x) (text_of x) rest texts is.decoded e

decode_arguments : (args : List Value) (params : List Param) → AllZip FitsParam args params → decode_all (segments args params) ≡ Some (texts_of args params)
decode_arguments [] [] fit = refl
decode_arguments (x ∷ args) (p ∷ params) fit =
    decode_argument (kind_of p) x (segments args params) (texts_of args params) (is_argument x p fit.0) (decode_arguments args params fit.1)
decode_arguments _ _ fit = elim fit [ ]

read_arguments : (args : List Value) (params : List Param) → AllZip FitsParam args params → arguments params (texts_of args params) ≡ Some args
read_arguments [] [] fit = refl
read_arguments (x ∷ args) (p ∷ params) fit =
    ap (option_and_then (λ (taken : Value × List (List ℕ)). option_map (λ others. taken.0 ∷ others) (arguments params taken.1))) ((is_argument x p fit.0).read (texts_of args params))
    ∙ ap (option_map (λ others. x ∷ others)) (read_arguments args params fit.1)
read_arguments _ _ fit = elim fit [ ]

-- ---- the route

not_true : (b : Bool) → ¬ (b ≡ true) → b ≡ false
not_true true h = absurd (h refl)
not_true false h = refl

named_itself : (r : Route) → is_named r r.module_name r.function_name ≡ true
named_itself r = ap₂ (λ a b. a && b) ((bytes_eq-Decides r.module_name r.module_name).1 refl) ((bytes_eq-Decides r.function_name r.function_name).1 refl)

pub named_apart : (r s : Route) → AreApart r s → is_named r s.module_name s.function_name ≡ false
named_apart r s apart =
    not_true _ (λ e. let both = and_parts (bytes_eq r.module_name s.module_name) (bytes_eq r.function_name s.function_name) e in
    ⊎_elim (λ h. h ((bytes_eq-Decides r.module_name s.module_name).0 both.0)) (λ h. h ((bytes_eq-Decides r.function_name s.function_name).0 both.1)) apart)

abbrev call_with : ℕ → List Value → Call
call_with number args = record { route = number; args = args }

call_back : (number : ℕ) (routes : List Route) (k : ℕ) (r : Route) (texts : List (List ℕ)) (args : List Value) → slice_get routes k ≡ Some r → AllPairs AreApart routes
    → arguments r.params texts ≡ Some args → call_from number routes r.module_name r.function_name texts ≡ Some (call_with (number + k) args)
call_back number [] k r texts args at apart read = absurd (omega (arith, slice_get_within [] k r at))
call_back number (g ∷ gs) zero r texts args at apart read =
    let same : g ≡ r = get_or_from_slice_get (g ∷ gs) 0 r r at in
    let none : number ≡ number + 0 = omega arith in
    ap (λ h. cond (is_named h r.module_name r.function_name) (option_map (call_with number) (arguments h.params texts)) (call_from (number + 1) gs r.module_name r.function_name texts)) same
    ∙ ap (λ b. cond b (option_map (call_with number) (arguments r.params texts)) (call_from (number + 1) gs r.module_name r.function_name texts)) (named_itself r)
    ∙ ap (option_map (call_with number)) read ∙ ap (λ n. Some (call_with n args)) none
call_back number (g ∷ gs) (suc k) r texts args at apart read =
    let within : suc k < length (g ∷ gs) = slice_get_within (g ∷ gs) (suc k) r at in
    let there : get_or (g ∷ gs) (suc k) r ≡ r = get_or_from_slice_get (g ∷ gs) (suc k) r r at in
    let other : is_named g r.module_name r.function_name ≡ false = named_apart g r (subst (AreApart g) there (apart 0 (suc k) r (omega arith) within)) in
    let more : (number + 1) + k ≡ number + suc k = omega arith in
    ap (λ b. cond b (option_map (call_with number) (arguments g.params texts)) (call_from (number + 1) gs r.module_name r.function_name texts)) other
    ∙ call_back (number + 1) gs k r texts args at (λ i j d lt below. apart (suc i) (suc j) d (omega arith) (omega arith)) read
    ∙ ap (λ n. Some (call_with n args)) more

-- ---- the path

pub lead_back : (handlers : Handlers) → AreRoutes handlers → RoutesBack handlers
lead_back handlers are call (r, at, fit) =
    let args = call.args in
    let number = call.route in
    let names : List ℕ = encode r.module_name in
    let rest = flat_map argument_path args in
    let within : number < length handlers.routes = slice_get_within handlers.routes number r at in
    let there : get_or handlers.routes number r ≡ r = get_or_from_slice_get handlers.routes number r r at in
    let named : IsNamed r = subst IsNamed there (are.named number r within) in
    let whole : drop 1 (path handlers call) ≡ names ++ 47 ∷ (encode r.function_name ++ rest) =
    ap (λ o. drop 1 (names_path o ++ rest)) at ∙ append_assoc (names ++ codes "/") (encode r.function_name) rest
    ∙ append_assoc names (codes "/") (encode r.function_name ++ rest) in
    let cut : split (drop 1 (path handlers call)) ≡ names ∷ encode r.function_name ∷ segments args r.params =
    ap split whole ∙ slice_split_at (λ b. b == 47) names 47 (encode r.function_name ++ rest) (encode-IsNoSlash r.module_name) refl
    ∙ ap (λ ps. names ∷ ps) (split_arguments args r.params fit (encode r.function_name) (encode-IsNoSlash r.function_name)) in
    let decoded : segments_of (path handlers call) ≡ Some (r.module_name ∷ r.function_name ∷ texts_of args r.params) =
    ap decode_all cut
    ∙ decode_more names r.module_name (encode r.function_name ∷ segments args r.params) (r.function_name ∷ texts_of args r.params) (decode-encode r.module_name named.1 named.0)
    (decode_more (encode r.function_name) r.function_name (segments args r.params) (texts_of args r.params) (decode-encode r.function_name named.3 named.2)
    (decode_arguments args r.params fit)) in
    let number_is : 0 + number ≡ number = omega arith in
    ap (option_and_then (route handlers)) decoded ∙ call_back 0 handlers.routes number r (texts_of args r.params) args at are.apart (read_arguments args r.params fit)
    ∙ ap (λ n. Some (call_with n args)) number_is

-- The path of a call shows as it is between the quotes of an attribute.
use Rattle.std.proofs.Common.{◌≡◌, ◌≢◌, ℕ, ◌==◌, true, false, List, [], ◌∷◌, ◌++◌, Option, Some, None, All, refl, sym, ap, ap₂, subst, ◌∙◌, ⊎_elim, arith, codes}
use Rattle.std.specs.Prelude.{slice_get}
use Rattle.std.specs.List.{flat_map}
use Rattle.std.proofs.lemmas.Bool.{cond-false, cases_Bool, false≢true}
use Rattle.std.proofs.lemmas.Bool.Decides.{nat_tests}
use Rattle.std.proofs.lemmas.List.Elements.{All-nil, All-cons, All-head, All-tail, All-append, All-weaker}
use Rattle.percent_encoding.specs.Percent.{percent_encode_byte}
use Rattle.percent_encoding.proofs.PercentLemmas.{IsEscapeByte, All-percent_encode_byte}
use Rattle.ur_values.specs.declared.value.Value.{Value}
use Rattle.ur_values.specs.declared.value.Value.TheVariants as v
use Rattle.ur_values.specs.declared.value.Call.{Call}
use Rattle.ur_tags.specs.declared.routes.Route.{Route}
use Rattle.ur_tags.specs.declared.routes.Handlers.{Handlers}
use Rattle.ur_tags.specs.Segments.{is_unreserved, encode, text_of}
use Rattle.ur_tags.specs.Paths.{names_path, argument_path, path}
use Rattle.ur_tags.specs.Show.{escape_quoted}
use Rattle.ur_tags.proofs.Bytes.{encode_kept, encode_escaped}

-- a byte that stands for itself in an attribute
abbrev pub IsPlain : ℕ → Type 0
IsPlain b = escape_quoted b ≡ b ∷ []

other_plain : (b : ℕ) → b ≢ 34 → b ≢ 38 → b ≢ 60 → b ≢ 62 → IsPlain b
other_plain b quote amp less greater =
    cond-false (b == 34) _ _ (grind (arith, nat_tests)) ∙ cond-false (b == 38) _ _ (grind (arith, nat_tests))
    ∙ cond-false (b == 60) _ _ (grind (arith, nat_tests))
    ∙ cond-false (b == 62) _ _ (grind (arith, nat_tests))

unreserved_plain : (b : ℕ) → is_unreserved b ≡ true → IsPlain b
unreserved_plain b e = other_plain b (not 34 refl) (not 38 refl) (not 60 refl) (not 62 refl)
  where
    not : (n : ℕ) → is_unreserved n ≡ false → b ≢ n
    not n reserved same = false≢true (sym reserved ∙ ap is_unreserved (sym same) ∙ e)

escape_plain : (b : ℕ) → IsEscapeByte b → IsPlain b
escape_plain b h = other_plain b (λ e. grind arith) (λ e. grind arith) (λ e. grind arith) (λ e. grind arith)

pub encode_plain : (bytes : List ℕ) → All IsPlain (encode bytes)
encode_plain [] = All-nil IsPlain
encode_plain (b ∷ bytes) =
    ⊎_elim
    (λ e. subst (All IsPlain) (sym (encode_kept b bytes e)) (All-cons IsPlain b (encode bytes) (unreserved_plain b e) (encode_plain bytes)))
    (λ e. subst (All IsPlain) (sym (encode_escaped b bytes e)) (All-append IsPlain (percent_encode_byte b) (encode bytes)
    (All-weaker IsEscapeByte IsPlain escape_plain (percent_encode_byte b) (All-percent_encode_byte b)) (encode_plain bytes)))
    (cases_Bool (is_unreserved b))

slash : (bytes : List ℕ) → All IsPlain bytes → All IsPlain (codes "/" ++ bytes)
slash bytes all = All-cons IsPlain 47 bytes refl all

names_plain : (r : Option Route) → All IsPlain (names_path r)
names_plain None = All-nil IsPlain
names_plain (Some r) =
    let name = encode r.module_name in
    let named : All IsPlain (name ++ codes "/") = All-append IsPlain name (codes "/") (encode_plain r.module_name) (slash [] (All-nil IsPlain)) in
    slash (name ++ codes "/" ++ encode r.function_name) (All-append IsPlain (name ++ codes "/") (encode r.function_name) named (encode_plain r.function_name))

argument_plain : (x : Value) → All IsPlain (argument_path x)
argument_plain (v.Int z) = slash _ (encode_plain (text_of (v.Int z)))
argument_plain (v.Str t) = slash _ (encode_plain (text_of (v.Str t)))
argument_plain (v.Bool b) = slash _ (encode_plain (text_of (v.Bool b)))
argument_plain _ = All-nil IsPlain

arguments_plain : (args : List Value) → All IsPlain (flat_map argument_path args)
arguments_plain [] = All-nil IsPlain
arguments_plain (x ∷ args) = All-append IsPlain (argument_path x) (flat_map argument_path args) (argument_plain x) (arguments_plain args)

shows_itself : (bytes : List ℕ) → All IsPlain bytes → flat_map escape_quoted bytes ≡ bytes
shows_itself [] all = refl
shows_itself (b ∷ bytes) all = ap₂ (λ front rest. front ++ rest) (All-head IsPlain b bytes all) (shows_itself bytes (All-tail IsPlain b bytes all))

pub path_shows_itself : (handlers : Handlers) (call : Call) → flat_map escape_quoted (path handlers call) ≡ path handlers call
path_shows_itself handlers call =
    shows_itself (path handlers call) (All-append IsPlain (names_path (slice_get handlers.routes call.route)) (flat_map argument_path call.args)
    (names_plain _) (arguments_plain call.args))

-- A value that a segment is read as is of its kind, and the call that a path names is one of a route.
use Rattle.std.proofs.Common.{◌≡◌, ℕ, ◌+◌, suc, ℤ, pos, negsuc, ◌==◌, Bool, true, false, ◌&&◌, if◌then◌else◌, List, [], ◌∷◌, drop, Option, Some, None, option_map, option_and_then, slice_get, IsUtf8, refl, sym, ap, subst, ◌∙◌, arith, bytes_eq}
use Rattle.std.specs.Prelude.{Result, Ok, Err, IfOk, IfSome}
use Rattle.ur_base.specs.declared.refusal.Memory.{Memory}
use Rattle.std.specs.List.{AllZip, AllByRecursion}
use Rattle.std.specs.Str.{is_utf8}
use Rattle.std.specs.Fmt.{signed_decimal}
use Rattle.std.specs.Str.Parse.{signed_digits_value}
use Rattle.std.proofs.lemmas.Int.{ints}
use Rattle.std.proofs.lemmas.Bool.Decides.{nat_tests, Decides-eqb}
use Rattle.std.proofs.lemmas.Str.{IsUtf8-nil, IsUtf8-drop, IsUtf8-from_is_utf8, IsCharBoundary-after_ascii}
use Rattle.percent_encoding.specs.Percent.{percent_decode}
use Rattle.ur_values.specs.declared.value.Value.{Value}
use Rattle.ur_values.specs.declared.value.Value.TheVariants as v
use Rattle.ur_values.specs.declared.value.Call.{Call}
use Rattle.ur_values.specs.declared.schema.ColumnKind.{ColumnKind}
use Rattle.ur_values.specs.declared.schema.ColumnKind.TheVariants as kind
use Rattle.ur_values.specs.Store.{FitsKind}
use Rattle.ur_values.specs.Values.{IsInt, unit_value}
use Rattle.ur_tags.specs.declared.routes.Param.{Param}
use Rattle.ur_tags.specs.declared.routes.Param.TheVariants as param
use Rattle.ur_tags.specs.declared.routes.Route.{Route}
use Rattle.ur_tags.specs.declared.routes.Handlers.{Handlers}
use Rattle.ur_tags.specs.Segments.{is_marked, is_int, int_of, string_of, after_mark, bool_of, value_of, decode, unsegment}
use Rattle.ur_tags.specs.Paths.{route_path, kind_of, argument, arguments, is_named, call_from, route, split, decode_all, segments_of}
use Rattle.ur_tags.specs.Routes.{FitsParam, IsCallOf}
use Rattle.ur_tags.specs.Paths.{NamesOwn}

-- ---- a value of a text

both_true : (a b : Bool) → (a && b) ≡ true → (a ≡ true) × (b ≡ true)
both_true true b e = (refl, e)
both_true false b e = cc

int_is : (z : ℤ) → is_int z ≡ true → IsInt z
int_is (pos n) h = (omega (arith, ints), grind (arith, ints, nat_tests))
int_is (negsuc n) h = (grind (arith, ints, nat_tests), omega (arith, ints))

given_where : {A : Type 0} (b : Bool) (x y : A) → (if b then Some x else None) ≡ Some y → (b ≡ true) × (x ≡ y)
given_where true x y e = (refl, cc)
given_where false x y e = cc

int_given : (text : List ℕ) (z : ℤ) → int_of text ≡ Some z → IsInt z
unfolding int_of
int_given text z e =
    let at = given_where (is_int (signed_digits_value 10 text) && bytes_eq (signed_decimal (signed_digits_value 10 text)) text) (signed_digits_value 10 text) z e in
    subst IsInt at.1 (int_is (signed_digits_value 10 text) (both_true _ _ at.0).0)

drop_zero : (xs : List ℕ) → drop 0 xs ≡ xs
drop_zero [] = refl
drop_zero (x ∷ xs) = refl

-- a text without its first byte, which is ASCII
past_ascii : (b : ℕ) (bytes : List ℕ) → b ≡ 95 → IsUtf8 (b ∷ bytes) → IsUtf8 bytes
past_ascii b bytes e u =
    subst IsUtf8 (drop_zero bytes) (IsUtf8-drop (b ∷ bytes) 1 u (IsCharBoundary-after_ascii (b ∷ bytes) 0 u (omega arith) (omega arith)))

after_mark_given : (bytes t : List ℕ) → after_mark bytes ≡ Some t → IsUtf8 bytes → IsUtf8 t
after_mark_given [] t e u = let same : [] ≡ t = cc in subst IsUtf8 same IsUtf8-nil
after_mark_given (b ∷ bytes) t e u = let at = given_where (is_marked b) (b ∷ bytes) t e in subst IsUtf8 at.1 u

string_at : (b : ℕ) (bytes t : List ℕ) (c : Bool) → (b == 95) ≡ c → (if c then after_mark bytes else Some (b ∷ bytes)) ≡ Some t → IsUtf8 (b ∷ bytes) → IsUtf8 t
string_at b bytes t true is e u = after_mark_given bytes t e (past_ascii b bytes ((Decides-eqb b 95).0 is) u)
string_at b bytes t false is e u = let same : b ∷ bytes ≡ t = cc in subst IsUtf8 same u

string_given : (text t : List ℕ) → string_of text ≡ Some t → IsUtf8 text → IsUtf8 t
string_given [] t e u = cc
string_given (b ∷ bytes) t e u = string_at b bytes t (b == 95) refl e u

int_value : (o : Option ℤ) (x : Value) → option_map v.Int o ≡ Some x → ((z : ℤ) → o ≡ Some z → IsInt z) → FitsKind x kind.Int
int_value None x e h = cc
int_value (Some z) x e h = let same : v.Int z ≡ x = cc in subst (λ y. FitsKind y kind.Int) same (h z refl)

text_value : (o : Option (List ℕ)) (x : Value) → option_map v.Str o ≡ Some x → ((t : List ℕ) → o ≡ Some t → IsUtf8 t) → FitsKind x kind.Str
text_value None x e h = cc
text_value (Some t) x e h = let same : v.Str t ≡ x = cc in subst (λ y. FitsKind y kind.Str) same (h t refl)

bool_value : (o : Option Bool) (x : Value) → option_map v.Bool o ≡ Some x → FitsKind x kind.Bool
bool_value None x e = cc
bool_value (Some b) x e = let same : v.Bool b ≡ x = cc in subst (λ y. FitsKind y kind.Bool) same tt

value_given : (k : ColumnKind) (text : List ℕ) (x : Value) → IsUtf8 text → value_of k text ≡ Some x → FitsKind x k
value_given kind.Int text x u e = int_value (int_of text) x e (int_given text)
value_given kind.Str text x u e = text_value (string_of text) x e (λ t f. string_given text t f u)
value_given kind.Bool text x u e = bool_value (bool_of text) x e
value_given kind.OptInt text x u e = cc
value_given kind.OptStr text x u e = cc
value_given kind.OptBool text x u e = cc

decoded : (bytes text : List ℕ) → decode bytes ≡ Some text → IsUtf8 text
decoded [] text e = cc
decoded (b ∷ bytes) text e =
    let at = given_where (is_utf8 (percent_decode (b ∷ bytes))) (percent_decode (b ∷ bytes)) text e in
    subst IsUtf8 at.1 (IsUtf8-from_is_utf8 (percent_decode (b ∷ bytes)) at.0)

unsegment_at : (k : ColumnKind) (o : Option (List ℕ)) (x : Value) → ((text : List ℕ) → o ≡ Some text → IsUtf8 text) → option_and_then (value_of k) o ≡ Some x → FitsKind x k
unsegment_at k None x h e = cc
unsegment_at k (Some text) x h e = value_given k text x (h text refl) e

-- the value that a segment is read as is of the kind
pub unsegment_fits : (k : ColumnKind) (bytes : List ℕ) (x : Value) → unsegment k bytes ≡ Some x → FitsKind x k
unsegment_fits k bytes x e = unsegment_at k (decode bytes) x (decoded bytes) e

read_or_none : (k : ColumnKind) (bytes : List ℕ) (o : Option Value) → o ≡ unsegment k bytes → IfSome o (λ x. FitsKind x k)
read_or_none k bytes None e = tt
read_or_none k bytes (Some x) e = unsegment_fits k bytes x (sym e)

pub read_fits : (k : ColumnKind) (bytes : List ℕ) (found : Result (Option Value) Memory) → IfOk found (λ o. o ≡ unsegment k bytes) → IfOk found (λ o. IfSome o (λ x. FitsKind x k))
read_fits k bytes (Ok o) h = read_or_none k bytes o h
read_fits k bytes (Err e) h = tt

-- ---- an argument of a value

int_param : (x : Value) → FitsKind x kind.Int → FitsParam x param.Int
int_param (v.Int z) h = h
int_param _ h = elim h [ ]

text_param : (x : Value) → FitsKind x kind.Str → FitsParam x param.Str
text_param (v.Str t) h = h
text_param _ h = elim h [ ]

bool_param : (x : Value) → FitsKind x kind.Bool → FitsParam x param.Bool
bool_param (v.Bool b) h = h
bool_param _ h = elim h [ ]

-- ---- the arguments of texts

abbrev AreTexts : List (List ℕ) → Type 0
AreTexts texts = AllByRecursion IsUtf8 texts

taken_fits : (p : Param) (o : Option Value) (texts : List (List ℕ)) (taken : Value × List (List ℕ)) → option_map (λ x. (x, texts)) o ≡ Some taken → AreTexts texts
    → ((x : Value) → o ≡ Some x → FitsParam x p) → FitsParam taken.0 p × AreTexts taken.1
taken_fits p None texts taken e h f = cc
taken_fits p (Some x) texts taken e h f = let same : (x, texts) ≡ taken = cc in subst (λ (t : Value × List (List ℕ)). FitsParam t.0 p × AreTexts t.1) same (f x refl, h)

argument_fits : (p : Param) (texts : List (List ℕ)) (taken : Value × List (List ℕ)) → AreTexts texts → argument (kind_of p) texts ≡ Some taken → FitsParam taken.0 p × AreTexts taken.1
argument_fits param.Unit texts taken h e = let same : (unit_value, texts) ≡ taken = cc in subst (λ (t : Value × List (List ℕ)). FitsParam t.0 param.Unit × AreTexts t.1) same (refl, h)
argument_fits param.Int [] taken h e = cc
argument_fits param.Str [] taken h e = cc
argument_fits param.Bool [] taken h e = cc
argument_fits param.Int (text ∷ texts) taken h e = taken_fits param.Int (value_of kind.Int text) texts taken e h.1 (λ x f. int_param x (value_given kind.Int text x h.0 f))
argument_fits param.Str (text ∷ texts) taken h e = taken_fits param.Str (value_of kind.Str text) texts taken e h.1 (λ x f. text_param x (value_given kind.Str text x h.0 f))
argument_fits param.Bool (text ∷ texts) taken h e = taken_fits param.Bool (value_of kind.Bool text) texts taken e h.1 (λ x f. bool_param x (value_given kind.Bool text x h.0 f))

none_left : (args : List Value) → Some [] ≡ Some args → AllZip FitsParam args []
none_left [] e = tt
none_left (x ∷ args) e = cc

one_more : (p : Param) (ps : List Param) (x : Value) (o : Option (List Value)) (args : List Value) → option_map (λ ys. x ∷ ys) o ≡ Some args → FitsParam x p
    → ((ys : List Value) → o ≡ Some ys → AllZip FitsParam ys ps) → AllZip FitsParam args (p ∷ ps)
one_more p ps x None args e f h = cc
one_more p ps x (Some ys) args e f h = let same : x ∷ ys ≡ args = cc in subst (λ zs. AllZip FitsParam zs (p ∷ ps)) same (f, h ys refl)

first_taken : (p : Param) (ps : List Param) (o : Option (Value × List (List ℕ))) (args : List Value)
    → option_and_then (λ taken. option_map (λ ys. taken.0 ∷ ys) (arguments ps taken.1)) o ≡ Some args
    → ((taken : Value × List (List ℕ)) → o ≡ Some taken → FitsParam taken.0 p × AreTexts taken.1)
    → ((texts : List (List ℕ)) (ys : List Value) → AreTexts texts → arguments ps texts ≡ Some ys → AllZip FitsParam ys ps) → AllZip FitsParam args (p ∷ ps)
first_taken p ps None args e h k = cc
first_taken p ps (Some taken) args e h k = one_more p ps taken.0 (arguments ps taken.1) args e (h taken refl).0 (λ ys f. k taken.1 ys (h taken refl).1 f)

arguments_fit : (ps : List Param) (texts : List (List ℕ)) (args : List Value) → AreTexts texts → arguments ps texts ≡ Some args → AllZip FitsParam args ps
arguments_fit [] [] args h e = none_left args e
arguments_fit [] (text ∷ texts) args h e = cc
arguments_fit (p ∷ ps) texts args h e = first_taken p ps (argument (kind_of p) texts) args e (λ taken f. argument_fits p texts taken h f) (λ rest ys t f. arguments_fit ps rest ys t f)

-- ---- the route

-- the call of a route among those from this number on
call_own : (all : List Route) (number : ℕ) (r : Route) (o : Option (List Value)) (call : Call) → slice_get all number ≡ Some r
    → option_map (λ args. record { route = number; args = args }) o ≡ Some call → ((args : List Value) → o ≡ Some args → AllZip FitsParam args r.params)
    → (s : Route) × (slice_get all call.route ≡ Some s) × AllZip FitsParam call.args s.params
call_own all number r None call at e h = cc
call_own all number r (Some args) call at e h =
    let route_same : number ≡ call.route = cc in
    let args_same : args ≡ call.args = cc in
    (r, subst (λ n. slice_get all n ≡ Some r) route_same at, subst (λ xs. AllZip FitsParam xs r.params) args_same (h args refl))

next_number : (number k : ℕ) → number + suc k ≡ number + 1 + k
next_number number k = omega arith

same_number : (number : ℕ) → number + 0 ≡ number
same_number number = omega arith

chosen : (b : Bool) (all : List Route) (x y : Option Call) (call : Call) → (if b then x else y) ≡ Some call
    → (x ≡ Some call → (s : Route) × (slice_get all call.route ≡ Some s) × AllZip FitsParam call.args s.params)
    → (y ≡ Some call → (s : Route) × (slice_get all call.route ≡ Some s) × AllZip FitsParam call.args s.params)
    → (s : Route) × (slice_get all call.route ≡ Some s) × AllZip FitsParam call.args s.params
chosen true all x y call e f g = f e
chosen false all x y call e f g = g e

from_own : (all routes : List Route) (number : ℕ) (name function : List ℕ) (texts : List (List ℕ)) (call : Call) → ((k : ℕ) → slice_get routes k ≡ slice_get all (number + k)) → AreTexts texts
    → call_from number routes name function texts ≡ Some call → (s : Route) × (slice_get all call.route ≡ Some s) × AllZip FitsParam call.args s.params
from_own all [] number name function texts call at h e = cc
from_own all (r ∷ routes) number name function texts call at h e =
    chosen (is_named r name function) all (option_map (λ args. record { route = number; args = args }) (arguments r.params texts)) (call_from (number + 1) routes name function texts) call e
    (λ f. call_own all number r (arguments r.params texts) call (ap (slice_get all) (sym (same_number number)) ∙ sym (at 0)) f (λ args g. arguments_fit r.params texts args h g))
    (λ f. from_own all routes (number + 1) name function texts call (λ k. at (suc k) ∙ ap (slice_get all) (next_number number k)) h f)

plus_none : (k : ℕ) → k ≡ 0 + k
plus_none k = omega arith

route_own : (handlers : Handlers) (texts : List (List ℕ)) (call : Call) → AreTexts texts → route handlers texts ≡ Some call → IsCallOf handlers call
route_own handlers [] call h e = cc
route_own handlers (name ∷ []) call h e = cc
route_own handlers (name ∷ function ∷ texts) call h e =
    from_own handlers.routes handlers.routes 0 name function texts call (λ k. ap (slice_get handlers.routes) (plus_none k)) h.1.1 e

-- ---- the texts of a path

all_more : (o : Option (List ℕ)) (more : Option (List (List ℕ))) (texts : List (List ℕ)) → option_and_then (λ text. option_map (λ rest. text ∷ rest) more) o ≡ Some texts
    → ((text : List ℕ) → o ≡ Some text → IsUtf8 text) → ((rest : List (List ℕ)) → more ≡ Some rest → AreTexts rest) → AreTexts texts
all_more None more texts e f g = cc
all_more (Some text) None texts e f g = cc
all_more (Some text) (Some rest) texts e f g = let same : text ∷ rest ≡ texts = cc in subst AreTexts same (f text refl, g rest refl)

none_texts : (texts : List (List ℕ)) → Some [] ≡ Some texts → AreTexts texts
none_texts [] e = tt
none_texts (text ∷ texts) e = cc

all_texts : (segments texts : List (List ℕ)) → decode_all segments ≡ Some texts → AreTexts texts
all_texts [] texts e = none_texts texts e
all_texts (segment ∷ segments) texts e = all_more (decode segment) (decode_all segments) texts e (decoded segment) (λ rest f. all_texts segments rest f)

of_segments : (handlers : Handlers) (o : Option (List (List ℕ))) (call : Call) → option_and_then (route handlers) o ≡ Some call → ((texts : List (List ℕ)) → o ≡ Some texts → AreTexts texts) → IsCallOf handlers call
of_segments handlers None call e h = cc
of_segments handlers (Some texts) call e h = route_own handlers texts call (h texts refl) e

pub names_own : (handlers : Handlers) → NamesOwn handlers
names_own handlers bytes call e = of_segments handlers (segments_of bytes) call e (λ texts f. all_texts (split (drop 1 bytes)) texts f)

own_or_none : (handlers : Handlers) (bytes : List ℕ) (o : Option Call) → o ≡ route_path handlers bytes → IfSome o (IsCallOf handlers)
own_or_none handlers bytes None e = tt
own_or_none handlers bytes (Some call) e = names_own handlers bytes call (sym e)

-- what is found is a call of a route
pub found_own : (handlers : Handlers) (bytes : List ℕ) (found : Result (Option Call) Memory) → IfOk found (λ o. o ≡ route_path handlers bytes) → IfOk found (λ o. IfSome o (IsCallOf handlers))
found_own handlers bytes (Ok o) h = own_or_none handlers bytes o h
found_own handlers bytes (Err e) h = tt

-- Each value is read from its segment.
use Rattle.std.proofs.Common.{◌≡◌, ℕ, ℤ, pos, negsuc, neg_ℤ, suc, ◌<◌, ◌==◌, Bool, true, false, cond, List, [], ◌∷◌, Some, None, length, drop, IsUtf8, option_map, option_and_then, refl, sym, ap, ◌∙◌, ⊎_elim, arith}
use Rattle.std.specs.Fmt.{decimal, signed_decimal}
use Rattle.std.specs.Str.Parse.{signed_digits_value, starts_with_minus, without_leading_plus, digits_value}
use Rattle.std.proofs.lemmas.Fmt.{decimal_is_IsNumeral, decimal_nonempty, IsAscii-signed}
use Rattle.std.proofs.lemmas.Int.{ints}
use Rattle.std.proofs.lemmas.Bool.{cases_Bool, cond-true, cond-false}
use Rattle.std.proofs.lemmas.Bool.Decides.{nat_tests}
use Rattle.std.proofs.lemmas.Str.{IsUtf8-append, IsUtf8-from_ascii, IsUtf8-from_is_utf8}
use Rattle.std.proofs.lemmas.Str.Parse.{digit_at, without_leading_plus_none}
use Rattle.std.specs.Str.{is_utf8, chars}
use lib.Utf8.{encode as utf8_encode}
use Rattle.ur_values.specs.declared.schema.ColumnKind.{ColumnKind}
use Rattle.ur_values.specs.declared.schema.ColumnKind.TheVariants as kind
use Rattle.ur_values.specs.declared.value.Value.{Value}
use Rattle.ur_values.specs.declared.value.Value.TheVariants as v
use Rattle.ur_values.specs.Values.{IsInt}
use Rattle.ur_values.specs.Store.{FitsBasic}
use Rattle.ur_tags.specs.Segments.{is_marked, is_int, int_of, string_text, string_of, after_mark, bool_text, bool_of, text_of, value_of, segment, decode, unsegment}
use Rattle.ur_tags.proofs.Bytes.{decode-encode}
use Rattle.ur_tags.proofs.Ints.{is_int-mag, is_int-fits, int_of_value}

-- ---- strings

string_back : (t : List ℕ) → string_of (string_text t) ≡ Some t
string_back [] = refl
string_back (b ∷ bytes) =
    ⊎_elim
    (λ e. ap string_of (cond-true (is_marked b) (95 ∷ b ∷ bytes) (b ∷ bytes) e) ∙ cond-true (is_marked b) (Some (b ∷ bytes)) None e)
    (λ e. let other : (b == 95) ≡ false = grind (arith, nat_tests) in
    ap string_of (cond-false (is_marked b) (95 ∷ b ∷ bytes) (b ∷ bytes) e) ∙ cond-false (b == 95) (after_mark bytes) (Some (b ∷ bytes)) other)
    (cases_Bool (is_marked b))

mark_is_text : IsUtf8 (95 ∷ [])
unfolding is_utf8 chars utf8_encode
mark_is_text = IsUtf8-from_is_utf8 (95 ∷ []) refl

string_is_text : (t : List ℕ) → IsUtf8 t → IsUtf8 (string_text t)
string_is_text [] u = mark_is_text
string_is_text (b ∷ bytes) u = elim (is_marked b) as (λ m. IsUtf8 (cond m (95 ∷ b ∷ bytes) (b ∷ bytes))) [
  | true ↦ IsUtf8-append (95 ∷ []) (b ∷ bytes) mark_is_text u
  | false ↦ u
]

string_is_long : (t : List ℕ) → 0 < length (string_text t)
string_is_long [] = omega arith
string_is_long (b ∷ bytes) = elim (is_marked b) as (λ m. 0 < length (cond m (95 ∷ b ∷ bytes) (b ∷ bytes))) [
  | true ↦ omega arith
  | false ↦ omega arith
]

-- ---- ints

is_int_from : (z : ℤ) → IsInt z → is_int z ≡ true
is_int_from z h = grind (arith, ints, nat_tests)

value_back : (z : ℤ) → is_int z ≡ true → z ≡ signed_digits_value 10 (signed_decimal z)
value_back (pos n) h =
    let m = is_int-mag (pos n) h in
    let ds = decimal n in
    let numeral = decimal_is_IsNumeral n (omega arith) in
    let first = digit_at ds 0 numeral.0.1 numeral.0.0 in
    let minus : starts_with_minus ds ≡ false = grind (arith, nat_tests) in
    let plus : without_leading_plus ds ≡ ds = without_leading_plus_none ds (λ e. absurd (omega arith)) in
    let value = λ (w : List ℕ). pos (digits_value 10 w) in
    let rest = λ (b : Bool). cond b (drop 1 ds) (without_leading_plus ds) in
    sym (ap (λ b. cond b (neg_ℤ (value (rest b))) (value (rest b))) minus ∙ ap value plus ∙ ap pos numeral.1)
value_back (negsuc n) h =
    let m = is_int-mag (negsuc n) h in
    sym (ap (λ k. neg_ℤ (pos k)) (decimal_is_IsNumeral (suc n) (omega arith)).1)

pub int_back : (z : ℤ) → is_int z ≡ true → int_of (signed_decimal z) ≡ Some z
int_back z h = int_of_value (signed_decimal z) z (value_back z h) (is_int-fits z h) refl

int_is_long : (z : ℤ) → is_int z ≡ true → 0 < length (signed_decimal z)
int_is_long (pos n) h = let m = is_int-mag (pos n) h in decimal_nonempty n (omega arith)
int_is_long (negsuc n) h = omega arith

-- ---- bools

bool_is_text : (b : Bool) → IsUtf8 (bool_text b)
unfolding is_utf8 chars utf8_encode
bool_is_text true = IsUtf8-from_is_utf8 _ refl
bool_is_text false = IsUtf8-from_is_utf8 _ refl

bool_back : (b : Bool) → bool_of (bool_text b) ≡ Some b
bool_back true = refl
bool_back false = refl

bool_is_long : (b : Bool) → 0 < length (bool_text b)
bool_is_long true = omega arith
bool_is_long false = omega arith

-- ---- values

-- the text is UTF-8 and not empty, and is read as the value
pub record HasText (x : Value) (kind : ColumnKind) : Type 0 where
  pub utf8 : IsUtf8 (text_of x)
  pub long : 0 < length (text_of x)
  pub back : value_of kind (text_of x) ≡ Some x

pub has_text : (x : Value) (kind : ColumnKind) → FitsBasic x kind → HasText x kind
has_text (v.Int z) kind.Int h =
    let i = is_int_from z h in
    record { utf8 = IsUtf8-from_ascii _ (IsAscii-signed z (is_int-mag z i)); long = int_is_long z i; back = ap (option_map v.Int) (int_back z i) }
has_text (v.Str t) kind.Str h = record { utf8 = string_is_text t h; long = string_is_long t; back = ap (option_map v.Str) (string_back t) }
has_text (v.Bool b) kind.Bool h = record { utf8 = bool_is_text b; long = bool_is_long b; back = ap (option_map v.Bool) (bool_back b) }
has_text _ _ h = elim h [ ]

-- the segment of a value decodes to its text
pub decode_back : (x : Value) (kind : ColumnKind) → FitsBasic x kind → decode (segment x) ≡ Some (text_of x)
decode_back x kind h = let text = has_text x kind h in decode-encode (text_of x) text.utf8 text.long

pub segment_back : (x : Value) (kind : ColumnKind) → FitsBasic x kind → unsegment kind (segment x) ≡ Some x
segment_back x kind h = ap (option_and_then (value_of kind)) (decode_back x kind h) ∙ (has_text x kind h).back

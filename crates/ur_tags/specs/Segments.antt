-- One value as a segment of a path, and back.
use Rattle.std.specs.Prelude.{◌≡◌, ℕ, ◌-◌, ◌^◌, Bool, true, false, ◌&&◌, ◌||◌, ◌==◌, List, [], ◌∷◌, Option, Some, None, if◌then◌else◌, bytes_eq, codes, ℤ, pos, negsuc, int_le, option_map, option_and_then}
use Rattle.std.specs.List.{flat_map, list_any}
use Rattle.std.specs.Char.{is_ascii_alphanumeric}
use Rattle.std.specs.Fmt.{signed_decimal}
use Rattle.std.specs.Str.Parse.{signed_digits_value}
use Rattle.std.specs.Str.{is_utf8}
use Rattle.percent_encoding.specs.Percent.{percent_encode_byte, percent_decode}
use Rattle.ur_values.specs.declared.schema.ColumnKind.{ColumnKind}
use Rattle.ur_values.specs.declared.schema.ColumnKind.TheVariants as kind
use Rattle.ur_values.specs.declared.value.Value.{Value}
use Rattle.ur_values.specs.declared.value.Value.TheVariants as v
use Rattle.ur_values.specs.Store.{FitsBasic}

-- ---- percent-encoding (RFC 3986, section 2.1)

-- an unreserved character: a letter, a digit, or one of `-._~` (RFC 3986, section 2.3)
abbrev pub is_unreserved : ℕ → Bool
is_unreserved b = is_ascii_alphanumeric b || list_any (λ c. c == b) (codes "-._~")

-- a byte as it stands in a segment; capital digits
abbrev pub encode_byte : ℕ → List ℕ
encode_byte b = if is_unreserved b then b ∷ [] else percent_encode_byte b

abbrev pub encode : List ℕ → List ℕ
encode bytes = flat_map encode_byte bytes

-- the text that a segment decodes to; an empty segment and one that is no UTF-8 decode to none
abbrev pub decode : List ℕ → Option (List ℕ)
decode [] = None
decode (b ∷ bytes) = let text = percent_decode (b ∷ bytes) in if is_utf8 text then Some text else None

-- ---- texts of values

-- the byte is `_` or `.`
abbrev pub is_marked : ℕ → Bool
is_marked b = b == 95 || b == 46

-- a string's text: the empty string is `_`, and one that begins with `_` or `.` gets a `_` in front
abbrev pub string_text : List ℕ → List ℕ
string_text [] = codes "_"
string_text (b ∷ bytes) = if is_marked b then 95 ∷ b ∷ bytes else b ∷ bytes

abbrev pub bool_text : Bool → List ℕ
bool_text true = codes "True"
bool_text false = codes "False"

-- the text of an int, a string or a bool
abbrev pub text_of : Value → List ℕ
text_of (v.Int z) = signed_decimal z
text_of (v.Str t) = string_text t
text_of (v.Bool b) = bool_text b
text_of _ = []

-- the segment of an int, a string or a bool
abbrev pub segment : Value → List ℕ
segment x = encode (text_of x)

-- ---- values of texts

-- what follows a first `_`: nothing, or a string that begins with `_` or `.`
abbrev pub after_mark : List ℕ → Option (List ℕ)
after_mark [] = Some []
after_mark (b ∷ bytes) = if is_marked b then Some (b ∷ bytes) else None

-- the string of this text
abbrev pub string_of : List ℕ → Option (List ℕ)
string_of [] = None
string_of (b ∷ bytes) = if b == 95 then after_mark bytes else Some (b ∷ bytes)

-- an int of 64 bits
abbrev pub is_int : ℤ → Bool
is_int z = int_le (negsuc (2 ^ 63 - 1)) z && int_le z (pos (2 ^ 63 - 1))

-- the int of 64 bits whose text these bytes are
unfoldable pub int_of : List ℕ → Option ℤ
int_of text =
    let z = signed_digits_value 10 text in if is_int z && bytes_eq (signed_decimal z) text then Some z else None

abbrev pub bool_of : List ℕ → Option Bool
bool_of text = if bytes_eq text (codes "True") then Some true else (if bytes_eq text (codes "False") then Some false else None)

-- the value of the kind whose text this is; no text is a value of an optional kind
abbrev pub value_of : ColumnKind → List ℕ → Option Value
value_of kind.Int text = option_map v.Int (int_of text)
value_of kind.Str text = option_map v.Str (string_of text)
value_of kind.Bool text = option_map v.Bool (bool_of text)
value_of _ text = None

-- the value of the kind that the segment is read as
abbrev pub unsegment : ColumnKind → List ℕ → Option Value
unsegment kind bytes = option_and_then (value_of kind) (decode bytes)

-- each int of 64 bits, text and bool is read from its segment
abbrev pub SegmentsBack : Type 0
SegmentsBack = (x : Value) (kind : ColumnKind) → FitsBasic x kind → unsegment kind (segment x) ≡ Some x

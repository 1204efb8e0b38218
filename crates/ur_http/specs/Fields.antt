-- What the fields of a head say (RFC 9110, section 5), given as their names and values in order.
use Rattle.std.specs.Prelude.{ℕ, Bool, false, ◌&&◌, ◌==◌, nat_lt, List, [], ◌∷◌, length, map, filter, Option, Some, None, if◌then◌else◌, codes, take, drop}
use Rattle.std.specs.List.{flat_map, list_any, list_all, position_or_len, slice_split}
use Rattle.std.specs.Char.{is_ascii_digit}
use Rattle.std.specs.Str.{str_eq_ignore_ascii_case, is_utf8, bytes_eq}
use Rattle.std.specs.Str.Parse.{digits_value}
use Rattle.httparse.specs.Grammar.{trim_ows}
use Rattle.form_urlencoded.specs.Form.{split_once}

-- the field has this name, which is compared without regard to ASCII case (RFC 9110, section 5.1)
abbrev pub is_named : List ℕ → List ℕ × List ℕ → Bool
is_named name field = str_eq_ignore_ascii_case field.0 name

-- the values of the fields of this name
abbrev pub values_of : List ℕ → List (List ℕ × List ℕ) → List (List ℕ)
values_of name fields = map (λ f. f.1) (filter (is_named name) fields)

-- ---- the length of the body

-- one digit or more
abbrev pub is_number : List ℕ → Bool
is_number digits = nat_lt 0 (length digits) && list_all is_ascii_digit digits

-- what the values of Content-Length say: a length, or that they are malformed (RFC 9110, section 8.6)
abbrev pub length_of : List (List ℕ) → Option ℕ
length_of [] = Some 0
length_of (digits ∷ []) = if is_number digits then Some (digits_value 10 digits) else None
length_of _ = None

-- ---- closing

-- the token `close`, without regard to ASCII case
abbrev pub is_close : List ℕ → Bool
is_close piece = str_eq_ignore_ascii_case (trim_ows piece) (codes "close")

-- a Connection field with the token `close` (RFC 9112, section 9.6)
abbrev pub has_close : List ℕ × List ℕ → Bool
has_close field = is_named (codes "connection") field && list_any is_close (slice_split (λ b. b == 44) field.1)

-- ---- cookies

-- the pair of a piece with `=`, the white space around both sides cut
abbrev pub pair_of : List ℕ → List ℕ × List ℕ
pair_of piece = let pair = split_once 61 piece in (trim_ows pair.0, trim_ows pair.1)

abbrev pub is_pair : List ℕ → Bool
is_pair piece = list_any (λ b. b == 61) piece && is_utf8 piece

-- the pairs of a Cookie field's value (RFC 6265, section 4.2.1); a piece without `=` or that is no UTF-8 is passed over
unfoldable pub pairs_in : List ℕ → List (List ℕ × List ℕ)
pairs_in value = map pair_of (filter is_pair (slice_split (λ b. b == 59) value))

-- the cookies that the fields carry, in order
unfoldable pub cookies_of : List (List ℕ × List ℕ) → List (List ℕ × List ℕ)
cookies_of fields = flat_map pairs_in (values_of (codes "cookie") fields)

-- ---- the path of a target (RFC 9112, section 3.2)

-- the bytes before the first `?`
unfoldable pub before_query : List ℕ → List ℕ
before_query target = take (position_or_len (λ b. b == 63) target) target

-- the bytes after this front, where the bytes begin with it
abbrev pub after_front : List ℕ → List ℕ → Option (List ℕ)
after_front front bytes = if bytes_eq (take (length front) bytes) front then Some (drop (length front) bytes) else None

-- the path after an authority, which ends before the first slash: none where the authority is empty, and `/` where no
-- slash follows it
unfoldable pub path_after_authority : List ℕ → Option (List ℕ)
path_after_authority bytes = let authority = position_or_len (λ b. b == 47) bytes in
    if authority == 0 then None
    else (if nat_lt authority (length bytes) then Some (drop authority bytes) else Some (47 ∷ []))

-- the path of an absolute target, given what follows `http://` or `https://`
abbrev pub absolute_path : Option (List ℕ) → Option (List ℕ) → Option (List ℕ)
absolute_path (Some rest) other = path_after_authority rest
absolute_path None (Some rest) = path_after_authority rest
absolute_path None None = None

-- the path of an absolute target
unfoldable pub absolute_in : List ℕ → Option (List ℕ)
absolute_in bytes = absolute_path (after_front (codes "http://") bytes) (after_front (codes "https://") bytes)

abbrev pub begins_with_slash : List ℕ → Bool
begins_with_slash [] = false
begins_with_slash (b ∷ bytes) = b == 47

-- the path of a target without its query: one that begins with `/` is its own
unfoldable pub path_in : List ℕ → Option (List ℕ)
path_in bytes = if begins_with_slash bytes then Some bytes else absolute_in bytes

unfoldable pub target_path : List ℕ → Option (List ℕ)
target_path target = path_in (before_query target)

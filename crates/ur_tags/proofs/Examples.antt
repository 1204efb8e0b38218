-- Segments, paths and pages of worked examples.
use Rattle.std.specs.Prelude.{◌≡◌, negsuc, ◌^◌, ◌-◌, true, false, [], ◌∷◌, length, Some, None, codes, refl}
use Rattle.std.specs.Fmt.{digits}
use Rattle.std.specs.Str.{is_utf8, chars}
use lib.Utf8.{encode as utf8_encode}
use Rattle.percent_encoding.specs.Percent.{percent_encode_byte, percent_decode}
use Rattle.ur_values.specs.declared.schema.ColumnKind.TheVariants as kind
use Rattle.ur_values.specs.declared.value.Value.{Value, end_of-Node, more_of-Node, end_of-Value, more_of-Value}
use Rattle.ur_values.specs.declared.value.Value.TheVariants as v
use Rattle.ur_values.specs.declared.value.Node.TheVariants as n
use Rattle.ur_values.specs.declared.value.Tag.TheVariants as tag
use Rattle.ur_values.specs.declared.value.FieldKind.TheVariants as field
use Rattle.ur_tags.specs.declared.routes.Param.TheVariants as param
use Rattle.ur_tags.specs.declared.routes.Route.{Route}
use Rattle.ur_tags.specs.declared.routes.Handlers.{Handlers}
use Rattle.ur_tags.specs.Segments.{segment, unsegment, int_of}
use Rattle.ur_tags.specs.Paths.{path, route_path}
use Rattle.ur_tags.specs.Show.{show, show_text}

pub empty : segment (v.Str []) ≡ codes "_"
empty = refl

pub underscore : segment (v.Str (codes "_x")) ≡ codes "__x"
underscore = refl

pub dots : segment (v.Str (codes "..")) ≡ codes "_.."
dots = refl

pub slash : segment (v.Str (codes "a/b")) ≡ codes "a%2Fb"
unfolding percent_encode_byte
slash = refl

pub accent : segment (v.Str (0xC3 ∷ 0xA9 ∷ [])) ≡ codes "%C3%A9"
unfolding percent_encode_byte
accent = refl

pub slash_back : unsegment kind.Str (codes "a%2Fb") ≡ Some (v.Str (codes "a/b"))
unfolding percent_decode is_utf8 chars utf8_encode
slash_back = refl

pub accent_back : unsegment kind.Str (codes "%C3%A9") ≡ Some (v.Str (0xC3 ∷ 0xA9 ∷ []))
unfolding percent_decode is_utf8 chars utf8_encode
accent_back = refl

pub bad_underscore : unsegment kind.Str (codes "_x") ≡ None
unfolding percent_decode is_utf8 chars utf8_encode
bad_underscore = refl

pub bad_utf8 : unsegment kind.Str (codes "%FF") ≡ None
unfolding percent_decode is_utf8 chars utf8_encode
bad_utf8 = refl

pub least : unsegment kind.Int (codes "-9223372036854775808") ≡ Some (v.Int (negsuc (2 ^ 63 - 1)))
unfolding percent_decode is_utf8 chars utf8_encode int_of digits
least = refl

pub too_great : unsegment kind.Int (codes "9223372036854775808") ≡ None
unfolding percent_decode is_utf8 chars utf8_encode int_of digits
too_great = refl

pub plus : unsegment kind.Int (codes "+1") ≡ None
unfolding percent_decode is_utf8 chars utf8_encode int_of digits
plus = refl

pub leading : unsegment kind.Int (codes "01") ≡ None
unfolding percent_decode is_utf8 chars utf8_encode int_of digits
leading = refl

pub minus_zero : unsegment kind.Int (codes "-0") ≡ None
unfolding percent_decode is_utf8 chars utf8_encode int_of digits
minus_zero = refl

-- no segment is an option
pub no_option : unsegment kind.OptInt (codes "1") ≡ None
unfolding percent_decode is_utf8 chars utf8_encode
no_option = refl

-- ---- the notes

abbrev pub list_route : Route
list_route = record { module_name = codes "Main"; function_name = codes "list"; params = param.Str ∷ []; form = []; get = true; post = false }

abbrev pub add_route : Route
add_route = record {
  module_name = codes "Main";
  function_name = codes "add";
  params = param.Str ∷ [];
  get = false;
  post = true;
  form = record { number = record { 0 = 0 }; name = codes "Body"; checkbox = false } ∷ [];
}

abbrev pub notes : Handlers
notes = record { routes = list_route ∷ add_route ∷ [] }

pub list_ann : path notes (record { route = 0; args = v.Str (codes "ann") ∷ [] }) ≡ codes "/Main/list/ann"
list_ann = refl

pub list_ann_back : route_path notes (codes "/Main/list/ann") ≡ Some (record { route = 0; args = v.Str (codes "ann") ∷ [] })
unfolding percent_decode is_utf8 chars utf8_encode
list_ann_back = refl

pub no_segment : route_path notes (codes "/Main/list") ≡ None
unfolding percent_decode is_utf8 chars utf8_encode
no_segment = refl

pub empty_segment : route_path notes (codes "/Main/list/") ≡ None
unfolding percent_decode is_utf8 chars utf8_encode
empty_segment = refl

-- the page of an empty list
abbrev pub list_page : Value
list_page = v.Markup' (tt ∷ tt ∷ []) (
    more_of-Node (n.Element' tag.Head (tt ∷ []) (more_of-Node (n.Element' tag.Title (tt ∷ []) (more_of-Node (n.Text (codes "Notes")) end_of-Node)) end_of-Node))
    (more_of-Node (n.Element' tag.Body (tt ∷ tt ∷ []) (
    more_of-Node (n.Element' tag.H1 (tt ∷ []) (more_of-Node (n.Text (codes "ann")) end_of-Node))
    (more_of-Node (n.Element' tag.Form (tt ∷ tt ∷ []) (
    more_of-Node (n.Field field.Textbox (codes "Body") None)
    (more_of-Node (n.Submit' 1 (tt ∷ []) (more_of-Value (v.Str (codes "ann")) end_of-Value) (Some (codes "Add"))) end_of-Node))) end_of-Node))) end_of-Node))

pub list_page_len : length (show notes list_page) ≡ 207
list_page_len = refl

pub error_len : length (show_text (codes "Error") (codes "no")) ≡ 77
error_len = refl

pub not_found_len : length (show_text (codes "404 Not Found") (codes "404 Not Found")) ≡ 96
not_found_len = refl

pub bad_gateway_len : length (show_text (codes "502 Bad Gateway") (codes "502 Bad Gateway")) ≡ 100
bad_gateway_len = refl

pub unavailable_len : length (show_text (codes "503 Service Unavailable") (codes "503 Service Unavailable")) ≡ 116
unavailable_len = refl

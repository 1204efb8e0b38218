-- A head as a request, or the status with which it is refused.
use Rattle.std.specs.Prelude.{ℕ, Bool, ◌&&◌, ◌||◌, ◌==◌, nat_lt, List, [], length, map, Option, Some, None, if◌then◌else◌, codes, unwrap_or, is_none}
use Rattle.std.specs.Str.{bytes_eq}
use Rattle.std.specs.Str.Lossy.{utf8_lossy}
use Rattle.std.specs.List.{list_any}
use Rattle.httparse.specs.Grammar.{RequestHead}
use Rattle.httparse.specs.Spans.{name_and_value}
use Rattle.form_urlencoded.specs.Form.{raw_pairs, decode}
use Rattle.ur_http.specs.declared.request.Method.{Method}
use Rattle.ur_http.specs.declared.request.Method.TheVariants.{Get, Head, Post, Other}
use Rattle.ur_http.specs.declared.request.HttpRequest.{HttpRequest}
use Rattle.ur_http.specs.Fields.{values_of, length_of, has_close, cookies_of, target_path}

-- the greatest number of bytes of a head, of fields, and of bytes of a body
abbrev pub greatest_head : ℕ
greatest_head = 16384

abbrev pub greatest_fields : ℕ
greatest_fields = 64

abbrev pub greatest_body : ℕ
greatest_body = 1048576

-- the names and the values of the fields, in order, the white space around the values cut
abbrev pub fields_of : RequestHead → List (List ℕ × List ℕ)
fields_of h = map name_and_value h.fields

abbrev pub count_of : List ℕ → List (List ℕ × List ℕ) → ℕ
count_of name fields = length (values_of name fields)

-- no Host in HTTP/1.1, or more than one (RFC 9112, section 3.2)
unfoldable pub lacks_host : ℕ → List (List ℕ × List ℕ) → Bool
lacks_host minor fields = (count_of (codes "host") fields == 0 && minor == 1) || nat_lt 1 (count_of (codes "host") fields)

-- the status of a body's length
abbrev pub length_fault : Option ℕ → Option ℕ
length_fault None = Some 400
length_fault (Some n) = if nat_lt greatest_body n then Some 413 else None

-- what the fields say of the body's length
unfoldable pub length_in : List (List ℕ × List ℕ) → Option ℕ
length_in fields = length_of (values_of (codes "content-length") fields)

-- a body that is sent in a coding of its own (RFC 9112, section 6.1)
unfoldable pub is_coded : List (List ℕ × List ℕ) → Bool
is_coded fields = nat_lt 0 (count_of (codes "transfer-encoding") fields)

-- the first of two faults
abbrev pub or_else : Option ℕ → Option ℕ → Option ℕ
or_else (Some status) other = Some status
or_else None other = other

abbrev pub fault_where : Bool → ℕ → Option ℕ
fault_where b status = if b then Some status else None

-- the status with which a head of this target, minor version and these fields is refused: its fields are too many, its
-- Host is missing or twice, it has a Transfer-Encoding, its Content-Length is malformed or too great, or its target has
-- no path; the first of these
abbrev pub fault_in : List ℕ → ℕ → List (List ℕ × List ℕ) → Option ℕ
fault_in target minor fields =
    or_else (fault_where (nat_lt greatest_fields (length fields)) 431)
    (or_else (fault_where (lacks_host minor fields) 400)
    (or_else (fault_where (is_coded fields) 501)
    (or_else (length_fault (length_in fields))
    (fault_where (is_none (target_path target)) 400))))

unfoldable pub fault_of : RequestHead → Option ℕ
fault_of h = fault_in h.target h.minor (fields_of h)

-- the length of the body
unfoldable pub body_length : RequestHead → ℕ
body_length h = unwrap_or (length_in (fields_of h)) 0

-- the methods that are told apart (RFC 9110, section 9.1)
unfoldable pub method_of : List ℕ → Method
method_of bytes = if bytes_eq bytes (codes "GET") then Get
    else (if bytes_eq bytes (codes "HEAD") then Head else (if bytes_eq bytes (codes "POST") then Post else Other))

-- what the two sides of a form's pair stand for
abbrev pub decoded : List ℕ × List ℕ → List ℕ × List ℕ
decoded (name, value) = (utf8_lossy (decode name), utf8_lossy (decode value))

-- a form's pairs, decoded (WHATWG URL Standard, section 5.1); what is no UTF-8 becomes U+FFFD
unfoldable pub form_of : List ℕ → List (List ℕ × List ℕ)
form_of body = map decoded (raw_pairs body)

-- only a POST's body is read
unfoldable pub form_for : Method → List ℕ → List (List ℕ × List ℕ)
form_for Post body = form_of body
form_for _ body = []

-- HTTP/1.0, or the token `close`
unfoldable pub asks_to_close : ℕ → List (List ℕ × List ℕ) → Bool
asks_to_close minor fields = minor == 0 || list_any has_close fields

-- the request of these parts of a head and this body
abbrev pub request_in : List ℕ → List ℕ → ℕ → List (List ℕ × List ℕ) → List ℕ → HttpRequest
request_in method path minor fields body = record {
  method = method_of method;
  path = path;
  form = form_for (method_of method) body;
  cookies = cookies_of fields;
  close = asks_to_close minor fields;
}

-- the request of a head and its body
unfoldable pub request_of : RequestHead → List ℕ → HttpRequest
request_of h body = request_in h.method (unwrap_or (target_path h.target) []) h.minor (fields_of h) body

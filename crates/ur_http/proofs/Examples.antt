-- Heads, targets, cookies, forms and answers of worked examples.
use Rattle.std.specs.Prelude.{◌≡◌, ℕ, true, false, List, [], ◌∷◌, ◌++◌, length, Some, None, codes, refl}
use Rattle.std.specs.Fmt.{digits}
use Rattle.std.specs.Str.{is_utf8, chars}
use Rattle.std.specs.Str.Lossy.{utf8_lossy, utf8_valid_len}
use lib.Utf8.{encode as utf8_encode}
use Rattle.percent_encoding.specs.Percent.{percent_decode}
use Rattle.form_urlencoded.specs.Form.{split, raw_pairs}
use Rattle.httparse.specs.Grammar.{Field, RequestHead, crlf as crlf_end, trim_ows}
use Rattle.ur_http.specs.Fields.{target_path, before_query, path_in, absolute_in, path_after_authority, cookies_of, pairs_in}
use Rattle.ur_http.specs.Requests.{fault_of, fields_of, form_of, lacks_host, length_in, is_coded, asks_to_close}
use Rattle.ur_http.specs.Answers.{respond, first_lines, set_cookie, status_page, crlf}

abbrev pub field : List ℕ → List ℕ → Field
field name value = record { name = name; raw = 32 ∷ value; end = crlf_end }

abbrev pub head : List Field → RequestHead
head fields = record { blank = []; method = codes "GET"; target = codes "/Main/list/ann"; minor = 1; line_end = crlf_end; fields = fields; last = crlf_end }

abbrev pub host : Field
host = field (codes "Host") (codes "localhost")

pub good : fault_of (head (host ∷ [])) ≡ None
unfolding fault_of lacks_host is_coded length_in target_path before_query path_in trim_ows
good = refl

pub no_host : fault_of (head []) ≡ Some 400
unfolding fault_of lacks_host
no_host = refl

pub two_hosts : fault_of (head (host ∷ host ∷ [])) ≡ Some 400
unfolding fault_of lacks_host
two_hosts = refl

pub signed_length : fault_of (head (host ∷ field (codes "Content-Length") (codes "+5") ∷ [])) ≡ Some 400
unfolding fault_of lacks_host is_coded length_in trim_ows
signed_length = refl

pub long_body : fault_of (head (host ∷ field (codes "content-length") (codes "1048577") ∷ [])) ≡ Some 413
unfolding fault_of lacks_host is_coded length_in trim_ows
long_body = refl

pub chunked : fault_of (head (host ∷ field (codes "Transfer-Encoding") (codes "chunked") ∷ field (codes "Content-Length") (codes "5") ∷ [])) ≡ Some 501
unfolding fault_of lacks_host is_coded
chunked = refl

pub absolute : target_path (codes "http://localhost") ≡ Some (codes "/")
unfolding target_path before_query path_in absolute_in path_after_authority
absolute = refl

pub absolute_with_path : target_path (codes "https://h/a?b") ≡ Some (codes "/a")
unfolding target_path before_query path_in absolute_in path_after_authority
absolute_with_path = refl

pub no_authority : target_path (codes "http:///a") ≡ None
unfolding target_path before_query path_in absolute_in path_after_authority
no_authority = refl

pub star : target_path (codes "*") ≡ None
unfolding target_path before_query path_in absolute_in path_after_authority
star = refl

pub cookies : cookies_of ((codes "Cookie", codes "a=1; Main.seen = 3;b") ∷ []) ≡ (codes "a", codes "1") ∷ (codes "Main.seen", codes "3") ∷ []
unfolding cookies_of pairs_in trim_ows is_utf8 chars utf8_encode
cookies = refl

pub closes : asks_to_close 1 (fields_of (head (host ∷ field (codes "connection") (codes "keep-alive, Close") ∷ []))) ≡ true
unfolding trim_ows asks_to_close
closes = refl

pub form : form_of (codes "Body=a%26b") ≡ (codes "Body", codes "a&b") ∷ []
unfolding form_of raw_pairs split percent_decode utf8_lossy utf8_valid_len is_utf8 chars utf8_encode
form = refl

pub bad_gateway_len : length (status_page 502) ≡ 100
unfolding digits
bad_gateway_len = refl

pub head_alone : respond 200 [] [] (codes "ab") true false
    ≡ codes "HTTP/1.1 200 OK" ++ crlf ++ codes "Content-Type: text/html; charset=utf-8" ++ crlf ++ codes "Content-Length: 2" ++ crlf ++ crlf
unfolding digits respond first_lines
head_alone = refl

pub with_cookie : respond 200 [] ((codes "Main.seen", codes "3") ∷ []) [] false true
    ≡ codes "HTTP/1.1 200 OK" ++ crlf ++ codes "Content-Type: text/html; charset=utf-8" ++ crlf ++ codes "Content-Length: 0" ++ crlf
    ++ codes "Set-Cookie: Main.seen=3; Path=/" ++ crlf ++ codes "Connection: close" ++ crlf ++ crlf
unfolding digits respond first_lines set_cookie
with_cookie = refl

-- A whole request's bytes, and the item that they are.
use Rattle.std.specs.Prelude.{◌≡◌, ℕ, List, [], ◌∷◌, ◌++◌, codes, refl, false}
use Rattle.std.proofs.Common.{lit≤}
use Rattle.httparse.specs.Grammar.{RequestHead, IsRequestHead, print_request, crlf as crlf_end, trim_ows}
use Rattle.ur_http.specs.declared.request.HttpRequest.{HttpRequest}
use Rattle.ur_http.specs.declared.request.Method.TheVariants.{Get}
use Rattle.ur_http.specs.Answers.{crlf}
use Rattle.ur_http.specs.Fields.{target_path, before_query, path_in, cookies_of, pairs_in}
use Rattle.ur_http.specs.Requests.{request_of, method_of, form_for, form_of, asks_to_close, fault_of, lacks_host, length_in, is_coded, body_length}
use Rattle.ur_http.specs.Items.{Begins, BeginsWith, window, Items, at_end, request}

abbrev pub bytes : List ℕ
bytes = codes "GET /a HTTP/1.1" ++ crlf ++ codes "Host: h" ++ crlf ++ crlf

abbrev pub head : RequestHead
head = record {
  blank = [];
  method = codes "GET";
  target = codes "/a";
  minor = 1;
  line_end = crlf_end;
  fields = record { name = codes "Host"; raw = codes " h"; end = crlf_end } ∷ [];
  last = crlf_end;
}

abbrev pub asked : HttpRequest
asked = record { method = Get; path = codes "/a"; form = []; cookies = []; close = false }

pub begins : IsRequestHead head → Begins bytes (request (request_of head []) [])
unfolding print_request BeginsWith window fault_of lacks_host is_coded length_in target_path before_query path_in body_length
begins is_head = Begins.whole head [] (([], (is_head, refl)), refl) refl (lit≤ tt)

pub is_asked : request_of head [] ≡ asked
unfolding request_of method_of form_for form_of asks_to_close target_path before_query path_in cookies_of pairs_in trim_ows
is_asked = refl

pub items : IsRequestHead head → Items bytes (request_of head [] ∷ []) at_end
items is_head = Items.next bytes [] (request_of head []) [] at_end (begins is_head) Items.none

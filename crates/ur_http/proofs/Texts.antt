-- What bytes begin with, where it is a request, is text.
use Rattle.std.proofs.Common.{◌≡◌, ℕ, ◌+◌, ◌<◌, ◌≤◌, nat_lt, ◌==◌, ◌&&◌, not, Bool, true, false, List, [], ◌∷◌, ◌++◌, length, take, drop, get_or, filter, reverse, Option, Some, None, unwrap_or, refl, sym, ap, subst, ◌∙◌, arith, codes, if◌then◌else◌}
use Rattle.std.specs.Prelude.{All}
use Rattle.std.specs.List.{flat_map, position_or_len, slice_split, list_any}
use Rattle.std.specs.Str.{IsUtf8, is_utf8, bytes_eq, IsCharBoundary}
use Rattle.std.proofs.Math.Seq.{take-append_seam}
use Rattle.std.proofs.lemmas.List.{reverse-append, reverse-reverse, take-append-drop, drop_all}
use Rattle.std.proofs.lemmas.List.Elements.{All-nil, All-append, All-map, All-weaker, filter_passes}
use Rattle.std.proofs.lemmas.List.Sums.{passes_at_first, prefix_len-le-length}
use Rattle.std.proofs.lemmas.Str.{IsUtf8-take, IsUtf8-drop, IsUtf8-nil, IsUtf8-past_char, IsUtf8-from_is_utf8, IsCharBoundary-end, IsCharBoundary-before_ascii, IsCharBoundary-after_ascii, IsCharBoundary-at_seam, encode_ascii}
use Rattle.std.proofs.lemmas.Bool.Decides.{nat_tests}
use Rattle.std.proofs.lemmas.Slice.Eq.{bytes_eq-Decides}
use Rattle.form_urlencoded.specs.Form.{raw_pairs, decode}
use Rattle.httparse.specs.Grammar.{is_ows, skip_ows, trim_ows}
use Rattle.ur_http.specs.declared.request.HttpRequest.{HttpRequest}
use Rattle.ur_http.specs.declared.request.Method.{Method}
use Rattle.ur_http.specs.declared.request.Method.TheVariants.{Get, Head, Post, Other}
use Rattle.ur_http.specs.Fields.{values_of, cookies_of, pairs_in, pair_of, is_pair, before_query, path_after_authority, after_front, absolute_path, absolute_in, path_in, begins_with_slash, target_path}
use Rattle.ur_http.specs.Requests.{fields_of, decoded, form_of, form_for, request_of}
use Rattle.ur_http.specs.Items.{BeginsWith, Step, request, more, fault, Begins}
use Rattle.ur_http.specs.Texts.{IsTextPair, IsText}
use Rattle.ur_http.proofs.Lossy.{lossy_text}

-- ---- texts that are cut at an ASCII byte

-- behind ASCII bytes
abbrev AreAscii : List ℕ → Type 0
AreAscii [] = Unit {0}
AreAscii (b ∷ bytes) = (b < 128) × AreAscii bytes

behind : (front rest : List ℕ) → AreAscii front → IsUtf8 (front ++ rest) → IsUtf8 rest
behind [] rest h u = u
behind (b ∷ front) rest h u = behind front rest h.1 (IsUtf8-past_char (b ∷ (front ++ rest)) (front ++ rest) b u (sym (ap (λ c. c ++ (front ++ rest)) (encode_ascii b h.0))))

one_text : (b : ℕ) → b < 128 → IsUtf8 (b ∷ [])
one_text b h = (b ∷ [], (grind (arith, nat_tests, h), ap (λ c. c ++ []) (encode_ascii b h)))

ahead : (front : List ℕ) (b : ℕ) → b < 128 → IsUtf8 (front ++ b ∷ []) → IsUtf8 front
ahead front b h u = subst IsUtf8 (take-append_seam front (b ∷ []))
    (IsUtf8-take (front ++ b ∷ []) (length front) u (IsCharBoundary-at_seam (front ++ b ∷ []) front (b ∷ []) refl (one_text b h)))

-- the sides of a separator
abbrev place : ℕ → List ℕ → ℕ
place c bytes = position_or_len (λ b. b == c) bytes

place_le : (c : ℕ) (bytes : List ℕ) → place c bytes ≤ length bytes
place_le c bytes = prefix_len-le-length (λ b. not (b == c)) bytes

at_separator : (c : ℕ) (bytes : List ℕ) → c < 128 → place c bytes < length bytes → get_or bytes (place c bytes) 0 < 128
at_separator c bytes h within = let e = passes_at_first (λ b. b == c) bytes 0 within in grind (arith, nat_tests, e, h)

boundary : (c : ℕ) (bytes : List ℕ) → c < 128 → IsCharBoundary bytes (place c bytes)
boundary c bytes h = by (nat_lt (place c bytes) (length bytes)) refl where
  by : (v : Bool) → nat_lt (place c bytes) (length bytes) ≡ v → IsCharBoundary bytes (place c bytes)
  by true e = let within : place c bytes < length bytes = grind (arith, nat_tests, e) in IsCharBoundary-before_ascii bytes (place c bytes) within (at_separator c bytes h within)
  by false e =
      let within = place_le c bytes in
      let last : length bytes ≡ place c bytes = grind (arith, nat_tests, e) in
      subst (IsCharBoundary bytes) last (IsCharBoundary-end bytes)

before : (c : ℕ) (bytes : List ℕ) → c < 128 → IsUtf8 bytes → IsUtf8 (take (place c bytes) bytes)
before c bytes h u = IsUtf8-take bytes (place c bytes) u (boundary c bytes h)

from : (c : ℕ) (bytes : List ℕ) → c < 128 → IsUtf8 bytes → IsUtf8 (drop (place c bytes) bytes)
from c bytes h u = IsUtf8-drop bytes (place c bytes) u (boundary c bytes h)

past : (c : ℕ) (bytes : List ℕ) → c < 128 → IsUtf8 bytes → IsUtf8 (drop (place c bytes + 1) bytes)
past c bytes h u = by (nat_lt (place c bytes) (length bytes)) refl where
  by : (v : Bool) → nat_lt (place c bytes) (length bytes) ≡ v → IsUtf8 (drop (place c bytes + 1) bytes)
  by true e =
      let within : place c bytes < length bytes = grind (arith, nat_tests, e) in
      IsUtf8-drop bytes (place c bytes + 1) u (IsCharBoundary-after_ascii bytes (place c bytes) u within (at_separator c bytes h within))
  by false e =
      let last : length bytes ≤ place c bytes + 1 = grind (arith, nat_tests, e) in
      subst IsUtf8 (sym (drop_all (place c bytes + 1) bytes last)) IsUtf8-nil

-- ---- white space

ows_is_ascii : (b : ℕ) → is_ows b ≡ true → b < 128
ows_is_ascii b e = grind (arith, nat_tests, e)

skip_text : (bytes : List ℕ) → IsUtf8 bytes → IsUtf8 (skip_ows bytes)
skip_text [] u = u
skip_text (b ∷ bytes) u = by (is_ows b) refl (skip_text bytes) where
  by : (v : Bool) → is_ows b ≡ v → (IsUtf8 bytes → IsUtf8 (skip_ows bytes)) → IsUtf8 (skip_ows (b ∷ bytes))
  by true e later = rw e (later (behind (b ∷ []) bytes (ows_is_ascii b e, tt) u))
  by false e later = rw e u

skip_back : (bytes : List ℕ) → IsUtf8 (reverse bytes) → IsUtf8 (reverse (skip_ows bytes))
skip_back [] u = u
skip_back (b ∷ bytes) u = by (is_ows b) refl (skip_back bytes) where
  by : (v : Bool) → is_ows b ≡ v → (IsUtf8 (reverse bytes) → IsUtf8 (reverse (skip_ows bytes))) → IsUtf8 (reverse (skip_ows (b ∷ bytes)))
  by true e later = rw e (later (ahead (reverse bytes) b (ows_is_ascii b e) (subst IsUtf8 (reverse-append (b ∷ []) bytes) u)))
  by false e later = rw e u

trim_text : (bytes : List ℕ) → IsUtf8 bytes → IsUtf8 (trim_ows bytes)
unfolding trim_ows
trim_text bytes u = skip_back (reverse (skip_ows bytes)) (subst IsUtf8 (sym (reverse-reverse (skip_ows bytes))) (skip_text bytes u))

-- ---- cookies

pair_text : (piece : List ℕ) → is_pair piece ≡ true → IsTextPair (pair_of piece)
pair_text piece e =
    let u = IsUtf8-from_is_utf8 piece (second (list_any (λ b. b == 61) piece) (is_utf8 piece) e) in
    (trim_text (take (place 61 piece) piece) (before 61 piece (omega arith) u), trim_text (drop (place 61 piece + 1) piece) (past 61 piece (omega arith) u))
  where
    second : (a b : Bool) → (a && b) ≡ true → b ≡ true
    second true b e = e
    second false b e = absurd (cc)

pairs_text : (value : List ℕ) → All IsTextPair (pairs_in value)
unfolding pairs_in
pairs_text value = let pieces = filter is_pair (slice_split (λ b. b == 59) value) in
    All-map IsTextPair pair_of pieces (All-weaker (λ piece. is_pair piece ≡ true) (λ piece. IsTextPair (pair_of piece)) pair_text pieces (filter_passes is_pair (slice_split (λ b. b == 59) value)))

all_pairs_text : (values : List (List ℕ)) → All IsTextPair (flat_map pairs_in values)
all_pairs_text [] = All-nil IsTextPair
all_pairs_text (value ∷ values) = All-append IsTextPair (pairs_in value) (flat_map pairs_in values) (pairs_text value) (all_pairs_text values)

cookies_text : (fields : List (List ℕ × List ℕ)) → All IsTextPair (cookies_of fields)
unfolding cookies_of
cookies_text fields = all_pairs_text (values_of (codes "cookie") fields)

-- ---- forms

decoded_text : (pair : List ℕ × List ℕ) → IsTextPair (decoded pair)
decoded_text (name, value) = (lossy_text (decode name), lossy_text (decode value))

form_text : (body : List ℕ) → All IsTextPair (form_of body)
unfolding form_of
form_text body = All-map IsTextPair decoded (raw_pairs body) (λ k d within. decoded_text (get_or (raw_pairs body) k d))

form_for_text : (method : Method) (body : List ℕ) → All IsTextPair (form_for method body)
unfolding form_for
form_for_text Post body = form_text body
form_for_text Get body = All-nil IsTextPair
form_for_text Head body = All-nil IsTextPair
form_for_text Other body = All-nil IsTextPair

-- ---- paths

abbrev IsTextPath : Option (List ℕ) → Type 0
IsTextPath None = Unit {0}
IsTextPath (Some path) = IsUtf8 path

by_test : (v : Bool) (a b : Option (List ℕ)) → (v ≡ true → IsTextPath a) → (v ≡ false → IsTextPath b) → IsTextPath (if v then a else b)
by_test true a b h k = h refl
by_test false a b h k = k refl

authority_text : (bytes : List ℕ) → IsUtf8 bytes → IsTextPath (path_after_authority bytes)
unfolding path_after_authority
authority_text bytes u =
    by_test (place 47 bytes == 0) None _ (λ _. tt)
    (λ _. by_test (nat_lt (place 47 bytes) (length bytes)) (Some (drop (place 47 bytes) bytes)) (Some (47 ∷ [])) (λ _. from 47 bytes (omega arith) u) (λ _. one_text 47 (omega arith)))

front_is : (front bytes : List ℕ) → bytes_eq (take (length front) bytes) front ≡ true → take (length front) bytes ≡ front
front_is front bytes e = (bytes_eq-Decides (take (length front) bytes) front).0 e

front_text : (front bytes : List ℕ) → AreAscii front → IsUtf8 bytes → IsTextPath (after_front front bytes)
front_text front bytes h u =
    by_test (bytes_eq (take (length front) bytes) front) (Some (drop (length front) bytes)) None
    (λ e. behind front (drop (length front) bytes) h
    (subst IsUtf8 (sym (ap (λ t. t ++ drop (length front) bytes) (sym (front_is front bytes e)) ∙ take-append-drop (length front) bytes)) u))
    (λ _. tt)

absolute_path_text : (a b : Option (List ℕ)) → IsTextPath a → IsTextPath b → IsTextPath (absolute_path a b)
absolute_path_text (Some rest) b h k = authority_text rest h
absolute_path_text None (Some rest) h k = authority_text rest k
absolute_path_text None None h k = tt

absolute_text : (bytes : List ℕ) → IsUtf8 bytes → IsTextPath (absolute_in bytes)
unfolding absolute_in
absolute_text bytes u = absolute_path_text (after_front (codes "http://") bytes) (after_front (codes "https://") bytes)
    (front_text (codes "http://") bytes (grind arith) u) (front_text (codes "https://") bytes (grind arith) u)

path_in_text : (bytes : List ℕ) → IsUtf8 bytes → IsTextPath (path_in bytes)
unfolding path_in
path_in_text bytes u = by_test (begins_with_slash bytes) (Some bytes) (absolute_in bytes) (λ _. u) (λ _. absolute_text bytes u)

query_text : (target : List ℕ) → IsUtf8 target → IsUtf8 (before_query target)
unfolding before_query
query_text target u = before 63 target (omega arith) u

path_text : (target : List ℕ) → IsUtf8 target → IsTextPath (target_path target)
unfolding target_path
path_text target u = path_in_text (before_query target) (query_text target u)

path_or_none : (o : Option (List ℕ)) → IsTextPath o → IsUtf8 (unwrap_or o [])
path_or_none None h = IsUtf8-nil
path_or_none (Some path) h = h

-- ---- requests

abbrev IsTextStep : Step → Type 0
IsTextStep (request q rest) = IsText q
IsTextStep more = Unit {0}
IsTextStep (fault status) = Unit {0}

step_text : (bytes : List ℕ) (s : Step) → Begins bytes s → IsTextStep s
unfolding request_of BeginsWith
step_text bytes _ (Begins.whole h rest b good fits) = record {
  path = path_or_none (target_path h.target) (path_text h.target b.0.1.0.target_text);
  forms = form_for_text _ _;
  cookied = cookies_text (fields_of h);
}
step_text bytes _ (Begins.refused h rest status b is) = tt
step_text bytes _ (Begins.no_body h rest b good short) = tt
step_text bytes _ (Begins.malformed never) = tt
step_text bytes _ (Begins.too_long may full) = tt
step_text bytes _ (Begins.no_head may short) = tt

-- a request that bytes begin with is text
pub begun_text : (bytes : List ℕ) (q : HttpRequest) (rest : List ℕ) → Begins bytes (request q rest) → IsText q
begun_text bytes q rest x = step_text bytes (request q rest) x

-- What bytes begin with, from what was read of their window.
use Rattle.std.proofs.Common.{◌≡◌, ◌≢◌, ℕ, ◌+◌, ◌<◌, ◌≤◌, ◌==◌, ◌||◌, false, List, [], ◌∷◌, ◌++◌, length, take, drop, map, Option, Some, None, unwrap_or, refl, sym, ap, subst, ◌∙◌, arith, ◌*◌, ◌-◌, suc, zero, min, length-drop, length-append}
use Rattle.std.proofs.lemmas.Bool.Decides.{nat_tests}
use Rattle.std.specs.List.{flat_map, All}
use Rattle.std.proofs.lemmas.List.{drop-drop}
use Rattle.std.proofs.Math.Seq.{take-nil}
use Rattle.httparse.specs.declared.Error.{Error}
use Rattle.httparse.specs.declared.Error.TheVariants.{HeaderName, HeaderValue, NewLine, Status, Token, TooManyHeaders, Version}
use Rattle.httparse.specs.Grammar.{RequestHead, print_request, ReadsRequest, Field, IsField, print_field, print_end, LineEnd, crlf, lf}
use Rattle.httparse.specs.Spans.{RequestExceeds}
use Rattle.httparse.proofs.GrammarLemmas.{print_request-append}
use Rattle.httparse.specs.Spans.{IsRequestAt, span_bytes, header_bytes}
use Rattle.httparse.specs.declared.spans.HeaderSpan.{HeaderSpan}
use Rattle.httparse.specs.declared.spans.RequestSpans.{RequestSpans}
use Rattle.ur_http.specs.declared.request.HttpRequest.{HttpRequest}
use Rattle.ur_http.specs.declared.starts.Begun.TheVariants as begun
use Rattle.ur_http.specs.Fields.{target_path}
use Rattle.ur_http.specs.Requests.{fault_of, fault_in, body_length, length_in, request_of, request_in, fields_of}
use Rattle.ur_http.specs.Items.{window, whole_lines, BeginsWith, Begins, request}
use Rattle.ur_http.specs.Reading.{IsBegun}
use Rattle.ur_http.proofs.Windows.{whole_lines_same, whole_lines_front, window_front, ended}

-- ---- the last line end

pub last_yes : (left rest : List ℕ) (last : ℕ) → left ≡ rest ++ last ∷ [] → last ≡ 10 → whole_lines left ≡ left
last_yes left rest last is line = let e = is ∙ ap (λ b. rest ++ b ∷ []) line in ap whole_lines e ∙ ended rest ∙ sym e

pub last_no : (left rest : List ℕ) (last : ℕ) → left ≡ rest ++ last ∷ [] → last ≢ 10 → whole_lines rest ≡ whole_lines left
last_no left rest last is other =
    let test : (last == 10) ≡ false = grind (arith, nat_tests) in
    sym (ap whole_lines is ∙ whole_lines_same rest (last ∷ []) (ap (λ v. v || false) test))

-- ---- a head

module _ (bytes text : List ℕ) (headers : List HeaderSpan) (r : RequestSpans) (h : RequestHead) (text_is : text ≡ window bytes) (at : IsRequestAt text headers r h) where
  pub begins_at : BeginsWith bytes h (drop r.len bytes)
  unfolding BeginsWith
  begins_at = ((drop r.len text, subst (λ t. ReadsRequest t h (drop r.len text)) text_is at.reads), ap (λ n. drop n bytes) at.len)

  pub fields_at_are : (fields : List (List ℕ × List ℕ)) → fields ≡ map (header_bytes text) (take r.headers headers) → fields ≡ fields_of h
  fields_at_are fields is = is ∙ at.fields

  pub fault_at : (fields : List (List ℕ × List ℕ)) (target : List ℕ) (o : Option ℕ) → fields ≡ map (header_bytes text) (take r.headers headers)
      → target ≡ span_bytes text r.path → fault_in target r.version fields ≡ o → fault_of h ≡ o
  unfolding fault_of
  fault_at fields target o is path found =
      sym (ap (λ t. fault_in t r.version fields) (path ∙ at.path) ∙ ap (λ m. fault_in h.target m fields) at.version ∙ ap (λ f. fault_in h.target h.minor f) (fields_at_are fields is))
      ∙ found

  pub length_at : (fields : List (List ℕ × List ℕ)) (n : ℕ) → fields ≡ map (header_bytes text) (take r.headers headers) → length_in fields ≡ Some n → body_length h ≡ n
  unfolding body_length
  length_at fields n is found = ap (λ o. unwrap_or o 0) (ap length_in (sym (fields_at_are fields is)) ∙ found)

  pub refused_at : (status : ℕ) → fault_of h ≡ Some status → IsBegun bytes (begun.Fault status)
  refused_at status is = Begins.refused h (drop r.len bytes) status begins_at is

  pub waits_at : (n total : ℕ) → fault_of h ≡ None → body_length h ≡ n → length (drop r.len bytes) < n → total ≡ r.len + n → IsBegun bytes (begun.Waits total)
  waits_at n total good is short sum = (
    Begins.no_body h (drop r.len bytes) begins_at good (subst (λ k. length (drop r.len bytes) < k) (sym is) short),
    (h, drop r.len bytes, begins_at, good, sum ∙ ap (λ k. k + n) at.len ∙ ap (λ k. length (print_request h) + k) (sym is)),
  )

  pub whole_at : (fields : List (List ℕ × List ℕ)) (target method path body : List ℕ) (n total : ℕ) (made : HttpRequest)
      → fields ≡ map (header_bytes text) (take r.headers headers) → target ≡ span_bytes text r.path → method ≡ span_bytes text r.method
      → fault_of h ≡ None → body_length h ≡ n → target_path target ≡ Some path
      → body ≡ take n (drop r.len bytes) → made ≡ request_in method path r.version fields body
      → n ≤ length (drop r.len bytes) → r.len ≤ length bytes → total ≡ r.len + n → IsBegun bytes (begun.Request made total)
  unfolding request_of
  whole_at fields target method path body n total made is target_is method_is good length_is path_is body_is made_is fits within sum =
      let w = Begins.whole h (drop r.len bytes) begins_at good (subst (λ k. k ≤ length (drop r.len bytes)) (sym length_is) fits) in
      let as_made : request_of h (take (body_length h) (drop r.len bytes)) ≡ made =
      ap (λ b. request_in h.method (unwrap_or (target_path h.target) []) h.minor (fields_of h) b) (ap (λ k. take k (drop r.len bytes)) length_is ∙ sym body_is)
      ∙ ap (λ m. request_in m (unwrap_or (target_path h.target) []) h.minor (fields_of h) body) (sym at.method ∙ sym method_is)
      ∙ ap (λ p. request_in method p h.minor (fields_of h) body) (ap (λ o. unwrap_or o []) (ap target_path (sym at.path ∙ sym target_is) ∙ path_is))
      ∙ ap (λ m. request_in method path m (fields_of h) body) (sym at.version)
      ∙ ap (λ f. request_in method path r.version f body) (sym (fields_at_are fields is)) ∙ sym made_is in
      let as_rest : drop (body_length h) (drop r.len bytes) ≡ drop total bytes = drop-drop (body_length h) r.len bytes ∙ ap (λ k. drop k bytes) (ap (λ k. r.len + k) length_is ∙ sym sum) in (
        subst (λ q. Begins bytes (request q (drop total bytes))) as_made
            (subst (λ t. Begins bytes (request (request_of h (take (body_length h) (drop r.len bytes))) t)) as_rest w),
        (let l : length (drop r.len bytes) ≡ length bytes - r.len = length-drop r.len bytes in omega arith),
      )

-- ---- the window

pub take_min : (bytes : List ℕ) (n : ℕ) → take (min (length bytes) n) bytes ≡ take n bytes
take_min [] n = take-nil (min 0 n) ∙ sym (take-nil n)
take_min (b ∷ bytes) zero = let e : min (length (b ∷ bytes)) 0 ≡ 0 = omega arith in rw e refl
take_min (b ∷ bytes) (suc n) =
    let e : min (length (b ∷ bytes)) (suc n) ≡ suc (min (length bytes) n) = omega arith in rw e (ap (λ t. b ∷ t) (take_min bytes n))

pub window_within : (bytes : List ℕ) → length (window bytes) ≤ length bytes
window_within bytes =
    let (rest, front) = window_front bytes in
    let l : length bytes ≡ length (window bytes) + length rest = ap length front ∙ length-append (window bytes) rest in
    omega arith

pub whole_lines_within : (bytes : List ℕ) → length (whole_lines bytes) ≤ length bytes
whole_lines_within bytes =
    let (rest, front) = whole_lines_front bytes in
    let l : length bytes ≡ length (whole_lines bytes) + length rest = ap length front ∙ length-append (whole_lines bytes) rest in
    omega arith

-- ---- room for the fields

end_long : (end : LineEnd) → 1 ≤ length (print_end end)
end_long crlf = omega arith
end_long lf = omega arith

field_long : (f : Field) → IsField f → 3 ≤ length (print_field f)
field_long f is =
    let name = is.name.0 in
    let last = end_long f.end in
    let l : length (f.raw ++ print_end f.end) ≡ length f.raw + length (print_end f.end) = length-append f.raw (print_end f.end) in
    simp length-append (omega arith)

one_longer : (a b n : ℕ) → 3 ≤ a → 3 * n ≤ b → 3 * suc n ≤ a + b
one_longer a b n one others = omega arith

fields_long : (fs : List Field) → All IsField fs → 3 * length fs ≤ length (flat_map print_field fs)
fields_long [] all = omega arith
fields_long (f ∷ fs) all =
    let one = field_long f (all 0 f (omega arith)) in
    let others = fields_long fs (λ k d within. all (suc k) d (omega (arith, within))) in
    subst (λ n. 3 * length (f ∷ fs) ≤ n) (sym (length-append (print_field f) (flat_map print_field fs)))
    (one_longer (length (print_field f)) (length (flat_map print_field fs)) (length fs) one others)

pub fields_fit : (text : List ℕ) (room : ℕ) → length text ≤ 16384 → 16384 < 3 * room → RequestExceeds room text → ⊥
fields_fit text room short great (front, rest, is, h, reads, over) =
    let fields = fields_long h.fields reads.0.fields in
    let last = end_long h.last in
    let l : length text ≡ length front + length rest = ap length is ∙ length-append front rest in
    let m = ap length (reads.1 ∙ print_request-append h []) in
    let k = simp length-append at m in
    omega arith

pub never_at : (e : Error) {N : Type 0} → (e ≢ TooManyHeaders → N) → (e ≡ TooManyHeaders → ⊥) → N
never_at HeaderName other many = other (λ x. cc)
never_at HeaderValue other many = other (λ x. cc)
never_at NewLine other many = other (λ x. cc)
never_at Status other many = other (λ x. cc)
never_at Token other many = other (λ x. cc)
never_at TooManyHeaders other many = absurd (many refl)
never_at Version other many = other (λ x. cc)

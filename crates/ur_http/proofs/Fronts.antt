-- Lines of a head that is still sought: empty lines, and a request line and fields without the empty line after them.
use Rattle.std.proofs.Common.{◌≡◌, ℕ, ◌<◌, ◌≤◌, inl, true, false, bytes_eq, List, [], ◌∷◌, ◌++◌, length, take, drop, refl, sym, ap, subst, ◌∙◌, append_assoc, append-nil, arith, length-append}
use Rattle.std.specs.List.{list_any}
use Rattle.std.proofs.lemmas.List.{append_cancel_right, drop_all, take_all, take-append-drop, flat_map_more}
use Rattle.std.proofs.Math.Seq.{drop-append_seam}
use Rattle.std.proofs.lemmas.Slice.Eq.{bytes_eq-Decides}
use Rattle.std.proofs.lemmas.List.Elements.{All-append}
use Rattle.std.proofs.lemmas.Grind.{flat_map-append}
use Rattle.httparse.specs.Grammar.{LineEnd, crlf, lf, print_end, print_blank, IsField, print_field, RequestHead, print_request, ReadsRequest, HasNoRequest}
use Rattle.httparse.proofs.GrammarLemmas.{request_unique, ReadsRequest-append, print_request-append, cons-append}
use Rattle.httparse.proofs.PieceLemmas.{Blank_deterministic, Stops_token}
use Rattle.httparse.proofs.OpenLemmas.{request_may_from_line, line_blank}
use Rattle.ur_http.specs.declared.sought.Known.TheVariants as known
use Rattle.ur_http.specs.Items.{window, MayBegin, Begins, more}
use Rattle.ur_http.specs.Buffers.{AreEmptyLines, AreFields, IsFront, front_of, IsKnown}
use Rattle.ur_http.proofs.Windows.{is_line_feed, window-append}
use Rattle.ur_http.proofs.Buffered.{same_window}
use Rattle.ur_http.proofs.Once.{may_begin}

-- ---- the empty line after lines

last_same : (a b : List ℕ) (x y : ℕ) → a ++ x ∷ [] ≡ b ++ y ∷ [] → x ≡ y
last_same [] [] x y e = cc
last_same [] (c ∷ b) x y e = absurd (let l = ap length e in let m = simp length-append at l in omega arith)
last_same (c ∷ a) [] x y e = absurd (let l = ap length e in let m = simp length-append at l in omega arith)
last_same (c ∷ a) (d ∷ b) x y e = last_same a b x y (cc)

-- lines that end in a line end, and one more, end in an empty line of one byte
closed_by : (front p : List ℕ) (last : LineEnd) → (front ++ 10 ∷ []) ++ 10 ∷ [] ≡ p ++ print_end last → front ++ 10 ∷ [] ≡ p
closed_by front p lf e = append_cancel_right (front ++ 10 ∷ []) p (10 ∷ []) e
closed_by front p crlf e =
    let one : front ++ 10 ∷ [] ≡ p ++ 13 ∷ [] = append_cancel_right (front ++ 10 ∷ []) (p ++ 13 ∷ []) (10 ∷ []) (e ∙ sym (append_assoc p (13 ∷ []) (10 ∷ []))) in
    let same = last_same front p 10 13 one in
    absurd (omega arith)

print_front : (h : RequestHead) → print_request h ≡ front_of h ++ print_end h.last
unfolding print_request
print_front h = simp (append_assoc, cons-append)

pub front_from : (lines closed front : List ℕ) (h : RequestHead) → closed ≡ lines ++ 10 ∷ [] → lines ≡ front ++ 10 ∷ [] → ReadsRequest closed h [] → IsFront lines
front_from lines closed front h is ends (good, reads) =
    let e : (front ++ 10 ∷ []) ++ 10 ∷ [] ≡ front_of h ++ print_end h.last =
    ap (λ t. t ++ 10 ∷ []) (sym ends) ∙ sym is ∙ reads ∙ append-nil (print_request h) ∙ print_front h in
    (h, good, ends ∙ closed_by front (front_of h) h.last e)

-- ---- lines that grow

pub front_grows : (lines new : List ℕ) → IsFront lines → AreFields new → IsFront (lines ++ new)
front_grows lines new (h, good, is) (fields, all, also) = (
  record {
    blank = h.blank;
    method = h.method;
    target = h.target;
    minor = h.minor;
    line_end = h.line_end;
    fields = h.fields ++ fields;
    last = h.last;
  },
  record {
    method = good.method;
    target = good.target;
    target_text = good.target_text;
    minor = good.minor;
    fields = All-append IsField h.fields fields good.fields all;
  },
  rw (is, also, flat_map-append print_field h.fields fields) (simp (append_assoc, cons-append)),
)

pub empty_grows : (lines new : List ℕ) → AreEmptyLines lines → AreEmptyLines new → AreEmptyLines (lines ++ new)
empty_grows lines new (ends, is) (others, also) = (ends ++ others, rw (is, also) (sym (flat_map-append print_end ends others)))

-- ---- bytes that may still become a head

no_head_in_empty : (ends : List LineEnd) → HasNoRequest (print_blank ends)
no_head_in_empty ends h rest x =
    let y = ReadsRequest-append (print_blank ends) h rest (65 ∷ []) x in
    let e = y.1 ∙ print_request-append h (rest ++ 65 ∷ []) in
    let same = Blank_deterministic.unique ends h.blank (print_blank ends ++ 65 ∷ []) (65 ∷ []) _ (refl, refl) (e, Stops_token h.method _ y.0.method.0 y.0.method.1) in
    let l = ap length same.1 in
    let m = simp length-append at l in
    let some = y.0.method.0 in
    omega arith

pub empty_may : (bytes : List ℕ) → AreEmptyLines (window bytes) → MayBegin bytes
empty_may bytes (ends, is) =
    may_begin bytes (subst HasNoRequest (sym is) (no_head_in_empty ends))
    (rw is (request_may_from_line (inl (line_blank (record { more = []; tree = ends; reads = λ rest. refl })))))

pub front_may : (bytes : List ℕ) → IsFront (window bytes) → MayBegin bytes
unfolding MayBegin
front_may bytes (h, good, is) =
    let closed : ReadsRequest (window bytes ++ print_end h.last) h [] =
    (good, ap (λ t. t ++ print_end h.last) is ∙ sym (print_front h) ∙ sym (append-nil (print_request h))) in (
      λ k rest y.
          let same = request_unique (window bytes ++ print_end h.last) k h (rest ++ print_end h.last) [] (ReadsRequest-append (window bytes) k rest (print_end h.last) y) closed in
          no_end h.last rest same.1,
      λ never. never (print_end h.last) h [] closed,
    )
  where
    no_end : (end : LineEnd) (rest : List ℕ) → rest ++ print_end end ≡ [] → ⊥
    no_end lf rest e = let l = ap length e in let m = simp length-append at l in omega arith
    no_end crlf rest e = let l = ap length e in let m = simp length-append at l in omega arith

-- ---- what is known

pub all_of : (bytes : List ℕ) → take (length bytes) bytes ≡ bytes
all_of bytes = take_all (length bytes) bytes (omega arith)

pub now_empty : (bytes : List ℕ) → AreEmptyLines (window bytes) → IsKnown bytes (known.EmptyLines (length bytes))
now_empty bytes is = (omega arith, subst (λ t. AreEmptyLines (window t)) (sym (all_of bytes)) is)

pub now_fields : (bytes : List ℕ) → IsFront (window bytes) → IsKnown bytes (known.Fields (length bytes))
now_fields bytes is = (omega arith, subst (λ t. IsFront (window t)) (sym (all_of bytes)) is)

pub empty_still : (bytes new : List ℕ) (seen : ℕ) → IsKnown bytes (known.EmptyLines seen) → length bytes < 16384
    → window bytes ≡ window (take seen bytes) ++ new → AreEmptyLines new → IsKnown bytes (known.EmptyLines (length bytes)) × Begins bytes more
empty_still bytes new seen (within, is) short grown also =
    let now : AreEmptyLines (window bytes) = rw grown (empty_grows (window (take seen bytes)) new is also) in
    (now_empty bytes now, Begins.no_head (empty_may bytes now) short)

pub fields_still : (bytes new : List ℕ) (seen : ℕ) → IsKnown bytes (known.Fields seen) → length bytes < 16384
    → window bytes ≡ window (take seen bytes) ++ new → AreFields new → IsKnown bytes (known.Fields (length bytes)) × Begins bytes more
fields_still bytes new seen (within, is) short grown also =
    let now : IsFront (window bytes) = rw grown (front_grows (window (take seen bytes)) new is also) in
    (now_fields bytes now, Begins.no_head (front_may bytes now) short)

-- ---- new lines

pub no_new_lines : (bytes : List ℕ) (seen : ℕ) → seen ≤ length bytes → length bytes < 16384 → list_any is_line_feed (drop seen bytes) ≡ false
    → window bytes ≡ window (take seen bytes) ++ []
no_new_lines bytes seen within short none = sym (append-nil (window (take seen bytes)) ∙ same_window bytes seen within short none)

grown_by : (bytes : List ℕ) (seen : ℕ) → (new : List ℕ) × (window bytes ≡ window (take seen bytes) ++ new)
grown_by bytes seen =
    let (new, is) = window-append (take seen bytes) (drop seen bytes) in (new, ap window (sym (take-append-drop seen bytes)) ∙ is)

pub old_within : (bytes : List ℕ) (seen : ℕ) → length (window (take seen bytes)) ≤ length (window bytes)
old_within bytes seen = let (new, is) = grown_by bytes seen in let l = ap length is ∙ length-append (window (take seen bytes)) new in omega arith

pub new_are : (bytes : List ℕ) (seen : ℕ) → window bytes ≡ window (take seen bytes) ++ drop (length (window (take seen bytes))) (window bytes)
new_are bytes seen =
    let (new, is) = grown_by bytes seen in
    let old = window (take seen bytes) in
    is ∙ ap (λ t. old ++ t) (sym (ap (drop (length old)) is ∙ drop-append_seam old new))

-- ---- a loop over empty lines

pub stripped : (bytes front rest : List ℕ) (n : ℕ) → bytes_eq (take n bytes) front ≡ true → rest ≡ drop n bytes → bytes ≡ front ++ rest
stripped bytes front rest n e is =
    sym (take-append-drop n bytes) ∙ ap (λ t. t ++ drop n bytes) ((bytes_eq-Decides (take n bytes) front).0 e) ∙ ap (λ t. front ++ t) (sym is)

-- so many empty lines, and the rest
abbrev pub PastEmpty : List ℕ → List ℕ → Type 0
PastEmpty bytes rest = (ends : List LineEnd) × (bytes ≡ print_blank ends ++ rest)

pub past_one : (bytes left rest : List ℕ) → PastEmpty bytes left → ((end : LineEnd) × (left ≡ print_end end ++ rest)) → PastEmpty bytes rest
past_one bytes left rest (ends, is) (end, one) = (
  ends ++ end ∷ [],
  is ∙ ap (λ t. print_blank ends ++ t) one ∙ sym (append_assoc (print_blank ends) (print_end end) rest)
      ∙ ap (λ t. t ++ rest) (flat_map_more print_end [] ends end),
)

pub all_past : (bytes left : List ℕ) → PastEmpty bytes left → length left ≡ 0 → AreEmptyLines bytes
all_past bytes [] (ends, is) none = (ends, is ∙ append-nil (print_blank ends))
all_past bytes (b ∷ left) (ends, is) none = absurd (omega (arith, none))

pub none_left : (bytes : List ℕ) (n : ℕ) → n ≡ length bytes → drop n bytes ≡ []
none_left bytes n e = ap (λ k. drop k bytes) e ∙ drop_all (length bytes) bytes (omega arith)

-- The bytes of texts, and percent-encoding undone.
use Rattle.std.proofs.Common.{◌≡◌, ◌≢◌, ℕ, ◌+◌, ◌<◌, ◌/◌, ◌==◌, true, false, List, [], ◌∷◌, ◌++◌, Some, length, ltb, All, IsUtf8, sym, ap, ◌∙◌, subst, ⊎_elim, arith}
use Rattle.std.specs.Str.{is_utf8}
use Rattle.std.proofs.lemmas.Bool.{cond-true, cond-false, cond_both, cases_Bool, and_parts, false≢true}
use Rattle.std.proofs.lemmas.Bool.Decides.{nat_tests}
use Rattle.std.proofs.lemmas.List.Elements.{All-nil, All-cons, All-head, All-tail, All-append, All-weaker}
use Rattle.std.proofs.lemmas.Str.{is_utf8-from_IsUtf8}
use lib.Utf8.{scalar, scalars, scalar_cases, encodes, next}
use lib.Utf8.{encode as utf8_encode}
use Rattle.percent_encoding.specs.Percent.{percent_encode_byte, percent_decode}
use Rattle.percent_encoding.proofs.PercentLemmas.{IsByte, IsEscapeByte, All-percent_encode_byte, length-percent_decode, percent_decode-nil, percent_decode_not_percent, percent_decode-percent_encode_byte}
use Rattle.ur_tags.specs.Segments.{is_unreserved, encode, decode}
use Rattle.ur_tags.proofs.Decoding.{decode_is}

-- ---- texts

char_bytes : (c : ℕ) → c < 1114112 → All IsByte (utf8_encode c)
unfolding utf8_encode
char_bytes c small =
    let last : All IsByte (next c ∷ []) = All-cons IsByte (next c) [] (omega arith) (All-nil IsByte) in
    let two : All IsByte (next (c / 64) ∷ next c ∷ []) = All-cons IsByte (next (c / 64)) (next c ∷ []) (omega arith) last in
    let three : All IsByte (next (c / 4096) ∷ next (c / 64) ∷ next c ∷ []) = All-cons IsByte (next (c / 4096)) (next (c / 64) ∷ next c ∷ []) (omega arith) two in
    cond_both (ltb c 128) _ _ (All IsByte) (λ e. All-cons IsByte c [] (grind (arith, nat_tests)) (All-nil IsByte))
    (λ _. cond_both (ltb c 2048) _ _ (All IsByte) (λ e. All-cons IsByte (192 + c / 64) (next c ∷ []) (grind (arith, nat_tests)) last)
    (λ _. cond_both (ltb c 65536) _ _ (All IsByte) (λ e. All-cons IsByte (224 + c / 4096) (next (c / 64) ∷ next c ∷ []) (grind (arith, nat_tests)) two)
    (λ _. All-cons IsByte (240 + c / 262144) (next (c / 4096) ∷ next (c / 64) ∷ next c ∷ []) (omega arith) three)))

chars_bytes : (cs : List ℕ) → scalars cs ≡ true → All IsByte (encodes cs)
chars_bytes [] ok = All-nil IsByte
chars_bytes (c ∷ cs) ok =
    let both = and_parts (scalar c) (scalars cs) ok in
    let range = scalar_cases c both.0 in
    All-append IsByte (utf8_encode c) (encodes cs) (char_bytes c (grind arith)) (chars_bytes cs both.1)

-- what is UTF-8 is bytes
pub text_bytes : (text : List ℕ) → IsUtf8 text → All IsByte text
text_bytes text (cs, (ok, e)) = subst (All IsByte) e (chars_bytes cs ok)

-- ---- segments

pub encode_kept : (b : ℕ) (bytes : List ℕ) → is_unreserved b ≡ true → encode (b ∷ bytes) ≡ b ∷ encode bytes
encode_kept b bytes e = ap (λ x. x ++ encode bytes) (cond-true _ _ _ e)

pub encode_escaped : (b : ℕ) (bytes : List ℕ) → is_unreserved b ≡ false → encode (b ∷ bytes) ≡ percent_encode_byte b ++ encode bytes
encode_escaped b bytes e = ap (λ x. x ++ encode bytes) (cond-false _ _ _ e)

-- decoding undoes encoding
pub percent_decode-encode : (bytes : List ℕ) → All IsByte bytes → percent_decode (encode bytes) ≡ bytes
percent_decode-encode [] small = percent_decode-nil
percent_decode-encode (b ∷ bytes) small =
    let rest = ap (λ x. b ∷ x) (percent_decode-encode bytes (All-tail IsByte b bytes small)) in
    ⊎_elim
    (λ e. ap percent_decode (encode_kept b bytes e) ∙ percent_decode_not_percent b (encode bytes) (λ p. false≢true (sym (ap is_unreserved p) ∙ e)) ∙ rest)
    (λ e. ap percent_decode (encode_escaped b bytes e) ∙ percent_decode-percent_encode_byte b (encode bytes) (All-head IsByte b bytes small) ∙ rest)
    (cases_Bool (is_unreserved b))

-- a text that is not empty is decoded from its encoding
pub decode-encode : (text : List ℕ) → IsUtf8 text → 0 < length text → decode (encode text) ≡ Some text
decode-encode text u some =
    let back = percent_decode-encode text (text_bytes text u) in
    let long : 0 < length (encode text) = omega (arith, ap length back, length-percent_decode (encode text)) in
    decode_is (encode text) true long (sym (ap is_utf8 back ∙ is_utf8-from_IsUtf8 text u)) ∙ ap Some back

-- no slash stands in an encoding
abbrev pub IsNoSlash : ℕ → Type 0
IsNoSlash b = (b == 47) ≡ false

pub encode-IsNoSlash : (bytes : List ℕ) → All IsNoSlash (encode bytes)
encode-IsNoSlash [] = All-nil IsNoSlash
encode-IsNoSlash (b ∷ bytes) =
    ⊎_elim
    (λ e. subst (All IsNoSlash) (sym (encode_kept b bytes e)) (All-cons IsNoSlash b (encode bytes)
    (let other : b ≢ 47 = λ p. false≢true (sym (ap is_unreserved p) ∙ e) in grind (arith, nat_tests)) (encode-IsNoSlash bytes)))
    (λ e. subst (All IsNoSlash) (sym (encode_escaped b bytes e)) (All-append IsNoSlash (percent_encode_byte b) (encode bytes)
    (All-weaker IsEscapeByte IsNoSlash (λ d h. grind (arith, nat_tests)) (percent_encode_byte b) (All-percent_encode_byte b)) (encode-IsNoSlash bytes)))
    (cases_Bool (is_unreserved b))

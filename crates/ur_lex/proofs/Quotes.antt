-- Strings, sqltexts, XML text, names, numbers and words as fronts of bytes.
use Rattle.std.proofs.Common.{◌≡◌, ℕ, ◌+◌, ◌<◌, ◌≤◌, zero, suc, Bool, true, false, ◌||◌, ◌==◌, [], ◌∷◌, ◌++◌, length, take, drop, Some, None, refl, sym, ap, subst, ◌∙◌, arith, append_assoc, inl, inr}
use Rattle.std.specs.Prelude.{slice_index, ◌^◌}
use Rattle.std.specs.List.{list_all}
use Rattle.std.proofs.lemmas.Bool.Decides.{nat_tests}
use Rattle.std.proofs.lemmas.List.{length-take-le, length-append, take-append-drop, take_more, drop_more, get_or_past}
use Rattle.ur_lex.specs.declared.mode.Mode.{Mode}
use Rattle.ur_lex.specs.declared.mode.Mode.TheVariants as place
use Rattle.ur_lex.specs.declared.pieces.Alphabet.{Alphabet}
use Rattle.ur_lex.specs.declared.pieces.Alphabet.TheVariants as alphabets
use Rattle.ur_lex.specs.declared.token.TokenKind.{TokenKind}
use Rattle.ur_lex.specs.declared.token.TokenKind.TheVariants as kind
use Rattle.ur_lex.specs.Spelling.{Text}
use Rattle.ur_lex.specs.Spelling.{IsSpelled, IsQuoted, IsPiece, Reads, is_small, is_digit, is_number, is_word, decimal_value}
use Rattle.ur_lex.specs.Lexing.{IsFront, IsLongest, IsAllowed, opens_comment}
use Rattle.ur_lex.specs.Scanning.{first_piece, IsReading, IsClosed, IsUnclosed}
use Rattle.ur_lex.proofs.Texts.{and_right, and_both}
use Rattle.ur_lex.proofs.Readings.{fit, fit_both}
use Rattle.ur_lex.proofs.Spelled.{one_kind}
use Rattle.std.proofs.lemmas.List.{get_or-drop}
use Rattle.ur_lex.specs.Spelling.{is_in_name, is_in_word}
use Rattle.ur_lex.specs.Scanning.{starts_name}
use Rattle.ur_lex.proofs.Readings.{first_of_piece}
use Rattle.ur_lex.proofs.Firsts.{code_name, code_digit, code_string, code_sql, markup_text, tag_string, tag_word}
use Rattle.ur_lex.proofs.Fronts.{some_token, run_longest}

not_true : (t : Bool) → (t ≡ true → ⊥) → t ≡ false
not_true true h = absurd (h refl)
not_true false h = refl

-- ---- between quotes

-- what a quoted front has between its quotes
inner_of : (q : ℕ) (a : Alphabet) (d w : Text) (p : ℕ) → IsQuoted q a d (q ∷ take p w) → (j : Text) × (w ≡ j ++ (q ∷ drop p w)) × (take p w ≡ j ++ q ∷ []) × Reads (IsPiece a) j d
inner_of q a d w p (j, e, r) =
    let g : take p w ≡ j ++ q ∷ [] = ap (drop 1) e in
    (j, sym (take-append-drop p w) ∙ ap (λ z. z ++ drop p w) g ∙ append_assoc j (q ∷ []) (drop p w), g, r)

abbrev Only : Mode → TokenKind → Alphabet → ℕ → Type 0
Only m K a q = (k : TokenKind) (c w : Text) → IsSpelled m k c (q ∷ w) → (k ≡ K) × IsQuoted q a c (q ∷ w)

closed_longest : (m : Mode) (K : TokenKind) (a : Alphabet) (q : ℕ) → Only m K a q → (w c : Text) (n : ℕ) → IsReading a c n w → (p : ℕ) (k : TokenKind) (d : Text) →
    n + 2 < p → p ≤ length (q ∷ w) → IsSpelled m k d (take p (q ∷ w)) → ⊥
closed_longest m K a q S w c n rd zero k d l r sp = omega (arith, l)
closed_longest m K a q S w c n rd (suc p) k d l r sp =
    let (j, e, g, r2) = inner_of q a d w p (S k d (take p w) sp).1 in
    let (x, y, rx, ei, ec, ey) = fit a rd.reads r2 (drop n w) (q ∷ drop p w) (take-append-drop n w ∙ e) rd.end in
    let a1 = length-take-le n w rd.within in
    let a2 : length (take p w) ≡ p = length-take-le p w (omega (arith, r)) in
    let a3 = length-append j x in
    let a4 : length (j ++ q ∷ []) ≡ length j + 1 = length-append j (q ∷ []) in
    let a5 = ap length ei in
    let a6 = ap length g in
    omega (arith, l, a1, a2, a3, a4, a5, a6)

pub closed_front : (m : Mode) (K : TokenKind) (a : Alphabet) (q : ℕ) → Only m K a q → ((c w : Text) → IsQuoted q a c w → IsSpelled m K c w) →
    ((y : Text) → first_piece a (q ∷ y) ≡ None → IsAllowed m K y) → (q ≡ 0 → ⊥) → ((w : Text) → m ≡ place.Code → opens_comment (q ∷ w) ≡ false) →
    (w c : Text) (n : ℕ) → IsReading a c n w → slice_index w n ≡ q → IsFront m K c (n + 2) (q ∷ w)
closed_front m K a q S T A nz free w c n rd e =
    let past : length w ≤ n → ⊥ = λ h. nz (sym e ∙ get_or_past w n 0 h) in
    let inside : n < length w = omega arith in
    let here : drop n w ≡ q ∷ drop (n + 1) w = drop_more w n 0 inside ∙ ap (λ z. z ∷ drop (n + 1) w) e in
    let front : take (n + 1) w ≡ take n w ++ q ∷ [] = take_more w n 0 inside ∙ ap (λ z. take n w ++ z ∷ []) e in
    let two : n + 2 ≡ suc (n + 1) = omega arith in
    record {
      within = omega (arith, inside);
      spelled = subst (λ z. IsSpelled m K c (take z (q ∷ w))) (sym two) (T c (q ∷ take (n + 1) w) (take n w, ap (λ z. q ∷ z) front, rd.reads));
      longest = λ p k d l r sp. closed_longest m K a q S w c n rd p k d l r sp;
      allowed = subst (λ z. IsAllowed m K (drop z (q ∷ w))) (sym two) (A (drop (n + 1) w) (sym (ap (first_piece a) here) ∙ rd.end));
      no_comment = free w;
    }

pub unclosed_front : (m : Mode) (K : TokenKind) (a : Alphabet) (q : ℕ) → Only m K a q → ((y : Text) → IsAllowed m K y → first_piece a (q ∷ y) ≡ None) →
    (w c : Text) (n : ℕ) → IsReading a c n w → (slice_index w n ≡ q → ⊥) → (k : TokenKind) (d : Text) (p : ℕ) → IsFront m k d p (q ∷ w) → ⊥
unclosed_front m K a q S B w c n rd ne k d zero f = some_token m k d f.spelled
unclosed_front m K a q S B w c n rd ne k d (suc p) f =
    let (ke, quo) = S k d (take p w) f.spelled in
    let (j, e, g, r2) = inner_of q a d w p quo in
    let al : IsAllowed m K (drop p w) = subst (λ z. IsAllowed m z (drop p w)) ke f.allowed in
    let (ei, ec, ex) = fit_both a rd.reads r2 (drop n w) (q ∷ drop p w) (take-append-drop n w ∙ e) rd.end (B (drop p w) al) in
    let at : slice_index (drop n w) 0 ≡ slice_index w (n + 0) = get_or-drop n w 0 0 in
    let zero_more : n + 0 ≡ n = omega arith in
    ne (ap (λ z. slice_index w z) (sym zero_more) ∙ sym at ∙ ap (λ z. slice_index z 0) ex)

sql_end : (y : Text) → first_piece alphabets.Sql (39 ∷ y) ≡ None → (slice_index y 0 == 39) ≡ false
sql_end [] h = refl
sql_end (b ∷ y) h = not_true (b == 39) (λ t. let e : b ≡ 39 = grind (arith, nat_tests) in
    let f : first_piece alphabets.Sql (39 ∷ b ∷ y) ≡ Some (2, 39 ∷ []) = rw e (first_of_piece alphabets.Sql (39 ∷ 39 ∷ []) (39 ∷ []) y (inr (inl (refl, refl)))) in cc)

sql_stops : (y : Text) → (slice_index y 0 == 39) ≡ false → first_piece alphabets.Sql (39 ∷ y) ≡ None
sql_stops [] h = refl
sql_stops (b ∷ y) h = let e : (39 == b) ≡ false = grind (arith, nat_tests) in rw e refl

code_is_string : Only place.Code kind.Str alphabets.Str 34
code_is_string k c w s = code_string k c 34 w refl s

code_is_sql : Only place.Code kind.SqlText alphabets.Sql 39
code_is_sql k c w s = code_sql k c 39 w refl s

tag_is_string : Only place.Tag kind.Str alphabets.Attr 34
tag_is_string k c w s = tag_string k c 34 w refl s

pub string_front : (bytes c : Text) (len : ℕ) → slice_index bytes 0 ≡ 34 → IsClosed alphabets.Str c len bytes → IsFront place.Code kind.Str c len bytes
string_front [] c len e h = absurd (cc)
string_front (b ∷ w) c len e (n, l, rd, q) = rw (e, l) (closed_front place.Code kind.Str alphabets.Str 34 code_is_string (λ c w h. h) (λ y h. tt) (λ z. cc) (λ w z. refl) w c n rd (q ∙ e))

pub no_string : (bytes : Text) → slice_index bytes 0 ≡ 34 → IsUnclosed alphabets.Str bytes → (k : TokenKind) (d : Text) (p : ℕ) → IsFront place.Code k d p bytes → ⊥
no_string [] e h k d p f = absurd (cc)
no_string (b ∷ w) e (n, c, rd, q) k d p f =
    unclosed_front place.Code kind.Str alphabets.Str 34 code_is_string (λ y h. refl) w c n rd (λ z. q (z ∙ sym e)) k d p (subst (λ z. IsFront place.Code k d p (z ∷ w)) e f)

pub sql_front : (bytes c : Text) (len : ℕ) → slice_index bytes 0 ≡ 39 → IsClosed alphabets.Sql c len bytes → IsFront place.Code kind.SqlText c len bytes
sql_front [] c len e h = absurd (cc)
sql_front (b ∷ w) c len e (n, l, rd, q) = rw (e, l) (closed_front place.Code kind.SqlText alphabets.Sql 39 code_is_sql (λ c w h. h) sql_end (λ z. cc) (λ w z. refl) w c n rd (q ∙ e))

pub no_sql : (bytes : Text) → slice_index bytes 0 ≡ 39 → IsUnclosed alphabets.Sql bytes → (k : TokenKind) (d : Text) (p : ℕ) → IsFront place.Code k d p bytes → ⊥
no_sql [] e h k d p f = absurd (cc)
no_sql (b ∷ w) e (n, c, rd, q) k d p f =
    unclosed_front place.Code kind.SqlText alphabets.Sql 39 code_is_sql sql_stops w c n rd (λ z. q (z ∙ sym e)) k d p (subst (λ z. IsFront place.Code k d p (z ∷ w)) e f)

pub attr_front : (bytes c : Text) (len : ℕ) → slice_index bytes 0 ≡ 34 → IsClosed alphabets.Attr c len bytes → IsFront place.Tag kind.Str c len bytes
attr_front [] c len e h = absurd (cc)
attr_front (b ∷ w) c len e (n, l, rd, q) = rw (e, l) (closed_front place.Tag kind.Str alphabets.Attr 34 tag_is_string (λ c w h. h) (λ y h. tt) (λ z. cc) (λ w z. refl) w c n rd (q ∙ e))

pub no_attr : (bytes : Text) → slice_index bytes 0 ≡ 34 → IsUnclosed alphabets.Attr bytes → (k : TokenKind) (d : Text) (p : ℕ) → IsFront place.Tag k d p bytes → ⊥
no_attr [] e h k d p f = absurd (cc)
no_attr (b ∷ w) e (n, c, rd, q) k d p f =
    unclosed_front place.Tag kind.Str alphabets.Attr 34 tag_is_string (λ y h. refl) w c n rd (λ z. q (z ∙ sym e)) k d p (subst (λ z. IsFront place.Tag k d p (z ∷ w)) e f)

-- ---- XML text

text_longest : (b : ℕ) (w c : Text) (n : ℕ) → (b == 60 || b == 123) ≡ false → IsReading alphabets.Xml c n (b ∷ w) → (p : ℕ) (k : TokenKind) (d : Text) →
    n < p → p ≤ length (b ∷ w) → IsSpelled place.Markup k d (take p (b ∷ w)) → ⊥
text_longest b w c n h rd zero k d l r sp = omega (arith, l)
text_longest b w c n h rd (suc p) k d l r sp =
    let r2 = (markup_text k d b (take p w) h sp).1 in
    let joined : take n (b ∷ w) ++ drop n (b ∷ w) ≡ take (suc p) (b ∷ w) ++ drop (suc p) (b ∷ w) = take-append-drop n (b ∷ w) ∙ sym (take-append-drop (suc p) (b ∷ w)) in
    let (x, y, rx, ei, ec, ey) = fit alphabets.Xml rd.reads r2 (drop n (b ∷ w)) (drop p w) joined rd.end in
    let a1 = length-take-le n (b ∷ w) rd.within in
    let a2 : length (take (suc p) (b ∷ w)) ≡ suc p = length-take-le (suc p) (b ∷ w) r in
    let a3 : length (take (suc p) (b ∷ w) ++ x) ≡ length (take (suc p) (b ∷ w)) + length x = length-append (take (suc p) (b ∷ w)) x in
    let a5 : length (take n (b ∷ w)) ≡ length (take (suc p) (b ∷ w) ++ x) = ap length ei in
    omega (arith, l, a1, a2, a3, a5)

pub text_front : (bytes c : Text) (n : ℕ) → 0 < length bytes → (slice_index bytes 0 == 60 || slice_index bytes 0 == 123) ≡ false → IsReading alphabets.Xml c n bytes → 0 < n →
    IsFront place.Markup kind.XmlText c n bytes
text_front [] c n z h rd l = absurd (omega (arith, z))
text_front (b ∷ w) c n z h rd l = record {
  within = rd.within;
  spelled = (λ e. let a1 = length-take-le n (b ∷ w) rd.within in let a2 = ap length e in omega (arith, a1, a2, l), rd.reads);
  longest = λ p k d l r sp. text_longest b w c n h rd p k d l r sp;
  allowed = tt;
  no_comment = λ e. absurd (cc);
}

pub no_text : (bytes c : Text) (n : ℕ) → 0 < length bytes → (slice_index bytes 0 == 60 || slice_index bytes 0 == 123) ≡ false → IsReading alphabets.Xml c n bytes → n ≡ 0 →
    (k : TokenKind) (d : Text) (p : ℕ) → IsFront place.Markup k d p bytes → ⊥
no_text [] c n z h rd e k d p f = omega (arith, z)
no_text (b ∷ w) c n z h rd e k d zero f = some_token place.Markup k d f.spelled
no_text (b ∷ w) c n z h rd e k d (suc p) f = text_longest b w c n h rd (suc p) k d (omega (arith, e)) f.within f.spelled

-- ---- runs

start_no_comment : (bytes : Text) → starts_name (slice_index bytes 0) ≡ true → opens_comment bytes ≡ false
start_no_comment bytes h = let e : (slice_index bytes 0 == 40) ≡ false = grind (arith, nat_tests) in rw e refl

digit_no_comment : (bytes : Text) → is_digit (slice_index bytes 0) ≡ true → opens_comment bytes ≡ false
digit_no_comment bytes h = let e : (slice_index bytes 0 == 40) ≡ false = grind (arith, nat_tests) in rw e refl

word_goes : (b : ℕ) → is_small b ≡ true → is_in_word b ≡ true
word_goes b h = grind (arith, nat_tests)

word_spelled : (bytes : Text) (n : ℕ) → is_small (slice_index bytes 0) ≡ true → is_in_word (slice_index bytes n) ≡ false → list_all is_in_word (take n bytes) ≡ true → is_word (take n bytes) ≡ true
word_spelled [] n h e all = absurd (cc)
word_spelled (b ∷ w) zero h e all = let f = word_goes b h in absurd (cc)
word_spelled (b ∷ w) (suc n) h e all = and_both _ _ h (and_right (is_in_word b) _ all)

number_spelled : (bytes : Text) (n : ℕ) → is_digit (slice_index bytes 0) ≡ true → is_digit (slice_index bytes n) ≡ false → list_all is_digit (take n bytes) ≡ true → is_number (take n bytes) ≡ true
number_spelled [] n h e all = absurd (cc)
number_spelled (b ∷ w) zero h e all = absurd (cc)
number_spelled (b ∷ w) (suc n) h e all = and_both _ _ h (and_right (is_digit b) _ all)

name_goes : (b : ℕ) → starts_name b ≡ true → is_in_name b ≡ true
name_goes b h = grind (arith, nat_tests)

pub name_front : (k : TokenKind) (bytes : Text) (n : ℕ) → n ≤ length bytes → starts_name (slice_index bytes 0) ≡ true → is_in_name (slice_index bytes n) ≡ false →
    IsSpelled place.Code k (take n bytes) (take n bytes) → ((rest : Text) → IsAllowed place.Code k rest) → IsFront place.Code k (take n bytes) n bytes
name_front k bytes n l h e s a = record {
  within = l;
  spelled = s;
  longest = run_longest starts_name is_in_name place.Code code_name name_goes bytes n h e;
  allowed = a (drop n bytes);
  no_comment = λ z. start_no_comment bytes h;
}

pub word_front : (bytes : Text) (n : ℕ) → n ≤ length bytes → is_small (slice_index bytes 0) ≡ true → is_in_word (slice_index bytes n) ≡ false →
    list_all is_in_word (take n bytes) ≡ true → IsFront place.Tag kind.Word (take n bytes) n bytes
word_front bytes n l h e all = record {
  within = l;
  spelled = (refl, word_spelled bytes n h e all);
  longest = run_longest is_small is_in_word place.Tag tag_word word_goes bytes n h e;
  allowed = tt;
  no_comment = λ z. absurd (cc);
}

number_longest : (bytes : Text) (n : ℕ) → is_digit (slice_index bytes 0) ≡ true → is_digit (slice_index bytes n) ≡ false → IsLongest place.Code n bytes
number_longest bytes n h e = run_longest is_digit is_digit place.Code code_digit (λ b t. t) bytes n h e

pub number_front : (v : ℕ) (bytes : Text) (n : ℕ) → n ≤ length bytes → is_digit (slice_index bytes 0) ≡ true → is_digit (slice_index bytes n) ≡ false →
    list_all is_digit (take n bytes) ≡ true → v ≡ decimal_value (take n bytes) → v < 2 ^ 63 → IsFront place.Code (kind.Int v) (take n bytes) n bytes
number_front v bytes n l h e all q s = record {
  within = l;
  spelled = (refl, number_spelled bytes n h e all, q);
  longest = number_longest bytes n h e;
  allowed = s;
  no_comment = λ z. digit_no_comment bytes h;
}

pub no_number : (bytes : Text) (n : ℕ) → n ≤ length bytes → is_digit (slice_index bytes 0) ≡ true → is_digit (slice_index bytes n) ≡ false →
    list_all is_digit (take n bytes) ≡ true → 2 ^ 63 ≤ decimal_value (take n bytes) → (k : TokenKind) (c : Text) (p : ℕ) → IsFront place.Code k c p bytes → ⊥
no_number bytes n l h e all big k c p f =
    let v = decimal_value (take n bytes) in
    let sp : IsSpelled place.Code (kind.Int v) (take n bytes) (take n bytes) = (refl, number_spelled bytes n h e all, refl) in
    let longer : n < p → ⊥ = λ g. number_longest bytes n h e p k c g f.within f.spelled in
    let shorter : p < n → ⊥ = λ g. f.longest n (kind.Int v) (take n bytes) g l sp in
    let same : p ≡ n = omega arith in
    let fs = subst (λ z. IsSpelled place.Code k c (take z bytes)) same f.spelled in
    let ke : k ≡ kind.Int v = one_kind place.Code k (kind.Int v) c (take n bytes) (take n bytes) fs sp in
    let al : IsAllowed place.Code (kind.Int v) (drop p bytes) = subst (λ z. IsAllowed place.Code z (drop p bytes)) ke f.allowed in
    let al' : v < 2 ^ 63 = al in
    omega (arith, al', big)

-- What bytes begin with, in each mode.
use Rattle.std.proofs.Common.{◌≡◌, ℕ, ◌<◌, zero, suc, Bool, true, false, ◌==◌, [], ◌∷◌, length, take, drop, Option, Some, None, refl, sym, ap, subst, ◌∙◌, arith, inl, inr}
use Rattle.std.specs.Prelude.{slice_index}
use Rattle.std.specs.List.{list_all}
use Rattle.std.proofs.lemmas.Bool.Decides.{nat_tests}
use Rattle.std.proofs.lemmas.List.{length-take-le, length-drop}
use Rattle.ur_lex.specs.declared.mode.Mode.{Mode}
use Rattle.ur_lex.specs.declared.mode.Mode.TheVariants as place
use Rattle.ur_lex.specs.declared.token.Symbol.{Symbol}
use Rattle.ur_lex.specs.declared.token.Symbol.TheVariants as symbol
use Rattle.ur_lex.specs.declared.token.TokenKind.{TokenKind}
use Rattle.ur_lex.specs.declared.token.TokenKind.TheVariants as kind
use Rattle.ur_lex.specs.Spelling.{Text}
use Rattle.ur_lex.specs.Spelling.{IsSpelled, is_small, symbol_text, stands_in}
use Rattle.ur_lex.specs.Lexing.{IsFront, IsLongest, IsAllowed, IsSeparator, is_blank, opens_comment, may_follow}
use Rattle.ur_lex.specs.Scanning.{is_symbol, IsLongestSymbol, NoSymbol, OnlySymbols}
use Rattle.ur_lex.proofs.Texts.{and_left, and_right, and_both, list_all_at, front_of_take, take_of_front, front_within}
use Rattle.ur_lex.proofs.Firsts.{keyword_start, starts_as, code_symbol, tag_symbol}
use Rattle.ur_lex.proofs.Spelled.{one_kind, one_content}

-- ---- one token, one separator

pub one_len : {m : Mode} {k l : TokenKind} {c d : Text} {n p : ℕ} {bytes : Text} → IsFront m k c n bytes → IsFront m l d p bytes → n ≡ p
one_len {k = k} {l = l} {c = c} {d = d} {n = n} {p = p} f g =
    let longer : n < p → ⊥ = λ h. f.longest p l d h g.within g.spelled in
    let shorter : p < n → ⊥ = λ h. g.longest n k c h f.within f.spelled in
    omega arith

pub one_front : {m : Mode} {k l : TokenKind} {c d : Text} {n p : ℕ} {bytes : Text} → IsFront m k c n bytes → IsFront m l d p bytes → (n ≡ p) × (k ≡ l) × (c ≡ d)
one_front {m = m} {k = k} {l = l} {c = c} {d = d} {n = n} {bytes = bytes} f g =
    let e = one_len f g in
    let s : IsSpelled m l d (take n bytes) = subst (λ z. IsSpelled m l d (take z bytes)) (sym e) g.spelled in
    let q = one_kind m k l c d (take n bytes) f.spelled s in
    (e, q, one_content m k c d (take n bytes) f.spelled (subst (λ z. IsSpelled m z d (take n bytes)) (sym q) s))

some_symbol : (s : Symbol) → (slice_index (symbol_text s) 0 == 0) ≡ false
some_symbol symbol.LParen = refl
some_symbol _ = refl

-- no token is empty
pub some_token : (m : Mode) (k : TokenKind) (c : Text) → IsSpelled m k c [] → ⊥
some_token place.Code kind.Lower c (e, t) = cc
some_token place.Code kind.Upper c (e, t) = cc
some_token place.Code (kind.Int n) c (e, t, v) = cc
some_token place.Code kind.Str c (i, e, r) = cc
some_token place.Code kind.SqlText c (i, e, r) = cc
some_token place.Code (kind.Keyword k) c (e, t) = let f = ap (λ z. is_small (slice_index z 0)) t ∙ keyword_start k in cc
some_token place.Markup kind.XmlText c (n, r) = n refl
some_token place.Tag kind.Word c (e, t) = cc
some_token place.Tag kind.Str c (i, e, r) = cc
some_token place.Code (kind.Symbol s) c (e, t, st) = let f = ap (λ z. slice_index z 0 == 0) t ∙ some_symbol s in cc
some_token place.Markup (kind.Symbol s) c (e, t, st) = let f = ap (λ z. slice_index z 0 == 0) t ∙ some_symbol s in cc
some_token place.Tag (kind.Symbol s) c (e, t, st) = let f = ap (λ z. slice_index z 0 == 0) t ∙ some_symbol s in cc
some_token _ _ c h = absurd h

code_blank : (k : TokenKind) (c : Text) (n : ℕ) (bytes : Text) → is_blank (slice_index bytes 0) ≡ true → IsSpelled place.Code k c (take n bytes) → ⊥
code_blank k c n [] h s = absurd (cc)
code_blank k c zero (b ∷ w) h s = some_token place.Code k c s
code_blank k c (suc n) (b ∷ w) h s = let (t, e, q, st) = code_symbol k c b (take n w) (grind (arith, nat_tests)) s in let f = starts_as t b (take n w) q in grind (arith, nat_tests)

tag_blank : (k : TokenKind) (c : Text) (n : ℕ) (bytes : Text) → is_blank (slice_index bytes 0) ≡ true → IsSpelled place.Tag k c (take n bytes) → ⊥
tag_blank k c n [] h s = absurd (cc)
tag_blank k c zero (b ∷ w) h s = some_token place.Tag k c s
tag_blank k c (suc n) (b ∷ w) h s = let (t, e, q, st) = tag_symbol k c b (take n w) (grind (arith, nat_tests)) s in let f = starts_as t b (take n w) q in grind (arith, nat_tests)

-- no token begins where a separator stands
pub no_front_there : (m : Mode) (n : ℕ) {k : TokenKind} {c : Text} {p : ℕ} (bytes : Text) → IsSeparator m n bytes → IsFront m k c p bytes → ⊥
no_front_there place.Code n {k} {c} {p} bytes (inl (e, b)) f = code_blank k c p bytes b f.spelled
no_front_there place.Code n bytes (inr (o, l, a)) f = let h = f.no_comment refl in cc
no_front_there place.Markup n bytes h f = absurd h
no_front_there place.Tag n {k} {c} {p} bytes (e, b) f = tag_blank k c p bytes b f.spelled

blank_no_comment : (bytes : Text) → is_blank (slice_index bytes 0) ≡ true → opens_comment bytes ≡ true → ⊥
blank_no_comment bytes h o = let f : (slice_index bytes 0 == 40) ≡ true = and_left _ _ o in grind (arith, nat_tests)

abbrev rest_of : Option Text → ℕ
rest_of None = 0
rest_of (Some x) = length x

-- one separator
pub one_gap : (m : Mode) (n p : ℕ) (bytes : Text) → IsSeparator m n bytes → IsSeparator m p bytes → n ≡ p
one_gap place.Code n p bytes (inl (e, b)) (inl (f, b')) = e ∙ sym f
one_gap place.Code n p bytes (inl (e, b)) (inr (o, l, a)) = absurd (blank_no_comment bytes b o)
one_gap place.Code n p bytes (inr (o, l, a)) (inl (e, b)) = absurd (blank_no_comment bytes b o)
one_gap place.Code n p bytes (inr (o, l, a)) (inr (o', l', a')) =
    let e : length (drop n bytes) ≡ length (drop p bytes) = ap rest_of (sym a ∙ a') in omega (arith, e, length-drop n bytes, length-drop p bytes)
one_gap place.Markup n p bytes h g = absurd h
one_gap place.Tag n p bytes (e, b) (f, b') = e ∙ sym f

-- ---- runs

-- what begins so goes on to the end of the run
pub run_longest : (start go : ℕ → Bool) (m : Mode) → ((k : TokenKind) (c : Text) (b : ℕ) (w : Text) → start b ≡ true → IsSpelled m k c (b ∷ w) → list_all go w ≡ true) →
    ((b : ℕ) → start b ≡ true → go b ≡ true) → (bytes : Text) (n : ℕ) → start (slice_index bytes 0) ≡ true → go (slice_index bytes n) ≡ false → IsLongest m n bytes
run_longest start go m H G [] n h e p k c l r s = absurd (omega (arith, l, r))
run_longest start go m H G (b ∷ w) n h e zero k c l r s = absurd (omega (arith, l))
run_longest start go m H G (b ∷ w) zero h e (suc p) k c l r s = let f = G b h in absurd (cc)
run_longest start go m H G (b ∷ w) (suc n) h e (suc p) k c l r s =
    let f = H k c b (take p w) h s in
    let g = list_all_at go w n p f (omega (arith, l)) (omega (arith, l, r)) in
    absurd (cc)

-- ---- symbols

pub symbol_spelled : (m : Mode) (s : Symbol) (w : Text) → w ≡ symbol_text s → stands_in s m ≡ true → IsSpelled m (kind.Symbol s) (symbol_text s) w
symbol_spelled place.Code s w e st = (e, e, st)
symbol_spelled place.Markup s w e st = (e, e, st)
symbol_spelled place.Tag s w e st = (e, e, st)

symbol_allowed : (m : Mode) (s : Symbol) (rest : Text) → may_follow m s (slice_index rest 0) ≡ true → IsAllowed m (kind.Symbol s) rest
symbol_allowed place.Code s rest h = h
symbol_allowed place.Markup s rest h = h
symbol_allowed place.Tag s rest h = h

allowed_symbol : (m : Mode) (s : Symbol) (rest : Text) → IsAllowed m (kind.Symbol s) rest → may_follow m s (slice_index rest 0) ≡ true
allowed_symbol place.Code s rest h = h
allowed_symbol place.Markup s rest h = h
allowed_symbol place.Tag s rest h = h

pub mark_front : (m : Mode) (bytes : Text) (s : Symbol) → OnlySymbols m bytes → IsLongestSymbol m bytes s → may_follow m s (slice_index (drop (length (symbol_text s)) bytes) 0) ≡ true →
    (m ≡ place.Code → opens_comment bytes ≡ false) → IsFront m (kind.Symbol s) (symbol_text s) (length (symbol_text s)) bytes
mark_front m bytes s only (there, most) follows free = record {
  within = front_within (symbol_text s) bytes (and_right (stands_in s m) _ there);
  spelled = let e = take_of_front (symbol_text s) bytes (and_right (stands_in s m) _ there) in symbol_spelled m s _ e (and_left _ _ there);
  longest = λ p k c l r sp. let (t, e, q, st) = only k c p sp in
      let f : is_symbol m bytes t ≡ true = and_both _ _ st (front_of_take (symbol_text t) bytes p q) in
      let g = most t f in
      let len : p ≡ length (symbol_text t) = sym (length-take-le p bytes r) ∙ ap length q in
      omega (arith, l, g, len);
  allowed = symbol_allowed m s _ follows;
  no_comment = free;
}

-- where no symbol is a front
pub no_mark : (m : Mode) (bytes : Text) → OnlySymbols m bytes → NoSymbol m bytes → (k : TokenKind) (c : Text) (n : ℕ) → IsFront m k c n bytes → ⊥
no_mark m bytes only none k c n f =
    let (t, e, q, st) = only k c n f.spelled in
    let g : is_symbol m bytes t ≡ true = and_both _ _ st (front_of_take (symbol_text t) bytes n q) in
    let h = none t in cc

-- where the longest symbol may not be followed by what follows it
pub bad_mark : (m : Mode) (bytes : Text) (s : Symbol) → OnlySymbols m bytes → IsLongestSymbol m bytes s → may_follow m s (slice_index (drop (length (symbol_text s)) bytes) 0) ≡ false →
    (k : TokenKind) (c : Text) (n : ℕ) → IsFront m k c n bytes → ⊥
bad_mark m bytes s only (there, most) stops k c n f =
    let (t, e, q, st) = only k c n f.spelled in
    let g : is_symbol m bytes t ≡ true = and_both _ _ st (front_of_take (symbol_text t) bytes n q) in
    let le = most t g in
    let len : n ≡ length (symbol_text t) = sym (length-take-le n bytes f.within) ∙ ap length q in
    let w = front_within (symbol_text s) bytes (and_right (stands_in s m) _ there) in
    let e' = take_of_front (symbol_text s) bytes (and_right (stands_in s m) _ there) in
    let spelled = symbol_spelled m s _ e' (and_left _ _ there) in
    let longer : n < length (symbol_text s) → ⊥ = λ h. f.longest _ _ _ h w spelled in
    let same : n ≡ length (symbol_text s) = omega arith in
    let sp = subst (λ z. IsSpelled m k c (take z bytes)) same f.spelled in
    let kinds : k ≡ kind.Symbol s = one_kind m k (kind.Symbol s) c (symbol_text s) _ sp spelled in
    let al : IsAllowed m (kind.Symbol s) (drop n bytes) = subst (λ z. IsAllowed m z (drop n bytes)) kinds f.allowed in
    let al' = allowed_symbol m s _ al in
    let al'' = subst (λ z. may_follow m s (slice_index (drop z bytes) 0) ≡ true) same al' in
    cc

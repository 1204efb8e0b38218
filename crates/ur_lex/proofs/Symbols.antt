-- Keywords and symbols by their tables.
use Rattle.std.proofs.Common.{◌≡◌, ℕ, ◌+◌, ◌<◌, ◌≤◌, zero, suc, Bool, true, false, ◌&&◌, not, List, [], ◌∷◌, length, take, get_or, map, Option, Some, refl, sym, ap, subst, ◌∙◌, arith, inl, inr}
use Rattle.std.specs.Prelude.{nat_le, nat_lt, if◌then◌else◌, MatchOption}
use Rattle.std.specs.List.{list_all}
use Rattle.std.specs.Str.{bytes_eq}
use Rattle.std.proofs.lemmas.Bool.Decides.{nat_tests}
use Rattle.std.proofs.lemmas.Slice.Eq.{bytes_eq-Decides}
use Rattle.std.proofs.lemmas.List.{length-take, get_or-take, get_or_default, take_more}
use Rattle.ur_lex.specs.declared.mode.Mode.{Mode}
use Rattle.ur_lex.specs.declared.token.Keyword.{Keyword}
use Rattle.ur_lex.specs.declared.token.Symbol.{Symbol}
use Rattle.ur_lex.specs.declared.token.Symbol.TheVariants as symbol
use Rattle.ur_lex.specs.Spelling.{Text}
use Rattle.ur_lex.specs.Spelling.{is_among, keyword_text, symbol_text}
use Rattle.ur_lex.specs.Scanning.{listed_keyword, symbols, is_symbol, NoSymbol, IsLongestSymbol}
use Rattle.ur_lex.proofs.Texts.{and_left, and_right, list_all_of, list_all_push}
use Rattle.ur_lex.proofs.Readings.{bool_cases}

not_false : (b : Bool) → not b ≡ true → b ≡ false
not_false true h = absurd (cc)
not_false false h = refl

-- what a table of keywords has for a word is spelled so, and where it has nothing, no keyword is
pub keyword_among : (ks : List Keyword) (w : Text) (found : Option Keyword) → listed_keyword (map (λ k. (keyword_text k, k)) ks) w ≡ found →
    MatchOption found (is_among (map keyword_text ks) w ≡ false) (λ k. w ≡ keyword_text k)
keyword_among [] w found h = subst (λ z. MatchOption z (is_among [] w ≡ false) (λ k. w ≡ keyword_text k)) h refl
keyword_among (k ∷ ks) w found h =
    let rest = listed_keyword (map (λ k. (keyword_text k, k)) ks) w in
    elim (bool_cases (bytes_eq w (keyword_text k))) [
      | inl t ↦ subst (λ z. MatchOption z (is_among (map keyword_text (k ∷ ks)) w ≡ false) (λ k. w ≡ keyword_text k))
          (sym (ap (λ z. if z then Some k else rest) t) ∙ h) ((bytes_eq-Decides w (keyword_text k)).0 t)
      | inr f ↦ rw f (keyword_among ks w found (sym (ap (λ z. if z then Some k else rest) f) ∙ h))
    ]

-- where a symbol stands in the table
place_of : Symbol → ℕ
place_of symbol.XmlEmpty = 0
place_of symbol.XmlClose = 1
place_of symbol.XmlOpen = 2
place_of symbol.DoubleColon = 3
place_of symbol.Ne = 4
place_of symbol.Le = 5
place_of symbol.Ge = 6
place_of symbol.Arrow = 7
place_of symbol.FatArrow = 8
place_of symbol.LeftArrow = 9
place_of symbol.DoublePlus = 10
place_of symbol.DoubleMinus = 11
place_of symbol.AndAnd = 12
place_of symbol.OrOr = 13
place_of symbol.TagClose = 14
place_of symbol.TagEmpty = 15
place_of symbol.LParen = 16
place_of symbol.RParen = 17
place_of symbol.LBracket = 18
place_of symbol.RBracket = 19
place_of symbol.LBrace = 20
place_of symbol.RBrace = 21
place_of symbol.Comma = 22
place_of symbol.Semicolon = 23
place_of symbol.Colon = 24
place_of symbol.Eq = 25
place_of symbol.Lt = 26
place_of symbol.Gt = 27
place_of symbol.Tilde = 28
place_of symbol.Plus = 29
place_of symbol.Minus = 30
place_of symbol.Star = 31
place_of symbol.Slash = 32
place_of symbol.Percent = 33
place_of symbol.Caret = 34
place_of symbol.Dot = 35
place_of symbol.Hash = 36
place_of symbol.Dollar = 37
place_of symbol.Underscore = 38
place_of symbol.Bar = 39

at_place : (s : Symbol) → get_or symbols (place_of s) symbol.LParen ≡ s
unfolding place_of
at_place symbol.LParen = refl
at_place _ = refl

place_within : (s : Symbol) → nat_lt (place_of s) 40 ≡ true
unfolding place_of
place_within symbol.LParen = refl
place_within _ = refl

-- each symbol is at least as long as those behind it
abbrev descending : List Symbol → Bool
descending [] = true
descending (s ∷ ss) = list_all (λ t. nat_le (length (symbol_text t)) (length (symbol_text s))) ss && descending ss

symbols_descend : descending symbols ≡ true
symbols_descend = refl

longer_first : (ss : List Symbol) (d : Symbol) (i j : ℕ) → descending ss ≡ true → i ≤ j → j < length ss → length (symbol_text (get_or ss j d)) ≤ length (symbol_text (get_or ss i d))
longer_first [] d i j h l r = absurd (omega (arith, r))
longer_first (s ∷ ss) d zero zero h l r = omega arith
longer_first (s ∷ ss) d zero (suc j) h l r =
    let e : nat_le (length (symbol_text (get_or ss j d))) (length (symbol_text s)) ≡ true =
    list_all_of (λ t. nat_le (length (symbol_text t)) (length (symbol_text s))) ss d j (and_left _ _ h) (omega (arith, r)) in
    grind (arith, nat_tests)
longer_first (s ∷ ss) d (suc i) zero h l r = absurd (omega (arith, l))
longer_first (s ∷ ss) d (suc i) (suc j) h l r =
    longer_first ss d i j (and_right (list_all (λ t. nat_le (length (symbol_text t)) (length (symbol_text s))) ss) _ h) (omega (arith, l)) (omega (arith, r))

-- no symbol so far is a front
abbrev pub NoneBefore : Mode → Text → ℕ → Type 0
NoneBefore mode bytes i = list_all (λ s. not (is_symbol mode bytes s)) (take i symbols) ≡ true

none_at : (mode : Mode) (bytes : Text) (i : ℕ) → NoneBefore mode bytes i → i ≤ 40 → (s : Symbol) → place_of s < i → is_symbol mode bytes s ≡ false
none_at mode bytes i h l s b =
    let w = place_within s in
    let e : not (is_symbol mode bytes (get_or (take i symbols) (place_of s) symbol.LParen)) ≡ true =
    list_all_of (λ s. not (is_symbol mode bytes s)) (take i symbols) symbol.LParen (place_of s) h (omega (arith, b, length-take i symbols, l)) in
    let f : get_or (take i symbols) (place_of s) symbol.LParen ≡ s = get_or-take i symbols (place_of s) symbol.LParen b ∙ at_place s in
    not_false _ (subst (λ z. not (is_symbol mode bytes z) ≡ true) f e)

pub no_symbol : (mode : Mode) (bytes : Text) (i : ℕ) → NoneBefore mode bytes i → i ≡ 40 → NoSymbol mode bytes
no_symbol mode bytes i h e s = let w = place_within s in none_at mode bytes i h (omega (arith, e)) s (grind (arith, nat_tests))

pub none_more : (mode : Mode) (bytes : Text) (i : ℕ) (d : Symbol) → NoneBefore mode bytes i → i < 40 → is_symbol mode bytes (get_or symbols i d) ≡ false → NoneBefore mode bytes (i + 1)
none_more mode bytes i d h l e =
    let p = λ (s : Symbol). not (is_symbol mode bytes s) in
    subst (λ z. list_all p z ≡ true) (sym (take_more symbols i d l)) (list_all_push p (take i symbols) (get_or symbols i d) h (ap not e))

pub longest_symbol : (mode : Mode) (bytes : Text) (i : ℕ) (d : Symbol) → NoneBefore mode bytes i → i < 40 → is_symbol mode bytes (get_or symbols i d) ≡ true → IsLongestSymbol mode bytes (get_or symbols i d)
longest_symbol mode bytes i d h l f = (
  f,
  λ t g.
      let w = place_within t in
      let v : place_of t < 40 = grind (arith, nat_tests) in
      let later : place_of t < i → ⊥ = λ b. let q = none_at mode bytes i h (omega (arith, l)) t b in cc in
      let le = longer_first symbols symbol.LParen i (place_of t) symbols_descend (omega arith) v in
      let a = at_place t in
      let b : get_or symbols i symbol.LParen ≡ get_or symbols i d = get_or_default symbols i symbol.LParen d l in
      subst (λ z. length (symbol_text t) ≤ length (symbol_text z)) b (subst (λ z. length (symbol_text z) ≤ length (symbol_text (get_or symbols i symbol.LParen))) a le),
)

-- A text spells one token.
use Rattle.std.proofs.Common.{◌≡◌, ℕ, Bool, true, false, ◌||◌, ◌==◌, List, [], ◌∷◌, ◌++◌, drop, refl, sym, ap, subst, ◌∙◌, arith}
use Rattle.std.specs.Prelude.{slice_index, if◌then◌else◌}
use Rattle.std.specs.Str.{bytes_eq}
use Rattle.std.proofs.lemmas.Bool.Decides.{nat_tests}
use Rattle.std.proofs.lemmas.List.{append_cancel_right}
use Rattle.ur_lex.specs.declared.mode.Mode.{Mode}
use Rattle.ur_lex.specs.declared.mode.Mode.TheVariants as place
use Rattle.ur_lex.specs.declared.pieces.Alphabet.{Alphabet}
use Rattle.ur_lex.specs.declared.pieces.Alphabet.TheVariants as alphabets
use Rattle.ur_lex.specs.declared.token.Keyword.{Keyword}
use Rattle.ur_lex.specs.declared.token.Keyword.TheVariants as keyword
use Rattle.ur_lex.specs.declared.token.Symbol.{Symbol}
use Rattle.ur_lex.specs.declared.token.Symbol.TheVariants as symbol
use Rattle.ur_lex.specs.declared.token.TokenKind.{TokenKind}
use Rattle.ur_lex.specs.declared.token.TokenKind.TheVariants as kind
use Rattle.ur_lex.specs.Spelling.{Text}
use Rattle.ur_lex.specs.Spelling.{IsSpelled, IsQuoted, IsPiece, Reads, is_small, is_capital, is_digit, is_lower, is_upper, is_number, is_word, decimal_value, all_keywords, keyword_text, symbol_text, stands_in}
use Rattle.ur_lex.specs.Scanning.{symbols}
use Rattle.ur_lex.proofs.Texts.{and_left}
use Rattle.ur_lex.proofs.Readings.{same_content}
use Rattle.ur_lex.proofs.Firsts.{text_start}

-- the keyword that is spelled so
abbrev keyword_in : List Keyword → Text → TokenKind → TokenKind
keyword_in [] w other = other
keyword_in (k ∷ ks) w other = if bytes_eq (keyword_text k) w then kind.Keyword k else keyword_in ks w other

-- the symbol that is spelled so
abbrev symbol_in : List Symbol → Text → TokenKind
symbol_in [] w = kind.Word
symbol_in (s ∷ ss) w = if bytes_eq (symbol_text s) w then kind.Symbol s else symbol_in ss w

-- what a text spells by its keywords and symbols
listed : Text → TokenKind
listed w = keyword_in all_keywords w (symbol_in symbols w)

keyword_listed : (k : Keyword) → listed (keyword_text k) ≡ kind.Keyword k
unfolding listed
keyword_listed keyword.And = refl
keyword_listed _ = refl

symbol_listed : (s : Symbol) → listed (symbol_text s) ≡ kind.Symbol s
unfolding listed
symbol_listed symbol.LParen = refl
symbol_listed _ = refl

-- the kind of a token of the language by its text
code_kind : Text → TokenKind
code_kind w = if is_lower w then kind.Lower else (if is_upper w then kind.Upper else (if is_number w then kind.Int (decimal_value w) else (if slice_index w 0 == 34 then kind.Str else (if slice_index w 0 == 39 then kind.SqlText else listed w))))

keyword_tests : (k : Keyword) → (is_lower (keyword_text k) || is_upper (keyword_text k) || is_number (keyword_text k) || slice_index (keyword_text k) 0 == 34 || slice_index (keyword_text k) 0 == 39) ≡ false
keyword_tests keyword.And = refl
keyword_tests _ = refl

symbol_tests : (s : Symbol) → (is_lower (symbol_text s) || is_upper (symbol_text s) || is_number (symbol_text s) || slice_index (symbol_text s) 0 == 34 || slice_index (symbol_text s) 0 == 39) ≡ false
symbol_tests symbol.LParen = refl
symbol_tests _ = refl

choose : (a b c d e : Bool) (x y z u v o : TokenKind) → (a || b || c || d || e) ≡ false → (if a then x else (if b then y else (if c then z else (if d then u else (if e then v else o))))) ≡ o
choose true b c d e x y z u v o h = absurd (cc)
choose false true c d e x y z u v o h = absurd (cc)
choose false false true d e x y z u v o h = absurd (cc)
choose false false false true e x y z u v o h = absurd (cc)
choose false false false false true x y z u v o h = absurd (cc)
choose false false false false false x y z u v o h = refl

code_listed : (w : Text) → (is_lower w || is_upper w || is_number w || slice_index w 0 == 34 || slice_index w 0 == 39) ≡ false → code_kind w ≡ listed w
unfolding code_kind
code_listed w h = choose (is_lower w) (is_upper w) (is_number w) (slice_index w 0 == 34) (slice_index w 0 == 39) _ _ _ _ _ _ h

upper_tests : (w : Text) → is_upper w ≡ true → is_lower w ≡ false
upper_tests [] h = refl
upper_tests (b ∷ w) h = let d : is_capital b ≡ true = and_left _ _ h in let e : (is_small b || b == 95) ≡ false = grind (arith, nat_tests) in rw e refl

number_tests : (w : Text) → is_number w ≡ true → (is_lower w ≡ false) × (is_upper w ≡ false)
number_tests [] h = (refl, refl)
number_tests (b ∷ w) h = let d : is_digit b ≡ true = and_left _ _ h in
    let e : (is_small b || b == 95) ≡ false = grind (arith, nat_tests) in let f : is_capital b ≡ false = grind (arith, nat_tests) in (rw e refl, rw f refl)

code_spells : (k : TokenKind) (c w : Text) → IsSpelled place.Code k c w → code_kind w ≡ k
unfolding code_kind
code_spells kind.Lower c w (e, t) = rw t refl
code_spells kind.Upper c w (e, t) = let l = upper_tests w t in rw (l, t) refl
code_spells (kind.Int n) c w (e, t, v) = let l = number_tests w t in rw (l.0, l.1, t) (ap kind.Int (sym v))
code_spells kind.Str c w (i, e, r) = rw e refl
code_spells kind.SqlText c w (i, e, r) = rw e refl
code_spells kind.XmlText c w t = absurd t
code_spells kind.Word c w t = absurd t
code_spells (kind.Keyword k) c w (e, t) = ap code_kind t ∙ code_listed (keyword_text k) (keyword_tests k) ∙ keyword_listed k
code_spells (kind.Symbol s) c w (e, t, st) = ap code_kind t ∙ code_listed (symbol_text s) (symbol_tests s) ∙ symbol_listed s

-- the kind of a token of XML text
markup_kind : Text → TokenKind
markup_kind w = if (slice_index w 0 == 60 || slice_index w 0 == 123) then listed w else kind.XmlText

markup_first : (s : Symbol) → stands_in s place.Markup ≡ true → (slice_index (symbol_text s) 0 == 60 || slice_index (symbol_text s) 0 == 123) ≡ true
markup_first symbol.LBrace h = refl
markup_first symbol.Lt h = refl
markup_first symbol.TagClose h = refl
markup_first symbol.XmlClose h = refl
markup_first _ h = absurd (cc)

text_kind : (w c : Text) → (w ≡ [] → ⊥) → Reads (IsPiece alphabets.Xml) w c → (slice_index w 0 == 60 || slice_index w 0 == 123) ≡ false
text_kind [] c n r = refl
text_kind (b ∷ w) c n r = text_start b w c r

markup_spells : (k : TokenKind) (c w : Text) → IsSpelled place.Markup k c w → markup_kind w ≡ k
unfolding markup_kind
markup_spells kind.XmlText c w (n, r) = let f = text_kind w c n r in rw f refl
markup_spells (kind.Symbol s) c w (e, t, st) = let f = markup_first s st in rw t (rw f (symbol_listed s))
markup_spells kind.Lower c w t = absurd t
markup_spells kind.Upper c w t = absurd t
markup_spells (kind.Int n) c w t = absurd t
markup_spells kind.Str c w t = absurd t
markup_spells kind.SqlText c w t = absurd t
markup_spells kind.Word c w t = absurd t
markup_spells (kind.Keyword k) c w t = absurd t

-- the kind of a token of a tag
tag_kind : Text → TokenKind
tag_kind w = if is_small (slice_index w 0) then kind.Word else (if slice_index w 0 == 34 then kind.Str else listed w)

tag_first : (s : Symbol) → (is_small (slice_index (symbol_text s) 0) ≡ false) × ((slice_index (symbol_text s) 0 == 34) ≡ false)
tag_first symbol.LParen = (refl, refl)
tag_first _ = (refl, refl)

word_first : (w : Text) → is_word w ≡ true → is_small (slice_index w 0) ≡ true
word_first [] h = absurd (cc)
word_first (b ∷ w) h = and_left _ _ h

tag_spells : (k : TokenKind) (c w : Text) → IsSpelled place.Tag k c w → tag_kind w ≡ k
unfolding tag_kind
tag_spells kind.Word c w (e, t) = let f = word_first w t in rw f refl
tag_spells kind.Str c w (i, e, r) = rw e refl
tag_spells (kind.Symbol s) c w (e, t, st) = let f = tag_first s in rw t (rw (f.0, f.1) (symbol_listed s))
tag_spells kind.Lower c w t = absurd t
tag_spells kind.Upper c w t = absurd t
tag_spells (kind.Int n) c w t = absurd t
tag_spells kind.SqlText c w t = absurd t
tag_spells kind.XmlText c w t = absurd t
tag_spells (kind.Keyword k) c w t = absurd t

-- a text spells tokens of one kind in a mode
pub one_kind : (m : Mode) (k l : TokenKind) (c d w : Text) → IsSpelled m k c w → IsSpelled m l d w → k ≡ l
one_kind place.Code k l c d w p q = sym (code_spells k c w p) ∙ code_spells l d w q
one_kind place.Markup k l c d w p q = sym (markup_spells k c w p) ∙ markup_spells l d w q
one_kind place.Tag k l c d w p q = sym (tag_spells k c w p) ∙ tag_spells l d w q

-- ---- contents

quoted_content : (q : ℕ) (a : Alphabet) (c d w : Text) → IsQuoted q a c w → IsQuoted q a d w → c ≡ d
quoted_content q a c d w (i, e, r) (j, f, s) =
    let g : i ++ q ∷ [] ≡ j ++ q ∷ [] = ap (drop 1) (sym e ∙ f) in
    let h : i ≡ j = append_cancel_right i j (q ∷ []) g in
    same_content a r (subst (λ z. Reads (IsPiece a) z d) (sym h) s)

-- a text has one content as a token of a kind
pub one_content : (m : Mode) (k : TokenKind) (c d w : Text) → IsSpelled m k c w → IsSpelled m k d w → c ≡ d
one_content place.Code kind.Lower c d w (e, t) (f, u) = sym e ∙ f
one_content place.Code kind.Upper c d w (e, t) (f, u) = sym e ∙ f
one_content place.Code (kind.Int n) c d w p q = sym p.0 ∙ q.0
one_content place.Code kind.Str c d w p q = quoted_content 34 alphabets.Str c d w p q
one_content place.Code kind.SqlText c d w p q = quoted_content 39 alphabets.Sql c d w p q
one_content place.Code (kind.Keyword k) c d w (e, t) (f, u) = sym e ∙ f
one_content place.Markup kind.XmlText c d w (n, r) (n', s) = same_content alphabets.Xml r s
one_content place.Tag kind.Word c d w (e, t) (f, u) = sym e ∙ f
one_content place.Tag kind.Str c d w p q = quoted_content 34 alphabets.Attr c d w p q
one_content place.Code (kind.Symbol s) c d w p q = sym p.0 ∙ q.0
one_content place.Markup (kind.Symbol s) c d w p q = sym p.0 ∙ q.0
one_content place.Tag (kind.Symbol s) c d w p q = sym p.0 ∙ q.0
one_content place.Code kind.XmlText c d w p q = absurd p
one_content place.Code kind.Word c d w p q = absurd p
one_content place.Markup kind.Lower c d w p q = absurd p
one_content place.Markup kind.Upper c d w p q = absurd p
one_content place.Markup (kind.Int n) c d w p q = absurd p
one_content place.Markup kind.Str c d w p q = absurd p
one_content place.Markup kind.SqlText c d w p q = absurd p
one_content place.Markup kind.Word c d w p q = absurd p
one_content place.Markup (kind.Keyword k) c d w p q = absurd p
one_content place.Tag kind.Lower c d w p q = absurd p
one_content place.Tag kind.Upper c d w p q = absurd p
one_content place.Tag (kind.Int n) c d w p q = absurd p
one_content place.Tag kind.SqlText c d w p q = absurd p
one_content place.Tag kind.XmlText c d w p q = absurd p
one_content place.Tag (kind.Keyword k) c d w p q = absurd p

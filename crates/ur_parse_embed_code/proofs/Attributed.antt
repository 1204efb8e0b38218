-- Attributes are read in a loop.
use Rattle.std.specs.Prelude.{◌≡◌, ℕ, Bool, true, false, if◌then◌else◌, List, [], ◌∷◌, ◌++◌, drop, refl}
use Rattle.std.proofs.Common.{arith}
use Rattle.ur_base.specs.declared.refusal.Refusal.{Refusal}
use Rattle.ur_lex.specs.declared.token.Symbol.TheVariants as symbol
use Rattle.ur_lex.specs.declared.token.TokenKind.TheVariants as token
use Rattle.ur_lex.specs.declared.token.Lexeme.{Lexeme}
use Rattle.ur_lex.specs.Spelling.{Text}
use Rattle.ur_syntax.specs.declared.xml.Attr.{Attr}
use Rattle.ur_syntax.specs.declared.xml.AttrValue.{AttrValue}
use Rattle.ur_syntax.specs.declared.xml.AttrValue.TheVariants as values
use Rattle.ur_parse_rules.specs.Rules.{Read, Refused, no_span, syntax}
use Rattle.ur_parse_rules.specs.Places.{IsAt, IsName, Other, OfKind, Passing, Unexpected, any}
use Rattle.ur_parse_rules.proofs.Steps.{Leads, leads_here, leads_on, nothing, a_mark, a_name, an_one, mark_read, name_read, one_read, one_refused, no_mark, no_name, not_mark, not_name, any_other, reads_by, refused_by, none_of}
use Rattle.ur_parse_rules.proofs.Choices.{chosen_mark_at}
use Rattle.ur_parse_rules.specs.Quoted.{Quoted, Raw, raw, plain, attribute, mapped, both, cons}
use Rattle.ur_parse_rules.specs.XmlParts.{attrs, attr, attr_value}
use Rattle.ur_parse_rules.specs.Parts.{of_xml, of_quote}
use Rattle.ur_parse_rules.specs.Markup.{attr_of}
use Rattle.ur_parse_rules.specs.Language.{language}
use Rattle.ur_parse_rules.proofs.Choice.{choice}
use Rattle.ur_parse_rules.proofs.AllDecided.{decided}
use Rattle.ur_parse_rules.proofs.Places.{ends_empty, missing}
use Rattle.ur_parse_embed_code.specs.declared.quotes.Quotes.{Quotes}
use Rattle.ur_parse_embed_code.specs.Quotes.{Makes, Holds}
use Rattle.ur_parse_embed_code.proofs.Numbering.{numbered_plain, numbered_mapped}
use Rattle.ur_parse_embed_code.proofs.Listing.{Before, before_here, before_more, before_done}

-- ---- a value

module _ {n : ℕ} {tokens : List Lexeme} {i k : ℕ} where
  pub text_value : {t : Text} (q : Quotes) → IsName tokens i k token.Str any t → Makes (Read language n (of_xml raw attr_value) (drop i tokens) (drop k tokens)) tokens n q q (values.Text t)
  text_value {t = t} q b = record {
    of = plain (values.Text t);
    read = reads_by 0 n (omega arith) (record { v = (t, tt); span = no_span; is_span = refl; allowed = refl; builds = refl; fills = a_name b nothing }) (ends_empty _);
    made = numbered_plain tokens n q (values.Text t);
  }

pub text_refused : {n : ℕ} {tokens : List Lexeme} {i j : ℕ} {r : Refusal} → IsAt tokens i j (OfKind token.Str) → Unexpected tokens i (Passing token.Str any) r → Refused language n (of_xml raw attr_value) (drop i tokens) r
text_refused {n = n} h u = refused_by decided 0 n (omega arith) (chosen_mark_at (choice (of_xml raw attr_value)) h (λ w s us. refl)) (no_name u)

pub no_value : {n : ℕ} {tokens : List Lexeme} {i : ℕ} {r : Refusal} → Other tokens i (OfKind token.Str) → Unexpected tokens i (OfKind (token.Symbol symbol.LBrace)) r → Refused language n (of_xml raw attr_value) (drop i tokens) r
no_value o u = syntax u.says (none_of (not_name (any_other any o), (not_mark u.other, tt)))

module _ {n : ℕ} {tokens : List Lexeme} {i j : ℕ} (h : IsAt tokens i j (OfKind (token.Symbol symbol.LBrace))) where
  pub code_refused : {r : Refusal} → Refused language n (of_quote raw) (drop j tokens) r → Refused language n (of_xml raw attr_value) (drop i tokens) r
  code_refused u = refused_by decided 1 n (omega arith) (chosen_mark_at (choice (of_xml raw attr_value)) h (λ w s us. refl)) (mark_read h (one_refused u))

  pub code_open : (k : ℕ) {c : Raw} {r : Refusal} → Read language n (of_quote raw) (drop j tokens) (drop k tokens) c → Unexpected tokens k (OfKind (token.Symbol symbol.RBrace)) r → Refused language n (of_xml raw attr_value) (drop i tokens) r
  code_open k a u = refused_by decided 1 n (omega arith) (chosen_mark_at (choice (of_xml raw attr_value)) h (λ w s us. refl)) (mark_read h (one_read decided a (no_mark u)))

  pub code_value : {k l : ℕ} {old new : Quotes} {m : ℕ} → Holds attribute (λ c. (n : ℕ) → Read language n (of_quote raw) (drop j tokens) (drop k tokens) c) tokens n old new m → IsAt tokens k l (OfKind (token.Symbol symbol.RBrace)) →
      Makes (Read language n (of_xml raw attr_value) (drop i tokens) (drop l tokens)) tokens n old new (values.Exp m)
  code_value a b = record {
    of = mapped (λ n. values.Exp n) (attribute a.code);
    read = reads_by 1 n (omega arith) (record { v = (a.code, tt); span = no_span; is_span = refl; allowed = refl; builds = refl; fills = a_mark h (an_one (a.read n) (a_mark b nothing)) }) (ends_empty _);
    made = numbered_mapped (λ n. values.Exp n) a.made;
  }

-- ---- an attribute

only_one : (b : Bool) → let z : ℕ = if b then 0 else 0 in z ≡ 0
only_one true = refl
only_one false = refl

single_attr : (ts : List Lexeme) → choice (of_xml raw attr) ts ≡ 0
single_attr [] = refl
single_attr (t ∷ ts) = only_one _

pub attr_name : {n : ℕ} (tokens : List Lexeme) (i : ℕ) {r : Refusal} → Unexpected tokens i (Passing token.Word any) r → Refused language n (of_xml raw attr) (drop i tokens) r
attr_name {n = n} tokens i u = refused_by decided 0 n (omega arith) (single_attr (drop i tokens)) (no_name u)

module _ {n : ℕ} {tokens : List Lexeme} {i j : ℕ} {w : Text} (b : IsName tokens i j token.Word any w) where
  pub attr_equals : {r : Refusal} → Unexpected tokens j (OfKind (token.Symbol symbol.Eq)) r → Refused language n (of_xml raw attr) (drop i tokens) r
  attr_equals u = refused_by decided 0 n (omega arith) (single_attr (drop i tokens)) (name_read b (no_mark u))

  module _ {k : ℕ} (e : IsAt tokens j k (OfKind (token.Symbol symbol.Eq))) where
    pub attr_refused : {r : Refusal} → Refused language n (of_xml raw attr_value) (drop k tokens) r → Refused language n (of_xml raw attr) (drop i tokens) r
    attr_refused h = refused_by decided 0 n (omega arith) (single_attr (drop i tokens)) (name_read b (mark_read e (one_refused h)))

    pub attr_read : (l : ℕ) {old new : Quotes} {v : AttrValue} → Makes (Read language n (of_xml raw attr_value) (drop k tokens) (drop l tokens)) tokens n old new v → let a : Attr = record { name = w; value = v } in
        Makes (Read language n (of_xml raw attr) (drop i tokens) (drop l tokens)) tokens n old new a
    attr_read l m = record {
      of = mapped (attr_of w) m.of;
      read = reads_by 0 n (omega arith) (record { v = (w, (m.of, tt)); span = no_span; is_span = refl; allowed = refl; builds = refl; fills = a_name b (a_mark e (an_one m.read nothing)) }) (ends_empty _);
      made = numbered_mapped (attr_of w) m.made;
    }

-- ---- attributes

-- what is read so far
pub record SoFar (n : ℕ) (tokens : List Lexeme) (i j : ℕ) (old now : Quotes) (list : List Attr) : Type 0 where
  pub f : Quoted Raw (List Attr) → Quoted Raw (List Attr)
  pub leads : Leads language n (of_xml raw attrs) (of_xml raw attrs) (drop i tokens) (drop j tokens) f
  pub before : Before tokens n old now list f

pub attrs_here : (n : ℕ) (tokens : List Lexeme) (i : ℕ) (old : Quotes) → SoFar n tokens i i old old []
attrs_here n tokens i old = record { f = λ y. y; leads = leads_here; before = before_here tokens n old }

module _ {n : ℕ} {tokens : List Lexeme} {i j : ℕ} {old now : Quotes} {list : List Attr} (s : SoFar n tokens i j old now list) where
  pub attrs_refused : {k : ℕ} {r : Refusal} → IsAt tokens j k (OfKind token.Word) → Refused language n (of_xml raw attr) (drop j tokens) r → Refused language n (of_xml raw attrs) (drop i tokens) r
  attrs_refused h u = s.leads.refused _ (refused_by decided 1 n (omega arith) (chosen_mark_at (choice (of_xml raw attrs)) h (λ w s us. refl)) (one_refused u))

  pub attrs_more : {k : ℕ} (l : ℕ) {next : Quotes} {a : Attr} → IsAt tokens j k (OfKind token.Word) → Makes (Read language n (of_xml raw attr) (drop j tokens) (drop l tokens)) tokens n now next a → SoFar n tokens i l old next (list ++ a ∷ [])
  attrs_more l h m = record {
    f = λ y. s.f (both cons m.of y);
    leads = leads_on s.leads (record {
      found = λ rest y b. reads_by 1 n (omega arith) (record { v = (m.of, (y, tt)); span = no_span; is_span = refl; allowed = refl; builds = refl; fills = an_one m.read (an_one b nothing) }) b.stops;
      refused = λ ref u. refused_by decided 1 n (omega arith) (chosen_mark_at (choice (of_xml raw attrs)) h (λ w s us. refl)) (one_read decided m.read (one_refused u));
    });
    before = before_more s.before m.made;
  }

  pub attrs_done : Other tokens j (OfKind token.Word) → Makes (Read language n (of_xml raw attrs) (drop i tokens) (drop j tokens)) tokens n old now list
  attrs_done o = record {
    of = s.f (plain []);
    read = s.leads.found (drop j tokens) (plain []) (reads_by 0 n (omega arith) (record { v = tt; span = no_span; is_span = refl; allowed = refl; builds = refl; fills = nothing }) (missing refl o));
    made = before_done s.before;
  }

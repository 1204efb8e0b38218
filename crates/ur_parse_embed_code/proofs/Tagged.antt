-- Tags are read by their first tokens.
use Rattle.std.specs.Prelude.{◌≡◌, ℕ, Bool, true, false, if◌then◌else◌, List, [], ◌∷◌, drop, refl}
use Rattle.std.proofs.Common.{sym, ◌∙◌, arith}
use Rattle.ur_base.specs.declared.refusal.Refusal.{Refusal}
use Rattle.ur_lex.specs.declared.token.Symbol.TheVariants as symbol
use Rattle.ur_lex.specs.declared.token.TokenKind.TheVariants as token
use Rattle.ur_lex.specs.declared.token.Lexeme.{Lexeme}
use Rattle.ur_lex.specs.Spelling.{Text}
use Rattle.ur_syntax.specs.declared.xml.Tag.{Tag}
use Rattle.ur_syntax.specs.declared.xml.TagField.{TagField}
use Rattle.ur_syntax.specs.declared.xml.TagField.TheVariants as fields
use Rattle.ur_parse_rules.specs.Rules.{Read, Refused, no_span, syntax}
use Rattle.ur_parse_rules.specs.Places.{IsAt, IsName, Other, OfKind, Passing, Unexpected, any}
use Rattle.ur_parse_rules.proofs.Steps.{nothing, a_mark, a_name, an_one, mark_read, name_read, one_read, one_refused, no_mark, no_name, not_mark, not_name, reads_by, refused_by, none_of}
use Rattle.ur_parse_rules.proofs.Choices.{chosen_mark_at, starts_at, stops_first}
use Rattle.ur_parse_rules.specs.Classes.{member, symbol_class}
use Rattle.ur_parse_rules.specs.Words.{is_field}
use Rattle.ur_parse_rules.specs.Quoted.{raw}
use Rattle.ur_parse_rules.specs.XmlParts.{tag, tag_field, tag_name}
use Rattle.ur_parse_rules.specs.Parts.{of_xml}
use Rattle.ur_parse_rules.specs.Language.{language}
use Rattle.ur_parse_rules.proofs.Choice.{choice}
use Rattle.ur_parse_rules.proofs.AllDecided.{decided}
use Rattle.ur_parse_rules.proofs.Tests.{false_true}
use Rattle.ur_parse_rules.proofs.Places.{ends_empty, missing, may_not_end}
use Rattle.ur_parse_embed_code.specs.Absent.{Present}

-- ---- the name of a field

module _ {n : ℕ} {tokens : List Lexeme} {i j k : ℕ} where
  pub literal_read : {a : Text} → IsAt tokens i j (OfKind (token.Symbol symbol.Hash)) → IsName tokens j k token.Upper is_field a → Read language n (of_xml raw tag_name) (drop i tokens) (drop k tokens) (fields.Literal a)
  literal_read {a = a} h b = reads_by 0 n (omega arith) (record { v = (a, tt); span = no_span; is_span = refl; allowed = refl; builds = refl; fills = a_mark h (a_name b nothing) }) (ends_empty _)

pub variable_read : {n : ℕ} {tokens : List Lexeme} {i k : ℕ} {x : Text} → IsName tokens i k token.Lower any x → Read language n (of_xml raw tag_name) (drop i tokens) (drop k tokens) (fields.Variable x)
variable_read {n = n} {x = x} b = reads_by 1 n (omega arith) (record { v = (x, tt); span = no_span; is_span = refl; allowed = refl; builds = refl; fills = a_name b nothing }) (ends_empty _)

module _ {n : ℕ} {tokens : List Lexeme} {i j : ℕ} {r : Refusal} where
  pub literal_refused : IsAt tokens i j (OfKind (token.Symbol symbol.Hash)) → Unexpected tokens j (Passing token.Upper is_field) r → Refused language n (of_xml raw tag_name) (drop i tokens) r
  literal_refused h u = refused_by decided 0 n (omega arith) (chosen_mark_at (choice (of_xml raw tag_name)) h (λ w s us. refl)) (mark_read h (no_name u))

pub no_tag_name : {n : ℕ} {tokens : List Lexeme} {i : ℕ} {r : Refusal} → Other tokens i (OfKind (token.Symbol symbol.Hash)) → Unexpected tokens i (Passing token.Lower any) r → Refused language n (of_xml raw tag_name) (drop i tokens) r
no_tag_name o u = syntax u.says (none_of (not_mark o, (not_name u.other, tt)))

-- ---- a field

pub field_none : {n : ℕ} {tokens : List Lexeme} {i : ℕ} → Other tokens i (OfKind (token.Symbol symbol.LBrace)) → Read language n (of_xml raw tag_field) (drop i tokens) (drop i tokens) fields.None
field_none {n = n} o = reads_by 0 n (omega arith) (record { v = tt; span = no_span; is_span = refl; allowed = refl; builds = refl; fills = nothing }) (missing refl o)

module _ {n : ℕ} {tokens : List Lexeme} {i j : ℕ} (h : IsAt tokens i j (OfKind (token.Symbol symbol.LBrace))) where
  pub name_refused : {r : Refusal} → Refused language n (of_xml raw tag_name) (drop j tokens) r → Refused language n (of_xml raw tag_field) (drop i tokens) r
  name_refused u = refused_by decided 1 n (omega arith) (chosen_mark_at (choice (of_xml raw tag_field)) h (λ w s us. refl)) (mark_read h (one_refused u))

  module _ (k : ℕ) {f : TagField} (a : Read language n (of_xml raw tag_name) (drop j tokens) (drop k tokens) f) where
    pub field_open : {r : Refusal} → Unexpected tokens k (OfKind (token.Symbol symbol.RBrace)) r → Refused language n (of_xml raw tag_field) (drop i tokens) r
    field_open u = refused_by decided 1 n (omega arith) (chosen_mark_at (choice (of_xml raw tag_field)) h (λ w s us. refl)) (mark_read h (one_read decided a (no_mark u)))

    module _ {l : ℕ} (b : IsAt tokens k l (OfKind (token.Symbol symbol.RBrace))) where
      pub field_read : Other tokens l (OfKind (token.Symbol symbol.LBrace)) → Read language n (of_xml raw tag_field) (drop i tokens) (drop l tokens) f
      field_read o = reads_by 1 n (omega arith) (record { v = (f, tt); span = no_span; is_span = refl; allowed = refl; builds = refl; fills = a_mark h (an_one a (a_mark b nothing)) }) (missing refl o)

      pub field_twice : {r : Refusal} → Present tokens l (token.Symbol symbol.LBrace) r → Refused language n (of_xml raw tag_field) (drop i tokens) r
      field_twice p = refused_by decided 1 n (omega arith) (chosen_mark_at (choice (of_xml raw tag_field)) h (λ w s us. refl)) (mark_read h (one_read decided a (mark_read b
          (may_not_end p.says (λ q. let z = stops_first (member (symbol_class symbol.LBrace ∷ [])) (drop l tokens) q.stops in false_true (sym z ∙ starts_at (member (symbol_class symbol.LBrace ∷ [])) p.is (λ w. refl)))))))

-- ---- a tag

only_one : (b : Bool) → let z : ℕ = if b then 0 else 0 in z ≡ 0
only_one true = refl
only_one false = refl

single_tag : (ts : List Lexeme) → choice (of_xml raw tag) ts ≡ 0
single_tag [] = refl
single_tag (t ∷ ts) = only_one _

pub word_refused : {n : ℕ} (tokens : List Lexeme) (i : ℕ) {r : Refusal} → Unexpected tokens i (Passing token.Word any) r → Refused language n (of_xml raw tag) (drop i tokens) r
word_refused {n = n} tokens i u = refused_by decided 0 n (omega arith) (single_tag (drop i tokens)) (no_name u)

module _ {n : ℕ} {tokens : List Lexeme} {i j : ℕ} {w : Text} (b : IsName tokens i j token.Word any w) where
  pub field_refused : {r : Refusal} → Refused language n (of_xml raw tag_field) (drop j tokens) r → Refused language n (of_xml raw tag) (drop i tokens) r
  field_refused h = refused_by decided 0 n (omega arith) (single_tag (drop i tokens)) (name_read b (one_refused h))

  pub tag_read : (k : ℕ) {f : TagField} → Read language n (of_xml raw tag_field) (drop j tokens) (drop k tokens) f → let t : Tag = record { word = w; field = f } in Read language n (of_xml raw tag) (drop i tokens) (drop k tokens) t
  tag_read k {f = f} a = reads_by 0 n (omega arith) (record { v = (w, (f, tt)); span = no_span; is_span = refl; allowed = refl; builds = refl; fills = a_name b (an_one a nothing) }) a.stops

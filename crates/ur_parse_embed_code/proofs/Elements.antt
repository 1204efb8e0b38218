-- Parts and elements are read.
use Rattle.std.specs.Prelude.{◌≡◌, ◌≤◌, ◌+◌, ◌&&◌, ◌||◌, ℕ, Bool, true, false, not, if◌then◌else◌, List, [], ◌∷◌, ◌++◌, drop, Option, Some, None, refl}
use Rattle.std.proofs.Common.{sym, ◌∙◌, ap, arith}
use Rattle.ur_base.specs.declared.refusal.Refusal.{Refusal}
use Rattle.ur_base.specs.Stopping.{Says}
use Rattle.ur_lex.specs.declared.token.Symbol.TheVariants as symbol
use Rattle.ur_lex.specs.declared.token.TokenKind.TheVariants as token
use Rattle.ur_lex.specs.declared.token.Lexeme.{Lexeme}
use Rattle.ur_lex.specs.Spelling.{Text}
use Rattle.ur_syntax.specs.declared.xml.XmlForm.TheVariants as form
use Rattle.ur_syntax.specs.declared.xml.XmlPart.{XmlPart}
use Rattle.ur_syntax.specs.declared.xml.Tag.{Tag}
use Rattle.ur_syntax.specs.declared.xml.Attr.{Attr}
use Rattle.ur_parse_rules.specs.Rules.{Read, Refused, no_span, syntax}
use Rattle.ur_parse_rules.specs.Places.{Moves, IsAt, IsName, Other, OfKind, Passing, Unexpected, any, starts, span_of}
use Rattle.ur_parse_rules.proofs.Tokens.{covers}
use Rattle.ur_parse_rules.proofs.Steps.{Leads, leads_here, leads_on, nothing, a_mark, a_name, an_one, mark_read, one_read, one_refused, no_mark, no_name, not_mark, not_name, any_other, not_allowed, reads_by, refused_by, none_of}
use Rattle.ur_parse_rules.proofs.Choices.{chosen_mark_at, starts_at, stops_first, first_stops, if_true, if_false, begins_by, not_one}
use Rattle.ur_parse_rules.specs.Classes.{member, all_of}
use Rattle.ur_parse_rules.specs.Quoted.{Quoted, Raw, raw, plain, antiquote, mapped, both, cons, deeper}
use Rattle.ur_parse_rules.specs.SqlParts.{anti}
use Rattle.ur_parse_rules.specs.XmlParts.{literal, parts, one_part, element, element_end, tag, attrs}
use Rattle.ur_parse_rules.specs.Parts.{of_xml, of_sql, of_quote, Inside}
use Rattle.ur_parse_rules.specs.Ends.{xml_starts}
use Rattle.ur_parse_rules.specs.Codes.{begins_well}
use Rattle.ur_parse_rules.specs.Markup.{literal_of, splice, show, element_of, inner, closes}
use Rattle.ur_parse_rules.specs.Language.{language}
use Rattle.ur_parse_rules.proofs.Choice.{choice, bracket, a_bracket}
use Rattle.ur_parse_rules.proofs.Leads.{hits}
use Rattle.ur_parse_rules.proofs.AllDecided.{decided}
use Rattle.ur_parse_rules.proofs.Tests.{false_true}
use Rattle.ur_parse_rules.proofs.Places.{ends_empty, missing, stops_cons}
use Rattle.ur_parse_embed_code.specs.declared.quotes.Quotes.{Quotes}
use Rattle.ur_parse_embed_code.specs.Quotes.{Makes, Holds}
use Rattle.ur_parse_embed_code.proofs.Numbering.{numbered_plain, numbered_mapped, numbered_both, numbered_deeper}
use Rattle.ur_parse_embed_code.proofs.Listing.{Before, before_here, before_more, before_done}
use Rattle.ur_parse_embed_code.specs.declared.parts.Enclosed.{Enclosed}
use Rattle.ur_parse_embed_code.specs.Insides.{closing_of, agree, MakesEnclosed}

-- ---- whether a part begins

module _ {tokens : List Lexeme} {i j : ℕ} where
  pub text_begins : IsAt tokens i j (OfKind token.XmlText) → starts (member xml_starts) (drop i tokens) ≡ true
  text_begins a = starts_at (member xml_starts) a (λ w. refl)

  pub brace_begins : IsAt tokens i j (OfKind (token.Symbol symbol.LBrace)) → starts (member xml_starts) (drop i tokens) ≡ true
  brace_begins a = starts_at (member xml_starts) a (λ w. refl)

  pub tag_begins : IsAt tokens i j (OfKind (token.Symbol symbol.Lt)) → starts (member xml_starts) (drop i tokens) ≡ true
  tag_begins a = starts_at (member xml_starts) a (λ w. refl)

pub none_begins : (tokens : List Lexeme) (i : ℕ) → Other tokens i (OfKind token.XmlText) → Other tokens i (OfKind (token.Symbol symbol.LBrace)) → Other tokens i (OfKind (token.Symbol symbol.Lt)) → starts (member xml_starts) (drop i tokens) ≡ false
none_begins tokens i a b c = stops_first (member xml_starts) (drop i tokens)
    (stops_cons (all_of token.XmlText) (all_of (token.Symbol symbol.LBrace) ∷ all_of (token.Symbol symbol.Lt) ∷ []) _ (missing refl a) (stops_cons (all_of (token.Symbol symbol.LBrace)) (all_of (token.Symbol symbol.Lt) ∷ []) _ (missing refl b) (missing refl c)))

-- ---- `[` and then not `]`

turned_round : (m s : Bool) → (m && not s) ≡ not (not m || s)
turned_round true true = refl
turned_round true false = refl
turned_round false s = refl

hits_is : (ts : List Lexeme) → hits bracket false a_bracket ts ≡ not (begins_well ts)
hits_is [] = refl
hits_is (t ∷ ts) = turned_round (member (all_of (token.Symbol symbol.LBracket) ∷ []) t.kind t.content) (starts (member bracket) ts)

bracket_well : (t : Lexeme) (ts : List Lexeme) → t.kind ≡ token.Symbol symbol.LBracket → begins_well (t ∷ ts) ≡ starts (member (all_of (token.Symbol symbol.RBracket) ∷ [])) ts
bracket_well t ts e = rw e refl

other_well : (ts : List Lexeme) → starts (member (all_of (token.Symbol symbol.LBracket) ∷ [])) ts ≡ false → begins_well ts ≡ true
other_well [] e = refl
other_well (t ∷ ts) e = let z : member (all_of (token.Symbol symbol.LBracket) ∷ []) t.kind t.content ≡ false = e in rw z refl

module _ {tokens : List Lexeme} {i : ℕ} where
  well_at : IsAt tokens i (i + 1) (OfKind (token.Symbol symbol.LBracket)) → begins_well (drop i tokens) ≡ starts (member (all_of (token.Symbol symbol.RBracket) ∷ [])) (drop (i + 1) tokens)
  well_at a = ap begins_well a.at.split ∙ bracket_well a.t (drop (i + 1) tokens) a.is

  pub bracket_pair : {j : ℕ} → IsAt tokens i (i + 1) (OfKind (token.Symbol symbol.LBracket)) → IsAt tokens (i + 1) j (OfKind (token.Symbol symbol.RBracket)) → false ≡ not (begins_well (drop i tokens))
  bracket_pair a b = sym (ap not (well_at a ∙ starts_at (member (all_of (token.Symbol symbol.RBracket) ∷ [])) b (λ w. refl)))

  pub bracket_alone : IsAt tokens i (i + 1) (OfKind (token.Symbol symbol.LBracket)) → Other tokens (i + 1) (OfKind (token.Symbol symbol.RBracket)) → true ≡ not (begins_well (drop i tokens))
  bracket_alone a o = sym (ap not (well_at a ∙ stops_first (member (all_of (token.Symbol symbol.RBracket) ∷ [])) (drop (i + 1) tokens) (missing refl o)))

  pub no_bracket : Other tokens i (OfKind (token.Symbol symbol.LBracket)) → false ≡ not (begins_well (drop i tokens))
  no_bracket o = sym (ap not (other_well (drop i tokens) (stops_first (member (all_of (token.Symbol symbol.LBracket) ∷ [])) (drop i tokens) (missing refl o))))

-- ---- a part

module _ {n : ℕ} {tokens : List Lexeme} {i k : ℕ} where
  pub text_part : {t : Text} (q : Quotes) → Moves tokens i k → IsName tokens i k token.XmlText any t → let x : XmlPart = record { span = span_of tokens i k; form = form.Text t } in
      Makes (Read language n (of_xml raw one_part) (drop i tokens) (drop k tokens)) tokens n q q x
  text_part {t = t} q o b = let fl = a_name {n = n} b nothing in let x : XmlPart = record { span = span_of tokens i k; form = form.Text t } in record {
    of = plain x;
    read = reads_by 0 n (omega arith) (record { v = (t, tt); span = span_of tokens i k; is_span = covers tokens i k o fl.taken fl.split; allowed = refl; builds = refl; fills = fl }) (ends_empty _);
    made = numbered_plain tokens n q x;
  }

  pub shown_part : {old new : Quotes} {m : ℕ} → Moves tokens i k → Holds antiquote (λ c. (n : ℕ) → Read language n (of_sql raw anti) (drop i tokens) (drop k tokens) c) tokens n old new m →
      Makes (Read language n (of_xml raw one_part) (drop i tokens) (drop k tokens)) tokens n old new (show (span_of tokens i k) m)
  shown_part o a = let fl = an_one {n = n} (a.read n) nothing in record {
    of = mapped (show (span_of tokens i k)) (antiquote a.code);
    read = reads_by 2 n (omega arith) (record { v = (a.code, tt); span = span_of tokens i k; is_span = covers tokens i k o fl.taken fl.split; allowed = refl; builds = refl; fills = fl }) (ends_empty _);
    made = numbered_mapped (show (span_of tokens i k)) a.made;
  }

pub element_part : {n : ℕ} (tokens : List Lexeme) (i k : ℕ) {old new : Quotes} {x : XmlPart} → Makes (Read language n (of_xml raw element) (drop i tokens) (drop k tokens)) tokens n old new x →
    Makes (Read language n (of_xml raw one_part) (drop i tokens) (drop k tokens)) tokens n old new x
element_part {n = n} tokens i k m = record {
  of = m.of;
  read = reads_by 3 n (omega arith) (record { v = (m.of, tt); span = no_span; is_span = refl; allowed = refl; builds = refl; fills = an_one m.read nothing }) (ends_empty _);
  made = m.made;
}

module _ {n : ℕ} {tokens : List Lexeme} {i j : ℕ} {r : Refusal} where
  pub text_refused : IsAt tokens i j (OfKind token.XmlText) → Unexpected tokens i (Passing token.XmlText any) r → Refused language n (of_xml raw one_part) (drop i tokens) r
  text_refused a u = refused_by decided 0 n (omega arith) (chosen_mark_at (choice (of_xml raw one_part)) a (λ w s us. refl)) (no_name u)

  pub element_refused : IsAt tokens i j (OfKind (token.Symbol symbol.Lt)) → Refused language n (of_xml raw element) (drop i tokens) r → Refused language n (of_xml raw one_part) (drop i tokens) r
  element_refused a h = refused_by decided 3 n (omega arith) (chosen_mark_at (choice (of_xml raw one_part)) a (λ w s us. refl)) (one_refused h)

pub no_part : {n : ℕ} (tokens : List Lexeme) (i : ℕ) {r : Refusal} → Other tokens i (OfKind token.XmlText) → Other tokens i (OfKind (token.Symbol symbol.Lt)) → Unexpected tokens i (OfKind (token.Symbol symbol.LBrace)) r →
    Refused language n (of_xml raw one_part) (drop i tokens) r
no_part tokens i a c u = syntax u.says (none_of (
  not_name (any_other any a),
  (
    not_mark u.other,
    (
      not_one (begins_by language (member (all_of (token.Symbol symbol.LBrace) ∷ [])) (of_sql raw anti) (λ w. refl, tt)) (stops_first (member (all_of (token.Symbol symbol.LBrace) ∷ [])) (drop i tokens) (missing refl u.other)),
      (not_one (begins_by language (member (all_of (token.Symbol symbol.Lt) ∷ [])) (of_xml raw element) (λ w. refl, tt)) (stops_first (member (all_of (token.Symbol symbol.Lt) ∷ [])) (drop i tokens) (missing refl c)), tt),
    ),
  ),
))

brace_choice : {tokens : List Lexeme} {i j : ℕ} → IsAt tokens i j (OfKind (token.Symbol symbol.LBrace)) → choice (of_xml raw one_part) (drop i tokens) ≡ (if not (begins_well (drop j tokens)) then 2 else 1)
brace_choice {tokens = tokens} {i = i} a = let s = a.at.split in let q = a.is in let e = a.next in let h = hits_is (drop (i + 1) tokens) in rw (s, q, e, h) refl

module _ {n : ℕ} {tokens : List Lexeme} {i j : ℕ} (a : IsAt tokens i j (OfKind (token.Symbol symbol.LBrace))) where
  module _ (w : not (begins_well (drop j tokens)) ≡ true) where
    pub shown_refused : {r : Refusal} → Refused language n (of_sql raw anti) (drop i tokens) r → Refused language n (of_xml raw one_part) (drop i tokens) r
    shown_refused h = refused_by decided 2 n (omega arith) (brace_choice a ∙ if_true 1 w) (one_refused h)

  module _ (w : not (begins_well (drop j tokens)) ≡ false) where
    pub splice_refused : {r : Refusal} → Refused language n (of_quote raw) (drop j tokens) r → Refused language n (of_xml raw one_part) (drop i tokens) r
    splice_refused h = refused_by decided 1 n (omega arith) (brace_choice a ∙ if_false 2 w) (mark_read a (one_refused h))

    pub splice_open : (k : ℕ) {c : Raw} {r : Refusal} → Read language n (of_quote raw) (drop j tokens) (drop k tokens) c → Unexpected tokens k (OfKind (token.Symbol symbol.RBrace)) r → Refused language n (of_xml raw one_part) (drop i tokens) r
    splice_open k h u = refused_by decided 1 n (omega arith) (brace_choice a ∙ if_false 2 w) (mark_read a (one_read decided h (no_mark u)))

  pub splice_part : {k l : ℕ} {old new : Quotes} {m : ℕ} → Moves tokens i l → Holds antiquote (λ c. (n : ℕ) → Read language n (of_quote raw) (drop j tokens) (drop k tokens) c) tokens n old new m → IsAt tokens k l (OfKind (token.Symbol symbol.RBrace)) →
      Makes (Read language n (of_xml raw one_part) (drop i tokens) (drop l tokens)) tokens n old new (splice (span_of tokens i l) m)
  splice_part {l = l} o h b = let fl = a_mark {n = n} a (an_one (h.read n) (a_mark b nothing)) in record {
    of = mapped (splice (span_of tokens i l)) (antiquote h.code);
    read = reads_by 1 n (omega arith) (record { v = (h.code, tt); span = span_of tokens i l; is_span = covers tokens i l o fl.taken fl.split; allowed = refl; builds = refl; fills = fl }) (ends_empty _);
    made = numbered_mapped (splice (span_of tokens i l)) h.made;
  }

-- ---- parts

pub record SoFar (n : ℕ) (tokens : List Lexeme) (i j : ℕ) (old now : Quotes) (list : List XmlPart) : Type 0 where
  pub f : Quoted Raw (List XmlPart) → Quoted Raw (List XmlPart)
  pub leads : Leads language n (of_xml raw parts) (of_xml raw parts) (drop i tokens) (drop j tokens) f
  pub before : Before tokens n old now list f

parts_chosen : (ts : List Lexeme) → starts (member xml_starts) ts ≡ true → choice (of_xml raw parts) ts ≡ 1
parts_chosen [] e = false_true e
parts_chosen (t ∷ ts) e = if_true 0 e

pub parts_here : (n : ℕ) (tokens : List Lexeme) (i : ℕ) (old : Quotes) → SoFar n tokens i i old old []
parts_here n tokens i old = record { f = λ y. y; leads = leads_here; before = before_here tokens n old }

module _ {n : ℕ} {tokens : List Lexeme} {i j : ℕ} {old now : Quotes} {list : List XmlPart} (s : SoFar n tokens i j old now list) where
  pub parts_refused : {r : Refusal} → starts (member xml_starts) (drop j tokens) ≡ true → Refused language n (of_xml raw one_part) (drop j tokens) r → Refused language n (of_xml raw parts) (drop i tokens) r
  parts_refused e u = s.leads.refused _ (refused_by decided 1 n (omega arith) (parts_chosen (drop j tokens) e) (one_refused u))

  pub parts_more : (l : ℕ) {next : Quotes} {a : XmlPart} → starts (member xml_starts) (drop j tokens) ≡ true → Makes (Read language n (of_xml raw one_part) (drop j tokens) (drop l tokens)) tokens n now next a → SoFar n tokens i l old next (list ++ a ∷ [])
  parts_more l e m = record {
    f = λ y. s.f (both cons m.of y);
    leads = leads_on s.leads (record {
      found = λ rest y b. reads_by 1 n (omega arith) (record { v = (m.of, (y, tt)); span = no_span; is_span = refl; allowed = refl; builds = refl; fills = an_one m.read (an_one b nothing) }) b.stops;
      refused = λ ref u. refused_by decided 1 n (omega arith) (parts_chosen (drop j tokens) e) (one_read decided m.read (one_refused u));
    });
    before = before_more s.before m.made;
  }

  pub parts_done : starts (member xml_starts) (drop j tokens) ≡ false → Makes (Read language n (of_xml raw parts) (drop i tokens) (drop j tokens)) tokens n old now list
  parts_done e = record {
    of = s.f (plain []);
    read = s.leads.found (drop j tokens) (plain []) (reads_by 0 n (omega arith) (record { v = tt; span = no_span; is_span = refl; allowed = refl; builds = refl; fills = nothing }) (first_stops (member xml_starts) (drop j tokens) e));
    made = before_done s.before;
  }

-- ---- the end of an element

pub between_empty : {n : ℕ} {tokens : List Lexeme} {i j : ℕ} (q : Quotes) → IsAt tokens i j (OfKind (token.Symbol symbol.TagEmpty)) → let b : Enclosed = record { parts = []; closing = None } in MakesEnclosed tokens n i j q q b
between_empty {n = n} {tokens = tokens} q a = record {
  of = None;
  read = reads_by 0 n (omega arith) (record { v = tt; span = no_span; is_span = refl; allowed = refl; builds = refl; fills = a_mark a nothing }) (ends_empty _);
  closing = refl;
  made = numbered_plain tokens n q [];
}

pub no_end : {n : ℕ} {tokens : List Lexeme} {i : ℕ} {r : Refusal} → Other tokens i (OfKind (token.Symbol symbol.TagEmpty)) → Unexpected tokens i (OfKind (token.Symbol symbol.Gt)) r → Refused language n (of_xml raw element_end) (drop i tokens) r
no_end o u = syntax u.says (none_of (not_mark o, (not_mark u.other, tt)))

module _ {n : ℕ} {tokens : List Lexeme} {i j : ℕ} (a : IsAt tokens i j (OfKind (token.Symbol symbol.Gt))) where
  pub inside_refused : {r : Refusal} → Refused language n (of_xml raw parts) (drop j tokens) r → Refused language n (of_xml raw element_end) (drop i tokens) r
  inside_refused h = refused_by decided 1 n (omega arith) (chosen_mark_at (choice (of_xml raw element_end)) a (λ w s us. refl)) (mark_read a (one_refused h))

  module _ (k : ℕ) {old new : Quotes} {ps : List XmlPart} (m : Makes (Read language n (of_xml raw parts) (drop j tokens) (drop k tokens)) tokens n old new ps) where
    pub no_closing : {r : Refusal} → Unexpected tokens k (OfKind (token.Symbol symbol.TagClose)) r → Refused language n (of_xml raw element_end) (drop i tokens) r
    no_closing u = refused_by decided 1 n (omega arith) (chosen_mark_at (choice (of_xml raw element_end)) a (λ w s us. refl)) (mark_read a (one_read decided m.read (no_mark u)))

    module _ {l : ℕ} (b : IsAt tokens k l (OfKind (token.Symbol symbol.TagClose))) where
      pub closing_refused : {r : Refusal} → Refused language n (of_xml raw tag) (drop l tokens) r → Refused language n (of_xml raw element_end) (drop i tokens) r
      closing_refused h = refused_by decided 1 n (omega arith) (chosen_mark_at (choice (of_xml raw element_end)) a (λ w s us. refl)) (mark_read a (one_read decided m.read (mark_read b (one_refused h))))

      module _ (p : ℕ) {t : Tag} (c : Read language n (of_xml raw tag) (drop l tokens) (drop p tokens) t) where
        pub closing_open : {r : Refusal} → Unexpected tokens p (OfKind (token.Symbol symbol.Gt)) r → Refused language n (of_xml raw element_end) (drop i tokens) r
        closing_open u = refused_by decided 1 n (omega arith) (chosen_mark_at (choice (of_xml raw element_end)) a (λ w s us. refl)) (mark_read a (one_read decided m.read (mark_read b (one_read decided c (no_mark u)))))

        pub between_read : {e : ℕ} → IsAt tokens p e (OfKind (token.Symbol symbol.Gt)) → let z : Enclosed = record { parts = ps; closing = Some t } in MakesEnclosed tokens n i e old new z
        between_read d = record {
          of = Some (record { parts = m.of; closing = t });
          read = reads_by 1 n (omega arith) (record { v = (m.of, (t, tt)); span = no_span; is_span = refl; allowed = refl; builds = refl; fills = a_mark a (an_one m.read (a_mark b (an_one c (a_mark d nothing)))) }) (ends_empty _);
          closing = refl;
          made = m.made;
        }

-- ---- an element

only_one : (b : Bool) → let z : ℕ = if b then 0 else 0 in z ≡ 0
only_one true = refl
only_one false = refl

single_element : (ts : List Lexeme) → choice (of_xml raw element) ts ≡ 0
single_element [] = refl
single_element (t ∷ ts) = only_one _

agree_is : (t : Tag) (x : Option (Inside Raw)) → agree t (closing_of x) ≡ closes t x
agree_is t None = refl
agree_is t (Some i) = refl

module _ (m : ℕ) {n : ℕ} (e : 1 + m ≡ n) (tokens : List Lexeme) (i : ℕ) where
  pub element_begins : {r : Refusal} → Unexpected tokens i (OfKind (token.Symbol symbol.Lt)) r → Refused language n (of_xml raw element) (drop i tokens) r
  element_begins u = refused_by decided 0 m e (single_element (drop i tokens)) (no_mark u)

  module _ {j : ℕ} (a : IsAt tokens i j (OfKind (token.Symbol symbol.Lt))) where
    pub opening_refused : {r : Refusal} → Refused language m (of_xml raw tag) (drop j tokens) r → Refused language n (of_xml raw element) (drop i tokens) r
    opening_refused h = refused_by decided 0 m e (single_element (drop i tokens)) (mark_read a (one_refused h))

    module _ (k : ℕ) {t : Tag} (b : Read language m (of_xml raw tag) (drop j tokens) (drop k tokens) t) where
      pub attributes_refused : {r : Refusal} → Refused language m (of_xml raw attrs) (drop k tokens) r → Refused language n (of_xml raw element) (drop i tokens) r
      attributes_refused h = refused_by decided 0 m e (single_element (drop i tokens)) (mark_read a (one_read decided b (one_refused h)))

      module _ (l : ℕ) {one two : Quotes} {as_ : List Attr} (c : Makes (Read language m (of_xml raw attrs) (drop k tokens) (drop l tokens)) tokens m one two as_) where
        pub end_refused : {r : Refusal} → Refused language m (of_xml raw element_end) (drop l tokens) r → Refused language n (of_xml raw element) (drop i tokens) r
        end_refused h = refused_by decided 0 m e (single_element (drop i tokens)) (mark_read a (one_read decided b (one_read decided c.read (one_refused h))))

        module _ (p : ℕ) {three : Quotes} {z : Enclosed} (d : MakesEnclosed tokens m l p two three z) where
          pub tags_differ : {r : Refusal} → Says r 5 [] [] → agree t z.closing ≡ false → Refused language n (of_xml raw element) (drop i tokens) r
          tags_differ says w = refused_by decided 0 m e (single_element (drop i tokens)) (mark_read a (one_read decided b (one_read decided c.read (one_read decided d.read
              (not_allowed says (λ rest y. false_true (sym w ∙ ap (agree t) d.closing ∙ agree_is t d.of ∙ y.allowed)))))))

          pub element_read : Moves tokens i p → agree t z.closing ≡ true → Makes (Read language n (of_xml raw element) (drop i tokens) (drop p tokens)) tokens n one three (element_of (span_of tokens i p) t as_ z.parts)
          element_read o w = let fl = a_mark {n = m} a (an_one b (an_one c.read (an_one d.read nothing))) in let le : 1 + m ≤ n = omega (arith, e) in record {
            of = deeper raw (both (element_of (span_of tokens i p) t) c.of (inner d.of));
            read = reads_by 0 m le (record {
              v = (t, (c.of, (d.of, tt)));
              span = span_of tokens i p;
              is_span = covers tokens i p o fl.taken fl.split;
              allowed = sym (agree_is t d.of) ∙ sym (ap (agree t) d.closing) ∙ w;
              builds = refl;
              fills = fl;
            }) (ends_empty _);
            made = numbered_deeper n m (omega (arith, e)) (numbered_both (element_of (span_of tokens i p) t) c.made d.made);
          }

-- ---- a literal

pub literal_empty : {n : ℕ} {tokens : List Lexeme} {i j : ℕ} (q : Quotes) → IsAt tokens i j (OfKind (token.Symbol symbol.XmlEmpty)) → Makes (Read language n (of_xml raw literal) (drop i tokens) (drop j tokens)) tokens n q q (literal_of [])
literal_empty {n = n} {tokens = tokens} q a = record {
  of = plain (literal_of []);
  read = reads_by 1 n (omega arith) (record { v = tt; span = no_span; is_span = refl; allowed = refl; builds = refl; fills = a_mark a nothing }) (ends_empty _);
  made = numbered_plain tokens n q (literal_of []);
}

pub no_literal : {n : ℕ} {tokens : List Lexeme} {i : ℕ} {r : Refusal} → Other tokens i (OfKind (token.Symbol symbol.XmlEmpty)) → Unexpected tokens i (OfKind (token.Symbol symbol.XmlOpen)) r → Refused language n (of_xml raw literal) (drop i tokens) r
no_literal o u = syntax u.says (none_of (not_mark u.other, (not_mark o, tt)))

module _ {n : ℕ} {tokens : List Lexeme} {i j : ℕ} (a : IsAt tokens i j (OfKind (token.Symbol symbol.XmlOpen))) where
  pub literal_parts : {r : Refusal} → Refused language n (of_xml raw parts) (drop j tokens) r → Refused language n (of_xml raw literal) (drop i tokens) r
  literal_parts h = refused_by decided 0 n (omega arith) (chosen_mark_at (choice (of_xml raw literal)) a (λ w s us. refl)) (mark_read a (one_refused h))

  module _ (k : ℕ) {old new : Quotes} {ps : List XmlPart} (m : Makes (Read language n (of_xml raw parts) (drop j tokens) (drop k tokens)) tokens n old new ps) where
    pub literal_open : {r : Refusal} → Unexpected tokens k (OfKind (token.Symbol symbol.XmlClose)) r → Refused language n (of_xml raw literal) (drop i tokens) r
    literal_open u = refused_by decided 0 n (omega arith) (chosen_mark_at (choice (of_xml raw literal)) a (λ w s us. refl)) (mark_read a (one_read decided m.read (no_mark u)))

    pub literal_read : {l : ℕ} → IsAt tokens k l (OfKind (token.Symbol symbol.XmlClose)) → Makes (Read language n (of_xml raw literal) (drop i tokens) (drop l tokens)) tokens n old new (literal_of ps)
    literal_read b = record {
      of = mapped literal_of m.of;
      read = reads_by 0 n (omega arith) (record { v = (m.of, tt); span = no_span; is_span = refl; allowed = refl; builds = refl; fills = a_mark a (an_one m.read (a_mark b nothing)) }) (ends_empty _);
      made = numbered_mapped literal_of m.made;
    }

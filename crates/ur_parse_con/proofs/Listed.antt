-- Fields are read in a loop.
use Rattle.std.specs.Prelude.{◌≡◌, ℕ, true, false, ◌+◌, List, [], ◌∷◌, ◌++◌, drop, Some, None, refl}
use Rattle.std.proofs.Common.{sym, ◌∙◌, arith, append_assoc}
use Rattle.std.proofs.lemmas.List.{append-nil}
use Rattle.ur_base.specs.declared.refusal.Refusal.{Refusal}
use Rattle.ur_base.specs.Stopping.{Says}
use Rattle.ur_lex.specs.declared.token.Symbol.TheVariants as symbol
use Rattle.ur_lex.specs.declared.token.TokenKind.TheVariants as token
use Rattle.ur_lex.specs.declared.token.Lexeme.{Lexeme}
use Rattle.ur_syntax.specs.declared.con.FieldName.{FieldName}
use Rattle.ur_syntax.specs.declared.con.Con.{Con}
use Rattle.ur_syntax.specs.declared.con.CField.{CField}
use Rattle.ur_syntax.specs.declared.con.CField.TheVariants as cfield
use Rattle.ur_syntax.specs.declared.con.RecordField.{RecordField}
use Rattle.ur_parse_rules.specs.Rules.{Read, Refused, no_span, syntax, Stops}
use Rattle.ur_parse_rules.specs.Places.{IsAt, Other, OfKind, Unexpected, starts}
use Rattle.ur_parse_rules.proofs.Steps.{Leads, nothing, a_mark, an_one, mark_read, one_read, one_refused, no_mark, not_mark, reads_by, refused_by, none_of}
use Rattle.ur_parse_rules.proofs.Choices.{chosen_mark_at, first_stops, stops_first, starts_at}
use Rattle.ur_parse_rules.specs.Classes.{member, in_class, symbol_class}
use Rattle.ur_parse_rules.specs.ConParts.{con, row, row_tail, row_field, row_value, fields, fields_tail, record_field, field_name}
use Rattle.ur_parse_rules.specs.declared.parse_rules_place.ConPlace.TheVariants as places
use Rattle.ur_parse_rules.specs.Ends.{con_more}
use Rattle.ur_parse_rules.specs.Parts.{of_con}
use Rattle.ur_parse_rules.specs.Language.{language}
use Rattle.ur_parse_rules.proofs.Choice.{choice}
use Rattle.ur_parse_rules.proofs.AllDecided.{decided}
use Rattle.ur_parse_rules.proofs.Tests.{false_true, or_second}
use Rattle.ur_parse_rules.proofs.Places.{ends_empty, missing, stops_cons, may_not_end}
use Rattle.ur_parse_con.proofs.Classed.{row_goes_on, fields_go_on, no_value, single_field, single_record_field}

module _ {n : ℕ} {tokens : List Lexeme} where
  -- the first one leads on to those behind it
  pub row_first : {at : ℕ} (end : ℕ) {x : CField} → Other tokens at (OfKind (token.Symbol symbol.RBracket)) → Read language n (of_con row_field) (drop at tokens) (drop end tokens) x →
      Leads language n (of_con row) (of_con row_tail) (drop at tokens) (drop end tokens) (λ ys. x ∷ ys)
  row_first end {x = x} o r = record {
    found = λ rest ys a. reads_by 1 n (omega arith) (record { v = (x, (ys, tt)); span = no_span; is_span = refl; allowed = refl; builds = refl; fills = an_one r (an_one a nothing) }) (ends_empty _);
    refused = λ ref h. refused_by decided 1 n (omega arith) (row_goes_on o) (one_read decided r (one_refused h));
  }

  -- another one behind a comma
  row_next : {end begin : ℕ} (next : ℕ) {x : CField} → IsAt tokens end begin (OfKind (token.Symbol symbol.Comma)) → Read language n (of_con row_field) (drop begin tokens) (drop next tokens) x →
      Leads language n (of_con row_tail) (of_con row_tail) (drop end tokens) (drop next tokens) (λ ys. x ∷ ys)
  row_next next {x = x} c r = record {
    found = λ rest ys a. reads_by 1 n (omega arith) (record { v = (x, (ys, tt)); span = no_span; is_span = refl; allowed = refl; builds = refl; fills = a_mark c (an_one r (an_one a nothing)) }) (ends_empty _);
    refused = λ ref h. refused_by decided 1 n (omega arith) (chosen_mark_at (choice (of_con row_tail)) c (λ w s us. refl)) (mark_read c (one_read decided r (one_refused h)));
  }

  pub row_first_refused : {at : ℕ} {ref : Refusal} → Other tokens at (OfKind (token.Symbol symbol.RBracket)) → Refused language n (of_con row_field) (drop at tokens) ref → Refused language n (of_con row) (drop at tokens) ref
  row_first_refused o h = refused_by decided 1 n (omega arith) (row_goes_on o) (one_refused h)

  pub row_next_refused : (at : ℕ) {end begin : ℕ} (fs : List CField) {ref : Refusal} → Leads language n (of_con row) (of_con row_tail) (drop at tokens) (drop end tokens) (λ ys. fs ++ ys) → IsAt tokens end begin (OfKind (token.Symbol symbol.Comma)) →
      Refused language n (of_con row_field) (drop begin tokens) ref → Refused language n (of_con row) (drop at tokens) ref
  row_next_refused at fs l c h = l.refused _ (refused_by decided 1 n (omega arith) (chosen_mark_at (choice (of_con row_tail)) c (λ w s us. refl)) (mark_read c (one_refused h)))

  pub row_empty : {at next : ℕ} → IsAt tokens at next (OfKind (token.Symbol symbol.RBracket)) → Read language n (of_con row) (drop at tokens) (drop next tokens) []
  row_empty a = reads_by 0 n (omega arith) (record { v = tt; span = no_span; is_span = refl; allowed = refl; builds = refl; fills = a_mark a nothing }) (ends_empty _)

  -- one more at the end
  pub row_more : (at : ℕ) {end begin : ℕ} (next : ℕ) (fs : List CField) {x : CField} → Leads language n (of_con row) (of_con row_tail) (drop at tokens) (drop end tokens) (λ ys. fs ++ ys) → IsAt tokens end begin (OfKind (token.Symbol symbol.Comma)) →
      Read language n (of_con row_field) (drop begin tokens) (drop next tokens) x → Leads language n (of_con row) (of_con row_tail) (drop at tokens) (drop next tokens) (λ ys. (fs ++ x ∷ []) ++ ys)
  row_more at next fs {x = x} l c r = let k = row_next next c r in record {
    found = λ rest ys a. rw (append_assoc fs (x ∷ []) ys) (l.found rest (x ∷ ys) (k.found rest ys a));
    refused = λ ref h. l.refused ref (k.refused ref h);
  }

  pub row_done : (at : ℕ) {end close : ℕ} (fs : List CField) → Leads language n (of_con row) (of_con row_tail) (drop at tokens) (drop end tokens) (λ ys. fs ++ ys) → IsAt tokens end close (OfKind (token.Symbol symbol.RBracket)) →
      Read language n (of_con row) (drop at tokens) (drop close tokens) fs
  row_done at {close = close} fs l a = rw append-nil at (l.found (drop close tokens) [] (reads_by 0 n (omega arith) (record { v = tt; span = no_span; is_span = refl; allowed = refl; builds = refl; fills = a_mark a nothing }) (ends_empty _)))

  -- where neither a comma nor the end stands
  pub row_open : (at : ℕ) {end : ℕ} (fs : List CField) {ref : Refusal} → Leads language n (of_con row) (of_con row_tail) (drop at tokens) (drop end tokens) (λ ys. fs ++ ys) → Other tokens end (OfKind (token.Symbol symbol.Comma)) →
      Unexpected tokens end (OfKind (token.Symbol symbol.RBracket)) ref → Refused language n (of_con row) (drop at tokens) ref
  row_open at fs l o u = l.refused _ (syntax u.says (none_of (not_mark u.other, (not_mark o, tt))))

module _ {n : ℕ} {tokens : List Lexeme} where
  -- the first one leads on to those behind it
  pub fields_first : {at : ℕ} (end : ℕ) {x : RecordField} → Other tokens at (OfKind (token.Symbol symbol.RBrace)) → Read language n (of_con record_field) (drop at tokens) (drop end tokens) x →
      Leads language n (of_con fields) (of_con fields_tail) (drop at tokens) (drop end tokens) (λ ys. x ∷ ys)
  fields_first end {x = x} o r = record {
    found = λ rest ys a. reads_by 1 n (omega arith) (record { v = (x, (ys, tt)); span = no_span; is_span = refl; allowed = refl; builds = refl; fills = an_one r (an_one a nothing) }) (ends_empty _);
    refused = λ ref h. refused_by decided 1 n (omega arith) (fields_go_on o) (one_read decided r (one_refused h));
  }

  -- another one behind a comma
  fields_next : {end begin : ℕ} (next : ℕ) {x : RecordField} → IsAt tokens end begin (OfKind (token.Symbol symbol.Comma)) → Read language n (of_con record_field) (drop begin tokens) (drop next tokens) x →
      Leads language n (of_con fields_tail) (of_con fields_tail) (drop end tokens) (drop next tokens) (λ ys. x ∷ ys)
  fields_next next {x = x} c r = record {
    found = λ rest ys a. reads_by 1 n (omega arith) (record { v = (x, (ys, tt)); span = no_span; is_span = refl; allowed = refl; builds = refl; fills = a_mark c (an_one r (an_one a nothing)) }) (ends_empty _);
    refused = λ ref h. refused_by decided 1 n (omega arith) (chosen_mark_at (choice (of_con fields_tail)) c (λ w s us. refl)) (mark_read c (one_read decided r (one_refused h)));
  }

  pub fields_first_refused : {at : ℕ} {ref : Refusal} → Other tokens at (OfKind (token.Symbol symbol.RBrace)) → Refused language n (of_con record_field) (drop at tokens) ref → Refused language n (of_con fields) (drop at tokens) ref
  fields_first_refused o h = refused_by decided 1 n (omega arith) (fields_go_on o) (one_refused h)

  pub fields_next_refused : (at : ℕ) {end begin : ℕ} (fs : List RecordField) {ref : Refusal} → Leads language n (of_con fields) (of_con fields_tail) (drop at tokens) (drop end tokens) (λ ys. fs ++ ys) → IsAt tokens end begin (OfKind (token.Symbol symbol.Comma)) →
      Refused language n (of_con record_field) (drop begin tokens) ref → Refused language n (of_con fields) (drop at tokens) ref
  fields_next_refused at fs l c h = l.refused _ (refused_by decided 1 n (omega arith) (chosen_mark_at (choice (of_con fields_tail)) c (λ w s us. refl)) (mark_read c (one_refused h)))

  pub fields_empty : {at next : ℕ} → IsAt tokens at next (OfKind (token.Symbol symbol.RBrace)) → Read language n (of_con fields) (drop at tokens) (drop next tokens) []
  fields_empty a = reads_by 0 n (omega arith) (record { v = tt; span = no_span; is_span = refl; allowed = refl; builds = refl; fills = a_mark a nothing }) (ends_empty _)

  -- one more at the end
  pub fields_more : (at : ℕ) {end begin : ℕ} (next : ℕ) (fs : List RecordField) {x : RecordField} → Leads language n (of_con fields) (of_con fields_tail) (drop at tokens) (drop end tokens) (λ ys. fs ++ ys) → IsAt tokens end begin (OfKind (token.Symbol symbol.Comma)) →
      Read language n (of_con record_field) (drop begin tokens) (drop next tokens) x → Leads language n (of_con fields) (of_con fields_tail) (drop at tokens) (drop next tokens) (λ ys. (fs ++ x ∷ []) ++ ys)
  fields_more at next fs {x = x} l c r = let k = fields_next next c r in record {
    found = λ rest ys a. rw (append_assoc fs (x ∷ []) ys) (l.found rest (x ∷ ys) (k.found rest ys a));
    refused = λ ref h. l.refused ref (k.refused ref h);
  }

  pub fields_done : (at : ℕ) {end close : ℕ} (fs : List RecordField) → Leads language n (of_con fields) (of_con fields_tail) (drop at tokens) (drop end tokens) (λ ys. fs ++ ys) → IsAt tokens end close (OfKind (token.Symbol symbol.RBrace)) →
      Read language n (of_con fields) (drop at tokens) (drop close tokens) fs
  fields_done at {close = close} fs l a = rw append-nil at (l.found (drop close tokens) [] (reads_by 0 n (omega arith) (record { v = tt; span = no_span; is_span = refl; allowed = refl; builds = refl; fills = a_mark a nothing }) (ends_empty _)))

  -- where neither a comma nor the end stands
  pub fields_open : (at : ℕ) {end : ℕ} (fs : List RecordField) {ref : Refusal} → Leads language n (of_con fields) (of_con fields_tail) (drop at tokens) (drop end tokens) (λ ys. fs ++ ys) → Other tokens end (OfKind (token.Symbol symbol.Comma)) →
      Unexpected tokens end (OfKind (token.Symbol symbol.RBrace)) ref → Refused language n (of_con fields) (drop at tokens) ref
  fields_open at fs l o u = l.refused _ (syntax u.says (none_of (not_mark u.other, (not_mark o, tt))))

going : (ts : List Lexeme) → starts (member (con_more false)) ts ≡ true → Stops (member (symbol_class symbol.Eq ∷ con_more false)) ts → ⊥
going [] e s = false_true e
going (t ∷ ts) e s = false_true (sym s ∙ or_second (in_class (symbol_class symbol.Eq) t.kind t.content) _ e)

-- ---- one field

module _ {n : ℕ} (tokens : List Lexeme) (at : ℕ) where
  pub name_refused : {r : Refusal} → Refused language n (of_con field_name) (drop at tokens) r → Refused language n (of_con row_field) (drop at tokens) r
  name_refused h = refused_by decided 0 n (omega arith) (single_field (drop at tokens)) (one_refused h)

  pub value_refused : {end next : ℕ} {x : FieldName} {r : Refusal} → Read language n (of_con field_name) (drop at tokens) (drop end tokens) x → IsAt tokens end next (OfKind (token.Symbol symbol.Eq)) → Refused language n (of_con (con places.Plain)) (drop next tokens) r →
      Refused language n (of_con row_field) (drop at tokens) r
  value_refused f a h = refused_by decided 0 n (omega arith) (single_field (drop at tokens)) (one_read decided f (one_refused (refused_by decided 1 n (omega arith) (chosen_mark_at (choice (of_con row_value)) a (λ w s us. refl)) (mark_read a (one_refused h)))))

  pub given_read : {end next stop : ℕ} {x : FieldName} {c : Con} → Read language n (of_con field_name) (drop at tokens) (drop end tokens) x → IsAt tokens end next (OfKind (token.Symbol symbol.Eq)) →
      Read language n (of_con (con places.Plain)) (drop next tokens) (drop stop tokens) c → Other tokens stop (OfKind (token.Symbol symbol.Eq)) → Read language n (of_con row_field) (drop at tokens) (drop stop tokens) (cfield.Given x c)
  given_read {end = end} {stop = stop} {x = x} {c = c} f a r o = let s = stops_cons (symbol_class symbol.Eq) (con_more false) (drop stop tokens) (missing refl o) r.stops in
      let value : Read language n (of_con row_value) (drop end tokens) (drop stop tokens) (Some c) = reads_by 1 n (omega arith) (record { v = (c, tt); span = no_span; is_span = refl; allowed = refl; builds = refl; fills = a_mark a (an_one r nothing) }) s in
      reads_by 0 n (omega arith) (record { v = (x, (Some c, tt)); span = no_span; is_span = refl; allowed = refl; builds = refl; fills = an_one f (an_one value nothing) }) s

  pub given_refused : {end next stop past : ℕ} {x : FieldName} {c : Con} {r : Refusal} → Read language n (of_con field_name) (drop at tokens) (drop end tokens) x → IsAt tokens end next (OfKind (token.Symbol symbol.Eq)) →
      Read language n (of_con (con places.Plain)) (drop next tokens) (drop stop tokens) c → Says r 5 [] [] → IsAt tokens stop past (OfKind (token.Symbol symbol.Eq)) → Refused language n (of_con row_field) (drop at tokens) r
  given_refused {stop = stop} f a r says e = refused_by decided 0 n (omega arith) (single_field (drop at tokens)) (one_read decided f (one_refused (refused_by decided 1 n (omega arith) (chosen_mark_at (choice (of_con row_value)) a (λ w s us. refl)) (mark_read a (one_read decided r
      (may_not_end says (λ p. let z = stops_first (member (symbol_class symbol.Eq ∷ con_more false)) (drop stop tokens) p.stops in false_true (sym z ∙ starts_at (member (symbol_class symbol.Eq ∷ con_more false)) e (λ w. refl)))))))))

  pub bare_read : {end : ℕ} {x : FieldName} → Read language n (of_con field_name) (drop at tokens) (drop end tokens) x → Other tokens end (OfKind (token.Symbol symbol.Eq)) → starts (member (con_more false)) (drop end tokens) ≡ false →
      Read language n (of_con row_field) (drop at tokens) (drop end tokens) (cfield.Bare x)
  bare_read {end = end} {x = x} f o e = let s = stops_cons (symbol_class symbol.Eq) (con_more false) (drop end tokens) (missing refl o) (first_stops (member (con_more false)) (drop end tokens) e) in
      let value : Read language n (of_con row_value) (drop end tokens) (drop end tokens) None = reads_by 0 n (omega arith) (record { v = tt; span = no_span; is_span = refl; allowed = refl; builds = refl; fills = nothing }) s in
      reads_by 0 n (omega arith) (record { v = (x, (None, tt)); span = no_span; is_span = refl; allowed = refl; builds = refl; fills = an_one f (an_one value nothing) }) s

  pub bare_refused : {end : ℕ} {x : FieldName} {r : Refusal} → Read language n (of_con field_name) (drop at tokens) (drop end tokens) x → Other tokens end (OfKind (token.Symbol symbol.Eq)) → Says r 5 [] [] → starts (member (con_more false)) (drop end tokens) ≡ true →
      Refused language n (of_con row_field) (drop at tokens) r
  bare_refused {end = end} f o says e = refused_by decided 0 n (omega arith) (single_field (drop at tokens)) (one_read decided f (one_refused (refused_by decided 0 n (omega arith) (no_value o)
      (may_not_end says (λ p. going (drop end tokens) e p.stops)))))

module _ {n : ℕ} (tokens : List Lexeme) (at : ℕ) where
  pub key_refused : {r : Refusal} → Refused language n (of_con field_name) (drop at tokens) r → Refused language n (of_con record_field) (drop at tokens) r
  key_refused h = refused_by decided 0 n (omega arith) (single_record_field (drop at tokens)) (one_refused h)

  pub colon_refused : {colon : ℕ} {x : FieldName} {r : Refusal} → Read language n (of_con field_name) (drop at tokens) (drop colon tokens) x → Unexpected tokens colon (OfKind (token.Symbol symbol.Colon)) r → Refused language n (of_con record_field) (drop at tokens) r
  colon_refused f u = refused_by decided 0 n (omega arith) (single_record_field (drop at tokens)) (one_read decided f (no_mark u))

  pub type_refused : {colon next : ℕ} {x : FieldName} {r : Refusal} → Read language n (of_con field_name) (drop at tokens) (drop colon tokens) x → IsAt tokens colon next (OfKind (token.Symbol symbol.Colon)) → Refused language n (of_con (con places.Plain)) (drop next tokens) r →
      Refused language n (of_con record_field) (drop at tokens) r
  type_refused f a h = refused_by decided 0 n (omega arith) (single_record_field (drop at tokens)) (one_read decided f (mark_read a (one_refused h)))

  pub field_read : {colon next : ℕ} (stop : ℕ) {x : FieldName} {c : Con} → Read language n (of_con field_name) (drop at tokens) (drop colon tokens) x → IsAt tokens colon next (OfKind (token.Symbol symbol.Colon)) →
      Read language n (of_con (con places.Plain)) (drop next tokens) (drop stop tokens) c → let f : RecordField = record { name = x; con = c } in Read language n (of_con record_field) (drop at tokens) (drop stop tokens) f
  field_read stop {x = x} {c = c} f a r = reads_by 0 n (omega arith) (record { v = (x, (c, tt)); span = no_span; is_span = refl; allowed = refl; builds = refl; fills = an_one f (a_mark a (an_one r nothing)) }) r.stops

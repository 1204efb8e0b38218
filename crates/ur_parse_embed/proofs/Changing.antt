-- INSERT, UPDATE and DELETE are read by their first words.
use Rattle.std.specs.Prelude.{◌≡◌, ◌+◌, ◌≤◌, ℕ, Bool, true, false, if◌then◌else◌, List, [], ◌∷◌, ◌++◌, drop, codes, Option, Some, None, refl}
use Rattle.std.proofs.Common.{sym, ◌∙◌, ap, arith}
use Rattle.ur_base.specs.declared.refusal.Refusal.{Refusal}
use Rattle.ur_base.specs.Stopping.{Says}
use Rattle.ur_lex.specs.declared.token.Symbol.TheVariants as symbol
use Rattle.ur_lex.specs.declared.token.TokenKind.TheVariants as token
use Rattle.ur_lex.specs.declared.token.Lexeme.{Lexeme}
use Rattle.ur_lex.specs.Spelling.{Text}
use Rattle.ur_syntax.specs.declared.sql.SqlExp.{SqlExp}
use Rattle.ur_syntax.specs.declared.sql.SqlChange.{SqlChange}
use Rattle.ur_syntax.specs.declared.sql.SqlChange.TheVariants as changes
use Rattle.ur_syntax.specs.declared.sql.DeclName.{DeclName}
use Rattle.ur_syntax.specs.declared.sql.Assignment.{Assignment}
use Rattle.ur_parse_rules.specs.Places.{IsName, Passing}
use Rattle.ur_parse_rules.proofs.Steps.{a_name, name_read, no_name}
use Rattle.ur_parse_rules.specs.Words.{is_field}
use Rattle.ur_parse_rules.specs.Statements.{assigned, inserted, updated, deleted}
use Rattle.ur_parse_rules.specs.Rules.{Read, Refused, Stops, no_span, syntax}
use Rattle.ur_parse_rules.specs.Places.{Moves, span_of, IsAt, Other, OfKind, Spelled, Unexpected, starts}
use Rattle.ur_parse_rules.proofs.Tokens.{covers}
use Rattle.ur_parse_rules.proofs.Steps.{nothing, a_mark, a_word, a_number, an_one, mark_read, word_read, one_read, one_refused, no_mark, no_word, not_mark, not_word, reads_by, refused_by, none_of}
use Rattle.ur_parse_rules.proofs.Choices.{chosen_mark_at, chosen_word_at, first_stops, if_true, if_false}
use Rattle.ur_parse_rules.specs.Classes.{Classes, member, all_of, word_class}
use Rattle.ur_parse_rules.specs.Quoted.{Quoted, Raw, raw, plain, antiquote, mapped, both, cons, some, and_then}
use Rattle.ur_parse_rules.specs.SqlParts as s
use Rattle.ur_parse_rules.specs.Parts.{of_sql}
use Rattle.ur_parse_rules.specs.Ends.{sql_last, sql_operators}
use Rattle.ur_parse_rules.specs.Language.{language}
use Rattle.ur_parse_rules.proofs.Choice.{choice}
use Rattle.ur_parse_rules.proofs.AllDecided.{decided}
use Rattle.ur_parse_rules.proofs.Places.{ends_empty, missing, stops_cons, may_not_end}
use Rattle.ur_parse_embed_code.specs.declared.quotes.Quotes.{Quotes}
use Rattle.ur_parse_embed_code.specs.Quotes.{Numbered, Makes, Holds}
use Rattle.ur_parse_embed_code.proofs.Numbering.{numbered_plain, numbered_mapped, numbered_both}
use Rattle.ur_parse_embed.proofs.Words.{no_word as word_stops}
use Rattle.ur_parse_embed.specs.Pieces.{Adds, Extends}
use Rattle.ur_parse_embed.proofs.Growing.{goes_on_not, Grown, grown_more, grown_done, AddedFrom, added_more, added_done}

only_one : (b : Bool) → let z : ℕ = if b then 0 else 0 in z ≡ 0
only_one true = refl
only_one false = refl

-- ---- an assignment

single_assignment : (ts : List Lexeme) → choice (of_sql raw s.assignment) ts ≡ 0
single_assignment [] = refl
single_assignment (t ∷ ts) = only_one _

module _ {n : ℕ} (tokens : List Lexeme) (i : ℕ) where
  pub assigned_missing : {r : Refusal} → Unexpected tokens i (Passing token.Upper is_field) r → Refused language n (of_sql raw s.assignment) (drop i tokens) r
  assigned_missing u = refused_by decided 0 n (omega arith) (single_assignment (drop i tokens)) (no_name u)

  module _ {j : ℕ} {x : Text} (a : IsName tokens i j token.Upper is_field x) where
    pub equals_missing : {r : Refusal} → Unexpected tokens j (OfKind (token.Symbol symbol.Eq)) r → Refused language n (of_sql raw s.assignment) (drop i tokens) r
    equals_missing u = refused_by decided 0 n (omega arith) (single_assignment (drop i tokens)) (name_read a (no_mark u))

    module _ {k : ℕ} (b : IsAt tokens j k (OfKind (token.Symbol symbol.Eq))) where
      pub value_refused : {r : Refusal} → Refused language n (of_sql raw (s.sexp true)) (drop k tokens) r → Refused language n (of_sql raw s.assignment) (drop i tokens) r
      value_refused h = refused_by decided 0 n (omega arith) (single_assignment (drop i tokens)) (name_read a (mark_read b (one_refused h)))

      pub assignment_read : (l : ℕ) {old new : Quotes} {y : SqlExp} → Makes (Read language n (of_sql raw (s.sexp true)) (drop k tokens) (drop l tokens)) tokens n old new y →
          let z : Assignment = record { column = x; value = y } in Makes (Read language n (of_sql raw s.assignment) (drop i tokens) (drop l tokens)) tokens n old new z
      assignment_read l m = record {
        of = mapped (assigned x) m.of;
        read = reads_by 0 n (omega arith) (record { v = (x, (m.of, tt)); span = no_span; is_span = refl; allowed = refl; builds = refl; fills = a_name a (a_mark b (an_one m.read nothing)) }) m.read.stops;
        made = numbered_mapped (assigned x) m.made;
      }

-- ---- more assignments

abbrev pub MoreAssignments : ℕ → List Lexeme → List Lexeme → Quoted Raw (List Assignment) → Type 0
MoreAssignments n = Read language n (of_sql raw s.more_assignments)

abbrev pub NoMoreAssignments : ℕ → List Lexeme → Refusal → Type 0
NoMoreAssignments n = Refused language n (of_sql raw s.more_assignments)

no_comma : (ts : List Lexeme) → Stops (member (all_of (token.Symbol symbol.Comma) ∷ [])) ts → choice (of_sql raw s.more_assignments) ts ≡ 0
no_comma [] st = refl
no_comma (t ∷ ts) st = if_false 1 st

module _ {n : ℕ} {tokens : List Lexeme} {i j : ℕ} {old now : Quotes} {list : List Assignment} (g : Grown (MoreAssignments n) (NoMoreAssignments n) tokens n i j old now list) where
  module _ (a : IsAt tokens j (j + 1) (OfKind (token.Symbol symbol.Comma))) where
    pub assignments_refused : {r : Refusal} → Refused language n (of_sql raw s.assignment) (drop (j + 1) tokens) r → Refused language n (of_sql raw s.more_assignments) (drop i tokens) r
    assignments_refused h = g.refused _ (refused_by decided 1 n (omega arith) (chosen_mark_at (choice (of_sql raw s.more_assignments)) a (λ w p us. refl)) (mark_read a (one_refused h)))

    pub assignments_more : (l : ℕ) {next : Quotes} {x : Assignment} → Makes (Read language n (of_sql raw s.assignment) (drop (j + 1) tokens) (drop l tokens)) tokens n now next x →
        Grown (MoreAssignments n) (NoMoreAssignments n) tokens n i l old next (list ++ x ∷ [])
    assignments_more l m = grown_more (MoreAssignments n) (NoMoreAssignments n) g l (λ y. both cons m.of y)
        (λ rest y b. reads_by 1 n (omega arith) (record { v = (m.of, (y, tt)); span = no_span; is_span = refl; allowed = refl; builds = refl; fills = a_mark a (an_one m.read (an_one b nothing)) }) b.stops)
        (λ r u. refused_by decided 1 n (omega arith) (chosen_mark_at (choice (of_sql raw s.more_assignments)) a (λ w p us. refl)) (mark_read a (one_read decided m.read (one_refused u))))
        (λ new y ts z. numbered_both cons m.made z)

  pub assignments_ended : {r : Refusal} → Other tokens j (OfKind (token.Symbol symbol.Comma)) → Says r 5 [] [] → starts (member (sql_last s.more_assignments)) (drop j tokens) ≡ true → Refused language n (of_sql raw s.more_assignments) (drop i tokens) r
  assignments_ended o says e = g.refused _ (refused_by decided 0 n (omega arith) (no_comma (drop j tokens) (missing refl o)) (may_not_end says (λ q. goes_on_not (sql_last s.more_assignments) (drop j tokens) e q.stops)))

  pub assignments_done : starts (member (sql_last s.more_assignments)) (drop j tokens) ≡ false → Makes (Read language n (of_sql raw s.more_assignments) (drop i tokens) (drop j tokens)) tokens n old now list
  assignments_done e = grown_done (MoreAssignments n) (NoMoreAssignments n) g j
      (reads_by 0 n (omega arith) (record { v = tt; span = no_span; is_span = refl; allowed = refl; builds = refl; fills = nothing }) (first_stops (member (sql_last s.more_assignments)) (drop j tokens) e))

-- ---- columns up to their parenthesis

abbrev pub ColumnsEnd : ℕ → List Lexeme → List Lexeme → List Text → Type 0
ColumnsEnd n = Read language n (of_sql raw s.columns_end)

abbrev pub NoColumnsEnd : ℕ → List Lexeme → Refusal → Type 0
NoColumnsEnd n = Refused language n (of_sql raw s.columns_end)

module _ {tokens : List Lexeme} {i j : ℕ} {before list : List Text} (c : AddedFrom ColumnsEnd NoColumnsEnd tokens i j before list) where
  module _ (a : IsAt tokens j (j + 1) (OfKind (token.Symbol symbol.Comma))) where
    pub columns_refused : {r : Refusal} → Unexpected tokens (j + 1) (Passing token.Upper is_field) r → (n : ℕ) → Refused language n (of_sql raw s.columns_end) (drop i tokens) r
    columns_refused u n = c.refused n _ (refused_by decided 1 n (omega arith) (chosen_mark_at (choice (of_sql raw s.columns_end)) a (λ w p us. refl)) (mark_read a (no_name u)))

    pub columns_more : (l : ℕ) {x : Text} → IsName tokens (j + 1) l token.Upper is_field x → AddedFrom ColumnsEnd NoColumnsEnd tokens i l before (list ++ x ∷ [])
    columns_more l {x = x} b = added_more ColumnsEnd NoColumnsEnd c l
        (λ n rest y r. reads_by 1 n (omega arith) (record { v = (x, (y, tt)); span = no_span; is_span = refl; allowed = refl; builds = refl; fills = a_mark a (a_name b (an_one r nothing)) }) r.stops)
        (λ n r h. refused_by decided 1 n (omega arith) (chosen_mark_at (choice (of_sql raw s.columns_end)) a (λ w p us. refl)) (mark_read a (name_read b (one_refused h))))

  pub columns_open : {r : Refusal} → Other tokens j (OfKind (token.Symbol symbol.Comma)) → Unexpected tokens j (OfKind (token.Symbol symbol.RParen)) r → (n : ℕ) → Refused language n (of_sql raw s.columns_end) (drop i tokens) r
  columns_open o u n = c.refused n _ (syntax u.says (none_of (not_mark u.other, (not_mark o, tt))))

  pub columns_done : {k : ℕ} → IsAt tokens j k (OfKind (token.Symbol symbol.RParen)) → (n : ℕ) → Adds (Read language n (of_sql raw s.columns_end) (drop i tokens) (drop k tokens)) before list
  columns_done {k = k} a n = added_done ColumnsEnd NoColumnsEnd c n k (reads_by 0 n (omega arith) (record { v = tt; span = no_span; is_span = refl; allowed = refl; builds = refl; fills = a_mark a nothing }) (ends_empty _))

-- ---- values up to their parenthesis

abbrev pub ValuesEnd : ℕ → List Lexeme → List Lexeme → Quoted Raw (List SqlExp) → Type 0
ValuesEnd n = Read language n (of_sql raw s.values_end)

abbrev pub NoValuesEnd : ℕ → List Lexeme → Refusal → Type 0
NoValuesEnd n = Refused language n (of_sql raw s.values_end)

module _ {n : ℕ} {tokens : List Lexeme} {i j : ℕ} {old now : Quotes} {list : List SqlExp} (g : Grown (ValuesEnd n) (NoValuesEnd n) tokens n i j old now list) where
  module _ (a : IsAt tokens j (j + 1) (OfKind (token.Symbol symbol.Comma))) where
    pub values_refused : {r : Refusal} → Refused language n (of_sql raw (s.sexp false)) (drop (j + 1) tokens) r → Refused language n (of_sql raw s.values_end) (drop i tokens) r
    values_refused h = g.refused _ (refused_by decided 1 n (omega arith) (chosen_mark_at (choice (of_sql raw s.values_end)) a (λ w p us. refl)) (mark_read a (one_refused h)))

    pub values_more : (l : ℕ) {next : Quotes} {x : SqlExp} → Makes (Read language n (of_sql raw (s.sexp false)) (drop (j + 1) tokens) (drop l tokens)) tokens n now next x → Grown (ValuesEnd n) (NoValuesEnd n) tokens n i l old next (list ++ x ∷ [])
    values_more l m = grown_more (ValuesEnd n) (NoValuesEnd n) g l (λ y. both cons m.of y)
        (λ rest y b. reads_by 1 n (omega arith) (record { v = (m.of, (y, tt)); span = no_span; is_span = refl; allowed = refl; builds = refl; fills = a_mark a (an_one m.read (an_one b nothing)) }) b.stops)
        (λ r u. refused_by decided 1 n (omega arith) (chosen_mark_at (choice (of_sql raw s.values_end)) a (λ w p us. refl)) (mark_read a (one_read decided m.read (one_refused u))))
        (λ new y ts z. numbered_both cons m.made z)

  pub values_open : {r : Refusal} → Other tokens j (OfKind (token.Symbol symbol.Comma)) → Unexpected tokens j (OfKind (token.Symbol symbol.RParen)) r → Refused language n (of_sql raw s.values_end) (drop i tokens) r
  values_open o u = g.refused _ (syntax u.says (none_of (not_mark u.other, (not_mark o, tt))))

  pub values_done : {k : ℕ} → IsAt tokens j k (OfKind (token.Symbol symbol.RParen)) → Makes (Read language n (of_sql raw s.values_end) (drop i tokens) (drop k tokens)) tokens n old now list
  values_done {k = k} a = grown_done (ValuesEnd n) (NoValuesEnd n) g k (reads_by 0 n (omega arith) (record { v = tt; span = no_span; is_span = refl; allowed = refl; builds = refl; fills = a_mark a nothing }) (ends_empty _))

-- What is selected is read by its first tokens.
use Rattle.std.specs.Prelude.{◌≡◌, ◌+◌, ℕ, Bool, true, false, if◌then◌else◌, List, [], ◌∷◌, ◌++◌, drop, codes, refl}
use Rattle.std.proofs.Common.{◌∙◌, arith}
use Rattle.ur_base.specs.declared.refusal.Refusal.{Refusal}
use Rattle.ur_base.specs.Stopping.{Says}
use Rattle.ur_lex.specs.declared.token.Symbol.TheVariants as symbol
use Rattle.ur_lex.specs.declared.token.TokenKind.TheVariants as token
use Rattle.ur_lex.specs.declared.token.Lexeme.{Lexeme}
use Rattle.ur_lex.specs.Spelling.{Text}
use Rattle.ur_syntax.specs.declared.sql.SqlExp.{SqlExp}
use Rattle.ur_syntax.specs.declared.sql.Aggregate.{Aggregate}
use Rattle.ur_syntax.specs.declared.sql.Aggregate.TheVariants as aggregate
use Rattle.ur_syntax.specs.declared.sql.Selected.{Selected}
use Rattle.ur_syntax.specs.declared.sql.Selected.TheVariants as select
use Rattle.ur_syntax.specs.declared.sql.Selection.TheVariants as selections
use Rattle.ur_parse_rules.specs.Rules.{Read, Refused, Stops, no_span, syntax}
use Rattle.ur_parse_rules.specs.Places.{Moves, span_of, IsAt, Other, OfKind, Spelled, Unexpected, starts}
use Rattle.ur_parse_rules.proofs.Tokens.{covers}
use Rattle.ur_parse_rules.proofs.Steps.{nothing, a_mark, a_word, an_one, mark_read, word_read, one_read, one_refused, no_mark, not_word, reads_by, refused_by, none_of}
use Rattle.ur_parse_rules.proofs.Choices.{chosen_mark_at, chosen_word_at, first_stops, if_true, if_false}
use Rattle.ur_parse_rules.specs.Classes.{member, all_of}
use Rattle.ur_parse_rules.specs.Quoted.{Quoted, Raw, raw, plain, mapped, both, cons}
use Rattle.ur_parse_rules.specs.SqlParts as s
use Rattle.ur_parse_rules.specs.Parts.{of_sql}
use Rattle.ur_parse_rules.specs.Ends.{capitals, sql_last}
use Rattle.ur_parse_rules.specs.Statements.{renamed, aggregated}
use Rattle.ur_parse_rules.specs.Language.{language}
use Rattle.ur_parse_rules.proofs.Choice.{choice}
use Rattle.ur_parse_rules.proofs.AllDecided.{decided}
use Rattle.ur_parse_rules.proofs.Places.{ends_empty, missing, may_not_end}
use Rattle.ur_parse_embed_code.specs.declared.quotes.Quotes.{Quotes}
use Rattle.ur_parse_embed_code.specs.Quotes.{Makes}
use Rattle.ur_parse_embed_code.proofs.Numbering.{numbered_plain, numbered_mapped, numbered_both}
use Rattle.ur_parse_embed.specs.Pieces.{Called, NotCalled, Enclosed, NotEnclosed}
use Rattle.ur_parse_embed.specs.ParseSelectColumns.{is_column}
use Rattle.ur_parse_embed.proofs.Growing.{goes_on_not, Grown, grown_more, grown_done}
use Rattle.ur_parse_embed.proofs.Piecing.{call_fills, call_read, no_call, enclosed_fills, not_enclosed, hits_column}

-- ---- aggregates

module _ {n : ℕ} {tokens : List Lexeme} {i j : ℕ} (a : IsAt tokens i j (Spelled token.Upper (codes "COUNT"))) where
  pub count_open : {r : Refusal} → Unexpected tokens j (OfKind (token.Symbol symbol.LParen)) r → Refused language n (of_sql raw s.aggregate) (drop i tokens) r
  count_open u = refused_by decided 0 n (omega arith) (chosen_word_at (choice (of_sql raw s.aggregate)) a (λ p us. refl)) (word_read a (no_mark u))

  module _ {k : ℕ} (b : IsAt tokens j k (OfKind (token.Symbol symbol.LParen))) where
    pub count_star : {r : Refusal} → Unexpected tokens k (OfKind (token.Symbol symbol.Star)) r → Refused language n (of_sql raw s.aggregate) (drop i tokens) r
    count_star u = refused_by decided 0 n (omega arith) (chosen_word_at (choice (of_sql raw s.aggregate)) a (λ p us. refl)) (word_read a (mark_read b (no_mark u)))

    module _ {l : ℕ} (c : IsAt tokens k l (OfKind (token.Symbol symbol.Star))) where
      pub count_close : {r : Refusal} → Unexpected tokens l (OfKind (token.Symbol symbol.RParen)) r → Refused language n (of_sql raw s.aggregate) (drop i tokens) r
      count_close u = refused_by decided 0 n (omega arith) (chosen_word_at (choice (of_sql raw s.aggregate)) a (λ p us. refl)) (word_read a (mark_read b (mark_read c (no_mark u))))

      pub count_read : {m : ℕ} (q : Quotes) → IsAt tokens l m (OfKind (token.Symbol symbol.RParen)) → Makes (Read language n (of_sql raw s.aggregate) (drop i tokens) (drop m tokens)) tokens n q q aggregate.Count
      count_read q d = record {
        of = plain aggregate.Count;
        read = reads_by 0 n (omega arith) (record { v = tt; span = no_span; is_span = refl; allowed = refl; builds = refl; fills = a_word a (a_mark b (a_mark c (a_mark d nothing))) }) (ends_empty _);
        made = numbered_plain tokens n q aggregate.Count;
      }

module _ {n : ℕ} {tokens : List Lexeme} {i j : ℕ} (a : IsAt tokens i j (Spelled token.Upper (codes "SUM"))) where
  pub sum_refused : {r : Refusal} → NotEnclosed n tokens j r → Refused language n (of_sql raw s.aggregate) (drop i tokens) r
  sum_refused h = refused_by decided 1 n (omega arith) (chosen_word_at (choice (of_sql raw s.aggregate)) a (λ p us. refl)) (word_read a (not_enclosed h))

  pub sum_read : (k : ℕ) {old new : Quotes} {x : SqlExp} → Makes (Enclosed n tokens j k) tokens n old new x → Makes (Read language n (of_sql raw s.aggregate) (drop i tokens) (drop k tokens)) tokens n old new (aggregate.Sum x)
  sum_read k m = record {
    of = mapped (λ x. aggregate.Sum x) m.of;
    read = reads_by 1 n (omega arith) (record { v = (m.of, tt); span = no_span; is_span = refl; allowed = refl; builds = refl; fills = a_word a (enclosed_fills m.read nothing) }) (ends_empty _);
    made = numbered_mapped (λ x. aggregate.Sum x) m.made;
  }

module _ {n : ℕ} {tokens : List Lexeme} {i j : ℕ} (a : IsAt tokens i j (Spelled token.Upper (codes "MIN"))) where
  pub min_refused : {r : Refusal} → NotEnclosed n tokens j r → Refused language n (of_sql raw s.aggregate) (drop i tokens) r
  min_refused h = refused_by decided 2 n (omega arith) (chosen_word_at (choice (of_sql raw s.aggregate)) a (λ p us. refl)) (word_read a (not_enclosed h))

  pub min_read : (k : ℕ) {old new : Quotes} {x : SqlExp} → Makes (Enclosed n tokens j k) tokens n old new x → Makes (Read language n (of_sql raw s.aggregate) (drop i tokens) (drop k tokens)) tokens n old new (aggregate.Min x)
  min_read k m = record {
    of = mapped (λ x. aggregate.Min x) m.of;
    read = reads_by 2 n (omega arith) (record { v = (m.of, tt); span = no_span; is_span = refl; allowed = refl; builds = refl; fills = a_word a (enclosed_fills m.read nothing) }) (ends_empty _);
    made = numbered_mapped (λ x. aggregate.Min x) m.made;
  }

module _ {n : ℕ} {tokens : List Lexeme} {i j : ℕ} (a : IsAt tokens i j (Spelled token.Upper (codes "MAX"))) where
  pub max_refused : {r : Refusal} → NotEnclosed n tokens j r → Refused language n (of_sql raw s.aggregate) (drop i tokens) r
  max_refused h = refused_by decided 3 n (omega arith) (chosen_word_at (choice (of_sql raw s.aggregate)) a (λ p us. refl)) (word_read a (not_enclosed h))

  pub max_read : (k : ℕ) {old new : Quotes} {x : SqlExp} → Makes (Enclosed n tokens j k) tokens n old new x → Makes (Read language n (of_sql raw s.aggregate) (drop i tokens) (drop k tokens)) tokens n old new (aggregate.Max x)
  max_read k m = record {
    of = mapped (λ x. aggregate.Max x) m.of;
    read = reads_by 3 n (omega arith) (record { v = (m.of, tt); span = no_span; is_span = refl; allowed = refl; builds = refl; fills = a_word a (enclosed_fills m.read nothing) }) (ends_empty _);
    made = numbered_mapped (λ x. aggregate.Max x) m.made;
  }

pub no_aggregate : {n : ℕ} {tokens : List Lexeme} {i : ℕ} {r : Refusal} → Other tokens i (Spelled token.Upper (codes "COUNT")) → Other tokens i (Spelled token.Upper (codes "SUM")) → Other tokens i (Spelled token.Upper (codes "MIN")) → Unexpected tokens i (Spelled token.Upper (codes "MAX")) r →
    Refused language n (of_sql raw s.aggregate) (drop i tokens) r
no_aggregate a b c u = syntax u.says (none_of (not_word a, (not_word b, (not_word c, (not_word u.other, tt)))))

-- ---- an item

abbrev Aggregates : List Lexeme → Bool
Aggregates ts = starts (member (capitals (codes "COUNT" ∷ codes "SUM" ∷ codes "MIN" ∷ codes "MAX" ∷ []))) ts

abbrev Ends : List Lexeme → Bool
Ends ts = starts (member (sql_last s.selected)) ts

aggregate_chosen : (ts : List Lexeme) → Aggregates ts ≡ true → choice (of_sql raw s.selected) ts ≡ 2
aggregate_chosen ts e = if_true _ e

column_chosen : (ts : List Lexeme) → Aggregates ts ≡ false → is_column ts ≡ true → choice (of_sql raw s.selected) ts ≡ 0
column_chosen ts e f = if_false 2 e ∙ if_true 1 (hits_column ts ∙ f)

exp_chosen : (ts : List Lexeme) → Aggregates ts ≡ false → is_column ts ≡ false → choice (of_sql raw s.selected) ts ≡ 1
exp_chosen ts e f = if_false 2 e ∙ if_false 0 (hits_column ts ∙ f)

module _ {n : ℕ} (tokens : List Lexeme) (i : ℕ) where
  module _ (e : Aggregates (drop i tokens) ≡ true) where
    pub aggregate_refused : {r : Refusal} → Refused language n (of_sql raw s.aggregate) (drop i tokens) r → Refused language n (of_sql raw s.selected) (drop i tokens) r
    aggregate_refused h = refused_by decided 2 n (omega arith) (aggregate_chosen (drop i tokens) e) (one_refused h)

    module _ (j : ℕ) {old new : Quotes} {x : Aggregate} (m : Makes (Read language n (of_sql raw s.aggregate) (drop i tokens) (drop j tokens)) tokens n old new x) where
      pub aggregate_unnamed : {r : Refusal} → NotCalled tokens j r → Refused language n (of_sql raw s.selected) (drop i tokens) r
      aggregate_unnamed h = refused_by decided 2 n (omega arith) (aggregate_chosen (drop i tokens) e) (one_read decided m.read (no_call h))

      module _ (k : ℕ) {y : Text} (c : Called tokens j k y) where
        pub aggregate_more : {r : Refusal} → Says r 5 [] [] → Ends (drop k tokens) ≡ true → Refused language n (of_sql raw s.selected) (drop i tokens) r
        aggregate_more says f = refused_by decided 2 n (omega arith) (aggregate_chosen (drop i tokens) e) (one_read decided m.read (call_read c (may_not_end says (λ q. goes_on_not (sql_last s.selected) (drop k tokens) f q.stops))))

        pub aggregate_read : Moves tokens i k → Ends (drop k tokens) ≡ false → Makes (Read language n (of_sql raw s.selected) (drop i tokens) (drop k tokens)) tokens n old new (select.Aggregate (span_of tokens i k) x y)
        aggregate_read o f = let z = an_one {n = n} m.read (call_fills c nothing) in record {
          of = mapped (aggregated (span_of tokens i k) y) m.of;
          read = reads_by 2 n (omega arith) (record { v = (m.of, (y, tt)); span = span_of tokens i k; fills = z; is_span = covers tokens i k o z.taken z.split; allowed = refl; builds = refl }) (first_stops (member (sql_last s.selected)) (drop k tokens) f);
          made = numbered_mapped (aggregated (span_of tokens i k) y) m.made;
        }

  module _ (e : Aggregates (drop i tokens) ≡ false) where
    module _ (w : is_column (drop i tokens) ≡ true) where
      pub column_refused : {r : Refusal} → Refused language n (of_sql raw (s.column false)) (drop i tokens) r → Refused language n (of_sql raw s.selected) (drop i tokens) r
      column_refused h = refused_by decided 0 n (omega arith) (column_chosen (drop i tokens) e w) (one_refused h)

      module _ (j : ℕ) {x : SqlExp} (a : Read language n (of_sql raw (s.column false)) (drop i tokens) (drop j tokens) x) where
        pub column_more : {r : Refusal} → Says r 5 [] [] → Ends (drop j tokens) ≡ true → Refused language n (of_sql raw s.selected) (drop i tokens) r
        column_more says f = refused_by decided 0 n (omega arith) (column_chosen (drop i tokens) e w) (one_read decided a (may_not_end says (λ q. goes_on_not (sql_last s.selected) (drop j tokens) f q.stops)))

        pub column_read : (q : Quotes) → Ends (drop j tokens) ≡ false → Makes (Read language n (of_sql raw s.selected) (drop i tokens) (drop j tokens)) tokens n q q (select.Column x)
        column_read q f = record {
          of = plain (select.Column x);
          read = reads_by 0 n (omega arith) (record { v = (x, tt); span = no_span; is_span = refl; allowed = refl; builds = refl; fills = an_one a nothing }) (first_stops (member (sql_last s.selected)) (drop j tokens) f);
          made = numbered_plain tokens n q (select.Column x);
        }

    module _ (w : is_column (drop i tokens) ≡ false) where
      pub exp_refused : {r : Refusal} → Refused language n (of_sql raw (s.sexp false)) (drop i tokens) r → Refused language n (of_sql raw s.selected) (drop i tokens) r
      exp_refused h = refused_by decided 1 n (omega arith) (exp_chosen (drop i tokens) e w) (one_refused h)

      module _ (j : ℕ) {old new : Quotes} {x : SqlExp} (m : Makes (Read language n (of_sql raw (s.sexp false)) (drop i tokens) (drop j tokens)) tokens n old new x) where
        pub exp_unnamed : {r : Refusal} → NotCalled tokens j r → Refused language n (of_sql raw s.selected) (drop i tokens) r
        exp_unnamed h = refused_by decided 1 n (omega arith) (exp_chosen (drop i tokens) e w) (one_read decided m.read (no_call h))

        module _ (k : ℕ) {y : Text} (c : Called tokens j k y) where
          pub exp_more : {r : Refusal} → Says r 5 [] [] → Ends (drop k tokens) ≡ true → Refused language n (of_sql raw s.selected) (drop i tokens) r
          exp_more says f = refused_by decided 1 n (omega arith) (exp_chosen (drop i tokens) e w) (one_read decided m.read (call_read c (may_not_end says (λ q. goes_on_not (sql_last s.selected) (drop k tokens) f q.stops))))

          pub exp_read : Ends (drop k tokens) ≡ false → Makes (Read language n (of_sql raw s.selected) (drop i tokens) (drop k tokens)) tokens n old new (select.Named x y)
          exp_read f = record {
            of = mapped (renamed y) m.of;
            read = reads_by 1 n (omega arith) (record { v = (m.of, (y, tt)); span = no_span; is_span = refl; allowed = refl; builds = refl; fills = an_one m.read (call_fills c nothing) }) (first_stops (member (sql_last s.selected)) (drop k tokens) f);
            made = numbered_mapped (renamed y) m.made;
          }

-- ---- more items

abbrev pub MoreSelected : ℕ → List Lexeme → List Lexeme → Quoted Raw (List Selected) → Type 0
MoreSelected n = Read language n (of_sql raw s.more_selected)

abbrev pub NoMoreSelected : ℕ → List Lexeme → Refusal → Type 0
NoMoreSelected n = Refused language n (of_sql raw s.more_selected)

no_comma : (ts : List Lexeme) → Stops (member (all_of (token.Symbol symbol.Comma) ∷ [])) ts → choice (of_sql raw s.more_selected) ts ≡ 0
no_comma [] st = refl
no_comma (t ∷ ts) st = if_false 1 st

module _ {n : ℕ} {tokens : List Lexeme} {i j : ℕ} {old now : Quotes} {list : List Selected} (g : Grown (MoreSelected n) (NoMoreSelected n) tokens n i j old now list) where
  module _ (a : IsAt tokens j (j + 1) (OfKind (token.Symbol symbol.Comma))) where
    pub items_refused : {r : Refusal} → Refused language n (of_sql raw s.selected) (drop (j + 1) tokens) r → Refused language n (of_sql raw s.more_selected) (drop i tokens) r
    items_refused h = g.refused _ (refused_by decided 1 n (omega arith) (chosen_mark_at (choice (of_sql raw s.more_selected)) a (λ w p us. refl)) (mark_read a (one_refused h)))

    pub items_more : (l : ℕ) {next : Quotes} {x : Selected} → Makes (Read language n (of_sql raw s.selected) (drop (j + 1) tokens) (drop l tokens)) tokens n now next x → Grown (MoreSelected n) (NoMoreSelected n) tokens n i l old next (list ++ x ∷ [])
    items_more l m = grown_more (MoreSelected n) (NoMoreSelected n) g l (λ y. both cons m.of y)
        (λ rest y b. reads_by 1 n (omega arith) (record { v = (m.of, (y, tt)); span = no_span; is_span = refl; allowed = refl; builds = refl; fills = a_mark a (an_one m.read (an_one b nothing)) }) b.stops)
        (λ r u. refused_by decided 1 n (omega arith) (chosen_mark_at (choice (of_sql raw s.more_selected)) a (λ w p us. refl)) (mark_read a (one_read decided m.read (one_refused u))))
        (λ new y ts z. numbered_both cons m.made z)

  pub items_ended : {r : Refusal} → Other tokens j (OfKind (token.Symbol symbol.Comma)) → Says r 5 [] [] → starts (member (sql_last s.selection)) (drop j tokens) ≡ true → Refused language n (of_sql raw s.more_selected) (drop i tokens) r
  items_ended o says e = g.refused _ (refused_by decided 0 n (omega arith) (no_comma (drop j tokens) (missing refl o)) (may_not_end says (λ q. goes_on_not (sql_last s.selection) (drop j tokens) e q.stops)))

  pub items_done : starts (member (sql_last s.selection)) (drop j tokens) ≡ false → Makes (Read language n (of_sql raw s.more_selected) (drop i tokens) (drop j tokens)) tokens n old now list
  items_done e = grown_done (MoreSelected n) (NoMoreSelected n) g j (reads_by 0 n (omega arith) (record { v = tt; span = no_span; is_span = refl; allowed = refl; builds = refl; fills = nothing }) (first_stops (member (sql_last s.selection)) (drop j tokens) e))

-- ---- a selection

second_one : (b : Bool) → let z : ℕ = if b then 1 else 1 in z ≡ 1
second_one true = refl
second_one false = refl

no_star : (ts : List Lexeme) → Stops (member (all_of (token.Symbol symbol.Star) ∷ [])) ts → choice (of_sql raw s.selection) ts ≡ 1
no_star [] st = refl
no_star (t ∷ ts) st = if_false 0 st ∙ second_one _

module _ {n : ℕ} {tokens : List Lexeme} {i : ℕ} where
  module _ (a : IsAt tokens i (i + 1) (OfKind (token.Symbol symbol.Star))) where
    pub all_more : {r : Refusal} → Says r 5 [] [] → starts (member (sql_last s.selection)) (drop (i + 1) tokens) ≡ true → Refused language n (of_sql raw s.selection) (drop i tokens) r
    all_more says e = refused_by decided 0 n (omega arith) (chosen_mark_at (choice (of_sql raw s.selection)) a (λ w p us. refl)) (mark_read a (may_not_end says (λ q. goes_on_not (sql_last s.selection) (drop (i + 1) tokens) e q.stops)))

    pub all_read : (q : Quotes) → starts (member (sql_last s.selection)) (drop (i + 1) tokens) ≡ false → Makes (Read language n (of_sql raw s.selection) (drop i tokens) (drop (i + 1) tokens)) tokens n q q selections.All
    all_read q e = record {
      of = plain selections.All;
      read = reads_by 0 n (omega arith) (record { v = tt; span = no_span; is_span = refl; allowed = refl; builds = refl; fills = a_mark a nothing }) (first_stops (member (sql_last s.selection)) (drop (i + 1) tokens) e);
      made = numbered_plain tokens n q selections.All;
    }

  module _ (o : Other tokens i (OfKind (token.Symbol symbol.Star))) where
    pub first_refused : {r : Refusal} → Refused language n (of_sql raw s.selected) (drop i tokens) r → Refused language n (of_sql raw s.selection) (drop i tokens) r
    first_refused h = refused_by decided 1 n (omega arith) (no_star (drop i tokens) (missing refl o)) (one_refused h)

    module _ (j : ℕ) {old mid : Quotes} {x : Selected} (m : Makes (Read language n (of_sql raw s.selected) (drop i tokens) (drop j tokens)) tokens n old mid x) where
      pub rest_refused : {r : Refusal} → Refused language n (of_sql raw s.more_selected) (drop j tokens) r → Refused language n (of_sql raw s.selection) (drop i tokens) r
      rest_refused h = refused_by decided 1 n (omega arith) (no_star (drop i tokens) (missing refl o)) (one_read decided m.read (one_refused h))

      pub items_read : (k : ℕ) {new : Quotes} {xs : List Selected} → Makes (Read language n (of_sql raw s.more_selected) (drop j tokens) (drop k tokens)) tokens n mid new xs →
          Makes (Read language n (of_sql raw s.selection) (drop i tokens) (drop k tokens)) tokens n old new (selections.Items (x ∷ xs))
      items_read k b = record {
        of = mapped (λ l. selections.Items l) (both cons m.of b.of);
        read = reads_by 1 n (omega arith) (record { v = (m.of, (b.of, tt)); span = no_span; is_span = refl; allowed = refl; builds = refl; fills = an_one m.read (an_one b.read nothing) }) b.read.stops;
        made = numbered_mapped (λ l. selections.Items l) (numbered_both cons m.made b.made);
      }

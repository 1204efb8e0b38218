-- Changes are read by their first words.
use Rattle.std.specs.Prelude.{◌≡◌, ◌+◌, ◌≤◌, ℕ, Bool, true, false, if◌then◌else◌, List, [], ◌∷◌, ◌++◌, drop, codes, Option, Some, None, refl}
use Rattle.std.proofs.Common.{sym, ◌∙◌, ap, arith}
use Rattle.ur_base.specs.declared.refusal.Refusal.{Refusal}
use Rattle.ur_base.specs.Stopping.{Says}
use Rattle.ur_lex.specs.declared.token.Symbol.TheVariants as symbol
use Rattle.ur_lex.specs.declared.token.TokenKind.TheVariants as token
use Rattle.ur_lex.specs.declared.token.Lexeme.{Lexeme}
use Rattle.ur_lex.specs.Spelling.{Text}
use Rattle.ur_syntax.specs.declared.sql.SqlExp.{SqlExp}
use Rattle.ur_syntax.specs.declared.sql.SqlChange.{SqlChange}
use Rattle.ur_syntax.specs.declared.sql.SqlChange.TheVariants as changes
use Rattle.ur_syntax.specs.declared.sql.DeclName.{DeclName}
use Rattle.ur_syntax.specs.declared.sql.Assignment.{Assignment}
use Rattle.ur_parse_rules.specs.Places.{IsName, Passing}
use Rattle.ur_parse_rules.proofs.Steps.{a_name, name_read, no_name}
use Rattle.ur_parse_rules.specs.Words.{is_field}
use Rattle.ur_parse_rules.specs.Statements.{inserted, updated, deleted}
use Rattle.ur_parse_rules.specs.Rules.{Read, Refused, Stops, no_span, syntax}
use Rattle.ur_parse_rules.specs.Places.{Moves, span_of, IsAt, Other, OfKind, Spelled, Unexpected, starts}
use Rattle.ur_parse_rules.proofs.Tokens.{covers}
use Rattle.ur_parse_rules.proofs.Steps.{nothing, a_mark, a_word, a_number, an_one, mark_read, word_read, one_read, one_refused, no_mark, no_word, not_word, reads_by, refused_by, none_of}
use Rattle.ur_parse_rules.proofs.Choices.{chosen_mark_at, chosen_word_at, first_stops, if_true, if_false}
use Rattle.ur_parse_rules.specs.Classes.{Classes, member, all_of, word_class}
use Rattle.ur_parse_rules.specs.Quoted.{Quoted, Raw, raw, plain, antiquote, mapped, both, cons, some, and_then}
use Rattle.ur_parse_rules.specs.SqlParts as s
use Rattle.ur_parse_rules.specs.Parts.{of_sql}
use Rattle.ur_parse_rules.specs.Ends.{sql_last, sql_operators}
use Rattle.ur_parse_rules.specs.Language.{language}
use Rattle.ur_parse_rules.proofs.Choice.{choice}
use Rattle.ur_parse_rules.proofs.AllDecided.{decided}
use Rattle.ur_parse_rules.proofs.Places.{ends_empty, missing, stops_cons, may_not_end}
use Rattle.ur_parse_embed_code.specs.declared.quotes.Quotes.{Quotes}
use Rattle.ur_parse_embed_code.specs.Quotes.{Numbered, Makes, Holds}
use Rattle.ur_parse_embed_code.proofs.Numbering.{numbered_plain, numbered_mapped, numbered_both}
use Rattle.ur_parse_embed.proofs.Words.{no_word as word_stops}
use Rattle.ur_parse_embed.specs.Pieces.{Adds, Extends}
use Rattle.ur_parse_embed.proofs.Growing.{goes_on_not}

pub no_change : {n : ℕ} {tokens : List Lexeme} {i : ℕ} {r : Refusal} → Other tokens i (Spelled token.Upper (codes "INSERT")) → Other tokens i (Spelled token.Upper (codes "UPDATE")) → Unexpected tokens i (Spelled token.Upper (codes "DELETE")) r → Refused language n (of_sql raw s.change) (drop i tokens) r
no_change a b u = syntax u.says (none_of (not_word a, (not_word b, (not_word u.other, tt))))

-- ---- INSERT

insert_chosen : {tokens : List Lexeme} {i j : ℕ} → IsAt tokens i j (Spelled token.Upper (codes "INSERT")) → choice (of_sql raw s.change) (drop i tokens) ≡ 0
insert_chosen a = chosen_word_at (choice (of_sql raw s.change)) a (λ p us. refl)

module _ {n : ℕ} {tokens : List Lexeme} {i i1 : ℕ} (a : IsAt tokens i i1 (Spelled token.Upper (codes "INSERT"))) where
  pub into_missing : {r : Refusal} → Unexpected tokens i1 (Spelled token.Upper (codes "INTO")) r → Refused language n (of_sql raw s.change) (drop i tokens) r
  into_missing u = refused_by decided 0 n (omega arith) (insert_chosen a) (word_read a (no_word u))

  module _ {i2 : ℕ} (b : IsAt tokens i1 i2 (Spelled token.Upper (codes "INTO"))) where
    pub insert_table : {r : Refusal} → Refused language n (of_sql raw s.name) (drop i2 tokens) r → Refused language n (of_sql raw s.change) (drop i tokens) r
    insert_table h = refused_by decided 0 n (omega arith) (insert_chosen a) (word_read a (word_read b (one_refused h)))

    module _ (i3 : ℕ) {table : DeclName} (c : Read language n (of_sql raw s.name) (drop i2 tokens) (drop i3 tokens) table) where
      pub columns_open : {r : Refusal} → Unexpected tokens i3 (OfKind (token.Symbol symbol.LParen)) r → Refused language n (of_sql raw s.change) (drop i tokens) r
      columns_open u = refused_by decided 0 n (omega arith) (insert_chosen a) (word_read a (word_read b (one_read decided c (no_mark u))))

      module _ {i4 : ℕ} (d : IsAt tokens i3 i4 (OfKind (token.Symbol symbol.LParen))) where
        pub column_missing : {r : Refusal} → Unexpected tokens i4 (Passing token.Upper is_field) r → Refused language n (of_sql raw s.change) (drop i tokens) r
        column_missing u = refused_by decided 0 n (omega arith) (insert_chosen a) (word_read a (word_read b (one_read decided c (mark_read d (no_name u)))))

        module _ {i5 : ℕ} {x : Text} (e : IsName tokens i4 i5 token.Upper is_field x) where
          pub columns_refused : {r : Refusal} → Refused language n (of_sql raw s.columns_end) (drop i5 tokens) r → Refused language n (of_sql raw s.change) (drop i tokens) r
          columns_refused h = refused_by decided 0 n (omega arith) (insert_chosen a) (word_read a (word_read b (one_read decided c (mark_read d (name_read e (one_refused h))))))

          module _ (i6 : ℕ) {before columns : List Text} (f : Adds (Read language n (of_sql raw s.columns_end) (drop i5 tokens) (drop i6 tokens)) before columns) where
            pub values_missing : {r : Refusal} → Unexpected tokens i6 (Spelled token.Upper (codes "VALUES")) r → Refused language n (of_sql raw s.change) (drop i tokens) r
            values_missing u = refused_by decided 0 n (omega arith) (insert_chosen a) (word_read a (word_read b (one_read decided c (mark_read d (name_read e (one_read decided f.holds (no_word u)))))))

            module _ {i7 : ℕ} (g : IsAt tokens i6 i7 (Spelled token.Upper (codes "VALUES"))) where
              pub values_open : {r : Refusal} → Unexpected tokens i7 (OfKind (token.Symbol symbol.LParen)) r → Refused language n (of_sql raw s.change) (drop i tokens) r
              values_open u = refused_by decided 0 n (omega arith) (insert_chosen a) (word_read a (word_read b (one_read decided c (mark_read d (name_read e (one_read decided f.holds (word_read g (no_mark u))))))))

              module _ {i8 : ℕ} (k : IsAt tokens i7 i8 (OfKind (token.Symbol symbol.LParen))) where
                pub value_refused : {r : Refusal} → Refused language n (of_sql raw (s.sexp false)) (drop i8 tokens) r → Refused language n (of_sql raw s.change) (drop i tokens) r
                value_refused h = refused_by decided 0 n (omega arith) (insert_chosen a) (word_read a (word_read b (one_read decided c (mark_read d (name_read e (one_read decided f.holds (word_read g (mark_read k (one_refused h)))))))))

                module _ (i9 : ℕ) {q0 q1 : Quotes} {y : SqlExp} (l : Makes (Read language n (of_sql raw (s.sexp false)) (drop i8 tokens) (drop i9 tokens)) tokens n q0 q1 y) where
                  pub values_refused : {r : Refusal} → Refused language n (of_sql raw s.values_end) (drop i9 tokens) r → Refused language n (of_sql raw s.change) (drop i tokens) r
                  values_refused h = refused_by decided 0 n (omega arith) (insert_chosen a) (word_read a (word_read b (one_read decided c (mark_read d (name_read e (one_read decided f.holds (word_read g (mark_read k (one_read decided l.read (one_refused h))))))))))

                  module _ (j : ℕ) {q2 : Quotes} {first values : List SqlExp} (m : Extends (Read language n (of_sql raw s.values_end) (drop i9 tokens) (drop j tokens)) tokens n q1 q2 first values) where
                    pub insert_more : {r : Refusal} → Says r 5 [] [] → starts (member (sql_last s.change)) (drop j tokens) ≡ true → Refused language n (of_sql raw s.change) (drop i tokens) r
                    insert_more says w = refused_by decided 0 n (omega arith) (insert_chosen a)
                        (word_read a (word_read b (one_read decided c (mark_read d (name_read e (one_read decided f.holds (word_read g (mark_read k (one_read decided l.read (one_read decided m.makes.read
                        (may_not_end says (λ q. goes_on_not (sql_last s.change) (drop j tokens) w q.stops))))))))))))

                    pub insert_read : before ≡ x ∷ [] → first ≡ y ∷ [] → Moves tokens i j → starts (member (sql_last s.change)) (drop j tokens) ≡ false →
                        Makes (Read language n (of_sql raw s.change) (drop i tokens) (drop j tokens)) tokens n q0 q2 (changes.Insert (span_of tokens i j) table columns values)
                    insert_read u v o w = let z = f.is in let z' = m.is in
                        let fl = a_word {n = n} a (a_word b (an_one c (a_mark d (a_name e (an_one f.holds (a_word g (a_mark k (an_one l.read (an_one m.makes.read nothing))))))))) in rw (z, u, z', v) (record {
                          of = mapped (inserted (span_of tokens i j) table (x ∷ f.more)) (both cons l.of m.makes.of);
                          read = reads_by 0 n (omega arith) (record {
                            v = (table, (x, (f.more, (l.of, (m.makes.of, tt)))));
                            span = span_of tokens i j;
                            fills = fl;
                            is_span = covers tokens i j o fl.taken fl.split;
                            allowed = refl;
                            builds = refl;
                          }) (first_stops (member (sql_last s.change)) (drop j tokens) w);
                          made = numbered_mapped (inserted (span_of tokens i j) table (x ∷ f.more)) (numbered_both cons l.made m.makes.made);
                        })

-- ---- UPDATE

update_chosen : {tokens : List Lexeme} {i j : ℕ} → IsAt tokens i j (Spelled token.Upper (codes "UPDATE")) → choice (of_sql raw s.change) (drop i tokens) ≡ 1
update_chosen a = chosen_word_at (choice (of_sql raw s.change)) a (λ p us. refl)

module _ {n : ℕ} {tokens : List Lexeme} {i i1 : ℕ} (a : IsAt tokens i i1 (Spelled token.Upper (codes "UPDATE"))) where
  pub update_table : {r : Refusal} → Refused language n (of_sql raw s.name) (drop i1 tokens) r → Refused language n (of_sql raw s.change) (drop i tokens) r
  update_table h = refused_by decided 1 n (omega arith) (update_chosen a) (word_read a (one_refused h))

  module _ (i2 : ℕ) {table : DeclName} (b : Read language n (of_sql raw s.name) (drop i1 tokens) (drop i2 tokens) table) where
    pub set_missing : {r : Refusal} → Unexpected tokens i2 (Spelled token.Upper (codes "SET")) r → Refused language n (of_sql raw s.change) (drop i tokens) r
    set_missing u = refused_by decided 1 n (omega arith) (update_chosen a) (word_read a (one_read decided b (no_word u)))

    module _ {i3 : ℕ} (c : IsAt tokens i2 i3 (Spelled token.Upper (codes "SET"))) where
      pub first_refused : {r : Refusal} → Refused language n (of_sql raw s.assignment) (drop i3 tokens) r → Refused language n (of_sql raw s.change) (drop i tokens) r
      first_refused h = refused_by decided 1 n (omega arith) (update_chosen a) (word_read a (one_read decided b (word_read c (one_refused h))))

      module _ (i4 : ℕ) {q0 q1 : Quotes} {x : Assignment} (d : Makes (Read language n (of_sql raw s.assignment) (drop i3 tokens) (drop i4 tokens)) tokens n q0 q1 x) where
        pub more_refused : {r : Refusal} → Refused language n (of_sql raw s.more_assignments) (drop i4 tokens) r → Refused language n (of_sql raw s.change) (drop i tokens) r
        more_refused h = refused_by decided 1 n (omega arith) (update_chosen a) (word_read a (one_read decided b (word_read c (one_read decided d.read (one_refused h)))))

        module _ (i5 : ℕ) {q2 : Quotes} {before list : List Assignment} (e : Extends (Read language n (of_sql raw s.more_assignments) (drop i4 tokens) (drop i5 tokens)) tokens n q1 q2 before list) where
          pub update_filter : {r : Refusal} → Refused language n (of_sql raw (s.filter true)) (drop i5 tokens) r → Refused language n (of_sql raw s.change) (drop i tokens) r
          update_filter h = refused_by decided 1 n (omega arith) (update_chosen a) (word_read a (one_read decided b (word_read c (one_read decided d.read (one_read decided e.makes.read (one_refused h))))))

          module _ (j : ℕ) {q3 : Quotes} {y : Option SqlExp} (f : Makes (Read language n (of_sql raw (s.filter true)) (drop i5 tokens) (drop j tokens)) tokens n q2 q3 y) where
            pub update_more : {r : Refusal} → Says r 5 [] [] → starts (member (sql_last s.change)) (drop j tokens) ≡ true → Refused language n (of_sql raw s.change) (drop i tokens) r
            update_more says w = refused_by decided 1 n (omega arith) (update_chosen a) (word_read a (one_read decided b (word_read c (one_read decided d.read (one_read decided e.makes.read (one_read decided f.read
                (may_not_end says (λ q. goes_on_not (sql_last s.change) (drop j tokens) w q.stops))))))))

            pub update_read : before ≡ x ∷ [] → Moves tokens i j → starts (member (sql_last s.change)) (drop j tokens) ≡ false →
                Makes (Read language n (of_sql raw s.change) (drop i tokens) (drop j tokens)) tokens n q0 q3 (changes.Update (span_of tokens i j) table list y)
            update_read u o w = let z = e.is in let fl = a_word {n = n} a (an_one b (a_word c (an_one d.read (an_one e.makes.read (an_one f.read nothing))))) in rw (z, u) (record {
              of = both (updated (span_of tokens i j) table) (both cons d.of e.makes.of) f.of;
              read = reads_by 1 n (omega arith) (record { v = (table, (d.of, (e.makes.of, (f.of, tt)))); span = span_of tokens i j; fills = fl; is_span = covers tokens i j o fl.taken fl.split; allowed = refl; builds = refl })
                  (first_stops (member (sql_last s.change)) (drop j tokens) w);
              made = numbered_both (updated (span_of tokens i j) table) (numbered_both cons d.made e.makes.made) f.made;
            })

-- ---- DELETE

delete_chosen : {tokens : List Lexeme} {i j : ℕ} → IsAt tokens i j (Spelled token.Upper (codes "DELETE")) → choice (of_sql raw s.change) (drop i tokens) ≡ 2
delete_chosen a = chosen_word_at (choice (of_sql raw s.change)) a (λ p us. refl)

module _ {n : ℕ} {tokens : List Lexeme} {i i1 : ℕ} (a : IsAt tokens i i1 (Spelled token.Upper (codes "DELETE"))) where
  pub from_missing : {r : Refusal} → Unexpected tokens i1 (Spelled token.Upper (codes "FROM")) r → Refused language n (of_sql raw s.change) (drop i tokens) r
  from_missing u = refused_by decided 2 n (omega arith) (delete_chosen a) (word_read a (no_word u))

  module _ {i2 : ℕ} (b : IsAt tokens i1 i2 (Spelled token.Upper (codes "FROM"))) where
    pub delete_table : {r : Refusal} → Refused language n (of_sql raw s.name) (drop i2 tokens) r → Refused language n (of_sql raw s.change) (drop i tokens) r
    delete_table h = refused_by decided 2 n (omega arith) (delete_chosen a) (word_read a (word_read b (one_refused h)))

    module _ (i3 : ℕ) {table : DeclName} (c : Read language n (of_sql raw s.name) (drop i2 tokens) (drop i3 tokens) table) where
      pub delete_filter : {r : Refusal} → Refused language n (of_sql raw (s.filter true)) (drop i3 tokens) r → Refused language n (of_sql raw s.change) (drop i tokens) r
      delete_filter h = refused_by decided 2 n (omega arith) (delete_chosen a) (word_read a (word_read b (one_read decided c (one_refused h))))

      module _ (j : ℕ) {old new : Quotes} {x : Option SqlExp} (d : Makes (Read language n (of_sql raw (s.filter true)) (drop i3 tokens) (drop j tokens)) tokens n old new x) where
        pub delete_more : {r : Refusal} → Says r 5 [] [] → starts (member (sql_last s.change)) (drop j tokens) ≡ true → Refused language n (of_sql raw s.change) (drop i tokens) r
        delete_more says w = refused_by decided 2 n (omega arith) (delete_chosen a) (word_read a (word_read b (one_read decided c (one_read decided d.read (may_not_end says (λ q. goes_on_not (sql_last s.change) (drop j tokens) w q.stops))))))

        pub delete_read : Moves tokens i j → starts (member (sql_last s.change)) (drop j tokens) ≡ false →
            Makes (Read language n (of_sql raw s.change) (drop i tokens) (drop j tokens)) tokens n old new (changes.Delete (span_of tokens i j) table x)
        delete_read o w = let fl = a_word {n = n} a (a_word b (an_one c (an_one d.read nothing))) in record {
          of = mapped (deleted (span_of tokens i j) table) d.of;
          read = reads_by 2 n (omega arith) (record { v = (table, (d.of, tt)); span = span_of tokens i j; fills = fl; is_span = covers tokens i j o fl.taken fl.split; allowed = refl; builds = refl })
              (first_stops (member (sql_last s.change)) (drop j tokens) w);
          made = numbered_mapped (deleted (span_of tokens i j) table) d.made;
        }

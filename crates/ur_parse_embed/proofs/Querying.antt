-- Queries.
use Rattle.std.specs.Prelude.{◌≡◌, ℕ, Bool, true, false, if◌then◌else◌, List, [], ◌∷◌, drop, codes, Option, refl}
use Rattle.std.proofs.Common.{arith}
use Rattle.ur_base.specs.declared.refusal.Refusal.{Refusal}
use Rattle.ur_base.specs.Stopping.{Says}
use Rattle.ur_lex.specs.declared.token.TokenKind.TheVariants as token
use Rattle.ur_lex.specs.declared.token.Lexeme.{Lexeme}
use Rattle.ur_syntax.specs.declared.sql.SqlExp.{SqlExp}
use Rattle.ur_syntax.specs.declared.sql.SqlQuery.{SqlQuery}
use Rattle.ur_syntax.specs.declared.sql.Selection.{Selection}
use Rattle.ur_syntax.specs.declared.sql.FromItem.{FromItem}
use Rattle.ur_syntax.specs.declared.sql.OrderKey.{OrderKey}
use Rattle.ur_syntax.specs.declared.sql.Limit.{Limit}
use Rattle.ur_parse_rules.specs.Rules.{Read, Refused}
use Rattle.ur_parse_rules.specs.Places.{Moves, span_of, IsAt, Spelled, Unexpected, starts}
use Rattle.ur_parse_rules.proofs.Tokens.{covers}
use Rattle.ur_parse_rules.proofs.Steps.{nothing, a_word, an_one, word_read, one_read, one_refused, no_word, reads_by, refused_by}
use Rattle.ur_parse_rules.proofs.Choices.{first_stops}
use Rattle.ur_parse_rules.specs.Classes.{member}
use Rattle.ur_parse_rules.specs.Quoted.{raw, apply}
use Rattle.ur_parse_rules.specs.SqlParts as s
use Rattle.ur_parse_rules.specs.Parts.{of_sql}
use Rattle.ur_parse_rules.specs.Ends.{sql_last}
use Rattle.ur_parse_rules.specs.Language.{language}
use Rattle.ur_parse_rules.proofs.Choice.{choice}
use Rattle.ur_parse_rules.proofs.AllDecided.{decided}
use Rattle.ur_parse_rules.proofs.Places.{may_not_end}
use Rattle.ur_parse_embed_code.specs.declared.quotes.Quotes.{Quotes}
use Rattle.ur_parse_embed_code.specs.Quotes.{Makes}
use Rattle.ur_parse_embed_code.proofs.Numbering.{numbered_both}
use Rattle.ur_parse_rules.specs.Statements.{query_of, query_with, clauses}
use Rattle.ur_parse_embed.specs.Pieces.{Extends}
use Rattle.ur_parse_embed.proofs.Growing.{goes_on_not}

only_one : (b : Bool) → let z : ℕ = if b then 0 else 0 in z ≡ 0
only_one true = refl
only_one false = refl

single_query : (ts : List Lexeme) → choice (of_sql raw s.query) ts ≡ 0
single_query [] = refl
single_query (t ∷ ts) = only_one _

module _ {n : ℕ} (tokens : List Lexeme) (i : ℕ) where
  pub select_missing : {r : Refusal} → Unexpected tokens i (Spelled token.Upper (codes "SELECT")) r → Refused language n (of_sql raw s.query) (drop i tokens) r
  select_missing u = refused_by decided 0 n (omega arith) (single_query (drop i tokens)) (no_word u)

  module _ {i1 : ℕ} (a : IsAt tokens i i1 (Spelled token.Upper (codes "SELECT"))) where
    pub selection_refused : {r : Refusal} → Refused language n (of_sql raw s.selection) (drop i1 tokens) r → Refused language n (of_sql raw s.query) (drop i tokens) r
    selection_refused h = refused_by decided 0 n (omega arith) (single_query (drop i tokens)) (word_read a (one_refused h))

    module _ (i2 : ℕ) {q0 q1 : Quotes} {what : Selection} (b : Makes (Read language n (of_sql raw s.selection) (drop i1 tokens) (drop i2 tokens)) tokens n q0 q1 what) where
      pub from_missing : {r : Refusal} → Unexpected tokens i2 (Spelled token.Upper (codes "FROM")) r → Refused language n (of_sql raw s.query) (drop i tokens) r
      from_missing u = refused_by decided 0 n (omega arith) (single_query (drop i tokens)) (word_read a (one_read decided b.read (no_word u)))

      module _ {i3 : ℕ} (c : IsAt tokens i2 i3 (Spelled token.Upper (codes "FROM"))) where
        pub item_refused : {r : Refusal} → Refused language n (of_sql raw s.item) (drop i3 tokens) r → Refused language n (of_sql raw s.query) (drop i tokens) r
        item_refused h = refused_by decided 0 n (omega arith) (single_query (drop i tokens)) (word_read a (one_read decided b.read (word_read c (one_refused h))))

        module _ (i4 : ℕ) {first : FromItem} (d : Read language n (of_sql raw s.item) (drop i3 tokens) (drop i4 tokens) first) where
          pub items_refused : {r : Refusal} → Refused language n (of_sql raw s.more_items) (drop i4 tokens) r → Refused language n (of_sql raw s.query) (drop i tokens) r
          items_refused h = refused_by decided 0 n (omega arith) (single_query (drop i tokens)) (word_read a (one_read decided b.read (word_read c (one_read decided d (one_refused h)))))

          module _ (i5 : ℕ) {q2 : Quotes} {before items : List FromItem} (e : Extends (Read language n (of_sql raw s.more_items) (drop i4 tokens) (drop i5 tokens)) tokens n q1 q2 before items) where
            pub filter_refused : {r : Refusal} → Refused language n (of_sql raw (s.filter false)) (drop i5 tokens) r → Refused language n (of_sql raw s.query) (drop i tokens) r
            filter_refused h = refused_by decided 0 n (omega arith) (single_query (drop i tokens)) (word_read a (one_read decided b.read (word_read c (one_read decided d (one_read decided e.makes.read (one_refused h))))))

            module _ (i6 : ℕ) {q3 : Quotes} {condition : Option SqlExp} (f : Makes (Read language n (of_sql raw (s.filter false)) (drop i5 tokens) (drop i6 tokens)) tokens n q2 q3 condition) where
              pub group_refused : {r : Refusal} → Refused language n (of_sql raw s.group) (drop i6 tokens) r → Refused language n (of_sql raw s.query) (drop i tokens) r
              group_refused h = refused_by decided 0 n (omega arith) (single_query (drop i tokens)) (word_read a (one_read decided b.read (word_read c (one_read decided d (one_read decided e.makes.read (one_read decided f.read (one_refused h)))))))

              module _ (i7 : ℕ) {columns : List SqlExp} (g : Read language n (of_sql raw s.group) (drop i6 tokens) (drop i7 tokens) columns) where
                pub order_refused : {r : Refusal} → Refused language n (of_sql raw s.order) (drop i7 tokens) r → Refused language n (of_sql raw s.query) (drop i tokens) r
                order_refused h = refused_by decided 0 n (omega arith) (single_query (drop i tokens)) (word_read a (one_read decided b.read (word_read c (one_read decided d (one_read decided e.makes.read (one_read decided f.read (one_read decided g (one_refused h))))))))

                module _ (i8 : ℕ) {q4 : Quotes} {keys : List OrderKey} (k : Makes (Read language n (of_sql raw s.order) (drop i7 tokens) (drop i8 tokens)) tokens n q3 q4 keys) where
                  pub limit_refused : {r : Refusal} → Refused language n (of_sql raw s.limit) (drop i8 tokens) r → Refused language n (of_sql raw s.query) (drop i tokens) r
                  limit_refused h = refused_by decided 0 n (omega arith) (single_query (drop i tokens)) (word_read a (one_read decided b.read (word_read c (one_read decided d (one_read decided e.makes.read (one_read decided f.read (one_read decided g (one_read decided k.read (one_refused h)))))))))

                  module _ (i9 : ℕ) {q5 : Quotes} {limit : Option Limit} (l : Makes (Read language n (of_sql raw s.limit) (drop i8 tokens) (drop i9 tokens)) tokens n q4 q5 limit) where
                    pub offset_refused : {r : Refusal} → Refused language n (of_sql raw s.offset) (drop i9 tokens) r → Refused language n (of_sql raw s.query) (drop i tokens) r
                    offset_refused h = refused_by decided 0 n (omega arith) (single_query (drop i tokens))
                        (word_read a (one_read decided b.read (word_read c (one_read decided d (one_read decided e.makes.read (one_read decided f.read (one_read decided g (one_read decided k.read (one_read decided l.read (one_refused h))))))))))

                    module _ (j : ℕ) {q6 : Quotes} {offset : Option Limit} (m : Makes (Read language n (of_sql raw s.offset) (drop i9 tokens) (drop j tokens)) tokens n q5 q6 offset) where
                      pub query_more : {r : Refusal} → Says r 5 [] [] → starts (member (sql_last s.query)) (drop j tokens) ≡ true → Refused language n (of_sql raw s.query) (drop i tokens) r
                      query_more says w = refused_by decided 0 n (omega arith) (single_query (drop i tokens))
                          (word_read a (one_read decided b.read (word_read c (one_read decided d (one_read decided e.makes.read (one_read decided f.read (one_read decided g (one_read decided k.read (one_read decided l.read (one_read decided m.read
                          (may_not_end says (λ q. goes_on_not (sql_last s.query) (drop j tokens) w q.stops))))))))))))

                      pub query_read : before ≡ first ∷ [] → Moves tokens i j → starts (member (sql_last s.query)) (drop j tokens) ≡ false →
                          let z : SqlQuery = record { span = span_of tokens i j; selection = what; «from» = items; filter = condition; group = columns; order = keys; limit = limit; offset = offset } in
                          Makes (Read language n (of_sql raw s.query) (drop i tokens) (drop j tokens)) tokens n q0 q6 z
                      query_read is o w = let y = e.is in
                          let fl = a_word {n = n} a (an_one b.read (a_word c (an_one d (an_one e.makes.read (an_one f.read (an_one g (an_one k.read (an_one l.read (an_one m.read nothing))))))))) in rw (y, is) (record {
                            of = query_of (span_of tokens i j) b.of first e.makes.of f.of columns k.of l.of m.of;
                            read = reads_by 0 n (omega arith) (record {
                              v = (b.of, (first, (e.makes.of, (f.of, (columns, (k.of, (l.of, (m.of, tt))))))));
                              span = span_of tokens i j;
                              fills = fl;
                              is_span = covers tokens i j o fl.taken fl.split;
                              allowed = refl;
                              builds = refl;
                            }) (first_stops (member (sql_last s.query)) (drop j tokens) w);
                            made = numbered_both apply (numbered_both (query_with (span_of tokens i j) first columns) b.made e.makes.made) (numbered_both apply (numbered_both apply (numbered_both clauses f.made k.made) l.made) m.made);
                          })

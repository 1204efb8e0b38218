-- Forms of SQL.
use Rattle.std.specs.Prelude.{◌+◌, ℕ, List, [], ◌∷◌, drop, refl}
use Rattle.std.proofs.Common.{arith}
use Rattle.ur_base.specs.declared.refusal.Refusal.{Refusal}
use Rattle.ur_base.specs.Stopping.{Says}
use Rattle.ur_lex.specs.declared.token.Symbol.TheVariants as symbol
use Rattle.ur_lex.specs.declared.token.TokenKind.TheVariants as token
use Rattle.ur_lex.specs.declared.token.Lexeme.{Lexeme}
use Rattle.ur_syntax.specs.declared.exp.Exp.{Exp}
use Rattle.ur_syntax.specs.declared.exp.ExpForm.TheVariants as form
use Rattle.ur_syntax.specs.declared.exp.QueryWord.{QueryWord}
use Rattle.ur_syntax.specs.declared.exp.QueryWord.TheVariants as queries
use Rattle.ur_syntax.specs.declared.sql.SqlQuery.{SqlQuery}
use Rattle.ur_syntax.specs.declared.sql.SqlChange.{SqlChange}
use Rattle.ur_parse_rules.specs.Rules.{Read, Refused}
use Rattle.ur_parse_rules.specs.Places.{Moves, IsAt, Other, OfKind, Unexpected, span_of}
use Rattle.ur_parse_rules.proofs.Tokens.{covers}
use Rattle.ur_parse_rules.proofs.Steps.{nothing, a_mark, a_word, an_one, mark_read, word_read, one_read, one_refused, no_mark, reads_by, refused_by}
use Rattle.ur_parse_rules.proofs.Choices.{chosen_word_at, starts_at}
use Rattle.ur_parse_rules.specs.Classes.{member}
use Rattle.ur_parse_rules.specs.Ends.{dot_class}
use Rattle.ur_parse_rules.specs.Expressions.{at}
use Rattle.ur_parse_rules.specs.Quoted.{expressions, Quoted}
use Rattle.ur_parse_rules.specs.ExpParts as e
use Rattle.ur_parse_rules.specs.SqlParts as s
use Rattle.ur_parse_rules.specs.Parts.{of_exp, of_sql, Ended}
use Rattle.ur_parse_rules.specs.Language.{language}
use Rattle.ur_parse_rules.proofs.Choice.{choice}
use Rattle.ur_parse_rules.proofs.AllDecided.{decided}
use Rattle.ur_parse_rules.proofs.Places.{missing}
use Rattle.ur_parse_con.proofs.Binders.{cannot_end}
use Rattle.ur_parse_exp_parts.specs.declared.word.FormWord.TheVariants as words
use Rattle.ur_parse_exp_parts.specs.Words.{Stands}
use Rattle.ur_parse_exp_parts.specs.Shapes.{query_word}

-- ---- `dml (change)`

module _ (n : ℕ) {tokens : List Lexeme} {here : ℕ} (a : Stands tokens here words.Dml) where
  pub dml_open : {r : Refusal} → Unexpected tokens (here + 1) (OfKind (token.Symbol symbol.LParen)) r → Refused language n (of_exp e.head) (drop here tokens) r
  dml_open u = refused_by decided 9 n (omega arith) (chosen_word_at (choice (of_exp e.head)) a (λ s us. refl)) (word_read a (no_mark u))

  module _ {i : ℕ} (b : IsAt tokens (here + 1) i (OfKind (token.Symbol symbol.LParen))) where
    pub dml_change : {r : Refusal} → Refused language n (of_sql expressions s.change) (drop i tokens) r → Refused language n (of_exp e.head) (drop here tokens) r
    dml_change h = refused_by decided 9 n (omega arith) (chosen_word_at (choice (of_exp e.head)) a (λ s us. refl)) (word_read a (mark_read b (one_refused h)))

    module _ (j : ℕ) {x : Quoted Exp SqlChange} (f : Read language n (of_sql expressions s.change) (drop i tokens) (drop j tokens) x) where
      pub dml_closed : {r : Refusal} → Unexpected tokens j (OfKind (token.Symbol symbol.RParen)) r → Refused language n (of_exp e.head) (drop here tokens) r
      dml_closed u = refused_by decided 9 n (omega arith) (chosen_word_at (choice (of_exp e.head)) a (λ s us. refl)) (word_read a (mark_read b (one_read decided f (no_mark u))))

      module _ {k : ℕ} (d : IsAt tokens j k (OfKind (token.Symbol symbol.RParen))) where
        pub dml_dotted : {last : ℕ} {r : Refusal} → Says r 5 [] [] → IsAt tokens k last (OfKind (token.Symbol symbol.Dot)) → Refused language n (of_exp e.head) (drop here tokens) r
        dml_dotted says o = refused_by decided 9 n (omega arith) (chosen_word_at (choice (of_exp e.head)) a (λ s us. refl)) (word_read a (mark_read b (one_read decided f (mark_read d (cannot_end (dot_class ∷ []) says (starts_at (member (dot_class ∷ [])) o (λ w. refl)) (λ p. p.stops))))))

        pub dml_read : Moves tokens here k → Other tokens k (OfKind (token.Symbol symbol.Dot)) → Read language n (of_exp e.head) (drop here tokens) (drop k tokens) (at (span_of tokens here k) (form.Dml (x.at 0 0) x.exps))
        dml_read m u = let fl = a_word {n = n} a (a_mark b (an_one f (a_mark d nothing))) in
            reads_by 9 n (omega arith) (record { v = (x, tt); span = span_of tokens here k; fills = fl; is_span = covers tokens here k m fl.taken fl.split; allowed = refl; builds = refl }) (missing refl u)

-- ---- a word and a query

module _ (n : ℕ) {tokens : List Lexeme} {here : ℕ} where
  pub query_open : (q : QueryWord) {r : Refusal} → Stands tokens here (query_word q) → Unexpected tokens (here + 1) (OfKind (token.Symbol symbol.LParen)) r → Refused language n (of_exp e.head) (drop here tokens) r
  query_open queries.QueryL a u = refused_by decided 10 n (omega arith) (chosen_word_at (choice (of_exp e.head)) a (λ s us. refl)) (word_read a (no_mark u))
  query_open queries.OneRow a u = refused_by decided 11 n (omega arith) (chosen_word_at (choice (of_exp e.head)) a (λ s us. refl)) (word_read a (no_mark u))
  query_open queries.OneOrNoRows a u = refused_by decided 12 n (omega arith) (chosen_word_at (choice (of_exp e.head)) a (λ s us. refl)) (word_read a (no_mark u))

  module _ {i : ℕ} (b : IsAt tokens (here + 1) i (OfKind (token.Symbol symbol.LParen))) where
    pub query_inner : (q : QueryWord) {r : Refusal} → Stands tokens here (query_word q) → Refused language n (of_sql expressions s.query) (drop i tokens) r → Refused language n (of_exp e.head) (drop here tokens) r
    query_inner queries.QueryL a h = refused_by decided 10 n (omega arith) (chosen_word_at (choice (of_exp e.head)) a (λ s us. refl)) (word_read a (mark_read b (one_refused h)))
    query_inner queries.OneRow a h = refused_by decided 11 n (omega arith) (chosen_word_at (choice (of_exp e.head)) a (λ s us. refl)) (word_read a (mark_read b (one_refused h)))
    query_inner queries.OneOrNoRows a h = refused_by decided 12 n (omega arith) (chosen_word_at (choice (of_exp e.head)) a (λ s us. refl)) (word_read a (mark_read b (one_refused h)))

    module _ (j : ℕ) {x : Quoted Exp SqlQuery} (f : Read language n (of_sql expressions s.query) (drop i tokens) (drop j tokens) x) where
      pub query_closed : (q : QueryWord) {r : Refusal} → Stands tokens here (query_word q) → Unexpected tokens j (OfKind (token.Symbol symbol.RParen)) r → Refused language n (of_exp e.head) (drop here tokens) r
      query_closed queries.QueryL a u = refused_by decided 10 n (omega arith) (chosen_word_at (choice (of_exp e.head)) a (λ s us. refl)) (word_read a (mark_read b (one_read decided f (no_mark u))))
      query_closed queries.OneRow a u = refused_by decided 11 n (omega arith) (chosen_word_at (choice (of_exp e.head)) a (λ s us. refl)) (word_read a (mark_read b (one_read decided f (no_mark u))))
      query_closed queries.OneOrNoRows a u = refused_by decided 12 n (omega arith) (chosen_word_at (choice (of_exp e.head)) a (λ s us. refl)) (word_read a (mark_read b (one_read decided f (no_mark u))))

      module _ {k : ℕ} (d : IsAt tokens j k (OfKind (token.Symbol symbol.RParen))) where
        pub query_dotted : (q : QueryWord) {last : ℕ} {r : Refusal} → Stands tokens here (query_word q) → Says r 5 [] [] → IsAt tokens k last (OfKind (token.Symbol symbol.Dot)) → Refused language n (of_exp e.head) (drop here tokens) r
        query_dotted queries.QueryL a says o = refused_by decided 10 n (omega arith) (chosen_word_at (choice (of_exp e.head)) a (λ s us. refl)) (word_read a (mark_read b (one_read decided f (mark_read d (cannot_end (dot_class ∷ []) says (starts_at (member (dot_class ∷ [])) o (λ w. refl)) (λ p. p.stops))))))
        query_dotted queries.OneRow a says o = refused_by decided 11 n (omega arith) (chosen_word_at (choice (of_exp e.head)) a (λ s us. refl)) (word_read a (mark_read b (one_read decided f (mark_read d (cannot_end (dot_class ∷ []) says (starts_at (member (dot_class ∷ [])) o (λ w. refl)) (λ p. p.stops))))))
        query_dotted queries.OneOrNoRows a says o = refused_by decided 12 n (omega arith) (chosen_word_at (choice (of_exp e.head)) a (λ s us. refl)) (word_read a (mark_read b (one_read decided f (mark_read d (cannot_end (dot_class ∷ []) says (starts_at (member (dot_class ∷ [])) o (λ w. refl)) (λ p. p.stops))))))

        pub query_read : (q : QueryWord) → Stands tokens here (query_word q) → Moves tokens here k → Other tokens k (OfKind (token.Symbol symbol.Dot)) → Read language n (of_exp e.head) (drop here tokens) (drop k tokens) (at (span_of tokens here k) (form.Query q (x.at 0 0) x.exps))
        query_read queries.QueryL a m u = let fl = a_word {n = n} a (a_mark b (an_one f (a_mark d nothing))) in
            reads_by 10 n (omega arith) (record { v = (x, tt); span = span_of tokens here k; fills = fl; is_span = covers tokens here k m fl.taken fl.split; allowed = refl; builds = refl }) (missing refl u)
        query_read queries.OneRow a m u = let fl = a_word {n = n} a (a_mark b (an_one f (a_mark d nothing))) in
            reads_by 11 n (omega arith) (record { v = (x, tt); span = span_of tokens here k; fills = fl; is_span = covers tokens here k m fl.taken fl.split; allowed = refl; builds = refl }) (missing refl u)
        query_read queries.OneOrNoRows a m u = let fl = a_word {n = n} a (a_mark b (an_one f (a_mark d nothing))) in
            reads_by 12 n (omega arith) (record { v = (x, tt); span = span_of tokens here k; fills = fl; is_span = covers tokens here k m fl.taken fl.split; allowed = refl; builds = refl }) (missing refl u)

-- ---- `queryX (query) (row)`

module _ (n : ℕ) {tokens : List Lexeme} {here : ℕ} (a : Stands tokens here words.QueryX) where
  pub x_open : {r : Refusal} → Unexpected tokens (here + 1) (OfKind (token.Symbol symbol.LParen)) r → Refused language n (of_exp e.head) (drop here tokens) r
  x_open u = refused_by decided 13 n (omega arith) (chosen_word_at (choice (of_exp e.head)) a (λ s us. refl)) (word_read a (no_mark u))

  module _ {i : ℕ} (b : IsAt tokens (here + 1) i (OfKind (token.Symbol symbol.LParen))) where
    pub x_query : {r : Refusal} → Refused language n (of_sql expressions s.query) (drop i tokens) r → Refused language n (of_exp e.head) (drop here tokens) r
    x_query h = refused_by decided 13 n (omega arith) (chosen_word_at (choice (of_exp e.head)) a (λ s us. refl)) (word_read a (mark_read b (one_refused h)))

    module _ (j : ℕ) {x : Quoted Exp SqlQuery} (f : Read language n (of_sql expressions s.query) (drop i tokens) (drop j tokens) x) where
      pub x_closed : {r : Refusal} → Unexpected tokens j (OfKind (token.Symbol symbol.RParen)) r → Refused language n (of_exp e.head) (drop here tokens) r
      x_closed u = refused_by decided 13 n (omega arith) (chosen_word_at (choice (of_exp e.head)) a (λ s us. refl)) (word_read a (mark_read b (one_read decided f (no_mark u))))

      module _ {k : ℕ} (d : IsAt tokens j k (OfKind (token.Symbol symbol.RParen))) where
        pub x_row_open : {r : Refusal} → Unexpected tokens k (OfKind (token.Symbol symbol.LParen)) r → Refused language n (of_exp e.head) (drop here tokens) r
        x_row_open u = refused_by decided 13 n (omega arith) (chosen_word_at (choice (of_exp e.head)) a (λ s us. refl)) (word_read a (mark_read b (one_read decided f (mark_read d (no_mark u)))))

        module _ {l : ℕ} (g : IsAt tokens k l (OfKind (token.Symbol symbol.LParen))) where
          pub x_row : {r : Refusal} → Refused language n (of_exp e.lambda) (drop l tokens) r → Refused language n (of_exp e.head) (drop here tokens) r
          x_row h = refused_by decided 13 n (omega arith) (chosen_word_at (choice (of_exp e.head)) a (λ s us. refl)) (word_read a (mark_read b (one_read decided f (mark_read d (mark_read g (one_refused h))))))

          module _ (p : ℕ) {y : Ended} (w : Read language n (of_exp e.lambda) (drop l tokens) (drop p tokens) y) where
            pub x_row_closed : {r : Refusal} → Unexpected tokens p (OfKind (token.Symbol symbol.RParen)) r → Refused language n (of_exp e.head) (drop here tokens) r
            x_row_closed u = refused_by decided 13 n (omega arith) (chosen_word_at (choice (of_exp e.head)) a (λ s us. refl)) (word_read a (mark_read b (one_read decided f (mark_read d (mark_read g (one_read decided w (no_mark u)))))))

            module _ {end : ℕ} (v : IsAt tokens p end (OfKind (token.Symbol symbol.RParen))) where
              pub x_dotted : {last : ℕ} {r : Refusal} → Says r 5 [] [] → IsAt tokens end last (OfKind (token.Symbol symbol.Dot)) → Refused language n (of_exp e.head) (drop here tokens) r
              x_dotted says o = refused_by decided 13 n (omega arith) (chosen_word_at (choice (of_exp e.head)) a (λ s us. refl)) (word_read a (mark_read b (one_read decided f (mark_read d (mark_read g (one_read decided w (mark_read v (cannot_end (dot_class ∷ []) says (starts_at (member (dot_class ∷ [])) o (λ w. refl)) (λ p. p.stops)))))))))

              pub x_read : Moves tokens here end → Other tokens end (OfKind (token.Symbol symbol.Dot)) → Read language n (of_exp e.head) (drop here tokens) (drop end tokens) (at (span_of tokens here end) (form.QueryX (x.at 0 0) x.exps y.exp))
              x_read m u = let fl = a_word {n = n} a (a_mark b (an_one f (a_mark d (a_mark g (an_one w (a_mark v nothing)))))) in
                  reads_by 13 n (omega arith) (record { v = (x, (y, tt)); span = span_of tokens here end; fills = fl; is_span = covers tokens here end m fl.taken fl.split; allowed = refl; builds = refl }) (missing refl u)

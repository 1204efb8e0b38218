-- WHERE and GROUP BY.
use Rattle.std.specs.Prelude.{◌≡◌, ◌+◌, ℕ, Bool, true, false, List, [], ◌∷◌, ◌++◌, drop, codes, Some, None, refl}
use Rattle.std.proofs.Common.{arith}
use Rattle.ur_base.specs.declared.refusal.Refusal.{Refusal}
use Rattle.ur_base.specs.Stopping.{Says}
use Rattle.ur_lex.specs.declared.token.Symbol.TheVariants as symbol
use Rattle.ur_lex.specs.declared.token.TokenKind.TheVariants as token
use Rattle.ur_lex.specs.declared.token.Lexeme.{Lexeme}
use Rattle.ur_syntax.specs.declared.sql.SqlExp.{SqlExp}
use Rattle.ur_parse_rules.specs.Rules.{Read, Refused, Stops, no_span}
use Rattle.ur_parse_rules.specs.Places.{IsAt, Other, OfKind, Spelled, Unexpected, starts}
use Rattle.ur_parse_rules.proofs.Steps.{nothing, a_mark, a_word, an_one, mark_read, word_read, one_read, one_refused, no_word, reads_by, refused_by}
use Rattle.ur_parse_rules.proofs.Choices.{chosen_mark_at, chosen_word_at, first_stops, if_false}
use Rattle.ur_parse_rules.specs.Classes.{member, word_class}
use Rattle.ur_parse_rules.specs.Quoted.{raw, plain, mapped, some}
use Rattle.ur_parse_rules.specs.SqlParts as s
use Rattle.ur_parse_rules.specs.Parts.{of_sql}
use Rattle.ur_parse_rules.specs.Ends.{sql_last}
use Rattle.ur_parse_rules.specs.Language.{language}
use Rattle.ur_parse_rules.proofs.Choice.{choice}
use Rattle.ur_parse_rules.proofs.AllDecided.{decided}
use Rattle.ur_parse_rules.proofs.Places.{missing, may_not_end}
use Rattle.ur_parse_embed_code.specs.declared.quotes.Quotes.{Quotes}
use Rattle.ur_parse_embed_code.specs.Quotes.{Makes}
use Rattle.ur_parse_embed_code.proofs.Numbering.{numbered_plain, numbered_mapped}
use Rattle.ur_parse_embed.proofs.Words.{no_word as word_stops}
use Rattle.ur_parse_embed.specs.Pieces.{Adds}
use Rattle.ur_parse_embed.proofs.Growing.{goes_on_not, AddedFrom, added_more, added_done}

-- ---- WHERE

no_where : (bare : Bool) (ts : List Lexeme) → Stops (member (word_class token.Upper (codes "WHERE") ∷ [])) ts → choice (of_sql raw (s.filter bare)) ts ≡ 0
no_where bare [] st = refl
no_where bare (t ∷ ts) st = if_false 1 st

module _ {n : ℕ} (bare : Bool) {tokens : List Lexeme} {i : ℕ} where
  pub filter_more : {r : Refusal} → Other tokens i (Spelled token.Upper (codes "WHERE")) → Says r 5 [] [] → starts (member (sql_last (s.filter bare))) (drop i tokens) ≡ true → Refused language n (of_sql raw (s.filter bare)) (drop i tokens) r
  filter_more o says e = refused_by decided 0 n (omega arith) (no_where bare (drop i tokens) (word_stops refl o)) (may_not_end says (λ q. goes_on_not (sql_last (s.filter bare)) (drop i tokens) e q.stops))

pub filter_none : {n : ℕ} (bare : Bool) (tokens : List Lexeme) (i : ℕ) (q : Quotes) → starts (member (sql_last (s.filter bare))) (drop i tokens) ≡ false → Makes (Read language n (of_sql raw (s.filter bare)) (drop i tokens) (drop i tokens)) tokens n q q None
filter_none {n = n} bare tokens i q e = record {
  of = plain None;
  read = reads_by 0 n (omega arith) (record { v = tt; span = no_span; is_span = refl; allowed = refl; builds = refl; fills = nothing }) (first_stops (member (sql_last (s.filter bare))) (drop i tokens) e);
  made = numbered_plain tokens n q None;
}

module _ {n : ℕ} (bare : Bool) {tokens : List Lexeme} {i : ℕ} where
  module _ {j : ℕ} (a : IsAt tokens i j (Spelled token.Upper (codes "WHERE"))) where
    pub where_refused : {r : Refusal} → Refused language n (of_sql raw (s.sexp bare)) (drop j tokens) r → Refused language n (of_sql raw (s.filter bare)) (drop i tokens) r
    where_refused h = refused_by decided 1 n (omega arith) (chosen_word_at (choice (of_sql raw (s.filter bare))) a (λ p us. refl)) (word_read a (one_refused h))

    module _ (k : ℕ) {old new : Quotes} {x : SqlExp} (m : Makes (Read language n (of_sql raw (s.sexp bare)) (drop j tokens) (drop k tokens)) tokens n old new x) where
      pub where_more : {r : Refusal} → Says r 5 [] [] → starts (member (sql_last (s.filter bare))) (drop k tokens) ≡ true → Refused language n (of_sql raw (s.filter bare)) (drop i tokens) r
      where_more says e = refused_by decided 1 n (omega arith) (chosen_word_at (choice (of_sql raw (s.filter bare))) a (λ p us. refl)) (word_read a (one_read decided m.read (may_not_end says (λ q. goes_on_not (sql_last (s.filter bare)) (drop k tokens) e q.stops))))

      pub where_read : starts (member (sql_last (s.filter bare))) (drop k tokens) ≡ false → Makes (Read language n (of_sql raw (s.filter bare)) (drop i tokens) (drop k tokens)) tokens n old new (Some x)
      where_read e = record {
        of = mapped some m.of;
        read = reads_by 1 n (omega arith) (record { v = (m.of, tt); span = no_span; is_span = refl; allowed = refl; builds = refl; fills = a_word a (an_one m.read nothing) }) (first_stops (member (sql_last (s.filter bare))) (drop k tokens) e);
        made = numbered_mapped some m.made;
      }

-- ---- columns

abbrev pub MoreColumns : ℕ → List Lexeme → List Lexeme → List SqlExp → Type 0
MoreColumns n = Read language n (of_sql raw s.more_columns)

abbrev pub NoMoreColumns : ℕ → List Lexeme → Refusal → Type 0
NoMoreColumns n = Refused language n (of_sql raw s.more_columns)

module _ {tokens : List Lexeme} {i j : ℕ} {before list : List SqlExp} (c : AddedFrom MoreColumns NoMoreColumns tokens i j before list) where
  module _ (a : IsAt tokens j (j + 1) (OfKind (token.Symbol symbol.Comma))) where
    pub columns_refused : {r : Refusal} → ((n : ℕ) → Refused language n (of_sql raw (s.column false)) (drop (j + 1) tokens) r) → (n : ℕ) → Refused language n (of_sql raw s.more_columns) (drop i tokens) r
    columns_refused h n = c.refused n _ (refused_by decided 1 n (omega arith) (chosen_mark_at (choice (of_sql raw s.more_columns)) a (λ w p us. refl)) (mark_read a (one_refused (h n))))

    pub columns_more : (l : ℕ) {x : SqlExp} → ((n : ℕ) → Read language n (of_sql raw (s.column false)) (drop (j + 1) tokens) (drop l tokens) x) → AddedFrom MoreColumns NoMoreColumns tokens i l before (list ++ x ∷ [])
    columns_more l {x = x} b = added_more MoreColumns NoMoreColumns c l
        (λ n rest y r. reads_by 1 n (omega arith) (record { v = (x, (y, tt)); span = no_span; is_span = refl; allowed = refl; builds = refl; fills = a_mark a (an_one (b n) (an_one r nothing)) }) r.stops)
        (λ n r h. refused_by decided 1 n (omega arith) (chosen_mark_at (choice (of_sql raw s.more_columns)) a (λ w p us. refl)) (mark_read a (one_read decided (b n) (one_refused h))))

  pub columns_done : Other tokens j (OfKind (token.Symbol symbol.Comma)) → (n : ℕ) → Adds (Read language n (of_sql raw s.more_columns) (drop i tokens) (drop j tokens)) before list
  columns_done o n = added_done MoreColumns NoMoreColumns c n j (reads_by 0 n (omega arith) (record { v = tt; span = no_span; is_span = refl; allowed = refl; builds = refl; fills = nothing }) (missing refl o))

-- ---- GROUP BY

no_group : (ts : List Lexeme) → Stops (member (word_class token.Upper (codes "GROUP") ∷ [])) ts → choice (of_sql raw s.group) ts ≡ 0
no_group [] st = refl
no_group (t ∷ ts) st = if_false 1 st

module _ {n : ℕ} {tokens : List Lexeme} {i : ℕ} where
  pub group_more : {r : Refusal} → Other tokens i (Spelled token.Upper (codes "GROUP")) → Says r 5 [] [] → starts (member (sql_last s.group)) (drop i tokens) ≡ true → Refused language n (of_sql raw s.group) (drop i tokens) r
  group_more o says e = refused_by decided 0 n (omega arith) (no_group (drop i tokens) (word_stops refl o)) (may_not_end says (λ q. goes_on_not (sql_last s.group) (drop i tokens) e q.stops))

pub group_none : {n : ℕ} (tokens : List Lexeme) (i : ℕ) → starts (member (sql_last s.group)) (drop i tokens) ≡ false → Read language n (of_sql raw s.group) (drop i tokens) (drop i tokens) []
group_none {n = n} tokens i e = reads_by 0 n (omega arith) (record { v = tt; span = no_span; is_span = refl; allowed = refl; builds = refl; fills = nothing }) (first_stops (member (sql_last s.group)) (drop i tokens) e)

module _ {n : ℕ} {tokens : List Lexeme} {i : ℕ} where
  module _ {j : ℕ} (a : IsAt tokens i j (Spelled token.Upper (codes "GROUP"))) where
    pub group_by : {r : Refusal} → Unexpected tokens j (Spelled token.Upper (codes "BY")) r → Refused language n (of_sql raw s.group) (drop i tokens) r
    group_by u = refused_by decided 1 n (omega arith) (chosen_word_at (choice (of_sql raw s.group)) a (λ p us. refl)) (word_read a (no_word u))

    module _ {k : ℕ} (b : IsAt tokens j k (Spelled token.Upper (codes "BY"))) where
      pub group_first : {r : Refusal} → Refused language n (of_sql raw (s.column false)) (drop k tokens) r → Refused language n (of_sql raw s.group) (drop i tokens) r
      group_first h = refused_by decided 1 n (omega arith) (chosen_word_at (choice (of_sql raw s.group)) a (λ p us. refl)) (word_read a (word_read b (one_refused h)))

      module _ (l : ℕ) {x : SqlExp} (c : Read language n (of_sql raw (s.column false)) (drop k tokens) (drop l tokens) x) where
        pub group_rest : {r : Refusal} → Refused language n (of_sql raw s.more_columns) (drop l tokens) r → Refused language n (of_sql raw s.group) (drop i tokens) r
        group_rest h = refused_by decided 1 n (omega arith) (chosen_word_at (choice (of_sql raw s.group)) a (λ p us. refl)) (word_read a (word_read b (one_read decided c (one_refused h))))

        module _ (m : ℕ) {before list : List SqlExp} (d : Adds (Read language n (of_sql raw s.more_columns) (drop l tokens) (drop m tokens)) before list) where
          pub group_again : {r : Refusal} → Says r 5 [] [] → starts (member (sql_last s.group)) (drop m tokens) ≡ true → Refused language n (of_sql raw s.group) (drop i tokens) r
          group_again says e = refused_by decided 1 n (omega arith) (chosen_word_at (choice (of_sql raw s.group)) a (λ p us. refl))
              (word_read a (word_read b (one_read decided c (one_read decided d.holds (may_not_end says (λ q. goes_on_not (sql_last s.group) (drop m tokens) e q.stops))))))

          pub group_read : before ≡ x ∷ [] → starts (member (sql_last s.group)) (drop m tokens) ≡ false → Read language n (of_sql raw s.group) (drop i tokens) (drop m tokens) list
          group_read w e = let y = d.is in rw (y, w) (reads_by 1 n (omega arith) (record { v = (x, (d.more, tt)); span = no_span; is_span = refl; allowed = refl; builds = refl; fills = a_word a (a_word b (an_one c (an_one d.holds nothing))) })
              (first_stops (member (sql_last s.group)) (drop m tokens) e))

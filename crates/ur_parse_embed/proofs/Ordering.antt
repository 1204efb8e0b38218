-- ORDER BY.
use Rattle.std.specs.Prelude.{◌≡◌, ◌+◌, ℕ, Bool, true, false, if◌then◌else◌, List, [], ◌∷◌, ◌++◌, drop, codes, refl}
use Rattle.std.proofs.Common.{arith}
use Rattle.ur_base.specs.declared.refusal.Refusal.{Refusal}
use Rattle.ur_base.specs.Stopping.{Says}
use Rattle.ur_lex.specs.declared.token.Symbol.TheVariants as symbol
use Rattle.ur_lex.specs.declared.token.TokenKind.TheVariants as token
use Rattle.ur_lex.specs.declared.token.Lexeme.{Lexeme}
use Rattle.ur_syntax.specs.declared.sql.SqlExp.{SqlExp}
use Rattle.ur_syntax.specs.declared.sql.OrderKey.{OrderKey}
use Rattle.ur_syntax.specs.declared.sql.Direction.{Direction}
use Rattle.ur_syntax.specs.declared.sql.Direction.TheVariants as directions
use Rattle.ur_parse_rules.specs.Rules.{Read, Refused, Stops, no_span}
use Rattle.ur_parse_rules.specs.Places.{IsAt, Other, OfKind, Spelled, Unexpected, starts}
use Rattle.ur_parse_rules.proofs.Steps.{nothing, a_mark, a_word, an_one, mark_read, word_read, one_read, one_refused, no_word, reads_by, refused_by}
use Rattle.ur_parse_rules.proofs.Choices.{chosen_mark_at, chosen_word_at, first_stops, if_false}
use Rattle.ur_parse_rules.specs.Classes.{member, all_of, word_class}
use Rattle.ur_parse_rules.specs.Quoted.{Quoted, Raw, raw, plain, mapped, both, cons}
use Rattle.ur_parse_rules.specs.SqlParts as s
use Rattle.ur_parse_rules.specs.Parts.{of_sql}
use Rattle.ur_parse_rules.specs.Ends.{sql_last}
use Rattle.ur_parse_rules.specs.Language.{language}
use Rattle.ur_parse_rules.proofs.Choice.{choice}
use Rattle.ur_parse_rules.proofs.AllDecided.{decided}
use Rattle.ur_parse_rules.proofs.Places.{missing, stops_cons, may_not_end}
use Rattle.ur_parse_embed_code.specs.declared.quotes.Quotes.{Quotes}
use Rattle.ur_parse_embed_code.specs.Quotes.{Makes}
use Rattle.ur_parse_embed_code.proofs.Numbering.{numbered_plain, numbered_mapped, numbered_both}
use Rattle.ur_parse_embed.proofs.Words.{no_word as word_stops}
use Rattle.ur_parse_rules.specs.Statements.{key_of}
use Rattle.ur_parse_embed.specs.Pieces.{Extends}
use Rattle.ur_parse_embed.proofs.Growing.{goes_on_not, Grown, grown_more, grown_done}

-- ---- a direction

module _ {n : ℕ} {tokens : List Lexeme} {i j : ℕ} where
  pub rising_more : {r : Refusal} → IsAt tokens i j (Spelled token.Upper (codes "ASC")) → Says r 5 [] [] → starts (member (sql_last s.direction)) (drop j tokens) ≡ true → Refused language n (of_sql raw s.direction) (drop i tokens) r
  rising_more a says e = refused_by decided 1 n (omega arith) (chosen_word_at (choice (of_sql raw s.direction)) a (λ p us. refl)) (word_read a (may_not_end says (λ q. goes_on_not (sql_last s.direction) (drop j tokens) e q.stops)))

  pub rising : IsAt tokens i j (Spelled token.Upper (codes "ASC")) → starts (member (sql_last s.direction)) (drop j tokens) ≡ false → Read language n (of_sql raw s.direction) (drop i tokens) (drop j tokens) directions.Ascending
  rising a e = reads_by 1 n (omega arith) (record { v = tt; span = no_span; is_span = refl; allowed = refl; builds = refl; fills = a_word a nothing }) (first_stops (member (sql_last s.direction)) (drop j tokens) e)

  pub falling_more : {r : Refusal} → IsAt tokens i j (Spelled token.Upper (codes "DESC")) → Says r 5 [] [] → starts (member (sql_last s.direction)) (drop j tokens) ≡ true → Refused language n (of_sql raw s.direction) (drop i tokens) r
  falling_more a says e = refused_by decided 2 n (omega arith) (chosen_word_at (choice (of_sql raw s.direction)) a (λ p us. refl)) (word_read a (may_not_end says (λ q. goes_on_not (sql_last s.direction) (drop j tokens) e q.stops)))

  pub falling : IsAt tokens i j (Spelled token.Upper (codes "DESC")) → starts (member (sql_last s.direction)) (drop j tokens) ≡ false → Read language n (of_sql raw s.direction) (drop i tokens) (drop j tokens) directions.Descending
  falling a e = reads_by 2 n (omega arith) (record { v = tt; span = no_span; is_span = refl; allowed = refl; builds = refl; fills = a_word a nothing }) (first_stops (member (sql_last s.direction)) (drop j tokens) e)

pub no_direction : {n : ℕ} {tokens : List Lexeme} {i : ℕ} → Other tokens i (Spelled token.Upper (codes "ASC")) → Other tokens i (Spelled token.Upper (codes "DESC")) → Read language n (of_sql raw s.direction) (drop i tokens) (drop i tokens) directions.Ascending
no_direction {n = n} a b = reads_by 0 n (omega arith) (record { v = tt; span = no_span; is_span = refl; allowed = refl; builds = refl; fills = nothing }) (stops_cons (word_class token.Upper (codes "ASC")) (word_class token.Upper (codes "DESC") ∷ []) _ (word_stops refl a) (word_stops refl b))

-- ---- a key

only_one : (b : Bool) → let z : ℕ = if b then 0 else 0 in z ≡ 0
only_one true = refl
only_one false = refl

single_key : (ts : List Lexeme) → choice (of_sql raw s.order_key) ts ≡ 0
single_key [] = refl
single_key (t ∷ ts) = only_one _

module _ {n : ℕ} (tokens : List Lexeme) (i : ℕ) where
  pub key_refused : {r : Refusal} → Refused language n (of_sql raw (s.sexp false)) (drop i tokens) r → Refused language n (of_sql raw s.order_key) (drop i tokens) r
  key_refused h = refused_by decided 0 n (omega arith) (single_key (drop i tokens)) (one_refused h)

  module _ (j : ℕ) {old new : Quotes} {x : SqlExp} (m : Makes (Read language n (of_sql raw (s.sexp false)) (drop i tokens) (drop j tokens)) tokens n old new x) where
    pub direction_refused : {r : Refusal} → Refused language n (of_sql raw s.direction) (drop j tokens) r → Refused language n (of_sql raw s.order_key) (drop i tokens) r
    direction_refused h = refused_by decided 0 n (omega arith) (single_key (drop i tokens)) (one_read decided m.read (one_refused h))

    module _ (k : ℕ) {y : Direction} (a : Read language n (of_sql raw s.direction) (drop j tokens) (drop k tokens) y) where
      pub key_more : {r : Refusal} → Says r 5 [] [] → starts (member (sql_last s.order_key)) (drop k tokens) ≡ true → Refused language n (of_sql raw s.order_key) (drop i tokens) r
      key_more says e = refused_by decided 0 n (omega arith) (single_key (drop i tokens)) (one_read decided m.read (one_read decided a (may_not_end says (λ q. goes_on_not (sql_last s.order_key) (drop k tokens) e q.stops))))

      pub key_read : starts (member (sql_last s.order_key)) (drop k tokens) ≡ false → let z : OrderKey = record { key = x; direction = y } in Makes (Read language n (of_sql raw s.order_key) (drop i tokens) (drop k tokens)) tokens n old new z
      key_read e = record {
        of = mapped (key_of y) m.of;
        read = reads_by 0 n (omega arith) (record { v = (m.of, (y, tt)); span = no_span; is_span = refl; allowed = refl; builds = refl; fills = an_one m.read (an_one a nothing) }) (first_stops (member (sql_last s.order_key)) (drop k tokens) e);
        made = numbered_mapped (key_of y) m.made;
      }

-- ---- more keys

abbrev pub MoreKeys : ℕ → List Lexeme → List Lexeme → Quoted Raw (List OrderKey) → Type 0
MoreKeys n = Read language n (of_sql raw s.more_keys)

abbrev pub NoMoreKeys : ℕ → List Lexeme → Refusal → Type 0
NoMoreKeys n = Refused language n (of_sql raw s.more_keys)

no_comma : (ts : List Lexeme) → Stops (member (all_of (token.Symbol symbol.Comma) ∷ [])) ts → choice (of_sql raw s.more_keys) ts ≡ 0
no_comma [] st = refl
no_comma (t ∷ ts) st = if_false 1 st

module _ {n : ℕ} {tokens : List Lexeme} {i j : ℕ} {old now : Quotes} {list : List OrderKey} (g : Grown (MoreKeys n) (NoMoreKeys n) tokens n i j old now list) where
  module _ (a : IsAt tokens j (j + 1) (OfKind (token.Symbol symbol.Comma))) where
    pub keys_refused : {r : Refusal} → Refused language n (of_sql raw s.order_key) (drop (j + 1) tokens) r → Refused language n (of_sql raw s.more_keys) (drop i tokens) r
    keys_refused h = g.refused _ (refused_by decided 1 n (omega arith) (chosen_mark_at (choice (of_sql raw s.more_keys)) a (λ w p us. refl)) (mark_read a (one_refused h)))

    pub keys_more : (l : ℕ) {next : Quotes} {x : OrderKey} → Makes (Read language n (of_sql raw s.order_key) (drop (j + 1) tokens) (drop l tokens)) tokens n now next x → Grown (MoreKeys n) (NoMoreKeys n) tokens n i l old next (list ++ x ∷ [])
    keys_more l m = grown_more (MoreKeys n) (NoMoreKeys n) g l (λ y. both cons m.of y)
        (λ rest y b. reads_by 1 n (omega arith) (record { v = (m.of, (y, tt)); span = no_span; is_span = refl; allowed = refl; builds = refl; fills = a_mark a (an_one m.read (an_one b nothing)) }) b.stops)
        (λ r u. refused_by decided 1 n (omega arith) (chosen_mark_at (choice (of_sql raw s.more_keys)) a (λ w p us. refl)) (mark_read a (one_read decided m.read (one_refused u))))
        (λ new y ts z. numbered_both cons m.made z)

  pub keys_ended : {r : Refusal} → Other tokens j (OfKind (token.Symbol symbol.Comma)) → Says r 5 [] [] → starts (member (sql_last s.more_keys)) (drop j tokens) ≡ true → Refused language n (of_sql raw s.more_keys) (drop i tokens) r
  keys_ended o says e = g.refused _ (refused_by decided 0 n (omega arith) (no_comma (drop j tokens) (missing refl o)) (may_not_end says (λ q. goes_on_not (sql_last s.more_keys) (drop j tokens) e q.stops)))

  pub keys_done : starts (member (sql_last s.more_keys)) (drop j tokens) ≡ false → Makes (Read language n (of_sql raw s.more_keys) (drop i tokens) (drop j tokens)) tokens n old now list
  keys_done e = grown_done (MoreKeys n) (NoMoreKeys n) g j (reads_by 0 n (omega arith) (record { v = tt; span = no_span; is_span = refl; allowed = refl; builds = refl; fills = nothing }) (first_stops (member (sql_last s.more_keys)) (drop j tokens) e))

-- ---- ORDER BY

no_order : (ts : List Lexeme) → Stops (member (word_class token.Upper (codes "ORDER") ∷ [])) ts → choice (of_sql raw s.order) ts ≡ 0
no_order [] st = refl
no_order (t ∷ ts) st = if_false 1 st

module _ {n : ℕ} {tokens : List Lexeme} {i : ℕ} where
  pub order_more : {r : Refusal} → Other tokens i (Spelled token.Upper (codes "ORDER")) → Says r 5 [] [] → starts (member (sql_last s.order)) (drop i tokens) ≡ true → Refused language n (of_sql raw s.order) (drop i tokens) r
  order_more o says e = refused_by decided 0 n (omega arith) (no_order (drop i tokens) (word_stops refl o)) (may_not_end says (λ q. goes_on_not (sql_last s.order) (drop i tokens) e q.stops))

pub order_none : {n : ℕ} (tokens : List Lexeme) (i : ℕ) (q : Quotes) → starts (member (sql_last s.order)) (drop i tokens) ≡ false → Makes (Read language n (of_sql raw s.order) (drop i tokens) (drop i tokens)) tokens n q q []
order_none {n = n} tokens i q e = record {
  of = plain [];
  read = reads_by 0 n (omega arith) (record { v = tt; span = no_span; is_span = refl; allowed = refl; builds = refl; fills = nothing }) (first_stops (member (sql_last s.order)) (drop i tokens) e);
  made = numbered_plain tokens n q [];
}

module _ {n : ℕ} {tokens : List Lexeme} {i : ℕ} where
  module _ {j : ℕ} (a : IsAt tokens i j (Spelled token.Upper (codes "ORDER"))) where
    pub order_by : {r : Refusal} → Unexpected tokens j (Spelled token.Upper (codes "BY")) r → Refused language n (of_sql raw s.order) (drop i tokens) r
    order_by u = refused_by decided 1 n (omega arith) (chosen_word_at (choice (of_sql raw s.order)) a (λ p us. refl)) (word_read a (no_word u))

    module _ {k : ℕ} (b : IsAt tokens j k (Spelled token.Upper (codes "BY"))) where
      pub order_first : {r : Refusal} → Refused language n (of_sql raw s.order_key) (drop k tokens) r → Refused language n (of_sql raw s.order) (drop i tokens) r
      order_first h = refused_by decided 1 n (omega arith) (chosen_word_at (choice (of_sql raw s.order)) a (λ p us. refl)) (word_read a (word_read b (one_refused h)))

      module _ (l : ℕ) {old mid : Quotes} {x : OrderKey} (c : Makes (Read language n (of_sql raw s.order_key) (drop k tokens) (drop l tokens)) tokens n old mid x) where
        pub order_rest : {r : Refusal} → Refused language n (of_sql raw s.more_keys) (drop l tokens) r → Refused language n (of_sql raw s.order) (drop i tokens) r
        order_rest h = refused_by decided 1 n (omega arith) (chosen_word_at (choice (of_sql raw s.order)) a (λ p us. refl)) (word_read a (word_read b (one_read decided c.read (one_refused h))))

        module _ (m : ℕ) {new : Quotes} {before list : List OrderKey} (d : Extends (Read language n (of_sql raw s.more_keys) (drop l tokens) (drop m tokens)) tokens n mid new before list) where
          pub order_again : {r : Refusal} → Says r 5 [] [] → starts (member (sql_last s.order)) (drop m tokens) ≡ true → Refused language n (of_sql raw s.order) (drop i tokens) r
          order_again says e = refused_by decided 1 n (omega arith) (chosen_word_at (choice (of_sql raw s.order)) a (λ p us. refl))
              (word_read a (word_read b (one_read decided c.read (one_read decided d.makes.read (may_not_end says (λ q. goes_on_not (sql_last s.order) (drop m tokens) e q.stops))))))

          pub order_read : before ≡ x ∷ [] → starts (member (sql_last s.order)) (drop m tokens) ≡ false → Makes (Read language n (of_sql raw s.order) (drop i tokens) (drop m tokens)) tokens n old new list
          order_read w e = let y = d.is in rw (y, w) (record {
            of = both cons c.of d.makes.of;
            read = reads_by 1 n (omega arith) (record { v = (c.of, (d.makes.of, tt)); span = no_span; is_span = refl; allowed = refl; builds = refl; fills = a_word a (a_word b (an_one c.read (an_one d.makes.read nothing))) })
                (first_stops (member (sql_last s.order)) (drop m tokens) e);
            made = numbered_both cons c.made d.makes.made;
          })

-- Values, columns and expressions in parentheses.
use Rattle.std.specs.Prelude.{◌≡◌, ◌+◌, ℕ, Bool, true, false, List, [], ◌∷◌, drop, codes, refl}
use Rattle.std.proofs.Common.{sym, ◌∙◌, ap, subst, arith}
use Rattle.std.proofs.lemmas.Slice.Eq.{bytes_eq-Decides}
use Rattle.std.specs.Str.{bytes_eq}
use Rattle.ur_base.specs.declared.refusal.Refusal.{Refusal}
use Rattle.ur_lex.specs.declared.token.Symbol.TheVariants as symbol
use Rattle.ur_lex.specs.declared.token.TokenKind.TheVariants as token
use Rattle.ur_lex.specs.declared.token.Lexeme.{Lexeme}
use Rattle.ur_lex.specs.Spelling.{Text}
use Rattle.ur_syntax.specs.declared.sql.SqlExp.{SqlExp}
use Rattle.ur_syntax.specs.declared.sql.SqlForm.{SqlForm}
use Rattle.ur_parse_rules.specs.Rules.{Read, Refused, Stops, no_span, syntax}
use Rattle.ur_parse_rules.specs.Places.{Moves, span_of, IsAt, IsName, Other, OfKind, Spelled, Passing, Unexpected, any}
use Rattle.ur_parse_rules.proofs.Tokens.{covers}
use Rattle.ur_parse_rules.proofs.Numbers.{not_number, number_read}
use Rattle.ur_parse_rules.proofs.Steps.{nothing, a_mark, a_word, a_name, a_number, an_one, mark_read, word_read, name_read, one_read, one_refused, no_mark, not_mark, not_word, not_name, any_other, none_of, reads_by, refused_by}
use Rattle.ur_parse_rules.proofs.Choices.{chosen_mark_at, chosen_word_at, chosen_name_at, Begins, begins_by, not_one, stops_first}
use Rattle.ur_parse_rules.specs.Classes.{Classes, member, all_of, named_class}
use Rattle.ur_parse_rules.specs.Words.{is_field}
use Rattle.ur_parse_rules.specs.Quoted.{raw, plain, antiquote, mapped}
use Rattle.ur_parse_rules.specs.SqlParts as s
use Rattle.ur_parse_rules.specs.Parts.{of_sql}
use Rattle.ur_parse_rules.specs.Ends.{sql_atom}
use Rattle.ur_parse_rules.specs.SqlExpressions.{some_of, anti_of}
use Rattle.ur_parse_rules.specs.Language.{language}
use Rattle.ur_parse_rules.proofs.Choice.{choice}
use Rattle.ur_parse_rules.proofs.AllDecided.{decided}
use Rattle.ur_parse_rules.proofs.Tests.{false_true, is_not, or_first}
use Rattle.ur_parse_rules.proofs.Places.{name_moves, mark_moves, missing, stops_cons, may_not_end}
use Rattle.ur_parse_embed_code.specs.Absent.{Present}
use Rattle.ur_parse_embed_code.specs.declared.quotes.Quotes.{Quotes}
use Rattle.ur_parse_embed_code.specs.Quotes.{Makes, Holds}
use Rattle.ur_parse_embed_code.proofs.Numbering.{numbered_plain, numbered_mapped}
use Rattle.ur_parse_embed.specs.Columns.{Undotted}
use Rattle.ur_parse_embed.specs.Leaves.{NoLeaf, IsValue, is_number, is_text, is_true, is_false, is_null}
use Rattle.ur_parse_embed.proofs.Words.{no_name as name_stops}
use Rattle.ur_parse_embed.proofs.Columned.{no_dot, dotted}

-- a dot stands behind what it goes on behind
dot_goes_on : {A : Type 0} (bare : Bool) {tokens : List Lexeme} {i j : ℕ} → bare ≡ true → IsAt tokens i j (OfKind (token.Symbol symbol.Dot)) → Stops (member (sql_atom bare)) (drop i tokens) → A
dot_goes_on true e a st = dotted a st
dot_goes_on false e a st = false_true e

-- ---- `SOME(e)`

module _ {n : ℕ} {bare : Bool} {tokens : List Lexeme} {i : ℕ} (a : IsAt tokens i (i + 1) (Spelled token.Upper (codes "SOME"))) where
  pub some_open : {r : Refusal} → Unexpected tokens (i + 1) (OfKind (token.Symbol symbol.LParen)) r → Refused language n (of_sql raw (s.atom bare)) (drop i tokens) r
  some_open u = refused_by decided 5 n (omega arith) (chosen_word_at (choice (of_sql raw (s.atom bare))) a (λ p us. refl)) (word_read a (no_mark u))

  module _ {j : ℕ} (b : IsAt tokens (i + 1) j (OfKind (token.Symbol symbol.LParen))) where
    pub some_inner : {r : Refusal} → Refused language n (of_sql raw (s.sexp bare)) (drop j tokens) r → Refused language n (of_sql raw (s.atom bare)) (drop i tokens) r
    some_inner h = refused_by decided 5 n (omega arith) (chosen_word_at (choice (of_sql raw (s.atom bare))) a (λ p us. refl)) (word_read a (mark_read b (one_refused h)))

    module _ (k : ℕ) {old new : Quotes} {tree : SqlExp} (c : Makes (Read language n (of_sql raw (s.sexp bare)) (drop j tokens) (drop k tokens)) tokens n old new tree) where
      pub some_close : {r : Refusal} → Unexpected tokens k (OfKind (token.Symbol symbol.RParen)) r → Refused language n (of_sql raw (s.atom bare)) (drop i tokens) r
      some_close u = refused_by decided 5 n (omega arith) (chosen_word_at (choice (of_sql raw (s.atom bare))) a (λ p us. refl)) (word_read a (mark_read b (one_read decided c.read (no_mark u))))

      module _ {l : ℕ} (d : IsAt tokens k l (OfKind (token.Symbol symbol.RParen))) where
        pub some_dotted : {r : Refusal} → bare ≡ true → Present tokens l (token.Symbol symbol.Dot) r → Refused language n (of_sql raw (s.atom bare)) (drop i tokens) r
        some_dotted e p = refused_by decided 5 n (omega arith) (chosen_word_at (choice (of_sql raw (s.atom bare))) a (λ p us. refl)) (word_read a (mark_read b (one_read decided c.read (mark_read d (may_not_end p.says (λ q. dot_goes_on bare e p.is q.stops))))))

        pub some_read : Moves tokens i l → Undotted tokens l bare → Makes (Read language n (of_sql raw (s.atom bare)) (drop i tokens) (drop l tokens)) tokens n old new (some_of (span_of tokens i l) tree)
        some_read m o = let f = a_word {n = n} a (a_mark b (an_one c.read (a_mark d nothing))) in record {
          of = mapped (some_of (span_of tokens i l)) c.of;
          read = reads_by 5 n (omega arith) (record { v = (c.of, tt); span = span_of tokens i l; fills = f; is_span = covers tokens i l m f.taken f.split; allowed = refl; builds = refl }) (no_dot bare tokens l o);
          made = numbered_mapped (some_of (span_of tokens i l)) c.made;
        }

-- ---- `{[e]}`

module _ {n : ℕ} {bare : Bool} {tokens : List Lexeme} {i j : ℕ} (a : IsAt tokens i j (OfKind (token.Symbol symbol.LBrace))) where
  pub anti_refused : {r : Refusal} → Refused language n (of_sql raw s.anti) (drop i tokens) r → Refused language n (of_sql raw (s.atom bare)) (drop i tokens) r
  anti_refused h = refused_by decided 7 n (omega arith) (chosen_mark_at (choice (of_sql raw (s.atom bare))) a (λ w p us. refl)) (one_refused h)

  module _ {k : ℕ} {old new : Quotes} {m : ℕ} (c : Holds antiquote (λ c. (n : ℕ) → Read language n (of_sql raw s.anti) (drop i tokens) (drop k tokens) c) tokens n old new m) where
    pub anti_dotted : {r : Refusal} → bare ≡ true → Present tokens k (token.Symbol symbol.Dot) r → Refused language n (of_sql raw (s.atom bare)) (drop i tokens) r
    anti_dotted e p = refused_by decided 7 n (omega arith) (chosen_mark_at (choice (of_sql raw (s.atom bare))) a (λ w p us. refl)) (one_read decided (c.read n) (may_not_end p.says (λ q. dot_goes_on bare e p.is q.stops)))

    pub anti_read : Moves tokens i k → Undotted tokens k bare → Makes (Read language n (of_sql raw (s.atom bare)) (drop i tokens) (drop k tokens)) tokens n old new (anti_of (span_of tokens i k) m)
    anti_read o w = let f = an_one {n = n} (c.read n) nothing in record {
      of = mapped (anti_of (span_of tokens i k)) (antiquote c.code);
      read = reads_by 7 n (omega arith) (record { v = (c.code, tt); span = span_of tokens i k; fills = f; is_span = covers tokens i k o f.taken f.split; allowed = refl; builds = refl }) (no_dot bare tokens k w);
      made = numbered_mapped (anti_of (span_of tokens i k)) c.made;
    }

-- ---- `(e)`

module _ {n : ℕ} {bare : Bool} {tokens : List Lexeme} {i j : ℕ} (a : IsAt tokens i j (OfKind (token.Symbol symbol.LParen))) where
  pub inner_refused : {r : Refusal} → Refused language n (of_sql raw (s.sexp bare)) (drop j tokens) r → Refused language n (of_sql raw (s.atom bare)) (drop i tokens) r
  inner_refused h = refused_by decided 8 n (omega arith) (chosen_mark_at (choice (of_sql raw (s.atom bare))) a (λ w p us. refl)) (mark_read a (one_refused h))

  module _ (k : ℕ) {old new : Quotes} {tree : SqlExp} (c : Makes (Read language n (of_sql raw (s.sexp bare)) (drop j tokens) (drop k tokens)) tokens n old new tree) where
    pub inner_open : {r : Refusal} → Unexpected tokens k (OfKind (token.Symbol symbol.RParen)) r → Refused language n (of_sql raw (s.atom bare)) (drop i tokens) r
    inner_open u = refused_by decided 8 n (omega arith) (chosen_mark_at (choice (of_sql raw (s.atom bare))) a (λ w p us. refl)) (mark_read a (one_read decided c.read (no_mark u)))

    module _ {l : ℕ} (d : IsAt tokens k l (OfKind (token.Symbol symbol.RParen))) where
      pub inner_dotted : {r : Refusal} → bare ≡ true → Present tokens l (token.Symbol symbol.Dot) r → Refused language n (of_sql raw (s.atom bare)) (drop i tokens) r
      inner_dotted e p = refused_by decided 8 n (omega arith) (chosen_mark_at (choice (of_sql raw (s.atom bare))) a (λ w p us. refl)) (mark_read a (one_read decided c.read (mark_read d (may_not_end p.says (λ q. dot_goes_on bare e p.is q.stops)))))

      pub inner_read : Undotted tokens l bare → Makes (Read language n (of_sql raw (s.atom bare)) (drop i tokens) (drop l tokens)) tokens n old new tree
      inner_read o = record {
        of = c.of;
        read = reads_by 8 n (omega arith) (record { v = (c.of, tt); span = no_span; is_span = refl; allowed = refl; builds = refl; fills = a_mark a (an_one c.read (a_mark d nothing)) }) (no_dot bare tokens l o);
        made = c.made;
      }

-- ---- a column

-- the name of a field is none of the words of SQL
other_word : (w u : Text) → is_field w ≡ true → is_field u ≡ false → bytes_eq w u ≡ false
other_word w u h f = is_not (bytes_eq w u) (λ m. let e : w ≡ u = (bytes_eq-Decides w u).0 m in false_true (sym f ∙ ap is_field (sym e) ∙ h))

module _ (bare : Bool) {tokens : List Lexeme} {i j : ℕ} where
  pub table_starts : IsAt tokens i j (OfKind token.Lower) → choice (of_sql raw (s.atom bare)) (drop i tokens) ≡ 6
  table_starts a = chosen_mark_at (choice (of_sql raw (s.atom bare))) a (λ w p us. refl)

  pub field_starts : {x : Text} → IsName tokens i j token.Upper is_field x → choice (of_sql raw (s.atom bare)) (drop i tokens) ≡ 6
  field_starts a = let q = a.at.split in let k = a.kind in let w = a.t.content in let h = a.passes in
      let e0 = other_word w (codes "TRUE") h refl in let e1 = other_word w (codes "FALSE") h refl in let e2 = other_word w (codes "NULL") h refl in let e3 = other_word w (codes "SOME") h refl in let e4 = other_word w (codes "NOT") h refl in
      let e5 = other_word w (codes "COUNT") h refl in let e6 = other_word w (codes "SUM") h refl in let e7 = other_word w (codes "MIN") h refl in let e8 = other_word w (codes "MAX") h refl in
      rw (q, k, e0, e1, e2, e3, e4, e5, e6, e7, e8) refl

pub column_refused : {n : ℕ} (bare : Bool) (tokens : List Lexeme) (i : ℕ) {r : Refusal} → choice (of_sql raw (s.atom bare)) (drop i tokens) ≡ 6 → Refused language n (of_sql raw (s.column bare)) (drop i tokens) r → Refused language n (of_sql raw (s.atom bare)) (drop i tokens) r
column_refused {n = n} bare tokens i e h = refused_by decided 6 n (omega arith) e (one_refused h)

pub column_read : {n : ℕ} (bare : Bool) (tokens : List Lexeme) (i k : ℕ) (q : Quotes) {x : SqlExp} → Read language n (of_sql raw (s.column bare)) (drop i tokens) (drop k tokens) x → Makes (Read language n (of_sql raw (s.atom bare)) (drop i tokens) (drop k tokens)) tokens n q q x
column_read {n = n} bare tokens i k q {x = x} h = record {
  of = plain x;
  read = reads_by 6 n (omega arith) (record { v = (x, tt); span = no_span; is_span = refl; allowed = refl; builds = refl; fills = an_one h nothing }) h.stops;
  made = numbered_plain tokens n q x;
}

-- where none of the tokens stands that a rule begins with
abbrev column_starts : Classes
column_starts = all_of token.Lower ∷ named_class token.Upper is_field ∷ []

column_begins : (bare : Bool) → Begins language (member column_starts) (of_sql raw (s.column bare))
column_begins true = begins_by language (member column_starts) (of_sql raw (s.column true)) (λ w e. refl, (λ w e. or_first (is_field w) false e, tt))
column_begins false = begins_by language (member column_starts) (of_sql raw (s.column false)) (λ w e. refl, (λ w e. or_first (is_field w) false e, tt))

anti_begins : Begins language (member (all_of (token.Symbol symbol.LBrace) ∷ [])) (of_sql raw s.anti)
anti_begins = begins_by language (member (all_of (token.Symbol symbol.LBrace) ∷ [])) (of_sql raw s.anti) (λ w. refl, tt)

pub atom_missing : {n : ℕ} (bare : Bool) {tokens : List Lexeme} {i : ℕ} {r : Refusal} → NoLeaf tokens i → Other tokens i (Spelled token.Upper (codes "SOME")) → Other tokens i (OfKind (token.Symbol symbol.LBrace)) → Other tokens i (OfKind (token.Symbol symbol.LParen)) →
    Other tokens i (OfKind token.Lower) → Unexpected tokens i (Passing token.Upper is_field) r → Refused language n (of_sql raw (s.atom bare)) (drop i tokens) r
atom_missing bare {tokens = tokens} {i = i} o some brace parenthesis table u = syntax u.says (none_of (
  not_number o.number,
  (
    not_name (any_other any o.text),
    (
      not_word o.yes,
      (
        not_word o.no,
        (
          not_word o.null,
          (
            not_word some,
            (
              not_one (column_begins bare) (stops_first (member column_starts) (drop i tokens) (stops_cons (all_of token.Lower) (named_class token.Upper is_field ∷ []) (drop i tokens) (missing refl table) (name_stops is_field refl u.other))),
              (not_one anti_begins (stops_first (member (all_of (token.Symbol symbol.LBrace) ∷ [])) (drop i tokens) (missing refl brace)), (not_mark parenthesis, tt)),
            ),
          ),
        ),
      ),
    ),
  ),
))

-- ---- values

pub value_moves : {tokens : List Lexeme} {i j : ℕ} {f : SqlForm} → IsValue tokens i j f → Moves tokens i j
value_moves (is_number m a e) = mark_moves a
value_moves (is_text w a e) = name_moves a
value_moves (is_true a e) = mark_moves a
value_moves (is_false a e) = mark_moves a
value_moves (is_null a e) = mark_moves a

module _ {n : ℕ} (bare : Bool) {tokens : List Lexeme} {i j : ℕ} where
  pub value_dotted : {f : SqlForm} {r : Refusal} → IsValue tokens i j f → bare ≡ true → Present tokens j (token.Symbol symbol.Dot) r → Refused language n (of_sql raw (s.atom bare)) (drop i tokens) r
  value_dotted (is_number m a z) e p = refused_by decided 0 n (omega arith) (chosen_mark_at (choice (of_sql raw (s.atom bare))) a (λ w p us. refl)) (number_read a (may_not_end p.says (λ q. dot_goes_on bare e p.is q.stops)))
  value_dotted (is_text w a z) e p = refused_by decided 1 n (omega arith) (chosen_name_at (choice (of_sql raw (s.atom bare))) a (λ w p us h. refl)) (name_read a (may_not_end p.says (λ q. dot_goes_on bare e p.is q.stops)))
  value_dotted (is_true a z) e p = refused_by decided 2 n (omega arith) (chosen_word_at (choice (of_sql raw (s.atom bare))) a (λ p us. refl)) (word_read a (may_not_end p.says (λ q. dot_goes_on bare e p.is q.stops)))
  value_dotted (is_false a z) e p = refused_by decided 3 n (omega arith) (chosen_word_at (choice (of_sql raw (s.atom bare))) a (λ p us. refl)) (word_read a (may_not_end p.says (λ q. dot_goes_on bare e p.is q.stops)))
  value_dotted (is_null a z) e p = refused_by decided 4 n (omega arith) (chosen_word_at (choice (of_sql raw (s.atom bare))) a (λ p us. refl)) (word_read a (may_not_end p.says (λ q. dot_goes_on bare e p.is q.stops)))

abbrev Leaves : ℕ → Bool → List Lexeme → ℕ → ℕ → SqlForm → Type 0
Leaves n bare tokens i j f = let x : SqlExp = record { span = span_of tokens i j; form = f } in Read language n (of_sql raw (s.atom bare)) (drop i tokens) (drop j tokens) (plain x)

pub value_read : (n : ℕ) (bare : Bool) (tokens : List Lexeme) (i j : ℕ) (f : SqlForm) → Undotted tokens j bare → IsValue tokens i j f → Leaves n bare tokens i j f
value_read n bare tokens i j f o (is_number k a z) = let g = a_number {n = n} a nothing in subst (λ y. Leaves n bare tokens i j y) (sym z) (reads_by 0 n (omega arith) (record { v = (k, tt); span = span_of tokens i j; fills = g; is_span = covers tokens i j (mark_moves a) g.taken g.split; allowed = refl; builds = refl }) (no_dot bare tokens j o))
value_read n bare tokens i j f o (is_text w a z) = let g = a_name {n = n} a nothing in subst (λ y. Leaves n bare tokens i j y) (sym z) (reads_by 1 n (omega arith) (record { v = (w, tt); span = span_of tokens i j; fills = g; is_span = covers tokens i j (name_moves a) g.taken g.split; allowed = refl; builds = refl }) (no_dot bare tokens j o))
value_read n bare tokens i j f o (is_true a z) = let g = a_word {n = n} a nothing in subst (λ y. Leaves n bare tokens i j y) (sym z) (reads_by 2 n (omega arith) (record { v = tt; span = span_of tokens i j; fills = g; is_span = covers tokens i j (mark_moves a) g.taken g.split; allowed = refl; builds = refl }) (no_dot bare tokens j o))
value_read n bare tokens i j f o (is_false a z) = let g = a_word {n = n} a nothing in subst (λ y. Leaves n bare tokens i j y) (sym z) (reads_by 3 n (omega arith) (record { v = tt; span = span_of tokens i j; fills = g; is_span = covers tokens i j (mark_moves a) g.taken g.split; allowed = refl; builds = refl }) (no_dot bare tokens j o))
value_read n bare tokens i j f o (is_null a z) = let g = a_word {n = n} a nothing in subst (λ y. Leaves n bare tokens i j y) (sym z) (reads_by 4 n (omega arith) (record { v = tt; span = span_of tokens i j; fills = g; is_span = covers tokens i j (mark_moves a) g.taken g.split; allowed = refl; builds = refl }) (no_dot bare tokens j o))

-- ---- a text

pub no_text : {A : Type 0} {tokens : List Lexeme} {i j : ℕ} {r : Refusal} → IsAt tokens i j (OfKind token.SqlText) → Unexpected tokens i (Passing token.SqlText any) r → A
no_text {tokens = tokens} {i = i} a u = absurd (u.other.other a.t (drop (i + 1) tokens) a.at.split (a.is, refl))

pub value_atom : {n : ℕ} (bare : Bool) (tokens : List Lexeme) (i k : ℕ) (q : Quotes) {x : SqlExp} → Read language n (of_sql raw (s.atom bare)) (drop i tokens) (drop k tokens) (plain x) → Makes (Read language n (of_sql raw (s.atom bare)) (drop i tokens) (drop k tokens)) tokens n q q x
value_atom {n = n} bare tokens i k q {x = x} h = record { of = plain x; read = h; made = numbered_plain tokens n q x }

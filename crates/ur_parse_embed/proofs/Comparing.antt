-- Comparisons, `NOT` and `-`.
use Rattle.std.specs.Prelude.{◌≡◌, ◌+◌, ◌||◌, ℕ, Bool, true, false, if◌then◌else◌, List, [], ◌∷◌, ◌++◌, drop, codes, Option, Some, None, refl}
use Rattle.std.proofs.Common.{sym, ◌∙◌, arith}
use Rattle.ur_base.specs.declared.refusal.Refusal.{Refusal}
use Rattle.ur_lex.specs.declared.token.Symbol.TheVariants as symbol
use Rattle.ur_lex.specs.declared.token.TokenKind.{TokenKind}
use Rattle.ur_lex.specs.declared.token.TokenKind.TheVariants as token
use Rattle.ur_lex.specs.declared.token.Lexeme.{Lexeme}
use Rattle.ur_lex.specs.Spelling.{Text}
use Rattle.ur_syntax.specs.declared.sql.SqlExp.{SqlExp}
use Rattle.ur_syntax.specs.declared.sql.SqlBinary.{SqlBinary}
use Rattle.ur_syntax.specs.declared.sql.SqlBinary.TheVariants as op
use Rattle.ur_parse_rules.specs.Rules.{Read, Refused, Stops, no_span, syntax}
use Rattle.ur_parse_rules.specs.Places.{Moves, span_of, Spelled, At, IsAt, Other, Unexpected, starts}
use Rattle.ur_parse_rules.proofs.Tokens.{covers}
use Rattle.ur_parse_rules.proofs.Steps.{nothing, a_mark, a_word, an_one, mark_read, word_read, one_read, one_refused, no_word, not_word, reads_by, refused_by, none_of}
use Rattle.ur_parse_rules.proofs.Choices.{chosen_mark_at, chosen_word_at, first_stops, stops_first, starts_at, if_false}
use Rattle.ur_parse_rules.specs.Classes.{Classes, member, in_class, all_of, word_class}
use Rattle.ur_parse_rules.specs.Quoted.{Quoted, Raw, raw, mapped, both}
use Rattle.ur_parse_rules.specs.SqlParts as s
use Rattle.ur_parse_rules.specs.Parts.{of_sql, compared, null}
use Rattle.ur_parse_rules.specs.SqlExpressions.{sided, negated, minus, null_test}
use Rattle.ur_parse_rules.specs.Ends.{symbols, capitals, sql_atom, sql_product, sql_sum, sql_comparison}
use Rattle.ur_parse_rules.specs.Language.{language}
use Rattle.ur_parse_rules.proofs.Choice.{choice}
use Rattle.ur_parse_rules.proofs.AllDecided.{decided}
use Rattle.ur_parse_rules.proofs.Tests.{false_true, is_not, or_true, or_first, or_second}
use Rattle.ur_parse_rules.proofs.Places.{ends_empty, missing, stops_cons, may_not_end}
use Rattle.ur_parse_embed_code.specs.declared.quotes.Quotes.{Quotes}
use Rattle.ur_parse_embed_code.specs.Quotes.{Makes}
use Rattle.ur_parse_embed_code.proofs.Numbering.{numbered_mapped, numbered_both}
use Rattle.ur_parse_embed.specs.Signs.{IsSymbol, NoSymbol, IsSign, NoSign, Compares, Compared}
use Rattle.ur_parse_embed.proofs.Words.{no_word as word_stops}

-- ---- classes one behind the other

pub stops_both : (a b : Classes) (ts : List Lexeme) → Stops (member a) ts → Stops (member b) ts → Stops (member (a ++ b)) ts
stops_both [] b ts s u = u
stops_both (c ∷ a) b [] s u = tt
stops_both (c ∷ a) b (t ∷ ts) s u = is_not (member (c ∷ a ++ b) t.kind t.content) (λ m. or_true (in_class c t.kind t.content) (member (a ++ b) t.kind t.content) m
    (λ h. sym s ∙ or_first _ _ h) (λ h. sym (stops_both a b (t ∷ ts) (is_not (member a t.kind t.content) (λ q. sym s ∙ or_second (in_class c t.kind t.content) _ q)) u) ∙ h))

second_one : (b : Bool) → let z : ℕ = if b then 1 else 1 in z ≡ 1
second_one true = refl
second_one false = refl

-- ---- `NOT`

not_negated : (bare : Bool) (ts : List Lexeme) → Stops (member (word_class token.Upper (codes "NOT") ∷ [])) ts → choice (of_sql raw (s.negation bare)) ts ≡ 1
not_negated bare [] e = refl
not_negated bare (t ∷ ts) e = if_false 0 e ∙ second_one _

module _ {n : ℕ} {bare : Bool} {tokens : List Lexeme} {i : ℕ} where
  pub negation_refused : IsAt tokens i (i + 1) (Spelled token.Upper (codes "NOT")) → {r : Refusal} → Refused language n (of_sql raw (s.negation bare)) (drop (i + 1) tokens) r → Refused language n (of_sql raw (s.negation bare)) (drop i tokens) r
  negation_refused a h = refused_by decided 0 n (omega arith) (chosen_word_at (choice (of_sql raw (s.negation bare))) a (λ p us. refl)) (word_read a (one_refused h))

  pub negation_read : IsAt tokens i (i + 1) (Spelled token.Upper (codes "NOT")) → (j : ℕ) {old new : Quotes} {tree : SqlExp} → Moves tokens i j → Makes (Read language n (of_sql raw (s.negation bare)) (drop (i + 1) tokens) (drop j tokens)) tokens n old new tree →
      Makes (Read language n (of_sql raw (s.negation bare)) (drop i tokens) (drop j tokens)) tokens n old new (negated (span_of tokens i j) tree)
  negation_read a j m b = let f = a_word {n = n} a (an_one b.read nothing) in record {
    of = mapped (negated (span_of tokens i j)) b.of;
    read = reads_by 0 n (omega arith) (record { v = (b.of, tt); span = span_of tokens i j; fills = f; is_span = covers tokens i j m f.taken f.split; allowed = refl; builds = refl }) b.read.stops;
    made = numbered_mapped (negated (span_of tokens i j)) b.made;
  }

  pub compared_refused : Other tokens i (Spelled token.Upper (codes "NOT")) → {r : Refusal} → Refused language n (of_sql raw (s.comparison bare)) (drop i tokens) r → Refused language n (of_sql raw (s.negation bare)) (drop i tokens) r
  compared_refused o h = refused_by decided 1 n (omega arith) (not_negated bare (drop i tokens) (word_stops refl o)) (one_refused h)

pub compared_read : {n : ℕ} {bare : Bool} (tokens : List Lexeme) (i j : ℕ) {old new : Quotes} {tree : SqlExp} → Makes (Read language n (of_sql raw (s.comparison bare)) (drop i tokens) (drop j tokens)) tokens n old new tree →
    Makes (Read language n (of_sql raw (s.negation bare)) (drop i tokens) (drop j tokens)) tokens n old new tree
compared_read {n = n} tokens i j b = record {
  of = b.of;
  read = reads_by 1 n (omega arith) (record { v = (b.of, tt); span = no_span; is_span = refl; allowed = refl; builds = refl; fills = an_one b.read nothing }) b.read.stops;
  made = b.made;
}

-- ---- `-`

not_negative : (bare : Bool) (ts : List Lexeme) → Stops (member (all_of (token.Symbol symbol.Minus) ∷ [])) ts → choice (of_sql raw (s.negative bare)) ts ≡ 1
not_negative bare [] e = refl
not_negative bare (t ∷ ts) e = if_false 0 e ∙ second_one _

module _ {n : ℕ} {bare : Bool} {tokens : List Lexeme} {i : ℕ} where
  pub negative_refused : IsSymbol tokens i symbol.Minus → {r : Refusal} → Refused language n (of_sql raw (s.negative bare)) (drop (i + 1) tokens) r → Refused language n (of_sql raw (s.negative bare)) (drop i tokens) r
  negative_refused a h = refused_by decided 0 n (omega arith) (chosen_mark_at (choice (of_sql raw (s.negative bare))) a (λ w p us. refl)) (mark_read a (one_refused h))

  pub negative_read : IsSymbol tokens i symbol.Minus → (j : ℕ) {old new : Quotes} {tree : SqlExp} → Moves tokens i j → Makes (Read language n (of_sql raw (s.negative bare)) (drop (i + 1) tokens) (drop j tokens)) tokens n old new tree →
      Makes (Read language n (of_sql raw (s.negative bare)) (drop i tokens) (drop j tokens)) tokens n old new (minus (span_of tokens i j) tree)
  negative_read a j m b = let f = a_mark {n = n} a (an_one b.read nothing) in record {
    of = mapped (minus (span_of tokens i j)) b.of;
    read = reads_by 0 n (omega arith) (record { v = (b.of, tt); span = span_of tokens i j; fills = f; is_span = covers tokens i j m f.taken f.split; allowed = refl; builds = refl }) b.read.stops;
    made = numbered_mapped (minus (span_of tokens i j)) b.made;
  }

  pub atom_refused : NoSymbol tokens i symbol.Minus → {r : Refusal} → Refused language n (of_sql raw (s.atom bare)) (drop i tokens) r → Refused language n (of_sql raw (s.negative bare)) (drop i tokens) r
  atom_refused o h = refused_by decided 1 n (omega arith) (not_negative bare (drop i tokens) (missing refl o)) (one_refused h)

pub atom_read : {n : ℕ} {bare : Bool} (tokens : List Lexeme) (i j : ℕ) {old new : Quotes} {tree : SqlExp} → Makes (Read language n (of_sql raw (s.atom bare)) (drop i tokens) (drop j tokens)) tokens n old new tree →
    Makes (Read language n (of_sql raw (s.negative bare)) (drop i tokens) (drop j tokens)) tokens n old new tree
atom_read {n = n} tokens i j b = record {
  of = b.of;
  read = reads_by 1 n (omega arith) (record { v = (b.of, tt); span = no_span; is_span = refl; allowed = refl; builds = refl; fills = an_one b.read nothing }) b.read.stops;
  made = b.made;
}

-- ---- comparison signs

abbrev from_is : Classes
from_is = capitals (codes "IS" ∷ [])

abbrev from_ge : Classes
from_ge = symbols (symbol.Ge ∷ []) ++ from_is

abbrev from_gt : Classes
from_gt = symbols (symbol.Gt ∷ symbol.Ge ∷ []) ++ from_is

abbrev from_le : Classes
from_le = symbols (symbol.Le ∷ symbol.Gt ∷ symbol.Ge ∷ []) ++ from_is

abbrev from_lt : Classes
from_lt = symbols (symbol.Lt ∷ symbol.Le ∷ symbol.Gt ∷ symbol.Ge ∷ []) ++ from_is

abbrev from_ne : Classes
from_ne = symbols (symbol.Ne ∷ symbol.Lt ∷ symbol.Le ∷ symbol.Gt ∷ symbol.Ge ∷ []) ++ from_is

abbrev signs : Classes
signs = symbols (symbol.Eq ∷ symbol.Ne ∷ symbol.Lt ∷ symbol.Le ∷ symbol.Gt ∷ symbol.Ge ∷ []) ++ from_is

only_one : (b : Bool) → let z : ℕ = if b then 0 else 0 in z ≡ 0
only_one true = refl
only_one false = refl

single_comparison : (bare : Bool) (ts : List Lexeme) → choice (of_sql raw (s.comparison bare)) ts ≡ 0
single_comparison bare [] = refl
single_comparison bare (t ∷ ts) = only_one _

no_signs : (tokens : List Lexeme) (i : ℕ) → NoSign tokens i → Other tokens i (Spelled token.Upper (codes "IS")) → Stops (member signs) (drop i tokens)
no_signs tokens i o w = stops_cons (all_of (token.Symbol symbol.Eq)) from_ne _ (missing refl o.eq) (stops_cons (all_of (token.Symbol symbol.Ne)) from_lt _ (missing refl o.ne) (stops_cons (all_of (token.Symbol symbol.Lt)) from_le _ (missing refl o.lt)
    (stops_cons (all_of (token.Symbol symbol.Le)) from_gt _ (missing refl o.le) (stops_cons (all_of (token.Symbol symbol.Gt)) from_ge _ (missing refl o.gt) (stops_cons (all_of (token.Symbol symbol.Ge)) from_is _ (missing refl o.ge) (word_stops refl w))))))

pub no_sign : (tokens : List Lexeme) (i : ℕ) (o : Option SqlBinary) → ((x : SqlBinary) → o ≡ Some x → ⊥) → Compares tokens i o → NoSign tokens i
no_sign tokens i None f h = h
no_sign tokens i (Some x) f h = absurd (f x refl)

pub sign_place : (tokens : List Lexeme) (i : ℕ) (o : SqlBinary) → IsSign tokens i o → (t : Lexeme) × At tokens i t
sign_place tokens i op.Eq a = (a.t, a.at)
sign_place tokens i op.Ne a = (a.t, a.at)
sign_place tokens i op.Lt a = (a.t, a.at)
sign_place tokens i op.Le a = (a.t, a.at)
sign_place tokens i op.Gt a = (a.t, a.at)
sign_place tokens i op.Ge a = (a.t, a.at)
sign_place tokens i _ a = absurd a

module _ {n : ℕ} {bare : Bool} (tokens : List Lexeme) (i j : ℕ) where
  tail_read : (o : SqlBinary) {x : Quoted Raw SqlExp} → IsSign tokens i o → Read language n (of_sql raw (s.left bare s.sum)) (drop (i + 1) tokens) (drop j tokens) x → Stops (member (sql_comparison bare)) (drop j tokens) →
      Read language n (of_sql raw (s.comparison_tail bare)) (drop i tokens) (drop j tokens) (Some (compared o x))
  tail_read op.Eq {x = x} a r e = reads_by 1 n (omega arith) (record { v = (x, tt); span = no_span; is_span = refl; allowed = refl; builds = refl; fills = a_mark a (an_one r nothing) }) e
  tail_read op.Ne {x = x} a r e = reads_by 2 n (omega arith) (record { v = (x, tt); span = no_span; is_span = refl; allowed = refl; builds = refl; fills = a_mark a (an_one r nothing) }) e
  tail_read op.Lt {x = x} a r e = reads_by 3 n (omega arith) (record { v = (x, tt); span = no_span; is_span = refl; allowed = refl; builds = refl; fills = a_mark a (an_one r nothing) }) e
  tail_read op.Le {x = x} a r e = reads_by 4 n (omega arith) (record { v = (x, tt); span = no_span; is_span = refl; allowed = refl; builds = refl; fills = a_mark a (an_one r nothing) }) e
  tail_read op.Gt {x = x} a r e = reads_by 5 n (omega arith) (record { v = (x, tt); span = no_span; is_span = refl; allowed = refl; builds = refl; fills = a_mark a (an_one r nothing) }) e
  tail_read op.Ge {x = x} a r e = reads_by 6 n (omega arith) (record { v = (x, tt); span = no_span; is_span = refl; allowed = refl; builds = refl; fills = a_mark a (an_one r nothing) }) e
  tail_read _ a r e = absurd a

chains : (bare : Bool) (tokens : List Lexeme) (j : ℕ) → starts (member (sql_comparison bare)) (drop j tokens) ≡ true → Stops (member (sql_comparison bare)) (drop j tokens) → ⊥
chains bare tokens j e st = false_true (sym (stops_first (member (sql_comparison bare)) (drop j tokens) st) ∙ e)

module _ {n : ℕ} {bare : Bool} (tokens : List Lexeme) (i : ℕ) where
  tail_refused : (o : SqlBinary) {r : Refusal} → IsSign tokens i o → Refused language n (of_sql raw (s.left bare s.sum)) (drop (i + 1) tokens) r → Refused language n (of_sql raw (s.comparison_tail bare)) (drop i tokens) r
  tail_refused op.Eq a h = refused_by decided 1 n (omega arith) (chosen_mark_at (choice (of_sql raw (s.comparison_tail bare))) a (λ w p us. refl)) (mark_read a (one_refused h))
  tail_refused op.Ne a h = refused_by decided 2 n (omega arith) (chosen_mark_at (choice (of_sql raw (s.comparison_tail bare))) a (λ w p us. refl)) (mark_read a (one_refused h))
  tail_refused op.Lt a h = refused_by decided 3 n (omega arith) (chosen_mark_at (choice (of_sql raw (s.comparison_tail bare))) a (λ w p us. refl)) (mark_read a (one_refused h))
  tail_refused op.Le a h = refused_by decided 4 n (omega arith) (chosen_mark_at (choice (of_sql raw (s.comparison_tail bare))) a (λ w p us. refl)) (mark_read a (one_refused h))
  tail_refused op.Gt a h = refused_by decided 5 n (omega arith) (chosen_mark_at (choice (of_sql raw (s.comparison_tail bare))) a (λ w p us. refl)) (mark_read a (one_refused h))
  tail_refused op.Ge a h = refused_by decided 6 n (omega arith) (chosen_mark_at (choice (of_sql raw (s.comparison_tail bare))) a (λ w p us. refl)) (mark_read a (one_refused h))
  tail_refused _ a h = absurd a

  tail_chained : (o : SqlBinary) (j : ℕ) {x : Quoted Raw SqlExp} {r : Refusal} → IsSign tokens i o → Read language n (of_sql raw (s.left bare s.sum)) (drop (i + 1) tokens) (drop j tokens) x → Compared tokens j bare r → Refused language n (of_sql raw (s.comparison_tail bare)) (drop i tokens) r
  tail_chained op.Eq j a b c = refused_by decided 1 n (omega arith) (chosen_mark_at (choice (of_sql raw (s.comparison_tail bare))) a (λ w p us. refl)) (mark_read a (one_read decided b (may_not_end c.says (λ p. chains bare tokens j c.is p.stops))))
  tail_chained op.Ne j a b c = refused_by decided 2 n (omega arith) (chosen_mark_at (choice (of_sql raw (s.comparison_tail bare))) a (λ w p us. refl)) (mark_read a (one_read decided b (may_not_end c.says (λ p. chains bare tokens j c.is p.stops))))
  tail_chained op.Lt j a b c = refused_by decided 3 n (omega arith) (chosen_mark_at (choice (of_sql raw (s.comparison_tail bare))) a (λ w p us. refl)) (mark_read a (one_read decided b (may_not_end c.says (λ p. chains bare tokens j c.is p.stops))))
  tail_chained op.Le j a b c = refused_by decided 4 n (omega arith) (chosen_mark_at (choice (of_sql raw (s.comparison_tail bare))) a (λ w p us. refl)) (mark_read a (one_read decided b (may_not_end c.says (λ p. chains bare tokens j c.is p.stops))))
  tail_chained op.Gt j a b c = refused_by decided 5 n (omega arith) (chosen_mark_at (choice (of_sql raw (s.comparison_tail bare))) a (λ w p us. refl)) (mark_read a (one_read decided b (may_not_end c.says (λ p. chains bare tokens j c.is p.stops))))
  tail_chained op.Ge j a b c = refused_by decided 6 n (omega arith) (chosen_mark_at (choice (of_sql raw (s.comparison_tail bare))) a (λ w p us. refl)) (mark_read a (one_read decided b (may_not_end c.says (λ p. chains bare tokens j c.is p.stops))))
  tail_chained _ j a b c = absurd a

-- ---- `IS`

module _ {n : ℕ} {bare : Bool} {tokens : List Lexeme} {i : ℕ} (a : IsAt tokens i (i + 1) (Spelled token.Upper (codes "IS"))) where
  is_refused : {r : Refusal} → Refused language n (of_sql raw s.is_rest) (drop (i + 1) tokens) r → Refused language n (of_sql raw (s.comparison_tail bare)) (drop i tokens) r
  is_refused h = refused_by decided 7 n (omega arith) (chosen_word_at (choice (of_sql raw (s.comparison_tail bare))) a (λ p us. refl)) (word_read a (one_refused h))

  is_chained : (j : ℕ) {b : Bool} {r : Refusal} → Read language n (of_sql raw s.is_rest) (drop (i + 1) tokens) (drop j tokens) b → Compared tokens j bare r → Refused language n (of_sql raw (s.comparison_tail bare)) (drop i tokens) r
  is_chained j b c = refused_by decided 7 n (omega arith) (chosen_word_at (choice (of_sql raw (s.comparison_tail bare))) a (λ p us. refl)) (word_read a (one_read decided b (may_not_end c.says (λ p. chains bare tokens j c.is p.stops))))

  is_read : (j : ℕ) {b : Bool} → Read language n (of_sql raw s.is_rest) (drop (i + 1) tokens) (drop j tokens) b → Stops (member (sql_comparison bare)) (drop j tokens) → Read language n (of_sql raw (s.comparison_tail bare)) (drop i tokens) (drop j tokens) (Some (null b))
  is_read j {b = b} r e = reads_by 7 n (omega arith) (record { v = (b, tt); span = no_span; is_span = refl; allowed = refl; builds = refl; fills = a_word a (an_one r nothing) }) e

-- ---- a comparison

module _ {n : ℕ} {bare : Bool} (tokens : List Lexeme) (i : ℕ) where
  pub comparison_first : {r : Refusal} → Refused language n (of_sql raw (s.left bare s.sum)) (drop i tokens) r → Refused language n (of_sql raw (s.comparison bare)) (drop i tokens) r
  comparison_first h = refused_by decided 0 n (omega arith) (single_comparison bare (drop i tokens)) (one_refused h)

  module _ (j : ℕ) {old mid : Quotes} {one : SqlExp} (a : Makes (Read language n (of_sql raw (s.left bare s.sum)) (drop i tokens) (drop j tokens)) tokens n old mid one) where
    pub comparison_alone : Moves tokens i j → NoSign tokens j → Other tokens j (Spelled token.Upper (codes "IS")) → Makes (Read language n (of_sql raw (s.comparison bare)) (drop i tokens) (drop j tokens)) tokens n old mid one
    comparison_alone m o w = let e = stops_both signs (sql_sum bare) (drop j tokens) (no_signs tokens j o w) a.read.stops in
        let t : Read language n (of_sql raw (s.comparison_tail bare)) (drop j tokens) (drop j tokens) None = reads_by 0 n (omega arith) (record { v = tt; span = no_span; is_span = refl; allowed = refl; builds = refl; fills = nothing }) e in
        let f = an_one {n = n} a.read (an_one t nothing) in record {
          of = a.of;
          read = reads_by 0 n (omega arith) (record { v = (a.of, (None, tt)); span = span_of tokens i j; fills = f; is_span = covers tokens i j m f.taken f.split; allowed = refl; builds = refl }) e;
          made = a.made;
        }

    pub right_refused : (o : SqlBinary) {r : Refusal} → IsSign tokens j o → Refused language n (of_sql raw (s.left bare s.sum)) (drop (j + 1) tokens) r → Refused language n (of_sql raw (s.comparison bare)) (drop i tokens) r
    right_refused o q h = refused_by decided 0 n (omega arith) (single_comparison bare (drop i tokens)) (one_read decided a.read (one_refused (tail_refused tokens j o q h)))

    module _ (o : SqlBinary) (q : IsSign tokens j o) (k : ℕ) {new : Quotes} {two : SqlExp} (b : Makes (Read language n (of_sql raw (s.left bare s.sum)) (drop (j + 1) tokens) (drop k tokens)) tokens n mid new two) where
      pub comparison_chained : {r : Refusal} → Compared tokens k bare r → Refused language n (of_sql raw (s.comparison bare)) (drop i tokens) r
      comparison_chained c = refused_by decided 0 n (omega arith) (single_comparison bare (drop i tokens)) (one_read decided a.read (one_refused (tail_chained tokens j o k q b.read c)))

      pub comparison_read : Moves tokens i k → starts (member (sql_comparison bare)) (drop k tokens) ≡ false → Makes (Read language n (of_sql raw (s.comparison bare)) (drop i tokens) (drop k tokens)) tokens n old new (sided (span_of tokens i k) o one two)
      comparison_read m w = let e = first_stops (member (sql_comparison bare)) (drop k tokens) w in
          let f = an_one {n = n} a.read (an_one (tail_read tokens j k o q b.read e) nothing) in record {
            of = both (sided (span_of tokens i k) o) a.of b.of;
            read = reads_by 0 n (omega arith) (record { v = (a.of, (Some (compared o b.of), tt)); span = span_of tokens i k; fills = f; is_span = covers tokens i k m f.taken f.split; allowed = refl; builds = refl }) e;
            made = numbered_both (sided (span_of tokens i k) o) a.made b.made;
          }

    module _ (q : IsAt tokens j (j + 1) (Spelled token.Upper (codes "IS"))) where
      pub null_refused : {r : Refusal} → Refused language n (of_sql raw s.is_rest) (drop (j + 1) tokens) r → Refused language n (of_sql raw (s.comparison bare)) (drop i tokens) r
      null_refused h = refused_by decided 0 n (omega arith) (single_comparison bare (drop i tokens)) (one_read decided a.read (one_refused (is_refused q h)))

      module _ (k : ℕ) {b : Bool} (z : Read language n (of_sql raw s.is_rest) (drop (j + 1) tokens) (drop k tokens) b) where
        pub null_chained : {r : Refusal} → Compared tokens k bare r → Refused language n (of_sql raw (s.comparison bare)) (drop i tokens) r
        null_chained c = refused_by decided 0 n (omega arith) (single_comparison bare (drop i tokens)) (one_read decided a.read (one_refused (is_chained q k z c)))

        pub null_read : Moves tokens i k → starts (member (sql_comparison bare)) (drop k tokens) ≡ false → Makes (Read language n (of_sql raw (s.comparison bare)) (drop i tokens) (drop k tokens)) tokens n old mid (null_test (span_of tokens i k) b one)
        null_read m w = let e = first_stops (member (sql_comparison bare)) (drop k tokens) w in let f = an_one {n = n} a.read (an_one (is_read q k z e) nothing) in record {
          of = mapped (null_test (span_of tokens i k) b) a.of;
          read = reads_by 0 n (omega arith) (record { v = (a.of, (Some (null b), tt)); span = span_of tokens i k; fills = f; is_span = covers tokens i k m f.taken f.split; allowed = refl; builds = refl }) e;
          made = numbered_mapped (null_test (span_of tokens i k) b) a.made;
        }

-- ---- `NULL` and `NOT NULL`

module _ {n : ℕ} {tokens : List Lexeme} {i j : ℕ} where
  pub null_is : IsAt tokens i j (Spelled token.Upper (codes "NULL")) → Read language n (of_sql raw s.is_rest) (drop i tokens) (drop j tokens) true
  null_is a = reads_by 0 n (omega arith) (record { v = tt; span = no_span; is_span = refl; allowed = refl; builds = refl; fills = a_word a nothing }) (ends_empty _)

module _ {n : ℕ} {tokens : List Lexeme} {i j : ℕ} (a : IsAt tokens i j (Spelled token.Upper (codes "NOT"))) where
  pub not_null_is : {k : ℕ} → IsAt tokens j k (Spelled token.Upper (codes "NULL")) → Read language n (of_sql raw s.is_rest) (drop i tokens) (drop k tokens) false
  not_null_is b = reads_by 1 n (omega arith) (record { v = tt; span = no_span; is_span = refl; allowed = refl; builds = refl; fills = a_word a (a_word b nothing) }) (ends_empty _)

  pub not_null_missing : {r : Refusal} → Unexpected tokens j (Spelled token.Upper (codes "NULL")) r → Refused language n (of_sql raw s.is_rest) (drop i tokens) r
  not_null_missing u = refused_by decided 1 n (omega arith) (chosen_word_at (choice (of_sql raw s.is_rest)) a (λ p us. refl)) (word_read a (no_word u))

pub null_missing : {n : ℕ} {tokens : List Lexeme} {i : ℕ} {r : Refusal} → Other tokens i (Spelled token.Upper (codes "NOT")) → Unexpected tokens i (Spelled token.Upper (codes "NULL")) r → Refused language n (of_sql raw s.is_rest) (drop i tokens) r
null_missing o u = syntax u.says (none_of (not_word u.other, (not_word o, tt)))

-- ---- whether a comparison goes on

pub starts_word : {tokens : List Lexeme} {i j : ℕ} {k : TokenKind} {w : Text} (g : TokenKind → Text → Bool) → IsAt tokens i j (Spelled k w) → g k w ≡ true → starts g (drop i tokens) ≡ true
starts_word g a h = let s = a.at.split in let q = a.is.0 in let p = a.is.1 in rw (s, q, p) h

one_skipped : (p q r s : Bool) → (p || q) ≡ false → (q ≡ false → r ≡ s) → (p || r) ≡ s
one_skipped true q r s e f = false_true (sym e)
one_skipped false q r s e f = f e

-- what is in none of the first classes
pub skipped : (a b : Classes) (k : TokenKind) (w : Text) → member a k w ≡ false → member (a ++ b) k w ≡ member b k w
skipped [] b k w e = refl
skipped (c ∷ a) b k w e = one_skipped (in_class c k w) (member a k w) (member (a ++ b) k w) (member b k w) e (λ h. skipped a b k w h)

behind : (bare : Bool) (ts : List Lexeme) → Stops (member signs) ts → starts (member (sql_comparison bare)) ts ≡ starts (member (sql_sum bare)) ts
behind bare [] st = refl
behind bare (t ∷ ts) st = skipped signs (sql_sum bare) t.kind t.content st

pub sign_goes_on : (bare : Bool) (tokens : List Lexeme) (i : ℕ) (o : SqlBinary) → IsSign tokens i o → true ≡ starts (member (sql_comparison bare)) (drop i tokens)
sign_goes_on bare tokens i op.Eq a = sym (starts_at (member (sql_comparison bare)) a (λ w. refl))
sign_goes_on bare tokens i op.Ne a = sym (starts_at (member (sql_comparison bare)) a (λ w. refl))
sign_goes_on bare tokens i op.Lt a = sym (starts_at (member (sql_comparison bare)) a (λ w. refl))
sign_goes_on bare tokens i op.Le a = sym (starts_at (member (sql_comparison bare)) a (λ w. refl))
sign_goes_on bare tokens i op.Gt a = sym (starts_at (member (sql_comparison bare)) a (λ w. refl))
sign_goes_on bare tokens i op.Ge a = sym (starts_at (member (sql_comparison bare)) a (λ w. refl))
sign_goes_on bare tokens i _ a = absurd a

module _ {tokens : List Lexeme} {i : ℕ} (bare : Bool) where
  pub plus_goes_on : IsSymbol tokens i symbol.Plus → true ≡ starts (member (sql_sum bare)) (drop i tokens)
  plus_goes_on a = sym (starts_at (member (sql_sum bare)) a (λ w. refl))

  pub minus_goes_on : IsSymbol tokens i symbol.Minus → true ≡ starts (member (sql_sum bare)) (drop i tokens)
  minus_goes_on a = sym (starts_at (member (sql_sum bare)) a (λ w. refl))

  pub star_goes_on : IsSymbol tokens i symbol.Star → true ≡ starts (member (sql_sum bare)) (drop i tokens)
  star_goes_on a = sym (starts_at (member (sql_sum bare)) a (λ w. refl))

  pub sum_ends : NoSymbol tokens i symbol.Plus → NoSymbol tokens i symbol.Minus → NoSymbol tokens i symbol.Star → Stops (member (sql_atom bare)) (drop i tokens) → false ≡ starts (member (sql_sum bare)) (drop i tokens)
  sum_ends a b c d = sym (stops_first (member (sql_sum bare)) (drop i tokens) (stops_cons (all_of (token.Symbol symbol.Plus)) (all_of (token.Symbol symbol.Minus) ∷ sql_product bare) _ (missing refl a)
      (stops_cons (all_of (token.Symbol symbol.Minus)) (sql_product bare) _ (missing refl b) (stops_cons (all_of (token.Symbol symbol.Star)) (sql_atom bare) _ (missing refl c) d))))

  pub is_goes_on : {j : ℕ} → IsAt tokens i j (Spelled token.Upper (codes "IS")) → true ≡ starts (member (sql_comparison bare)) (drop i tokens)
  is_goes_on a = sym (starts_word (member (sql_comparison bare)) a refl)

  pub sum_alone : (b : Bool) → NoSign tokens i → Other tokens i (Spelled token.Upper (codes "IS")) → b ≡ starts (member (sql_sum bare)) (drop i tokens) → b ≡ starts (member (sql_comparison bare)) (drop i tokens)
  sum_alone b o w e = e ∙ sym (behind bare (drop i tokens) (no_signs tokens i o w))

module _ {tokens : List Lexeme} {i : ℕ} where
  pub bare_goes_on : (bare : Bool) → bare ≡ true → IsSymbol tokens i symbol.Dot → true ≡ starts (member (sql_sum bare)) (drop i tokens)
  bare_goes_on true e a = sym (starts_at (member (sql_sum true)) a (λ w. refl))
  bare_goes_on false e a = false_true e

  pub bare_ends : (bare : Bool) → bare ≡ true → NoSymbol tokens i symbol.Plus → NoSymbol tokens i symbol.Minus → NoSymbol tokens i symbol.Star → NoSymbol tokens i symbol.Dot → false ≡ starts (member (sql_sum bare)) (drop i tokens)
  bare_ends true e a b c d = sum_ends true a b c (missing refl d)
  bare_ends false e a b c d = false_true e

  pub sum_stops : (bare : Bool) → bare ≡ false → NoSymbol tokens i symbol.Plus → NoSymbol tokens i symbol.Minus → NoSymbol tokens i symbol.Star → false ≡ starts (member (sql_sum bare)) (drop i tokens)
  sum_stops true e a b c = false_true (sym e)
  sum_stops false e a b c = sum_ends false a b c (ends_empty _)

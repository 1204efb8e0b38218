-- LIMIT and OFFSET.
use Rattle.std.specs.Prelude.{◌≡◌, ℕ, Bool, true, false, if◌then◌else◌, List, [], ◌∷◌, drop, codes, Some, None, refl}
use Rattle.std.proofs.Common.{◌∙◌, arith}
use Rattle.ur_base.specs.declared.refusal.Refusal.{Refusal}
use Rattle.ur_base.specs.Stopping.{Says}
use Rattle.ur_lex.specs.declared.token.Symbol.TheVariants as symbol
use Rattle.ur_lex.specs.declared.token.TokenKind.TheVariants as token
use Rattle.ur_lex.specs.declared.token.Lexeme.{Lexeme}
use Rattle.ur_lex.specs.Spelling.{Text}
use Rattle.ur_syntax.specs.declared.sql.Limit.{Limit}
use Rattle.ur_syntax.specs.declared.sql.Limit.TheVariants as limits
use Rattle.ur_lex.specs.declared.token.Keyword.{Keyword}
use Rattle.ur_lex.specs.declared.token.Keyword.TheVariants as keyword
use Rattle.ur_lex.specs.declared.token.Symbol.{Symbol}
use Rattle.ur_lex.specs.declared.token.TokenKind.{TokenKind}
use Rattle.ur_parse_rules.specs.Numbers.{IsInt}
use Rattle.ur_parse_rules.specs.Rules.{Read, Refused, no_span}
use Rattle.ur_parse_rules.specs.Places.{IsAt, Other, OfKind, Spelled, starts}
use Rattle.ur_parse_rules.proofs.Steps.{nothing, a_word, a_number, an_one, word_read, one_read, one_refused, reads_by, refused_by}
use Rattle.ur_parse_rules.proofs.Choices.{chosen_word_at, first_stops, if_false}
use Rattle.ur_parse_rules.specs.Classes.{member, all_of}
use Rattle.ur_parse_rules.specs.Quoted.{raw, plain, antiquote, mapped, some}
use Rattle.ur_parse_rules.specs.SqlParts as s
use Rattle.ur_parse_rules.specs.Parts.{of_sql}
use Rattle.ur_parse_rules.specs.Ends.{sql_last}
use Rattle.ur_parse_rules.specs.Language.{language}
use Rattle.ur_parse_rules.proofs.Choice.{choice}
use Rattle.ur_parse_rules.proofs.AllDecided.{decided}
use Rattle.ur_parse_rules.proofs.Places.{ends_empty, may_not_end}
use Rattle.ur_parse_embed_code.specs.declared.quotes.Quotes.{Quotes}
use Rattle.ur_parse_embed_code.specs.Quotes.{Makes, Holds}
use Rattle.ur_parse_embed_code.proofs.Numbering.{numbered_plain, numbered_mapped}
use Rattle.ur_parse_embed.proofs.Words.{no_word as word_stops}
use Rattle.ur_parse_embed.proofs.Growing.{goes_on_not}

-- ---- an amount

pub number_amount : {n : ℕ} {tokens : List Lexeme} {i j m : ℕ} (q : Quotes) → IsAt tokens i j (OfKind (token.Int m)) → Makes (Read language n (of_sql raw s.amount) (drop i tokens) (drop j tokens)) tokens n q q (limits.Int m)
number_amount {n = n} {tokens = tokens} {m = m} q a = record {
  of = plain (limits.Int m);
  read = reads_by 0 n (omega arith) (record { v = (m, tt); span = no_span; is_span = refl; allowed = refl; builds = refl; fills = a_number a nothing }) (ends_empty _);
  made = numbered_plain tokens n q (limits.Int m);
}

no_keyword : (k : Keyword) (w : Text) → member (all_of (token.Int 0) ∷ []) (token.Keyword k) w ≡ false
no_keyword keyword.And w = refl
no_keyword _ w = refl

no_symbol : (k : Symbol) (w : Text) → member (all_of (token.Int 0) ∷ []) (token.Symbol k) w ≡ false
no_symbol symbol.LParen w = refl
no_symbol _ w = refl

int_not : (k : TokenKind) (w : Text) → ((n : ℕ) → k ≡ token.Int n → ⊥) → member (all_of (token.Int 0) ∷ []) k w ≡ false
int_not (token.Int n) w f = absurd (f n refl)
int_not (token.Keyword k) w f = no_keyword k w
int_not (token.Symbol k) w f = no_symbol k w
int_not token.Lower w f = refl
int_not token.Upper w f = refl
int_not token.Str w f = refl
int_not token.SqlText w f = refl
int_not token.XmlText w f = refl
int_not token.Word w f = refl

second_one : (b : Bool) → let z : ℕ = if b then 1 else 1 in z ≡ 1
second_one true = refl
second_one false = refl

-- where no number stands
no_int : (ts : List Lexeme) → ((t : Lexeme) (us : List Lexeme) → ts ≡ t ∷ us → IsInt t → ⊥) → choice (of_sql raw s.amount) ts ≡ 1
no_int [] f = refl
no_int (t ∷ ts) f = if_false 0 (int_not t.kind t.content (λ n e. f t ts refl (n, e))) ∙ second_one _

module _ {n : ℕ} {tokens : List Lexeme} {i : ℕ} where
  pub shown_refused : {r : Refusal} → Other tokens i IsInt → Refused language n (of_sql raw s.anti) (drop i tokens) r → Refused language n (of_sql raw s.amount) (drop i tokens) r
  shown_refused o h = refused_by decided 1 n (omega arith) (no_int (drop i tokens) (λ t us e q. o.other t us e q)) (one_refused h)

pub shown_amount : {n : ℕ} (tokens : List Lexeme) (i j : ℕ) {old new : Quotes} {m : ℕ} → Holds antiquote (λ c. (n : ℕ) → Read language n (of_sql raw s.anti) (drop i tokens) (drop j tokens) c) tokens n old new m →
    Makes (Read language n (of_sql raw s.amount) (drop i tokens) (drop j tokens)) tokens n old new (limits.Anti m)
shown_amount {n = n} tokens i j c = record {
  of = mapped (λ x. limits.Anti x) (antiquote c.code);
  read = reads_by 1 n (omega arith) (record { v = (c.code, tt); span = no_span; is_span = refl; allowed = refl; builds = refl; fills = an_one (c.read n) nothing }) (ends_empty _);
  made = numbered_mapped (λ x. limits.Anti x) c.made;
}

-- ---- LIMIT

pub limit_none : {n : ℕ} {tokens : List Lexeme} {i : ℕ} (q : Quotes) → Other tokens i (Spelled token.Upper (codes "LIMIT")) → Makes (Read language n (of_sql raw s.limit) (drop i tokens) (drop i tokens)) tokens n q q None
limit_none {n = n} {tokens = tokens} q o = record {
  of = plain None;
  read = reads_by 0 n (omega arith) (record { v = tt; span = no_span; is_span = refl; allowed = refl; builds = refl; fills = nothing }) (word_stops refl o);
  made = numbered_plain tokens n q None;
}

module _ {n : ℕ} {tokens : List Lexeme} {i j : ℕ} (a : IsAt tokens i j (Spelled token.Upper (codes "LIMIT"))) where
  pub limit_refused : {r : Refusal} → Refused language n (of_sql raw s.amount) (drop j tokens) r → Refused language n (of_sql raw s.limit) (drop i tokens) r
  limit_refused h = refused_by decided 1 n (omega arith) (chosen_word_at (choice (of_sql raw s.limit)) a (λ p us. refl)) (word_read a (one_refused h))

  module _ (k : ℕ) {old new : Quotes} {x : Limit} (m : Makes (Read language n (of_sql raw s.amount) (drop j tokens) (drop k tokens)) tokens n old new x) where
    pub limit_again : {r : Refusal} → Says r 5 [] [] → starts (member (sql_last s.limit)) (drop k tokens) ≡ true → Refused language n (of_sql raw s.limit) (drop i tokens) r
    limit_again says e = refused_by decided 1 n (omega arith) (chosen_word_at (choice (of_sql raw s.limit)) a (λ p us. refl)) (word_read a (one_read decided m.read (may_not_end says (λ q. goes_on_not (sql_last s.limit) (drop k tokens) e q.stops))))

    pub limit_read : starts (member (sql_last s.limit)) (drop k tokens) ≡ false → Makes (Read language n (of_sql raw s.limit) (drop i tokens) (drop k tokens)) tokens n old new (Some x)
    limit_read e = record {
      of = mapped some m.of;
      read = reads_by 1 n (omega arith) (record { v = (m.of, tt); span = no_span; is_span = refl; allowed = refl; builds = refl; fills = a_word a (an_one m.read nothing) }) (first_stops (member (sql_last s.limit)) (drop k tokens) e);
      made = numbered_mapped some m.made;
    }

-- ---- OFFSET

pub offset_none : {n : ℕ} {tokens : List Lexeme} {i : ℕ} (q : Quotes) → Other tokens i (Spelled token.Upper (codes "OFFSET")) → Makes (Read language n (of_sql raw s.offset) (drop i tokens) (drop i tokens)) tokens n q q None
offset_none {n = n} {tokens = tokens} q o = record {
  of = plain None;
  read = reads_by 0 n (omega arith) (record { v = tt; span = no_span; is_span = refl; allowed = refl; builds = refl; fills = nothing }) (word_stops refl o);
  made = numbered_plain tokens n q None;
}

module _ {n : ℕ} {tokens : List Lexeme} {i j : ℕ} (a : IsAt tokens i j (Spelled token.Upper (codes "OFFSET"))) where
  pub offset_refused : {r : Refusal} → Refused language n (of_sql raw s.amount) (drop j tokens) r → Refused language n (of_sql raw s.offset) (drop i tokens) r
  offset_refused h = refused_by decided 1 n (omega arith) (chosen_word_at (choice (of_sql raw s.offset)) a (λ p us. refl)) (word_read a (one_refused h))

  module _ (k : ℕ) {old new : Quotes} {x : Limit} (m : Makes (Read language n (of_sql raw s.amount) (drop j tokens) (drop k tokens)) tokens n old new x) where
    pub offset_again : {r : Refusal} → Says r 5 [] [] → starts (member (sql_last s.offset)) (drop k tokens) ≡ true → Refused language n (of_sql raw s.offset) (drop i tokens) r
    offset_again says e = refused_by decided 1 n (omega arith) (chosen_word_at (choice (of_sql raw s.offset)) a (λ p us. refl)) (word_read a (one_read decided m.read (may_not_end says (λ q. goes_on_not (sql_last s.offset) (drop k tokens) e q.stops))))

    pub offset_read : starts (member (sql_last s.offset)) (drop k tokens) ≡ false → Makes (Read language n (of_sql raw s.offset) (drop i tokens) (drop k tokens)) tokens n old new (Some x)
    offset_read e = record {
      of = mapped some m.of;
      read = reads_by 1 n (omega arith) (record { v = (m.of, tt); span = no_span; is_span = refl; allowed = refl; builds = refl; fills = a_word a (an_one m.read nothing) }) (first_stops (member (sql_last s.offset)) (drop k tokens) e);
      made = numbered_mapped some m.made;
    }

-- Items of FROM are read one behind the other.
use Rattle.std.specs.Prelude.{◌≡◌, ◌+◌, ◌||◌, ℕ, Bool, true, false, List, [], ◌∷◌, ◌++◌, drop, codes, refl}
use Rattle.std.proofs.Common.{sym, ◌∙◌, arith}
use Rattle.ur_base.specs.declared.refusal.Refusal.{Refusal}
use Rattle.ur_base.specs.Stopping.{Says}
use Rattle.ur_lex.specs.declared.token.Symbol.TheVariants as symbol
use Rattle.ur_lex.specs.declared.token.TokenKind.TheVariants as token
use Rattle.ur_lex.specs.declared.token.Lexeme.{Lexeme}
use Rattle.ur_syntax.specs.declared.sql.FromItem.{FromItem}
use Rattle.ur_parse_rules.specs.Rules.{Read, Refused, no_span}
use Rattle.ur_parse_rules.specs.Places.{IsAt, OfKind, Spelled, starts}
use Rattle.ur_parse_rules.proofs.Steps.{nothing, a_mark, a_word, an_one, mark_read, word_read, one_read, one_refused, no_word, reads_by, refused_by}
use Rattle.ur_parse_rules.proofs.Choices.{chosen_mark_at, chosen_word_at, first_stops, if_false}
use Rattle.ur_parse_rules.specs.Classes.{Class, Classes, member, in_class, all_of, word_class}
use Rattle.ur_parse_rules.specs.Quoted.{Quoted, Raw, raw, mapped, both, cons}
use Rattle.ur_parse_rules.specs.SqlParts as s
use Rattle.ur_parse_rules.specs.Parts.{of_sql}
use Rattle.ur_parse_rules.specs.Ends.{sql_last}
use Rattle.ur_parse_rules.specs.Language.{language}
use Rattle.ur_parse_rules.proofs.Choice.{choice}
use Rattle.ur_parse_rules.proofs.AllDecided.{decided}
use Rattle.ur_parse_rules.proofs.Tests.{is_not, or_first, or_second}
use Rattle.ur_parse_rules.proofs.Places.{missing, stops_cons, may_not_end}
use Rattle.ur_parse_embed_code.specs.declared.quotes.Quotes.{Quotes}
use Rattle.ur_parse_embed_code.specs.Quotes.{Numbered, Makes}
use Rattle.ur_parse_embed_code.proofs.Numbering.{numbered_mapped, numbered_both}
use Rattle.ur_parse_embed.proofs.Words.{no_word as word_stops}
use Rattle.ur_parse_rules.specs.Statements.{on_condition}
use Rattle.ur_parse_embed.specs.Items.{Joined, NotJoined, no_item, no_on, no_condition, Next, listed, joined, NoNext, not_listed, not_joined, neither, more_from}
use Rattle.ur_parse_embed.proofs.Growing.{goes_on_not, Grown, grown_more, grown_done}

abbrev pub MoreItems : ℕ → List Lexeme → List Lexeme → Quoted Raw (List FromItem) → Type 0
MoreItems n = Read language n (of_sql raw s.more_items)

abbrev pub NoMoreItems : ℕ → List Lexeme → Refusal → Type 0
NoMoreItems n = Refused language n (of_sql raw s.more_items)

first_false : (a b : Bool) → (a || b) ≡ false → a ≡ false
first_false a b e = is_not a (λ m. sym e ∙ or_first a b m)

second_false : (a b : Bool) → (a || b) ≡ false → b ≡ false
second_false a b e = is_not b (λ m. sym e ∙ or_second a b m)

none_or : (a : Bool) → a ≡ false → (a || false) ≡ false
none_or true e = e
none_or false e = refl

no_more : (ts : List Lexeme) → starts (member more_from) ts ≡ false → choice (of_sql raw s.more_items) ts ≡ 0
no_more [] e = refl
no_more (t ∷ ts) e = let c : Class = all_of (token.Symbol symbol.Comma) in let j : Classes = word_class token.Upper (codes "JOIN") ∷ [] in
    if_false 1 (none_or (in_class c t.kind t.content) (first_false (in_class c t.kind t.content) (member j t.kind t.content) e)) ∙ if_false 2 (second_false (in_class c t.kind t.content) (member j t.kind t.content) e)

module _ {n : ℕ} {tokens : List Lexeme} {i j : ℕ} {old now : Quotes} {list : List FromItem} (g : Grown (MoreItems n) (NoMoreItems n) tokens n i j old now list) where
  listed_refused : {r : Refusal} → IsAt tokens j (j + 1) (OfKind (token.Symbol symbol.Comma)) → Refused language n (of_sql raw s.item) (drop (j + 1) tokens) r → Refused language n (of_sql raw s.more_items) (drop j tokens) r
  listed_refused a h = refused_by decided 1 n (omega arith) (chosen_mark_at (choice (of_sql raw s.more_items)) a (λ w p us. refl)) (mark_read a (one_refused h))

  joined_refused : {k : ℕ} {r : Refusal} → IsAt tokens j k (Spelled token.Upper (codes "JOIN")) → NotJoined n tokens k r → Refused language n (of_sql raw s.more_items) (drop j tokens) r
  joined_refused a (no_item h) = refused_by decided 2 n (omega arith) (chosen_word_at (choice (of_sql raw s.more_items)) a (λ p us. refl)) (word_read a (one_refused h))
  joined_refused a (no_on middle x b u) = refused_by decided 2 n (omega arith) (chosen_word_at (choice (of_sql raw s.more_items)) a (λ p us. refl)) (word_read a (one_read decided b (no_word u)))
  joined_refused a (no_condition middle begin x b c h) = refused_by decided 2 n (omega arith) (chosen_word_at (choice (of_sql raw s.more_items)) a (λ p us. refl)) (word_read a (one_read decided b (word_read c (one_refused h))))

  pub next_refused : {r : Refusal} → starts (member more_from) (drop j tokens) ≡ true → NoNext n tokens j r → Refused language n (of_sql raw s.more_items) (drop i tokens) r
  next_refused e (not_listed a h) = g.refused _ (listed_refused a h)
  next_refused e (not_joined k a h) = g.refused _ (joined_refused a h)
  next_refused e (neither o u) = goes_on_not more_from (drop j tokens) e (stops_cons (all_of (token.Symbol symbol.Comma)) (word_class token.Upper (codes "JOIN") ∷ []) (drop j tokens) (missing refl o) (word_stops refl u.other))

  listed_more : (l : ℕ) {x : FromItem} → IsAt tokens j (j + 1) (OfKind (token.Symbol symbol.Comma)) → Read language n (of_sql raw s.item) (drop (j + 1) tokens) (drop l tokens) x → Grown (MoreItems n) (NoMoreItems n) tokens n i l old now (list ++ x ∷ [])
  listed_more l {x = x} a b = grown_more (MoreItems n) (NoMoreItems n) g l (λ y. mapped (cons x) y)
      (λ rest y c. reads_by 1 n (omega arith) (record { v = (x, (y, tt)); span = no_span; is_span = refl; allowed = refl; builds = refl; fills = a_mark a (an_one b (an_one c nothing)) }) c.stops)
      (λ r u. refused_by decided 1 n (omega arith) (chosen_mark_at (choice (of_sql raw s.more_items)) a (λ w p us. refl)) (mark_read a (one_read decided b (one_refused u))))
      (λ new y ts z. numbered_mapped (cons x) z)

  joined_more : (l : ℕ) {next : Quotes} {x : FromItem} {k : ℕ} (q : Quoted Raw FromItem) → IsAt tokens j k (Spelled token.Upper (codes "JOIN")) → (m : Joined n tokens k l q) → Numbered tokens n now next (mapped (on_condition m.table) m.condition) x →
      Grown (MoreItems n) (NoMoreItems n) tokens n i l old next (list ++ x ∷ [])
  joined_more l q a m made = grown_more (MoreItems n) (NoMoreItems n) g l (λ y. both cons (mapped (on_condition m.table) m.condition) y)
      (λ rest y c. reads_by 2 n (omega arith) (record { v = (m.table, (m.condition, (y, tt))); span = no_span; is_span = refl; allowed = refl; builds = refl; fills = a_word a (an_one m.named (a_word m.word (an_one m.inner (an_one c nothing)))) }) c.stops)
      (λ r u. refused_by decided 2 n (omega arith) (chosen_word_at (choice (of_sql raw s.more_items)) a (λ p us. refl)) (word_read a (one_read decided m.named (word_read m.word (one_read decided m.inner (one_refused u))))))
      (λ new y ts z. numbered_both cons made z)

  pub next_more : (l : ℕ) {next : Quotes} {x : FromItem} → Next n tokens j l now next x → Grown (MoreItems n) (NoMoreItems n) tokens n i l old next (list ++ x ∷ [])
  next_more l (listed a b e) = rw e (listed_more l a b)
  next_more l (joined k a m) = joined_more l m.of a m.read (let e = m.read.is in rw e at m.made)

  pub items_ended : {r : Refusal} → starts (member more_from) (drop j tokens) ≡ false → Says r 5 [] [] → starts (member (sql_last s.more_items)) (drop j tokens) ≡ true → Refused language n (of_sql raw s.more_items) (drop i tokens) r
  items_ended o says e = g.refused _ (refused_by decided 0 n (omega arith) (no_more (drop j tokens) o) (may_not_end says (λ q. goes_on_not (sql_last s.more_items) (drop j tokens) e q.stops)))

  pub items_done : starts (member (sql_last s.more_items)) (drop j tokens) ≡ false → Makes (Read language n (of_sql raw s.more_items) (drop i tokens) (drop j tokens)) tokens n old now list
  items_done e = grown_done (MoreItems n) (NoMoreItems n) g j (reads_by 0 n (omega arith) (record { v = tt; span = no_span; is_span = refl; allowed = refl; builds = refl; fills = nothing }) (first_stops (member (sql_last s.more_items)) (drop j tokens) e))

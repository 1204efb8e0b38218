-- Names of tables, and items of FROM.
use Rattle.std.specs.Prelude.{◌≡◌, ◌+◌, ℕ, Bool, true, false, if◌then◌else◌, List, [], ◌∷◌, drop, codes, Option, Some, None, refl}
use Rattle.std.proofs.Common.{arith}
use Rattle.ur_base.specs.declared.refusal.Refusal.{Refusal}
use Rattle.ur_base.specs.Stopping.{Says}
use Rattle.ur_lex.specs.declared.token.Symbol.TheVariants as symbol
use Rattle.ur_lex.specs.declared.token.TokenKind.TheVariants as token
use Rattle.ur_lex.specs.declared.token.Lexeme.{Lexeme}
use Rattle.ur_lex.specs.Spelling.{Text}
use Rattle.ur_syntax.specs.declared.sql.DeclName.{DeclName}
use Rattle.ur_syntax.specs.declared.sql.FromItem.{FromItem}
use Rattle.ur_parse_rules.specs.Rules.{Read, Refused, no_span, syntax}
use Rattle.ur_parse_rules.specs.Places.{Moves, span_of, IsAt, IsName, Other, OfKind, Spelled, Passing, Unexpected, any, starts}
use Rattle.ur_parse_rules.proofs.Tokens.{covers}
use Rattle.ur_parse_rules.proofs.Steps.{nothing, a_mark, a_word, a_name, an_one, mark_read, word_read, name_read, one_read, one_refused, no_mark, no_name, not_name, any_other, reads_by, refused_by, none_of}
use Rattle.ur_parse_rules.proofs.Choices.{chosen_word_at, chosen_name_at, first_stops}
use Rattle.ur_parse_rules.specs.Classes.{member}
use Rattle.ur_parse_rules.specs.Words.{is_field}
use Rattle.ur_parse_rules.specs.Quoted.{raw}
use Rattle.ur_parse_rules.specs.SqlParts as s
use Rattle.ur_parse_rules.specs.Parts.{of_sql}
use Rattle.ur_parse_rules.specs.Ends.{sql_last}
use Rattle.ur_parse_rules.specs.Statements.{decl_name}
use Rattle.ur_parse_rules.specs.Language.{language}
use Rattle.ur_parse_rules.proofs.Choice.{choice}
use Rattle.ur_parse_rules.proofs.AllDecided.{decided}
use Rattle.ur_parse_rules.proofs.Places.{ends_empty, may_not_end}
use Rattle.ur_parse_embed.proofs.Words.{no_word as word_stops}
use Rattle.ur_parse_embed.proofs.Growing.{goes_on_not}

-- ---- the name of a table

module _ {n : ℕ} {tokens : List Lexeme} {i j : ℕ} where
  pub name_read_plain : {x : Text} → IsName tokens i j token.Lower any x → Moves tokens i j → Read language n (of_sql raw s.name) (drop i tokens) (drop j tokens) (decl_name (span_of tokens i j) None x)
  name_read_plain {x = x} a m = let f = a_name {n = n} a nothing in
      reads_by 0 n (omega arith) (record { v = (x, tt); span = span_of tokens i j; fills = f; is_span = covers tokens i j m f.taken f.split; allowed = refl; builds = refl }) (ends_empty _)

  pub name_missing : {r : Refusal} → IsAt tokens i j (OfKind token.Lower) → Unexpected tokens i (Passing token.Lower any) r → Refused language n (of_sql raw s.name) (drop i tokens) r
  name_missing a u = absurd (u.other.other a.t (drop (i + 1) tokens) a.at.split (a.is, refl))

pub module_missing : {n : ℕ} {tokens : List Lexeme} {i : ℕ} {r : Refusal} → Other tokens i (OfKind token.Lower) → Unexpected tokens i (Passing token.Upper any) r → Refused language n (of_sql raw s.name) (drop i tokens) r
module_missing o u = syntax u.says (none_of (not_name (any_other any o), (not_name u.other, tt)))

module _ {n : ℕ} {tokens : List Lexeme} {i j : ℕ} {x : Text} (a : IsName tokens i j token.Upper any x) where
  pub module_dot : {r : Refusal} → Unexpected tokens j (OfKind (token.Symbol symbol.Dot)) r → Refused language n (of_sql raw s.name) (drop i tokens) r
  module_dot u = refused_by decided 1 n (omega arith) (chosen_name_at (choice (of_sql raw s.name)) a (λ w p us h. refl)) (name_read a (no_mark u))

  module _ {k : ℕ} (b : IsAt tokens j k (OfKind (token.Symbol symbol.Dot))) where
    pub member_missing : {r : Refusal} → Unexpected tokens k (Passing token.Lower any) r → Refused language n (of_sql raw s.name) (drop i tokens) r
    member_missing u = refused_by decided 1 n (omega arith) (chosen_name_at (choice (of_sql raw s.name)) a (λ w p us h. refl)) (name_read a (mark_read b (no_name u)))

    pub member_read : {l : ℕ} {y : Text} → IsName tokens k l token.Lower any y → Moves tokens i l → Read language n (of_sql raw s.name) (drop i tokens) (drop l tokens) (decl_name (span_of tokens i l) (Some x) y)
    member_read {l = l} {y = y} c m = let f = a_name {n = n} a (a_mark b (a_name c nothing)) in
        reads_by 1 n (omega arith) (record { v = (x, (y, tt)); span = span_of tokens i l; fills = f; is_span = covers tokens i l m f.taken f.split; allowed = refl; builds = refl }) (ends_empty _)

-- ---- `AS A`, or nothing

pub alias_none : {n : ℕ} {tokens : List Lexeme} {i : ℕ} → Other tokens i (Spelled token.Upper (codes "AS")) → Read language n (of_sql raw s.alias) (drop i tokens) (drop i tokens) None
alias_none {n = n} o = reads_by 0 n (omega arith) (record { v = tt; span = no_span; is_span = refl; allowed = refl; builds = refl; fills = nothing }) (word_stops refl o)

module _ {n : ℕ} {tokens : List Lexeme} {i j : ℕ} (a : IsAt tokens i j (Spelled token.Upper (codes "AS"))) where
  pub alias_name : {r : Refusal} → Unexpected tokens j (Passing token.Upper is_field) r → Refused language n (of_sql raw s.alias) (drop i tokens) r
  alias_name u = refused_by decided 1 n (omega arith) (chosen_word_at (choice (of_sql raw s.alias)) a (λ p us. refl)) (word_read a (no_name u))

  module _ {k : ℕ} {x : Text} (b : IsName tokens j k token.Upper is_field x) where
    pub alias_twice : {r : Refusal} → Says r 5 [] [] → starts (member (sql_last s.alias)) (drop k tokens) ≡ true → Refused language n (of_sql raw s.alias) (drop i tokens) r
    alias_twice says e = refused_by decided 1 n (omega arith) (chosen_word_at (choice (of_sql raw s.alias)) a (λ p us. refl)) (word_read a (name_read b (may_not_end says (λ q. goes_on_not (sql_last s.alias) (drop k tokens) e q.stops))))

    pub alias_read : starts (member (sql_last s.alias)) (drop k tokens) ≡ false → Read language n (of_sql raw s.alias) (drop i tokens) (drop k tokens) (Some x)
    alias_read e = reads_by 1 n (omega arith) (record { v = (x, tt); span = no_span; is_span = refl; allowed = refl; builds = refl; fills = a_word a (a_name b nothing) }) (first_stops (member (sql_last s.alias)) (drop k tokens) e)

-- ---- an item

only_one : (b : Bool) → let z : ℕ = if b then 0 else 0 in z ≡ 0
only_one true = refl
only_one false = refl

single_item : (ts : List Lexeme) → choice (of_sql raw s.item) ts ≡ 0
single_item [] = refl
single_item (t ∷ ts) = only_one _

module _ {n : ℕ} (tokens : List Lexeme) (i : ℕ) where
  pub item_name : {r : Refusal} → Refused language n (of_sql raw s.name) (drop i tokens) r → Refused language n (of_sql raw s.item) (drop i tokens) r
  item_name h = refused_by decided 0 n (omega arith) (single_item (drop i tokens)) (one_refused h)

  module _ (j : ℕ) {x : DeclName} (a : Read language n (of_sql raw s.name) (drop i tokens) (drop j tokens) x) where
    pub item_alias : {r : Refusal} → Refused language n (of_sql raw s.alias) (drop j tokens) r → Refused language n (of_sql raw s.item) (drop i tokens) r
    item_alias h = refused_by decided 0 n (omega arith) (single_item (drop i tokens)) (one_read decided a (one_refused h))

    pub item_read : (k : ℕ) {y : Option Text} → Read language n (of_sql raw s.alias) (drop j tokens) (drop k tokens) y → Moves tokens i k →
        let z : FromItem = record { span = span_of tokens i k; table = x; alias = y; on = None } in Read language n (of_sql raw s.item) (drop i tokens) (drop k tokens) z
    item_read k {y = y} b m = let f = an_one {n = n} a (an_one b nothing) in
        reads_by 0 n (omega arith) (record { v = (x, (y, tt)); span = span_of tokens i k; fills = f; is_span = covers tokens i k m f.taken f.split; allowed = refl; builds = refl }) b.stops

-- Columns are read by their first tokens.
use Rattle.std.specs.Prelude.{◌≡◌, ◌+◌, ℕ, Bool, true, false, List, [], ◌∷◌, drop, Option, Some, None, refl}
use Rattle.std.proofs.Common.{sym, ◌∙◌, arith}
use Rattle.ur_base.specs.declared.refusal.Refusal.{Refusal}
use Rattle.ur_lex.specs.declared.token.Symbol.TheVariants as symbol
use Rattle.ur_lex.specs.declared.token.TokenKind.TheVariants as token
use Rattle.ur_lex.specs.declared.token.Lexeme.{Lexeme}
use Rattle.ur_lex.specs.Spelling.{Text}
use Rattle.ur_parse_rules.specs.Rules.{Read, Refused, Stops, no_span, syntax}
use Rattle.ur_parse_rules.specs.Places.{Moves, span_of, IsAt, IsName, Other, OfKind, Passing, Unexpected, any}
use Rattle.ur_parse_rules.proofs.Tokens.{covers}
use Rattle.ur_parse_rules.proofs.Steps.{nothing, a_mark, a_name, an_one, mark_read, name_read, one_refused, no_mark, no_name, not_name, any_other, reads_by, refused_by, none_of}
use Rattle.ur_parse_rules.proofs.Choices.{chosen_mark_at, chosen_name_at, starts_at, stops_first, if_true}
use Rattle.ur_parse_rules.specs.Classes.{member, all_of}
use Rattle.ur_parse_rules.specs.Words.{is_field}
use Rattle.ur_parse_rules.specs.Quoted.{raw}
use Rattle.ur_parse_rules.specs.SqlParts as s
use Rattle.ur_parse_rules.specs.Parts.{of_sql}
use Rattle.ur_parse_rules.specs.Ends.{sql_atom}
use Rattle.ur_parse_rules.specs.SqlExpressions.{column_of}
use Rattle.ur_parse_rules.specs.Language.{language}
use Rattle.ur_parse_rules.proofs.Choice.{choice}
use Rattle.ur_parse_rules.proofs.AllDecided.{decided}
use Rattle.ur_parse_rules.proofs.Tests.{false_true, or_first}
use Rattle.ur_parse_rules.proofs.Places.{ends_empty, missing, may_not_end}
use Rattle.ur_parse_embed_code.specs.Absent.{Present}
use Rattle.ur_parse_embed.specs.Columns.{Undotted}

-- where a column may be bare a dot goes on
pub no_dot : (bare : Bool) (tokens : List Lexeme) (i : ℕ) → Undotted tokens i bare → Stops (member (sql_atom bare)) (drop i tokens)
no_dot true tokens i o = missing refl o
no_dot false tokens i o = ends_empty _

pub dotted : {A : Type 0} {tokens : List Lexeme} {i j : ℕ} → IsAt tokens i j (OfKind (token.Symbol symbol.Dot)) → Stops (member (all_of (token.Symbol symbol.Dot) ∷ [])) (drop i tokens) → A
dotted {tokens = tokens} {i = i} a st = false_true (sym (stops_first (member (all_of (token.Symbol symbol.Dot) ∷ [])) (drop i tokens) st) ∙ starts_at (member (all_of (token.Symbol symbol.Dot) ∷ [])) a (λ w. refl))

-- ---- `.A`, or nothing

pub qualifier_none : {n : ℕ} {tokens : List Lexeme} {i : ℕ} → Other tokens i (OfKind (token.Symbol symbol.Dot)) → Read language n (of_sql raw s.qualifier) (drop i tokens) (drop i tokens) None
qualifier_none {n = n} o = reads_by 0 n (omega arith) (record { v = tt; span = no_span; is_span = refl; allowed = refl; builds = refl; fills = nothing }) (missing refl o)

module _ {n : ℕ} {tokens : List Lexeme} {i j : ℕ} (a : IsAt tokens i j (OfKind (token.Symbol symbol.Dot))) where
  pub qualifier_name : {r : Refusal} → Unexpected tokens j (Passing token.Upper is_field) r → Refused language n (of_sql raw s.qualifier) (drop i tokens) r
  qualifier_name u = refused_by decided 1 n (omega arith) (chosen_mark_at (choice (of_sql raw s.qualifier)) a (λ w p us. refl)) (mark_read a (no_name u))

  module _ {k : ℕ} {x : Text} (b : IsName tokens j k token.Upper is_field x) where
    pub qualifier_twice : {r : Refusal} → Present tokens k (token.Symbol symbol.Dot) r → Refused language n (of_sql raw s.qualifier) (drop i tokens) r
    qualifier_twice p = refused_by decided 1 n (omega arith) (chosen_mark_at (choice (of_sql raw s.qualifier)) a (λ w q us. refl)) (mark_read a (name_read b (may_not_end p.says (λ q. dotted p.is q.stops))))

    pub qualifier_read : Other tokens k (OfKind (token.Symbol symbol.Dot)) → Read language n (of_sql raw s.qualifier) (drop i tokens) (drop k tokens) (Some x)
    qualifier_read o = reads_by 1 n (omega arith) (record { v = (x, tt); span = no_span; is_span = refl; allowed = refl; builds = refl; fills = a_mark a (a_name b nothing) }) (missing refl o)

-- ---- a column with its table in small letters

table_chosen : {tokens : List Lexeme} {i j : ℕ} {x : Text} → IsName tokens i j token.Lower any x → (bare : Bool) → choice (of_sql raw (s.column bare)) (drop i tokens) ≡ 0
table_chosen a true = chosen_name_at (choice (of_sql raw (s.column true))) a (λ w p us h. refl)
table_chosen a false = chosen_name_at (choice (of_sql raw (s.column false))) a (λ w p us h. refl)

module _ {n : ℕ} {tokens : List Lexeme} {i j : ℕ} {x : Text} (a : IsName tokens i j token.Lower any x) where
  pub table_dot : (bare : Bool) {r : Refusal} → Unexpected tokens j (OfKind (token.Symbol symbol.Dot)) r → Refused language n (of_sql raw (s.column bare)) (drop i tokens) r
  table_dot true u = refused_by decided 0 n (omega arith) (table_chosen a true) (name_read a (no_mark u))
  table_dot false u = refused_by decided 0 n (omega arith) (table_chosen a false) (name_read a (no_mark u))

  module _ {k : ℕ} (b : IsAt tokens j k (OfKind (token.Symbol symbol.Dot))) where
    pub table_field : (bare : Bool) {r : Refusal} → Unexpected tokens k (Passing token.Upper is_field) r → Refused language n (of_sql raw (s.column bare)) (drop i tokens) r
    table_field true u = refused_by decided 0 n (omega arith) (table_chosen a true) (name_read a (mark_read b (no_name u)))
    table_field false u = refused_by decided 0 n (omega arith) (table_chosen a false) (name_read a (mark_read b (no_name u)))

    module _ {l : ℕ} {y : Text} (c : IsName tokens k l token.Upper is_field y) where
      pub table_dotted : (bare : Bool) {r : Refusal} → bare ≡ true → Present tokens l (token.Symbol symbol.Dot) r → Refused language n (of_sql raw (s.column bare)) (drop i tokens) r
      table_dotted false e p = false_true e
      table_dotted true e p = refused_by decided 0 n (omega arith) (table_chosen a true) (name_read a (mark_read b (name_read c (may_not_end p.says (λ q. dotted p.is q.stops)))))

      pub table_read : (bare : Bool) → Moves tokens i l → Undotted tokens l bare → Read language n (of_sql raw (s.column bare)) (drop i tokens) (drop l tokens) (column_of (span_of tokens i l) x (Some y))
      table_read true m o = let f = a_name {n = n} a (a_mark b (a_name c nothing)) in
          reads_by 0 n (omega arith) (record { v = (x, (y, tt)); span = span_of tokens i l; fills = f; is_span = covers tokens i l m f.taken f.split; allowed = refl; builds = refl }) (no_dot true tokens l o)
      table_read false m o = let f = a_name {n = n} a (a_mark b (a_name c nothing)) in
          reads_by 0 n (omega arith) (record { v = (x, (y, tt)); span = span_of tokens i l; fills = f; is_span = covers tokens i l m f.taken f.split; allowed = refl; builds = refl }) (no_dot false tokens l o)

-- ---- a column without its table, or with it in capitals

pub no_column : {n : ℕ} {tokens : List Lexeme} {i : ℕ} (bare : Bool) {r : Refusal} → Other tokens i (OfKind token.Lower) → Unexpected tokens i (Passing token.Upper is_field) r → Refused language n (of_sql raw (s.column bare)) (drop i tokens) r
no_column true o u = syntax u.says (none_of (not_name (any_other any o), (not_name u.other, tt)))
no_column false o u = syntax u.says (none_of (not_name (any_other any o), (not_name u.other, tt)))

field_chosen : {tokens : List Lexeme} {i j : ℕ} {x : Text} → IsName tokens i j token.Upper is_field x → (bare : Bool) → choice (of_sql raw (s.column bare)) (drop i tokens) ≡ 1
field_chosen a true = chosen_name_at (choice (of_sql raw (s.column true))) a (λ w p us h. if_true 1 (or_first (is_field w) false h))
field_chosen a false = chosen_name_at (choice (of_sql raw (s.column false))) a (λ w p us h. if_true 1 (or_first (is_field w) false h))

module _ {n : ℕ} {tokens : List Lexeme} {i j : ℕ} {x : Text} (a : IsName tokens i j token.Upper is_field x) where
  pub qualifier_refused : (bare : Bool) {r : Refusal} → bare ≡ true → Refused language n (of_sql raw s.qualifier) (drop j tokens) r → Refused language n (of_sql raw (s.column bare)) (drop i tokens) r
  qualifier_refused false e h = false_true e
  qualifier_refused true e h = refused_by decided 1 n (omega arith) (field_chosen a true) (name_read a (one_refused h))

  pub bare_read : (bare : Bool) (k : ℕ) {q : Option Text} → bare ≡ true → Moves tokens i k → Read language n (of_sql raw s.qualifier) (drop j tokens) (drop k tokens) q → Read language n (of_sql raw (s.column bare)) (drop i tokens) (drop k tokens) (column_of (span_of tokens i k) x q)
  bare_read false k e m b = false_true e
  bare_read true k {q = q} e m b = let f = a_name {n = n} a (an_one b nothing) in
      reads_by 1 n (omega arith) (record { v = (x, (q, tt)); span = span_of tokens i k; fills = f; is_span = covers tokens i k m f.taken f.split; allowed = refl; builds = refl }) b.stops

  pub field_dot : (bare : Bool) {r : Refusal} → bare ≡ false → Unexpected tokens j (OfKind (token.Symbol symbol.Dot)) r → Refused language n (of_sql raw (s.column bare)) (drop i tokens) r
  field_dot true e u = false_true (sym e)
  field_dot false e u = refused_by decided 1 n (omega arith) (field_chosen a false) (name_read a (no_mark u))

  module _ {k : ℕ} (b : IsAt tokens j k (OfKind (token.Symbol symbol.Dot))) where
    pub field_name : (bare : Bool) {r : Refusal} → bare ≡ false → Unexpected tokens k (Passing token.Upper is_field) r → Refused language n (of_sql raw (s.column bare)) (drop i tokens) r
    field_name true e u = false_true (sym e)
    field_name false e u = refused_by decided 1 n (omega arith) (field_chosen a false) (name_read a (mark_read b (no_name u)))

    pub field_read : (bare : Bool) {l : ℕ} {y : Text} → bare ≡ false → Moves tokens i l → IsName tokens k l token.Upper is_field y → Read language n (of_sql raw (s.column bare)) (drop i tokens) (drop l tokens) (column_of (span_of tokens i l) x (Some y))
    field_read true e m c = false_true (sym e)
    field_read false {l = l} {y = y} e m c = let f = a_name {n = n} a (a_mark b (a_name c nothing)) in
        reads_by 1 n (omega arith) (record { v = (x, (y, tt)); span = span_of tokens i l; fills = f; is_span = covers tokens i l m f.taken f.split; allowed = refl; builds = refl }) (ends_empty _)

pub table_missing : {n : ℕ} {tokens : List Lexeme} {i j : ℕ} (bare : Bool) {r : Refusal} → IsAt tokens i j (OfKind token.Lower) → Unexpected tokens i (Passing token.Lower any) r → Refused language n (of_sql raw (s.column bare)) (drop i tokens) r
table_missing {tokens = tokens} {i = i} bare a u = absurd (u.other.other a.t (drop (i + 1) tokens) a.at.split (a.is, refl))

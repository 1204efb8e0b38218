-- Names of declarations, and the forms over them.
use Rattle.std.specs.Prelude.{◌+◌, ℕ, List, [], ◌∷◌, drop, Some, None, refl}
use Rattle.std.proofs.Common.{arith}
use Rattle.ur_base.specs.declared.refusal.Refusal.{Refusal}
use Rattle.ur_base.specs.Stopping.{Says}
use Rattle.ur_lex.specs.declared.token.Symbol.TheVariants as symbol
use Rattle.ur_lex.specs.declared.token.TokenKind.TheVariants as token
use Rattle.ur_lex.specs.declared.token.Lexeme.{Lexeme}
use Rattle.ur_lex.specs.Spelling.{Text}
use Rattle.ur_syntax.specs.declared.sql.DeclName.{DeclName}
use Rattle.ur_syntax.specs.declared.exp.ExpForm.TheVariants as form
use Rattle.ur_parse_rules.specs.Rules.{Read, Refused, syntax}
use Rattle.ur_parse_rules.specs.Places.{Moves, IsAt, IsName, Other, OfKind, Passing, Unexpected, any, span_of}
use Rattle.ur_parse_rules.proofs.Tokens.{covers}
use Rattle.ur_parse_rules.proofs.Steps.{nothing, a_mark, a_word, a_name, an_one, word_read, name_read, mark_read, one_read, one_refused, no_mark, no_name, not_name, any_other, reads_by, refused_by, none_of}
use Rattle.ur_parse_rules.proofs.Choices.{chosen_mark_at, chosen_word_at, chosen_name_at, starts_at}
use Rattle.ur_parse_rules.specs.Classes.{member}
use Rattle.ur_parse_rules.specs.Ends.{dot_class}
use Rattle.ur_parse_rules.specs.Quoted.{expressions}
use Rattle.ur_parse_rules.specs.Expressions.{at}
use Rattle.ur_parse_rules.specs.ExpParts as e
use Rattle.ur_parse_rules.specs.SqlParts.{name}
use Rattle.ur_parse_rules.specs.Parts.{of_exp, of_sql}
use Rattle.ur_parse_rules.specs.Language.{language}
use Rattle.ur_parse_rules.proofs.Choice.{choice}
use Rattle.ur_parse_rules.proofs.AllDecided.{decided}
use Rattle.ur_parse_rules.proofs.Places.{ends_empty, missing}
use Rattle.ur_parse_con.proofs.Binders.{cannot_end}
use Rattle.ur_parse_exp_parts.specs.declared.word.FormWord.TheVariants as words
use Rattle.ur_parse_exp_parts.specs.Words.{Stands}

-- ---- names

module _ {tokens : List Lexeme} {here : ℕ} where
  pub bare_read : {end : ℕ} {x : Text} → Moves tokens here end → IsName tokens here end token.Lower any x → (n : ℕ) →
      Read language n (of_sql expressions name) (drop here tokens) (drop end tokens) (record { span = span_of tokens here end; «module» = None; name = x })
  bare_read {end = end} {x = x} m a n = let f = a_name {n = n} a nothing in
      reads_by 0 n (omega arith) (record { v = (x, tt); span = span_of tokens here end; fills = f; is_span = covers tokens here end m f.taken f.split; allowed = refl; builds = refl }) (ends_empty _)

  pub bare_refused : {next : ℕ} {r : Refusal} → IsAt tokens here next (OfKind token.Lower) → Unexpected tokens here (Passing token.Lower any) r → (n : ℕ) → Refused language n (of_sql expressions name) (drop here tokens) r
  bare_refused a u n = refused_by decided 0 n (omega arith) (chosen_mark_at (choice (of_sql expressions name)) a (λ w s us. refl)) (no_name u)

  pub no_decl : {r : Refusal} → Other tokens here (OfKind token.Lower) → Unexpected tokens here (Passing token.Upper any) r → (n : ℕ) → Refused language n (of_sql expressions name) (drop here tokens) r
  no_decl o u n = syntax u.says (none_of (not_name (any_other any o), (not_name u.other, tt)))

  module _ {dot : ℕ} {m : Text} (a : IsName tokens here dot token.Upper any m) where
    pub dot_missing : {r : Refusal} → Unexpected tokens dot (OfKind (token.Symbol symbol.Dot)) r → (n : ℕ) → Refused language n (of_sql expressions name) (drop here tokens) r
    dot_missing u n = refused_by decided 1 n (omega arith) (chosen_name_at (choice (of_sql expressions name)) a (λ w s us e. refl)) (name_read a (no_mark u))

    module _ {begin : ℕ} (d : IsAt tokens dot begin (OfKind (token.Symbol symbol.Dot))) where
      pub inner_missing : {r : Refusal} → Unexpected tokens begin (Passing token.Lower any) r → (n : ℕ) → Refused language n (of_sql expressions name) (drop here tokens) r
      inner_missing u n = refused_by decided 1 n (omega arith) (chosen_name_at (choice (of_sql expressions name)) a (λ w s us e. refl)) (name_read a (mark_read d (no_name u)))

      pub member_read : {end : ℕ} {x : Text} → Moves tokens here end → IsName tokens begin end token.Lower any x → (n : ℕ) →
          Read language n (of_sql expressions name) (drop here tokens) (drop end tokens) (record { span = span_of tokens here end; «module» = Some m; name = x })
      member_read {end = end} {x = x} o b n = let f = a_name {n = n} a (a_mark d (a_name b nothing)) in
          reads_by 1 n (omega arith) (record { v = (m, (x, tt)); span = span_of tokens here end; fills = f; is_span = covers tokens here end o f.taken f.split; allowed = refl; builds = refl }) (ends_empty _)

-- ---- forms

module _ (n : ℕ) {tokens : List Lexeme} {here : ℕ} where
  pub nextval_refused : {r : Refusal} → Stands tokens here words.Nextval → Refused language n (of_sql expressions name) (drop (here + 1) tokens) r → Refused language n (of_exp e.head) (drop here tokens) r
  nextval_refused a h = refused_by decided 6 n (omega arith) (chosen_word_at (choice (of_exp e.head)) a (λ s us. refl)) (word_read a (one_refused h))

  pub nextval_dotted : (end : ℕ) {past : ℕ} {d : DeclName} {r : Refusal} → Stands tokens here words.Nextval → Read language n (of_sql expressions name) (drop (here + 1) tokens) (drop end tokens) d → Says r 5 [] [] → IsAt tokens end past (OfKind (token.Symbol symbol.Dot)) →
      Refused language n (of_exp e.head) (drop here tokens) r
  nextval_dotted end a h says o = refused_by decided 6 n (omega arith) (chosen_word_at (choice (of_exp e.head)) a (λ s us. refl)) (word_read a (one_read decided h (cannot_end (dot_class ∷ []) says (starts_at (member (dot_class ∷ [])) o (λ w. refl)) (λ p. p.stops))))

  pub nextval_read : (end : ℕ) {d : DeclName} → Stands tokens here words.Nextval → Moves tokens here end → Other tokens end (OfKind (token.Symbol symbol.Dot)) → Read language n (of_sql expressions name) (drop (here + 1) tokens) (drop end tokens) d →
      Read language n (of_exp e.head) (drop here tokens) (drop end tokens) (at (span_of tokens here end) (form.Nextval d))
  nextval_read end {d = d} a m o h = let f = a_word {n = n} a (an_one h nothing) in
      reads_by 6 n (omega arith) (record { v = (d, tt); span = span_of tokens here end; fills = f; is_span = covers tokens here end m f.taken f.split; allowed = refl; builds = refl }) (missing refl o)

  pub get_refused : {r : Refusal} → Stands tokens here words.GetCookie → Refused language n (of_sql expressions name) (drop (here + 1) tokens) r → Refused language n (of_exp e.head) (drop here tokens) r
  get_refused a h = refused_by decided 7 n (omega arith) (chosen_word_at (choice (of_exp e.head)) a (λ s us. refl)) (word_read a (one_refused h))

  pub get_dotted : (end : ℕ) {past : ℕ} {d : DeclName} {r : Refusal} → Stands tokens here words.GetCookie → Read language n (of_sql expressions name) (drop (here + 1) tokens) (drop end tokens) d → Says r 5 [] [] → IsAt tokens end past (OfKind (token.Symbol symbol.Dot)) →
      Refused language n (of_exp e.head) (drop here tokens) r
  get_dotted end a h says o = refused_by decided 7 n (omega arith) (chosen_word_at (choice (of_exp e.head)) a (λ s us. refl)) (word_read a (one_read decided h (cannot_end (dot_class ∷ []) says (starts_at (member (dot_class ∷ [])) o (λ w. refl)) (λ p. p.stops))))

  pub get_read : (end : ℕ) {d : DeclName} → Stands tokens here words.GetCookie → Moves tokens here end → Other tokens end (OfKind (token.Symbol symbol.Dot)) → Read language n (of_sql expressions name) (drop (here + 1) tokens) (drop end tokens) d →
      Read language n (of_exp e.head) (drop here tokens) (drop end tokens) (at (span_of tokens here end) (form.GetCookie d))
  get_read end {d = d} a m o h = let f = a_word {n = n} a (an_one h nothing) in
      reads_by 7 n (omega arith) (record { v = (d, tt); span = span_of tokens here end; fills = f; is_span = covers tokens here end m f.taken f.split; allowed = refl; builds = refl }) (missing refl o)

-- What `--` removes.
use Rattle.std.specs.Prelude.{ℕ, List, drop, refl}
use Rattle.std.proofs.Common.{arith}
use Rattle.ur_base.specs.declared.refusal.Refusal.{Refusal}
use Rattle.ur_lex.specs.declared.token.Symbol.TheVariants as symbol
use Rattle.ur_lex.specs.declared.token.TokenKind.TheVariants as token
use Rattle.ur_lex.specs.declared.token.Lexeme.{Lexeme}
use Rattle.ur_lex.specs.Spelling.{Text}
use Rattle.ur_syntax.specs.declared.con.FieldName.TheVariants as names
use Rattle.ur_syntax.specs.declared.exp.Removed.{Removed}
use Rattle.ur_parse_rules.specs.Rules.{Read, Refused, syntax}
use Rattle.ur_parse_rules.specs.Places.{Moves, IsAt, IsName, Other, OfKind, Passing, Unexpected, any, span_of}
use Rattle.ur_parse_rules.proofs.Tokens.{covers}
use Rattle.ur_parse_rules.proofs.Steps.{nothing, a_mark, a_name, mark_read, no_name, not_mark, not_name, any_other, reads_by, refused_by, none_of}
use Rattle.ur_parse_rules.proofs.Choices.{chosen_mark_at}
use Rattle.ur_parse_rules.specs.Words.{is_field}
use Rattle.ur_parse_rules.specs.ExpParts.{removed}
use Rattle.ur_parse_rules.specs.Parts.{of_exp}
use Rattle.ur_parse_rules.specs.Language.{language}
use Rattle.ur_parse_rules.proofs.Choice.{choice}
use Rattle.ur_parse_rules.proofs.AllDecided.{decided}
use Rattle.ur_parse_rules.proofs.Places.{ends_empty}

module _ {n : ℕ} {tokens : List Lexeme} {here : ℕ} where
  pub hash_refused : {next : ℕ} {r : Refusal} → IsAt tokens here next (OfKind (token.Symbol symbol.Hash)) → Unexpected tokens next (Passing token.Upper is_field) r → Refused language n (of_exp removed) (drop here tokens) r
  hash_refused a u = refused_by decided 0 n (omega arith) (chosen_mark_at (choice (of_exp removed)) a (λ w s us. refl)) (mark_read a (no_name u))

  pub hash_read : {next end : ℕ} {x : Text} → Moves tokens here end → IsAt tokens here next (OfKind (token.Symbol symbol.Hash)) → IsName tokens next end token.Upper is_field x →
      let c : Removed = record { span = span_of tokens here end; name = names.Literal x } in Read language n (of_exp removed) (drop here tokens) (drop end tokens) c
  hash_read {end = end} {x = x} m a b = let f = a_mark {n = n} a (a_name b nothing) in
      reads_by 0 n (omega arith) (record { v = (x, tt); span = span_of tokens here end; fills = f; is_span = covers tokens here end m f.taken f.split; allowed = refl; builds = refl }) (ends_empty _)

  pub variable_refused : {next : ℕ} {r : Refusal} → IsAt tokens here next (OfKind token.Lower) → Unexpected tokens here (Passing token.Lower any) r → Refused language n (of_exp removed) (drop here tokens) r
  variable_refused a u = refused_by decided 2 n (omega arith) (chosen_mark_at (choice (of_exp removed)) a (λ w s us. refl)) (no_name u)

  pub variable_read : {end : ℕ} {x : Text} → Moves tokens here end → IsName tokens here end token.Lower any x →
      let c : Removed = record { span = span_of tokens here end; name = names.Variable x } in Read language n (of_exp removed) (drop here tokens) (drop end tokens) c
  variable_read {end = end} {x = x} m a = let f = a_name {n = n} a nothing in
      reads_by 2 n (omega arith) (record { v = (x, tt); span = span_of tokens here end; fills = f; is_span = covers tokens here end m f.taken f.split; allowed = refl; builds = refl }) (ends_empty _)

  pub literal_read : {end : ℕ} {x : Text} → Moves tokens here end → IsName tokens here end token.Upper is_field x →
      let c : Removed = record { span = span_of tokens here end; name = names.Literal x } in Read language n (of_exp removed) (drop here tokens) (drop end tokens) c
  literal_read {end = end} {x = x} m a = let f = a_name {n = n} a nothing in
      reads_by 1 n (omega arith) (record { v = (x, tt); span = span_of tokens here end; fills = f; is_span = covers tokens here end m f.taken f.split; allowed = refl; builds = refl }) (ends_empty _)

  pub nothing_removed : {r : Refusal} → Other tokens here (OfKind (token.Symbol symbol.Hash)) → Other tokens here (OfKind token.Lower) → Unexpected tokens here (Passing token.Upper is_field) r → Refused language n (of_exp removed) (drop here tokens) r
  nothing_removed h l u = syntax u.says (none_of (not_mark h, (not_name u.other, (not_name (any_other any l), tt))))

-- Ints, strings and variables.
use Rattle.std.specs.Prelude.{ℕ, Bool, List, [], ◌∷◌, drop, refl}
use Rattle.std.proofs.Common.{arith}
use Rattle.ur_base.specs.declared.refusal.Refusal.{Refusal}
use Rattle.ur_lex.specs.declared.token.Symbol.TheVariants as symbol
use Rattle.ur_lex.specs.declared.token.TokenKind.TheVariants as token
use Rattle.ur_lex.specs.declared.token.Lexeme.{Lexeme}
use Rattle.ur_lex.specs.Spelling.{Text}
use Rattle.ur_syntax.specs.declared.exp.ExpForm.TheVariants as form
use Rattle.ur_parse_rules.specs.Numbers.{IsInt}
use Rattle.ur_parse_rules.specs.Rules.{Read, Refused, syntax}
use Rattle.ur_parse_rules.specs.Places.{Moves, IsAt, IsName, Other, OfKind, Passing, Unexpected, any, span_of}
use Rattle.ur_parse_rules.proofs.Tokens.{covers}
use Rattle.ur_parse_rules.proofs.Numbers.{not_number}
use Rattle.ur_parse_rules.proofs.Steps.{nothing, a_name, a_number, no_name, not_mark, not_name, any_other, reads_by, refused_by, none_of}
use Rattle.ur_parse_rules.proofs.Choices.{chosen_mark_at, not_one, stops_first}
use Rattle.ur_parse_rules.specs.Classes.{member}
use Rattle.ur_parse_rules.specs.Words.{is_name}
use Rattle.ur_parse_rules.specs.Expressions.{at}
use Rattle.ur_parse_rules.specs.ExpParts.{base}
use Rattle.ur_parse_rules.specs.Parts.{of_exp}
use Rattle.ur_parse_rules.specs.Language.{language}
use Rattle.ur_parse_rules.proofs.Choice.{choice}
use Rattle.ur_parse_rules.proofs.AllDecided.{decided}
use Rattle.ur_parse_rules.proofs.Places.{ends_empty, missing, stops_cons}
use Rattle.ur_parse_rules.proofs.Starts.{first}
use Rattle.ur_parse_rules.specs.Quoted.{expressions}
use Rattle.ur_parse_rules.specs.XmlParts.{literal}
use Rattle.ur_parse_rules.specs.Parts.{of_xml}
use Rattle.ur_parse_rules.specs.Classes.{symbol_class}
use Rattle.ur_parse_exp_parts.specs.Begins.{NoneOpens}
use Rattle.ur_parse_exp_parts.proofs.Begun.{begins_part}

module _ (front : Bool) {tokens : List Lexeme} {here : ℕ} where
  pub int_read : {end m : ℕ} → Moves tokens here end → IsAt tokens here end (OfKind (token.Int m)) → (n : ℕ) → Read language n (of_exp (base front)) (drop here tokens) (drop end tokens) (at (span_of tokens here end) (form.Int m))
  int_read {end = end} {m = m} o a n = let f = a_number {n = n} a nothing in
      reads_by 0 n (omega arith) (record { v = (m, tt); span = span_of tokens here end; fills = f; is_span = covers tokens here end o f.taken f.split; allowed = refl; builds = refl }) (ends_empty _)

  pub string_read : {end : ℕ} {x : Text} → Moves tokens here end → IsName tokens here end token.Str any x → (n : ℕ) → Read language n (of_exp (base front)) (drop here tokens) (drop end tokens) (at (span_of tokens here end) (form.Str x))
  string_read {end = end} {x = x} o a n = let f = a_name {n = n} a nothing in
      reads_by 1 n (omega arith) (record { v = (x, tt); span = span_of tokens here end; fills = f; is_span = covers tokens here end o f.taken f.split; allowed = refl; builds = refl }) (ends_empty _)

  pub variable_read : {end : ℕ} {x : Text} → Moves tokens here end → IsName tokens here end token.Lower (is_name front) x → (n : ℕ) → Read language n (of_exp (base front)) (drop here tokens) (drop end tokens) (at (span_of tokens here end) (form.Var x))
  variable_read {end = end} {x = x} o a n = let f = a_name {n = n} a nothing in
      reads_by 2 n (omega arith) (record { v = (x, tt); span = span_of tokens here end; fills = f; is_span = covers tokens here end o f.taken f.split; allowed = refl; builds = refl }) (ends_empty _)

  pub no_string : {next : ℕ} {r : Refusal} → IsAt tokens here next (OfKind token.Str) → Unexpected tokens here (Passing token.Str any) r → (n : ℕ) → Refused language n (of_exp (base front)) (drop here tokens) r
  no_string a u n = refused_by decided 1 n (omega arith) (chosen_mark_at (choice (of_exp (base front))) a (λ w s us. refl)) (no_name u)

  -- where no atom begins
  pub no_atom : {r : Refusal} → NoneOpens tokens here → Other tokens here (OfKind token.Str) → Other tokens here IsInt → Unexpected tokens here (Passing token.Lower (is_name front)) r → (n : ℕ) → Refused language n (of_exp (base front)) (drop here tokens) r
  no_atom o s i u n = let x = stops_cons (symbol_class symbol.XmlOpen) (symbol_class symbol.XmlEmpty ∷ []) (drop here tokens) (missing refl o.xml) (missing refl o.empty) in
      syntax u.says (none_of (
        not_number i,
        (
          not_name (any_other any s),
          (not_name u.other, (not_mark o.paren, (not_mark o.brace, (not_one (begins_part (of_xml expressions literal) refl) (stops_first (member (first (of_xml expressions literal))) (drop here tokens) x), (not_mark o.value, tt))))),
        ),
      ))

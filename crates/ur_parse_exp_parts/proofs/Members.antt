-- Words in capitals, and `[]`.
use Rattle.std.specs.Prelude.{◌+◌, ℕ, List, drop, refl}
use Rattle.std.proofs.Common.{◌∙◌, ap, arith}
use Rattle.ur_base.specs.declared.refusal.Refusal.{Refusal}
use Rattle.ur_lex.specs.declared.token.Symbol.TheVariants as symbol
use Rattle.ur_lex.specs.declared.token.TokenKind.TheVariants as token
use Rattle.ur_lex.specs.declared.token.Lexeme.{Lexeme}
use Rattle.ur_lex.specs.Spelling.{Text}
use Rattle.ur_syntax.specs.declared.exp.Exp.{Exp}
use Rattle.ur_syntax.specs.declared.exp.ExpForm.TheVariants as form
use Rattle.ur_parse_rules.specs.Rules.{Read, Refused, no_span, syntax}
use Rattle.ur_parse_rules.specs.Places.{Moves, IsAt, IsName, Other, OfKind, Passing, Unexpected, any, span_of}
use Rattle.ur_parse_rules.proofs.Tokens.{covers}
use Rattle.ur_parse_rules.proofs.Steps.{nothing, a_mark, a_name, an_one, mark_read, one_read, one_refused, no_name, not_name, any_other, reads_by, refused_by, none_of}
use Rattle.ur_parse_rules.proofs.Choices.{chosen_mark_at}
use Rattle.ur_parse_rules.specs.Expressions.{at, projected}
use Rattle.ur_parse_rules.specs.ExpParts.{member, dots, capital_rest}
use Rattle.ur_parse_rules.specs.Parts.{of_exp, lower, upper, alone, of_module}
use Rattle.ur_parse_rules.specs.Language.{language}
use Rattle.ur_parse_rules.proofs.Choice.{choice}
use Rattle.ur_parse_rules.proofs.AllDecided.{decided}
use Rattle.ur_parse_rules.proofs.Places.{ends_empty, missing, span_join, name_moves}
use Rattle.ur_parse_exp_parts.specs.Behind.{DotsRead, CapitalRead, NilRead}

module _ {tokens : List Lexeme} {here : ℕ} where
  pub capital_alone : {x : Text} → Other tokens (here + 1) (OfKind (token.Symbol symbol.Dot)) → CapitalRead tokens here (here + 1) x (at (span_of tokens here (here + 1)) (form.Constructor x))
  capital_alone o = record {
    rest = alone;
    read = λ n. reads_by 0 n (omega arith) (record { v = tt; span = no_span; is_span = refl; allowed = refl; builds = refl; fills = nothing }) (missing refl o);
    is = refl;
  }

  -- ---- the member of a module

  member_lower : (n : ℕ) {end : ℕ} {y : Text} → IsName tokens here end token.Lower any y → Read language n (of_exp member) (drop here tokens) (drop end tokens) (lower (span_of tokens here end) y)
  member_lower n {end = end} {y = y} a = let f = a_name {n = n} a nothing in
      reads_by 0 n (omega arith) (record { v = (y, tt); span = span_of tokens here end; fills = f; is_span = covers tokens here end (name_moves a) f.taken f.split; allowed = refl; builds = refl }) (ends_empty _)

  member_upper : (n : ℕ) {end : ℕ} {y : Text} → IsName tokens here end token.Upper any y → Read language n (of_exp member) (drop here tokens) (drop end tokens) (upper (span_of tokens here end) y)
  member_upper n {end = end} {y = y} a = let f = a_name {n = n} a nothing in
      reads_by 1 n (omega arith) (record { v = (y, tt); span = span_of tokens here end; fills = f; is_span = covers tokens here end (name_moves a) f.taken f.split; allowed = refl; builds = refl }) (ends_empty _)

module _ {n : ℕ} {tokens : List Lexeme} {here next : ℕ} (d : IsAt tokens here next (OfKind (token.Symbol symbol.Dot))) where
  pub no_lower : {past : ℕ} {r : Refusal} → IsAt tokens next past (OfKind token.Lower) → Unexpected tokens next (Passing token.Lower any) r → Refused language n (of_exp capital_rest) (drop here tokens) r
  no_lower a u = refused_by decided 1 n (omega arith) (chosen_mark_at (choice (of_exp capital_rest)) d (λ w s us. refl))
      (mark_read d (one_refused (refused_by decided 0 n (omega arith) (chosen_mark_at (choice (of_exp member)) a (λ w s us. refl)) (no_name u))))

  pub no_member : {r : Refusal} → Other tokens next (OfKind token.Lower) → Unexpected tokens next (Passing token.Upper any) r → Refused language n (of_exp capital_rest) (drop here tokens) r
  no_member o u = refused_by decided 1 n (omega arith) (chosen_mark_at (choice (of_exp capital_rest)) d (λ w s us. refl)) (mark_read d (one_refused (syntax u.says (none_of (not_name (any_other any o), (not_name u.other, tt))))))

  pub lower_refused : {end : ℕ} {y : Text} {r : Refusal} → IsName tokens next end token.Lower any y → Refused language n (of_exp dots) (drop end tokens) r → Refused language n (of_exp capital_rest) (drop here tokens) r
  lower_refused a h = refused_by decided 1 n (omega arith) (chosen_mark_at (choice (of_exp capital_rest)) d (λ w s us. refl)) (mark_read d (one_read decided (member_lower n a) (one_refused h)))

  pub upper_refused : {end : ℕ} {y : Text} {r : Refusal} → IsName tokens next end token.Upper any y → Refused language n (of_exp dots) (drop end tokens) r → Refused language n (of_exp capital_rest) (drop here tokens) r
  upper_refused a h = refused_by decided 1 n (omega arith) (chosen_mark_at (choice (of_exp capital_rest)) d (λ w s us. refl)) (mark_read d (one_read decided (member_upper n a) (one_refused h)))

module _ {tokens : List Lexeme} {here next end j : ℕ} {x y : Text} {c : Exp} (d : IsAt tokens (here + 1) next (OfKind (token.Symbol symbol.Dot))) (m : Moves tokens here j) where
  pub lower_read : IsName tokens next end token.Lower any y → DotsRead tokens here end j (at (span_of tokens here end) (form.Member x y)) c → CapitalRead tokens here j x c
  lower_read a h = let e = d.next in let o = (name_moves a).on in record {
    rest = of_module (lower (span_of tokens next end) y) h.names;
    read = λ n. let r = h.read n in
        reads_by 1 n (omega arith) (record { v = (lower (span_of tokens next end) y, (h.names, tt)); span = no_span; is_span = refl; allowed = refl; builds = refl; fills = a_mark d (an_one (member_lower n a) (an_one r nothing)) }) r.stops;
    is = h.is ∙ ap (λ z. projected (span_of tokens here j) (at z (form.Member x y)) h.names) (span_join tokens here j next end m (name_moves a) (omega (arith, e, o)));
  }

  pub upper_read : IsName tokens next end token.Upper any y → DotsRead tokens here end j (at (span_of tokens here end) (form.MemberConstructor x y)) c → CapitalRead tokens here j x c
  upper_read a h = let e = d.next in let o = (name_moves a).on in record {
    rest = of_module (upper (span_of tokens next end) y) h.names;
    read = λ n. let r = h.read n in
        reads_by 1 n (omega arith) (record { v = (upper (span_of tokens next end) y, (h.names, tt)); span = no_span; is_span = refl; allowed = refl; builds = refl; fills = a_mark d (an_one (member_upper n a) (an_one r nothing)) }) r.stops;
    is = h.is ∙ ap (λ z. projected (span_of tokens here j) (at z (form.MemberConstructor x y)) h.names) (span_join tokens here j next end m (name_moves a) (omega (arith, e, o)));
  }

-- behind `[]`
pub nil_read : {tokens : List Lexeme} {from end j : ℕ} {c : Exp} → DotsRead tokens from end j (at (span_of tokens from end) form.Nil) c → NilRead tokens from end j c
nil_read h = record { names = h.names; read = h.read; is = h.is }

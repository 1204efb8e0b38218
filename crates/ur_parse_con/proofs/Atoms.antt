-- Constructors by their first token.
use Rattle.std.specs.Prelude.{◌≡◌, ◌≤◌, ◌+◌, ◌||◌, ℕ, Bool, true, false, List, [], drop, refl}
use Rattle.std.proofs.Common.{sym, ◌∙◌, subst, arith}
use Rattle.ur_base.specs.declared.refusal.Refusal.{Refusal}
use Rattle.ur_base.specs.Stopping.{Says}
use Rattle.ur_lex.specs.declared.token.Keyword.TheVariants as keyword
use Rattle.ur_lex.specs.declared.token.Symbol.TheVariants as symbol
use Rattle.ur_lex.specs.declared.token.TokenKind.TheVariants as token
use Rattle.ur_lex.specs.declared.token.Lexeme.{Lexeme}
use Rattle.ur_lex.specs.Spelling.{Text}
use Rattle.ur_syntax.specs.declared.kind.Kind.{Kind}
use Rattle.ur_syntax.specs.declared.con.ConForm.TheVariants as form
use Rattle.ur_syntax.specs.declared.con.FieldName.TheVariants as names
use Rattle.ur_syntax.specs.declared.con.Con.{Con}
use Rattle.ur_syntax.specs.declared.con.CField.{CField}
use Rattle.ur_syntax.specs.declared.con.RecordField.{RecordField}
use Rattle.ur_parse_rules.specs.Rules.{Read, Refused, no_span, syntax, Stops}
use Rattle.ur_parse_rules.specs.Places.{Moves, IsAt, IsName, Other, OfKind, Passing, Unexpected, any, span_of}
use Rattle.ur_parse_rules.proofs.Tokens.{covers}
use Rattle.ur_parse_rules.proofs.Steps.{nothing, a_mark, a_name, an_one, mark_read, name_read, one_read, one_refused, no_mark, no_name, not_mark, not_name, any_other, not_allowed, reads_by, refused_by, none_of}
use Rattle.ur_parse_rules.proofs.Choices.{chosen_mark_at, chosen_name_at, if_true}
use Rattle.ur_parse_rules.specs.Classes.{member}
use Rattle.ur_parse_rules.specs.ConParts.{kind, con, arrow, atom, row, fields, field_name}
use Rattle.ur_parse_rules.specs.Constructors.{is_whole, is_beside, keys_of, within}
use Rattle.ur_parse_rules.specs.declared.parse_rules_place.ConPlace.{ConPlace}
use Rattle.ur_parse_rules.specs.declared.parse_rules_place.ConPlace.TheVariants as places
use Rattle.ur_parse_rules.specs.Words.{is_field, is_free}
use Rattle.ur_parse_rules.specs.Ends.{con_more}
use Rattle.ur_parse_rules.specs.Parts.{of_con}
use Rattle.ur_parse_rules.specs.Language.{language}
use Rattle.ur_parse_rules.proofs.Choice.{choice}
use Rattle.ur_parse_rules.proofs.AllDecided.{decided}
use Rattle.ur_parse_rules.proofs.Tests.{false_true, or_first}
use Rattle.ur_parse_con.specs.Names.{NoneOpens}
use Rattle.ur_parse_rules.proofs.Places.{ends_empty}
use Rattle.ur_parse_con.proofs.Classed.{no_lambda, keys_within}

-- ---- `fn x :: kind => con`, or no lambda

module _ (m : ℕ) {n : ℕ} (e : 1 + m ≡ n) {place : ConPlace} {tokens : List Lexeme} {at : ℕ} where
  module _ {next : ℕ} (a : IsAt tokens at next (OfKind (token.Keyword keyword.Fn))) where
    pub fn_name : {r : Refusal} → Unexpected tokens next (Passing token.Lower any) r → Refused language n (of_con (con place)) (drop at tokens) r
    fn_name u = refused_by decided 0 m e (chosen_mark_at (choice (of_con (con place))) a (λ w s us. refl)) (mark_read a (no_name u))

    module _ {colons : ℕ} {x : Text} (b : IsName tokens next colons token.Lower any x) where
      pub fn_colons : {r : Refusal} → Unexpected tokens colons (OfKind (token.Symbol symbol.DoubleColon)) r → Refused language n (of_con (con place)) (drop at tokens) r
      fn_colons u = refused_by decided 0 m e (chosen_mark_at (choice (of_con (con place))) a (λ w s us. refl)) (mark_read a (name_read b (no_mark u)))

      module _ {of : ℕ} (d : IsAt tokens colons of (OfKind (token.Symbol symbol.DoubleColon))) where
        pub fn_kind : {r : Refusal} → Refused language m (of_con kind) (drop of tokens) r → Refused language n (of_con (con place)) (drop at tokens) r
        fn_kind h = refused_by decided 0 m e (chosen_mark_at (choice (of_con (con place))) a (λ w s us. refl)) (mark_read a (name_read b (mark_read d (one_refused h))))

        module _ (mid : ℕ) {k : Kind} (f : Read language m (of_con kind) (drop of tokens) (drop mid tokens) k) where
          pub fn_arrow : {r : Refusal} → Unexpected tokens mid (OfKind (token.Symbol symbol.FatArrow)) r → Refused language n (of_con (con place)) (drop at tokens) r
          fn_arrow u = refused_by decided 0 m e (chosen_mark_at (choice (of_con (con place))) a (λ w s us. refl)) (mark_read a (name_read b (mark_read d (one_read decided f (no_mark u)))))

          module _ {begin : ℕ} (g : IsAt tokens mid begin (OfKind (token.Symbol symbol.FatArrow))) where
            pub fn_body : {r : Refusal} → Refused language m (of_con (con (within place))) (drop begin tokens) r → Refused language n (of_con (con place)) (drop at tokens) r
            fn_body h = refused_by decided 0 m e (chosen_mark_at (choice (of_con (con place))) a (λ w s us. refl)) (mark_read a (name_read b (mark_read d (one_read decided f (mark_read g (one_refused h))))))

            pub fn_read : {end : ℕ} {c : Con} → Moves tokens at end → Read language m (of_con (con (within place))) (drop begin tokens) (drop end tokens) c →
                let l : Con = record { span = span_of tokens at end; form = form.Lambda x k c } in Read language n (of_con (con place)) (drop at tokens) (drop end tokens) l
            fn_read {end = end} {c = c} o h = let fl = a_mark {n = m} a (a_name b (a_mark d (an_one f (a_mark g (an_one h nothing))))) in let le : 1 + m ≤ n = omega (arith, e) in
                reads_by 0 m le (record { v = (x, (k, (c, tt))); span = span_of tokens at end; fills = fl; is_span = covers tokens at end o fl.taken fl.split; allowed = refl; builds = refl })
                (subst (λ z. Stops (member (con_more z)) (drop end tokens)) (keys_within place) h.stops)

  module _ (o : Other tokens at (OfKind (token.Keyword keyword.Fn))) where
    pub plain_refused : {r : Refusal} → Refused language m (of_con (arrow (keys_of place))) (drop at tokens) r → Refused language n (of_con (con place)) (drop at tokens) r
    plain_refused h = refused_by decided 1 m e (no_lambda place o) (one_refused h)

    pub plain_unfit : (end : ℕ) {c : Con} {r : Refusal} → Read language m (of_con (arrow (keys_of place))) (drop at tokens) (drop end tokens) c → Says r 5 [] [] → (is_beside place || is_whole c) ≡ false → Refused language n (of_con (con place)) (drop at tokens) r
    plain_unfit end h says w = refused_by decided 1 m e (no_lambda place o) (one_read decided h (not_allowed says (λ rest p. let y = p.allowed in false_true (sym w ∙ y))))

pub plain_read : (m : ℕ) {n : ℕ} → 1 + m ≡ n → {place : ConPlace} (tokens : List Lexeme) (at end : ℕ) {c : Con} → Read language m (of_con (arrow (keys_of place))) (drop at tokens) (drop end tokens) c → (is_beside place || is_whole c) ≡ true →
    Read language n (of_con (con place)) (drop at tokens) (drop end tokens) c
plain_read m {n = n} e tokens at end {c = c} h w = let le : 1 + m ≤ n = omega (arith, e) in reads_by 1 m le (record { v = (c, tt); span = no_span; is_span = refl; allowed = w; builds = refl; fills = an_one h nothing }) h.stops

-- ---- constructors that need no parentheses

module _ {n : ℕ} {keys : Bool} {tokens : List Lexeme} {at next : ℕ} {r : Refusal} where
  pub row_refused : IsAt tokens at next (OfKind (token.Symbol symbol.LBracket)) → Refused language n (of_con row) (drop next tokens) r → Refused language n (of_con (atom keys)) (drop at tokens) r
  row_refused a h = refused_by decided 3 n (omega arith) (chosen_mark_at (choice (of_con (atom keys))) a (λ w s us. refl)) (mark_read a (one_refused h))

  pub fields_refused : IsAt tokens at next (OfKind (token.Symbol symbol.LBrace)) → Refused language n (of_con fields) (drop next tokens) r → Refused language n (of_con (atom keys)) (drop at tokens) r
  fields_refused a h = refused_by decided 4 n (omega arith) (chosen_mark_at (choice (of_con (atom keys))) a (λ w s us. refl)) (mark_read a (one_refused h))

  pub dollar_refused : IsAt tokens at next (OfKind (token.Symbol symbol.Dollar)) → Refused language n (of_con (atom false)) (drop next tokens) r → Refused language n (of_con (atom keys)) (drop at tokens) r
  dollar_refused a h = refused_by decided 5 n (omega arith) (chosen_mark_at (choice (of_con (atom keys))) a (λ w s us. refl)) (mark_read a (one_refused h))

  pub dollar_unfit : (end : ℕ) {c : Con} → IsAt tokens at next (OfKind (token.Symbol symbol.Dollar)) → Read language n (of_con (atom false)) (drop next tokens) (drop end tokens) c → Says r 5 [] [] → is_whole c ≡ false →
      Refused language n (of_con (atom keys)) (drop at tokens) r
  dollar_unfit end a h says w = refused_by decided 5 n (omega arith) (chosen_mark_at (choice (of_con (atom keys))) a (λ w s us. refl)) (mark_read a (one_read decided h (not_allowed says (λ rest p. let y = p.allowed in false_true (sym w ∙ y)))))

  pub inner_refused : IsAt tokens at next (OfKind (token.Symbol symbol.LParen)) → Refused language n (of_con (con places.Plain)) (drop next tokens) r → Refused language n (of_con (atom keys)) (drop at tokens) r
  inner_refused a h = refused_by decided 6 n (omega arith) (chosen_mark_at (choice (of_con (atom keys))) a (λ w s us. refl)) (mark_read a (one_refused h))

  pub inner_open : {mid : ℕ} {c : Con} → IsAt tokens at next (OfKind (token.Symbol symbol.LParen)) → Read language n (of_con (con places.Plain)) (drop next tokens) (drop mid tokens) c → Unexpected tokens mid (OfKind (token.Symbol symbol.RParen)) r →
      Refused language n (of_con (atom keys)) (drop at tokens) r
  inner_open a h u = refused_by decided 6 n (omega arith) (chosen_mark_at (choice (of_con (atom keys))) a (λ w s us. refl)) (mark_read a (one_read decided h (no_mark u)))

module _ {n : ℕ} {keys : Bool} {tokens : List Lexeme} {at next end : ℕ} where
  pub row_read : {fs : List CField} → Moves tokens at end → IsAt tokens at next (OfKind (token.Symbol symbol.LBracket)) → Read language n (of_con row) (drop next tokens) (drop end tokens) fs →
      let c : Con = record { span = span_of tokens at end; form = form.Row fs } in Read language n (of_con (atom keys)) (drop at tokens) (drop end tokens) c
  row_read {fs = fs} m a h = let fl = a_mark {n = n} a (an_one h nothing) in
      reads_by 3 n (omega arith) (record { v = (fs, tt); span = span_of tokens at end; fills = fl; is_span = covers tokens at end m fl.taken fl.split; allowed = refl; builds = refl }) (ends_empty _)

  pub fields_read : {fs : List RecordField} → Moves tokens at end → IsAt tokens at next (OfKind (token.Symbol symbol.LBrace)) → Read language n (of_con fields) (drop next tokens) (drop end tokens) fs →
      let c : Con = record { span = span_of tokens at end; form = form.Record fs } in Read language n (of_con (atom keys)) (drop at tokens) (drop end tokens) c
  fields_read {fs = fs} m a h = let fl = a_mark {n = n} a (an_one h nothing) in
      reads_by 4 n (omega arith) (record { v = (fs, tt); span = span_of tokens at end; fills = fl; is_span = covers tokens at end m fl.taken fl.split; allowed = refl; builds = refl }) (ends_empty _)

  pub dollar_read : {c : Con} → Moves tokens at end → IsAt tokens at next (OfKind (token.Symbol symbol.Dollar)) → Read language n (of_con (atom false)) (drop next tokens) (drop end tokens) c → is_whole c ≡ true →
      let d : Con = record { span = span_of tokens at end; form = form.RecordOf c } in Read language n (of_con (atom keys)) (drop at tokens) (drop end tokens) d
  dollar_read {c = c} m a h w = let fl = a_mark {n = n} a (an_one h nothing) in
      reads_by 5 n (omega arith) (record { v = (c, tt); span = span_of tokens at end; fills = fl; is_span = covers tokens at end m fl.taken fl.split; allowed = w; builds = refl }) (ends_empty _)

  pub inner_read : {mid : ℕ} {c : Con} → IsAt tokens at next (OfKind (token.Symbol symbol.LParen)) → Read language n (of_con (con places.Plain)) (drop next tokens) (drop mid tokens) c → IsAt tokens mid end (OfKind (token.Symbol symbol.RParen)) →
      Read language n (of_con (atom keys)) (drop at tokens) (drop end tokens) c
  inner_read {c = c} a h b = reads_by 6 n (omega arith) (record { v = (c, tt); span = no_span; is_span = refl; allowed = refl; builds = refl; fills = a_mark a (an_one h (a_mark b nothing)) }) (ends_empty _)

-- ---- names

module _ {n : ℕ} {keys : Bool} {tokens : List Lexeme} {at end : ℕ} {x : Text} where
  pub variable_read : Moves tokens at end → IsName tokens at end token.Lower any x → let c : Con = record { span = span_of tokens at end; form = form.Var x } in Read language n (of_con (atom keys)) (drop at tokens) (drop end tokens) c
  variable_read m a = let fl = a_name {n = n} a nothing in reads_by 0 n (omega arith) (record { v = (x, tt); span = span_of tokens at end; fills = fl; is_span = covers tokens at end m fl.taken fl.split; allowed = refl; builds = refl }) (ends_empty _)

  pub name_of_read : {next : ℕ} → Moves tokens at end → IsAt tokens at next (OfKind (token.Symbol symbol.Hash)) → IsName tokens next end token.Upper is_field x →
      let c : Con = record { span = span_of tokens at end; form = form.Name x } in Read language n (of_con (atom keys)) (drop at tokens) (drop end tokens) c
  name_of_read m a b = let fl = a_mark {n = n} a (a_name b nothing) in
      reads_by 2 n (omega arith) (record { v = (x, tt); span = span_of tokens at end; fills = fl; is_span = covers tokens at end m fl.taken fl.split; allowed = refl; builds = refl }) (ends_empty _)

  pub member_read : {dot next : ℕ} {y : Text} → Moves tokens at end → IsName tokens at dot token.Upper (is_free keys) x → IsAt tokens dot next (OfKind (token.Symbol symbol.Dot)) → IsName tokens next end token.Lower any y →
      let c : Con = record { span = span_of tokens at end; form = form.Member x y } in Read language n (of_con (atom keys)) (drop at tokens) (drop end tokens) c
  member_read {y = y} m a d b = let fl = a_name {n = n} a (a_mark d (a_name b nothing)) in
      reads_by 1 n (omega arith) (record { v = (x, (y, tt)); span = span_of tokens at end; fills = fl; is_span = covers tokens at end m fl.taken fl.split; allowed = refl; builds = refl }) (ends_empty _)

of_module : (keys : Bool) {tokens : List Lexeme} {at next : ℕ} {x : Text} → IsName tokens at next token.Upper (is_free keys) x → choice (of_con (atom keys)) (drop at tokens) ≡ 1
of_module keys a = chosen_name_at (choice (of_con (atom keys))) a (λ w s us h. if_true _ (or_first (is_free keys w) false h))

module _ {n : ℕ} {keys : Bool} {tokens : List Lexeme} {at : ℕ} {r : Refusal} where
  pub variable_refused : {next : ℕ} → IsAt tokens at next (OfKind token.Lower) → Unexpected tokens at (Passing token.Lower any) r → Refused language n (of_con (atom keys)) (drop at tokens) r
  variable_refused a u = refused_by decided 0 n (omega arith) (chosen_mark_at (choice (of_con (atom keys))) a (λ w s us. refl)) (no_name u)

  pub name_of_refused : {next : ℕ} → IsAt tokens at next (OfKind (token.Symbol symbol.Hash)) → Unexpected tokens next (Passing token.Upper is_field) r → Refused language n (of_con (atom keys)) (drop at tokens) r
  name_of_refused a u = refused_by decided 2 n (omega arith) (chosen_mark_at (choice (of_con (atom keys))) a (λ w s us. refl)) (mark_read a (no_name u))

  pub member_dot : {next : ℕ} {x : Text} → IsName tokens at next token.Upper (is_free keys) x → Unexpected tokens next (OfKind (token.Symbol symbol.Dot)) r → Refused language n (of_con (atom keys)) (drop at tokens) r
  member_dot a u = refused_by decided 1 n (omega arith) (of_module keys a) (name_read a (no_mark u))

  pub member_name : {next begin : ℕ} {x : Text} → IsName tokens at next token.Upper (is_free keys) x → IsAt tokens next begin (OfKind (token.Symbol symbol.Dot)) → Unexpected tokens begin (Passing token.Lower any) r → Refused language n (of_con (atom keys)) (drop at tokens) r
  member_name a d u = refused_by decided 1 n (omega arith) (of_module keys a) (name_read a (mark_read d (no_name u)))

  pub none_named : Other tokens at (OfKind token.Lower) → Other tokens at (OfKind (token.Symbol symbol.Hash)) → NoneOpens tokens at → Unexpected tokens at (Passing token.Upper (is_free keys)) r → Refused language n (of_con (atom keys)) (drop at tokens) r
  none_named l h o u = syntax u.says (none_of (not_name (any_other any l), (not_name u.other, (not_mark h, (not_mark o.bracket, (not_mark o.brace, (not_mark o.dollar, (not_mark o.parenthesis, tt))))))))

-- ---- names of fields

module _ {n : ℕ} {tokens : List Lexeme} {at : ℕ} where
  pub field_variable : {next : ℕ} {x : Text} → IsName tokens at next token.Lower any x → Read language n (of_con field_name) (drop at tokens) (drop next tokens) (names.Variable x)
  field_variable {x = x} a = reads_by 1 n (omega arith) (record { v = (x, tt); span = no_span; is_span = refl; allowed = refl; builds = refl; fills = a_name a nothing }) (ends_empty _)

  pub field_literal : {next : ℕ} {x : Text} → IsName tokens at next token.Upper is_field x → Read language n (of_con field_name) (drop at tokens) (drop next tokens) (names.Literal x)
  field_literal {x = x} a = reads_by 0 n (omega arith) (record { v = (x, tt); span = no_span; is_span = refl; allowed = refl; builds = refl; fills = a_name a nothing }) (ends_empty _)

  pub field_variable_refused : {next : ℕ} {r : Refusal} → IsAt tokens at next (OfKind token.Lower) → Unexpected tokens at (Passing token.Lower any) r → Refused language n (of_con field_name) (drop at tokens) r
  field_variable_refused a u = refused_by decided 1 n (omega arith) (chosen_mark_at (choice (of_con field_name)) a (λ w s us. refl)) (no_name u)

  pub no_field_name : {r : Refusal} → Other tokens at (OfKind token.Lower) → Unexpected tokens at (Passing token.Upper is_field) r → Refused language n (of_con field_name) (drop at tokens) r
  no_field_name o u = syntax u.says (none_of (not_name u.other, (not_name (any_other any o), tt)))

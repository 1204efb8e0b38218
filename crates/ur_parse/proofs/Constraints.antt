-- Constraints and the keys of a table.
use Rattle.std.specs.Prelude.{◌≡◌, ℕ, List, [], ◌∷◌, ◌++◌, drop, codes, Some, None, refl}
use Rattle.std.proofs.Common.{◌∙◌, arith, append_assoc}
use Rattle.ur_base.specs.declared.refusal.Span.{Span}
use Rattle.ur_base.specs.declared.refusal.Refusal.{Refusal}
use Rattle.ur_lex.specs.declared.token.Symbol.TheVariants as symbol
use Rattle.ur_lex.specs.declared.token.TokenKind.TheVariants as token
use Rattle.ur_lex.specs.declared.token.Lexeme.{Lexeme}
use Rattle.ur_lex.specs.Spelling.{Text}
use Rattle.ur_syntax.specs.declared.decl.Constraint.{Constraint}
use Rattle.ur_parse_rules.specs.Rules.{Read, Refused, Stops, no_span, syntax}
use Rattle.ur_parse_rules.specs.Places.{Moves, IsAt, IsName, Other, OfKind, Spelled, Passing, Unexpected, any, span_of}
use Rattle.ur_parse_rules.proofs.Tokens.{covers}
use Rattle.ur_parse_rules.proofs.Steps.{nothing, a_word, a_name, an_one, word_read, one_read, one_refused, no_word, no_name, not_name, any_other, reads_by, refused_by, none_of}
use Rattle.ur_parse_rules.proofs.Choices.{chosen_mark_at, chosen_word_at, if_false}
use Rattle.ur_parse_rules.specs.Classes.{member, word_class}
use Rattle.ur_parse_rules.specs.DeclParts.{keys, key_columns, constraint_head, constraint_name}
use Rattle.ur_parse_rules.specs.Declarations.{no_keys, constraints_of}
use Rattle.ur_parse_rules.specs.Ends.{decl_last}
use Rattle.ur_parse_rules.specs.Forms.{up_to}
use Rattle.ur_parse_rules.specs.Parts.{of_decl, Named, KeyColumns, Keys}
use Rattle.ur_parse_rules.specs.Language.{language}
use Rattle.ur_parse_rules.proofs.Choice.{choice}
use Rattle.ur_parse_rules.proofs.AllDecided.{decided}
use Rattle.ur_parse_rules.proofs.Places.{ends_empty}
use Rattle.ur_parse.specs.Tables.{ColumnsRead, KeysRead, keyed}
use Rattle.ur_parse_con.proofs.Binders.{cannot_end}
use Rattle.ur_parse.proofs.Ending.{word_missing}
use Rattle.ur_parse.proofs.Listed.{single_head}

-- ---- `CONSTRAINT name UNIQUE`

module _ {n : ℕ} {tokens : List Lexeme} {at : ℕ} where
  pub lower_name : {end : ℕ} {x : Text} → IsName tokens at end token.Lower any x → Read language n (of_decl constraint_name) (drop at tokens) (drop end tokens) x
  lower_name {x = x} a = reads_by 0 n (omega arith) (record { v = (x, tt); span = no_span; is_span = refl; allowed = refl; builds = refl; fills = a_name a nothing }) (ends_empty _)

  pub upper_name : {end : ℕ} {x : Text} → IsName tokens at end token.Upper any x → Read language n (of_decl constraint_name) (drop at tokens) (drop end tokens) x
  upper_name {x = x} a = reads_by 1 n (omega arith) (record { v = (x, tt); span = no_span; is_span = refl; allowed = refl; builds = refl; fills = a_name a nothing }) (ends_empty _)

  pub no_lower : {next : ℕ} {r : Refusal} → IsAt tokens at next (OfKind token.Lower) → Unexpected tokens at (Passing token.Lower any) r → Refused language n (of_decl constraint_name) (drop at tokens) r
  no_lower a u = refused_by decided 0 n (omega arith) (chosen_mark_at (choice (of_decl constraint_name)) a (λ w s us. refl)) (no_name u)

  pub nameless : {r : Refusal} → Other tokens at (OfKind token.Lower) → Unexpected tokens at (Passing token.Upper any) r → Refused language n (of_decl constraint_name) (drop at tokens) r
  nameless o u = syntax u.says (none_of (not_name (any_other any o), (not_name u.other, tt)))

  module _ {begin : ℕ} (a : IsAt tokens at begin (Spelled token.Upper (codes "CONSTRAINT"))) where
    pub name_refused : {r : Refusal} → Refused language n (of_decl constraint_name) (drop begin tokens) r → Refused language n (of_decl constraint_head) (drop at tokens) r
    name_refused h = refused_by decided 0 n (omega arith) (single_head (drop at tokens)) (word_read a (one_refused h))

    module _ (mid : ℕ) {x : Text} (f : Read language n (of_decl constraint_name) (drop begin tokens) (drop mid tokens) x) where
      pub no_unique : {r : Refusal} → Unexpected tokens mid (Spelled token.Upper (codes "UNIQUE")) r → Refused language n (of_decl constraint_head) (drop at tokens) r
      no_unique u = refused_by decided 0 n (omega arith) (single_head (drop at tokens)) (word_read a (one_read decided f (no_word u)))

      pub head_read : {end : ℕ} → Moves tokens at end → IsAt tokens mid end (Spelled token.Upper (codes "UNIQUE")) → let h : Named = record { span = span_of tokens at end; text = x } in
          Read language n (of_decl constraint_head) (drop at tokens) (drop end tokens) h
      head_read {end = end} m b = let fl = a_word {n = n} a (an_one f (a_word b nothing)) in
          reads_by 0 n (omega arith) (record { v = (x, tt); span = span_of tokens at end; fills = fl; is_span = covers tokens at end m fl.taken fl.split; allowed = refl; builds = refl }) (ends_empty _)

-- ---- constraints one behind another

module _ {n : ℕ} {tokens : List Lexeme} {at end : ℕ} {columns : List Text} {last : Span} {made : List Constraint} where
  pub columns_more : (k l j : ℕ) {s : Span} {x : Text} {names : List Text} {stop : Span} → ColumnsRead n tokens at end columns last made → IsAt tokens end k (OfKind (token.Symbol symbol.Comma)) →
      (let h : Named = record { span = s; text = x } in Read language n (of_decl constraint_head) (drop k tokens) (drop l tokens) h) → ColumnsRead n tokens l j names stop [] →
      let c : Constraint = record { span = up_to s stop; name = x; columns = names } in ColumnsRead n tokens at j columns last (made ++ c ∷ [])
  columns_more k l j {s = s} {x = x} {names = names} {stop = stop} st a r nx = let h : Named = record { span = s; text = x } in let c : Constraint = record { span = up_to s stop; name = x; columns = names } in record {
    alone = λ o. st.followed k l j h (keyed names stop []) a r (nx.alone o);
    followed = λ k' l' m h' c' a' r' s'. rw (append_assoc made (c ∷ []) (constraints_of h' c')) (st.followed k l m h (keyed names stop (constraints_of h' c')) a r (nx.followed k' l' m h' c' a' r' s'));
    headless = λ k' ref a' h'. st.empty k l h ref a r (nx.headless k' ref a' h');
    empty = λ k' l' h' ref a' s' g. st.empty k l h ref a r (nx.empty k' l' h' ref a' s' g);
  }

-- ---- keys

no_key : (ts : List Lexeme) → Stops (member (word_class token.Upper (codes "PRIMARY") ∷ [])) ts → Stops (member (word_class token.Upper (codes "CONSTRAINT") ∷ [])) ts → choice (of_decl keys) ts ≡ 0
no_key [] s u = refl
no_key (t ∷ ts) s u = if_false 1 s ∙ if_false 2 u

module _ {n : ℕ} {tokens : List Lexeme} {at : ℕ} where
  pub keys_none : Other tokens at (Spelled token.Upper (codes "PRIMARY")) → Other tokens at (Spelled token.Upper (codes "CONSTRAINT")) → KeysRead n tokens at at no_keys
  keys_none o p = record {
    ends = λ s. reads_by 0 n (omega arith) (record { v = tt; span = no_span; is_span = refl; allowed = refl; builds = refl; fills = nothing }) s;
    goes_on = λ r says e. refused_by decided 0 n (omega arith) (no_key (drop at tokens) (word_missing refl o) (word_missing refl p)) (cannot_end (decl_last keys) says e (λ p. p.stops));
  }

  module _ {key : ℕ} (a : IsAt tokens at key (Spelled token.Upper (codes "PRIMARY"))) where
    pub no_word_key : {r : Refusal} → Unexpected tokens key (Spelled token.Upper (codes "KEY")) r → Refused language n (of_decl keys) (drop at tokens) r
    no_word_key u = refused_by decided 1 n (omega arith) (chosen_word_at (choice (of_decl keys)) a (λ s us. refl)) (word_read a (no_word u))

    module _ {begin : ℕ} (b : IsAt tokens key begin (Spelled token.Upper (codes "KEY"))) where
      pub primary_refused : {r : Refusal} → Refused language n (of_decl key_columns) (drop begin tokens) r → Refused language n (of_decl keys) (drop at tokens) r
      primary_refused h = refused_by decided 1 n (omega arith) (chosen_word_at (choice (of_decl keys)) a (λ s us. refl)) (word_read a (word_read b (one_refused h)))

      pub primary_read : (end : ℕ) {k : KeyColumns} → Read language n (of_decl key_columns) (drop begin tokens) (drop end tokens) k → let ks : Keys = record { primary = Some k.columns; constraints = k.constraints } in KeysRead n tokens at end ks
      primary_read end {k = k} h = record {
        ends = λ s. reads_by 1 n (omega arith) (record { v = (k, tt); span = no_span; is_span = refl; allowed = refl; builds = refl; fills = a_word a (a_word b (an_one h nothing)) }) s;
        goes_on = λ r says e. refused_by decided 1 n (omega arith) (chosen_word_at (choice (of_decl keys)) a (λ s us. refl)) (word_read a (word_read b (one_read decided h (cannot_end (decl_last keys) says e (λ p. p.stops)))));
      }

  module _ {next : ℕ} (a : IsAt tokens at next (Spelled token.Upper (codes "CONSTRAINT"))) where
    pub head_refused : {r : Refusal} → Refused language n (of_decl constraint_head) (drop at tokens) r → Refused language n (of_decl keys) (drop at tokens) r
    head_refused h = refused_by decided 2 n (omega arith) (chosen_word_at (choice (of_decl keys)) a (λ s us. refl)) (one_refused h)

    module _ (begin : ℕ) {h : Named} (f : Read language n (of_decl constraint_head) (drop at tokens) (drop begin tokens) h) where
      pub unique_refused : {r : Refusal} → Refused language n (of_decl key_columns) (drop begin tokens) r → Refused language n (of_decl keys) (drop at tokens) r
      unique_refused g = refused_by decided 2 n (omega arith) (chosen_word_at (choice (of_decl keys)) a (λ s us. refl)) (one_read decided f (one_refused g))

      pub unique_read : (end : ℕ) {k : KeyColumns} → Read language n (of_decl key_columns) (drop begin tokens) (drop end tokens) k → let ks : Keys = record { primary = None; constraints = constraints_of h k } in KeysRead n tokens at end ks
      unique_read end {k = k} g = record {
        ends = λ s. reads_by 2 n (omega arith) (record { v = (h, (k, tt)); span = no_span; is_span = refl; allowed = refl; builds = refl; fills = an_one f (an_one g nothing) }) s;
        goes_on = λ r says e. refused_by decided 2 n (omega arith) (chosen_word_at (choice (of_decl keys)) a (λ s us. refl)) (one_read decided f (one_read decided g (cannot_end (decl_last keys) says e (λ p. p.stops))));
      }

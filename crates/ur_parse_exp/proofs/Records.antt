-- The fields of records, and the values of `let`, are read in loops.
use Rattle.std.specs.Prelude.{◌≡◌, ℕ, Bool, true, false, if◌then◌else◌, List, [], ◌∷◌, ◌++◌, drop, ◌||◌, ◌&&◌, refl}
use Rattle.std.proofs.Common.{sym, ◌∙◌, ap, subst, arith, append_assoc}
use Rattle.std.proofs.lemmas.List.{append-nil}
use Rattle.ur_base.specs.declared.refusal.Refusal.{Refusal}
use Rattle.ur_lex.specs.declared.token.Keyword.TheVariants as keyword
use Rattle.ur_lex.specs.declared.token.Symbol.TheVariants as symbol
use Rattle.ur_lex.specs.declared.token.TokenKind.TheVariants as token
use Rattle.ur_lex.specs.declared.token.Lexeme.{Lexeme}
use Rattle.ur_lex.specs.Spelling.{Text}
use Rattle.ur_syntax.specs.declared.con.Con.{Con}
use Rattle.ur_syntax.specs.declared.con.FieldName.{FieldName}
use Rattle.ur_syntax.specs.declared.exp.Field.{Field}
use Rattle.ur_syntax.specs.declared.exp.LetVal.{LetVal}
use Rattle.ur_syntax.specs.declared.exp.ExpForm.TheVariants as form
use Rattle.ur_parse_rules.specs.Rules.{Read, Refused, Stops, no_span, syntax}
use Rattle.ur_parse_rules.specs.Places.{Moves, IsAt, IsName, Other, OfKind, Passing, Unexpected, any, span_of, starts}
use Rattle.ur_parse_rules.proofs.Tokens.{covers}
use Rattle.ur_parse_rules.proofs.Steps.{Leads, nothing, a_mark, a_name, an_one, mark_read, name_read, one_read, one_refused, no_mark, no_name, not_mark, reads_by, refused_by, none_of, leads_here}
use Rattle.ur_parse_rules.proofs.Choices.{chosen_mark_at, if_false, starts_at, less}
use Rattle.ur_base.specs.Stopping.{Says}
use Rattle.ur_parse_rules.specs.Classes.{Classes, member, in_class, symbol_class, keyword_class}
use Rattle.ur_parse_rules.specs.Ends.{symbols, operators, semicolon, exp_more}
use Rattle.ur_parse_rules.specs.Ends as ends
use Rattle.ur_parse_rules.specs.Expressions.{at}
use Rattle.ur_parse_rules.specs.declared.parse_rules_place.ConPlace.TheVariants as places
use Rattle.ur_parse_rules.specs.ConParts as c
use Rattle.ur_parse_rules.specs.ExpParts as e
use Rattle.ur_parse_rules.specs.Parts.{of_con, of_exp, Ended}
use Rattle.ur_parse_rules.specs.Language.{language}
use Rattle.ur_parse_rules.proofs.Choice.{choice}
use Rattle.ur_parse_rules.proofs.AllDecided.{decided}
use Rattle.ur_parse_rules.proofs.Tests.{false_true}
use Rattle.ur_parse_rules.proofs.Places.{ends_empty, missing, stops_cons}
use Rattle.ur_parse_con.proofs.Binders.{cannot_end}
use Rattle.ur_parse_exp_parts.proofs.Ending.{stops_both}
use Rattle.ur_parse_exp_parts.specs.Lists.{field, let_val}
use Rattle.ur_parse_exp.specs.Lists.{FieldRead, ValRead, ValsRead, ValsRefused, first, behind}

only_one : (b : Bool) → let z : ℕ = if b then 0 else 0 in z ≡ 0
only_one true = refl
only_one false = refl

second_one : (b : Bool) → let z : ℕ = if b then 1 else 1 in z ≡ 1
second_one true = refl
second_one false = refl

single_field : (ts : List Lexeme) → choice (of_exp e.field) ts ≡ 0
single_field [] = refl
single_field (t ∷ ts) = only_one _

single_val : (ts : List Lexeme) → choice (of_exp e.let_val) ts ≡ 0
single_val [] = refl
single_val (t ∷ ts) = only_one _

not_braced : (ts : List Lexeme) → Stops (member (symbol_class symbol.RBrace ∷ [])) ts → choice (of_exp e.fields) ts ≡ 1
not_braced [] s = refl
not_braced (t ∷ ts) s = if_false 0 s ∙ second_one _

-- ---- behind a value

-- what goes on behind a field
abbrev value_more : Classes
value_more = symbols (symbol.Semicolon ∷ symbol.LeftArrow ∷ symbol.Bar ∷ []) ++ operators

operators_left : (o s b u : Bool) → (o || (s || (b && u))) ≡ false → o ≡ false
operators_left true s b u e = e
operators_left false s b u e = refl

semicolons_left : (o s b u : Bool) → (o || (s || (b && u))) ≡ false → s ≡ false
semicolons_left true s b u e = false_true (sym e)
semicolons_left false true b u e = e
semicolons_left false false b u e = refl

three : (a b d : Bool) → (a || (b || false)) ≡ false → (d || false) ≡ false → (a || (b || (d || false))) ≡ false
three true b d e f = e
three false true d e f = e
three false false d e f = f

loose : (ts : List Lexeme) → Stops semicolon ts → Stops (member (symbol_class symbol.Bar ∷ [])) ts → Stops (member (symbols (symbol.Semicolon ∷ symbol.LeftArrow ∷ symbol.Bar ∷ []))) ts
loose [] s u = tt
loose (t ∷ ts) s u = three (in_class (symbol_class symbol.Semicolon) t.kind t.content) (in_class (symbol_class symbol.LeftArrow) t.kind t.content) (in_class (symbol_class symbol.Bar) t.kind t.content) s u

ends_value : (a : Ended) (ts : List Lexeme) → Stops (exp_more a) ts → Stops (member (symbol_class symbol.Bar ∷ [])) ts → Stops (member value_more) ts
ends_value a ts s u = stops_both (symbols (symbol.Semicolon ∷ symbol.LeftArrow ∷ symbol.Bar ∷ [])) operators ts
    (loose ts (less ts (λ k w e. semicolons_left (member operators k w) (semicolon k w) (ends.bar k w) a.takes_bar e) s) u)
    (less ts (λ k w e. operators_left (member operators k w) (semicolon k w) (ends.bar k w) a.takes_bar e) s)

bar_goes_on : {tokens : List Lexeme} {i j : ℕ} → IsAt tokens i j (OfKind (token.Symbol symbol.Bar)) → starts (member value_more) (drop i tokens) ≡ true
bar_goes_on a = starts_at (member value_more) a (λ w. refl)

-- ---- one field

module _ {n : ℕ} (tokens : List Lexeme) (i : ℕ) where
  pub name_refused : {r : Refusal} → Refused language n (of_con c.field_name) (drop i tokens) r → Refused language n (of_exp e.field) (drop i tokens) r
  name_refused h = refused_by decided 0 n (omega arith) (single_field (drop i tokens)) (one_refused h)

  module _ {equals : ℕ} {x : FieldName} (f : Read language n (of_con c.field_name) (drop i tokens) (drop equals tokens) x) where
    pub equals_missing : {r : Refusal} → Unexpected tokens equals (OfKind (token.Symbol symbol.Eq)) r → Refused language n (of_exp e.field) (drop i tokens) r
    equals_missing u = refused_by decided 0 n (omega arith) (single_field (drop i tokens)) (one_read decided f (no_mark u))

    module _ {begin : ℕ} (a : IsAt tokens equals begin (OfKind (token.Symbol symbol.Eq))) where
      pub value_refused : {r : Refusal} → Refused language n (of_exp e.exp) (drop begin tokens) r → Refused language n (of_exp e.field) (drop i tokens) r
      value_refused h = refused_by decided 0 n (omega arith) (single_field (drop i tokens)) (one_read decided f (mark_read a (one_refused h)))

      module _ (end : ℕ) {v : Ended} (h : Read language n (of_exp e.exp) (drop begin tokens) (drop end tokens) v) where
        pub field_barred : {next : ℕ} {r : Refusal} → Says r 5 [] [] → IsAt tokens end next (OfKind (token.Symbol symbol.Bar)) → Refused language n (of_exp e.field) (drop i tokens) r
        field_barred says q = refused_by decided 0 n (omega arith) (single_field (drop i tokens)) (one_read decided f (mark_read a (one_read decided h (cannot_end value_more says (bar_goes_on q) (λ p. p.stops)))))

        pub field_read : {before after : List Field} → Other tokens end (OfKind (token.Symbol symbol.Bar)) → after ≡ before ++ field x v.exp ∷ [] → FieldRead n tokens i end before after
        field_read o is = record {
          of = field x v.exp;
          read = reads_by 0 n (omega arith) (record { v = (x, (v, tt)); span = no_span; is_span = refl; allowed = refl; builds = refl; fills = an_one f (a_mark a (an_one h nothing)) }) (ends_value v (drop end tokens) h.stops (missing refl o));
          is = is;
        }

-- ---- the fields of a record

module _ {n : ℕ} (tokens : List Lexeme) (here : ℕ) where
  pub fields_empty : {next : ℕ} → IsAt tokens here next (OfKind (token.Symbol symbol.RBrace)) → Read language n (of_exp e.fields) (drop here tokens) (drop next tokens) []
  fields_empty a = reads_by 0 n (omega arith) (record { v = tt; span = no_span; is_span = refl; allowed = refl; builds = refl; fills = a_mark a nothing }) (ends_empty _)

  pub first_refused : {r : Refusal} → Other tokens here (OfKind (token.Symbol symbol.RBrace)) → Refused language n (of_exp e.field) (drop here tokens) r → Refused language n (of_exp e.fields) (drop here tokens) r
  first_refused o h = refused_by decided 1 n (omega arith) (not_braced _ (missing refl o)) (one_refused h)

  -- the first one leads on to those behind it
  pub fields_first : {end : ℕ} {fs : List Field} → Other tokens here (OfKind (token.Symbol symbol.RBrace)) → FieldRead n tokens here end [] fs → Leads language n (of_exp e.fields) (of_exp e.fields_tail) (drop here tokens) (drop end tokens) (λ ys. fs ++ ys)
  fields_first {end = end} {fs = fs} o q = let e' : (q.of ∷ []) ≡ fs = sym q.is in record {
    found = λ rest ys a. subst (λ z. Read language n (of_exp e.fields) (drop here tokens) rest (z ++ ys)) e'
        (reads_by 1 n (omega arith) (record { v = (q.of, (ys, tt)); span = no_span; is_span = refl; allowed = refl; builds = refl; fills = an_one q.read (an_one a nothing) }) (ends_empty _));
    refused = λ ref h. refused_by decided 1 n (omega arith) (not_braced _ (missing refl o)) (one_read decided q.read (one_refused h));
  }

  module _ {end begin : ℕ} (fs : List Field) (l : Leads language n (of_exp e.fields) (of_exp e.fields_tail) (drop here tokens) (drop end tokens) (λ ys. fs ++ ys)) (a : IsAt tokens end begin (OfKind (token.Symbol symbol.Comma))) where
    pub fields_next_refused : {r : Refusal} → Refused language n (of_exp e.field) (drop begin tokens) r → Refused language n (of_exp e.fields) (drop here tokens) r
    fields_next_refused h = l.refused _ (refused_by decided 1 n (omega arith) (chosen_mark_at (choice (of_exp e.fields_tail)) a (λ w s us. refl)) (mark_read a (one_refused h)))

    pub fields_more : {next : ℕ} {gs : List Field} → FieldRead n tokens begin next fs gs → Leads language n (of_exp e.fields) (of_exp e.fields_tail) (drop here tokens) (drop next tokens) (λ ys. gs ++ ys)
    fields_more {next = next} {gs = gs} q = record {
      found = λ rest ys h. subst (λ z. Read language n (of_exp e.fields) (drop here tokens) rest z) (sym (append_assoc fs (q.of ∷ []) ys) ∙ ap (λ z. z ++ ys) (sym q.is)) (l.found rest (q.of ∷ ys)
          (reads_by 1 n (omega arith) (record { v = (q.of, (ys, tt)); span = no_span; is_span = refl; allowed = refl; builds = refl; fills = a_mark a (an_one q.read (an_one h nothing)) }) (ends_empty _)));
      refused = λ ref h. l.refused ref (refused_by decided 1 n (omega arith) (chosen_mark_at (choice (of_exp e.fields_tail)) a (λ w s us. refl)) (mark_read a (one_read decided q.read (one_refused h))));
    }

  module _ {end : ℕ} (fs : List Field) (l : Leads language n (of_exp e.fields) (of_exp e.fields_tail) (drop here tokens) (drop end tokens) (λ ys. fs ++ ys)) where
    pub fields_done : {close : ℕ} → IsAt tokens end close (OfKind (token.Symbol symbol.RBrace)) → Read language n (of_exp e.fields) (drop here tokens) (drop close tokens) fs
    fields_done {close = close} a = rw append-nil at (l.found (drop close tokens) [] (reads_by 0 n (omega arith) (record { v = tt; span = no_span; is_span = refl; allowed = refl; builds = refl; fills = a_mark a nothing }) (ends_empty _)))

    -- where neither a comma nor the end stands
    pub fields_open : {r : Refusal} → Other tokens end (OfKind (token.Symbol symbol.Comma)) → Unexpected tokens end (OfKind (token.Symbol symbol.RBrace)) r → Refused language n (of_exp e.fields) (drop here tokens) r
    fields_open o u = l.refused _ (syntax u.says (none_of (not_mark u.other, (not_mark o, tt))))

-- ---- one value of a `let`

module _ {n : ℕ} {tokens : List Lexeme} {i : ℕ} where
  pub val_missing : {r : Refusal} → Unexpected tokens i (OfKind (token.Keyword keyword.Val)) r → Refused language n (of_exp e.let_val) (drop i tokens) r
  val_missing u = refused_by decided 0 n (omega arith) (single_val (drop i tokens)) (no_mark u)

  module _ {k : ℕ} (a : IsAt tokens i k (OfKind (token.Keyword keyword.Val))) where
    pub val_name : {r : Refusal} → Unexpected tokens k (Passing token.Lower any) r → Refused language n (of_exp e.let_val) (drop i tokens) r
    val_name u = refused_by decided 0 n (omega arith) (single_val (drop i tokens)) (mark_read a (no_name u))

    module _ {colon : ℕ} {x : Text} (b : IsName tokens k colon token.Lower any x) where
      pub val_colon : {r : Refusal} → Unexpected tokens colon (OfKind (token.Symbol symbol.Colon)) r → Refused language n (of_exp e.let_val) (drop i tokens) r
      val_colon u = refused_by decided 0 n (omega arith) (single_val (drop i tokens)) (mark_read a (name_read b (no_mark u)))

      module _ {from : ℕ} (d : IsAt tokens colon from (OfKind (token.Symbol symbol.Colon))) where
        pub val_con : {r : Refusal} → Refused language n (of_con (c.con places.Plain)) (drop from tokens) r → Refused language n (of_exp e.let_val) (drop i tokens) r
        val_con h = refused_by decided 0 n (omega arith) (single_val (drop i tokens)) (mark_read a (name_read b (mark_read d (one_refused h))))

        module _ {equals : ℕ} {t : Con} (g : Read language n (of_con (c.con places.Plain)) (drop from tokens) (drop equals tokens) t) where
          pub val_equals : {r : Refusal} → Unexpected tokens equals (OfKind (token.Symbol symbol.Eq)) r → Refused language n (of_exp e.let_val) (drop i tokens) r
          val_equals u = refused_by decided 0 n (omega arith) (single_val (drop i tokens)) (mark_read a (name_read b (mark_read d (one_read decided g (no_mark u)))))

          module _ {begin : ℕ} (q : IsAt tokens equals begin (OfKind (token.Symbol symbol.Eq))) where
            pub val_value : {r : Refusal} → Refused language n (of_exp e.exp) (drop begin tokens) r → Refused language n (of_exp e.let_val) (drop i tokens) r
            val_value h = refused_by decided 0 n (omega arith) (single_val (drop i tokens)) (mark_read a (name_read b (mark_read d (one_read decided g (mark_read q (one_refused h))))))

            module _ (end : ℕ) {v : Ended} (h : Read language n (of_exp e.exp) (drop begin tokens) (drop end tokens) v) where
              pub val_barred : {next : ℕ} {r : Refusal} → Says r 5 [] [] → IsAt tokens end next (OfKind (token.Symbol symbol.Bar)) → Refused language n (of_exp e.let_val) (drop i tokens) r
              val_barred says p = refused_by decided 0 n (omega arith) (single_val (drop i tokens))
                  (mark_read a (name_read b (mark_read d (one_read decided g (mark_read q (one_read decided h (cannot_end value_more says (bar_goes_on p) (λ p. p.stops))))))))

              pub val_read : {before after : List LetVal} → Moves tokens i end → Other tokens end (OfKind (token.Symbol symbol.Bar)) → after ≡ before ++ let_val (span_of tokens i end) x t v.exp ∷ [] → ValRead n tokens i end before after
              val_read m o is = let fl = a_mark {n = n} a (a_name b (a_mark d (an_one g (a_mark q (an_one h nothing))))) in record {
                of = let_val (span_of tokens i end) x t v.exp;
                read = reads_by 0 n (omega arith) (record { v = (x, (t, (v, tt))); span = span_of tokens i end; fills = fl; is_span = covers tokens i end m fl.taken fl.split; allowed = refl; builds = refl }) (ends_value v (drop end tokens) h.stops (missing refl o));
                is = is;
              }

-- ---- the values of a `let`

-- the first value, and those behind it up to a place
pub record Vals (n : ℕ) (tokens : List Lexeme) (i k : ℕ) (vs : List LetVal) : Type 0 where
  pub one : LetVal
  pub others : List LetVal
  pub middle : ℕ
  pub is : vs ≡ one ∷ others
  pub read : Read language n (of_exp e.let_val) (drop i tokens) (drop middle tokens) one
  pub leads : Leads language n (of_exp e.let_vals) (of_exp e.let_vals) (drop middle tokens) (drop k tokens) (λ ys. others ++ ys)
  pub ends : Stops (member value_more) (drop k tokens)

last_val : (ts : List Lexeme) → Stops (member (keyword_class keyword.Val ∷ [])) ts → choice (of_exp e.let_vals) ts ≡ 0
last_val [] s = refl
last_val (t ∷ ts) s = if_false 1 s

module _ {n : ℕ} {tokens : List Lexeme} {i : ℕ} where
  pub vals_first : {k : ℕ} {vs : List LetVal} → ValRead n tokens i k [] vs → Vals n tokens i k vs
  vals_first {k = k} q = record { one = q.of; others = []; middle = k; is = q.is; read = q.read; leads = leads_here; ends = q.read.stops }

  module _ {k : ℕ} {vs : List LetVal} (s : Vals n tokens i k vs) where
    module _ {next : ℕ} (a : IsAt tokens k next (OfKind (token.Keyword keyword.Val))) where
      pub vals_more : {j : ℕ} {ws : List LetVal} → ValRead n tokens k j vs ws → Vals n tokens i j ws
      vals_more q = record {
        one = s.one;
        others = s.others ++ q.of ∷ [];
        middle = s.middle;
        is = q.is ∙ ap (λ z. z ++ q.of ∷ []) s.is;
        read = s.read;
        leads = record {
          found = λ rest ys h. rw (append_assoc s.others (q.of ∷ []) ys) (s.leads.found rest (q.of ∷ ys)
              (reads_by 1 n (omega arith) (record { v = (q.of, (ys, tt)); span = no_span; is_span = refl; allowed = refl; builds = refl; fills = an_one q.read (an_one h nothing) }) h.stops));
          refused = λ ref h. s.leads.refused ref (refused_by decided 1 n (omega arith) (chosen_mark_at (choice (of_exp e.let_vals)) a (λ w s us. refl)) (one_read decided q.read (one_refused h)));
        };
        ends = q.read.stops;
      }

      pub vals_refused : {r : Refusal} → Refused language n (of_exp e.let_val) (drop k tokens) r → ValsRefused n tokens i r
      vals_refused h = behind s.middle s.one s.read (s.leads.refused _ (refused_by decided 1 n (omega arith) (chosen_mark_at (choice (of_exp e.let_vals)) a (λ w s us. refl)) (one_refused h)))

    pub vals_done : Other tokens k (OfKind (token.Keyword keyword.Val)) → ValsRead n tokens i k vs
    vals_done o = record {
      first = s.one;
      others = s.others;
      middle = s.middle;
      is = s.is;
      read = s.read;
      reads = rw append-nil at (s.leads.found (drop k tokens) [] (reads_by 0 n (omega arith) (record { v = tt; span = no_span; is_span = refl; allowed = refl; builds = refl; fills = nothing })
          (stops_cons (keyword_class keyword.Val) value_more (drop k tokens) (missing refl o) s.ends)));
    }

-- ---- `let`

module _ {n : ℕ} {tokens : List Lexeme} {here begin : ℕ} (a : IsAt tokens here begin (OfKind (token.Keyword keyword.Let))) (front : Bool) where
  pub let_vals_refused : {r : Refusal} → ValsRefused n tokens begin r → Refused language n (of_exp (e.base front)) (drop here tokens) r
  let_vals_refused (first h) = refused_by decided 6 n (omega arith) (chosen_mark_at (choice (of_exp (e.base front))) a (λ w s us. refl)) (mark_read a (one_refused h))
  let_vals_refused (behind m v h g) = refused_by decided 6 n (omega arith) (chosen_mark_at (choice (of_exp (e.base front))) a (λ w s us. refl)) (mark_read a (one_read decided h (one_refused g)))

  module _ (mid : ℕ) {vs : List LetVal} (q : ValsRead n tokens begin mid vs) where
    pub in_missing : {r : Refusal} → Unexpected tokens mid (OfKind (token.Keyword keyword.In)) r → Refused language n (of_exp (e.base front)) (drop here tokens) r
    in_missing u = refused_by decided 6 n (omega arith) (chosen_mark_at (choice (of_exp (e.base front))) a (λ w s us. refl)) (mark_read a (one_read decided q.read (one_read decided q.reads (no_mark u))))

    module _ {from : ℕ} (b : IsAt tokens mid from (OfKind (token.Keyword keyword.In))) where
      pub let_body : {r : Refusal} → Refused language n (of_exp e.exp) (drop from tokens) r → Refused language n (of_exp (e.base front)) (drop here tokens) r
      let_body h = refused_by decided 6 n (omega arith) (chosen_mark_at (choice (of_exp (e.base front))) a (λ w s us. refl)) (mark_read a (one_read decided q.read (one_read decided q.reads (mark_read b (one_refused h)))))

      module _ (last : ℕ) {v : Ended} (h : Read language n (of_exp e.exp) (drop from tokens) (drop last tokens) v) where
        pub end_missing : {r : Refusal} → Unexpected tokens last (OfKind (token.Keyword keyword.End)) r → Refused language n (of_exp (e.base front)) (drop here tokens) r
        end_missing u = refused_by decided 6 n (omega arith) (chosen_mark_at (choice (of_exp (e.base front))) a (λ w s us. refl))
            (mark_read a (one_read decided q.read (one_read decided q.reads (mark_read b (one_read decided h (no_mark u))))))

        pub let_read : {end : ℕ} → Moves tokens here end → IsAt tokens last end (OfKind (token.Keyword keyword.End)) → Read language n (of_exp (e.base front)) (drop here tokens) (drop end tokens) (at (span_of tokens here end) (form.Let vs v.exp))
        let_read {end = end} m d = let fl = a_mark {n = n} a (an_one q.read (an_one q.reads (a_mark b (an_one h (a_mark d nothing))))) in
            reads_by 6 n (omega arith) (record {
              v = (q.first, (q.others, (v, tt)));
              span = span_of tokens here end;
              fills = fl;
              is_span = covers tokens here end m fl.taken fl.split;
              allowed = refl;
              builds = ap (λ z. at (span_of tokens here end) (form.Let z v.exp)) q.is;
            }) (ends_empty _)

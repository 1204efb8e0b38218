-- `if`, `fn` and `case`.
use Rattle.std.specs.Prelude.{◌≡◌, ℕ, Bool, true, false, ◌||◌, ◌&&◌, if◌then◌else◌, List, [], ◌∷◌, drop, refl}
use Rattle.std.proofs.Common.{◌∙◌, ap, arith}
use Rattle.ur_base.specs.declared.refusal.Refusal.{Refusal}
use Rattle.ur_lex.specs.declared.token.Keyword.TheVariants as keyword
use Rattle.ur_lex.specs.declared.token.TokenKind.TheVariants as token
use Rattle.ur_lex.specs.declared.token.Lexeme.{Lexeme}
use Rattle.ur_syntax.specs.declared.exp.Exp.{Exp}
use Rattle.ur_syntax.specs.declared.exp.ExpForm.TheVariants as form
use Rattle.ur_syntax.specs.declared.exp.LambdaParam.{LambdaParam}
use Rattle.ur_syntax.specs.declared.exp.Branch.{Branch}
use Rattle.ur_parse_rules.specs.Rules.{Read, Refused, Stops, no_span}
use Rattle.ur_parse_rules.specs.Places.{Moves, IsAt, Other, OfKind, Unexpected, span_of}
use Rattle.ur_parse_rules.proofs.Tokens.{covers}
use Rattle.ur_parse_rules.proofs.Steps.{nothing, a_mark, an_one, mark_read, one_read, one_refused, no_mark, reads_by, refused_by}
use Rattle.ur_parse_rules.proofs.Choices.{chosen_mark_at, if_false, less}
use Rattle.ur_parse_rules.specs.Classes.{member, keyword_class}
use Rattle.ur_parse_rules.specs.Ends.{operators, semicolon, line_more, exp_more, branches_more}
use Rattle.ur_parse_rules.specs.Ends as ends
use Rattle.ur_parse_rules.specs.Expressions.{at, ends_as, takes_as, closed}
use Rattle.ur_parse_rules.specs.ExpParts.{exp, line, lambda, bar, branches, left, disjunction}
use Rattle.ur_parse_rules.specs.Parts.{of_exp, Ended}
use Rattle.ur_parse_rules.specs.Language.{language}
use Rattle.ur_parse_rules.proofs.Choice.{choice}
use Rattle.ur_parse_rules.proofs.AllDecided.{decided}
use Rattle.ur_parse_rules.proofs.Places.{missing}
use Rattle.ur_parse_exp_parts.specs.Heads.{HeadRead}

module _ {n : ℕ} {tokens : List Lexeme} {here begin : ℕ} (i : IsAt tokens here begin (OfKind (token.Keyword keyword.If))) where
  pub test_refused : {r : Refusal} → Refused language n (of_exp exp) (drop begin tokens) r → Refused language n (of_exp line) (drop here tokens) r
  test_refused h = refused_by decided 0 n (omega arith) (chosen_mark_at (choice (of_exp line)) i (λ w s us. refl)) (mark_read i (one_refused h))

  module _ {mid : ℕ} {c : Ended} (f : Read language n (of_exp exp) (drop begin tokens) (drop mid tokens) c) where
    pub then_missing : {r : Refusal} → Unexpected tokens mid (OfKind (token.Keyword keyword.Then)) r → Refused language n (of_exp line) (drop here tokens) r
    then_missing u = refused_by decided 0 n (omega arith) (chosen_mark_at (choice (of_exp line)) i (λ w s us. refl)) (mark_read i (one_read decided f (no_mark u)))

    module _ {from : ℕ} (t : IsAt tokens mid from (OfKind (token.Keyword keyword.Then))) where
      pub first_refused : {r : Refusal} → Refused language n (of_exp exp) (drop from tokens) r → Refused language n (of_exp line) (drop here tokens) r
      first_refused h = refused_by decided 0 n (omega arith) (chosen_mark_at (choice (of_exp line)) i (λ w s us. refl)) (mark_read i (one_read decided f (mark_read t (one_refused h))))

      module _ {other : ℕ} {a : Ended} (g : Read language n (of_exp exp) (drop from tokens) (drop other tokens) a) where
        pub else_missing : {r : Refusal} → Unexpected tokens other (OfKind (token.Keyword keyword.Else)) r → Refused language n (of_exp line) (drop here tokens) r
        else_missing u = refused_by decided 0 n (omega arith) (chosen_mark_at (choice (of_exp line)) i (λ w s us. refl)) (mark_read i (one_read decided f (mark_read t (one_read decided g (no_mark u)))))

        module _ {last : ℕ} (e : IsAt tokens other last (OfKind (token.Keyword keyword.Else))) where
          pub second_refused : {r : Refusal} → Refused language n (of_exp line) (drop last tokens) r → Refused language n (of_exp line) (drop here tokens) r
          second_refused h = refused_by decided 0 n (omega arith) (chosen_mark_at (choice (of_exp line)) i (λ w s us. refl)) (mark_read i (one_read decided f (mark_read t (one_read decided g (mark_read e (one_refused h))))))

          pub if_read : (end : ℕ) {b : Ended} → Moves tokens here end → Read language n (of_exp line) (drop last tokens) (drop end tokens) b →
              Read language n (of_exp line) (drop here tokens) (drop end tokens) (ends_as b (at (span_of tokens here end) (form.If c.exp a.exp b.exp)))
          if_read end {b = b} o h = let fl = a_mark {n = n} i (an_one f (a_mark t (an_one g (a_mark e (an_one h nothing))))) in
              reads_by 0 n (omega arith) (record { v = (c, (a, (b, tt))); span = span_of tokens here end; fills = fl; is_span = covers tokens here end o fl.taken fl.split; allowed = refl; builds = refl }) h.stops

module _ {n : ℕ} (tokens : List Lexeme) (here : ℕ) where
  pub lambda_refused : {next : ℕ} {r : Refusal} → IsAt tokens here next (OfKind (token.Keyword keyword.Fn)) → Refused language n (of_exp lambda) (drop here tokens) r → Refused language n (of_exp line) (drop here tokens) r
  lambda_refused a h = refused_by decided 1 n (omega arith) (chosen_mark_at (choice (of_exp line)) a (λ w s us. refl)) (one_refused h)

  pub lambda_read : (end : ℕ) {c : Ended} → Read language n (of_exp lambda) (drop here tokens) (drop end tokens) c → Read language n (of_exp line) (drop here tokens) (drop end tokens) c
  lambda_read end {c = c} h = reads_by 1 n (omega arith) (record { v = (c, tt); span = no_span; is_span = refl; allowed = refl; builds = refl; fills = an_one h nothing }) h.stops

-- ---- operators

third_one : (b : Bool) → let z : ℕ = if b then 3 else 3 in z ≡ 3
third_one true = refl
third_one false = refl

plain : (ts : List Lexeme) → Stops (member (keyword_class keyword.If ∷ [])) ts → Stops (member (keyword_class keyword.Fn ∷ [])) ts → Stops (member (keyword_class keyword.Case ∷ [])) ts → choice (of_exp line) ts ≡ 3
plain [] a b c = refl
plain (t ∷ ts) a b c = if_false 0 a ∙ if_false 1 b ∙ if_false 2 c ∙ third_one _

module _ {n : ℕ} (tokens : List Lexeme) (here : ℕ) where
  pub left_refused : {r : Refusal} → Other tokens here (OfKind (token.Keyword keyword.If)) → Other tokens here (OfKind (token.Keyword keyword.Fn)) → Other tokens here (OfKind (token.Keyword keyword.Case)) → Refused language n (of_exp (left disjunction)) (drop here tokens) r →
      Refused language n (of_exp line) (drop here tokens) r
  left_refused i f c h = refused_by decided 3 n (omega arith) (plain (drop here tokens) (missing refl i) (missing refl f) (missing refl c)) (one_refused h)

nothing_taken : (o s b : Bool) → o ≡ false → (o || ((s && false) || (b && false))) ≡ false
nothing_taken true s b e = e
nothing_taken false true true e = refl
nothing_taken false true false e = refl
nothing_taken false false true e = refl
nothing_taken false false false e = refl

all_taken : (o s b : Bool) → (o || (s || b)) ≡ false → (o || ((s && true) || (b && true))) ≡ false
all_taken true s b e = e
all_taken false true b e = e
all_taken false false true e = e
all_taken false false false e = refl

semicolons_taken : (o s b u : Bool) → (o || (s || (b && u))) ≡ false → (o || ((s && true) || (b && u))) ≡ false
semicolons_taken true s b u e = e
semicolons_taken false true b u e = e
semicolons_taken false false b u e = e

module _ {n : ℕ} (tokens : List Lexeme) (here : ℕ) where
  pub left_read : (end : ℕ) {a : Exp} → Read language n (of_exp (left disjunction)) (drop here tokens) (drop end tokens) a → Read language n (of_exp line) (drop here tokens) (drop end tokens) (closed a)
  left_read end {a = a} h = reads_by 3 n (omega arith) (record { v = (a, tt); span = no_span; is_span = refl; allowed = refl; builds = refl; fills = an_one h nothing })
      (less (drop end tokens) (λ k w e. nothing_taken (member operators k w) (semicolon k w) (ends.bar k w) e) h.stops)

-- ---- `fn`

only_one : (b : Bool) → let z : ℕ = if b then 0 else 0 in z ≡ 0
only_one true = refl
only_one false = refl

single : (ts : List Lexeme) → choice (of_exp lambda) ts ≡ 0
single [] = refl
single (t ∷ ts) = only_one _

module _ {n : ℕ} {tokens : List Lexeme} {here begin : ℕ} {ps : List LambdaParam} (c : HeadRead n tokens here begin ps) where
  pub body_refused : {r : Refusal} → Refused language n (of_exp exp) (drop begin tokens) r → Refused language n (of_exp lambda) (drop here tokens) r
  body_refused h = refused_by decided 0 n (omega arith) (single (drop here tokens)) (mark_read c.lambda (one_read decided c.params.read (one_read decided c.params.reads (mark_read c.arrow (one_refused h)))))

  pub fn_read : (end : ℕ) {b : Ended} → Moves tokens here end → Read language n (of_exp exp) (drop begin tokens) (drop end tokens) b → Read language n (of_exp lambda) (drop here tokens) (drop end tokens) (takes_as b (at (span_of tokens here end) (form.Lambda ps b.exp)))
  fn_read end {b = b} m h = let f = a_mark {n = n} c.lambda (an_one c.params.read (an_one c.params.reads (a_mark c.arrow (an_one h nothing)))) in
      reads_by 0 n (omega arith) (record {
        v = (c.params.first, (c.params.others, (b, tt)));
        span = span_of tokens here end;
        fills = f;
        is_span = covers tokens here end m f.taken f.split;
        allowed = refl;
        builds = ap (λ z. takes_as b (at (span_of tokens here end) (form.Lambda z b.exp))) c.params.is;
      }) (less (drop end tokens) (λ k w e. semicolons_taken (member operators k w) (semicolon k w) (ends.bar k w) b.takes_bar e) h.stops)

-- ---- `case`

module _ {n : ℕ} {tokens : List Lexeme} {here begin : ℕ} (q : IsAt tokens here begin (OfKind (token.Keyword keyword.Case))) where
  pub scrutinee_refused : {r : Refusal} → Refused language n (of_exp exp) (drop begin tokens) r → Refused language n (of_exp line) (drop here tokens) r
  scrutinee_refused h = refused_by decided 2 n (omega arith) (chosen_mark_at (choice (of_exp line)) q (λ w s us. refl)) (mark_read q (one_refused h))

  module _ (mid : ℕ) {a : Ended} (f : Read language n (of_exp exp) (drop begin tokens) (drop mid tokens) a) where
    pub of_missing : {r : Refusal} → Unexpected tokens mid (OfKind (token.Keyword keyword.Of)) r → Refused language n (of_exp line) (drop here tokens) r
    of_missing u = refused_by decided 2 n (omega arith) (chosen_mark_at (choice (of_exp line)) q (λ w s us. refl)) (mark_read q (one_read decided f (no_mark u)))

    module _ {next : ℕ} (o : IsAt tokens mid next (OfKind (token.Keyword keyword.Of))) where
      pub bar_refused : {r : Refusal} → Refused language n (of_exp bar) (drop next tokens) r → Refused language n (of_exp line) (drop here tokens) r
      bar_refused h = refused_by decided 2 n (omega arith) (chosen_mark_at (choice (of_exp line)) q (λ w s us. refl)) (mark_read q (one_read decided f (mark_read o (one_refused h))))

      module _ (first : ℕ) (b : Read language n (of_exp bar) (drop next tokens) (drop first tokens) tt) where
        pub branches_refused : {r : Refusal} → Refused language n (of_exp branches) (drop first tokens) r → Refused language n (of_exp line) (drop here tokens) r
        branches_refused h = refused_by decided 2 n (omega arith) (chosen_mark_at (choice (of_exp line)) q (λ w s us. refl)) (mark_read q (one_read decided f (mark_read o (one_read decided b (one_refused h)))))

        pub case_read : (end : ℕ) {bs : List Branch} → Moves tokens here end → Read language n (of_exp branches) (drop first tokens) (drop end tokens) bs →
            let c : Ended = record { exp = at (span_of tokens here end) (form.Case a.exp bs); takes_semicolon = true; takes_bar = true } in Read language n (of_exp line) (drop here tokens) (drop end tokens) c
        case_read end {bs = bs} m h = let fl = a_mark {n = n} q (an_one f (a_mark o (an_one b (an_one h nothing)))) in
            reads_by 2 n (omega arith) (record { v = (a, (tt, (bs, tt))); span = span_of tokens here end; fills = fl; is_span = covers tokens here end m fl.taken fl.split; allowed = refl; builds = refl })
            (less (drop end tokens) (λ k w e. all_taken (member operators k w) (semicolon k w) (ends.bar k w) e) h.stops)

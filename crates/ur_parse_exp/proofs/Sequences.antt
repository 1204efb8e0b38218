-- Statements.
use Rattle.std.specs.Prelude.{◌≡◌, ◌+◌, ℕ, Bool, true, false, not, ◌||◌, ◌&&◌, List, [], ◌∷◌, drop, Some, None, refl}
use Rattle.std.proofs.Common.{sym, ◌∙◌, ap, arith}
use Rattle.ur_base.specs.declared.refusal.Refusal.{Refusal}
use Rattle.ur_base.specs.Stopping.{Says}
use Rattle.ur_lex.specs.declared.token.Symbol.TheVariants as symbol
use Rattle.ur_lex.specs.declared.token.TokenKind.TheVariants as token
use Rattle.ur_lex.specs.declared.token.Lexeme.{Lexeme}
use Rattle.ur_syntax.specs.declared.exp.ExpForm.TheVariants as form
use Rattle.ur_syntax.specs.declared.exp.Binder.{Binder}
use Rattle.ur_syntax.specs.declared.exp.Binder.TheVariants as binders
use Rattle.ur_parse_rules.specs.Rules.{Read, Refused, Stops, no_span}
use Rattle.ur_parse_rules.specs.Places.{Moves, IsAt, Other, OfKind, Unexpected, span_of, starts}
use Rattle.ur_parse_rules.proofs.Tokens.{covers}
use Rattle.ur_parse_rules.proofs.Steps.{nothing, a_mark, a_name, an_one, mark_read, name_read, one_read, one_refused, no_mark, reads_by, refused_by}
use Rattle.ur_parse_rules.proofs.Choices.{chosen_mark_at, if_false, starts_at}
use Rattle.ur_parse_rules.specs.Classes.{member, symbol_class, all_of}
use Rattle.ur_parse_rules.specs.Ends.{symbols, operators, line_more, exp_more}
use Rattle.ur_parse_rules.specs.Ends as ends
use Rattle.ur_parse_rules.specs.Expressions.{at, ends_as}
use Rattle.ur_parse_rules.specs.ExpParts.{exp, rest, line}
use Rattle.ur_parse_rules.specs.Parts.{of_exp, Ended}
use Rattle.ur_parse_rules.specs.Language.{language}
use Rattle.ur_parse_rules.proofs.Choice.{choice}
use Rattle.ur_parse_rules.proofs.AllDecided.{decided}
use Rattle.ur_parse_rules.proofs.Tests.{false_true}
use Rattle.ur_parse_rules.proofs.Places.{missing, stops_cons}
use Rattle.ur_parse_con.proofs.Binders.{cannot_end}
use Rattle.ur_parse_exp_parts.specs.Bindings.{Binds, BindsNone, nameless, arrowless}
use Rattle.ur_parse_exp_parts.proofs.Bindings.{binds_name}

-- ---- an expression before `;`

alone_false : (a : Bool) → (a || false) ≡ false → a ≡ false
alone_false true e = e
alone_false false e = refl

-- what takes a `;` does not stand before one
not_taken : (a : Ended) (tokens : List Lexeme) (i next : ℕ) → Stops (line_more a) (drop i tokens) → IsAt tokens i next (OfKind (token.Symbol symbol.Semicolon)) → a.takes_semicolon ≡ false
not_taken a tokens i next s q = let z : Stops (line_more a) (q.t ∷ drop (i + 1) tokens) = rw q.at.split at s in
    let k : line_more a (token.Symbol symbol.Semicolon) q.t.content ≡ false = rw q.is at z in alone_false a.takes_semicolon k

may : (a : Ended) → a.takes_semicolon ≡ false → not a.takes_semicolon ≡ true
may a e = rw e refl

module _ (m : ℕ) {n : ℕ} (e : 1 + m ≡ n) (tokens : List Lexeme) (here begin : ℕ) where
  -- ---- `binder <-`

  pub first_refused : (b : Binder) {r : Refusal} → Binds tokens here begin b → Refused language m (of_exp line) (drop begin tokens) r → Refused language n (of_exp exp) (drop here tokens) r
  first_refused binders.Ignored q h = refused_by decided 0 m e (chosen_mark_at (choice (of_exp exp)) q.1 (λ w s us. refl)) (mark_read q.1 (mark_read q.2 (one_refused h)))
  first_refused (binders.Named x) q h = refused_by decided 1 m e (binds_name q.1 q.2) (name_read q.1 (mark_read q.2 (one_refused h)))

  module _ {mid : ℕ} {a : Ended} (f : Read language m (of_exp line) (drop begin tokens) (drop mid tokens) a) where
    pub semicolon_missing : (b : Binder) {r : Refusal} → Binds tokens here begin b → Unexpected tokens mid (OfKind (token.Symbol symbol.Semicolon)) r → Refused language n (of_exp exp) (drop here tokens) r
    semicolon_missing binders.Ignored q u = refused_by decided 0 m e (chosen_mark_at (choice (of_exp exp)) q.1 (λ w s us. refl)) (mark_read q.1 (mark_read q.2 (one_read decided f (no_mark u))))
    semicolon_missing (binders.Named x) q u = refused_by decided 1 m e (binds_name q.1 q.2) (name_read q.1 (mark_read q.2 (one_read decided f (no_mark u))))

    module _ {next : ℕ} (s : IsAt tokens mid next (OfKind (token.Symbol symbol.Semicolon))) where
      pub second_refused : (b : Binder) {r : Refusal} → Binds tokens here begin b → Refused language m (of_exp exp) (drop next tokens) r → Refused language n (of_exp exp) (drop here tokens) r
      second_refused binders.Ignored q h = refused_by decided 0 m e (chosen_mark_at (choice (of_exp exp)) q.1 (λ w s us. refl)) (mark_read q.1 (mark_read q.2 (one_read decided f (mark_read s (one_refused h)))))
      second_refused (binders.Named x) q h = refused_by decided 1 m e (binds_name q.1 q.2) (name_read q.1 (mark_read q.2 (one_read decided f (mark_read s (one_refused h)))))

      pub bind_read : (b : Binder) (end : ℕ) {c : Ended} → Binds tokens here begin b → Moves tokens here end → Read language m (of_exp exp) (drop next tokens) (drop end tokens) c →
          Read language n (of_exp exp) (drop here tokens) (drop end tokens) (ends_as c (at (span_of tokens here end) (form.Bind b a.exp c.exp)))
      bind_read binders.Ignored end {c = c} q o h = let fl = a_mark {n = m} q.1 (a_mark q.2 (an_one f (a_mark s (an_one h nothing)))) in
          reads_by 0 m (omega (arith, e)) (record { v = (a, (c, tt)); span = span_of tokens here end; fills = fl; is_span = covers tokens here end o fl.taken fl.split; allowed = may a (not_taken a tokens mid next f.stops s); builds = refl }) h.stops
      bind_read (binders.Named x) end {c = c} q o h = let fl = a_name {n = m} q.1 (a_mark q.2 (an_one f (a_mark s (an_one h nothing)))) in
          reads_by 1 m (omega (arith, e)) (record { v = (x, (a, (c, tt))); span = span_of tokens here end; fills = fl; is_span = covers tokens here end o fl.taken fl.split; allowed = may a (not_taken a tokens mid next f.stops s); builds = refl }) h.stops

-- ---- no binder

and_none : (a b : Bool) → b ≡ false → (a && b) ≡ false
and_none true b e = e
and_none false b e = refl

none_and : (a b : Bool) → a ≡ false → (a && b) ≡ false
none_and true b e = false_true (sym e)
none_and false b e = refl

starts_none : (ts : List Lexeme) → Stops (member (symbol_class symbol.LeftArrow ∷ [])) ts → starts (member (symbol_class symbol.LeftArrow ∷ [])) ts ≡ false
starts_none [] s = refl
starts_none (t ∷ ts) s = s

unbound : (ts : List Lexeme) → Stops (member (symbol_class symbol.Underscore ∷ [])) ts → Stops (member (all_of token.Lower ∷ [])) ts → choice (of_exp exp) ts ≡ 2
unbound [] u s = refl
unbound (t ∷ ts) u s = if_false 1 (none_and (member (all_of token.Lower ∷ []) t.kind t.content) (starts (member (symbol_class symbol.LeftArrow ∷ [])) ts) s) ∙ if_false 0 u

unarrowed : (t : Lexeme) (ts : List Lexeme) → Stops (member (symbol_class symbol.Underscore ∷ [])) (t ∷ ts) → Stops (member (symbol_class symbol.LeftArrow ∷ [])) ts → choice (of_exp exp) (t ∷ ts) ≡ 2
unarrowed t ts u s = if_false 1 (and_none (member (all_of token.Lower ∷ []) t.kind t.content) (starts (member (symbol_class symbol.LeftArrow ∷ [])) ts) (starts_none ts s)) ∙ if_false 0 u

arrow_free : (tokens : List Lexeme) (i : ℕ) (a : IsAt tokens i (i + 1) (OfKind token.Lower)) → Other tokens i (OfKind (token.Symbol symbol.Underscore)) → Other tokens (i + 1) (OfKind (token.Symbol symbol.LeftArrow)) → choice (of_exp exp) (drop i tokens) ≡ 2
arrow_free tokens i a u o = let s : drop i tokens ≡ a.t ∷ drop (i + 1) tokens = a.at.split in let z : Stops (member (symbol_class symbol.Underscore ∷ [])) (a.t ∷ drop (i + 1) tokens) = rw s at (missing refl u) in
    ap (choice (of_exp exp)) s ∙ unarrowed a.t (drop (i + 1) tokens) z (missing refl o)

free : {tokens : List Lexeme} {i : ℕ} → BindsNone tokens i → choice (of_exp exp) (drop i tokens) ≡ 2
free {tokens = tokens} {i = i} (nameless u l) = unbound (drop i tokens) (missing refl u) (missing refl l)
free {tokens = tokens} {i = i} (arrowless u a o) = arrow_free tokens i a u o

unfollowed : (ts : List Lexeme) → Stops (member (symbol_class symbol.Semicolon ∷ [])) ts → choice (of_exp rest) ts ≡ 0
unfollowed [] s = refl
unfollowed (t ∷ ts) s = if_false 1 s

unchanged : (p s x b y : Bool) → (p || ((s && x) || (b && y))) ≡ false → s ≡ false → (p || (s || (b && y))) ≡ false
unchanged true s x b y e f = e
unchanged false true x b y e f = false_true (sym f)
unchanged false false x b y e f = e

-- behind an expression that is no statement, where neither `;` nor `<-` stands
ends_line : (a : Ended) (ts : List Lexeme) → Stops (line_more a) ts → Stops ends.semicolon ts → Stops (exp_more a) ts
ends_line a [] s u = tt
ends_line a (t ∷ ts) s u = unchanged (member operators t.kind t.content) (ends.semicolon t.kind t.content) a.takes_semicolon (ends.bar t.kind t.content) a.takes_bar s u

module _ (m : ℕ) {n : ℕ} (e : 1 + m ≡ n) {tokens : List Lexeme} {here : ℕ} (o : BindsNone tokens here) where
  pub line_refused : {r : Refusal} → Refused language m (of_exp line) (drop here tokens) r → Refused language n (of_exp exp) (drop here tokens) r
  line_refused h = refused_by decided 2 m e (free o) (one_refused h)

  module _ {mid : ℕ} {a : Ended} (f : Read language m (of_exp line) (drop here tokens) (drop mid tokens) a) where
    pub next_refused : {next : ℕ} {r : Refusal} → IsAt tokens mid next (OfKind (token.Symbol symbol.Semicolon)) → Refused language m (of_exp exp) (drop next tokens) r → Refused language n (of_exp exp) (drop here tokens) r
    next_refused s h = refused_by decided 2 m e (free o) (one_read decided f (one_refused (refused_by decided 1 m (omega arith) (chosen_mark_at (choice (of_exp rest)) s (λ w s us. refl)) (mark_read s (one_refused h)))))

    pub arrow_behind : {next : ℕ} {r : Refusal} → Says r 5 [] [] → Other tokens mid (OfKind (token.Symbol symbol.Semicolon)) → IsAt tokens mid next (OfKind (token.Symbol symbol.LeftArrow)) → Refused language n (of_exp exp) (drop here tokens) r
    arrow_behind says s q = refused_by decided 2 m e (free o) (one_read decided f (one_refused (refused_by decided 0 m (omega arith) (unfollowed (drop mid tokens) (missing refl s))
        (cannot_end (symbols (symbol.Semicolon ∷ symbol.LeftArrow ∷ [])) says (starts_at (member (symbols (symbol.Semicolon ∷ symbol.LeftArrow ∷ []))) q (λ w. refl)) (λ p. p.stops)))))

module _ (m : ℕ) {n : ℕ} (e : 1 + m ≡ n) {tokens : List Lexeme} {here mid : ℕ} {a : Ended} (f : Read language m (of_exp line) (drop here tokens) (drop mid tokens) a) where
  pub sequence_read : {next : ℕ} (end : ℕ) {c : Ended} → Moves tokens here end → IsAt tokens mid next (OfKind (token.Symbol symbol.Semicolon)) → Read language m (of_exp exp) (drop next tokens) (drop end tokens) c →
      Read language n (of_exp exp) (drop here tokens) (drop end tokens) (ends_as c (at (span_of tokens here end) (form.Seq a.exp c.exp)))
  sequence_read {next = next} end {c = c} o s h = let t : Read language m (of_exp rest) (drop mid tokens) (drop end tokens) (Some c) = reads_by 1 m (omega arith)
      (record { v = (c, tt); span = no_span; is_span = refl; allowed = refl; builds = refl; fills = a_mark s (an_one h nothing) }) h.stops in
      let fl = an_one {n = m} f (an_one t nothing) in
      reads_by 2 m (omega (arith, e)) (record { v = (a, (Some c, tt)); span = span_of tokens here end; fills = fl; is_span = covers tokens here end o fl.taken fl.split; allowed = may a (not_taken a tokens mid next f.stops s); builds = refl }) h.stops

  pub alone_read : Moves tokens here mid → Other tokens mid (OfKind (token.Symbol symbol.Semicolon)) → Other tokens mid (OfKind (token.Symbol symbol.LeftArrow)) → Read language n (of_exp exp) (drop here tokens) (drop mid tokens) a
  alone_read o s q = let u : Stops ends.semicolon (drop mid tokens) = stops_cons (symbol_class symbol.Semicolon) (symbol_class symbol.LeftArrow ∷ []) (drop mid tokens) (missing refl s) (missing refl q) in
      let t : Read language m (of_exp rest) (drop mid tokens) (drop mid tokens) None = reads_by 0 m (omega arith) (record { v = tt; span = no_span; is_span = refl; allowed = refl; builds = refl; fills = nothing }) u in
      let fl = an_one {n = m} f (an_one t nothing) in
      reads_by 2 m (omega (arith, e)) (record { v = (a, (None, tt)); span = span_of tokens here mid; fills = fl; is_span = covers tokens here mid o fl.taken fl.split; allowed = refl; builds = refl }) (ends_line a (drop mid tokens) f.stops u)

-- Expressions with `::` between are read in a loop, and unary minus.
use Rattle.std.specs.Prelude.{◌≡◌, ◌<◌, ℕ, Bool, true, false, if◌then◌else◌, List, [], ◌∷◌, ◌++◌, drop, Some, None, refl}
use Rattle.std.proofs.Common.{sym, ◌∙◌, subst, arith}
use Rattle.ur_base.specs.declared.refusal.Refusal.{Refusal}
use Rattle.ur_lex.specs.declared.token.Symbol.TheVariants as symbol
use Rattle.ur_lex.specs.declared.token.TokenKind.TheVariants as token
use Rattle.ur_lex.specs.declared.token.Lexeme.{Lexeme}
use Rattle.ur_syntax.specs.declared.exp.Exp.{Exp}
use Rattle.ur_syntax.specs.declared.exp.ExpForm.TheVariants as form
use Rattle.ur_syntax.specs.declared.exp.Binary.TheVariants as op
use Rattle.ur_parse_rules.specs.Rules.{Read, Refused, Stops, no_span}
use Rattle.ur_parse_rules.specs.Places.{Moves, IsAt, Other, OfKind, span_of}
use Rattle.ur_parse_rules.proofs.Tokens.{covers}
use Rattle.ur_parse_rules.proofs.Steps.{nothing, a_mark, an_one, mark_read, one_read, one_refused, reads_by, refused_by}
use Rattle.ur_parse_rules.proofs.Choices.{chosen_mark_at, if_false}
use Rattle.ur_parse_rules.specs.Classes.{member, symbol_class}
use Rattle.ur_parse_rules.specs.Ends.{append_more}
use Rattle.ur_parse_rules.specs.Forms.{up_to}
use Rattle.ur_parse_rules.specs.Expressions.{at}
use Rattle.ur_parse_rules.specs.ExpParts.{left, append, cons, cons_tail, negative, app}
use Rattle.ur_parse_rules.specs.Parts.{of_exp}
use Rattle.ur_parse_rules.specs.Language.{language}
use Rattle.ur_parse_rules.proofs.Choice.{choice}
use Rattle.ur_parse_rules.proofs.AllDecided.{decided}
use Rattle.ur_parse_rules.proofs.Places.{missing, stops_cons, span_join}
use Rattle.ur_parse_exp_parts.specs.declared.list.Piece.{Piece}
use Rattle.ur_parse_exp_parts.specs.Lists.{listed}
use Rattle.ur_parse_exp_parts.proofs.Joined.{listed-push, listed-from}

only_one : (b : Bool) → let z : ℕ = if b then 0 else 0 in z ≡ 0
only_one true = refl
only_one false = refl

single : (ts : List Lexeme) → choice (of_exp cons) ts ≡ 0
single [] = refl
single (t ∷ ts) = only_one _

-- what is read so far
pub record ConsChain (n : ℕ) (tokens : List Lexeme) (here begin : ℕ) (before : List Piece) : Type 0 where
  pub found : (e : ℕ) (c : Exp) → Moves tokens begin e → Read language n (of_exp cons) (drop begin tokens) (drop e tokens) c → Read language n (of_exp cons) (drop here tokens) (drop e tokens) (listed before (span_of tokens begin e) c)
  pub refused : (r : Refusal) → Refused language n (of_exp cons) (drop begin tokens) r → Refused language n (of_exp cons) (drop here tokens) r

pub cons_start : {n : ℕ} {tokens : List Lexeme} {here : ℕ} → ConsChain n tokens here here []
cons_start = record { found = λ e c m r. r; refused = λ r h. h }

module _ {n : ℕ} (tokens : List Lexeme) where
  pub cons_first : (begin : ℕ) {r : Refusal} → Refused language n (of_exp (left append)) (drop begin tokens) r → Refused language n (of_exp cons) (drop begin tokens) r
  cons_first begin h = refused_by decided 0 n (omega arith) (single (drop begin tokens)) (one_refused h)

  link_found : (begin end next e : ℕ) {k c : Exp} → Moves tokens begin end → Read language n (of_exp (left append)) (drop begin tokens) (drop end tokens) k → IsAt tokens end next (OfKind (token.Symbol symbol.DoubleColon)) → Moves tokens next e →
      Read language n (of_exp cons) (drop next tokens) (drop e tokens) c → Read language n (of_exp cons) (drop begin tokens) (drop e tokens) (at (span_of tokens begin e) (form.Binary op.Cons k c))
  link_found begin end next e {k = k} {c = c} m r a me h = let tail : Read language n (of_exp cons_tail) (drop end tokens) (drop e tokens) (Some c) = reads_by 1 n (omega arith)
      (record { v = (c, tt); span = no_span; is_span = refl; allowed = refl; builds = refl; fills = a_mark a (an_one h nothing) }) h.stops in
      let f = an_one {n = n} r (an_one tail nothing) in let o = m.on in let x = a.next in let o' = me.on in
      reads_by 0 n (omega arith) (record { v = (k, (Some c, tt)); span = span_of tokens begin e; fills = f; is_span = covers tokens begin e (record { on = omega (arith, o, x, o'); within = me.within }) f.taken f.split; allowed = refl; builds = refl }) h.stops

  pub link_refused : (begin : ℕ) {end next : ℕ} {k : Exp} {r : Refusal} → Read language n (of_exp (left append)) (drop begin tokens) (drop end tokens) k → IsAt tokens end next (OfKind (token.Symbol symbol.DoubleColon)) → Refused language n (of_exp cons) (drop next tokens) r →
      Refused language n (of_exp cons) (drop begin tokens) r
  link_refused begin r a h = refused_by decided 0 n (omega arith) (single (drop begin tokens)) (one_read decided r (one_refused
      (refused_by decided 1 n (omega arith) (chosen_mark_at (choice (of_exp cons_tail)) a (λ w s us. refl)) (mark_read a (one_refused h)))))

  pub cons_more : {here begin end next : ℕ} {before : List Piece} {k : Exp} → Moves tokens begin end → begin < next → ConsChain n tokens here begin before → Read language n (of_exp (left append)) (drop begin tokens) (drop end tokens) k →
      IsAt tokens end next (OfKind (token.Symbol symbol.DoubleColon)) → let x : Piece = record { span = span_of tokens begin end; exp = k } in ConsChain n tokens here next (before ++ x ∷ [])
  cons_more {here = here} {begin = begin} {end = end} {next = next} {before = before} {k = k} m lt c r a = let x : Piece = record { span = span_of tokens begin end; exp = k } in record {
    found = λ e y my h. let o = my.on in let me : Moves tokens begin e = record { on = omega (arith, lt, o); within = my.within } in
        let s : span_of tokens begin e ≡ up_to x.span (span_of tokens next e) = span_join tokens begin end next e m my (omega (arith, lt, o)) in
        let z : Exp = at (span_of tokens begin e) (form.Binary op.Cons k y) in
        let g : Read language n (of_exp cons) (drop here tokens) (drop e tokens) (listed before (span_of tokens begin e) z) = c.found e z me (link_found begin end next e m r a my h) in
        let g' : Read language n (of_exp cons) (drop here tokens) (drop e tokens) (listed before (up_to x.span (span_of tokens next e)) (at (up_to x.span (span_of tokens next e)) (form.Binary op.Cons k y))) =
        subst (λ u. Read language n (of_exp cons) (drop here tokens) (drop e tokens) (listed before u (at u (form.Binary op.Cons k y)))) s g in
        subst (λ u. Read language n (of_exp cons) (drop here tokens) (drop e tokens) u) (listed-from before x.span (span_of tokens next e) _ ∙ sym (listed-push before x (span_of tokens next e) y)) g';
    refused = λ ref h. c.refused ref (link_refused begin r a h);
  }

  -- one alone
  cons_one : (begin end : ℕ) {k : Exp} → Moves tokens begin end → Read language n (of_exp (left append)) (drop begin tokens) (drop end tokens) k → Other tokens end (OfKind (token.Symbol symbol.DoubleColon)) → Read language n (of_exp cons) (drop begin tokens) (drop end tokens) k
  cons_one begin end {k = k} m r o = let s = stops_cons (symbol_class symbol.DoubleColon) append_more (drop end tokens) (missing refl o) r.stops in
      let tail : Read language n (of_exp cons_tail) (drop end tokens) (drop end tokens) None = reads_by 0 n (omega arith) (record { v = tt; span = no_span; is_span = refl; allowed = refl; builds = refl; fills = nothing }) s in
      let f = an_one {n = n} r (an_one tail nothing) in
      reads_by 0 n (omega arith) (record { v = (k, (None, tt)); span = span_of tokens begin end; fills = f; is_span = covers tokens begin end m f.taken f.split; allowed = refl; builds = refl }) s

  pub cons_done : {here begin end : ℕ} {before : List Piece} {k : Exp} → Moves tokens begin end → ConsChain n tokens here begin before → Read language n (of_exp (left append)) (drop begin tokens) (drop end tokens) k →
      Other tokens end (OfKind (token.Symbol symbol.DoubleColon)) → Read language n (of_exp cons) (drop here tokens) (drop end tokens) (listed before (span_of tokens begin end) k)
  cons_done {begin = begin} {end = end} {k = k} m c r o = c.found end k m (cons_one begin end m r o)

-- ---- unary minus

second_one : (b : Bool) → let z : ℕ = if b then 1 else 1 in z ≡ 1
second_one true = refl
second_one false = refl

unsigned : (ts : List Lexeme) → Stops (member (symbol_class symbol.Minus ∷ [])) ts → choice (of_exp negative) ts ≡ 1
unsigned [] s = refl
unsigned (t ∷ ts) s = if_false 0 s ∙ second_one _

module _ {n : ℕ} (tokens : List Lexeme) (here : ℕ) where
  pub minus_refused : {next : ℕ} {r : Refusal} → IsAt tokens here next (OfKind (token.Symbol symbol.Minus)) → Refused language n (of_exp negative) (drop next tokens) r → Refused language n (of_exp negative) (drop here tokens) r
  minus_refused a h = refused_by decided 0 n (omega arith) (chosen_mark_at (choice (of_exp negative)) a (λ w s us. refl)) (mark_read a (one_refused h))

  pub minus_read : {next : ℕ} (end : ℕ) {c : Exp} → Moves tokens here end → IsAt tokens here next (OfKind (token.Symbol symbol.Minus)) → Read language n (of_exp negative) (drop next tokens) (drop end tokens) c →
      Read language n (of_exp negative) (drop here tokens) (drop end tokens) (at (span_of tokens here end) (form.Negative c))
  minus_read end {c = c} m a h = let f = a_mark {n = n} a (an_one h nothing) in
      reads_by 0 n (omega arith) (record { v = (c, tt); span = span_of tokens here end; fills = f; is_span = covers tokens here end m f.taken f.split; allowed = refl; builds = refl }) h.stops

  pub plain_refused : {r : Refusal} → Other tokens here (OfKind (token.Symbol symbol.Minus)) → Refused language n (of_exp app) (drop here tokens) r → Refused language n (of_exp negative) (drop here tokens) r
  plain_refused o h = refused_by decided 1 n (omega arith) (unsigned (drop here tokens) (missing refl o)) (one_refused h)

  pub plain_read : (end : ℕ) {c : Exp} → Read language n (of_exp app) (drop here tokens) (drop end tokens) c → Read language n (of_exp negative) (drop here tokens) (drop end tokens) c
  plain_read end {c = c} h = reads_by 1 n (omega arith) (record { v = (c, tt); span = no_span; is_span = refl; allowed = refl; builds = refl; fills = an_one h nothing }) h.stops

-- Operands of a level are read in a loop.
use Rattle.std.specs.Prelude.{◌≡◌, ◌<◌, ◌+◌, ℕ, Bool, true, false, if◌then◌else◌, List, [], ◌∷◌, ◌++◌, drop, codes, Option, Some, None, refl}
use Rattle.std.proofs.Common.{sym, ◌∙◌, ap, arith, append_assoc}
use Rattle.std.proofs.lemmas.List.{append-nil}
use Rattle.ur_base.specs.declared.refusal.Span.{Span}
use Rattle.ur_base.specs.declared.refusal.Refusal.{Refusal}
use Rattle.ur_lex.specs.declared.token.Symbol.TheVariants as symbol
use Rattle.ur_lex.specs.declared.token.TokenKind.TheVariants as token
use Rattle.ur_lex.specs.declared.token.Lexeme.{Lexeme}
use Rattle.ur_syntax.specs.declared.sql.SqlExp.{SqlExp}
use Rattle.ur_syntax.specs.declared.sql.SqlBinary.{SqlBinary}
use Rattle.ur_syntax.specs.declared.sql.SqlBinary.TheVariants as op
use Rattle.ur_parse_rules.specs.Rules.{Read, Refused, Stops, no_span}
use Rattle.ur_parse_rules.specs.Places.{Moves, span_of, At}
use Rattle.ur_parse_rules.proofs.Tokens.{covers}
use Rattle.ur_parse_rules.proofs.Steps.{Leads, leads_here, nothing, a_mark, a_word, an_one, mark_read, word_read, one_read, one_refused, reads_by, refused_by}
use Rattle.ur_parse_rules.proofs.Choices.{chosen_mark_at, chosen_word_at}
use Rattle.ur_parse_rules.specs.Classes.{member, all_of, word_class}
use Rattle.ur_parse_rules.specs.Quoted.{Quoted, Raw, raw, both}
use Rattle.ur_parse_rules.specs.SqlParts as s
use Rattle.ur_parse_rules.specs.Parts.{of_sql, SqlStep}
use Rattle.ur_parse_rules.specs.Forms.{up_to}
use Rattle.ur_parse_rules.specs.SqlExpressions.{sided, grouped}
use Rattle.ur_parse_rules.specs.Ends.{sql_level, sql_operand, sql_atom, sql_product, sql_comparison, sql_conjunction}
use Rattle.ur_parse_rules.specs.Language.{language}
use Rattle.ur_parse_rules.proofs.Choice.{choice}
use Rattle.ur_parse_rules.proofs.AllDecided.{decided}
use Rattle.ur_parse_rules.proofs.Places.{missing, stops_cons, span_join}
use Rattle.ur_parse_embed_code.specs.declared.quotes.Quotes.{Quotes}
use Rattle.ur_parse_embed_code.specs.Quotes.{Numbered, Makes}
use Rattle.ur_parse_embed_code.proofs.Numbering.{numbered_both}
use Rattle.ur_parse_embed.specs.declared.made.Level.{Level}
use Rattle.ur_parse_embed.specs.declared.made.Level.TheVariants as levels
use Rattle.ur_parse_embed.specs.Levels.{level_of}
use Rattle.ur_parse_embed.specs.Signs.{IsOperator, NoOperator, Operates}
use Rattle.ur_parse_embed.proofs.Words.{no_word}

-- ---- trees

grouped-push : (b : Span) (a : Quoted Raw SqlExp) (ts : List (SqlStep Raw)) (t : SqlStep Raw) → grouped b a (ts ++ t ∷ []) ≡ both (sided (up_to b t.span) t.op) (grouped b a ts) t.right
grouped-push b a [] t = refl
grouped-push b a (u ∷ ts) t = grouped-push b (both (sided (up_to b u.span) u.op) a u.right) ts t

grouped-begin : (b b' : Span) (a : Quoted Raw SqlExp) (ts : List (SqlStep Raw)) → b.file ≡ b'.file → b.from ≡ b'.from → grouped b a ts ≡ grouped b' a ts
grouped-begin b b' a [] e f = refl
grouped-begin b b' a (t ∷ ts) e f = grouped-begin b b' (both (sided (up_to b t.span) t.op) a t.right) ts e f ∙ ap (λ z. grouped b' (both (sided z t.op) a t.right) ts)
    (ap (λ z. let s : Span = record { file = z; from = b.from; to = t.span.to } in s) e ∙ ap (λ z. let s : Span = record { file = b'.file; from = z; to = t.span.to } in s) f)

-- ---- a step

pub operator_place : (tokens : List Lexeme) (i : ℕ) (l : Level) (o : SqlBinary) → IsOperator tokens i l o → (t : Lexeme) × At tokens i t
operator_place tokens i levels.Disjunction op.Or a = (a.t, a.at)
operator_place tokens i levels.Conjunction op.And a = (a.t, a.at)
operator_place tokens i levels.Sum op.Add a = (a.t, a.at)
operator_place tokens i levels.Sum op.Sub a = (a.t, a.at)
operator_place tokens i levels.Product op.Mul a = (a.t, a.at)
operator_place tokens i levels.Disjunction _ a = absurd a
operator_place tokens i levels.Conjunction _ a = absurd a
operator_place tokens i levels.Sum _ a = absurd a
operator_place tokens i levels.Product _ a = absurd a

abbrev step_of : Span → SqlBinary → Quoted Raw SqlExp → SqlStep Raw
step_of span o x = record { span = span; op = o; right = x }

pub no_operator : (tokens : List Lexeme) (i : ℕ) (l : Level) (o : Option SqlBinary) → ((x : SqlBinary) → o ≡ Some x → ⊥) → Operates tokens i l o → NoOperator tokens i l
no_operator tokens i l None f h = h
no_operator tokens i l (Some x) f h = absurd (f x refl)

module _ {n : ℕ} {bare : Bool} (tokens : List Lexeme) (i j : ℕ) where
  step_read : (l : Level) (o : SqlBinary) {x : Quoted Raw SqlExp} → IsOperator tokens i l o → Moves tokens i j → Read language n (of_sql raw (s.operand bare (level_of l))) (drop (i + 1) tokens) (drop j tokens) x →
      Read language n (of_sql raw (s.left_step bare (level_of l))) (drop i tokens) (drop j tokens) (step_of (span_of tokens i j) o x)
  step_read levels.Disjunction op.Or {x = x} a m r = let f = a_word {n = n} a (an_one r nothing) in reads_by 0 n (omega arith) (record { v = (x, tt); span = span_of tokens i j; fills = f; is_span = covers tokens i j m f.taken f.split; allowed = refl; builds = refl }) r.stops
  step_read levels.Conjunction op.And {x = x} a m r = let f = a_word {n = n} a (an_one r nothing) in reads_by 0 n (omega arith) (record { v = (x, tt); span = span_of tokens i j; fills = f; is_span = covers tokens i j m f.taken f.split; allowed = refl; builds = refl }) r.stops
  step_read levels.Sum op.Add {x = x} a m r = let f = a_mark {n = n} a (an_one r nothing) in reads_by 0 n (omega arith) (record { v = (x, tt); span = span_of tokens i j; fills = f; is_span = covers tokens i j m f.taken f.split; allowed = refl; builds = refl }) r.stops
  step_read levels.Sum op.Sub {x = x} a m r = let f = a_mark {n = n} a (an_one r nothing) in reads_by 1 n (omega arith) (record { v = (x, tt); span = span_of tokens i j; fills = f; is_span = covers tokens i j m f.taken f.split; allowed = refl; builds = refl }) r.stops
  step_read levels.Product op.Mul {x = x} a m r = let f = a_mark {n = n} a (an_one r nothing) in reads_by 0 n (omega arith) (record { v = (x, tt); span = span_of tokens i j; fills = f; is_span = covers tokens i j m f.taken f.split; allowed = refl; builds = refl }) r.stops
  step_read levels.Disjunction _ a m r = absurd a
  step_read levels.Conjunction _ a m r = absurd a
  step_read levels.Sum _ a m r = absurd a
  step_read levels.Product _ a m r = absurd a

module _ {n : ℕ} {bare : Bool} (tokens : List Lexeme) (i : ℕ) where
  step_refused : (l : Level) (o : SqlBinary) {r : Refusal} → IsOperator tokens i l o → Refused language n (of_sql raw (s.operand bare (level_of l))) (drop (i + 1) tokens) r → Refused language n (of_sql raw (s.left_step bare (level_of l))) (drop i tokens) r
  step_refused levels.Disjunction op.Or a h = refused_by decided 0 n (omega arith) (chosen_word_at (choice (of_sql raw (s.left_step bare s.disjunction))) a (λ p us. refl)) (word_read a (one_refused h))
  step_refused levels.Conjunction op.And a h = refused_by decided 0 n (omega arith) (chosen_word_at (choice (of_sql raw (s.left_step bare s.conjunction))) a (λ p us. refl)) (word_read a (one_refused h))
  step_refused levels.Sum op.Add a h = refused_by decided 0 n (omega arith) (chosen_mark_at (choice (of_sql raw (s.left_step bare s.sum))) a (λ w p us. refl)) (mark_read a (one_refused h))
  step_refused levels.Sum op.Sub a h = refused_by decided 1 n (omega arith) (chosen_mark_at (choice (of_sql raw (s.left_step bare s.sum))) a (λ w p us. refl)) (mark_read a (one_refused h))
  step_refused levels.Product op.Mul a h = refused_by decided 0 n (omega arith) (chosen_mark_at (choice (of_sql raw (s.left_step bare s.product))) a (λ w p us. refl)) (mark_read a (one_refused h))
  step_refused levels.Disjunction _ a h = absurd a
  step_refused levels.Conjunction _ a h = absurd a
  step_refused levels.Sum _ a h = absurd a
  step_refused levels.Product _ a h = absurd a

-- where an operator stands the tail has a step
tail_chosen : (bare : Bool) (tokens : List Lexeme) (i : ℕ) (l : Level) (o : SqlBinary) → IsOperator tokens i l o → choice (of_sql raw (s.left_tail bare (level_of l))) (drop i tokens) ≡ 1
tail_chosen bare tokens i levels.Disjunction op.Or a = chosen_word_at (choice (of_sql raw (s.left_tail bare s.disjunction))) a (λ p us. refl)
tail_chosen bare tokens i levels.Conjunction op.And a = chosen_word_at (choice (of_sql raw (s.left_tail bare s.conjunction))) a (λ p us. refl)
tail_chosen bare tokens i levels.Sum op.Add a = chosen_mark_at (choice (of_sql raw (s.left_tail bare s.sum))) a (λ w p us. refl)
tail_chosen bare tokens i levels.Sum op.Sub a = chosen_mark_at (choice (of_sql raw (s.left_tail bare s.sum))) a (λ w p us. refl)
tail_chosen bare tokens i levels.Product op.Mul a = chosen_mark_at (choice (of_sql raw (s.left_tail bare s.product))) a (λ w p us. refl)
tail_chosen bare tokens i levels.Disjunction _ a = absurd a
tail_chosen bare tokens i levels.Conjunction _ a = absurd a
tail_chosen bare tokens i levels.Sum _ a = absurd a
tail_chosen bare tokens i levels.Product _ a = absurd a

-- where none stands the level ends
level_ends : (bare : Bool) (tokens : List Lexeme) (i : ℕ) (l : Level) → NoOperator tokens i l → Stops (member (sql_operand bare (level_of l))) (drop i tokens) → Stops (member (sql_level bare (level_of l))) (drop i tokens)
level_ends bare tokens i levels.Disjunction o s = stops_cons (word_class token.Upper (codes "OR")) (sql_conjunction bare) _ (no_word refl o) s
level_ends bare tokens i levels.Conjunction o s = stops_cons (word_class token.Upper (codes "AND")) (sql_comparison bare) _ (no_word refl o) s
level_ends bare tokens i levels.Sum o s = stops_cons (all_of (token.Symbol symbol.Plus)) (all_of (token.Symbol symbol.Minus) ∷ sql_product bare) _ (missing refl o.0) (stops_cons (all_of (token.Symbol symbol.Minus)) (sql_product bare) _ (missing refl o.1) s)
level_ends bare tokens i levels.Product o s = stops_cons (all_of (token.Symbol symbol.Star)) (sql_atom bare) _ (missing refl o) s

only_one : (b : Bool) → let z : ℕ = if b then 0 else 0 in z ≡ 0
only_one true = refl
only_one false = refl

single_left : (bare : Bool) (l : s.SqlLevel) (ts : List Lexeme) → choice (of_sql raw (s.left bare l)) ts ≡ 0
single_left bare l [] = refl
single_left bare l (t ∷ ts) = only_one _

-- ---- the loop

-- operands are read from one place up to another
pub record StepsRead (n : ℕ) (bare : Bool) (l : Level) (tokens : List Lexeme) (at next : ℕ) (old now : Quotes) (tree : SqlExp) : Type 0 where
  pub first : ℕ
  pub moves : Moves tokens at first
  pub head : Quoted Raw SqlExp
  pub read : Read language n (of_sql raw (s.operand bare (level_of l))) (drop at tokens) (drop first tokens) head
  pub ts : List (SqlStep Raw)
  pub leads : Leads language n (of_sql raw (s.left_tail bare (level_of l))) (of_sql raw (s.left_tail bare (level_of l))) (drop first tokens) (drop next tokens) (λ ys. ts ++ ys)
  pub stops : Stops (member (sql_operand bare (level_of l))) (drop next tokens)
  pub made : Numbered tokens n old now (grouped (span_of tokens at first) head ts) tree

operand_stops : {n : ℕ} {bare : Bool} (l : Level) {ts rest : List Lexeme} {x : Quoted Raw SqlExp} → Read language n (of_sql raw (s.operand bare (level_of l))) ts rest x → Stops (member (sql_operand bare (level_of l))) rest
operand_stops l r = r.stops

pub steps_first : {n : ℕ} {bare : Bool} {l : Level} {tokens : List Lexeme} {at : ℕ} (first : ℕ) {old now : Quotes} {tree : SqlExp} → Moves tokens at first →
    Makes (Read language n (of_sql raw (s.operand bare (level_of l))) (drop at tokens) (drop first tokens)) tokens n old now tree → StepsRead n bare l tokens at first old now tree
steps_first {l = l} first m a = record { first = first; moves = m; head = a.of; read = a.read; ts = []; leads = leads_here; stops = operand_stops l a.read; made = a.made }

module _ {n : ℕ} {bare : Bool} (l : Level) {tokens : List Lexeme} {at next : ℕ} {old now : Quotes} {tree : SqlExp} (k : StepsRead n bare l tokens at next old now tree) where
  pub left_refused : (o : SqlBinary) {r : Refusal} → IsOperator tokens next l o → Refused language n (of_sql raw (s.operand bare (level_of l))) (drop (next + 1) tokens) r → Refused language n (of_sql raw (s.left bare (level_of l))) (drop at tokens) r
  left_refused o a h = refused_by decided 0 n (omega arith) (single_left bare (level_of l) (drop at tokens)) (one_read decided k.read (one_refused (k.leads.refused _
      (refused_by decided 1 n (omega arith) (tail_chosen bare tokens next l o a) (one_refused (step_refused tokens next l o a h))))))

  pub steps_more : (o : SqlBinary) (next' : ℕ) {last : Quotes} {right : SqlExp} → IsOperator tokens next l o → Moves tokens next next' → at < next' →
      Makes (Read language n (of_sql raw (s.operand bare (level_of l))) (drop (next + 1) tokens) (drop next' tokens)) tokens n now last right →
      StepsRead n bare l tokens at next' old last (sided (span_of tokens at next') o tree right)
  steps_more o next' {right = right} a m lt b = let t = step_of (span_of tokens next next') o b.of in let r = step_read {n = n} {bare = bare} tokens next next' l o a m b.read in record {
    first = k.first;
    moves = k.moves;
    head = k.head;
    read = k.read;
    ts = k.ts ++ t ∷ [];
    leads = record {
      found = λ rest ys y. rw (append_assoc k.ts (t ∷ []) ys) (k.leads.found rest (t ∷ ys) (reads_by 1 n (omega arith) (record { v = (t, (ys, tt)); span = no_span; is_span = refl; allowed = refl; builds = refl; fills = an_one r (an_one y nothing) }) y.stops));
      refused = λ ref h. k.leads.refused ref (refused_by decided 1 n (omega arith) (tail_chosen bare tokens next l o a) (one_read decided r (one_refused h)));
    };
    stops = operand_stops l b.read;
    made = (let g = grouped-push (span_of tokens at k.first) k.head k.ts t in let j = span_join tokens at k.first next next' k.moves m lt in rw (g, j) (numbered_both (sided (up_to (span_of tokens at k.first) (span_of tokens next next')) o) k.made b.made));
  }

  pub left_read : Moves tokens at next → NoOperator tokens next l → Makes (Read language n (of_sql raw (s.left bare (level_of l))) (drop at tokens) (drop next tokens)) tokens n old now tree
  left_read m o = let stop = level_ends bare tokens next l o k.stops in
      let e : Read language n (of_sql raw (s.left_tail bare (level_of l))) (drop next tokens) (drop next tokens) [] = reads_by 0 n (omega arith) (record { v = tt; span = no_span; is_span = refl; allowed = refl; builds = refl; fills = nothing }) stop in
      let b = k.leads.found (drop next tokens) [] e in let fl = an_one {n = n} k.read (an_one b nothing) in
      let g : grouped (span_of tokens at k.first) k.head k.ts ≡ grouped (span_of tokens at next) k.head (k.ts ++ []) = grouped-begin (span_of tokens at k.first) (span_of tokens at next) k.head k.ts
      (ap (λ (z : Span). z.file) (sym (span_join tokens at k.first at next k.moves m m.on))) (ap (λ (z : Span). z.from) (sym (span_join tokens at k.first at next k.moves m m.on))) ∙ ap (grouped (span_of tokens at next) k.head) (sym (append-nil k.ts)) in record {
        of = grouped (span_of tokens at next) k.head (k.ts ++ []);
        read = reads_by 0 n (omega arith) (record { v = (k.head, (k.ts ++ [], tt)); span = span_of tokens at next; fills = fl; is_span = covers tokens at next m fl.taken fl.split; allowed = refl; builds = refl }) stop;
        made = rw (← g) k.made;
      }

pub left_first : {n : ℕ} {bare : Bool} (l : Level) (tokens : List Lexeme) (at : ℕ) {r : Refusal} → Refused language n (of_sql raw (s.operand bare (level_of l))) (drop at tokens) r → Refused language n (of_sql raw (s.left bare (level_of l))) (drop at tokens) r
left_first {n = n} {bare = bare} l tokens at h = refused_by decided 0 n (omega arith) (single_left bare (level_of l) (drop at tokens)) (one_refused h)

-- Operators of a level are read in a loop.
use Rattle.std.specs.Prelude.{◌≡◌, ◌+◌, ◌<◌, ℕ, Bool, true, false, if◌then◌else◌, List, [], ◌∷◌, ◌++◌, drop, Some, None, refl}
use Rattle.std.proofs.Common.{sym, ◌∙◌, ap, arith, append_assoc}
use Rattle.std.proofs.lemmas.List.{append-nil}
use Rattle.ur_base.specs.declared.refusal.Span.{Span}
use Rattle.ur_base.specs.declared.refusal.Refusal.{Refusal}
use Rattle.ur_base.specs.Stopping.{Says}
use Rattle.ur_lex.specs.declared.token.Symbol.{Symbol}
use Rattle.ur_lex.specs.declared.token.Symbol.TheVariants as symbol
use Rattle.ur_lex.specs.declared.token.Keyword.{Keyword}
use Rattle.ur_lex.specs.declared.token.Keyword.TheVariants as keyword
use Rattle.ur_lex.specs.declared.token.TokenKind.{TokenKind}
use Rattle.ur_lex.specs.declared.token.TokenKind.TheVariants as token
use Rattle.ur_lex.specs.declared.token.Lexeme.{Lexeme}
use Rattle.ur_lex.specs.Spelling.{Text}
use Rattle.ur_syntax.specs.declared.exp.Exp.{Exp}
use Rattle.ur_syntax.specs.declared.exp.ExpForm.TheVariants as form
use Rattle.ur_syntax.specs.declared.exp.Binary.{Binary}
use Rattle.ur_syntax.specs.declared.exp.Binary.TheVariants as op
use Rattle.ur_syntax.specs.declared.exp.Removed.{Removed}
use Rattle.ur_parse_rules.specs.Rules.{Read, Refused, Stops, no_span}
use Rattle.ur_parse_rules.specs.Places.{Moves, IsAt, Other, OfKind, span_of, starts}
use Rattle.ur_parse_rules.proofs.Tokens.{covers}
use Rattle.ur_parse_rules.proofs.Steps.{Leads, nothing, a_mark, an_one, mark_read, one_read, one_refused, reads_by, refused_by, leads_here}
use Rattle.ur_parse_rules.proofs.Choices.{chosen_mark_at, if_true, first_stops, starts_at}
use Rattle.ur_parse_rules.specs.Forms.{up_to}
use Rattle.ur_parse_rules.specs.Classes.{member}
use Rattle.ur_parse_rules.specs.Ends.{level_more, operand_more, sum_more, product_more, app_more, dot_class, exp_args}
use Rattle.ur_parse_rules.specs.Expressions.{at, grouped, step_of}
use Rattle.ur_parse_rules.specs.ExpParts as e
use Rattle.ur_parse_rules.specs.Parts.{of_exp, Step, joins, removes}
use Rattle.ur_parse_rules.specs.Language.{language}
use Rattle.ur_parse_rules.proofs.Starts.{step_starts}
use Rattle.ur_parse_rules.proofs.Choice.{choice}
use Rattle.ur_parse_rules.proofs.AllDecided.{decided}
use Rattle.ur_parse_rules.proofs.Tests.{false_true, is_not}
use Rattle.ur_parse_rules.proofs.Places.{missing, span_join}
use Rattle.ur_parse_con.proofs.Binders.{cannot_end}
use Rattle.ur_parse_exp_parts.proofs.Ending.{stops_both, skips}
use Rattle.ur_parse_con.specs.declared.operator.Level.{Level}
use Rattle.ur_parse_con.specs.declared.operator.Level.TheVariants as level
use Rattle.ur_parse_con.specs.declared.operator.Sign.{Sign}
use Rattle.ur_parse_con.specs.declared.operator.Sign.TheVariants as signs
use Rattle.ur_parse_con.specs.Operators.{level_of, sign, sign_of, SignAt}
use Rattle.ur_parse_exp_parts.specs.Lists.{StepRead}

-- ---- one step

abbrev joined : Span → Binary → Exp → Step
joined span o b = record { span = span; right = joins o b }

abbrev gone : Span → Removed → Step
gone span r = record { span = span; right = removes r }

module _ (n : ℕ) (tokens : List Lexeme) (i : ℕ) where
  -- an operator and its right side
  infix_read : (l : Level) (s : Symbol) (o : Binary) (next j : ℕ) (b : Exp) → sign l s ≡ Some (signs.Infix o) → Moves tokens i j → IsAt tokens i next (OfKind (token.Symbol s)) → Read language n (of_exp (e.operand (level_of l))) (drop next tokens) (drop j tokens) b →
      Read language n (of_exp (e.left_step (level_of l))) (drop i tokens) (drop j tokens) (joined (span_of tokens i j) o b)
  infix_read level.Disjunction symbol.OrOr o next j b q m a h = let f = a_mark {n = n} a (an_one h nothing) in let w : o ≡ op.Or = cc in
      reads_by 0 n (omega arith) (record { v = (b, tt); span = span_of tokens i j; fills = f; is_span = covers tokens i j m f.taken f.split; allowed = refl; builds = ap (λ z. joined (span_of tokens i j) z b) w }) h.stops
  infix_read level.Conjunction symbol.AndAnd o next j b q m a h = let f = a_mark {n = n} a (an_one h nothing) in let w : o ≡ op.And = cc in
      reads_by 0 n (omega arith) (record { v = (b, tt); span = span_of tokens i j; fills = f; is_span = covers tokens i j m f.taken f.split; allowed = refl; builds = ap (λ z. joined (span_of tokens i j) z b) w }) h.stops
  infix_read level.Append symbol.Caret o next j b q m a h = let f = a_mark {n = n} a (an_one h nothing) in let w : o ≡ op.Append = cc in
      reads_by 0 n (omega arith) (record { v = (b, tt); span = span_of tokens i j; fills = f; is_span = covers tokens i j m f.taken f.split; allowed = refl; builds = ap (λ z. joined (span_of tokens i j) z b) w }) h.stops
  infix_read level.Append symbol.DoublePlus o next j b q m a h = let f = a_mark {n = n} a (an_one h nothing) in let w : o ≡ op.Concat = cc in
      reads_by 1 n (omega arith) (record { v = (b, tt); span = span_of tokens i j; fills = f; is_span = covers tokens i j m f.taken f.split; allowed = refl; builds = ap (λ z. joined (span_of tokens i j) z b) w }) h.stops
  infix_read level.Sum symbol.Plus o next j b q m a h = let f = a_mark {n = n} a (an_one h nothing) in let w : o ≡ op.Add = cc in
      reads_by 0 n (omega arith) (record { v = (b, tt); span = span_of tokens i j; fills = f; is_span = covers tokens i j m f.taken f.split; allowed = refl; builds = ap (λ z. joined (span_of tokens i j) z b) w }) h.stops
  infix_read level.Sum symbol.Minus o next j b q m a h = let f = a_mark {n = n} a (an_one h nothing) in let w : o ≡ op.Sub = cc in
      reads_by 1 n (omega arith) (record { v = (b, tt); span = span_of tokens i j; fills = f; is_span = covers tokens i j m f.taken f.split; allowed = refl; builds = ap (λ z. joined (span_of tokens i j) z b) w }) h.stops
  infix_read level.Product symbol.Star o next j b q m a h = let f = a_mark {n = n} a (an_one h nothing) in let w : o ≡ op.Mul = cc in
      reads_by 0 n (omega arith) (record { v = (b, tt); span = span_of tokens i j; fills = f; is_span = covers tokens i j m f.taken f.split; allowed = refl; builds = ap (λ z. joined (span_of tokens i j) z b) w }) h.stops
  infix_read level.Product symbol.Slash o next j b q m a h = let f = a_mark {n = n} a (an_one h nothing) in let w : o ≡ op.Div = cc in
      reads_by 1 n (omega arith) (record { v = (b, tt); span = span_of tokens i j; fills = f; is_span = covers tokens i j m f.taken f.split; allowed = refl; builds = ap (λ z. joined (span_of tokens i j) z b) w }) h.stops
  infix_read level.Product symbol.Percent o next j b q m a h = let f = a_mark {n = n} a (an_one h nothing) in let w : o ≡ op.Rem = cc in
      reads_by 2 n (omega arith) (record { v = (b, tt); span = span_of tokens i j; fills = f; is_span = covers tokens i j m f.taken f.split; allowed = refl; builds = ap (λ z. joined (span_of tokens i j) z b) w }) h.stops
  infix_read l s o next j b q m a h = absurd (cc)

  infix_refused : (l : Level) (s : Symbol) (o : Binary) (next : ℕ) {r : Refusal} → sign l s ≡ Some (signs.Infix o) → IsAt tokens i next (OfKind (token.Symbol s)) → Refused language n (of_exp (e.operand (level_of l))) (drop next tokens) r →
      Refused language n (of_exp (e.left_step (level_of l))) (drop i tokens) r
  infix_refused level.Disjunction symbol.OrOr o next q a h = refused_by decided 0 n (omega arith) (chosen_mark_at (choice (of_exp (e.left_step e.disjunction))) a (λ w s us. refl)) (mark_read a (one_refused h))
  infix_refused level.Conjunction symbol.AndAnd o next q a h = refused_by decided 0 n (omega arith) (chosen_mark_at (choice (of_exp (e.left_step e.conjunction))) a (λ w s us. refl)) (mark_read a (one_refused h))
  infix_refused level.Append symbol.Caret o next q a h = refused_by decided 0 n (omega arith) (chosen_mark_at (choice (of_exp (e.left_step e.append))) a (λ w s us. refl)) (mark_read a (one_refused h))
  infix_refused level.Append symbol.DoublePlus o next q a h = refused_by decided 1 n (omega arith) (chosen_mark_at (choice (of_exp (e.left_step e.append))) a (λ w s us. refl)) (mark_read a (one_refused h))
  infix_refused level.Sum symbol.Plus o next q a h = refused_by decided 0 n (omega arith) (chosen_mark_at (choice (of_exp (e.left_step e.sum))) a (λ w s us. refl)) (mark_read a (one_refused h))
  infix_refused level.Sum symbol.Minus o next q a h = refused_by decided 1 n (omega arith) (chosen_mark_at (choice (of_exp (e.left_step e.sum))) a (λ w s us. refl)) (mark_read a (one_refused h))
  infix_refused level.Product symbol.Star o next q a h = refused_by decided 0 n (omega arith) (chosen_mark_at (choice (of_exp (e.left_step e.product))) a (λ w s us. refl)) (mark_read a (one_refused h))
  infix_refused level.Product symbol.Slash o next q a h = refused_by decided 1 n (omega arith) (chosen_mark_at (choice (of_exp (e.left_step e.product))) a (λ w s us. refl)) (mark_read a (one_refused h))
  infix_refused level.Product symbol.Percent o next q a h = refused_by decided 2 n (omega arith) (chosen_mark_at (choice (of_exp (e.left_step e.product))) a (λ w s us. refl)) (mark_read a (one_refused h))
  infix_refused l s o next q a h = absurd (cc)

  -- `--` and what it removes
  remove_read : (next j : ℕ) (x : Removed) → Moves tokens i j → IsAt tokens i next (OfKind (token.Symbol symbol.DoubleMinus)) → Read language n (of_exp e.removed) (drop next tokens) (drop j tokens) x →
      Stops (member sum_more) (drop j tokens) → Read language n (of_exp (e.left_step e.append)) (drop i tokens) (drop j tokens) (gone (span_of tokens i j) x)
  remove_read next j x m a h st = let f = a_mark {n = n} a (an_one h nothing) in
      reads_by 2 n (omega arith) (record { v = (x, tt); span = span_of tokens i j; fills = f; is_span = covers tokens i j m f.taken f.split; allowed = refl; builds = refl }) st

  module _ (a : IsAt tokens i (i + 1) (OfKind (token.Symbol symbol.DoubleMinus))) where
    pub gone_refused : {r : Refusal} → Refused language n (of_exp e.removed) (drop (i + 1) tokens) r → Refused language n (of_exp (e.left_step e.append)) (drop i tokens) r
    gone_refused h = refused_by decided 2 n (omega arith) (chosen_mark_at (choice (of_exp (e.left_step e.append))) a (λ w s us. refl)) (mark_read a (one_refused h))

    module _ (j : ℕ) {x : Removed} (h : Read language n (of_exp e.removed) (drop (i + 1) tokens) (drop j tokens) x) where
      pub gone_followed : {r : Refusal} → Says r 5 [] [] → starts (member sum_more) (drop j tokens) ≡ true → Refused language n (of_exp (e.left_step e.append)) (drop i tokens) r
      gone_followed says st = refused_by decided 2 n (omega arith) (chosen_mark_at (choice (of_exp (e.left_step e.append))) a (λ w s us. refl)) (mark_read a (one_read decided h (cannot_end sum_more says st (λ p. p.stops))))

      pub gone_read : (first : ℕ) {a : Exp} → Moves tokens i j → starts (member sum_more) (drop j tokens) ≡ false → StepRead n e.append tokens first i j a (at (span_of tokens first j) (form.Remove a x))
      gone_read first m st = record {
        step = gone (span_of tokens i j) x;
        read = remove_read (i + 1) j x m a h (first_stops (member sum_more) (drop j tokens) st);
        span = refl;
        is = refl;
      }

module _ (n : ℕ) (tokens : List Lexeme) (l : Level) (i : ℕ) where
  module _ {o : Binary} (q : SignAt tokens i l (Some (signs.Infix o))) where
    pub right_refused : {r : Refusal} → Refused language n (of_exp (e.operand (level_of l))) (drop (i + 1) tokens) r → Refused language n (of_exp (e.left_step (level_of l))) (drop i tokens) r
    right_refused h = infix_refused n tokens i l q.0 o (i + 1) q.2 q.1 h

    pub right_read : (first j : ℕ) {a b : Exp} → Moves tokens i j → Read language n (of_exp (e.operand (level_of l))) (drop (i + 1) tokens) (drop j tokens) b → StepRead n (level_of l) tokens first i j a (at (span_of tokens first j) (form.Binary o a b))
    right_read first j {b = b} m h = record { step = joined (span_of tokens i j) o b; read = infix_read n tokens i l q.0 o (i + 1) j b q.2 m q.1 h; span = refl; is = refl }

-- ---- whether an operator of a level stands at a place

sign_starts : (l : Level) (s : Symbol) (o : Sign) (w : Text) → sign l s ≡ Some o → member (step_starts (level_of l)) (token.Symbol s) w ≡ true
sign_starts level.Disjunction symbol.OrOr o w e = refl
sign_starts level.Conjunction symbol.AndAnd o w e = refl
sign_starts level.Append symbol.Caret o w e = refl
sign_starts level.Append symbol.DoublePlus o w e = refl
sign_starts level.Sum symbol.Plus o w e = refl
sign_starts level.Sum symbol.Minus o w e = refl
sign_starts level.Product symbol.Star o w e = refl
sign_starts level.Product symbol.Slash o w e = refl
sign_starts level.Product symbol.Percent o w e = refl
sign_starts level.Append symbol.DoubleMinus o w e = refl
sign_starts l s o w e = absurd (cc)

pub sign_begins : (tokens : List Lexeme) (i : ℕ) (l : Level) {o : Sign} → SignAt tokens i l (Some o) → starts (member (step_starts (level_of l))) (drop i tokens) ≡ true
sign_begins tokens i l {o = o} q = starts_at (member (step_starts (level_of l))) q.1 (λ w. sign_starts l q.0 o w q.2)

symbol_signs : (l : Level) (s : Symbol) (w : Text) → member (step_starts (level_of l)) (token.Symbol s) w ≡ true → (o : Sign) × (sign l s ≡ Some o)
symbol_signs level.Disjunction symbol.OrOr w e = (signs.Infix op.Or, refl)
symbol_signs level.Conjunction symbol.AndAnd w e = (signs.Infix op.And, refl)
symbol_signs level.Append symbol.Caret w e = (signs.Infix op.Append, refl)
symbol_signs level.Append symbol.DoublePlus w e = (signs.Infix op.Concat, refl)
symbol_signs level.Sum symbol.Plus w e = (signs.Infix op.Add, refl)
symbol_signs level.Sum symbol.Minus w e = (signs.Infix op.Sub, refl)
symbol_signs level.Product symbol.Star w e = (signs.Infix op.Mul, refl)
symbol_signs level.Product symbol.Slash w e = (signs.Infix op.Div, refl)
symbol_signs level.Product symbol.Percent w e = (signs.Infix op.Rem, refl)
symbol_signs level.Append symbol.DoubleMinus w e = (signs.Remove, refl)
symbol_signs level.Disjunction s w e = false_true e
symbol_signs level.Conjunction s w e = false_true e
symbol_signs level.Append s w e = false_true e
symbol_signs level.Sum s w e = false_true e
symbol_signs level.Product s w e = false_true e

keyword_signs : {A : Type 0} (l : Level) (k : Keyword) (w : Text) → member (step_starts (level_of l)) (token.Keyword k) w ≡ true → A
keyword_signs level.Disjunction keyword.And w e = false_true e
keyword_signs level.Conjunction keyword.And w e = false_true e
keyword_signs level.Append keyword.And w e = false_true e
keyword_signs level.Sum keyword.And w e = false_true e
keyword_signs level.Product keyword.And w e = false_true e
keyword_signs l k w e = false_true e

kind_signs : (l : Level) (k : TokenKind) (w : Text) → member (step_starts (level_of l)) k w ≡ true → (o : Sign) × (sign_of l k ≡ Some o)
kind_signs l (token.Symbol s) w e = symbol_signs l s w e
kind_signs l (token.Keyword k) w e = keyword_signs l k w e
kind_signs level.Disjunction (token.Int n) w e = false_true e
kind_signs level.Conjunction (token.Int n) w e = false_true e
kind_signs level.Append (token.Int n) w e = false_true e
kind_signs level.Sum (token.Int n) w e = false_true e
kind_signs level.Product (token.Int n) w e = false_true e
kind_signs level.Disjunction token.Lower w e = false_true e
kind_signs level.Conjunction token.Lower w e = false_true e
kind_signs level.Append token.Lower w e = false_true e
kind_signs level.Sum token.Lower w e = false_true e
kind_signs level.Product token.Lower w e = false_true e
kind_signs level.Disjunction token.Upper w e = false_true e
kind_signs level.Conjunction token.Upper w e = false_true e
kind_signs level.Append token.Upper w e = false_true e
kind_signs level.Sum token.Upper w e = false_true e
kind_signs level.Product token.Upper w e = false_true e
kind_signs level.Disjunction token.Str w e = false_true e
kind_signs level.Conjunction token.Str w e = false_true e
kind_signs level.Append token.Str w e = false_true e
kind_signs level.Sum token.Str w e = false_true e
kind_signs level.Product token.Str w e = false_true e
kind_signs level.Disjunction token.SqlText w e = false_true e
kind_signs level.Conjunction token.SqlText w e = false_true e
kind_signs level.Append token.SqlText w e = false_true e
kind_signs level.Sum token.SqlText w e = false_true e
kind_signs level.Product token.SqlText w e = false_true e
kind_signs level.Disjunction token.XmlText w e = false_true e
kind_signs level.Conjunction token.XmlText w e = false_true e
kind_signs level.Append token.XmlText w e = false_true e
kind_signs level.Sum token.XmlText w e = false_true e
kind_signs level.Product token.XmlText w e = false_true e
kind_signs level.Disjunction token.Word w e = false_true e
kind_signs level.Conjunction token.Word w e = false_true e
kind_signs level.Append token.Word w e = false_true e
kind_signs level.Sum token.Word w e = false_true e
kind_signs level.Product token.Word w e = false_true e

none_signs : (l : Level) (ts : List Lexeme) → ((t : Lexeme) (rest : List Lexeme) → ts ≡ t ∷ rest → (o : Sign) × (sign_of l t.kind ≡ Some o) → ⊥) → Stops (member (step_starts (level_of l))) ts
none_signs l [] f = tt
none_signs l (t ∷ ts) f = is_not (member (step_starts (level_of l)) t.kind t.content) (λ e. absurd (f t ts refl (kind_signs l t.kind t.content e)))

level_stops : (l : Level) (ts : List Lexeme) → Stops (member (step_starts (level_of l))) ts → Stops (member (operand_more (level_of l))) ts → Stops (member (level_more (level_of l))) ts
level_stops level.Disjunction ts a b = stops_both (step_starts e.disjunction) (operand_more e.disjunction) ts a b
level_stops level.Conjunction ts a b = stops_both (step_starts e.conjunction) (operand_more e.conjunction) ts a b
level_stops level.Append ts a b = stops_both (step_starts e.append) (operand_more e.append) ts a b
level_stops level.Sum ts a b = stops_both (step_starts e.sum) (operand_more e.sum) ts a b
level_stops level.Product ts a b = stops_both (step_starts e.product) (operand_more e.product) ts a b

pub level_ends : (tokens : List Lexeme) (i : ℕ) (l : Level) → SignAt tokens i l None → Stops (member (operand_more (level_of l))) (drop i tokens) → Stops (member (level_more (level_of l))) (drop i tokens)
level_ends tokens i l q s = level_stops l (drop i tokens) (none_signs l (drop i tokens) q.other) s

-- ---- what goes on behind what `--` removes

pub sum_stops : (tokens : List Lexeme) (i : ℕ) → SignAt tokens i level.Sum None → SignAt tokens i level.Product None → Other tokens i (OfKind (token.Symbol symbol.Dot)) → starts (member exp_args) (drop i tokens) ≡ starts (member sum_more) (drop i tokens)
sum_stops tokens i q p o = skips (dot_class ∷ []) exp_args (drop i tokens) (missing refl o) ∙ skips (step_starts e.product) app_more (drop i tokens) (none_signs level.Product (drop i tokens) p.other)
    ∙ skips (step_starts e.sum) product_more (drop i tokens) (none_signs level.Sum (drop i tokens) q.other)

sum_sign : (s : Symbol) (o : Sign) (w : Text) → sign level.Sum s ≡ Some o → member sum_more (token.Symbol s) w ≡ true
sum_sign symbol.Plus o w e = refl
sum_sign symbol.Minus o w e = refl
sum_sign s o w e = absurd (cc)

product_sign : (s : Symbol) (o : Sign) (w : Text) → sign level.Product s ≡ Some o → member sum_more (token.Symbol s) w ≡ true
product_sign symbol.Star o w e = refl
product_sign symbol.Slash o w e = refl
product_sign symbol.Percent o w e = refl
product_sign s o w e = absurd (cc)

pub sum_goes_on : (tokens : List Lexeme) (i : ℕ) {o : Sign} → SignAt tokens i level.Sum (Some o) → starts (member sum_more) (drop i tokens) ≡ true
sum_goes_on tokens i {o = o} q = starts_at (member sum_more) q.1 (λ w. sum_sign q.0 o w q.2)

pub product_goes_on : (tokens : List Lexeme) (i : ℕ) {o : Sign} → SignAt tokens i level.Product (Some o) → starts (member sum_more) (drop i tokens) ≡ true
product_goes_on tokens i {o = o} q = starts_at (member sum_more) q.1 (λ w. product_sign q.0 o w q.2)

pub dot_goes_on : (tokens : List Lexeme) (i next : ℕ) → IsAt tokens i next (OfKind (token.Symbol symbol.Dot)) → starts (member sum_more) (drop i tokens) ≡ true
dot_goes_on tokens i next a = starts_at (member sum_more) a (λ w. refl)

-- ---- the loop

grouped-push : (b : Span) (a : Exp) (ts : List Step) (t : Step) → grouped b a (ts ++ t ∷ []) ≡ step_of (up_to b t.span) (grouped b a ts) t.right
grouped-push b a [] t = refl
grouped-push b a (x ∷ ts) t = grouped-push b (step_of (up_to b x.span) a x.right) ts t

up_to-begin : (b b' s : Span) → b.file ≡ b'.file → b.from ≡ b'.from → up_to b s ≡ up_to b' s
up_to-begin b b' s e f = ap (λ z. let s : Span = record { file = z; from = b.from; to = s.to } in s) e ∙ ap (λ z. let s : Span = record { file = b'.file; from = z; to = s.to } in s) f

-- only the begin of the span counts
grouped-begin : (b b' : Span) (a : Exp) (ts : List Step) → b.file ≡ b'.file → b.from ≡ b'.from → grouped b a ts ≡ grouped b' a ts
grouped-begin b b' a [] e f = refl
grouped-begin b b' a (x ∷ ts) e f = grouped-begin b b' (step_of (up_to b x.span) a x.right) ts e f ∙ ap (λ z. grouped b' (step_of z a x.right) ts) (up_to-begin b b' x.span e f)

only_one : (b : Bool) → let z : ℕ = if b then 0 else 0 in z ≡ 0
only_one true = refl
only_one false = refl

single_left : (l : e.Level) (ts : List Lexeme) → choice (of_exp (e.left l)) ts ≡ 0
single_left l [] = refl
single_left l (t ∷ ts) = only_one _

a_step : (l : e.Level) (ts : List Lexeme) → starts (member (step_starts l)) ts ≡ true → choice (of_exp (e.left_tail l)) ts ≡ 1
a_step l [] s = false_true s
a_step l (t ∷ ts) s = if_true 0 s

-- steps are read from one place up to another
pub record Grouped (n : ℕ) (l : e.Level) (tokens : List Lexeme) (at first next : ℕ) (head f : Exp) : Type 0 where
  pub ts : List Step
  pub is : f ≡ grouped (span_of tokens at first) head ts
  pub leads : Leads language n (of_exp (e.left_tail l)) (of_exp (e.left_tail l)) (drop first tokens) (drop next tokens) (λ ys. ts ++ ys)

pub group_first : {n : ℕ} {l : e.Level} {tokens : List Lexeme} {at first : ℕ} {head : Exp} → Grouped n l tokens at first first head head
group_first = record { ts = []; is = refl; leads = leads_here }

step_leads : (n : ℕ) (l : e.Level) (tokens : List Lexeme) (i j : ℕ) (t : Step) → starts (member (step_starts l)) (drop i tokens) ≡ true → Read language n (of_exp (e.left_step l)) (drop i tokens) (drop j tokens) t →
    Leads language n (of_exp (e.left_tail l)) (of_exp (e.left_tail l)) (drop i tokens) (drop j tokens) (λ ys. t ∷ ys)
step_leads n l tokens i j t s r = record {
  found = λ rest ys a. reads_by 1 n (omega arith) (record { v = (t, (ys, tt)); span = no_span; is_span = refl; allowed = refl; builds = refl; fills = an_one r (an_one a nothing) }) a.stops;
  refused = λ ref h. refused_by decided 1 n (omega arith) (a_step l (drop i tokens) s) (one_read decided r (one_refused h));
}

module _ {n : ℕ} {l : e.Level} {tokens : List Lexeme} {at first next : ℕ} {head f : Exp} where
  pub group_more : {next' : ℕ} {c : Exp} → Moves tokens at first → at < next' → Moves tokens next next' → Grouped n l tokens at first next head f → starts (member (step_starts l)) (drop next tokens) ≡ true → StepRead n l tokens at next next' f c →
      Grouped n l tokens at first next' head c
  group_more {next' = next'} m lt m' k s r = let d = step_leads n l tokens next next' r.step s r.read in record {
    ts = k.ts ++ r.step ∷ [];
    is = r.is ∙ ap (λ z. step_of z f r.step.right) (span_join tokens at first next next' m m' lt ∙ ap (λ z. up_to (span_of tokens at first) z) (sym r.span)) ∙ ap (λ z. step_of (up_to (span_of tokens at first) r.step.span) z r.step.right) k.is
        ∙ sym (grouped-push (span_of tokens at first) head k.ts r.step);
    leads = record {
      found = λ rest ys a. rw (append_assoc k.ts (r.step ∷ []) ys) (k.leads.found rest (r.step ∷ ys) (d.found rest ys a));
      refused = λ ref h. k.leads.refused ref (d.refused ref h);
    };
  }

  pub group_refused : {r : Refusal} → Grouped n l tokens at first next head f → starts (member (step_starts l)) (drop next tokens) ≡ true → Read language n (of_exp (e.operand l)) (drop at tokens) (drop first tokens) head →
      Refused language n (of_exp (e.left_step l)) (drop next tokens) r → Refused language n (of_exp (e.left l)) (drop at tokens) r
  group_refused k s r h = refused_by decided 0 n (omega arith) (single_left l (drop at tokens)) (one_read decided r (one_refused (k.leads.refused _ (refused_by decided 1 n (omega arith) (a_step l (drop next tokens) s) (one_refused h)))))

  pub group_done : Moves tokens at first → Moves tokens at next → Grouped n l tokens at first next head f → Stops (member (level_more l)) (drop next tokens) → Read language n (of_exp (e.operand l)) (drop at tokens) (drop first tokens) head →
      Read language n (of_exp (e.left l)) (drop at tokens) (drop next tokens) f
  group_done m m' k stop r = let e : Read language n (of_exp (e.left_tail l)) (drop next tokens) (drop next tokens) [] = reads_by 0 n (omega arith) (record { v = tt; span = no_span; is_span = refl; allowed = refl; builds = refl; fills = nothing }) stop in
      let b = k.leads.found (drop next tokens) [] e in let fl = an_one {n = n} r (an_one b nothing) in let j = span_join tokens at first at next m m' m'.on in
      reads_by 0 n (omega arith) (record {
        v = (head, (k.ts ++ [], tt));
        span = span_of tokens at next;
        fills = fl;
        is_span = covers tokens at next m' fl.taken fl.split;
        allowed = refl;
        builds = k.is ∙ grouped-begin (span_of tokens at first) (span_of tokens at next) head k.ts (ap (λ (z : Span). z.file) (sym j)) (ap (λ (z : Span). z.from) (sym j)) ∙ ap (λ z. grouped (span_of tokens at next) head z) (sym (append-nil k.ts));
      }) stop

pub operand_refused : {n : ℕ} {l : e.Level} (tokens : List Lexeme) (at : ℕ) {r : Refusal} → Refused language n (of_exp (e.operand l)) (drop at tokens) r → Refused language n (of_exp (e.left l)) (drop at tokens) r
operand_refused {n = n} {l = l} tokens at h = refused_by decided 0 n (omega arith) (single_left l (drop at tokens)) (one_refused h)

-- Atoms with the names of fields behind them, and arguments.
use Rattle.std.specs.Prelude.{◌≡◌, ◌+◌, ℕ, Bool, true, false, if◌then◌else◌, List, [], ◌∷◌, drop, refl}
use Rattle.std.proofs.Common.{sym, ◌∙◌, ap, arith}
use Rattle.ur_base.specs.declared.refusal.Refusal.{Refusal}
use Rattle.ur_base.specs.Stopping.{Says}
use Rattle.ur_lex.specs.declared.token.Symbol.TheVariants as symbol
use Rattle.ur_lex.specs.declared.token.TokenKind.TheVariants as token
use Rattle.ur_lex.specs.declared.token.Lexeme.{Lexeme}
use Rattle.ur_lex.specs.Spelling.{Text}
use Rattle.ur_syntax.specs.declared.con.Con.{Con}
use Rattle.ur_syntax.specs.declared.exp.Exp.{Exp}
use Rattle.ur_syntax.specs.declared.exp.ExpForm.TheVariants as form
use Rattle.ur_parse_rules.specs.Rules.{Read, Refused, Stops, no_span}
use Rattle.ur_parse_rules.specs.Places.{Moves, IsAt, IsName, Other, OfKind, Passing, Unexpected, any, span_of, starts}
use Rattle.ur_parse_rules.proofs.Tokens.{covers}
use Rattle.ur_parse_rules.proofs.Steps.{nothing, a_mark, a_name, an_one, mark_read, name_read, one_read, one_refused, no_mark, no_name, reads_by, refused_by}
use Rattle.ur_parse_rules.proofs.Choices.{chosen_mark_at, chosen_name_at, if_true, if_false, starts_at}
use Rattle.ur_parse_rules.specs.Classes.{member, symbol_class}
use Rattle.ur_parse_rules.specs.Words.{is_name}
use Rattle.ur_parse_rules.specs.Ends.{exp_args, dot_class}
use Rattle.ur_parse_rules.specs.Expressions.{at, projected}
use Rattle.ur_parse_rules.specs.declared.parse_rules_place.ConPlace.TheVariants as places
use Rattle.ur_parse_rules.specs.ConParts as c
use Rattle.ur_parse_rules.specs.ExpParts as e
use Rattle.ur_parse_rules.specs.Parts.{of_con, of_exp, empty, con, Given, value, type}
use Rattle.ur_parse_rules.specs.Language.{language}
use Rattle.ur_parse_rules.proofs.Choice.{choice}
use Rattle.ur_parse_rules.proofs.AllDecided.{decided}
use Rattle.ur_parse_rules.proofs.Tests.{false_true, is_not, or_first}
use Rattle.ur_parse_rules.proofs.Places.{ends_empty, missing, span_join, mark_moves, moves_on}
use Rattle.ur_lex.specs.declared.token.Symbol.{Symbol}
use Rattle.ur_lex.specs.declared.token.TokenKind.{TokenKind}
use Rattle.ur_parse_exp_parts.specs.Begins.{opens, opens_post, begins_base, begins_post, begins_argument}
use Rattle.ur_parse_con.proofs.Binders.{cannot_end}
use Rattle.ur_parse_exp_parts.specs.Behind.{DotsRead, CapitalRead, NilRead}
use Rattle.ur_parse_exp_parts.specs.Arguments.{given_at}
use Rattle.ur_parse_exp_parts.proofs.Beginning.{base_is, begins_is, base_begins, post_begins}
use Rattle.ur_parse_exp_parts.proofs.Begun.{not_begun}

only_one : (b : Bool) → let z : ℕ = if b then 0 else 0 in z ≡ 0
only_one true = refl
only_one false = refl

single_nil : (ts : List Lexeme) → choice (of_exp e.nil_end) ts ≡ 0
single_nil [] = refl
single_nil (t ∷ ts) = only_one _

begun : (front : Bool) (ts : List Lexeme) → starts (begins_base front) ts ≡ true → choice (of_exp (e.post front)) ts ≡ 0
begun front [] s = false_true s
begun front (t ∷ ts) s = if_true _ (sym (base_begins front (t ∷ ts)) ∙ s)

-- ---- `[]`

nil_ends : {n : ℕ} {tokens : List Lexeme} {i j : ℕ} → IsAt tokens i j (OfKind (token.Symbol symbol.RBracket)) → Read language n (of_exp e.nil_end) (drop i tokens) (drop j tokens) (span_of tokens i j)
nil_ends {n = n} {tokens = tokens} {i = i} {j = j} a = let f = a_mark {n = n} a nothing in
    reads_by 0 n (omega arith) (record { v = tt; span = span_of tokens i j; fills = f; is_span = covers tokens i j (mark_moves a) f.taken f.split; allowed = refl; builds = refl }) (ends_empty _)

module _ (n : ℕ) (front : Bool) {tokens : List Lexeme} {here next : ℕ} (a : IsAt tokens here next (OfKind (token.Symbol symbol.LBracket))) where
  nil_chosen : choice (of_exp (e.post front)) (drop here tokens) ≡ 2
  nil_chosen = chosen_mark_at (choice (of_exp (e.post front))) a (λ w s us. refl)

  pub nil_open : {r : Refusal} → Unexpected tokens next (OfKind (token.Symbol symbol.RBracket)) r → Refused language n (of_exp (e.post front)) (drop here tokens) r
  nil_open u = refused_by decided 2 n (omega arith) nil_chosen (mark_read a (one_refused (refused_by decided 0 n (omega arith) (single_nil (drop next tokens)) (no_mark u))))

  module _ {end : ℕ} (b : IsAt tokens next end (OfKind (token.Symbol symbol.RBracket))) where
    pub nil_dots : {r : Refusal} → Refused language n (of_exp e.dots) (drop end tokens) r → Refused language n (of_exp (e.post front)) (drop here tokens) r
    nil_dots h = refused_by decided 2 n (omega arith) nil_chosen (mark_read a (one_read decided (nil_ends b) (one_refused h)))

    pub nil_post : {last : ℕ} {x : Exp} → Moves tokens here last → NilRead tokens here end last x → Read language n (of_exp (e.post front)) (drop here tokens) (drop last tokens) x
    nil_post {last = last} m q = let r = q.read n in let fl = a_mark {n = n} a (an_one (nil_ends b) (an_one r nothing)) in let lt = (moves_on (mark_moves a) (mark_moves b)).on in
        reads_by 2 n (omega arith) (record {
          v = (span_of tokens next end, (q.names, tt));
          span = span_of tokens here last;
          fills = fl;
          is_span = covers tokens here last m fl.taken fl.split;
          allowed = refl;
          builds = q.is ∙ ap (λ z. projected (span_of tokens here last) (at z form.Nil) q.names) (span_join tokens here last next end m (mark_moves b) lt);
        }) r.stops

-- ---- a word in capitals

module _ (n : ℕ) (front : Bool) {tokens : List Lexeme} {here : ℕ} {x : Text} (a : IsName tokens here (here + 1) token.Upper (is_name front) x) where
  capital_chosen : choice (of_exp (e.post front)) (drop here tokens) ≡ 1
  capital_chosen = chosen_name_at (choice (of_exp (e.post front))) a (λ w s us h. if_true _ (or_first (is_name front w) false h))

  pub capital_refused : {r : Refusal} → Refused language n (of_exp e.capital_rest) (drop (here + 1) tokens) r → Refused language n (of_exp (e.post front)) (drop here tokens) r
  capital_refused h = refused_by decided 1 n (omega arith) capital_chosen (name_read a (one_refused h))

  pub capital_post : {end : ℕ} {f : Exp} → Moves tokens here end → CapitalRead tokens here end x f → Read language n (of_exp (e.post front)) (drop here tokens) (drop end tokens) f
  capital_post {end = end} m q = let r = q.read n in let fl = a_name {n = n} a (an_one r nothing) in
      reads_by 1 n (omega arith) (record { v = (x, (q.rest, tt)); span = span_of tokens here end; fills = fl; is_span = covers tokens here end m fl.taken fl.split; allowed = refl; builds = q.is }) r.stops

-- ---- another atom

module _ (n : ℕ) (front : Bool) (tokens : List Lexeme) (here : ℕ) (s : starts (begins_base front) (drop here tokens) ≡ true) where
  pub base_refused : {r : Refusal} → Refused language n (of_exp (e.base front)) (drop here tokens) r → Refused language n (of_exp (e.post front)) (drop here tokens) r
  base_refused h = refused_by decided 0 n (omega arith) (begun front (drop here tokens) s) (one_refused h)

  pub base_dots : (mid : ℕ) {b : Exp} {r : Refusal} → Read language n (of_exp (e.base front)) (drop here tokens) (drop mid tokens) b → Refused language n (of_exp e.dots) (drop mid tokens) r → Refused language n (of_exp (e.post front)) (drop here tokens) r
  base_dots mid f h = refused_by decided 0 n (omega arith) (begun front (drop here tokens) s) (one_read decided f (one_refused h))

pub base_post : (n : ℕ) (front : Bool) {tokens : List Lexeme} {here : ℕ} (mid : ℕ) {end : ℕ} {b x : Exp} → Moves tokens here end → Read language n (of_exp (e.base front)) (drop here tokens) (drop mid tokens) b → DotsRead tokens here mid end b x → Read language n (of_exp (e.post front)) (drop here tokens) (drop end tokens) x
base_post n front {tokens = tokens} {here = here} mid {end = end} {b = b} m f q = let r = q.read n in let fl = an_one {n = n} f (an_one r nothing) in
    reads_by 0 n (omega arith) (record { v = (b, (q.names, tt)); span = span_of tokens here end; fills = fl; is_span = covers tokens here end m fl.taken fl.split; allowed = refl; builds = q.is }) r.stops

-- ---- where none begins

opens_none : (s : Symbol) → (s ≡ symbol.LBracket → ⊥) → opens s ≡ false → opens_post s ≡ false
opens_none symbol.LBracket f e = absurd (f refl)
opens_none _ f e = e

symbol_same : (s : Symbol) → (token.Symbol s ≡ token.Symbol symbol.LBracket → ⊥) → s ≡ symbol.LBracket → ⊥
symbol_same s f e = f (ap (λ z. token.Symbol z) e)

post_none : (front : Bool) (k : TokenKind) (w : Text) → (k ≡ token.Symbol symbol.LBracket → ⊥) → ((k ≡ token.Upper) × (is_name front w ≡ true) → ⊥) → begins_base front k w ≡ false → begins_post front k w ≡ false
post_none front token.Upper w f g e = is_not (is_name front w) (λ h. absurd (g (refl, h)))
post_none front (token.Symbol s) w f g e = opens_none s (symbol_same s f) e
post_none front _ w f g e = e

none_starts : (front : Bool) (ts : List Lexeme) → ((t : Lexeme) (us : List Lexeme) → ts ≡ t ∷ us → t.kind ≡ token.Symbol symbol.LBracket → ⊥) → ((t : Lexeme) (us : List Lexeme) → ts ≡ t ∷ us → (t.kind ≡ token.Upper) × (is_name front t.content ≡ true) → ⊥) →
    starts (begins_base front) ts ≡ false → starts (begins_post front) ts ≡ false
none_starts front [] f g e = refl
none_starts front (t ∷ ts) f g e = post_none front t.kind t.content (f t ts refl) (g t ts refl) e

pub no_post : (n : ℕ) (front : Bool) {tokens : List Lexeme} {here : ℕ} {r : Refusal} → Other tokens here (OfKind (token.Symbol symbol.LBracket)) → Other tokens here (Passing token.Upper (is_name front)) → starts (begins_base front) (drop here tokens) ≡ false → Says r 5 [] [] →
    Refused language n (of_exp (e.post front)) (drop here tokens) r
no_post n front {tokens = tokens} {here = here} o p s says = not_begun (of_exp (e.post front)) (drop here tokens) refl says
    (sym (post_begins front (drop here tokens)) ∙ none_starts front (drop here tokens) (λ t us q k. o.other t us q k) (λ t us q k. p.other t us q k) s) n

-- ---- arguments

opens_base : (s : Symbol) → opens_post s ≡ true → (s ≡ symbol.LBracket → ⊥) → opens s ≡ true
opens_base symbol.LBracket e f = absurd (f refl)
opens_base _ e f = e

arg_base : (k : TokenKind) (w : Text) → begins_argument k ≡ true → (k ≡ token.Symbol symbol.LBracket → ⊥) → (k ≡ token.Upper → ⊥) → begins_base false k w ≡ true
arg_base token.Upper w e f g = absurd (g refl)
arg_base (token.Symbol s) w e f g = opens_base s e (symbol_same s f)
arg_base token.Lower w e f g = refl
arg_base _ w e f g = e

args_base : (ts : List Lexeme) → starts (member exp_args) ts ≡ true → ((t : Lexeme) (us : List Lexeme) → ts ≡ t ∷ us → t.kind ≡ token.Symbol symbol.LBracket → ⊥) → ((t : Lexeme) (us : List Lexeme) → ts ≡ t ∷ us → t.kind ≡ token.Upper → ⊥) → choice (of_exp e.arg) ts ≡ 0
args_base [] s f g = false_true s
args_base (t ∷ ts) s f g = if_true _ (base_is false t.kind t.content ∙ arg_base t.kind t.content (sym (begins_is t.kind t.content) ∙ s) (f t ts refl) (g t ts refl))

abbrev GivenRead : ℕ → List Lexeme → ℕ → ℕ → Given → Type 0
GivenRead n tokens i j g = Read language n (of_exp e.arg) (drop i tokens) (drop j tokens) (given_at (span_of tokens i j) g)

module _ (n : ℕ) {tokens : List Lexeme} {here : ℕ} where
  module _ (s : starts (member exp_args) (drop here tokens) ≡ true) (o : Other tokens here (OfKind (token.Symbol symbol.LBracket))) (p : Other tokens here (OfKind token.Upper)) where
    atom_chosen : choice (of_exp e.arg) (drop here tokens) ≡ 0
    atom_chosen = args_base (drop here tokens) s (λ t us q k. o.other t us q k) (λ t us q k. p.other t us q k)

    pub arg_base_refused : {r : Refusal} → Refused language n (of_exp (e.base false)) (drop here tokens) r → Refused language n (of_exp e.arg) (drop here tokens) r
    arg_base_refused h = refused_by decided 0 n (omega arith) atom_chosen (one_refused h)

    pub arg_dots_refused : (mid : ℕ) {b : Exp} {r : Refusal} → Read language n (of_exp (e.base false)) (drop here tokens) (drop mid tokens) b → Refused language n (of_exp e.dots) (drop mid tokens) r → Refused language n (of_exp e.arg) (drop here tokens) r
    arg_dots_refused mid f h = refused_by decided 0 n (omega arith) atom_chosen (one_read decided f (one_refused h))

  pub arg_base_read : (mid : ℕ) {end : ℕ} {b x : Exp} → Moves tokens here end → Read language n (of_exp (e.base false)) (drop here tokens) (drop mid tokens) b → DotsRead tokens here mid end b x → GivenRead n tokens here end (value x)
  arg_base_read mid {end = end} {b = b} m f q = let r = q.read n in let fl = an_one {n = n} f (an_one r nothing) in
      reads_by 0 n (omega arith) (record { v = (b, (q.names, tt)); span = span_of tokens here end; fills = fl; is_span = covers tokens here end m fl.taken fl.split; allowed = refl; builds = ap (λ z. given_at (span_of tokens here end) (value z)) q.is }) r.stops

  -- a word in capitals
  pub arg_word_missing : {next : ℕ} {r : Refusal} → IsAt tokens here next (OfKind token.Upper) → Unexpected tokens here (Passing token.Upper any) r → Refused language n (of_exp e.arg) (drop here tokens) r
  arg_word_missing a u = refused_by decided 1 n (omega arith) (chosen_mark_at (choice (of_exp e.arg)) a (λ w s us. refl)) (no_name u)

  module _ {x : Text} (a : IsName tokens here (here + 1) token.Upper any x) where
    word_chosen : choice (of_exp e.arg) (drop here tokens) ≡ 1
    word_chosen = chosen_name_at (choice (of_exp e.arg)) a (λ w s us h. refl)

    pub arg_word_refused : {r : Refusal} → Refused language n (of_exp e.capital_rest) (drop (here + 1) tokens) r → Refused language n (of_exp e.arg) (drop here tokens) r
    arg_word_refused h = refused_by decided 1 n (omega arith) word_chosen (name_read a (one_refused h))

    pub arg_word_read : {end : ℕ} {f : Exp} → Moves tokens here end → CapitalRead tokens here end x f → GivenRead n tokens here end (value f)
    arg_word_read {end = end} m q = let r = q.read n in let fl = a_name {n = n} a (an_one r nothing) in
        reads_by 1 n (omega arith) (record { v = (x, (q.rest, tt)); span = span_of tokens here end; fills = fl; is_span = covers tokens here end m fl.taken fl.split; allowed = refl; builds = ap (λ z. given_at (span_of tokens here end) (value z)) q.is }) r.stops

second_one : (b : Bool) → let z : ℕ = if b then 1 else 1 in z ≡ 1
second_one true = refl
second_one false = refl

filled_one : (ts : List Lexeme) → Stops (member (symbol_class symbol.RBracket ∷ [])) ts → choice (of_exp e.bracketed) ts ≡ 1
filled_one [] s = refl
filled_one (t ∷ ts) s = if_false 0 s ∙ second_one _

module _ (n : ℕ) {tokens : List Lexeme} {here next : ℕ} (a : IsAt tokens here next (OfKind (token.Symbol symbol.LBracket))) where
  bracket_chosen : choice (of_exp e.arg) (drop here tokens) ≡ 2
  bracket_chosen = chosen_mark_at (choice (of_exp e.arg)) a (λ w s us. refl)

  module _ {end : ℕ} (b : IsAt tokens next end (OfKind (token.Symbol symbol.RBracket))) where
    pub arg_nil_refused : {r : Refusal} → Refused language n (of_exp e.dots) (drop end tokens) r → Refused language n (of_exp e.arg) (drop here tokens) r
    arg_nil_refused h = refused_by decided 2 n (omega arith) bracket_chosen (mark_read a (one_refused
        (refused_by decided 0 n (omega arith) (chosen_mark_at (choice (of_exp e.bracketed)) b (λ w s us. refl)) (one_read decided (nil_ends b) (one_refused h)))))

    pub arg_nil_read : {last : ℕ} {x : Exp} → Moves tokens here last → NilRead tokens here end last x → GivenRead n tokens here last (value x)
    arg_nil_read {last = last} m q = let r = q.read n in let lt = (moves_on (mark_moves a) (mark_moves b)).on in
        let inner : Read language n (of_exp e.bracketed) (drop next tokens) (drop last tokens) (empty (span_of tokens next end) q.names) = reads_by 0 n (omega arith)
        (record { v = (span_of tokens next end, (q.names, tt)); span = no_span; is_span = refl; allowed = refl; builds = refl; fills = an_one (nil_ends b) (an_one r nothing) }) r.stops in
        let fl = a_mark {n = n} a (an_one inner nothing) in
        reads_by 2 n (omega arith) (record {
          v = (empty (span_of tokens next end) q.names, tt);
          span = span_of tokens here last;
          fills = fl;
          is_span = covers tokens here last m fl.taken fl.split;
          allowed = refl;
          builds = ap (λ z. given_at (span_of tokens here last) (value z)) (q.is ∙ ap (λ z. projected (span_of tokens here last) (at z form.Nil) q.names) (span_join tokens here last next end m (mark_moves b) lt));
        }) inner.stops

  module _ (o : Other tokens next (OfKind (token.Symbol symbol.RBracket))) where
    pub arg_con_refused : {r : Refusal} → Refused language n (of_con (c.con places.Plain)) (drop next tokens) r → Refused language n (of_exp e.arg) (drop here tokens) r
    arg_con_refused h = refused_by decided 2 n (omega arith) bracket_chosen (mark_read a (one_refused (refused_by decided 1 n (omega arith) (filled_one _ (missing refl o)) (one_refused h))))

    pub arg_con_open : (mid : ℕ) {t : Con} {r : Refusal} → Read language n (of_con (c.con places.Plain)) (drop next tokens) (drop mid tokens) t → Unexpected tokens mid (OfKind (token.Symbol symbol.RBracket)) r → Refused language n (of_exp e.arg) (drop here tokens) r
    arg_con_open mid f u = refused_by decided 2 n (omega arith) bracket_chosen (mark_read a (one_refused (refused_by decided 1 n (omega arith) (filled_one _ (missing refl o)) (one_read decided f (no_mark u)))))

-- a constructor in brackets, behind which a dot stands
pub arg_con_dotted : (n : ℕ) {tokens : List Lexeme} {here next : ℕ} (mid end : ℕ) {last : ℕ} {t : Con} {r : Refusal} → Other tokens next (OfKind (token.Symbol symbol.RBracket)) → IsAt tokens here next (OfKind (token.Symbol symbol.LBracket)) →
    Read language n (of_con (c.con places.Plain)) (drop next tokens) (drop mid tokens) t → IsAt tokens mid end (OfKind (token.Symbol symbol.RBracket)) → IsAt tokens end last (OfKind (token.Symbol symbol.Dot)) → Says r 5 [] [] → Refused language n (of_exp e.arg) (drop here tokens) r
arg_con_dotted n mid end o a f b d says = refused_by decided 2 n (omega arith) (chosen_mark_at (choice (of_exp e.arg)) a (λ w s us. refl)) (mark_read a (one_refused
    (refused_by decided 1 n (omega arith) (filled_one _ (missing refl o)) (one_read decided f (mark_read b (cannot_end (dot_class ∷ []) says (starts_at (member (dot_class ∷ [])) d (λ w. refl)) (λ p. p.stops)))))))

-- and none
pub arg_con_read : (n : ℕ) {tokens : List Lexeme} {here next : ℕ} (mid : ℕ) {end : ℕ} {t : Con} → Moves tokens here end → IsAt tokens here next (OfKind (token.Symbol symbol.LBracket)) → Read language n (of_con (c.con places.Plain)) (drop next tokens) (drop mid tokens) t →
    IsAt tokens mid end (OfKind (token.Symbol symbol.RBracket)) → Other tokens end (OfKind (token.Symbol symbol.Dot)) → GivenRead n tokens here end (type t)
arg_con_read n {tokens = tokens} {here = here} {next = next} mid {end = end} {t = t} m a f b o =
    let inner : Read language n (of_exp e.bracketed) (drop next tokens) (drop end tokens) (con t) = reads_by 1 n (omega arith) (record { v = (t, tt); span = no_span; is_span = refl; allowed = refl; builds = refl; fills = an_one f (a_mark b nothing) }) (missing refl o) in
    let fl = a_mark {n = n} a (an_one inner nothing) in
    reads_by 2 n (omega arith) (record { v = (con t, tt); span = span_of tokens here end; fills = fl; is_span = covers tokens here end m fl.taken fl.split; allowed = refl; builds = refl }) inner.stops

-- Applications are read in a loop.
use Rattle.std.specs.Prelude.{◌≡◌, ◌<◌, ℕ, Bool, true, false, if◌then◌else◌, List, [], ◌∷◌, ◌++◌, drop, refl}
use Rattle.std.proofs.Common.{sym, ◌∙◌, ap, arith, append_assoc}
use Rattle.std.proofs.lemmas.List.{append-nil}
use Rattle.ur_base.specs.declared.refusal.Span.{Span}
use Rattle.ur_base.specs.declared.refusal.Refusal.{Refusal}
use Rattle.ur_lex.specs.declared.token.Lexeme.{Lexeme}
use Rattle.ur_syntax.specs.declared.exp.Exp.{Exp}
use Rattle.ur_parse_rules.specs.Rules.{Read, Refused, Stops, no_span}
use Rattle.ur_parse_rules.specs.Places.{Moves, span_of, starts}
use Rattle.ur_parse_rules.proofs.Tokens.{covers}
use Rattle.ur_parse_rules.proofs.Steps.{Leads, nothing, an_one, one_read, one_refused, reads_by, refused_by, leads_here}
use Rattle.ur_parse_rules.proofs.Choices.{if_true, first_stops}
use Rattle.ur_parse_rules.specs.Forms.{up_to}
use Rattle.ur_parse_rules.specs.Classes.{member}
use Rattle.ur_parse_rules.specs.Ends.{exp_args, dot_class}
use Rattle.ur_parse_rules.specs.Expressions.{applied, apply_to}
use Rattle.ur_parse_rules.specs.ExpParts.{app, args, arg, head}
use Rattle.ur_parse_rules.specs.Parts.{of_exp, Given, GivenAt}
use Rattle.ur_parse_rules.specs.Language.{language}
use Rattle.ur_parse_rules.proofs.Choice.{choice}
use Rattle.ur_parse_rules.proofs.AllDecided.{decided}
use Rattle.ur_parse_rules.proofs.Tests.{false_true}
use Rattle.ur_parse_rules.proofs.Places.{span_join, stops_cons}

applied-push : (b : Span) (h : Exp) (xs : List GivenAt) (x : GivenAt) → applied b h (xs ++ x ∷ []) ≡ apply_to (up_to b x.span) (applied b h xs) x.given
applied-push b h [] x = refl
applied-push b h (y ∷ xs) x = applied-push b (apply_to (up_to b y.span) h y.given) xs x

up_to-begin : (b b' s : Span) → b.file ≡ b'.file → b.from ≡ b'.from → up_to b s ≡ up_to b' s
up_to-begin b b' s e f = ap (λ z. let s : Span = record { file = z; from = b.from; to = s.to } in s) e ∙ ap (λ z. let s : Span = record { file = b'.file; from = z; to = s.to } in s) f

-- only the begin of the span counts
applied-begin : (b b' : Span) (h : Exp) (xs : List GivenAt) → b.file ≡ b'.file → b.from ≡ b'.from → applied b h xs ≡ applied b' h xs
applied-begin b b' h [] e f = refl
applied-begin b b' h (x ∷ xs) e f = applied-begin b b' (apply_to (up_to b x.span) h x.given) xs e f ∙ ap (λ z. applied b' (apply_to z h x.given) xs) (up_to-begin b b' x.span e f)

only_one : (b : Bool) → let z : ℕ = if b then 0 else 0 in z ≡ 0
only_one true = refl
only_one false = refl

single : (ts : List Lexeme) → choice (of_exp app) ts ≡ 0
single [] = refl
single (t ∷ ts) = only_one _

an_arg : (ts : List Lexeme) → starts (member exp_args) ts ≡ true → choice (of_exp args) ts ≡ 1
an_arg [] s = false_true s
an_arg (t ∷ ts) s = if_true 0 s

-- arguments are read from one place up to another, behind which no dot stands
pub record Applied (n : ℕ) (tokens : List Lexeme) (here first next : ℕ) (function f : Exp) : Type 0 where
  pub xs : List GivenAt
  pub is : f ≡ applied (span_of tokens here first) function xs
  pub leads : Leads language n (of_exp args) (of_exp args) (drop first tokens) (drop next tokens) (λ ys. xs ++ ys)
  pub undotted : Stops (member (dot_class ∷ [])) (drop next tokens)

pub apply_first : {n : ℕ} {tokens : List Lexeme} {here first : ℕ} {function : Exp} → Stops (member (dot_class ∷ [])) (drop first tokens) → Applied n tokens here first first function function
apply_first s = record { xs = []; is = refl; leads = leads_here; undotted = s }

arg_leads : (n : ℕ) (tokens : List Lexeme) (i j : ℕ) (x : GivenAt) → starts (member exp_args) (drop i tokens) ≡ true → Read language n (of_exp arg) (drop i tokens) (drop j tokens) x →
    Leads language n (of_exp args) (of_exp args) (drop i tokens) (drop j tokens) (λ ys. x ∷ ys)
arg_leads n tokens i j x s r = record {
  found = λ rest ys a. reads_by 1 n (omega arith) (record { v = (x, (ys, tt)); span = no_span; is_span = refl; allowed = refl; builds = refl; fills = an_one r (an_one a nothing) }) a.stops;
  refused = λ ref h. refused_by decided 1 n (omega arith) (an_arg (drop i tokens) s) (one_read decided r (one_refused h));
}

module _ {n : ℕ} {tokens : List Lexeme} {here first next : ℕ} {function f : Exp} where
  pub apply_more : {next' : ℕ} {g : Given} → Moves tokens here first → here < next' → Moves tokens next next' → Applied n tokens here first next function f → starts (member exp_args) (drop next tokens) ≡ true →
      (let x : GivenAt = record { span = span_of tokens next next'; given = g } in Read language n (of_exp arg) (drop next tokens) (drop next' tokens) x) → Applied n tokens here first next' function (apply_to (span_of tokens here next') f g)
  apply_more {next' = next'} {g = g} m lt m' k s r = let x : GivenAt = record { span = span_of tokens next next'; given = g } in let l = arg_leads n tokens next next' x s r in record {
    xs = k.xs ++ x ∷ [];
    is = ap (λ z. apply_to z f g) (span_join tokens here first next next' m m' lt) ∙ ap (λ z. apply_to (up_to (span_of tokens here first) (span_of tokens next next')) z g) k.is ∙ sym (applied-push (span_of tokens here first) function k.xs x);
    leads = record {
      found = λ rest ys a. rw (append_assoc k.xs (x ∷ []) ys) (k.leads.found rest (x ∷ ys) (l.found rest ys a));
      refused = λ ref h. k.leads.refused ref (l.refused ref h);
    };
    undotted = r.stops;
  }

  -- what is wrong with an argument is wrong with the application
  pub apply_refused : {r : Refusal} → Applied n tokens here first next function f → starts (member exp_args) (drop next tokens) ≡ true → Read language n (of_exp head) (drop here tokens) (drop first tokens) function →
      Refused language n (of_exp arg) (drop next tokens) r → Refused language n (of_exp app) (drop here tokens) r
  apply_refused k s r h = refused_by decided 0 n (omega arith) (single (drop here tokens)) (one_read decided r (one_refused (k.leads.refused _ (refused_by decided 1 n (omega arith) (an_arg (drop next tokens) s) (one_refused h)))))

  pub apply_done : Moves tokens here first → Moves tokens here next → Applied n tokens here first next function f → starts (member exp_args) (drop next tokens) ≡ false → Read language n (of_exp head) (drop here tokens) (drop first tokens) function →
      Read language n (of_exp app) (drop here tokens) (drop next tokens) f
  apply_done m m' k s r = let stop = stops_cons dot_class exp_args (drop next tokens) k.undotted (first_stops (member exp_args) (drop next tokens) s) in
      let e : Read language n (of_exp args) (drop next tokens) (drop next tokens) [] = reads_by 0 n (omega arith) (record { v = tt; span = no_span; is_span = refl; allowed = refl; builds = refl; fills = nothing }) stop in
      let b = k.leads.found (drop next tokens) [] e in let fl = an_one {n = n} r (an_one b nothing) in let j = span_join tokens here first here next m m' m'.on in
      reads_by 0 n (omega arith) (record {
        v = (function, (k.xs ++ [], tt));
        span = span_of tokens here next;
        fills = fl;
        is_span = covers tokens here next m' fl.taken fl.split;
        allowed = refl;
        builds = k.is ∙ applied-begin (span_of tokens here first) (span_of tokens here next) function k.xs (ap (λ (z : Span). z.file) (sym j)) (ap (λ (z : Span). z.from) (sym j)) ∙ ap (λ z. applied (span_of tokens here next) function z) (sym (append-nil k.xs));
      }) stop

pub head_refused : {n : ℕ} (tokens : List Lexeme) (here : ℕ) {r : Refusal} → Refused language n (of_exp head) (drop here tokens) r → Refused language n (of_exp app) (drop here tokens) r
head_refused {n = n} tokens here h = refused_by decided 0 n (omega arith) (single (drop here tokens)) (one_refused h)

-- Arguments are read in a loop.
use Rattle.std.specs.Prelude.{◌≡◌, ℕ, Bool, true, false, ◌<◌, ◌+◌, List, [], ◌∷◌, ◌++◌, drop, refl}
use Rattle.std.proofs.Common.{sym, ◌∙◌, ap, subst, inl, inr, arith, append_assoc}
use Rattle.std.proofs.lemmas.List.{append-nil}
use Rattle.ur_base.specs.declared.refusal.Span.{Span}
use Rattle.ur_base.specs.declared.refusal.Refusal.{Refusal}
use Rattle.ur_base.specs.Stopping.{Says}
use Rattle.ur_lex.specs.declared.token.Lexeme.{Lexeme}
use Rattle.ur_syntax.specs.declared.con.ConForm.TheVariants as form
use Rattle.ur_syntax.specs.declared.con.Con.{Con}
use Rattle.ur_parse_rules.specs.Rules.{Read, Refused, no_span, Stops, Sym, AnyOf, Builds, Spells, part}
use Rattle.ur_parse_rules.specs.Places.{Moves, span_of, starts}
use Rattle.ur_parse_rules.proofs.Inversions.{produced-out, nothing-out}
use Rattle.ur_parse_rules.proofs.Tokens.{covers}
use Rattle.ur_parse_rules.proofs.Steps.{Leads, nothing, an_one, one_read, one_refused, reads_by, refused_by, leads_here, never_fits, not_allowed}
use Rattle.ur_parse_rules.proofs.Choices.{first_stops, stops_first}
use Rattle.ur_parse_rules.specs.Classes.{member}
use Rattle.ur_parse_rules.specs.ConParts.{app, args, arg, atom}
use Rattle.ur_parse_rules.specs.Constructors.{applied, is_whole, may_take}
use Rattle.ur_parse_rules.specs.Ends.{con_args}
use Rattle.ur_parse_rules.specs.Parts.{Arg, of_con, Tree}
use Rattle.ur_parse_rules.specs.Language.{language, rules}
use Rattle.ur_parse_rules.proofs.AllDecided.{decided}
use Rattle.ur_parse_rules.proofs.Tests.{false_true}
use Rattle.ur_parse_rules.proofs.Places.{ends_empty, span_join}
use Rattle.ur_parse_con.proofs.Classed.{an_argument, single_app, single_arg}

applied-push : (b : Span) (h : Con) (xs : List Arg) (x : Arg) → applied b h (xs ++ x ∷ []) ≡ record { span = record { file = b.file; from = b.from; to = x.span.to }; form = form.App (applied b h xs) x.con }
applied-push b h [] x = refl
applied-push b h (y ∷ xs) x = applied-push b (record { span = record { file = b.file; from = b.from; to = y.span.to }; form = form.App h y.con }) xs x

applied-begin : (b b' : Span) (h : Con) (xs : List Arg) → b.file ≡ b'.file → b.from ≡ b'.from → applied b h xs ≡ applied b' h xs
applied-begin b b' h [] e f = refl
applied-begin b b' h (x ∷ xs) e f = applied-begin b b' (record { span = record { file = b.file; from = b.from; to = x.span.to }; form = form.App h x.con }) xs e f
    ∙ ap (λ z. applied b' (record { span = z; form = form.App h x.con }) xs) (ap (λ z. let s : Span = record { file = z; from = b.from; to = x.span.to } in s) e ∙ ap (λ z. let s : Span = record { file = b'.file; from = z; to = x.span.to } in s) f)

-- arguments are read from one place up to another
pub record ArgsRead (n : ℕ) (keys : Bool) (tokens : List Lexeme) (at first next : ℕ) (head f : Con) : Type 0 where
  pub xs : List Arg
  pub is : f ≡ applied (span_of tokens at first) head xs
  pub leads : Leads language n (of_con (args keys)) (of_con (args keys)) (drop first tokens) (drop next tokens) (λ ys. xs ++ ys)

pub args_first : {n : ℕ} {keys : Bool} {tokens : List Lexeme} {at first : ℕ} {head : Con} → ArgsRead n keys tokens at first first head head
args_first = record { xs = []; is = refl; leads = leads_here }

-- an argument with its span
arg_read : (n : ℕ) (keys : Bool) (tokens : List Lexeme) (i j : ℕ) (c : Con) → Moves tokens i j → is_whole c ≡ true → Read language n (of_con (atom keys)) (drop i tokens) (drop j tokens) c →
    Read language n (of_con (arg keys)) (drop i tokens) (drop j tokens) (record { span = span_of tokens i j; con = c })
arg_read n keys tokens i j c m w r = let f = an_one {n = n} r nothing in
    reads_by 0 n (omega arith) (record { v = (c, tt); span = span_of tokens i j; fills = f; is_span = covers tokens i j m f.taken f.split; allowed = w; builds = refl }) (ends_empty _)

-- one more leads on
arg_leads : (n : ℕ) (keys : Bool) (tokens : List Lexeme) (i j : ℕ) (x : Arg) → starts (member (con_args keys)) (drop i tokens) ≡ true → Read language n (of_con (arg keys)) (drop i tokens) (drop j tokens) x →
    Leads language n (of_con (args keys)) (of_con (args keys)) (drop i tokens) (drop j tokens) (λ ys. x ∷ ys)
arg_leads n keys tokens i j x s r = record {
  found = λ rest ys a. reads_by 1 n (omega arith) (record { v = (x, (ys, tt)); span = no_span; is_span = refl; allowed = refl; builds = refl; fills = an_one r (an_one a nothing) }) a.stops;
  refused = λ ref h. refused_by decided 1 n (omega arith) (an_argument keys (drop i tokens) s) (one_read decided r (one_refused h));
}

may : {A : Type 0} (c : Con) → is_whole c ≡ true → (xs : List A) → may_take c xs ≡ true
may c w [] = refl
may c w (x ∷ xs) = w

module _ {n : ℕ} {keys : Bool} {tokens : List Lexeme} {at first next : ℕ} {head f : Con} where
  pub args_more : {next' : ℕ} {c : Con} → Moves tokens at first → at < next' → ArgsRead n keys tokens at first next head f → starts (member (con_args keys)) (drop next tokens) ≡ true → Moves tokens next next' → is_whole c ≡ true →
      Read language n (of_con (atom keys)) (drop next tokens) (drop next' tokens) c → ArgsRead n keys tokens at first next' head (record { span = span_of tokens at next'; form = form.App f c })
  args_more {next' = next'} {c = c} m lt k s m' w r = let x : Arg = record { span = span_of tokens next next'; con = c } in let l = arg_leads n keys tokens next next' x s (arg_read n keys tokens next next' c m' w r) in record {
    xs = k.xs ++ x ∷ [];
    is = ap (λ z. let d : Con = record { span = z; form = form.App f c } in d) (span_join tokens at first next next' m m' lt)
        ∙ ap (λ z. let d : Con = record { span = record { file = (span_of tokens at first).file; from = (span_of tokens at first).from; to = (span_of tokens next next').to }; form = form.App z c } in d) k.is
        ∙ sym (applied-push (span_of tokens at first) head k.xs x);
    leads = record {
      found = λ rest ys a. rw (append_assoc k.xs (x ∷ []) ys) (k.leads.found rest (x ∷ ys) (l.found rest ys a));
      refused = λ ref h. k.leads.refused ref (l.refused ref h);
    };
  }

  -- what is wrong with an argument is wrong with the application
  pub args_refused : {ref : Refusal} → ArgsRead n keys tokens at first next head f → starts (member (con_args keys)) (drop next tokens) ≡ true → Read language n (of_con (atom false)) (drop at tokens) (drop first tokens) head →
      Refused language n (of_con (arg keys)) (drop next tokens) ref → Refused language n (of_con (app keys)) (drop at tokens) ref
  args_refused k s r h = refused_by decided 0 n (omega arith) (single_app keys (drop at tokens)) (one_read decided r (one_refused (k.leads.refused _ (refused_by decided 1 n (omega arith) (an_argument keys (drop next tokens) s) (one_refused h)))))

  pub args_done : Moves tokens at first → Moves tokens at next → ArgsRead n keys tokens at first next head f → starts (member (con_args keys)) (drop next tokens) ≡ false → is_whole head ≡ true → Read language n (of_con (atom false)) (drop at tokens) (drop first tokens) head →
      Read language n (of_con (app keys)) (drop at tokens) (drop next tokens) f
  args_done m m' k s w r = let stop = first_stops (member (con_args keys)) (drop next tokens) s in
      let e : Read language n (of_con (args keys)) (drop next tokens) (drop next tokens) [] = reads_by 0 n (omega arith) (record { v = tt; span = no_span; is_span = refl; allowed = refl; builds = refl; fills = nothing }) stop in
      let b = k.leads.found (drop next tokens) [] e in let fl = an_one {n = n} r (an_one b nothing) in
      reads_by 0 n (omega arith) (record {
        v = (head, (k.xs ++ [], tt));
        span = span_of tokens at next;
        fills = fl;
        is_span = covers tokens at next m' fl.taken fl.split;
        allowed = may head w (k.xs ++ []);
        builds = k.is ∙ applied-begin (span_of tokens at first) (span_of tokens at next) head k.xs (ap (λ (z : Span). z.file) (sym (span_join tokens at first at next m m' m'.on))) (ap (λ (z : Span). z.from) (sym (span_join tokens at first at next m m' m'.on)))
            ∙ ap (λ z. applied (span_of tokens at next) head z) (sym (append-nil k.xs));
      }) stop

-- an application without arguments
pub app_bare : {n : ℕ} {keys : Bool} {tokens : List Lexeme} {at first : ℕ} {head : Con} → Moves tokens at first → starts (member (con_args keys)) (drop first tokens) ≡ false → Read language n (of_con (atom false)) (drop at tokens) (drop first tokens) head →
    Read language n (of_con (app keys)) (drop at tokens) (drop first tokens) head
app_bare {n = n} {keys = keys} {tokens = tokens} {at = at} {first = first} {head = head} m s r = let stop = first_stops (member (con_args keys)) (drop first tokens) s in
    let e : Read language n (of_con (args keys)) (drop first tokens) (drop first tokens) [] = reads_by 0 n (omega arith) (record { v = tt; span = no_span; is_span = refl; allowed = refl; builds = refl; fills = nothing }) stop in
    let fl = an_one {n = n} r (an_one e nothing) in
    reads_by 0 n (omega arith) (record { v = (head, ([], tt)); span = span_of tokens at first; fills = fl; is_span = covers tokens at first m fl.taken fl.split; allowed = refl; builds = refl }) stop

-- no arguments take no tokens
none_cases : (keys : Bool) (n : ℕ) (x : List Arg) (q : List (Sym Tree)) (i : List Lexeme) → AnyOf (Builds language (of_con (args keys)) x q i) (rules (of_con (args keys))) → Spells language n q i → x ≡ [] → i ≡ []
none_cases keys n x q i (inl (v, span, is, al, b, f)) d e = nothing-out language (subst (λ z. Spells language n z i) f d)
none_cases keys n x q i (inr (inl (v, span, is, al, b, f))) d e = absurd (let z : v.0 ∷ v.1.0 ≡ [] = sym b ∙ e in cc)
none_cases keys n x q i (inr (inr c)) d e = absurd c

unfit_at : (keys : Bool) (head : Con) (tokens : List Lexeme) → is_whole head ≡ false → starts (member (con_args keys)) tokens ≡ true → (xs : List Arg) (m : ℕ) (rest taken : List Lexeme) → tokens ≡ taken ++ rest →
    Spells language m (part (of_con (args keys)) xs ∷ []) taken → may_take head xs ≡ true → Stops (member (con_args keys)) rest → ⊥
unfit_at keys head tokens w s [] m rest taken e d al st = let o = produced-out language d in let z = none_cases keys o.0 [] o.1 o.2 o.4 o.6 refl in
    let same : tokens ≡ rest = e ∙ ap (λ y. y ++ rest) (o.3 ∙ z) in let f : starts (member (con_args keys)) rest ≡ false = stops_first (member (con_args keys)) rest st in
    let g : starts (member (con_args keys)) rest ≡ true = subst (λ y. starts (member (con_args keys)) y ≡ true) same s in absurd (let y : true ≡ false = sym g ∙ f in cc)
unfit_at keys head tokens w s (x ∷ xs) m rest taken e d al st = absurd (let y : true ≡ false = sym al ∙ w in cc)

-- a head that is not whole takes no arguments
pub head_refused : {n : ℕ} {keys : Bool} (tokens : List Lexeme) (at first : ℕ) {head : Con} {ref : Refusal} → Says ref 5 [] [] → is_whole head ≡ false → starts (member (con_args keys)) (drop first tokens) ≡ true →
    Read language n (of_con (atom false)) (drop at tokens) (drop first tokens) head → Refused language n (of_con (app keys)) (drop at tokens) ref
head_refused {n = n} {keys = keys} tokens at first {head = head} says w s r = refused_by decided 0 n (omega arith) (single_app keys (drop at tokens)) (one_read decided r (never_fits says (λ m v rest f p. unfit_at keys head (drop first tokens) w s v.0 m rest f.taken f.split f.spells p.allowed p.stops)))

-- ---- what is refused

module _ {n : ℕ} {keys : Bool} (tokens : List Lexeme) (at : ℕ) where
  pub app_first : {r : Refusal} → Refused language n (of_con (atom false)) (drop at tokens) r → Refused language n (of_con (app keys)) (drop at tokens) r
  app_first h = refused_by decided 0 n (omega arith) (single_app keys (drop at tokens)) (one_refused h)

  pub arg_first : {r : Refusal} → Refused language n (of_con (atom keys)) (drop at tokens) r → Refused language n (of_con (arg keys)) (drop at tokens) r
  arg_first h = refused_by decided 0 n (omega arith) (single_arg keys (drop at tokens)) (one_refused h)

  pub arg_broken : (end : ℕ) {c : Con} {r : Refusal} → Says r 5 [] [] → is_whole c ≡ false → Read language n (of_con (atom keys)) (drop at tokens) (drop end tokens) c → Refused language n (of_con (arg keys)) (drop at tokens) r
  arg_broken end says w h = refused_by decided 0 n (omega arith) (single_arg keys (drop at tokens)) (one_read decided h (not_allowed says (λ rest p. let y = p.allowed in false_true (sym w ∙ y))))

-- The branches of a `case` are read in a loop.
use Rattle.std.specs.Prelude.{◌≡◌, ◌+◌, ℕ, Bool, true, false, not, ◌||◌, ◌&&◌, if◌then◌else◌, List, [], ◌∷◌, ◌++◌, drop, Some, None, refl}
use Rattle.std.proofs.Common.{sym, ◌∙◌, ap, subst, arith, append_assoc}
use Rattle.ur_base.specs.declared.refusal.Refusal.{Refusal}
use Rattle.ur_base.specs.Stopping.{Says}
use Rattle.ur_lex.specs.declared.token.Symbol.TheVariants as symbol
use Rattle.ur_lex.specs.declared.token.TokenKind.TheVariants as token
use Rattle.ur_lex.specs.declared.token.Lexeme.{Lexeme}
use Rattle.ur_syntax.specs.declared.exp.Branch.{Branch}
use Rattle.ur_syntax.specs.declared.exp.Pat.{Pat}
use Rattle.ur_parse_rules.specs.Rules.{Read, Refused, Stops, no_span}
use Rattle.ur_parse_rules.specs.Places.{IsAt, Other, OfKind, Unexpected}
use Rattle.ur_parse_rules.proofs.Steps.{Leads, nothing, a_mark, an_one, mark_read, one_read, one_refused, no_mark, reads_by, refused_by, leads_here}
use Rattle.ur_parse_rules.proofs.Choices.{chosen_mark_at, if_false, starts_at}
use Rattle.ur_parse_rules.specs.Classes.{member, symbol_class}
use Rattle.ur_parse_rules.specs.Ends.{symbols, operators, semicolon, exp_more, branches_more}
use Rattle.ur_parse_rules.specs.Ends as ends
use Rattle.ur_parse_rules.specs.ExpParts.{exp, pat, bar, branches, more_branches}
use Rattle.ur_parse_rules.specs.Parts.{of_exp, Ended}
use Rattle.ur_parse_rules.specs.Language.{language}
use Rattle.ur_parse_rules.proofs.Choice.{choice}
use Rattle.ur_parse_rules.proofs.AllDecided.{decided}
use Rattle.ur_parse_rules.proofs.Places.{missing}
use Rattle.ur_parse_con.proofs.Binders.{cannot_end}
use Rattle.ur_parse_exp_parts.specs.Lists.{branch}
use Rattle.ur_parse_exp.specs.Branches.{BranchRead}

only_one : (b : Bool) → let z : ℕ = if b then 0 else 0 in z ≡ 0
only_one true = refl
only_one false = refl

single : (ts : List Lexeme) → choice (of_exp branches) ts ≡ 0
single [] = refl
single (t ∷ ts) = only_one _

-- what takes a `|` does not stand before one
not_barred : (a : Ended) (tokens : List Lexeme) (i next : ℕ) → Stops (exp_more a) (drop i tokens) → IsAt tokens i next (OfKind (token.Symbol symbol.Bar)) → a.takes_bar ≡ false
not_barred a tokens i next s q = let z : Stops (exp_more a) (q.t ∷ drop (i + 1) tokens) = rw q.at.split at s in
    let k : exp_more a (token.Symbol symbol.Bar) q.t.content ≡ false = rw q.is at z in k

may : (a : Ended) → a.takes_bar ≡ false → not a.takes_bar ≡ true
may a e = rw e refl

unbarred : (o s b u : Bool) → (o || (s || (b && u))) ≡ false → b ≡ false → (o || (s || b)) ≡ false
unbarred true s b u e f = e
unbarred false true b u e f = e
unbarred false false b u e f = f

-- behind a body, where no `|` stands
ends_branch : (a : Ended) (ts : List Lexeme) → Stops (exp_more a) ts → Stops ends.bar ts → Stops branches_more ts
ends_branch a [] s u = tt
ends_branch a (t ∷ ts) s u = unbarred (member operators t.kind t.content) (semicolon t.kind t.content) (ends.bar t.kind t.content) a.takes_bar s u

unfollowed : (ts : List Lexeme) → Stops (member (symbol_class symbol.Bar ∷ [])) ts → choice (of_exp more_branches) ts ≡ 0
unfollowed [] s = refl
unfollowed (t ∷ ts) s = if_false 1 s

-- ---- one branch

module _ {n : ℕ} (tokens : List Lexeme) (i : ℕ) where
  pub pattern_refused : {r : Refusal} → Refused language n (of_exp pat) (drop i tokens) r → Refused language n (of_exp branches) (drop i tokens) r
  pattern_refused h = refused_by decided 0 n (omega arith) (single (drop i tokens)) (one_refused h)

  module _ (middle : ℕ) {p : Pat} (h : Read language n (of_exp pat) (drop i tokens) (drop middle tokens) p) where
    pub arrow_missing : {r : Refusal} → Unexpected tokens middle (OfKind (token.Symbol symbol.FatArrow)) r → Refused language n (of_exp branches) (drop i tokens) r
    arrow_missing u = refused_by decided 0 n (omega arith) (single (drop i tokens)) (one_read decided h (no_mark u))

    pub body_refused : {begin : ℕ} {r : Refusal} → IsAt tokens middle begin (OfKind (token.Symbol symbol.FatArrow)) → Refused language n (of_exp exp) (drop begin tokens) r → Refused language n (of_exp branches) (drop i tokens) r
    body_refused a g = refused_by decided 0 n (omega arith) (single (drop i tokens)) (one_read decided h (mark_read a (one_refused g)))

-- ---- the loop

-- the last branch, and those before it
pub record Branched (n : ℕ) (tokens : List Lexeme) (here end : ℕ) (bs : List Branch) : Type 0 where
  pub before : List Branch
  pub begin : ℕ
  pub last : BranchRead n tokens begin end before bs
  pub leads : Leads language n (of_exp branches) (of_exp branches) (drop here tokens) (drop begin tokens) (λ ys. before ++ ys)

module _ {n : ℕ} {tokens : List Lexeme} {here : ℕ} where
  pub branched_first : {end : ℕ} {bs : List Branch} → BranchRead n tokens here end [] bs → Branched n tokens here end bs
  branched_first h = record { before = []; begin = here; last = h; leads = leads_here }

  module _ {end : ℕ} {bs : List Branch} (c : Branched n tokens here end bs) where
    one_more : {next : ℕ} → IsAt tokens end next (OfKind (token.Symbol symbol.Bar)) → Leads language n (of_exp branches) (of_exp branches) (drop c.begin tokens) (drop next tokens) (λ ys. branch c.last.of c.last.body.exp ∷ ys)
    one_more {next = next} q = let l = c.last in record {
      found = λ rest ys b. let tail : Read language n (of_exp more_branches) (drop end tokens) rest (Some ys) = reads_by 1 n (omega arith)
          (record { v = (ys, tt); span = no_span; is_span = refl; allowed = refl; builds = refl; fills = a_mark q (an_one b nothing) }) b.stops in
          reads_by 0 n (omega arith) (record {
            v = (l.of, (l.body, (Some ys, tt)));
            span = no_span;
            is_span = refl;
            allowed = may l.body (not_barred l.body tokens end next l.read.stops q);
            builds = refl;
            fills = an_one l.pattern (a_mark l.arrow (an_one l.read (an_one tail nothing)));
          }) b.stops;
      refused = λ ref h. refused_by decided 0 n (omega arith) (single (drop c.begin tokens)) (one_read decided l.pattern (mark_read l.arrow (one_read decided l.read (one_refused
          (refused_by decided 1 n (omega arith) (chosen_mark_at (choice (of_exp more_branches)) q (λ w s us. refl)) (mark_read q (one_refused h)))))));
    }

    behind : {next : ℕ} → IsAt tokens end next (OfKind (token.Symbol symbol.Bar)) → Leads language n (of_exp branches) (of_exp branches) (drop here tokens) (drop next tokens) (λ ys. bs ++ ys)
    behind {next = next} q = let k = one_more q in let b : Branch = branch c.last.of c.last.body.exp in record {
      found = λ rest ys h. let e : (c.before ++ b ∷ []) ++ ys ≡ bs ++ ys = ap (λ z. z ++ ys) (sym c.last.is) in
          subst (λ z. Read language n (of_exp branches) (drop here tokens) rest z) (sym (append_assoc c.before (b ∷ []) ys) ∙ e) (c.leads.found rest (b ∷ ys) (k.found rest ys h));
      refused = λ ref h. c.leads.refused ref (k.refused ref h);
    }

    pub branched_more : {next stop : ℕ} {cs : List Branch} → IsAt tokens end next (OfKind (token.Symbol symbol.Bar)) → BranchRead n tokens next stop bs cs → Branched n tokens here stop cs
    branched_more {next = next} q h = record { before = bs; begin = next; last = h; leads = behind q }

    pub branched_refused : {next : ℕ} {r : Refusal} → IsAt tokens end next (OfKind (token.Symbol symbol.Bar)) → Refused language n (of_exp branches) (drop next tokens) r → Refused language n (of_exp branches) (drop here tokens) r
    branched_refused q h = c.leads.refused _ ((one_more q).refused _ h)

    pub branched_done : Other tokens end (OfKind (token.Symbol symbol.Bar)) → Read language n (of_exp branches) (drop here tokens) (drop end tokens) bs
    branched_done o = let l = c.last in let u : Stops (member (symbol_class symbol.Bar ∷ [])) (drop end tokens) = missing refl o in let s = ends_branch l.body (drop end tokens) l.read.stops u in
        let b : Branch = branch l.of l.body.exp in
        let tail : Read language n (of_exp more_branches) (drop end tokens) (drop end tokens) None = reads_by 0 n (omega arith) (record { v = tt; span = no_span; is_span = refl; allowed = refl; builds = refl; fills = nothing }) s in
        let whole : Read language n (of_exp branches) (drop c.begin tokens) (drop end tokens) (b ∷ []) = reads_by 0 n (omega arith) (record {
          v = (l.of, (l.body, (None, tt)));
          span = no_span;
          is_span = refl;
          allowed = refl;
          builds = refl;
          fills = an_one l.pattern (a_mark l.arrow (an_one l.read (an_one tail nothing)));
        }) s in
        subst (λ z. Read language n (of_exp branches) (drop here tokens) (drop end tokens) z) (sym l.is) (c.leads.found (drop end tokens) (b ∷ []) whole)

-- ---- `|` before the first branch

barless : (ts : List Lexeme) → Stops (member (symbol_class symbol.Bar ∷ [])) ts → choice (of_exp bar) ts ≡ 0
barless [] s = refl
barless (t ∷ ts) s = if_false 1 s

module _ {tokens : List Lexeme} {i : ℕ} where
  pub no_bar : Other tokens i (OfKind (token.Symbol symbol.Bar)) → (n : ℕ) → Read language n (of_exp bar) (drop i tokens) (drop i tokens) tt
  no_bar o n = reads_by 0 n (omega arith) (record { v = tt; span = no_span; is_span = refl; allowed = refl; builds = refl; fills = nothing }) (missing refl o)

  module _ {next : ℕ} (a : IsAt tokens i next (OfKind (token.Symbol symbol.Bar))) where
    pub one_bar : Other tokens next (OfKind (token.Symbol symbol.Bar)) → (n : ℕ) → Read language n (of_exp bar) (drop i tokens) (drop next tokens) tt
    one_bar o n = reads_by 1 n (omega arith) (record { v = tt; span = no_span; is_span = refl; allowed = refl; builds = refl; fills = a_mark a nothing }) (missing refl o)

    pub two_bars : {last : ℕ} {r : Refusal} → IsAt tokens next last (OfKind (token.Symbol symbol.Bar)) → Says r 5 [] [] → (n : ℕ) → Refused language n (of_exp bar) (drop i tokens) r
    two_bars b says n = refused_by decided 1 n (omega arith) (chosen_mark_at (choice (of_exp bar)) a (λ w s us. refl))
        (mark_read a (cannot_end (symbol_class symbol.Bar ∷ []) says (starts_at (member (symbol_class symbol.Bar ∷ [])) b (λ w. refl)) (λ p. p.stops)))

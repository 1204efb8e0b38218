-- The parameters of a lambda are read in a loop.
use Rattle.std.specs.Prelude.{◌≡◌, ℕ, Bool, true, false, ◌||◌, if◌then◌else◌, List, [], ◌∷◌, ◌++◌, drop, refl}
use Rattle.std.proofs.Common.{sym, ◌∙◌, ap, arith, append_assoc}
use Rattle.std.proofs.lemmas.List.{append-nil}
use Rattle.ur_base.specs.declared.refusal.Refusal.{Refusal}
use Rattle.ur_lex.specs.declared.token.Keyword.TheVariants as keyword
use Rattle.ur_lex.specs.declared.token.Symbol.TheVariants as symbol
use Rattle.ur_lex.specs.declared.token.TokenKind.TheVariants as token
use Rattle.ur_lex.specs.declared.token.Lexeme.{Lexeme}
use Rattle.ur_syntax.specs.declared.con.ConParam.{ConParam}
use Rattle.ur_syntax.specs.declared.exp.Binder.{Binder}
use Rattle.ur_syntax.specs.declared.exp.Param.{Param}
use Rattle.ur_syntax.specs.declared.exp.LambdaParam.{LambdaParam}
use Rattle.ur_syntax.specs.declared.exp.LambdaParam.TheVariants as params
use Rattle.ur_parse_rules.specs.Rules.{Read, Refused, Stops, no_span}
use Rattle.ur_parse_rules.specs.Places.{IsAt, Other, OfKind, Unexpected, starts}
use Rattle.ur_parse_rules.proofs.Steps.{Leads, nothing, an_one, mark_read, one_read, one_refused, no_mark, reads_by, refused_by, leads_here}
use Rattle.ur_parse_rules.proofs.Choices.{chosen_mark_at, if_true, if_false, first_stops, starts_at}
use Rattle.ur_parse_rules.specs.Classes.{member, in_class, symbol_class}
use Rattle.ur_parse_rules.specs.Ends.{binder_starts}
use Rattle.ur_parse_rules.specs.ConParts.{con_param}
use Rattle.ur_parse_rules.specs.ExpParts.{lambda, lambda_param, lambda_params, param, binder}
use Rattle.ur_parse_rules.specs.Parts.{of_con, of_exp}
use Rattle.ur_parse_rules.specs.Language.{language}
use Rattle.ur_parse_rules.proofs.Choice.{choice}
use Rattle.ur_parse_rules.proofs.AllDecided.{decided}
use Rattle.ur_parse_rules.proofs.Tests.{false_true}
use Rattle.ur_parse_rules.proofs.Places.{ends_empty, missing}
use Rattle.ur_parse_exp_parts.specs.Heads.{param_starts, ParamsRead, ParamsRefused, first, behind}

-- ---- whether a parameter begins

skipped : (a b : Bool) → (a || false) ≡ false → b ≡ (a || b)
skipped true b e = false_true (sym e)
skipped false b e = refl

param_by : (ts : List Lexeme) → Stops (member (symbol_class symbol.LParen ∷ [])) ts → Stops (member (symbol_class symbol.LBracket ∷ [])) ts → starts (member binder_starts) ts ≡ starts (member param_starts) ts
param_by [] a b = refl
param_by (t ∷ ts) a b = skipped (in_class (symbol_class symbol.LBracket) t.kind t.content) (member binder_starts t.kind t.content) b
    ∙ skipped (in_class (symbol_class symbol.LParen) t.kind t.content) (member (symbol_class symbol.LBracket ∷ binder_starts) t.kind t.content) a

pub binder_begins : {tokens : List Lexeme} {i : ℕ} → Other tokens i (OfKind (token.Symbol symbol.LParen)) → Other tokens i (OfKind (token.Symbol symbol.LBracket)) → starts (member binder_starts) (drop i tokens) ≡ starts (member param_starts) (drop i tokens)
binder_begins a b = param_by _ (missing refl a) (missing refl b)

pub paren_begins : {tokens : List Lexeme} {i j : ℕ} → IsAt tokens i j (OfKind (token.Symbol symbol.LParen)) → starts (member param_starts) (drop i tokens) ≡ true
paren_begins a = starts_at (member param_starts) a (λ w. refl)

pub bracket_begins : {tokens : List Lexeme} {i j : ℕ} → IsAt tokens i j (OfKind (token.Symbol symbol.LBracket)) → starts (member param_starts) (drop i tokens) ≡ true
bracket_begins a = starts_at (member param_starts) a (λ w. refl)

-- ---- one parameter

third_one : (b : Bool) → let z : ℕ = if b then 2 else 2 in z ≡ 2
third_one true = refl
third_one false = refl

unopened : (ts : List Lexeme) → Stops (member (symbol_class symbol.LParen ∷ [])) ts → Stops (member (symbol_class symbol.LBracket ∷ [])) ts → choice (of_exp lambda_param) ts ≡ 2
unopened [] a b = refl
unopened (t ∷ ts) a b = if_false 0 a ∙ if_false 1 b ∙ third_one _

module _ {n : ℕ} {tokens : List Lexeme} {i : ℕ} where
  pub typed_refused : {j : ℕ} {r : Refusal} → IsAt tokens i j (OfKind (token.Symbol symbol.LParen)) → Refused language n (of_exp param) (drop i tokens) r → Refused language n (of_exp lambda_param) (drop i tokens) r
  typed_refused a h = refused_by decided 0 n (omega arith) (chosen_mark_at (choice (of_exp lambda_param)) a (λ w s us. refl)) (one_refused h)

  pub con_refused : {j : ℕ} {r : Refusal} → IsAt tokens i j (OfKind (token.Symbol symbol.LBracket)) → Refused language n (of_con con_param) (drop i tokens) r → Refused language n (of_exp lambda_param) (drop i tokens) r
  con_refused a h = refused_by decided 1 n (omega arith) (chosen_mark_at (choice (of_exp lambda_param)) a (λ w s us. refl)) (one_refused h)

  pub bare_refused : {r : Refusal} → Other tokens i (OfKind (token.Symbol symbol.LParen)) → Other tokens i (OfKind (token.Symbol symbol.LBracket)) → Refused language n (of_exp binder) (drop i tokens) r → Refused language n (of_exp lambda_param) (drop i tokens) r
  bare_refused a b h = refused_by decided 2 n (omega arith) (unopened _ (missing refl a) (missing refl b)) (one_refused h)

pub typed_read : {n : ℕ} (ts : List Lexeme) (k j : ℕ) {p : Param} → Read language n (of_exp param) (drop k ts) (drop j ts) p → Read language n (of_exp lambda_param) (drop k ts) (drop j ts) (params.Typed p)
typed_read {n = n} ts k j {p = p} h = reads_by 0 n (omega arith) (record { v = (p, tt); span = no_span; is_span = refl; allowed = refl; builds = refl; fills = an_one h nothing }) (ends_empty _)

pub con_read : {n : ℕ} (ts : List Lexeme) (k j : ℕ) {p : ConParam} → Read language n (of_con con_param) (drop k ts) (drop j ts) p → Read language n (of_exp lambda_param) (drop k ts) (drop j ts) (params.Con p)
con_read {n = n} ts k j {p = p} h = reads_by 1 n (omega arith) (record { v = (p, tt); span = no_span; is_span = refl; allowed = refl; builds = refl; fills = an_one h nothing }) (ends_empty _)

pub bare_read : {n : ℕ} (ts : List Lexeme) (k j : ℕ) {p : Binder} → Read language n (of_exp binder) (drop k ts) (drop j ts) p → Read language n (of_exp lambda_param) (drop k ts) (drop j ts) (params.Bare p)
bare_read {n = n} ts k j {p = p} h = reads_by 2 n (omega arith) (record { v = (p, tt); span = no_span; is_span = refl; allowed = refl; builds = refl; fills = an_one h nothing }) (ends_empty _)

-- ---- the loop

only_one : (b : Bool) → let z : ℕ = if b then 0 else 0 in z ≡ 0
only_one true = refl
only_one false = refl

single : (ts : List Lexeme) → choice (of_exp lambda) ts ≡ 0
single [] = refl
single (t ∷ ts) = only_one _

a_param : (ts : List Lexeme) → starts (member param_starts) ts ≡ true → choice (of_exp lambda_params) ts ≡ 1
a_param [] s = false_true s
a_param (t ∷ ts) s = if_true 0 s

-- the first parameter, and those behind it up to a place
pub record Params (n : ℕ) (tokens : List Lexeme) (i k : ℕ) (ps : List LambdaParam) : Type 0 where
  pub one : LambdaParam
  pub others : List LambdaParam
  pub middle : ℕ
  pub is : ps ≡ one ∷ others
  pub read : Read language n (of_exp lambda_param) (drop i tokens) (drop middle tokens) one
  pub leads : Leads language n (of_exp lambda_params) (of_exp lambda_params) (drop middle tokens) (drop k tokens) (λ ys. others ++ ys)

module _ {n : ℕ} {tokens : List Lexeme} {i : ℕ} where
  pub params_first : (k : ℕ) {p : LambdaParam} → Read language n (of_exp lambda_param) (drop i tokens) (drop k tokens) p → Params n tokens i k (p ∷ [])
  params_first k {p = p} h = record { one = p; others = []; middle = k; is = refl; read = h; leads = leads_here }

  module _ {k : ℕ} {ps : List LambdaParam} (c : Params n tokens i k ps) where
    pub params_more : (j : ℕ) {p : LambdaParam} → starts (member param_starts) (drop k tokens) ≡ true → Read language n (of_exp lambda_param) (drop k tokens) (drop j tokens) p → Params n tokens i j (ps ++ p ∷ [])
    params_more j {p = p} s h = record {
      one = c.one;
      others = c.others ++ p ∷ [];
      middle = c.middle;
      is = ap (λ z. z ++ p ∷ []) c.is;
      read = c.read;
      leads = record {
        found = λ rest ys a. rw (append_assoc c.others (p ∷ []) ys) (c.leads.found rest (p ∷ ys)
            (reads_by 1 n (omega arith) (record { v = (p, (ys, tt)); span = no_span; is_span = refl; allowed = refl; builds = refl; fills = an_one h (an_one a nothing) }) a.stops));
        refused = λ ref a. c.leads.refused ref (refused_by decided 1 n (omega arith) (a_param (drop k tokens) s) (one_read decided h (one_refused a)));
      };
    }

    pub params_refused : {r : Refusal} → starts (member param_starts) (drop k tokens) ≡ true → Refused language n (of_exp lambda_param) (drop k tokens) r → ParamsRefused n tokens i r
    params_refused s h = behind c.middle c.one c.read (c.leads.refused _ (refused_by decided 1 n (omega arith) (a_param (drop k tokens) s) (one_refused h)))

    pub params_done : starts (member param_starts) (drop k tokens) ≡ false → ParamsRead n tokens i k ps
    params_done s = record {
      first = c.one;
      others = c.others;
      middle = c.middle;
      is = c.is;
      read = c.read;
      reads = rw append-nil at (c.leads.found (drop k tokens) [] (reads_by 0 n (omega arith) (record { v = tt; span = no_span; is_span = refl; allowed = refl; builds = refl; fills = nothing }) (first_stops (member param_starts) (drop k tokens) s)));
    }

  -- ---- the whole head

  pub fn_missing : {r : Refusal} → Unexpected tokens i (OfKind (token.Keyword keyword.Fn)) r → Refused language n (of_exp lambda) (drop i tokens) r
  fn_missing u = refused_by decided 0 n (omega arith) (single (drop i tokens)) (no_mark u)

  module _ {begin : ℕ} (f : IsAt tokens i begin (OfKind (token.Keyword keyword.Fn))) where
    pub head_params : {r : Refusal} → ParamsRefused n tokens begin r → Refused language n (of_exp lambda) (drop i tokens) r
    head_params (first h) = refused_by decided 0 n (omega arith) (single (drop i tokens)) (mark_read f (one_refused h))
    head_params (behind m p h g) = refused_by decided 0 n (omega arith) (single (drop i tokens)) (mark_read f (one_read decided h (one_refused g)))

    pub head_arrow : (end : ℕ) {ps : List LambdaParam} {r : Refusal} → ParamsRead n tokens begin end ps → Unexpected tokens end (OfKind (token.Symbol symbol.FatArrow)) r → Refused language n (of_exp lambda) (drop i tokens) r
    head_arrow end c u = refused_by decided 0 n (omega arith) (single (drop i tokens)) (mark_read f (one_read decided c.read (one_read decided c.reads (no_mark u))))

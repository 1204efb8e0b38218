-- What the operators of a level stand between, and one operator with its right side.
use Rattle.std.specs.Prelude.{◌≡◌, ◌+◌, ℕ, Bool, true, false, if◌then◌else◌, List, [], ◌∷◌, drop, Some, refl}
use Rattle.std.proofs.Common.{arith}
use Rattle.ur_base.specs.declared.refusal.Refusal.{Refusal}
use Rattle.ur_lex.specs.declared.token.Symbol.{Symbol}
use Rattle.ur_lex.specs.declared.token.Symbol.TheVariants as symbol
use Rattle.ur_lex.specs.declared.token.TokenKind.TheVariants as token
use Rattle.ur_lex.specs.declared.token.Lexeme.{Lexeme}
use Rattle.ur_syntax.specs.declared.exp.Exp.{Exp}
use Rattle.ur_parse_rules.specs.Rules.{Read, Refused, no_span}
use Rattle.ur_parse_rules.specs.Places.{IsAt, OfKind}
use Rattle.ur_parse_rules.proofs.Steps.{nothing, an_one, one_refused, reads_by, refused_by}
use Rattle.ur_parse_rules.specs.ExpParts as e
use Rattle.ur_parse_rules.specs.Parts.{of_exp}
use Rattle.ur_parse_rules.specs.Language.{language}
use Rattle.ur_parse_rules.proofs.Choice.{choice}
use Rattle.ur_parse_rules.proofs.AllDecided.{decided}
use Rattle.ur_parse_con.specs.declared.operator.Level.{Level}
use Rattle.ur_parse_con.specs.declared.operator.Level.TheVariants as level
use Rattle.ur_parse_con.specs.declared.operator.Sign.TheVariants as signs
use Rattle.ur_parse_con.specs.Operators.{level_of, sign, SignAt}
use Rattle.ur_parse_exp_parts.specs.Lists.{StepRead, GoneRead}

only_one : (b : Bool) → let z : ℕ = if b then 0 else 0 in z ≡ 0
only_one true = refl
only_one false = refl

single : (l : e.Level) (ts : List Lexeme) → choice (of_exp (e.operand l)) ts ≡ 0
single e.disjunction [] = refl
single e.disjunction (t ∷ ts) = only_one _
single e.conjunction [] = refl
single e.conjunction (t ∷ ts) = only_one _
single e.append [] = refl
single e.append (t ∷ ts) = only_one _
single e.sum [] = refl
single e.sum (t ∷ ts) = only_one _
single e.product [] = refl
single e.product (t ∷ ts) = only_one _

module _ {n : ℕ} (tokens : List Lexeme) (i : ℕ) where
  module _ {r : Refusal} where
    pub disjunction_refused : Refused language n (of_exp (e.left e.conjunction)) (drop i tokens) r → Refused language n (of_exp (e.operand e.disjunction)) (drop i tokens) r
    disjunction_refused h = refused_by decided 0 n (omega arith) (single e.disjunction (drop i tokens)) (one_refused h)

    pub conjunction_refused : Refused language n (of_exp e.comparison) (drop i tokens) r → Refused language n (of_exp (e.operand e.conjunction)) (drop i tokens) r
    conjunction_refused h = refused_by decided 0 n (omega arith) (single e.conjunction (drop i tokens)) (one_refused h)

    pub append_refused : Refused language n (of_exp (e.left e.sum)) (drop i tokens) r → Refused language n (of_exp (e.operand e.append)) (drop i tokens) r
    append_refused h = refused_by decided 0 n (omega arith) (single e.append (drop i tokens)) (one_refused h)

    pub sum_refused : Refused language n (of_exp (e.left e.product)) (drop i tokens) r → Refused language n (of_exp (e.operand e.sum)) (drop i tokens) r
    sum_refused h = refused_by decided 0 n (omega arith) (single e.sum (drop i tokens)) (one_refused h)

    pub product_refused : Refused language n (of_exp e.negative) (drop i tokens) r → Refused language n (of_exp (e.operand e.product)) (drop i tokens) r
    product_refused h = refused_by decided 0 n (omega arith) (single e.product (drop i tokens)) (one_refused h)

  module _ (j : ℕ) {a : Exp} where
    pub disjunction_read : Read language n (of_exp (e.left e.conjunction)) (drop i tokens) (drop j tokens) a → Read language n (of_exp (e.operand e.disjunction)) (drop i tokens) (drop j tokens) a
    disjunction_read h = reads_by 0 n (omega arith) (record { v = (a, tt); span = no_span; is_span = refl; allowed = refl; builds = refl; fills = an_one h nothing }) h.stops

    pub conjunction_read : Read language n (of_exp e.comparison) (drop i tokens) (drop j tokens) a → Read language n (of_exp (e.operand e.conjunction)) (drop i tokens) (drop j tokens) a
    conjunction_read h = reads_by 0 n (omega arith) (record { v = (a, tt); span = no_span; is_span = refl; allowed = refl; builds = refl; fills = an_one h nothing }) h.stops

    pub append_read : Read language n (of_exp (e.left e.sum)) (drop i tokens) (drop j tokens) a → Read language n (of_exp (e.operand e.append)) (drop i tokens) (drop j tokens) a
    append_read h = reads_by 0 n (omega arith) (record { v = (a, tt); span = no_span; is_span = refl; allowed = refl; builds = refl; fills = an_one h nothing }) h.stops

    pub sum_read : Read language n (of_exp (e.left e.product)) (drop i tokens) (drop j tokens) a → Read language n (of_exp (e.operand e.sum)) (drop i tokens) (drop j tokens) a
    sum_read h = reads_by 0 n (omega arith) (record { v = (a, tt); span = no_span; is_span = refl; allowed = refl; builds = refl; fills = an_one h nothing }) h.stops

    pub product_read : Read language n (of_exp e.negative) (drop i tokens) (drop j tokens) a → Read language n (of_exp (e.operand e.product)) (drop i tokens) (drop j tokens) a
    product_read h = reads_by 0 n (omega arith) (record { v = (a, tt); span = no_span; is_span = refl; allowed = refl; builds = refl; fills = an_one h nothing }) h.stops

-- ---- `--` is an operator of one level

removing : (l : Level) (s : Symbol) → sign l s ≡ Some signs.Remove → (l ≡ level.Append) × (s ≡ symbol.DoubleMinus)
removing level.Append symbol.DoubleMinus q = (refl, refl)
removing level.Disjunction symbol.OrOr q = absurd (cc)
removing level.Conjunction symbol.AndAnd q = absurd (cc)
removing level.Sum symbol.Plus q = absurd (cc)
removing level.Product symbol.Star q = absurd (cc)
removing l s q = absurd (cc)

module _ (tokens : List Lexeme) (i : ℕ) (l : Level) (q : SignAt tokens i l (Some signs.Remove)) where
  pub gone_at : IsAt tokens i (i + 1) (OfKind (token.Symbol symbol.DoubleMinus))
  gone_at = let w = (removing l q.0 q.2).1 in rw w at q.1

  pub gone_step : (n first j : ℕ) {a c : Exp} → GoneRead tokens first i j a c → StepRead n (level_of l) tokens first i j a c
  gone_step n first j h = let w = (removing l q.0 q.2).0 in rw w (h.gone n)

  pub gone_refused : (n : ℕ) {r : Refusal} → Refused language n (of_exp (e.left_step e.append)) (drop i tokens) r → Refused language n (of_exp (e.left_step (level_of l))) (drop i tokens) r
  gone_refused n h = let w = (removing l q.0 q.2).0 in rw w h

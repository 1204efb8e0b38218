-- Whole expressions, and what stands between the operators of a level.
use Rattle.std.specs.Prelude.{◌≡◌, ◌+◌, ◌≤◌, ℕ, Bool, true, false, if◌then◌else◌, List, [], ◌∷◌, drop, refl}
use Rattle.std.proofs.Common.{sym, subst, arith}
use Rattle.ur_base.specs.declared.refusal.Refusal.{Refusal}
use Rattle.ur_lex.specs.declared.token.Lexeme.{Lexeme}
use Rattle.ur_syntax.specs.declared.sql.SqlExp.{SqlExp}
use Rattle.ur_parse_rules.specs.Rules.{Read, Refused, no_span}
use Rattle.ur_parse_rules.proofs.Steps.{nothing, an_one, one_refused, reads_by, refused_by}
use Rattle.ur_parse_rules.specs.Quoted.{raw, deeper}
use Rattle.ur_parse_rules.specs.SqlParts as s
use Rattle.ur_parse_rules.specs.Parts.{of_sql}
use Rattle.ur_parse_rules.specs.Language.{language}
use Rattle.ur_parse_rules.proofs.Choice.{choice}
use Rattle.ur_parse_rules.proofs.AllDecided.{decided}
use Rattle.ur_parse_embed_code.specs.declared.quotes.Quotes.{Quotes}
use Rattle.ur_parse_embed_code.specs.Quotes.{Makes}
use Rattle.ur_parse_embed_code.proofs.Numbering.{numbered_deeper}
use Rattle.ur_parse_embed.specs.declared.made.Level.{Level}
use Rattle.ur_parse_embed.specs.Levels.{level_of}

only_one : (b : Bool) → let z : ℕ = if b then 0 else 0 in z ≡ 0
only_one true = refl
only_one false = refl

single_sexp : (bare : Bool) (ts : List Lexeme) → choice (of_sql raw (s.sexp bare)) ts ≡ 0
single_sexp bare [] = refl
single_sexp bare (t ∷ ts) = only_one _

module _ (m : ℕ) {n : ℕ} (e : 1 + m ≡ n) {bare : Bool} (tokens : List Lexeme) (i : ℕ) where
  pub sexp_refused : {r : Refusal} → Refused language m (of_sql raw (s.left bare s.disjunction)) (drop i tokens) r → Refused language n (of_sql raw (s.sexp bare)) (drop i tokens) r
  sexp_refused h = refused_by decided 0 m e (single_sexp bare (drop i tokens)) (one_refused h)

  pub sexp_read : (j : ℕ) {old new : Quotes} {tree : SqlExp} → Makes (Read language m (of_sql raw (s.left bare s.disjunction)) (drop i tokens) (drop j tokens)) tokens m old new tree →
      Makes (Read language n (of_sql raw (s.sexp bare)) (drop i tokens) (drop j tokens)) tokens n old new tree
  sexp_read j a = let le : 1 + m ≤ n = omega (arith, e) in record {
    of = deeper raw a.of;
    read = reads_by 0 m le (record { v = (a.of, tt); span = no_span; is_span = refl; allowed = refl; builds = refl; fills = an_one a.read nothing }) a.read.stops;
    made = numbered_deeper n m (omega (arith, e)) a.made;
  }

-- ---- operands

single_disjunction : (bare : Bool) (ts : List Lexeme) → choice (of_sql raw (s.operand bare s.disjunction)) ts ≡ 0
single_disjunction bare [] = refl
single_disjunction bare (t ∷ ts) = only_one _

single_conjunction : (bare : Bool) (ts : List Lexeme) → choice (of_sql raw (s.operand bare s.conjunction)) ts ≡ 0
single_conjunction bare [] = refl
single_conjunction bare (t ∷ ts) = only_one _

single_sum : (bare : Bool) (ts : List Lexeme) → choice (of_sql raw (s.operand bare s.sum)) ts ≡ 0
single_sum bare [] = refl
single_sum bare (t ∷ ts) = only_one _

single_product : (bare : Bool) (ts : List Lexeme) → choice (of_sql raw (s.operand bare s.product)) ts ≡ 0
single_product bare [] = refl
single_product bare (t ∷ ts) = only_one _

module _ {n : ℕ} {bare : Bool} (tokens : List Lexeme) (i : ℕ) where
  pub disjunction_refused : {r : Refusal} → Refused language n (of_sql raw (s.left bare s.conjunction)) (drop i tokens) r → Refused language n (of_sql raw (s.operand bare s.disjunction)) (drop i tokens) r
  disjunction_refused h = refused_by decided 0 n (omega arith) (single_disjunction bare (drop i tokens)) (one_refused h)

  pub conjunction_refused : {r : Refusal} → Refused language n (of_sql raw (s.negation bare)) (drop i tokens) r → Refused language n (of_sql raw (s.operand bare s.conjunction)) (drop i tokens) r
  conjunction_refused h = refused_by decided 0 n (omega arith) (single_conjunction bare (drop i tokens)) (one_refused h)

  pub sum_refused : {r : Refusal} → Refused language n (of_sql raw (s.left bare s.product)) (drop i tokens) r → Refused language n (of_sql raw (s.operand bare s.sum)) (drop i tokens) r
  sum_refused h = refused_by decided 0 n (omega arith) (single_sum bare (drop i tokens)) (one_refused h)

  pub product_refused : {r : Refusal} → Refused language n (of_sql raw (s.negative bare)) (drop i tokens) r → Refused language n (of_sql raw (s.operand bare s.product)) (drop i tokens) r
  product_refused h = refused_by decided 0 n (omega arith) (single_product bare (drop i tokens)) (one_refused h)

module _ {n : ℕ} {bare : Bool} (tokens : List Lexeme) (i j : ℕ) {old new : Quotes} {tree : SqlExp} where
  pub disjunction_read : Makes (Read language n (of_sql raw (s.left bare s.conjunction)) (drop i tokens) (drop j tokens)) tokens n old new tree → Makes (Read language n (of_sql raw (s.operand bare s.disjunction)) (drop i tokens) (drop j tokens)) tokens n old new tree
  disjunction_read a = record { of = a.of; read = reads_by 0 n (omega arith) (record { v = (a.of, tt); span = no_span; is_span = refl; allowed = refl; builds = refl; fills = an_one a.read nothing }) a.read.stops; made = a.made }

  pub conjunction_read : Makes (Read language n (of_sql raw (s.negation bare)) (drop i tokens) (drop j tokens)) tokens n old new tree → Makes (Read language n (of_sql raw (s.operand bare s.conjunction)) (drop i tokens) (drop j tokens)) tokens n old new tree
  conjunction_read a = record { of = a.of; read = reads_by 0 n (omega arith) (record { v = (a.of, tt); span = no_span; is_span = refl; allowed = refl; builds = refl; fills = an_one a.read nothing }) a.read.stops; made = a.made }

  pub sum_read : Makes (Read language n (of_sql raw (s.left bare s.product)) (drop i tokens) (drop j tokens)) tokens n old new tree → Makes (Read language n (of_sql raw (s.operand bare s.sum)) (drop i tokens) (drop j tokens)) tokens n old new tree
  sum_read a = record { of = a.of; read = reads_by 0 n (omega arith) (record { v = (a.of, tt); span = no_span; is_span = refl; allowed = refl; builds = refl; fills = an_one a.read nothing }) a.read.stops; made = a.made }

  pub product_read : Makes (Read language n (of_sql raw (s.negative bare)) (drop i tokens) (drop j tokens)) tokens n old new tree → Makes (Read language n (of_sql raw (s.operand bare s.product)) (drop i tokens) (drop j tokens)) tokens n old new tree
  product_read a = record { of = a.of; read = reads_by 0 n (omega arith) (record { v = (a.of, tt); span = no_span; is_span = refl; allowed = refl; builds = refl; fills = an_one a.read nothing }) a.read.stops; made = a.made }

-- ---- the level

pub at_level : (n : ℕ) (bare : Bool) (tokens : List Lexeme) (i : ℕ) (l k : Level) {r : Refusal} → l ≡ k → Refused language n (of_sql raw (s.operand bare (level_of k))) (drop i tokens) r → Refused language n (of_sql raw (s.operand bare (level_of l))) (drop i tokens) r
at_level n bare tokens i l k {r = r} e h = subst (λ (z : Level). Refused language n (of_sql raw (s.operand bare (level_of z))) (drop i tokens) r) (sym e) h

pub makes_level : (n : ℕ) (bare : Bool) (tokens : List Lexeme) (i j : ℕ) (l k : Level) {old new : Quotes} {tree : SqlExp} → l ≡ k → Makes (Read language n (of_sql raw (s.operand bare (level_of k))) (drop i tokens) (drop j tokens)) tokens n old new tree →
    Makes (Read language n (of_sql raw (s.operand bare (level_of l))) (drop i tokens) (drop j tokens)) tokens n old new tree
makes_level n bare tokens i j l k {old = old} {new = new} {tree = tree} e h = subst (λ (z : Level). Makes (Read language n (of_sql raw (s.operand bare (level_of z))) (drop i tokens) (drop j tokens)) tokens n old new tree) (sym e) h

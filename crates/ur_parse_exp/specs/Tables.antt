-- SQL with the expressions of its code.
use Rattle.std.specs.Prelude.{◌≡◌, ◌⊎◌, ℕ, List, []}
use Rattle.ur_base.specs.declared.refusal.Refusal.{Refusal}
use Rattle.ur_base.specs.Stopping.{Says}
use Rattle.ur_lex.specs.declared.token.Lexeme.{Lexeme}
use Rattle.ur_syntax.specs.declared.exp.Exp.{Exp}
use Rattle.ur_parse_rules.specs.Rules.{AnyOf}
use Rattle.ur_parse_rules.specs.Quoted.{Quoted}
use Rattle.ur_parse_embed_code.specs.declared.quotes.Quotes.{Quotes}
use Rattle.ur_parse_exp.specs.declared.code.Codes.{Codes}
use Rattle.ur_parse_exp.specs.Codes.{IsNone, CodesRead}

-- something is read of which these are the tree and the expressions of its antiquotes
pub record Coded {A : Type 0} (P : Quoted Exp A → Type 0) (tree : A) (exps : List Exp) : Type 0 where
  pub of : Quoted Exp A
  pub read : P of
  pub is : tree ≡ of.at 0 0
  pub code : exps ≡ of.exps

-- what is read of the code of antiquotes and of attributes
pub record AllRead (tokens : List Lexeme) (less : ℕ) (q : Quotes) (exps attributes : Codes) : Type 0 where
  pub exps_read : CodesRead tokens less q.exps exps
  pub attributes_read : CodesRead tokens less q.attributes attributes

-- the answer is E05, since the code of one is no expression
pub record NoneOfAll (tokens : List Lexeme) (q : Quotes) (r : Refusal) : Type 0 where
  pub says : Says r 5 [] []
  pub none : AnyOf (IsNone tokens) q.exps ⊎ AnyOf (IsNone tokens) q.attributes

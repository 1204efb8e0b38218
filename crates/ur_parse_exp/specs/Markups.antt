-- Literals of XML as expressions.
use Rattle.std.specs.Prelude.{◌≡◌, ℕ, List}
use Rattle.ur_lex.specs.declared.token.Lexeme.{Lexeme}
use Rattle.ur_syntax.specs.declared.exp.Exp.{Exp}
use Rattle.ur_syntax.specs.declared.exp.ExpForm.TheVariants as form
use Rattle.ur_syntax.specs.declared.xml.Xml.{Xml}
use Rattle.ur_parse_rules.specs.Places.{Reads, span_of}
use Rattle.ur_parse_rules.specs.Quoted.{Quoted, expressions}
use Rattle.ur_parse_rules.specs.Expressions.{at}
use Rattle.ur_parse_rules.specs.XmlParts.{literal}
use Rattle.ur_parse_rules.specs.Parts.{of_xml}
use Rattle.ur_parse_rules.specs.Language.{language}

-- a literal is read from i to j, and the tree is the expression that it is
pub record IsMarkup (n : ℕ) (tokens : List Lexeme) (i j : ℕ) (e : Exp) : Type 0 where
  pub of : Quoted Exp Xml
  pub read : Reads language n tokens i j (of_xml expressions literal) of
  pub is : e ≡ at (span_of tokens i j) (form.Xml (of.at 0 0) of.exps of.attributes)

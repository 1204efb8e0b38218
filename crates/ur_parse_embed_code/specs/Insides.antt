-- What stands between the tags of an element.
use Rattle.std.specs.Prelude.{◌≡◌, ℕ, Bool, true, List, Option, Some, None}
use Rattle.std.specs.Str.{bytes_eq}
use Rattle.ur_lex.specs.declared.token.Lexeme.{Lexeme}
use Rattle.ur_syntax.specs.declared.xml.Tag.{Tag}
use Rattle.ur_parse_rules.specs.Places.{Reads}
use Rattle.ur_parse_rules.specs.Quoted.{Raw, raw}
use Rattle.ur_parse_rules.specs.XmlParts.{element_end}
use Rattle.ur_parse_rules.specs.Parts.{of_xml, Inside}
use Rattle.ur_parse_rules.specs.Markup.{inner}
use Rattle.ur_parse_rules.specs.Language.{language}
use Rattle.ur_parse_embed_code.specs.declared.quotes.Quotes.{Quotes}
use Rattle.ur_parse_embed_code.specs.Quotes.{Numbered}
use Rattle.ur_parse_embed_code.specs.declared.parts.Enclosed.{Enclosed}

-- the closing tag, if there is one
abbrev pub closing_of : Option (Inside Raw) → Option Tag
closing_of None = None
closing_of (Some i) = Some i.closing

-- an opening tag and the closing one, if there is one, have the same word
abbrev pub agree : Tag → Option Tag → Bool
agree t None = true
agree t (Some c) = bytes_eq t.word c.word

-- the end of an opening tag, or parts and a closing tag, are read
pub record MakesEnclosed (tokens : List Lexeme) (depth i j : ℕ) (old new : Quotes) (found : Enclosed) : Type 0 where
  pub of : Option (Inside Raw)
  pub read : Reads language depth tokens i j (of_xml raw element_end) of
  pub closing : found.closing ≡ closing_of of
  pub made : Numbered tokens depth old new (inner of) found.parts

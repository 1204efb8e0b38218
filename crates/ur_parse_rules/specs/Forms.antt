-- How rules are written.
use Rattle.std.specs.Prelude.{true, false, List}
use Rattle.ur_base.specs.declared.refusal.Span.{Span}
use Rattle.ur_lex.specs.declared.token.Keyword.{Keyword}
use Rattle.ur_lex.specs.declared.token.Symbol.{Symbol}
use Rattle.ur_lex.specs.declared.token.TokenKind.TheVariants as token
use Rattle.ur_lex.specs.Spelling.{Text}
use Rattle.ur_parse_rules.specs.Rules.{Slot, mark, word, one, Values, Rule}
use Rattle.ur_parse_rules.specs.Places.{always}
use Rattle.ur_parse_rules.specs.ConParts.{ConPart}
use Rattle.ur_parse_rules.specs.ExpParts.{ExpPart}
use Rattle.ur_parse_rules.specs.SqlParts.{SqlPart}
use Rattle.ur_parse_rules.specs.XmlParts.{XmlPart}
use Rattle.ur_parse_rules.specs.DeclParts.{DeclPart}
use Rattle.ur_parse_rules.specs.CodeParts.{CodePart}
use Rattle.ur_parse_rules.specs.Quoted.{Quoting}
use Rattle.ur_parse_rules.specs.Parts.{Part, Tree, of_con, of_exp, of_sql, of_xml, of_decl, of_quote, of_code}

-- a rule that asks nothing and builds without a span
abbrev pub rule : {T : Type 0} (slots : List (Slot Part)) → (Values Tree slots → T) → Rule Tree T
rule slots build = record { slots = slots; spanned = false; allows = always; build = λ _ v. build v }

-- with the span of its tokens
abbrev pub spanned : {T : Type 0} (slots : List (Slot Part)) → (Span → Values Tree slots → T) → Rule Tree T
spanned slots build = record { slots = slots; spanned = true; allows = always; build = build }

abbrev pub symbol_mark : Symbol → Slot Part
symbol_mark s = mark (token.Symbol s)

abbrev pub keyword_mark : Keyword → Slot Part
keyword_mark k = mark (token.Keyword k)

-- a word in small letters, and one in capitals
abbrev pub small : Text → Slot Part
small w = word token.Lower w

abbrev pub capital : Text → Slot Part
capital w = word token.Upper w

abbrev pub con_slot : ConPart → Slot Part
con_slot p = one (of_con p)

abbrev pub exp_slot : ExpPart → Slot Part
exp_slot p = one (of_exp p)

abbrev pub sql_slot : Quoting → SqlPart → Slot Part
sql_slot q p = one (of_sql q p)

abbrev pub xml_slot : Quoting → XmlPart → Slot Part
xml_slot q p = one (of_xml q p)

abbrev pub decl_slot : DeclPart → Slot Part
decl_slot p = one (of_decl p)

abbrev pub quote_slot : Quoting → Slot Part
quote_slot q = one (of_quote q)

abbrev pub code_slot : CodePart → Slot Part
code_slot p = one (of_code p)

-- from the begin of the one to the end of the other
abbrev pub up_to : Span → Span → Span
up_to a b = record { file = a.file; from = a.from; to = b.to }

-- The rules of XML.
use Rattle.std.specs.Prelude.{ℕ, Bool, true, List, [], ◌∷◌, Option, Some, None}
use Rattle.std.specs.Str.{bytes_eq}
use Rattle.ur_base.specs.declared.refusal.Span.{Span}
use Rattle.ur_lex.specs.declared.token.Symbol.TheVariants as symbol
use Rattle.ur_lex.specs.declared.token.TokenKind.TheVariants as token
use Rattle.ur_lex.specs.Spelling.{Text}
use Rattle.ur_syntax.specs.declared.xml.Xml.{Xml}
use Rattle.ur_syntax.specs.declared.xml.XmlForm.TheVariants as form
use Rattle.ur_syntax.specs.declared.xml.XmlPart.{XmlPart as XmlNode}
use Rattle.ur_syntax.specs.declared.xml.Tag.{Tag}
use Rattle.ur_syntax.specs.declared.xml.TagField.TheVariants as tag_fields
use Rattle.ur_syntax.specs.declared.xml.Attr.{Attr}
use Rattle.ur_syntax.specs.declared.xml.AttrValue.{AttrValue}
use Rattle.ur_syntax.specs.declared.xml.AttrValue.TheVariants as attr_values
use Rattle.ur_parse_rules.specs.Rules.{name, Rule}
use Rattle.ur_parse_rules.specs.Places.{any}
use Rattle.ur_parse_rules.specs.Words.{is_field}
use Rattle.ur_parse_rules.specs.Quoted.{Quoting, Quoted, plain, antiquote, attribute, mapped, both, cons, deeper}
use Rattle.ur_parse_rules.specs.SqlParts as s
use Rattle.ur_parse_rules.specs.XmlParts.{XmlPart, literal, parts, one_part, element, element_end, tag, tag_field, tag_name, attrs, attr, attr_value}
use Rattle.ur_parse_rules.specs.Parts.{Tree, XmlTree, Inside}
use Rattle.ur_parse_rules.specs.Forms.{rule, spanned, symbol_mark, sql_slot, xml_slot, quote_slot}

abbrev pub literal_of : List XmlNode → Xml
literal_of ps = record { parts = ps }

abbrev pub splice : Span → ℕ → XmlNode
splice span n = record { span = span; form = form.Splice n }

abbrev pub show : Span → ℕ → XmlNode
show span n = record { span = span; form = form.Show n }

abbrev pub element_of : Span → Tag → List Attr → List XmlNode → XmlNode
element_of span t as_ ps = record { span = span; form = form.Element t as_ ps }

-- the parts between the tags, if there are two
abbrev pub inner : {E : Type 0} → Option (Inside E) → Quoted E (List XmlNode)
inner None = plain []
inner (Some i) = i.parts

-- an opening and a closing tag have the same word
abbrev pub closes : {E : Type 0} → Tag → Option (Inside E) → Bool
closes t None = true
closes t (Some i) = bytes_eq t.word i.closing.word

abbrev pub attr_of : Text → AttrValue → Attr
attr_of x a = record { name = x; value = a }

abbrev pub xml_rules : (q : Quoting) (p : XmlPart) → List (Rule Tree (XmlTree q p))
xml_rules q literal =
    rule (symbol_mark symbol.XmlOpen ∷ xml_slot q parts ∷ symbol_mark symbol.XmlClose ∷ []) (λ (ps, _). mapped literal_of ps) ∷
    rule (symbol_mark symbol.XmlEmpty ∷ []) (λ _. plain (literal_of [])) ∷ []
xml_rules q parts =
    rule [] (λ _. plain []) ∷
    rule (xml_slot q one_part ∷ xml_slot q parts ∷ []) (λ (a, (ps, _)). both cons a ps) ∷ []
xml_rules q one_part =
    spanned (name token.XmlText any ∷ []) (λ span (t, _). plain (record { span = span; form = form.Text t })) ∷
    spanned (symbol_mark symbol.LBrace ∷ quote_slot q ∷ symbol_mark symbol.RBrace ∷ []) (λ span (a, _). mapped (splice span) (antiquote a)) ∷
    spanned (sql_slot q s.anti ∷ []) (λ span (a, _). mapped (show span) (antiquote a)) ∷
    rule (xml_slot q element ∷ []) (λ (a, _). a) ∷ []
xml_rules q element =
    record {
      slots = symbol_mark symbol.Lt ∷ xml_slot q tag ∷ xml_slot q attrs ∷ xml_slot q element_end ∷ [];
      spanned = true;
      allows = λ (t, (as_, (i, _))). closes t i;
      build = λ span (t, (as_, (i, _))). deeper q (both (element_of span t) as_ (inner i));
    } ∷ []
xml_rules q element_end =
    rule (symbol_mark symbol.TagEmpty ∷ []) (λ _. None) ∷
    rule (symbol_mark symbol.Gt ∷ xml_slot q parts ∷ symbol_mark symbol.TagClose ∷ xml_slot q tag ∷ symbol_mark symbol.Gt ∷ []) (λ (ps, (t, _)). Some (record { parts = ps; closing = t })) ∷ []
xml_rules q tag = rule (name token.Word any ∷ xml_slot q tag_field ∷ []) (λ (w, (f, _)). record { word = w; field = f }) ∷ []
xml_rules q tag_field =
    rule [] (λ _. tag_fields.None) ∷
    rule (symbol_mark symbol.LBrace ∷ xml_slot q tag_name ∷ symbol_mark symbol.RBrace ∷ []) (λ (f, _). f) ∷ []
xml_rules q tag_name =
    rule (symbol_mark symbol.Hash ∷ name token.Upper is_field ∷ []) (λ (a, _). tag_fields.Literal a) ∷
    rule (name token.Lower any ∷ []) (λ (x, _). tag_fields.Variable x) ∷ []
xml_rules q attrs =
    rule [] (λ _. plain []) ∷
    rule (xml_slot q attr ∷ xml_slot q attrs ∷ []) (λ (a, (as_, _)). both cons a as_) ∷ []
xml_rules q attr = rule (name token.Word any ∷ symbol_mark symbol.Eq ∷ xml_slot q attr_value ∷ []) (λ (x, (a, _)). mapped (attr_of x) a) ∷ []
xml_rules q attr_value =
    rule (name token.Str any ∷ []) (λ (t, _). plain (attr_values.Text t)) ∷
    rule (symbol_mark symbol.LBrace ∷ quote_slot q ∷ symbol_mark symbol.RBrace ∷ []) (λ (a, _). mapped (λ n. attr_values.Exp n) (attribute a)) ∷ []

-- elements count for nesting
abbrev pub xml_cost : XmlPart → ℕ
xml_cost element = 1
xml_cost _ = 0

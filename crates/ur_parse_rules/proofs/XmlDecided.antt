-- XML is read in one way.
use Rattle.std.specs.Prelude.{refl}
use Rattle.ur_parse_rules.proofs.Once.{Decided}
use Rattle.ur_parse_rules.specs.XmlParts.{XmlPart, literal, parts, one_part, element, element_end, tag, tag_field, tag_name, attrs, attr, attr_value}
use Rattle.ur_parse_rules.specs.Quoted.{Quoting}
use Rattle.ur_parse_rules.specs.Parts.{of_xml}
use Rattle.ur_parse_rules.specs.Language.{language}
use Rattle.ur_parse_rules.proofs.Table.{by_table}
use Rattle.ur_parse_rules.proofs.Choice.{choice}
use Rattle.ur_parse_rules.proofs.Special.{part_decided}

pub xml_decided : (q : Quoting) (p : XmlPart) → Decided language choice (of_xml q p)
xml_decided q literal = by_table choice (of_xml q literal) (λ a k w h. h) refl refl
xml_decided q parts = by_table choice (of_xml q parts) (λ a k w h. h) refl refl
xml_decided q one_part = part_decided q
xml_decided q element = by_table choice (of_xml q element) (λ a k w h. h) refl refl
xml_decided q element_end = by_table choice (of_xml q element_end) (λ a k w h. h) refl refl
xml_decided q tag = by_table choice (of_xml q tag) (λ a k w h. h) refl refl
xml_decided q tag_field = by_table choice (of_xml q tag_field) (λ a k w h. h) refl refl
xml_decided q tag_name = by_table choice (of_xml q tag_name) (λ a k w h. h) refl refl
xml_decided q attrs = by_table choice (of_xml q attrs) (λ a k w h. h) refl refl
xml_decided q attr = by_table choice (of_xml q attr) (λ a k w h. h) refl refl
xml_decided q attr_value = by_table choice (of_xml q attr_value) (λ a k w h. h) refl refl

-- The nonterminals of XML.
pub data XmlPart : Type 0 where
  literal : XmlPart
  parts : XmlPart
  one_part : XmlPart
  element : XmlPart
  element_end : XmlPart
  tag : XmlPart
  tag_field : XmlPart
  tag_name : XmlPart
  attrs : XmlPart
  attr : XmlPart
  attr_value : XmlPart

-- The nonterminals of kinds and constructors.
use Rattle.std.specs.Prelude.{Bool}
use Rattle.ur_parse_rules.specs.declared.parse_rules_place.ConPlace.{ConPlace}

-- The flag is whether the words of a table's keys may stand behind or, at an argument, in its place. A row and the fields
-- of a record are read with the bracket that closes them.
pub data ConPart : Type 0 where
  kind : ConPart
  kind_atom : ConPart
  kind_tail : ConPart
  con : ConPlace → ConPart
  arrow : Bool → ConPart
  arrow_tail : Bool → ConPart
  concat : Bool → ConPart
  concat_tail : Bool → ConPart
  app : Bool → ConPart
  args : Bool → ConPart
  arg : Bool → ConPart
  atom : Bool → ConPart
  field_name : ConPart
  row : ConPart
  row_field : ConPart
  row_value : ConPart
  row_tail : ConPart
  fields : ConPart
  record_field : ConPart
  fields_tail : ConPart
  con_param : ConPart

-- The nonterminals of SQL.
use Rattle.std.specs.Prelude.{Bool}

-- the operators that group to the left, from loose to tight
pub data SqlLevel : Type 0 where
  disjunction : SqlLevel
  conjunction : SqlLevel
  sum : SqlLevel
  product : SqlLevel

-- The flag is whether a column may stand without its table.
pub data SqlPart : Type 0 where
  sexp : Bool → SqlPart
  left : Bool → SqlLevel → SqlPart
  operand : Bool → SqlLevel → SqlPart
  left_tail : Bool → SqlLevel → SqlPart
  left_step : Bool → SqlLevel → SqlPart
  negation : Bool → SqlPart
  comparison : Bool → SqlPart
  comparison_tail : Bool → SqlPart
  is_rest : SqlPart
  negative : Bool → SqlPart
  atom : Bool → SqlPart
  column : Bool → SqlPart
  qualifier : SqlPart
  anti : SqlPart
  name : SqlPart
  query : SqlPart
  selection : SqlPart
  selected : SqlPart
  more_selected : SqlPart
  aggregate : SqlPart
  item : SqlPart
  alias : SqlPart
  more_items : SqlPart
  filter : Bool → SqlPart
  group : SqlPart
  more_columns : SqlPart
  order : SqlPart
  order_key : SqlPart
  direction : SqlPart
  more_keys : SqlPart
  limit : SqlPart
  offset : SqlPart
  amount : SqlPart
  change : SqlPart
  -- columns and values up to the parenthesis that closes them
  columns_end : SqlPart
  values_end : SqlPart
  assignment : SqlPart
  more_assignments : SqlPart

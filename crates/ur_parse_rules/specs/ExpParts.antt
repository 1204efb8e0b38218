-- The nonterminals of expressions and patterns.
use Rattle.std.specs.Prelude.{Bool}

-- the operators that group to the left, from loose to tight
pub data Level : Type 0 where
  disjunction : Level
  conjunction : Level
  append : Level
  sum : Level
  product : Level

pub data ExpPart : Type 0 where
  exp : ExpPart
  rest : ExpPart
  line : ExpPart
  lambda : ExpPart
  bar : ExpPart
  branches : ExpPart
  more_branches : ExpPart
  left : Level → ExpPart
  operand : Level → ExpPart
  left_tail : Level → ExpPart
  left_step : Level → ExpPart
  comparison : ExpPart
  comparison_tail : ExpPart
  cons : ExpPart
  cons_tail : ExpPart
  negative : ExpPart
  app : ExpPart
  args : ExpPart
  arg : ExpPart
  bracketed : ExpPart
  -- what stands at the head of an application
  head : ExpPart
  -- an atom with the names of fields behind it; the flag is whether it stands at the head
  post : Bool → ExpPart
  base : Bool → ExpPart
  capital_rest : ExpPart
  member : ExpPart
  nil_end : ExpPart
  dot : ExpPart
  dots : ExpPart
  paren_rest : ExpPart
  field : ExpPart
  fields : ExpPart
  fields_tail : ExpPart
  let_val : ExpPart
  let_vals : ExpPart
  removed : ExpPart
  binder : ExpPart
  param : ExpPart
  param_rest : ExpPart
  lambda_param : ExpPart
  lambda_params : ExpPart
  pat : ExpPart
  pat_cons : ExpPart
  pat_rest : ExpPart
  pat_argument : ExpPart

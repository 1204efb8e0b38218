-- The nonterminals of code that is read as the tokens that it is.
pub data CodePart : Type 0 where
  pieces : CodePart
  piece : CodePart

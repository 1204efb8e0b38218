-- What a bare name with a capital is, as the definitions of typing have it.
use Rattle.ur_typed.specs.Rules.{Capital, says_true, says_false, says_none, says_other}
use Rattle.ur_check_rules.specs.declared.tags.Capital.{Capital as HeldCapital}
use Rattle.ur_check_rules.specs.declared.tags.Capital.TheVariants as capital

abbrev pub capital_in : HeldCapital → Capital
capital_in capital.True = says_true
capital_in capital.False = says_false
capital_in capital.None = says_none
capital_in capital.Other = says_other

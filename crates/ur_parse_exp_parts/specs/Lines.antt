-- Expressions with what they take behind them.
use Rattle.ur_parse_rules.specs.Parts.{Ended}
use Rattle.ur_parse_exp_parts.specs.declared.ended.Line.{Line}

abbrev pub ended : Line → Ended
ended l = record { exp = l.exp; takes_semicolon = l.takes_semicolon; takes_bar = l.takes_bar }

use Rattle.ur_lex.proofs.Derivations.{one_list}
use Rattle.ur_lex.proofs.lexer.one_list_of_tokens.Goals as goal

pub returns : goal.returns
returns c = λ file bytes a b d e. one_list d.1 e.1

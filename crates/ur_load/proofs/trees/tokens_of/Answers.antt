-- A file that is UTF-8 or is not.
use Rattle.ur_lex.specs.declared.token.Lexeme.{Lexeme}
use Rattle.std.proofs.Common.{List}
use Rattle.ur_load.proofs.Reading.{not_text, no_tokens}
use Rattle.ur_load.proofs.trees.tokens_of.Goals as goal

pub returns-in-Ok-clause-refused : goal.returns-in-Ok-clause-refused
returns-in-Ok-clause-refused c = no_tokens c.args.source.now c.lex.result (rw c.as_slice-bytes.ensures at c.in-Ok.ensures.cases.1) (rw c.as_slice-bytes.ensures at c.lex.ensures.refused)

pub returns-in-Err-clause-refused : goal.returns-in-Err-clause-refused
returns-in-Err-clause-refused c = not_text (List Lexeme) c.args.source.now c.not_text.result (rw c.as_slice-bytes.ensures at c.in-Err.ensures.cases.0) c.not_text.ensures

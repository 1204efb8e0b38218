-- The tokens' tree is the file's.
use Rattle.ur_syntax.specs.declared.decl.Signature.{Signature}
use Rattle.ur_lex.specs.declared.token.Lexeme.{Lexeme}
use Rattle.std.proofs.Common.{List}
use Rattle.ur_parse_rules.specs.DeclParts.{signature}
use Rattle.ur_load.proofs.Reading.{cut_refused, tree_refused, signature_is}
use Rattle.ur_load.proofs.trees.signature_of.Goals as goal

pub returns-in-Ok-clause-tree : goal.returns-in-Ok-clause-tree
returns-in-Ok-clause-tree c = signature_is c.args.source.now c.in-Ok.tokens c.parse_signature.result c.in-Ok.ensures.tokens c.parse_signature.ensures.found

pub returns-in-Ok-clause-refused : goal.returns-in-Ok-clause-refused
returns-in-Ok-clause-refused c = tree_refused signature c.args.source.now c.in-Ok.tokens c.parse_signature.result c.in-Ok.ensures.tokens c.parse_signature.ensures.refused

pub returns-in-Err-clause-refused : goal.returns-in-Err-clause-refused
returns-in-Err-clause-refused c = cut_refused (List Lexeme) Signature signature c.args.source.now c.in-Err.stop c.in-Err.ensures.refused

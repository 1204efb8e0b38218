-- The tokens' tree is the file's.
use Rattle.ur_syntax.specs.declared.decl.Module.{Module}
use Rattle.ur_lex.specs.declared.token.Lexeme.{Lexeme}
use Rattle.std.proofs.Common.{List}
use Rattle.ur_parse_rules.specs.DeclParts.{whole}
use Rattle.ur_load.proofs.Reading.{cut_refused, tree_refused, tree_is}
use Rattle.ur_load.proofs.trees.tree_of.Goals as goal

pub returns-in-Ok-clause-tree : goal.returns-in-Ok-clause-tree
returns-in-Ok-clause-tree c = tree_is c.args.source.now c.in-Ok.tokens c.parse.result c.in-Ok.ensures.tokens c.parse.ensures.found

pub returns-in-Ok-clause-refused : goal.returns-in-Ok-clause-refused
returns-in-Ok-clause-refused c = tree_refused whole c.args.source.now c.in-Ok.tokens c.parse.result c.in-Ok.ensures.tokens c.parse.ensures.refused

pub returns-in-Err-clause-refused : goal.returns-in-Err-clause-refused
returns-in-Err-clause-refused c = cut_refused (List Lexeme) Module whole c.args.source.now c.in-Err.stop c.in-Err.ensures.refused

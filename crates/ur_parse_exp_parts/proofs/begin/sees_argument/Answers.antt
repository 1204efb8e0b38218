use Rattle.std.proofs.Common.{◌∙◌, sym, refl}
use Rattle.ur_parse_rules.proofs.Tokens.{starts_at}
use Rattle.ur_parse_rules.specs.Classes.{member}
use Rattle.ur_parse_rules.specs.Ends.{exp_args}
use Rattle.ur_parse_exp_parts.proofs.Beginning.{begins_is}
use Rattle.ur_parse_exp_parts.proofs.begin.sees_argument.Goals as goal

pub returns-in-Some : goal.returns-in-Some
returns-in-Some c = let s = c.in-Some.ensures in starts_at (member exp_args) c.args.tokens.now c.args.at c.in-Some.kind s.0.content s.0 _ s.1 s.2 refl (c.begins_argument.ensures ∙ sym (begins_is c.in-Some.kind s.0.content))

pub returns-in-None : goal.returns-in-None
returns-in-None c = let s = c.in-None.ensures in rw s refl

use Rattle.std.proofs.Common.{◌≡◌, ◌∙◌, sym, refl}
use Rattle.ur_parse_rules.proofs.Tokens.{starts_at, content_at}
use Rattle.ur_parse_rules.specs.Classes.{member}
use Rattle.ur_parse_rules.specs.Ends.{con_args}
use Rattle.ur_parse_con.proofs.Naming.{begins_is}
use Rattle.ur_parse_con.proofs.names.sees_argument.Goals as goal

pub returns-in-Some : goal.returns-in-Some
returns-in-Some c = let s = c.in-Some.ensures in starts_at (member (con_args c.args.keys)) c.args.tokens.now c.args.at c.in-Some.kind _ s.0 _ s.1 s.2 (content_at c.args.tokens.now c.args.at _ s.0 s.1 c.content.ensures)
    (c.begins_argument.ensures ∙ sym (begins_is c.args.keys c.in-Some.kind _))

pub returns-in-None : goal.returns-in-None
returns-in-None c = let s = c.in-None.ensures in rw s refl

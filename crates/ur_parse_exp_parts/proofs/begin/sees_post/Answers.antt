use Rattle.std.proofs.Common.{refl}
use Rattle.ur_parse_rules.proofs.Tokens.{starts_at, content_at}
use Rattle.ur_parse_exp_parts.specs.Begins.{begins_post}
use Rattle.ur_parse_exp_parts.proofs.begin.sees_post.Goals as goal

pub returns-in-Some : goal.returns-in-Some
returns-in-Some c = let s = c.in-Some.ensures in starts_at (begins_post c.args.first) c.args.tokens.now c.args.at c.in-Some.kind _ s.0 _ s.1 s.2 (content_at c.args.tokens.now c.args.at _ s.0 s.1 c.content.ensures) c.begins_post.ensures

pub returns-in-None : goal.returns-in-None
returns-in-None c = let s = c.in-None.ensures in rw s refl

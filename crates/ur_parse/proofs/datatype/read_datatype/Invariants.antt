use Rattle.std.proofs.Common.{◌+◌, ◌-◌, length}
use Rattle.ur_lex.specs.declared.token.TokenKind.TheVariants as token
use Rattle.ur_lex.specs.Spelling.{Text}
use Rattle.ur_parse_rules.specs.Places.{Moves, IsName, any}
use Rattle.ur_parse.proofs.Variants.{DatatypeRead}
use Rattle.ur_parse.proofs.datatype.read_datatype.Given as goal

abbrev pub invariant-bars : goal.invariant-bars
invariant-bars l = record { moves : Moves l.tokens l.at l.end; read : (x : Text) → IsName l.tokens (l.at + 1) l.equals token.Lower any x → DatatypeRead l.depth l.tokens l.at l.end x l.variants }

abbrev pub decreases-bars : goal.decreases-bars
decreases-bars l = length l.tokens - l.end

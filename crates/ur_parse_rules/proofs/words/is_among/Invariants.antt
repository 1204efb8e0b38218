use Rattle.std.proofs.Common.{◌≡◌, length, map}
use Rattle.ur_lex.specs.Spelling.{is_among}
use Rattle.ur_parse_rules.proofs.words.is_among.Given as goal

abbrev pub invariant-loop-left : goal.invariant-loop-left
invariant-loop-left l = is_among (map (λ w. w.now) l.left) l.word ≡ is_among (map (λ w. w.now) l.words) l.word

abbrev pub decreases-loop-left : goal.decreases-loop-left
decreases-loop-left l = length l.left

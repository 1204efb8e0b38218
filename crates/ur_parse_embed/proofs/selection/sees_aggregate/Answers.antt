use Rattle.std.proofs.Common.{drop, codes, [], ◌∷◌}
use Rattle.ur_parse_rules.specs.Ends.{capitals}
use Rattle.ur_parse_embed.proofs.Ending.{none_starts}
use Rattle.ur_parse_embed.proofs.selection.sees_aggregate.Goals as goal

pub returns : goal.returns
returns c = c.word_or.ensures (drop 1 (capitals (codes "COUNT" ∷ codes "SUM" ∷ codes "MIN" ∷ codes "MAX" ∷ []))) (c.word_or-sum.ensures (drop 2 (capitals (codes "COUNT" ∷ codes "SUM" ∷ codes "MIN" ∷ codes "MAX" ∷ []))) (c.word_or-least.ensures (drop 3 (capitals (codes "COUNT" ∷ codes "SUM" ∷ codes "MIN" ∷ codes "MAX" ∷ []))) (c.word_or-greatest.ensures (drop 4 (capitals (codes "COUNT" ∷ codes "SUM" ∷ codes "MIN" ∷ codes "MAX" ∷ []))) (none_starts (drop c.args.at c.args.tokens.now)))))

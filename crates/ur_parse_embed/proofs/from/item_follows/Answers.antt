use Rattle.std.proofs.Common.{drop}
use Rattle.ur_parse_embed.specs.Items.{more_from}
use Rattle.ur_parse_embed.proofs.Ending.{none_starts}
use Rattle.ur_parse_embed.proofs.from.item_follows.Goals as goal

pub returns : goal.returns
returns c = c.comma_or.ensures (drop 1 more_from) (c.word_or-joins.ensures (drop 2 more_from) (none_starts (drop c.args.at c.args.tokens.now)))

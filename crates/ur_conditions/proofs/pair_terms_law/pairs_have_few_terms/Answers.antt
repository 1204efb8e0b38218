use Rattle.ur_conditions.proofs.PairTermsCounts.{pairs_few}
use Rattle.ur_conditions.proofs.pair_terms_law.pairs_have_few_terms.Goals as goal

pub returns : goal.returns
returns c = λ q u l. pairs_few q u l

use Rattle.ur_conditions.specs.Pairs.{key_terms}
use Rattle.ur_invalidate.specs.Stages.{AddsPlain}
use Rattle.ur_invalidate.proofs.pair_numbers.number_keys.Given as goal

abbrev pub invariant-loop-number : goal.invariant-loop-number
invariant-loop-number l = AddsPlain l.initial.numbering l.numbering (key_terms l.number) l.all

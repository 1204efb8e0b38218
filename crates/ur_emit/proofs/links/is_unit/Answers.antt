use Rattle.std.proofs.Common.{ap, ◌∙◌}
use Rattle.ur_terms.specs.declared.term.Op.TheVariants as op
use Rattle.ur_emit.proofs.links.is_unit.Goals as goal

pub returns-then-is_empty : goal.returns-then-is_empty
returns-then-is_empty c = λ all. (c.in-Record.is ∙ ap op.Record (c.is_empty.ensures.0 c.if-is_empty.true), c.is_empty-then-is_empty.ensures.0 all)

use Rattle.std.proofs.Common.{ap, sym, ◌∙◌, true≢false}
use Rattle.ur_machine_frames.specs.Plays.{nothing}
use Rattle.ur_terms.specs.declared.term.Op.TheVariants as op
use Rattle.ur_terms.specs.Ops.{does}
use Rattle.ur_machine_operations.proofs.Arguments.{comes_as}
use Rattle.ur_machine_operations.proofs.Doing.{tagged_one, does-Tagged}
use Rattle.ur_machine_operations.proofs.lists.tagged.Goals as goal

pub returns-then-is_empty : goal.returns-then-is_empty
returns-then-is_empty c = λ s. ap (λ l. does nothing (op.Tagged c.args.constructor) l s) (c.is_empty.ensures.0 c.if-is_empty.true)

pub one-requires : goal.one-requires
one-requires c = (_, tagged_one c.args.constructor c.args.args c.requires.0 c.requires.1 (λ none. true≢false (sym (c.is_empty.ensures.1 none) ∙ c.if-is_empty.false)))

pub returns-in-Ok : goal.returns-in-Ok
returns-in-Ok c = comes_as c.built.result (does-Tagged _ _ _ _ c.one.ensures c.in-Ok.ensures) c.built.ensures

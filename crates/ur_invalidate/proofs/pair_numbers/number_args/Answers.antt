use Rattle.std.proofs.Common.{◌+◌, sym, subst}
use Rattle.ur_sql.specs.declared.term.SqlTerm.TheVariants as t
use Rattle.ur_conditions.specs.Pairs.{arg_terms}
use Rattle.ur_invalidate.specs.Stages.{AddsPlain}
use Rattle.ur_invalidate.proofs.Shapes.{arg_is}
use Rattle.ur_invalidate.proofs.Stages.{plain_more}
use Rattle.ur_invalidate.proofs.pair_numbers.number_args.Goals as goal

pub loop-number-preserved : goal.loop-number-preserved
loop-number-preserved c =
    subst (λ all. AddsPlain c.args.numbering.now c.number.new.self (arg_terms (c.loop-number.number + 1)) all) (sym c.in_ok-push.ensures.ok)
    (plain_more t.Arg arg_is c.loop-number.number c.args.numbering.now c.loop-number.numbering c.number.new.self c.loop-number.all c.in_ok-term.term.number c.loop-number.invariant c.in_ok-term.ensures)

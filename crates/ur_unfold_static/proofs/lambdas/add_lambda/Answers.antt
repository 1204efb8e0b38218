use Rattle.std.proofs.Common.{List, sym, subst}
use Rattle.ur_meaning.specs.Instances.{Different}
use Rattle.ur_unfold_static.specs.declared.node.Lambda.{Lambda}
use Rattle.ur_unfold_static.specs.Lists.{all_written, written}
use Rattle.ur_unfold_static.proofs.Finding.{last_once, grown_by}
use Rattle.ur_unfold_static.proofs.lambdas.add_lambda.Goals as goal

pub returns-in_ok-number-in-None-clause-once : goal.returns-in_ok-number-in-None-clause-once
returns-in_ok-number-in-None-clause-once c different =
    subst (λ (ls : List Lambda). Different (all_written ls)) (sym c.in_ok-number-in-None.ensures.ok)
    (last_once written c.args.lambdas.now _ c.in-None.ensures different)

pub returns-in_ok-number-in-None-clause-grows : goal.returns-in_ok-number-in-None-clause-grows
returns-in_ok-number-in-None-clause-grows c = grown_by written c.args.lambdas.now _ _ c.in_ok-number-in-None.ensures.ok

use Rattle.std.proofs.Common.{List, sym, subst}
use Rattle.ur_meaning.specs.Instances.{Different}
use Rattle.ur_unfold_static.specs.declared.con.Con.{Con}
use Rattle.ur_unfold_static.specs.Lists.{constructors}
use Rattle.ur_unfold_static.proofs.Finding.{last_once}
use Rattle.ur_unfold_static.proofs.closing_cons.add_con.Goals as goal

pub returns-in_ok-number-in-None-clause-once : goal.returns-in_ok-number-in-None-clause-once
returns-in_ok-number-in-None-clause-once c different =
    subst (λ (ks : List Con). Different (constructors ks)) (sym c.in_ok-number-in-None.ensures.ok)
    (last_once (λ (k : Con). k.of) c.args.cons.now c.args.con c.in-None.ensures different)

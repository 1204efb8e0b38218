use Rattle.ur_typed.specs.Declaring.{with_defined, defined_out}
use Rattle.std.proofs.Common.{ap, Some}
use Rattle.ur_typed_rules.specs.Rules.{if_so}
use Rattle.ur_check_heads.proofs.Seeing.{comes}
use Rattle.ur_check_heads.proofs.datatypes.con_in.Goals as goal

pub returns-clause-ok : goal.returns-clause-ok
returns-clause-ok c = λ home z k s.
    comes _ home (defined_out 65536 c.args.name.now k c.args.con.now z) (with_defined c.args.name.now k c.args.con.now z) (ap (λ b. if_so b (Some (with_defined c.args.name.now k c.args.con.now z))) (c.in_ok-may_be_defined.ensures.ok home z s))
    (c.in_ok-define.ensures home z k s)

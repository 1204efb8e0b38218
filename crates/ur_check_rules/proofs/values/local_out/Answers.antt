use Rattle.ur_check_rules.proofs.Naming.{variable-gives, fixed-gives, hidden-told}
use Rattle.ur_check_rules.proofs.values.local_out.Goals as goal

pub returns-in_ok-made-in-Variable-clause-local : goal.returns-in_ok-made-in-Variable-clause-local
returns-in_ok-made-in-Variable-clause-local c = variable-gives c.args.name.now c.args.place c.in-Variable.at c.in-Variable.of c.in_ok-of-in-Variable.of c.in_ok-made-in-Variable.made c.in-Variable.is c.in_ok-of-in-Variable.ensures c.in_ok-made-in-Variable.ensures

pub returns-in_ok-made-in-Fixed-clause-local : goal.returns-in_ok-made-in-Fixed-clause-local
returns-in_ok-made-in-Fixed-clause-local c = fixed-gives c.args.name.now c.args.place c.in-Fixed.at c.in-Fixed.of c.in_ok-of-in-Fixed.of c.in_ok-made-in-Fixed.made c.in-Fixed.is c.in_ok-of-in-Fixed.ensures c.in_ok-made-in-Fixed.ensures

pub returns-in-Hidden-clause-refused : goal.returns-in-Hidden-clause-refused
returns-in-Hidden-clause-refused c = hidden-told c.args.name.now c.args.place c.not_so.result c.in-Hidden.is c.not_so.ensures

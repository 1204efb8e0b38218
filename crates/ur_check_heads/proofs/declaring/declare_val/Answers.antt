use Rattle.std.specs.Prelude.{option_map}
use Rattle.std.proofs.Common.{ap}
use Rattle.ur_typed.specs.Declaring.{with_val_of, val_type_out}
use Rattle.ur_check_heads.proofs.Seeing.{comes}
use Rattle.ur_check_heads.proofs.declaring.declare_val.Goals as goal

pub returns-clause-ok : goal.returns-clause-ok
returns-clause-ok c = λ home z s.
    comes _ home (option_map (with_val_of c.args.name.now z) (val_type_out 65536 c.args.con.now z)) (with_val_of c.args.name.now z c.in_ok-of.of) (ap (option_map (with_val_of c.args.name.now z)) (c.in_ok-of.ensures.of home z s)) (c.in_ok-val_in.ensures home z s)

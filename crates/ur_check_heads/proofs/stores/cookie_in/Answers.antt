use Rattle.std.specs.Prelude.{option_map}
use Rattle.std.proofs.Common.{ap}
use Rattle.ur_typed.specs.Declaring.{with_named_cookie, cookie_out}
use Rattle.ur_check_heads.proofs.Seeing.{comes}
use Rattle.ur_check_heads.proofs.stores.cookie_in.Goals as goal

pub returns-clause-ok : goal.returns-clause-ok
returns-clause-ok c = λ home z s.
    comes _ home (cookie_out 65536 c.args.name.now c.args.con.now z) (with_named_cookie c.args.name.now z c.in_ok-kind.kind) (ap (option_map (with_named_cookie c.args.name.now z)) (c.in_ok-kind.ensures.kind home z s)) (c.in_ok-add_cookie.ensures home z s)

use Rattle.std.proofs.Common.{subst, ◌↔◌, IsTrue, [], ◌∷◌, map}
use Rattle.ur_rows.specs.Apart.{Apart}
use Rattle.ur_disjoint.specs.Tests.{pair}
use Rattle.ur_check_scopes.proofs.Meeting.{proved}
use Rattle.ur_check_scopes.proofs.apart.is_apart.Goals as goal

pub returns : goal.returns
returns c =
    let known = map pair c.args.assumed.now in
    proved known (c.args.first.now ∷ []) c.args.rest.now c.prove.result
    (subst (λ z. IsTrue c.prove.result ↔ Apart known z c.args.rest.now) c.from_ref.ensures.value c.prove.ensures)

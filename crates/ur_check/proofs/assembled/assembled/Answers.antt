use Rattle.std.proofs.Common.{subst}
use Rattle.ur_check.specs.Views.{IsSourceOf, Routed}
use Rattle.ur_check.proofs.Making.{made-of}
use Rattle.ur_check.proofs.assembled.assembled.Goals as goal

pub returns : goal.returns
returns c =
    made-of c.args.names.now c.args.project c.args.entries.now c.args.bodies c.in_ok-made.made c.in_ok-app.app (subst (λ w. IsSourceOf c.args.names.now w c.args.bodies c.in_ok-made.made c.in_ok-app.app) c.world_of-world.ensures c.in_ok-app.ensures)
    (subst (λ w. Routed c.args.names.now w c.args.entries.now c.args.bodies c.in_ok-made.made) c.world_of-world.ensures c.in_ok-made.ensures)

use Rattle.std.specs.Prelude.{codes}
use Rattle.ur_typed_rules.specs.Faults.{unkinded}
use Rattle.ur_check_scopes.specs.Views.{env_in}
use Rattle.ur_check_scopes.proofs.Exits.{told}
use Rattle.ur_check_heads.specs.Heading.{BreaksSides}
use Rattle.ur_check_heads.proofs.Fitting.{sides-false}
use Rattle.ur_check_heads.proofs.heads.sides_fit.Goals as goal

pub returns-else-fits-clause-refused : goal.returns-else-fits-clause-refused
returns-else-fits-clause-refused c =
    let names = c.args.around.now.world.now.datatype_names in
    let env = env_in c.args.around.now.scope.cons in
    told names (BreaksSides env c.args.con.now) c.unkinded.result (unkinded (codes "another kind") (codes "{Type}"))
    (sides-false env c.args.con.now c.in-Apart.one c.in-Apart.other c.in_ok-fits-in-Apart.fits c.in-Apart.is c.in_ok-fits-in-Apart.ensures c.if-fits.false) (c.unkinded.ensures names)

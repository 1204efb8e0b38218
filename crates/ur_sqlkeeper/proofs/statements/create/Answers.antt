use Rattle.sqlite.specs.Held.{state}
use Rattle.ur_sqlkeeper.proofs.Writes.{creates}
use Rattle.ur_sqlkeeper.proofs.statements.create.Goals as goal

pub returns : goal.returns
returns g c honest has =
    creates (state g.S.Store c.args.conn.now) (state g.S.Store c.execute.new.self) c.execute.result has (c.execute.ensures.runs (g.met.S.Honest.stays c.execute.new.self.store honest).0)

use Rattle.ur_top.proofs.reports.sites.Goals as goal

pub returns-in-Ok-clause-ends : goal.returns-in-Ok-clause-ends
returns-in-Ok-clause-ends g c = c.listed.ensures.ends (g.S.Shelf.told c.args.shelf.now) c.args.project.now (g.S.Shelf.faults c.args.shelf.now) (g.S.Shelf.faults c.compiled.new.shelf) c.in-Ok.ensures.coded

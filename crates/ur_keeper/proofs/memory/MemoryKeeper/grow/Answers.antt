use Rattle.std.proofs.Common.{ap, sym, subst}
use Rattle.ur_keeper.specs.Memory.{Memory}
use Rattle.ur_keeper.specs.Tables.{Tables, AreSound}
use Rattle.ur_keeper.proofs.Growth.{as-many-tables, as-many-held, keeps-grown}
use Rattle.ur_keeper.proofs.memory.MemoryKeeper.grow.Goals as goal

pub grown-requires-clause-shapes : goal.grown-requires-clause-shapes
grown-requires-clause-shapes c = as-many-tables c.args.schema.now c.args.kept c.requires.extends

pub grown-requires-clause-tables : goal.grown-requires-clause-tables
grown-requires-clause-tables c =
    let sound = subst (λ (t : Tables). AreSound c.args.kept t) (sym (ap (λ (m : Memory). m.saved) c.self.view_is)) c.requires.sound in
    as-many-held c.args.kept c.self.inside.held.saved sound.fits

pub invariant_of-self : goal.invariant_of-self
invariant_of-self c =
    let sound = subst (λ (t : Tables). AreSound c.args.kept t) (sym (ap (λ (m : Memory). m.saved) c.self.view_is)) c.requires.sound in
    keeps-grown c.args.schema.now c.args.kept c.in_ok-copy.copy c.self.inside.under_way c.self.inside.held.saved c.in_ok-held.held c.requires.extends sound c.in_ok-copy.ensures c.in_ok-held.ensures

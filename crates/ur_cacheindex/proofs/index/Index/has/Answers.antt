use Rattle.std.proofs.Common.{sym, subst, IsSome}
use Rattle.std.specs.FinMap.{get}
use Rattle.ur_cacheindex.proofs.Stored.{stored_there, there_stored}
use Rattle.ur_cacheindex.proofs.index.Index.has.Goals as goal

pub returns : goal.returns
returns c = (
  λ h. subst (λ m. IsSome (get m c.args.id.number)) c.self.view_is (stored_there c.self.inside.nodes c.args.id.number (c.has.ensures.0 h)),
  λ h. c.has.ensures.1 (there_stored c.self.inside.nodes c.args.id.number (subst (λ m. IsSome (get m c.args.id.number)) (sym c.self.view_is) h)),
)

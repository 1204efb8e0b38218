use Rattle.std.proofs.Common.{◌∙◌, ap}
use Rattle.std.specs.FinMap.{remove}
use Rattle.ur_cacheindex.proofs.Listing.{inserted_removed}
use Rattle.ur_cache.proofs.Recency.{put_new}
use Rattle.ur_cache.proofs.held.put_in.Goals as goal

pub returns-in-Ok-put-clause-ok : goal.returns-in-Ok-put-clause-ok
returns-in-Ok-put-clause-ok c =
    (c.in-Ok.id.number, c.in-Ok.ensures.0, c.in-Ok.ensures.1, λ h. ap (λ l. l.entries) c.in-Ok-put.ensures.entries ∙ put_new c.args.held.now c.args.index.now c.in-Ok.id.number c.args.rows h c.in-Ok.ensures.0 c.requires)

pub returns-clause-err : goal.returns-clause-err
returns-clause-err c = (
  c.unlink.ensures ∙ ap (λ m. remove m c.in-Ok.id.number) c.in-Ok.ensures.1 ∙ inserted_removed c.args.index.now c.in-Ok.id.number c.args.node c.in-Ok.ensures.0,
  ap (λ l. l.entries) c.in-Err-put.ensures.err,
)

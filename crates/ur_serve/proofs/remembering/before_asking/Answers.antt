use Rattle.std.proofs.Common.{sym, ◌∙◌}
use Rattle.ur_serve.proofs.remembering.before_asking.Goals as goal

pub returns-else-touches : goal.returns-else-touches
returns-else-touches c = (
  c.new.ensures,
  sym c.only_shows.ensures ∙ c.if-not-only_shows.false,
  (c.in-Some.target.now, sym c.in-Some.ensures.value, c.requires c.in-Some.target.now (c.touches.ensures c.if-touches.false)),
)

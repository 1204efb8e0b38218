use Rattle.std.proofs.Common.{◌+◌}
use Rattle.ur_cacheindex.specs.Linked.{nodes_of}
use Rattle.ur_cacheindex.proofs.Walking.{Moves-start, Moves-more}
use Rattle.ur_cacheindex.proofs.walk.drop_along.Goals as goal

pub loop-turn-init : goal.loop-turn-init
loop-turn-init c = (Moves-start c.args.mask c.args.heads.now c.args.nodes.now c.args.listed c.args.dropped.now c.args.steps.now c.requires.linked c.requires.leads c.requires.room, λ filled. filled)

pub loop-turn-preserved : goal.loop-turn-preserved
loop-turn-preserved c = (
  Moves-more c.args.mask.now (nodes_of c.args.nodes.now) c.args.dropped.now (c.args.steps.now + c.args.listed.head.len) c.loop-turn.heads c.loop-turn.nodes c.args.listed.slot c.loop-turn.at c.loop-turn._turn
      c.args.listed.head.len c.loop-turn.dropped c.loop-turn.steps c.loop-turn.invariant.0 c.in-Some.number c.in-Some.is c.drop_at-at.new.heads c.drop_at-at.new.nodes c.drop_at-at.result c.drop_at-at.new.dropped
      c.drop_at-at.new.steps c.drop_at-at.ensures.next c.drop_at-at.ensures.drops c.drop_at-at.ensures.linked c.drop_at-at.ensures.lists c.drop_at-at.ensures.steps,
  λ filled. c.drop_at-at.ensures.filled (c.loop-turn.invariant.1 filled),
)

pub returns-clause-filled : goal.returns-clause-filled
returns-clause-filled c = c.loop-turn.invariant.1

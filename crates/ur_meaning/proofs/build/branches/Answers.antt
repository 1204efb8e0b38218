use Rattle.std.proofs.Common.{◌≡◌, ap, length, reverse, ◌∙◌, arith}
use Rattle.ur_meaning.proofs.Building.{none_taken, taken_next, one_longer, taken_all}
use Rattle.ur_meaning.proofs.build.branches.Goals as goal

pub loop-place-init : goal.loop-place-init
loop-place-init c =
    (none_taken (λ b. b.pattern) c.args.patterns.now c.new-made.result c.new-made.ensures, none_taken (λ b. b.body) c.args.bodies.now c.new-made.result c.new-made.ensures, ap length c.new-made.ensures)

pub loop-place-preserved : goal.loop-place-preserved
loop-place-preserved c =
    let more = c.in_ok-push.ensures.ok in (
      taken_next (λ b. b.pattern) c.args.patterns.now c.loop-place.patterns c.last_branch.new.patterns c.loop-place.made c.push.new.self c.in_ok-branch.branch
          c.loop-place.invariant.0 c.in_ok-branch.ensures.patterns more,
      taken_next (λ b. b.body) c.args.bodies.now c.loop-place.bodies c.last_branch.new.bodies c.loop-place.made c.push.new.self c.in_ok-branch.branch
          c.loop-place.invariant.1 c.in_ok-branch.ensures.bodies more,
      one_longer c.loop-place.made c.push.new.self c.in_ok-branch.branch c.loop-place._place more c.loop-place.invariant.2,
    )

pub returns-clause-made : goal.returns-clause-made
returns-clause-made c =
    let whole : length c.loop-place.made ≡ length c.args.patterns.now =
    omega (arith, c.loop-place.invariant.2, c.loop-place-test.false, c.loop-place.auto._place-end, c.len-place-end.ensures) in
    λ bs bodies patterns.
    c.from_vec.ensures ∙ c.reverse.ensures.items ∙ ap reverse c.into_vec-made.ensures
    ∙ taken_all c.args.patterns.now c.loop-place.patterns c.args.bodies.now c.loop-place.bodies c.loop-place.made bs c.loop-place.invariant.0 c.loop-place.invariant.1 whole bodies patterns

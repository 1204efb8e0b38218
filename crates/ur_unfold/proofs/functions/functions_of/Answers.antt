use Rattle.std.proofs.Common.{map, ap}
use Rattle.ur_terms.specs.declared.term.Function.{Function}
use Rattle.ur_unfold_pieces.specs.Standing.{instances_in}
use Rattle.ur_unfold.proofs.Assembled.{no_heads, heads_more, bodies_more}
use Rattle.ur_unfold.proofs.functions.functions_of.Goals as goal

pub loop-body-init : goal.loop-body-init
loop-body-init c =
    (ap (map (λ (f : Function). f.body)) c.new-functions.ensures, no_heads c.args.typed.now (instances_in c.args.table.now) c.new-functions.result c.new-functions.ensures)

pub loop-body-preserved : goal.loop-body-preserved
loop-body-preserved c = (
  bodies_more c.args.typed.now (instances_in c.args.table.now) c.in-Some.body c.loop-body.functions c.push_function.new.functions c.loop-body.yielded c.loop-body.invariant.0 c.in_ok-push_function.ensures,
  heads_more c.args.typed.now (instances_in c.args.table.now) c.in-Some.body c.loop-body.functions c.push_function.new.functions c.loop-body.invariant.1 c.in_ok-push_function.ensures,
)

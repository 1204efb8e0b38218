use Rattle.std.proofs.Common.{refl}
use Rattle.ur_emit.proofs.Matching.{bound_one}
use Rattle.ur_emit.proofs.binding.bind_value.Goals as goal

pub returns : goal.returns
returns c = λ p x e. bound_one p x c.args.value.now c.args.value c.args.slots.now c.push.new.self refl c.in_ok-push.ensures.ok e

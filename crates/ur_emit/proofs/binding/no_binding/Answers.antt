use Rattle.std.proofs.Common.{None, Some, false, sym, subst, true}
use Rattle.ur_emit.specs.Slots.{IsUnbound}
use Rattle.ur_emit.proofs.Matching.{unbound}
use Rattle.ur_emit.proofs.binding.no_binding.Goals as goal

pub returns-then-matches : goal.returns-then-matches
returns-then-matches c = subst (λ b. IsUnbound b c.args.slots.now c.args.slots.now (Some 0)) (sym c.if-matches.true) (unbound true c.args.slots.now)

pub returns-else-matches : goal.returns-else-matches
returns-else-matches c = subst (λ b. IsUnbound b c.args.slots.now c.args.slots.now None) (sym c.if-matches.false) (unbound false c.args.slots.now)

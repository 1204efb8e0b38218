use Rattle.std.proofs.Common.{refl, arith}
use Rattle.ur_emit.proofs.Calls.{call_written}
use Rattle.ur_emit.proofs.links.push_call.Goals as goal

pub returns : goal.returns
returns c =
    call_written c.args.handlers.now c.args.slots.now c.args.name.now c.args.route c.args.count c.args.args.now c.args.out.now c.push.new.self
    c.extend_from_slice.new.self c.extend_from_slice-2.new.self c.push_route.new.out
    c.push_arguments.new.out c.push-2.new.self (omega arith)
    c.in_ok-push.ensures.ok c.in_ok-extend_from_slice.ensures.ok c.in_ok-extend_from_slice-2.ensures.ok c.in_ok-push_route.ensures
    c.in_ok-push_arguments.ensures
    c.in_ok-push-2.ensures.ok

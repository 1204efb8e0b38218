use Rattle.std.proofs.Common.{◌≡◌, ◌+◌, suc, length, ap, subst, arith}
use Rattle.ur_io.specs.Memory.{traffic_of}
use Rattle.ur_serve.specs.Responding.{served_by}
use Rattle.ur_top.specs.Asking.{holding_in, IsReadyFor}
use Rattle.ur_top.proofs.Loading.{on_done, answered}
use Rattle.ur_top.proofs.load_command.ask.Goals as goal

pub returns-in-Served-clause-answered : goal.returns-in-Served-clause-answered
returns-in-Served-clause-answered c =
    on_done c.whole.result
    (λ one. answered (served_by c.args.server.now) c.args.left (holding_in c.args.server.now c.args.keeper.now) (holding_in c.serve_next.new.server c.serve_next.new.keeper)
    (traffic_of c.in_ok-wire.wire) (traffic_of c.serve_next.new.wire) c.args.asked c.in-Served.end c.in_ok-wire.ensures one c.in-Served.ensures.session) c.whole.ensures

pub returns-in-Served-clause-ready : goal.returns-in-Served-clause-ready
returns-in-Served-clause-ready c =
    on_done c.whole.result
    (λ one bound n h. let is : suc n ≡ length c.in-Served.end.marks + n = omega (arith, ap length one) in
    c.in-Served.ensures.ready bound n (subst (λ k. IsReadyFor bound c.args.server.now c.args.keeper.now k) is h)) c.whole.ensures

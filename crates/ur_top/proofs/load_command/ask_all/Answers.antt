use Rattle.std.proofs.Common.{◌≡◌, ◌+◌, ◌-◌, suc, Some, refl, subst, ◌∙◌, arith}
use Rattle.ur_keeper.specs.Memory.{kept_of}
use Rattle.ur_keeper.specs.Tables.{store_of}
use Rattle.ur_top.specs.Requests.{requests}
use Rattle.ur_serve.specs.Program.{fresh}
use Rattle.ur_serve.specs.Responding.{served_by}
use Rattle.ur_serve.proofs.ServeSessions.{ready_at_start}
use Rattle.ur_top.specs.Asking.{holding_in, IsReadyFor, IsAnswered}
use Rattle.ur_top.proofs.Loading.{sofar_begins, sofar_goes_on, sofar_ends}
use Rattle.ur_top.proofs.load_command.ask_all.Goals as goal

pub loop-turn-init : goal.loop-turn-init
loop-turn-init c =
    let now = c.args.keeper.now in
    record {
      room = omega arith;
      ready = ready_at_start c.args.server (kept_of now.kept) now.under_way (Some now.saved) 16777216 c.requires.ready c.requires.numbers c.requires.units (omega arith);
      same = refl;
      sofar = sofar_begins c.args.server now c.args.count c.args.seed c.requires.fresh;
    }

pub loop-turn-preserved : goal.loop-turn-preserved
loop-turn-preserved c =
    let so = c.loop-turn.invariant in
    let p = served_by c.args.server in
    let left = c.loop-turn.left in
    let now = holding_in c.loop-turn.server c.loop-turn.keeper in
    let after = holding_in c.ask.new.server c.ask.new.keeper in
    let asked = c.in_ok-asked.asked in
    let answered : IsAnswered p left now asked after = subst (λ q. IsAnswered q left now asked after) so.same c.in_ok-ask.ensures.answered in
    let more : left ≡ suc (left - 1) = omega (arith, so.room, c.loop-turn-test.true, c.if-count-left.false) in
    record {
      room = omega (arith, so.room, more);
      ready = c.in_ok-ask.ensures.ready 9223300000000000000 (left - 1) (subst (λ n. IsReadyFor 9223300000000000000 c.loop-turn.server c.loop-turn.keeper n) more so.ready);
      same = c.ask.ensures.same ∙ so.same;
      sofar = sofar_goes_on p (fresh (store_of c.args.keeper.now.saved) c.args.keeper.now.reads) now after (requests c.args.count c.args.seed) c.args.count c.loop-turn._turn (c.loop-turn._turn + 1)
          c.loop-turn.state c.next_state-state.result left asked (omega (arith, more)) c.loop-turn-test.true (omega arith) c.next_state-state.ensures c.in_ok-asked.ensures so.sofar answered;
    }

pub returns : goal.returns
returns c =
    let so = c.loop-turn.invariant in
    sofar_ends (served_by c.args.server) (fresh (store_of c.args.keeper.now.saved) c.args.keeper.now.reads) (holding_in c.loop-turn.server c.loop-turn.keeper) (requests c.args.count c.args.seed)
    c.args.count c.loop-turn._turn c.loop-turn.state c.loop-turn.left (omega (arith, c.loop-turn-test.false)) so.sofar

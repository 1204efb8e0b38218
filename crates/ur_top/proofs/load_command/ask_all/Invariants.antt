use Rattle.std.proofs.Common.{◌≡◌, ◌+◌, ◌-◌}
use Rattle.ur_keeper.specs.Tables.{store_of}
use Rattle.ur_serve.specs.Program.{fresh}
use Rattle.ur_serve.specs.Responding.{served_by}
use Rattle.ur_top.specs.Requests.{requests}
use Rattle.ur_top.specs.Asking.{holding_in, IsReadyFor}
use Rattle.ur_top.proofs.Loading.{Sofar}
use Rattle.ur_top.proofs.load_command.ask_all.Given as goal

abbrev pub invariant-loop-turn : goal.invariant-loop-turn
invariant-loop-turn l = record {
  room : l.left + l._turn ≡ 16777216;
  ready : IsReadyFor 9223300000000000000 l.server l.keeper l.left;
  same : served_by l.server ≡ served_by l.fn.server;
  sofar : Sofar (served_by l.fn.server) (fresh (store_of l.fn.keeper.saved) l.fn.keeper.reads) (requests l.fn.count l.fn.seed) (requests (l.fn.count - l._turn) l.state) l.left
      (holding_in l.server l.keeper);
}

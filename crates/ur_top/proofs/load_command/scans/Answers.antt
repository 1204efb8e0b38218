use Rattle.std.proofs.Common.{◌≡◌, None, sym, ap, subst, ◌∙◌}
use Rattle.ur_keeper.specs.Memory.{Memory}
use Rattle.ur_keeper.specs.Tables.{store_of}
use Rattle.ur_serve.specs.Program.{fresh}
use Rattle.ur_serve.specs.Responding.{served_by}
use Rattle.ur_top.specs.Requests.{requests}
use Rattle.ur_top.specs.Asking.{AreAnswered}
use Rattle.ur_top.proofs.Loading.{scans_of}
use Rattle.ur_top.proofs.load_command.scans.Goals as goal

pub returns-in-Ok-clause-scans : goal.returns-in-Ok-clause-scans
returns-in-Ok-clause-scans c =
    let old = c.new-keeper.result in
    let new = c.notes_server.new.keeper in
    let s = c.in_ok-server.server in
    let started = c.in_ok-server.ensures.started in
    let connections = requests c.args.count c.args.seed in
    let none : old.kept ≡ None = ap (λ (m : Memory). m.kept) c.new-keeper.ensures in
    let no_reads : new.reads ≡ 0 = c.notes_server.ensures.reads ∙ ap (λ (m : Memory). m.reads) c.new-keeper.ensures in
    scans_of c.code_serves_source.ensures c.sound_tables_last.ensures started.0 c.args.cache old new s connections c.reads.result none no_reads started.1
    (subst (λ n. AreAnswered (served_by s) (fresh (store_of new.saved) new.reads) connections n) (sym c.reads.ensures) c.in-Ok.ensures)

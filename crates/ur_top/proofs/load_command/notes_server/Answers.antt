use Rattle.std.proofs.Common.{IfOk, ap, subst, ◌∙◌}
use Rattle.ur_io.specs.Memory.{ShelfState}
use Rattle.ur_words.specs.declared.reading.Settings.{Settings}
use Rattle.ur_top.specs.Asking.{held_in}
use Rattle.ur_top.specs.Starting.{IsAttachedServer}
use Rattle.ur_top.proofs.Loading.{if_notes_server}
use Rattle.ur_top.proofs.load_command.notes_server.Goals as goal

pub returns-in-Ok-compile-clause-started : goal.returns-in-Ok-compile-clause-started
returns-in-Ok-compile-clause-started c =
    let code = c.in-Ok-compile.compiled.verified in
    let patterns = c.in-Ok-compile.compiled.patterns in
    let old = c.args.keeper.now in
    let new = c.start.new.keeper in
    if_notes_server code patterns c.args.cache old new c.new-shelf.result.files c.start.result (ap (λ (s : ShelfState). s.files) c.new-shelf.ensures ∙ c.in-Ok.ensures) c.in-Ok-compile.ensures.compiled
    c.in-Ok-compile.ensures.patterns (subst (λ (s : Settings). IfOk c.start.result (IsAttachedServer code patterns s (held_in old) (held_in new) new.under_way)) c.settings.ensures c.start.ensures.started)

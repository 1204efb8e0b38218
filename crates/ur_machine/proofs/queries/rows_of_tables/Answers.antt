use Rattle.std.proofs.Common.{sym, ap, ◌∙◌, length}
use Rattle.ur_machine.specs.Answers.{scanned}
use Rattle.ur_machine.proofs.Reading.{key_with, read_told, read_typed, kept_at_key, finds_read, read_leaves}
use Rattle.ur_machine.proofs.queries.rows_of_tables.Goals as goal

pub returns-clause-finds : goal.returns-clause-finds
returns-clause-finds g c =
    let at = sym c.in-Some.ensures.value in
    let is = key_with c.args.code.now c.args.site c.args.key.now c.requires.takes c.in-Some.query.now at in
    finds_read c.args.code.now c.args.patterns.now c.args.site c.args.key.now is _ _ _ _ _ _ _ _ _ _ _ c.in_ok-rows-in-Some.rows c.requires.missed
    (kept_at_key _ _ c.args.site _ c.args.key.now c.in_ok-rows-in-Some.rows c.requires.atoms c.in_ok-keep_rows-in-Some.ensures.ok)
    (read_told c.args.code.now c.args.site c.in-Some.query.now at c.args.key.now c.as_slice.result.now c.as_slice.ensures c.in_ok-rows-in-Some.rows
    c.in_ok-tables-in-Some.tables c.as_slice-in-Some.result.now (c.in_ok-rows-in-Some.ensures ∙ c.in_ok-answer-in-Some.ensures) c.as_slice-in-Some.ensures
    _ c.in_ok-tables-in-Some.ensures.rows)
    (read_typed c.args.code.now c.requires.fits c.args.site c.in-Some.query.now at c.args.key.now is.fits c.as_slice.result.now c.as_slice.ensures
    c.in_ok-rows-in-Some.rows c.in_ok-tables-in-Some.tables c.as_slice-in-Some.result.now (c.in_ok-rows-in-Some.ensures ∙ c.in_ok-answer-in-Some.ensures)
    c.as_slice-in-Some.ensures _ c.requires.kept c.in_ok-tables-in-Some.ensures.every_form)
    c.in_ok-tables-in-Some.ensures.current
    (c.in_ok-tables-in-Some.ensures.reads ∙ ap (λ items. scanned (length items) (g.K.Keeper.reads c.args.keeper.now)) c.as_slice.ensures)
    c.in_ok-tables-in-Some.ensures.ends

pub returns-clause-answers : goal.returns-clause-answers
returns-clause-answers g c =
    let at = sym c.in-Some.ensures.value in
    let is = key_with c.args.code.now c.args.site c.args.key.now c.requires.takes c.in-Some.query.now at in
    read_leaves c.args.code.now c.args.patterns.now c.args.site c.args.key.now is (g.K.Keeper.saved c.args.keeper.now)
    (g.K.Keeper.saved c.scan_all.new.keeper) (g.K.Keeper.current c.args.keeper.now) (g.K.Keeper.current c.scan_all.new.keeper)
    (g.K.Keeper.kept c.args.keeper.now) (g.K.Keeper.kept c.scan_all.new.keeper) (g.K.Keeper.under_way c.scan_all.new.keeper)
    (g.K.Keeper.reads c.args.keeper.now) (g.K.Keeper.reads c.scan_all.new.keeper)
    c.args.cache.now c.keep_rows.new.cache c.in_ok-rows-in-Some.rows c.requires.saved c.requires.current
    (kept_at_key _ _ c.args.site _ c.args.key.now c.in_ok-rows-in-Some.rows c.requires.atoms c.in_ok-keep_rows-in-Some.ensures.ok)
    (read_told c.args.code.now c.args.site c.in-Some.query.now at c.args.key.now c.as_slice.result.now c.as_slice.ensures c.in_ok-rows-in-Some.rows
    c.in_ok-tables-in-Some.tables c.as_slice-in-Some.result.now (c.in_ok-rows-in-Some.ensures ∙ c.in_ok-answer-in-Some.ensures) c.as_slice-in-Some.ensures
    _ c.in_ok-tables-in-Some.ensures.rows)
    (read_typed c.args.code.now c.requires.fits c.args.site c.in-Some.query.now at c.args.key.now is.fits c.as_slice.result.now c.as_slice.ensures
    c.in_ok-rows-in-Some.rows c.in_ok-tables-in-Some.tables c.as_slice-in-Some.result.now (c.in_ok-rows-in-Some.ensures ∙ c.in_ok-answer-in-Some.ensures)
    c.as_slice-in-Some.ensures _ c.requires.kept c.in_ok-tables-in-Some.ensures.every_form)
    c.in_ok-tables-in-Some.ensures.ends.same_saved c.in_ok-tables-in-Some.ensures.current

use Rattle.std.proofs.Common.{All, sym, refl, subst, ap, ◌∙◌, option_map}
use Rattle.ur_base.specs.Told.{WhereTold}
use Rattle.ur_values.specs.declared.value.Value.TheVariants as Value
use Rattle.ur_keeper.specs.Tables.{Keeps}
use Rattle.ur_machine.specs.Changing.{MayChangeAll, all_changed}
use Rattle.ur_sql.specs.Plan.{OnChanges, OfNewRow}
use Rattle.ur_values.specs.Store.{FitsShape}
use Rattle.ur_machine.proofs.Planning.{made_key_error, made_full_error, made_spent, made_may, made_ok, are_rows, within_after, none_fit, all_fit}
use Rattle.ur_machine.proofs.writes.make.Goals as goal

pub returns-then-not-are_storable-clause-made : goal.returns-then-not-are_storable-clause-made
returns-then-not-are_storable-clause-made g c =
    made_spent c.args.schema.now c.args.change.now c.args.args.now _ _ _ _ _ _ _ c.in-Some.shape.now (sym c.in-Some.ensures.value) c.in_ok-rows-in-Some.rows c.in_ok-rows-in-Some.ensures.rows c.requires.ready c.in-Changes.changes
    (λ none. sym c.in-Changes.is ∙ c.in_ok-planned-in-Some.ensures.exact none) (none_fit c.are_storable.result c.as_slice.result.now c.in-Changes.changes c.as_slice.ensures c.if-not-are_storable.true c.are_storable.ensures) c.in_ok-rows-in-Some.ensures.ends c.in_ok-rows-in-Some.ensures.current

pub change_rows-requires-clause-may : goal.change_rows-requires-clause-may
change_rows-requires-clause-may g c =
    subst (λ cs. WhereTold (g.K.Keeper.current c.scan.new.keeper) (MayChangeAll c.args.change.now.table cs)) (sym c.as_slice-in-Changes.ensures)
    (subst (λ o. WhereTold o (MayChangeAll c.args.change.now.table c.in-Changes.changes)) (sym c.in_ok-rows-in-Some.ensures.current)
    (made_may c.args.schema.now c.args.change.now c.args.args.now (g.K.Keeper.saved c.args.keeper.now) (g.K.Keeper.saved c.scan.new.keeper) (g.K.Keeper.current c.args.keeper.now) (g.K.Keeper.current c.scan.new.keeper) (g.K.Keeper.kept c.args.keeper.now) (g.K.Keeper.kept c.scan.new.keeper) (g.K.Keeper.under_way c.scan.new.keeper)
    c.in-Some.shape.now (sym c.in-Some.ensures.value) c.in_ok-rows-in-Some.rows c.in_ok-rows-in-Some.ensures.rows c.requires.ready c.in-Changes.changes
    (λ none. sym c.in-Changes.is ∙ c.in_ok-planned-in-Some.ensures.exact none)))

pub returns-in-DuplicateKey-clause-made : goal.returns-in-DuplicateKey-clause-made
returns-in-DuplicateKey-clause-made g c =
    made_key_error c.args.schema.now c.args.change.now c.args.args.now _ _ _ _ _ _ _ c.in-Some.shape.now (sym c.in-Some.ensures.value) c.in_ok-rows-in-Some.rows c.in_ok-rows-in-Some.ensures.rows c.requires.ready _ c.refused.result
    (λ none. sym c.in-DuplicateKey.is ∙ c.in_ok-planned-in-Some.ensures.exact none) c.refused.ensures c.in_ok-rows-in-Some.ensures.ends c.in_ok-rows-in-Some.ensures.current

pub returns-clause-made : goal.returns-clause-made
returns-clause-made g c =
    made_full_error c.args.schema.now c.args.change.now c.args.args.now _ _ _ _ _ _ _ c.in-Some.shape.now (sym c.in-Some.ensures.value) c.in_ok-rows-in-Some.rows c.in_ok-rows-in-Some.ensures.rows c.requires.ready c.refused-in-TableFull.result
    (λ none. sym c.in-TableFull.is ∙ c.in_ok-planned-in-Some.ensures.exact none) c.refused-in-TableFull.ensures c.in_ok-rows-in-Some.ensures.ends c.in_ok-rows-in-Some.ensures.current

pub returns-in-Changes-clause-made : goal.returns-in-Changes-clause-made
returns-in-Changes-clause-made g c =
    let fits = subst (λ p. OnChanges p (All (OfNewRow (FitsShape c.in-Some.shape.now)))) c.in-Changes.is c.in_ok-planned-in-Some.ensures.fits in
    made_ok c.args.schema.now c.args.change.now c.args.args.now _ _ _ _ _ _ _ c.in-Some.shape.now (sym c.in-Some.ensures.value) c.in_ok-rows-in-Some.rows c.in_ok-rows-in-Some.ensures.rows c.requires.ready c.in-Changes.changes
    (λ none. sym c.in-Changes.is ∙ c.in_ok-planned-in-Some.ensures.exact none) _
    (are_rows c.args.schema.now (Keeps c.args.schema.now) c.args.change.now.table c.in-Some.shape.now refl (sym c.in-Some.ensures.value) c.in-Changes.changes fits (all_fit c.are_storable.result c.as_slice.result.now c.in-Changes.changes c.as_slice.ensures c.if-not-are_storable.false c.are_storable.ensures))
    (c.in_ok-change_rows-in-Changes.ensures.current ∙ ap (λ cs. option_map (all_changed c.args.change.now.table cs) (g.K.Keeper.current c.scan.new.keeper)) c.as_slice-in-Changes.ensures ∙ ap (option_map (all_changed c.args.change.now.table c.in-Changes.changes)) c.in_ok-rows-in-Some.ensures.current) (ap Value.Row c.new.ensures)
    (within_after _ _ _ _ _ _ _ _ c.in_ok-rows-in-Some.ensures.ends c.in_ok-change_rows-in-Changes.ensures.ends)

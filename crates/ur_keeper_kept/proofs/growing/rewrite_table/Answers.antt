use Rattle.std.proofs.Common.{◌≡◌, ◌++◌, List, All, ap, sym, subst, ◌∙◌, w64, rules}
use Rattle.std.specs.Prelude.{FitsSigned}
use Rattle.std.specs.Int.{cast_signed as to_z, cast_unsigned as of_z}
use Rattle.std.proofs.lemmas.Int.{to_z-of_z}
use Rattle.ur_keeper_bodies.specs.declared.stored.Layout.TheVariants as layouts
use Rattle.ur_keeper_kept.specs.Laid.{table_tab, IsBodyBy}
use Rattle.ur_keeper_kept.specs.Rewriting.{Entry, puts}
use Rattle.ur_keeper_kept.specs.First.{new_body}
use Rattle.ur_keeper_kept.proofs.GrowingStores.{table-anew, table-unread}
use Rattle.ur_keeper_kept.proofs.growing.rewrite_table.Goals as goal

pub returns-then-done-clause-changes : goal.returns-then-done-clause-changes
returns-then-done-clause-changes g c =
    let fits : FitsSigned w64 c.table_tab-tab.result = search rules in
    let place : c.in-Ok.table ≡ c.args.place = search rules in
    let tab = to_z w64 (of_z w64 c.table_tab-tab.result) in
    let there : tab ≡ table_tab c.args.place = to_z-of_z w64 c.table_tab-tab.result fits ∙ c.table_tab-tab.ensures ∙ ap table_tab place in
    let columns = c.columns_at-columns.result.now in
    let others = c.columns_at-others.result.now in
    let pushed = c.in_ok-done.ensures.all c.if-done.true ∙ ap (λ (es : List Entry). c.args.changes.now ++ puts tab (new_body columns others) es)
    c.as_slice.ensures in
    table-anew c.args.schema.now c.args.kept.now _ c.args.place tab columns others c.in_ok-entries.entries c.args.changes.now c.put_all.new.changes there
    c.columns_at-columns.ensures c.columns_at-others.ensures c.in_ok-entries.ensures.bodies pushed

pub returns-clause-found : goal.returns-clause-found
returns-clause-found g c = λ other.
    let fits : FitsSigned w64 c.table_tab-tab.result = search rules in
    let place : c.in-Ok.table ≡ c.args.place = search rules in
    let tab = to_z w64 (of_z w64 c.table_tab-tab.result) in
    let there : tab ≡ table_tab c.args.place = to_z-of_z w64 c.table_tab-tab.result fits ∙ c.table_tab-tab.ensures ∙ ap table_tab place in
    let others = c.columns_at-others.result.now in
    let unread : All (IsBodyBy layouts.One others) c.in_ok-entries.entries → ⊥ = λ all. c.in_ok-done.ensures.none c.if-done.false
    (subst (λ (es : List Entry). All (IsBodyBy layouts.One others) es) (sym c.as_slice.ensures) all) in
    table-unread c.args.kept.now _ c.args.place tab others c.in_ok-entries.entries c.requires.place there c.columns_at-others.ensures
    c.in_ok-entries.ensures.bodies unread c.requires.laid

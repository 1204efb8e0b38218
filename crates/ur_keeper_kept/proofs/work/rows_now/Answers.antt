use Rattle.std.proofs.Common.{◌≡◌, get_or, Option, sym, subst, ◌∙◌, w64, rules, T}
use Rattle.std.specs.Prelude.{IfSome, FitsSigned}
use Rattle.std.specs.Int.{cast_signed as to_z, cast_unsigned as of_z}
use Rattle.std.proofs.lemmas.Int.{to_z-of_z}
use Rattle.ur_values.specs.declared.schema.TableShape.{TableShape}
use Rattle.ur_keeper.specs.Tables.{AreRowsOf}
use Rattle.ur_keeper_kept.specs.Kept.{AreRead}
use Rattle.ur_keeper_kept.proofs.ReadRows.{rows-shaped, get-there}
use Rattle.std.specs.Ordering.{int_cmp}
use Rattle.std.specs.FinMap.{is_sorted}
use Rattle.ur_keeper_kept.specs.Faults.{AreReadable}
use Rattle.ur_keeper_kept.proofs.Faulty.{unread-rows}
use Rattle.ur_keeper_kept.proofs.work.rows_now.Goals as goal

pub returns-in-Some-clause-shaped : goal.returns-in-Some-clause-shaped
returns-in-Some-clause-shaped g c =
    let shape = c.index-as_slice-table.result in
    let is : shape ≡ get_or c.args.schema.now.tables c.args.table shape = search rules in
    let there = get-there c.args.schema.now.tables c.args.table shape c.requires.table is in
    let read : AreRead c.args.layout shape.columns c.in_ok-entries-2.entries c.in-Some.found.rows c.in-Some.found.next = search rules in
    subst (λ (o : Option TableShape). IfSome o (λ shape. AreRowsOf shape c.in-Some.found.rows)) (sym there) (rows-shaped c.args.layout shape c.in_ok-entries-2.entries c.in-Some.found.rows c.in-Some.found.next read)

pub returns-clause-found : goal.returns-clause-found
returns-clause-found g c = λ other.
    let s = c.args.schema.now in
    let shape = c.index-as_slice-table.result in
    let is : shape ≡ get_or s.tables c.args.table shape = search rules in
    let after = c.in_ok-entries-2.entries in
    let fits : FitsSigned w64 c.table_tab-tab.result = search rules in
    let unread : T (is_sorted int_cmp after) → AreReadable c.args.layout shape.columns after → ⊥ = search rules in
    unread-rows c.args.layout s _ c.args.table (to_z w64 (of_z w64 c.table_tab-tab.result)) shape c.in_ok-entries.entries after c.args.changes.now (to_z-of_z w64 c.table_tab-tab.result fits ∙ c.table_tab-tab.ensures) (get-there s.tables c.args.table shape c.requires.table is) c.in_ok-entries.ensures.bodies c.in_ok-entries-2.ensures unread

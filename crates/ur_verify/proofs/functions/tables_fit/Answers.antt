-- Each table's name is text.
use Rattle.std.specs.Prelude.{IsUtf8}
use Rattle.ur_values.specs.declared.schema.TableShape.{TableShape}
use Rattle.ur_verify.proofs.Loops.{all_step, not_so}
use Rattle.ur_verify.proofs.Pairs.{all_given, all_of}
use Rattle.ur_verify.proofs.Told.{among}
use Rattle.ur_verify.proofs.functions.tables_fit.Goals as goal

pub loop-table-preserved : goal.loop-table-preserved
loop-table-preserved c =
    all_step (λ (shape : TableShape). IsUtf8 shape.name) _ c.loop-table.table-index c.table-item.result c.loop-table-test.true c.table-item.is (c.is_named.ensures.0 c.if-not-is_named.false) c.loop-table.invariant

pub returns-then-not-is_named-clause-fits : goal.returns-then-not-is_named-clause-fits
returns-then-not-is_named-clause-fits c = λ k.
    not_so _ c.is_named.ensures c.if-not-is_named.true
    (all_given (λ (shape : TableShape). IsUtf8 shape.name) c.as_slice-table-items.result.now c.args.code.now.schema.tables c.loop-table.table-index c.table-item.result c.as_slice-table-items.ensures c.loop-table-test.true
    c.table-item.is k).1

pub returns-clause-fits : goal.returns-clause-fits
returns-clause-fits c =
    all_of (λ (shape : TableShape). IsUtf8 shape.name) c.as_slice-table-items.result.now c.args.code.now.schema.tables c.loop-table.table-index c.as_slice-table-items.ensures c.loop-table-test.false c.loop-table.invariant

pub returns-then-not-is_named-clause-told : goal.returns-then-not-is_named-clause-told
returns-then-not-is_named-clause-told c =
    (c.table-item.result, among c.as_slice-table-items.result.now c.args.code.now.schema.tables c.loop-table.table-index c.table-item.result c.as_slice-table-items.ensures c.loop-table-test.true c.table-item.is, not_so _ c.is_named.ensures c.if-not-is_named.true, c.in_ok-no_type.ensures)

use Rattle.std.proofs.Common.{sym, ap, ◌∙◌}
use Rattle.ur_rows.specs.Types.{is_arrow}
use Rattle.ur_tree.specs.IsStatic.{is_join, is_static}
use Rattle.ur_check_rules.proofs.Statics.{static-project, static-cut, static-fold, static-binary, none-first, none-second, all-third, static-past, static-not, static-end}
use Rattle.ur_check_rules.proofs.fixed.+fixed.Goals as goal

pub is_static-returns-in-Project : goal.is_static-returns-in-Project
is_static-returns-in-Project t c = c.is_static-in-Project.ensures ∙ ap is_static c.get-in-Project.ensures ∙ sym (ap is_static c.in-Project.is ∙ static-project c.in-Project.e c.in-Project.field-1)

pub is_static-returns-in-Cut : goal.is_static-returns-in-Cut
is_static-returns-in-Cut t c = c.is_static-in-Cut.ensures ∙ ap is_static c.get-in-Cut.ensures ∙ sym (ap is_static c.in-Cut.is ∙ static-cut c.in-Cut.e c.in-Cut.field-1)

pub are_static-returns-then-not-is_static : goal.are_static-returns-then-not-is_static
are_static-returns-then-not-is_static t c = static-not c.args.fields.now c.loop-i.i c.index-fields-i.result c.is_static.result c.loop-i-test.true c.index-fields-i.is c.is_static.ensures c.if-not-is_static.true c.loop-i.invariant

pub are_static-loop-i-preserved : goal.are_static-loop-i-preserved
are_static-loop-i-preserved t c = static-past c.args.fields.now c.loop-i.i c.index-fields-i.result c.is_static.result c.loop-i-test.true c.index-fields-i.is c.is_static.ensures c.if-not-is_static.false c.loop-i.invariant

pub are_static-returns : goal.are_static-returns
are_static-returns t c = static-end c.args.fields.now c.loop-i.i c.loop-i-test.false c.loop-i.invariant

pub is_static-returns-then-not-is_arrow : goal.is_static-returns-then-not-is_arrow
is_static-returns-then-not-is_arrow t c =
    let f = c.in-Fold in
    none-first (is_arrow f.of) (is_static f.step) (is_static f.start) (is_static c.args.exp.now) c.is_arrow.result
    (ap is_static f.is ∙ static-fold f.of f.acc f.step f.start f.row) c.is_arrow.ensures c.if-not-is_arrow.true

pub is_static-returns-then-not-is_static : goal.is_static-returns-then-not-is_static
is_static-returns-then-not-is_static t c =
    let f = c.in-Fold in
    none-second (is_arrow f.of) (is_static f.step) (is_static f.start) (is_static c.args.exp.now) c.is_arrow.result c.is_static.result
    (ap is_static f.is ∙ static-fold f.of f.acc f.step f.start f.row) c.is_arrow.ensures c.if-not-is_arrow.false (c.is_static.ensures ∙ ap is_static c.get.ensures) c.if-not-is_static.true

pub is_static-returns-else-not-is_static : goal.is_static-returns-else-not-is_static
is_static-returns-else-not-is_static t c =
    let f = c.in-Fold in
    all-third (is_arrow f.of) (is_static f.step) (is_static f.start) (is_static c.args.exp.now) c.is_arrow.result c.is_static.result c.is_static-in-Fold.result
    (ap is_static f.is ∙ static-fold f.of f.acc f.step f.start f.row) c.is_arrow.ensures c.if-not-is_arrow.false (c.is_static.ensures ∙ ap is_static c.get.ensures) c.if-not-is_static.false
    (c.is_static-in-Fold.ensures ∙ ap is_static c.get-in-Fold.ensures)

pub is_static-returns-then-not-is_join : goal.is_static-returns-then-not-is_join
is_static-returns-then-not-is_join t c =
    let f = c.in-Binary in
    none-first (is_join f.op) (is_static f.a) (is_static f.b) (is_static c.args.exp.now) c.is_join.result
    (ap is_static f.is ∙ static-binary f.op f.a f.b) c.is_join.ensures c.if-not-is_join.true

pub is_static-returns-then-not-is_static-2 : goal.is_static-returns-then-not-is_static-2
is_static-returns-then-not-is_static-2 t c =
    let f = c.in-Binary in
    none-second (is_join f.op) (is_static f.a) (is_static f.b) (is_static c.args.exp.now) c.is_join.result c.is_static-in-Binary.result
    (ap is_static f.is ∙ static-binary f.op f.a f.b) c.is_join.ensures c.if-not-is_join.false (c.is_static-in-Binary.ensures ∙ ap is_static c.get-in-Binary.ensures) c.if-not-is_static-2.true

pub is_static-returns-else-not-is_static-2 : goal.is_static-returns-else-not-is_static-2
is_static-returns-else-not-is_static-2 t c =
    let f = c.in-Binary in
    all-third (is_join f.op) (is_static f.a) (is_static f.b) (is_static c.args.exp.now) c.is_join.result c.is_static-in-Binary.result c.is_static-in-Binary-2.result
    (ap is_static f.is ∙ static-binary f.op f.a f.b) c.is_join.ensures c.if-not-is_join.false (c.is_static-in-Binary.ensures ∙ ap is_static c.get-in-Binary.ensures) c.if-not-is_static-2.false
    (c.is_static-in-Binary-2.ensures ∙ ap is_static c.get-in-Binary-2.ensures)

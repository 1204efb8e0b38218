-- A part before others.
use Rattle.std.proofs.Common.{List, false, true, ap, ◌∙◌}
use Rattle.ur_values.specs.declared.types.TypeField.{TypeField}
use Rattle.ur_verify_operations.specs.Fields.{are_apart, types_together}
use Rattle.ur_verify_operations.proofs.Flows.{part_body, part_shared, part_form}
use Rattle.ur_verify_operations.proofs.Replies.{test_at}
use Rattle.ur_verify_operations.specs.Misfits.{shared}
use Rattle.ur_verify_operations.proofs.markup.with_part.Goals as goal

pub returns-then-same_type-clause-fits : goal.returns-then-same_type-clause-fits
returns-then-same_type-clause-fits c = part_body c.args.part.now c.args.behind (c.same_type.ensures.0 c.if-same_type.true)

pub returns-then-not-are_apart-clause-fits : goal.returns-then-not-are_apart-clause-fits
returns-then-not-are_apart-clause-fits c =
    part_shared c.args.part.now c.in-Some.fields.now c.args.behind c.in-Some.ensures
    (test_at are_apart c.are_apart.result false c.as_slice.result.now c.as_slice-2.result.now c.in-Some.fields.now c.args.behind c.are_apart.ensures c.as_slice.ensures c.as_slice-2.ensures c.if-not-are_apart.true)

pub returns-clause-fits : goal.returns-clause-fits
returns-clause-fits c =
    part_form c.args.part.now c.in-Some.fields.now c.args.behind c.in_ok-together.field-0 c.in-Some.ensures
    (test_at are_apart c.are_apart.result true c.as_slice.result.now c.as_slice-2.result.now c.in-Some.fields.now c.args.behind c.are_apart.ensures c.as_slice.ensures c.as_slice-2.ensures c.if-not-are_apart.false)
    (c.in_ok-together.ensures ∙ ap (λ (fs : List TypeField). types_together fs c.args.behind) c.as_slice-3.ensures)

pub returns-then-not-are_apart-clause-told : goal.returns-then-not-are_apart-clause-told
returns-then-not-are_apart-clause-told c =
    shared c.in-Some.fields.now c.in-Some.ensures
    (test_at are_apart c.are_apart.result false c.as_slice.result.now c.as_slice-2.result.now c.in-Some.fields.now c.args.behind c.are_apart.ensures c.as_slice.ensures c.as_slice-2.ensures c.if-not-are_apart.true)
    c.in_ok-no_type.ensures

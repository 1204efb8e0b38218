use Rattle.std.proofs.Common.{sym, ap, ◌∙◌}
use Rattle.ur_terms.specs.declared.term.Op.TheVariants as op
use Rattle.ur_terms.specs.declared.term.Term.TheVariants as term
use Rattle.ur_emit.proofs.InPlace.{only_one, finds_along, finds_projected, finds_variable}
use Rattle.ur_emit.proofs.fields.+reads.Goals as goal

pub projected-returns-in-Some : goal.projected-returns-in-Some
projected-returns-in-Some t c = finds_projected c.args.slots.now c.args.args.now c.record-item.result c.args.name c.in-Some.value.now c.field_of.result
    (only_one c.args.args.now c.record-item.result _ c.in-len1.len_at_least c.in-len1.len_below c.record-item.is) c.in-Some.ensures c.field_of.ensures

pub value_at-returns-in-Project : goal.value_at-returns-in-Project
value_at-returns-in-Project t c = finds_along c.args.slots.now c.args.term.now (term.Make (op.Project c.in-Project.name) c.as_slice.result.now)
    c.projected.result
    (c.in-Make.is ∙ ap (λ o. term.Make o c.in-Make.args) c.in-Project.is ∙ ap (term.Make (op.Project c.in-Project.name)) (sym c.as_slice.ensures))
    c.projected.ensures

pub value_at-returns-in-Some : goal.value_at-returns-in-Some
value_at-returns-in-Some t c = finds_variable c.args.slots.now c.args.term.now c.in-Variable.number c.in-Some.slot.now c.held.result c.in-Variable.is
    c.in-Some.ensures c.held.ensures

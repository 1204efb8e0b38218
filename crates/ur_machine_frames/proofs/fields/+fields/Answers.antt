use Rattle.std.proofs.Common.{sym, ap, ◌∙◌}
use Rattle.ur_terms.specs.declared.term.Op.TheVariants as op
use Rattle.ur_terms.specs.declared.term.Term.TheVariants as term
use Rattle.ur_machine_frames.proofs.InPlace.{only_one, reads_along, reads_projected}
use Rattle.ur_machine_frames.proofs.fields.+fields.Goals as goal

pub projected-returns-in-Some : goal.projected-returns-in-Some
projected-returns-in-Some t c = reads_projected c.args.values.now c.args.args.now c.record-item.result c.args.name c.in-Some.value.now c.field_of.result
    (only_one c.args.args.now c.record-item.result _ c.in-len1.len_at_least c.in-len1.len_below c.record-item.is) c.in-Some.ensures c.field_of.ensures

pub value_at-returns-in-Project : goal.value_at-returns-in-Project
value_at-returns-in-Project t c = reads_along c.args.values.now c.args.term.now (term.Make (op.Project c.in-Project.name) c.as_slice.result.now) c.projected.result
    (c.in-Make.is ∙ ap (λ o. term.Make o c.in-Make.args) c.in-Project.is ∙ ap (term.Make (op.Project c.in-Project.name)) (sym c.as_slice.ensures)) c.projected.ensures

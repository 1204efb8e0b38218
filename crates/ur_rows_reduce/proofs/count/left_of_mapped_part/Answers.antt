use Rattle.std.proofs.Common.{ap, sym, ◌∙◌, arith}
use Rattle.std.proofs.lemmas.Grind.{common_steps}
use Rattle.ur_rows_reduce.specs.Mapping.{mapped_nodes}
use Rattle.ur_rows_reduce.proofs.After.{map-field-count, map-mapped-count, map-mapped-over, fits-is, over-is, fits-more, over-more}
use Rattle.ur_rows_reduce.proofs.count.left_of_mapped_part.Goals as goal

pub returns-in_err-made-in-Field-clause-over : goal.returns-in_err-made-in-Field-clause-over
returns-in_err-made-in-Field-clause-over c =
    let e = map-field-count c.args.f.now c.args.p.now c.in-Field.field-0 c.in-Field.t c.get.result.now c.in-Field.is c.get.ensures in grind (arith, common_steps)

pub returns-in_ok-made-in-Field-clause-fits : goal.returns-in_ok-made-in-Field-clause-fits
returns-in_ok-made-in-Field-clause-fits c = fits-more c.less_one.result _ _ _ _ c.in_ok-made-in-Field.ensures.fits
    (map-field-count c.args.f.now c.args.p.now c.in-Field.field-0 c.in-Field.t c.get.result.now c.in-Field.is c.get.ensures) c.less_one.ensures.fits

pub returns-in_ok-made-in-Field-clause-over : goal.returns-in_ok-made-in-Field-clause-over
returns-in_ok-made-in-Field-clause-over c = over-more _ _ _ _ c.in_ok-made-in-Field.ensures.fits
    (map-field-count c.args.f.now c.args.p.now c.in-Field.field-0 c.in-Field.t c.get.result.now c.in-Field.is c.get.ensures) c.less_one.ensures.over

pub returns-in_err-made-in-Mapped-clause-over : goal.returns-in_err-made-in-Mapped-clause-over
returns-in_err-made-in-Mapped-clause-over c =
    let k = map-mapped-over c.args.f.now c.args.p.now c.in-Mapped.field-0 c.in-Mapped.g c.get-in-Mapped.result.now c.args.nodes c.in-Mapped.is c.get-in-Mapped.ensures in grind (arith, common_steps)

pub returns-in_ok-made-in-Mapped-clause-fits : goal.returns-in_ok-made-in-Mapped-clause-fits
returns-in_ok-made-in-Mapped-clause-fits c = fits-is c.left_of_mapped-in-Mapped.result _ _ _
    (ap mapped_nodes c.in_ok-made-in-Mapped.ensures.form ∙ sym (map-mapped-count c.args.f.now c.args.p.now c.in-Mapped.field-0 c.in-Mapped.g c.get-in-Mapped.result.now c.in-Mapped.is c.get-in-Mapped.ensures))
    c.left_of_mapped-in-Mapped.ensures.fits

pub returns-in_ok-made-in-Mapped-clause-over : goal.returns-in_ok-made-in-Mapped-clause-over
returns-in_ok-made-in-Mapped-clause-over c = over-is _ _ _
    (ap mapped_nodes c.in_ok-made-in-Mapped.ensures.form ∙ sym (map-mapped-count c.args.f.now c.args.p.now c.in-Mapped.field-0 c.in-Mapped.g c.get-in-Mapped.result.now c.in-Mapped.is c.get-in-Mapped.ensures))
    c.left_of_mapped-in-Mapped.ensures.over

-- Whether a value is left out.
use Rattle.std.proofs.Common.{refl}
use Rattle.ur_values.specs.declared.types.ValueType.TheVariants as ty
use Rattle.ur_values.specs.declared.types.ValueType.TheOpen as open_type
use Rattle.ur_terms.specs.Types.{by_any}
use Rattle.ur_code.specs.Fits.{signature}
use Rattle.ur_verify_operations.specs.Wanting.{patterns_in}
use Rattle.ur_verify_operations.proofs.Covering.{not_so, both_decide, cover_at, cover_bool, cover_option, cover_list, cover_datatype, some_patterns}
use Rattle.ur_verify_operations.proofs.patterns.covers.Goals as goal

pub returns-then-has : goal.returns-then-has
returns-then-has c = ((λ q. by_any c.args.of.now (c.has.ensures.0 c.if-has.true)), (λ h. refl))

pub returns-then-has-2 : goal.returns-then-has-2
returns-then-has-2 c =
    let sig = signature c.args.code.now in let ps = patterns_in c.args.branches.now in
    both_decide c.has-in-Bool.result c.has-then-has-2.result
    (λ h. cover_at sig ps c.args.of.now ty.Bool open_type.Bool c.in-Bool.is ty.outs-Bool (not_so _ c.has.ensures c.if-has.false) h)
    (λ h. cover_bool sig ps c.args.of.now c.in-Bool.is h)
    c.has-in-Bool.ensures c.if-has-2.true c.has-then-has-2.ensures

pub returns-then-has-3 : goal.returns-then-has-3
returns-then-has-3 c =
    let sig = signature c.args.code.now in let ps = patterns_in c.args.branches.now in
    both_decide c.has-in-Opt.result c.has-then-has-3.result
    (λ h. cover_at sig ps c.args.of.now (ty.Opt c.in-Opt.field-0) (open_type.Opt c.in-Opt.field-0) c.in-Opt.is (ty.outs-Opt c.in-Opt.field-0) (not_so _ c.has.ensures c.if-has.false) h)
    (λ h. cover_option sig ps c.args.of.now c.in-Opt.field-0 c.in-Opt.is h)
    c.has-in-Opt.ensures c.if-has-3.true c.has-then-has-3.ensures

pub returns-then-has-4 : goal.returns-then-has-4
returns-then-has-4 c =
    let sig = signature c.args.code.now in let ps = patterns_in c.args.branches.now in
    both_decide c.has-in-Many.result c.has-then-has-4.result
    (λ h. cover_at sig ps c.args.of.now (ty.Many c.in-Many.field-0) (open_type.Many c.in-Many.field-0) c.in-Many.is (ty.outs-Many c.in-Many.field-0) (not_so _ c.has.ensures c.if-has.false) h)
    (λ h. cover_list sig ps c.args.of.now c.in-Many.field-0 c.in-Many.is h)
    c.has-in-Many.ensures c.if-has-4.true c.has-then-has-4.ensures

pub returns-then-not-is_empty : goal.returns-then-not-is_empty
returns-then-not-is_empty c =
    let sig = signature c.args.code.now in let ps = patterns_in c.args.branches.now in
    let some = some_patterns c.args.branches.now c.is_empty.result c.is_empty.ensures c.if-not-is_empty.true in (
      (λ q. cover_datatype sig ps c.args.of.now c.in-Datatype.number c.in-Datatype.is (some, c.has_each.ensures.0 q)),
      (λ h. c.has_each.ensures.1 (cover_at sig ps c.args.of.now (ty.Datatype c.in-Datatype.number) (open_type.Datatype c.in-Datatype.number) c.in-Datatype.is (ty.outs-Datatype c.in-Datatype.number)
          (not_so _ c.has.ensures c.if-has.false) h).1),
    )

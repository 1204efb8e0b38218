-- A query of which all parts fit.
use Rattle.std.proofs.Common.{refl}
use Rattle.ur_verify.proofs.Loops.{never, not_so}
use Rattle.ur_verify.proofs.Wholes.{conditions_of, keys_of, from_parts}
use Rattle.ur_verify.proofs.queries.is_typed.Goals as goal

pub returns-then-not-are_conditions : goal.returns-then-not-are_conditions
returns-then-not-are_conditions c =
    never (λ h. not_so _ c.are_conditions.ensures c.if-not-are_conditions.true
    (conditions_of c.args.query.now c.as_slice-params.result.now c.args.items.now c.as_slice.result.now c.as_slice-params.ensures c.requires c.as_slice.ensures h))

pub returns-then-not-keys_fit : goal.returns-then-not-keys_fit
returns-then-not-keys_fit c =
    never (λ h. not_so _ c.keys_fit.ensures c.if-not-keys_fit.true
    (keys_of c.args.query.now c.as_slice-params.result.now c.args.items.now c.as_slice-4.result.now c.as_slice-params.ensures c.requires c.as_slice-4.ensures h))

pub returns-then-not-is_grouped : goal.returns-then-not-is_grouped
returns-then-not-is_grouped c = (
  (λ q. from_parts c.args.query.now c.as_slice-params.result.now c.args.items.now c.as_slice.result.now c.as_slice-2.result.now c.as_slice-3.result.now c.as_slice-4.result.now c.as_slice-params.ensures c.requires c.as_slice.ensures c.as_slice-2.ensures c.as_slice-3.ensures c.as_slice-4.ensures (
    c.are_conditions.ensures.0 c.if-not-are_conditions.false,
    c.may_be_condition.ensures.0 c.if-not-may_be_condition.false,
    c.fields_fit.ensures.0 c.if-not-fields_fit.false,
    c.columns_are_there.ensures.0 c.if-not-columns_are_there.false,
    c.keys_fit.ensures.0 c.if-not-keys_fit.false,
  )
      (c.bounds_fit.ensures.0 c.if-not-bounds_fit.false).0 (c.bounds_fit.ensures.0 c.if-not-bounds_fit.false).1
      (λ g. absurd (not_so _ c.is_grouped.ensures c.if-not-is_grouped.true g)) (λ g. absurd (not_so _ c.is_grouped.ensures c.if-not-is_grouped.true g))),
  (λ h. refl),
)

pub returns : goal.returns
returns c = (
  (λ q. from_parts c.args.query.now c.as_slice-params.result.now c.args.items.now c.as_slice.result.now c.as_slice-2.result.now c.as_slice-3.result.now c.as_slice-4.result.now c.as_slice-params.ensures c.requires c.as_slice.ensures c.as_slice-2.ensures c.as_slice-3.ensures c.as_slice-4.ensures (
    c.are_conditions.ensures.0 c.if-not-are_conditions.false,
    c.may_be_condition.ensures.0 c.if-not-may_be_condition.false,
    c.fields_fit.ensures.0 c.if-not-fields_fit.false,
    c.columns_are_there.ensures.0 c.if-not-columns_are_there.false,
    c.keys_fit.ensures.0 c.if-not-keys_fit.false,
  )
      (c.bounds_fit.ensures.0 c.if-not-bounds_fit.false).0 (c.bounds_fit.ensures.0 c.if-not-bounds_fit.false).1
      (λ g. (c.grouped_fits.ensures.0 q).0) (λ g. (c.grouped_fits.ensures.0 q).1)),
  (λ h. c.grouped_fits.ensures.1 (h.grouped_fields (c.is_grouped.ensures.0 c.if-not-is_grouped.false), h.grouped_order (c.is_grouped.ensures.0 c.if-not-is_grouped.false))),
)

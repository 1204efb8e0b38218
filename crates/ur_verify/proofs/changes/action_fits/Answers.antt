-- An update.
use Rattle.ur_verify.proofs.Loops.{never, not_so}
use Rattle.ur_verify.proofs.Wholes.{update_parts, update_made}
use Rattle.ur_verify.proofs.changes.action_fits.Goals as goal

pub returns-then-not-sets_fit-2 : goal.returns-then-not-sets_fit-2
returns-then-not-sets_fit-2 c =
    never (λ h. not_so _ c.sets_fit-in-Update.ensures c.if-not-sets_fit-2.true
    (update_parts c.args.params.now c.args.columns.now c.in_ok-from_slice-in-Update.field-0 c.args.action.now c.in-Update.sets c.as_slice-sets-in-Update.result.now c.in-Update.condition c.in-Update.is c.as_slice-sets-in-Update.ensures c.in_ok-from_slice-in-Update.ensures h).0)

pub returns-else-not-are_distinct-2 : goal.returns-else-not-are_distinct-2
returns-else-not-are_distinct-2 c = (
  (λ q. update_made c.args.params.now c.args.columns.now c.in_ok-from_slice-in-Update.field-0 c.args.action.now c.in-Update.sets c.as_slice-sets-in-Update.result.now c.in-Update.condition c.in-Update.is c.as_slice-sets-in-Update.ensures c.in_ok-from_slice-in-Update.ensures
      (c.sets_fit-in-Update.ensures.0 c.if-not-sets_fit-2.false, c.are_distinct-in-Update.ensures.0 c.if-not-are_distinct-2.false, c.may_be_condition.ensures.0 q)),
  (λ h. c.may_be_condition.ensures.1
      (update_parts c.args.params.now c.args.columns.now c.in_ok-from_slice-in-Update.field-0 c.args.action.now c.in-Update.sets c.as_slice-sets-in-Update.result.now c.in-Update.condition c.in-Update.is c.as_slice-sets-in-Update.ensures c.in_ok-from_slice-in-Update.ensures h).2),
)

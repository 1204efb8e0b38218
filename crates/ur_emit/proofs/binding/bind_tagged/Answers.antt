use Rattle.std.proofs.Common.{refl, sym, ap, ◌∙◌}
use Rattle.ur_terms.specs.declared.term.Pattern.TheVariants as p
use Rattle.ur_terms.specs.Run.{matched, held_by, if_matches}
use Rattle.ur_machine_operations.proofs.Opened.{tagged_other, not_tagged}
use Rattle.ur_emit.proofs.binding.bind_tagged.Goals as goal

pub returns-else-other-constructor : goal.returns-else-other-constructor
returns-else-other-constructor c = (tagged_other _ _ _ _ c.in-Tagged.is c.if-other-constructor.false, refl)

pub returns-in_default : goal.returns-in_default
returns-in_default c = (not_tagged c.args.constructor c.args.value.now c.in_default.not-Tagged, refl)

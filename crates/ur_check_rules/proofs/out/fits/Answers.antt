use Rattle.std.proofs.Common.{◌≡◌, sym, ap, ◌∙◌, subst, Err}
use Rattle.std.specs.Option.{option_copied}
use Rattle.ur_base.specs.Stopping.{IfRefused}
use Rattle.ur_typed_rules.specs.Scopes.{World, Mode, wants}
use Rattle.ur_typed_rules.specs.Faults.{types_differ}
use Rattle.ur_typed.specs.Rules.{Out}
use Rattle.ur_typed.specs.Causes.{BreaksSettled}
use Rattle.ur_check_scopes.specs.Views.{StopIs, Refuses, mode_of}
use Rattle.ur_check_rules.proofs.Settling.{other-type}
use Rattle.ur_check_rules.proofs.out.fits.Goals as goal

pub returns-else-same_type-clause-refused : goal.returns-else-same_type-clause-refused
returns-else-same_type-clause-refused c =
    let names = c.args.around.now.world.now.datatype_names in
    let t = c.args.of.now in
    let u = c.in-Some.t.now in
    let wanted : mode_of (option_copied c.args.wanted) ≡ wants u = ap (λ z. mode_of (option_copied z)) c.in-Some.is in
    subst (λ (m : Mode). IfRefused {A = Unit {0}} (Err c.types_differ.result) (λ r. (w : World) (o : Out) → o.of ≡ t → Refuses names (BreaksSettled names w m o) r)) (sym wanted)
    (other-type names t u c.types_differ.result (sym c.same_type.ensures ∙ c.if-same_type.false)
    (subst (λ z. StopIs z (types_differ z t u) c.types_differ.result) c.as_slice-names.ensures c.types_differ.ensures))

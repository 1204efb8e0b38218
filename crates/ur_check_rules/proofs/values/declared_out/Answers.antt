use Rattle.std.proofs.Common.{ap, ◌∙◌, Some, None}
use Rattle.std.specs.Prelude.{option_and_then}
use Rattle.ur_typed.specs.Rules.{declared_out}
use Rattle.ur_check_scopes.proofs.Exits.{ok-along, refused-along}
use Rattle.ur_check_rules.specs.Callees.{named_by}
use Rattle.ur_check_rules.proofs.Naming.{seen-there, means-there, unknown-told, named-free, named-alone}
use Rattle.ur_check_rules.proofs.values.declared_out.Goals as goal

pub returns-in-Some-clause-declared : goal.returns-in-Some-clause-declared
returns-in-Some-clause-declared c =
    let a = c.args.around.now in
    let there = means-there a c.args.key.now c.in-Some.means
    (seen-there a.world.now.env.home c.as_slice-home.result.now c.args.key.now a.world.now.values c.as_slice.result.now c.seen.result (Some c.in-Some.means) c.as_slice-home.ensures c.as_slice.ensures c.seen.ensures c.in-Some.is) in
    ok-along c.meant_out.result (λ o h w s st k. ap (option_and_then (declared_out w s st)) (there w s k) ∙ h w s st k) c.meant_out.ensures.meant

pub returns-in-Some-clause-refused : goal.returns-in-Some-clause-refused
returns-in-Some-clause-refused c =
    let a = c.args.around.now in
    let there = means-there a c.args.key.now c.in-Some.means
    (seen-there a.world.now.env.home c.as_slice-home.result.now c.args.key.now a.world.now.values c.as_slice.result.now c.seen.result (Some c.in-Some.means) c.as_slice-home.ensures c.as_slice.ensures c.seen.ensures c.in-Some.is) in
    refused-along c.meant_out.result (λ r h w s st m k free. h.2 w s st (named_by c.args.key.now) m k (named-free c.args.key.now w s h.0 free (there w s k ∙ ap Some h.1)) (named-alone c.args.key.now)) c.meant_out.ensures.refused

pub returns-in_ok-name-in-None-clause-refused : goal.returns-in_ok-name-in-None-clause-refused
returns-in_ok-name-in-None-clause-refused c =
    let a = c.args.around.now in
    unknown-told a c.args.key.now c.unknown.result c.as_slice-text.result.now
    (seen-there a.world.now.env.home c.as_slice-home.result.now c.args.key.now a.world.now.values c.as_slice.result.now c.seen.result None c.as_slice-home.ensures c.as_slice.ensures c.seen.ensures c.in-None.is)
    c.unknown.ensures (c.as_slice-text.ensures ∙ c.in_ok-name-in-None.ensures)

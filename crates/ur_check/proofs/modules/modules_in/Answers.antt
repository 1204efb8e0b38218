use Rattle.std.proofs.Common.{◌≡◌, sym, ap, ◌∙◌, Some}
use Rattle.std.proofs.lemmas.Option.{slice_get-get_or}
use Rattle.std.specs.Prelude.{slice_get}
use Rattle.ur_check_scopes.proofs.Exits.{refused-exit}
use Rattle.ur_check.proofs.Declaring.{added-start, added-past, added-broken, added-end}
use Rattle.ur_check.proofs.modules.modules_in.Goals as goal

pub loop-i-init : goal.loop-i-init
loop-i-init c = added-start c.args.project.now c.args.bodies.now c.args.names.now c.args.modules.now c.requires

pub loop-i-preserved : goal.loop-i-preserved
loop-i-preserved c =
    let row = c.in-Some.ensures.lookup in
    let there : slice_get c.args.names.now c.loop-i.i ≡ Some c.in-Some.name.now = slice_get-get_or c.args.names.now c.loop-i.i c.in-Some.name.now row.3.0 ∙ ap (λ m. Some m) (sym row.1) in
    added-past c.args.project.now c.loop-i.project c.module_in.new.project c.args.bodies.now c.loop-i.bodies c.module_in.new.bodies c.args.names.now c.args.modules.now c.loop-i.i c.in-Some.name.now c.index-modules-i.result there c.loop-i-test.true c.index-modules-i.is
    c.in_ok-module_in-in-Some.ensures.ok c.loop-i.invariant

pub returns-in_err-module_in-in-Some-clause-refused : goal.returns-in_err-module_in-in-Some-clause-refused
returns-in_err-module_in-in-Some-clause-refused c =
    let row = c.in-Some.ensures.lookup in
    let there : slice_get c.args.names.now c.loop-i.i ≡ Some c.in-Some.name.now = slice_get-get_or c.args.names.now c.loop-i.i c.in-Some.name.now row.3.0 ∙ ap (λ m. Some m) (sym row.1) in
    refused-exit c.from_residual.result c.in_err-module_in-in-Some.field-0.0 c.from_residual.ensures.1
    (λ r h. added-broken c.args.project.now c.loop-i.project c.args.bodies.now c.loop-i.bodies c.args.names.now c.args.modules.now c.loop-i.i c.in-Some.name.now c.index-modules-i.result r there c.loop-i-test.true c.index-modules-i.is h c.loop-i.invariant)
    c.in_err-module_in-in-Some.ensures.refused

pub returns-clause-ok : goal.returns-clause-ok
returns-clause-ok c = added-end c.args.project.now c.loop-i.project c.args.bodies.now c.loop-i.bodies c.args.names.now c.args.modules.now c.loop-i.i c.loop-i-test.false c.loop-i.auto.i-end c.loop-i.invariant

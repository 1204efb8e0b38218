use Rattle.std.proofs.Common.{ap, ◌∙◌, Some, None}
use Rattle.std.specs.Prelude.{option_map}
use Rattle.ur_check_scopes.specs.Views.{means_in}
use Rattle.ur_check_rules.proofs.Naming.{seen-there, means-there, declared-values}
use Rattle.ur_check_walk.proofs.Passing.{val-named, none-declared}
use Rattle.ur_check_walk.proofs.instances.undeclared.Goals as goal

pub returns-in-Val : goal.returns-in-Val
returns-in-Val c =
    let a = c.args.around.now in
    let there = means-there a c.args.key.now c.in-Some.means
    (seen-there a.world.now.env.home c.as_slice-home.result.now c.args.key.now a.world.now.values c.as_slice.result.now c.seen.result (Some c.in-Some.means) c.as_slice-home.ensures c.as_slice.ensures c.seen.ensures c.in-Some.is) in
    val-named a c.args.key.now c.in-Val._number c.not_named.result (λ w z st. there w z st ∙ ap (λ m. Some (means_in m)) c.in-Val.is) c.not_named.ensures

pub returns-in-None : goal.returns-in-None
returns-in-None c =
    let a = c.args.around.now in
    let there = seen-there a.world.now.env.home c.as_slice-home.result.now c.args.key.now a.world.now.values c.as_slice.result.now c.seen.result None c.as_slice-home.ensures c.as_slice.ensures c.seen.ensures c.in-None.is in
    none-declared a c.args.key.now c.no_declaration.result (λ w z st. declared-values a c.args.key.now w z st ∙ ap (option_map means_in) there) c.no_declaration.ensures

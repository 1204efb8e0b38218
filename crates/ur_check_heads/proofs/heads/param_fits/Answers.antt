use Rattle.std.proofs.Common.{refl, sym, ◌∙◌, ap, length, get_or, Some}
use Rattle.ur_tree.specs.declared.exp.Param.{Param}
use Rattle.std.proofs.lemmas.Option.{slice_get_read, slice_get_past}
use Rattle.ur_typed_rules.specs.Arguments.{BreaksWritten}
use Rattle.ur_typed_rules.proofs.Options.{some_none}
use Rattle.ur_check_scopes.specs.Views.{env_in}
use Rattle.ur_check_scopes.proofs.Exits.{refused-along, refuses}
use Rattle.ur_check_heads.proofs.Fitting.{BreaksAt}
use Rattle.ur_check_heads.proofs.heads.param_fits.Goals as goal

pub returns-then-at-count-clause-refused : goal.returns-then-at-count-clause-refused
returns-then-at-count-clause-refused c =
    let env = env_in c.args.around.now.scope.cons in
    let p : Param = get_or c.args.params.now c.args.at c.index-params-at.result in
    refused-along c.written_is_param.result
    (refuses c.args.around.now.world.now.datatype_names (BreaksWritten env c.args.written.now p.of) (BreaksAt env c.args.written.now c.args.params.now c.args.at)
    (λ f b. (p, slice_get_read c.args.params.now (length c.args.params.now) c.args.at c.index-params-at.result refl c.if-at-count.true c.index-params-at.is ∙ ap Some c.index-params-at.is, b)))
    c.written_is_param.ensures.refused

pub returns-clause-ok : goal.returns-clause-ok
returns-clause-ok c = λ p e. absurd (some_none (sym e ∙ slice_get_past c.args.params.now c.args.at c.if-at-count.false))

use Rattle.std.proofs.Common.{refl, sym, ◌∙◌, ap}
use Rattle.ur_check_scopes.specs.declared.names.Means.TheVariants as means
use Rattle.ur_check_scopes.specs.declared.world.FunctionHead.{FunctionHead}
use Rattle.ur_check_heads.proofs.Seeing.{function-at}
use Rattle.ur_check_heads.proofs.functions.add_function.Goals as goal

pub returns : goal.returns
returns c = λ home z f w s n h.
    let g : FunctionHead = record { «module» = c.args.project.now.world.«module»; name = c.in_ok-name.name; head = c.args.head } in
    function-at c.args.project.now home z c.in_ok-entry.entry g c.args.name.now f w _ _ n c.in_ok-entry.ensures.name (c.in_ok-entry.ensures.of ∙ ap means.Function (c.in_ok-at.ensures ∙ c.len.ensures)) refl c.in_ok-name.ensures (sym h)
    c.in_ok-push.ensures.ok c.in_ok-push-2.ensures.ok s

use Rattle.std.proofs.Common.{sym, ap, ◌∙◌}
use Rattle.std.specs.Option.{option_copied}
use Rattle.ur_unfold.proofs.Headed.{head_at}
use Rattle.ur_unfold.proofs.functions.function_at.Goals as goal

pub returns-in-Some-get-clause-head : goal.returns-in-Some-get-clause-head
returns-in-Some-get-clause-head c =
    head_at c.args.typed.now c.args.table.now.closing c.args.table.now.instances.keys c.args.number c.in-Some.key.now c.in-Some-get.source.now c.function_of.result (sym c.get_index.ensures.key ∙ ap option_copied c.in-Some.is)
    (sym c.get.ensures.value ∙ ap option_copied c.in-Some-get.is) c.function_of.ensures.head

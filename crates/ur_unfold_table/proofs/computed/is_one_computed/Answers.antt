use Rattle.std.proofs.Common.{Bool, ◌||◌, sym, ap, ◌∙◌}
use Rattle.ur_source.specs.Items.{is_computed}
use Rattle.ur_source.specs.Source.{source_of}
use Rattle.ur_unfold_table.proofs.Computing.{is_computed_here}
use Rattle.ur_unfold_table.proofs.computed.is_one_computed.Goals as goal

pub returns-then-names_static : goal.returns-then-names_static
returns-then-names_static c =
    let first = is_computed_here c.args.table.now.typed.now c.args.a.now c.get.result.now c.names_static.result c.names_static.ensures c.get.ensures in
    sym (ap (λ (x : Bool). x || is_computed (source_of c.args.table.now.typed.now) c.args.b.now) (sym first ∙ c.if-names_static.true))

pub returns : goal.returns
returns c =
    let first = is_computed_here c.args.table.now.typed.now c.args.a.now c.get.result.now c.names_static.result c.names_static.ensures c.get.ensures in
    let second = is_computed_here c.args.table.now.typed.now c.args.b.now c.get-2.result.now c.names_static-2.result c.names_static-2.ensures c.get-2.ensures in
    second ∙ sym (ap (λ (x : Bool). x || is_computed (source_of c.args.table.now.typed.now) c.args.b.now) (sym first ∙ c.if-names_static.false))

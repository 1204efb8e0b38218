use Rattle.std.proofs.Common.{◌<◌, List, Err, ap, subst, ◌∙◌}
use Rattle.ur_rows.specs.Nodes.{most_nodes, nodes}
use Rattle.ur_unfold_static.proofs.Laws.{grows_so}
use Rattle.ur_unfold_static.specs.Scopes.{IsAt}
use Rattle.ur_rows.specs.Put.{instance}
use Rattle.ur_rows.specs.declared.normal.Normal.{Normal}
use Rattle.ur_rows_reduce.specs.declared.count.Halt.TheVariants as halt
use Rattle.ur_unfold_pieces.proofs.Numbered.{halt_is}
use Rattle.ur_unfold_pieces.proofs.constructors.instance_number.Goals as goal

pub returns-in_ok-add_con-in-Ok-clause-number : goal.returns-in_ok-add_con-in-Ok-clause-number
returns-in_ok-add_con-in-Ok-clause-number c =
    subst (λ (m : Normal). IsAt c.add_con.new.self.cons c.in_ok-add_con-in-Ok.field-0 m) (c.in-Ok.ensures.form ∙ ap (λ (a : List Normal). instance a c.args.con.now) c.as_slice.ensures) c.in_ok-add_con-in-Ok.ensures.number

pub returns-in-Err-clause-over : goal.returns-in-Err-clause-over
returns-in-Err-clause-over c = λ e. subst (λ (a : List Normal). most_nodes < nodes (instance a c.args.con.now)) c.as_slice.ensures (c.instance.ensures.over (c.in-Err.is ∙ ap Err (halt_is c.in-Err.halt halt.TooLarge e)))

pub returns-in-Err-clause-grows : goal.returns-in-Err-clause-grows
returns-in-Err-clause-grows c = grows_so c.args.closing.now

use Rattle.std.proofs.Common.{sym, subst, ◌∙◌}
use Rattle.ur_tree.specs.declared.exp.Exp.{Exp}
use Rattle.ur_tree.specs.declared.exp.Exp.TheVariants as x
use Rattle.ur_unfold_pieces.specs.Forming.{OpensExp}
use Rattle.ur_unfold_table.proofs.named.apply_form.Goals as goal

pub returns-in-Function-clause-form : goal.returns-in-Function-clause-form
returns-in-Function-clause-form c =
    subst (λ (g : Exp). OpensExp c.args.table.now c.named_form.new.table c.args.scope (x.Apply g c.args.args.now) c.named_form.result) (sym (sym c.get.ensures ∙ c.in-Function.is)) c.named_form.ensures.form

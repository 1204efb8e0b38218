use Rattle.std.proofs.Common.{ap, sym, ◌∙◌, subst, ◌≤◌}
use Rattle.ur_rows.specs.IsNormal.{is_normal}
use Rattle.ur_rows.specs.Nodes.{nodes, most_nodes}
use Rattle.ur_rows.proofs.InOrder.{nf-normal}
use Rattle.ur_rows_reduce.specs.Height.{height, most_levels}
use Rattle.ur_rows_reduce.proofs.Holding.{held-form, large-over}
use Rattle.ur_rows_normal.proofs.environment.normal_in.Goals as goal

pub returns-in-Form-clause-form : goal.returns-in-Form-clause-form
returns-in-Form-clause-form c = λ env p. (held-form c.in_ok-held.held c.in-Form.form _ c.in-Form.is (c.in_ok-held.ensures env p)).0

pub returns-in-Form-clause-small : goal.returns-in-Form-clause-small
returns-in-Form-clause-small c = λ env p. let h = held-form c.in_ok-held.held c.in-Form.form _ c.in-Form.is (c.in_ok-held.ensures env p) in subst (λ z. nodes z ≤ most_nodes) (sym h.0) h.1

pub returns-in-Form-clause-low : goal.returns-in-Form-clause-low
returns-in-Form-clause-low c = λ env p. let h = held-form c.in_ok-held.held c.in-Form.form _ c.in-Form.is (c.in_ok-held.ensures env p) in subst (λ z. height z ≤ most_levels) (sym h.0) h.2

pub returns-in-Form-clause-in_order : goal.returns-in-Form-clause-in_order
returns-in-Form-clause-in_order c = λ env p. ap is_normal (held-form c.in_ok-held.held c.in-Form.form _ c.in-Form.is (c.in_ok-held.ensures env p)).0 ∙ nf-normal env c.args.con.now.form

pub returns-clause-refused : goal.returns-clause-refused
returns-clause-refused c = (c.in_ok-refusal-in-Large.ensures, λ env p. large-over c.in_ok-held.held c.in-Large.field-0 _ c.in-Large.is (c.in_ok-held.ensures env p))

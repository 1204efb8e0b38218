use Rattle.std.proofs.Common.{List, subst}
use Rattle.ur_rows.specs.declared.normal.Label.{Label}
use Rattle.ur_rows.specs.declared.normal.NormalType.{NormalType}
use Rattle.ur_rows.specs.declared.normal.Normal.TheVariants as normal
use Rattle.ur_rows.specs.declared.normal.Part.{Part}
use Rattle.ur_unfold_static.specs.Scopes.{IsAt}
use Rattle.ur_unfold_static.proofs.Laws.{grows_so}
use Rattle.ur_unfold_pieces.proofs.Stepping.{three_at}
use Rattle.ur_unfold_pieces.proofs.steps.field_step.Goals as goal

pub returns-in_err-label-clause-grows : goal.returns-in_err-label-clause-grows
returns-in_err-label-clause-grows c = grows_so c.args.closing.now

pub returns-clause-step : goal.returns-clause-step
returns-clause-step c =
    three_at c.add_con.new.self c.add_con-2.new.self c.add_con-3.new.self c.add_con-2.ensures.grows c.add_con-3.ensures.grows c.in_ok-name.name c.in_ok-of.of c.in_ok-rest.rest
    (normal.Name c.args.label.now) (normal.Type c.args.of.now) (normal.Row c.args.rest.now)
    (subst (λ (m : Label). IsAt c.add_con.new.self.cons c.in_ok-name.name (normal.Name m)) c.in_ok-label.ensures c.in_ok-name.ensures.number)
    (subst (λ (m : NormalType). IsAt c.add_con-2.new.self.cons c.in_ok-of.of (normal.Type m)) c.in_ok-t.ensures c.in_ok-of.ensures.number)
    (subst (λ (m : List Part). IsAt c.add_con-3.new.self.cons c.in_ok-rest.rest (normal.Row m)) c.in_ok-row.ensures c.in_ok-rest.ensures.number)

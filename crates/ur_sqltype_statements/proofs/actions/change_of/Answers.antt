use Rattle.std.proofs.Common.{◌≡◌, ◌∙◌, sym, ap, subst, Some, None}
use Rattle.std.specs.Prelude.{MatchOption}
use Rattle.ur_sqltype.specs.Tables.{table_at}
use Rattle.ur_sqltype.specs.Change.{target_of, change_at, change_of}
use Rattle.ur_sqltype.specs.SqltypeFaults.{acts}
use Rattle.ur_sqltype.proofs.Taken.{then_gives}
use Rattle.ur_sqltype.proofs.Exits.{refused-exit}
use Rattle.ur_sqltype_statements.proofs.actions.change_of.Goals as goal

pub returns-in_err-core-in-Some-clause-refused : goal.returns-in_err-core-in-Some-clause-refused
returns-in_err-core-in-Some-clause-refused c = refused-exit c.from_residual-in_err-core-in-Some.result c.in_err-core-in-Some.field-0.0 c.from_residual-in_err-core-in-Some.ensures.1 (λ r b. acts c.in-Some.at c.in-Some.shape.now (ap (table_at c.args.home.now c.args.tables.now) (sym c.target_of-x.ensures) ∙ (subst (λ o. MatchOption o (table_at c.args.home.now c.args.tables.now c.target_of-x.result.now ≡ None) (λ t. table_at c.args.home.now c.args.tables.now c.target_of-x.result.now ≡ Some (t.0, t.1.now))) c.in-Some.is c.in_ok-found.ensures)) b) c.in_err-core-in-Some.ensures.refused

pub returns-in_ok-core-in-Some-clause-typed : goal.returns-in_ok-core-in-Some-clause-typed
unfolding change_of
returns-in_ok-core-in-Some-clause-typed c = then_gives (change_at c.args.kinds.now c.args.change.now) (table_at c.args.home.now c.args.tables.now (target_of c.args.change.now)) (c.in-Some.at, c.in-Some.shape.now) (Some c.in_ok-core-in-Some.core) (ap (table_at c.args.home.now c.args.tables.now) (sym c.target_of-x.ensures) ∙ (subst (λ o. MatchOption o (table_at c.args.home.now c.args.tables.now c.target_of-x.result.now ≡ None) (λ t. table_at c.args.home.now c.args.tables.now c.target_of-x.result.now ≡ Some (t.0, t.1.now))) c.in-Some.is c.in_ok-found.ensures)) c.in_ok-core-in-Some.ensures.typed

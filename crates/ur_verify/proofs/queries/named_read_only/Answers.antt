-- Each column is among these.
use Rattle.std.proofs.Common.{refl}
use Rattle.std.specs.Prelude.{Contains, List}
use Rattle.std.proofs.lemmas.List.Elements.{All-more}
use Rattle.ur_base.specs.declared.names.Name.{Name}
use Rattle.ur_sql.specs.declared.query.ColumnAt.{ColumnAt}
use Rattle.ur_verify.proofs.Loops.{all_end}
use Rattle.ur_verify.proofs.queries.named_read_only.Goals as goal

abbrev IsAmong : List ColumnAt → Name × ColumnAt → Type 0
IsAmong group c = Contains group c.1

pub loop-column-preserved : goal.loop-column-preserved
loop-column-preserved c =
    All-more (IsAmong c.args.group.now) c.args.columns.now c.loop-column.column-index _ c.loop-column-test.true c.loop-column.invariant
    (c.has_column.ensures.0 c.if-not-has_column.false)

pub returns : goal.returns
returns c = ((λ e. all_end (IsAmong c.args.group.now) c.args.columns.now c.loop-column.column-index c.loop-column-test.false c.loop-column.invariant), (λ a. refl))

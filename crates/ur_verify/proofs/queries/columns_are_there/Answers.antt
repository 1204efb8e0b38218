-- Each column is there.
use Rattle.std.proofs.Common.{◌≡◌, ◌∙◌, Bool, false, not, Option, List, refl, sym, ap}
use Rattle.std.specs.Prelude.{IsSome, is_some}
use Rattle.std.proofs.lemmas.List.Elements.{All-more}
use Rattle.ur_values.specs.declared.schema.ColumnKind.{ColumnKind}
use Rattle.ur_sql.specs.declared.query.ColumnAt.{ColumnAt}
use Rattle.ur_verify.specs.Scope.{kind_in}
use Rattle.ur_verify.proofs.Loops.{all_end}
use Rattle.ur_verify.proofs.queries.columns_are_there.Goals as goal

abbrev IsThere : List (List ColumnKind) → ColumnAt → Type 0
IsThere items at = IsSome (kind_in items at.item at.column)

there : (found wanted : Option ColumnKind) (b : Bool) → found ≡ wanted → is_some found ≡ not b → b ≡ false → IsSome wanted
there found wanted b e h f = sym (ap is_some e) ∙ h ∙ ap not f

pub loop-at-preserved : goal.loop-at-preserved
loop-at-preserved c =
    All-more (IsThere c.args.items.now) c.args.columns.now c.loop-at.at-index _ c.loop-at-test.true c.loop-at.invariant
    (there _ _ _ c.column_kind.ensures c.is_none.ensures c.if-is_none.false)

pub returns : goal.returns
returns c = ((λ e. all_end (IsThere c.args.items.now) c.args.columns.now c.loop-at.at-index c.loop-at-test.false c.loop-at.invariant), (λ a. refl))

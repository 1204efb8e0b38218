use Rattle.std.proofs.Common.{List, All, sym, subst}
use Rattle.ur_sql.specs.declared.query.Query.{Query}
use Rattle.ur_sql.specs.declared.change.Change.{Change}
use Rattle.ur_sql.specs.Typing.{QueryFits, ChangeFits}
use Rattle.ur_conditions.specs.declared.patterns.Patterns.{Patterns}
use Rattle.ur_invalidate.specs.Reading.{AreSitePatterns}
use Rattle.ur_invalidate.proofs.Sites.{at_place, zip_more}
use Rattle.ur_invalidate.proofs.Typed.{typed_atoms, all_patterns}
use Rattle.ur_invalidate.proofs.whole.patterns.Goals as goal

pub site_patterns-requires : goal.site_patterns-requires
site_patterns-requires c =
    typed_atoms (c.requires.0) c.as_slice-queries.result.now c.change-item.result (subst (λ (qs : List Query). All (QueryFits (c.requires.0)) qs) (sym c.as_slice-queries.ensures) (c.requires.1))
    (at_place (ChangeFits (c.requires.0)) c.as_slice-changes.result.now c.loop-change.change-index c.change-item.result c.loop-change-test.true c.change-item.is
    (subst (λ (us : List Change). All (ChangeFits (c.requires.0)) us) (sym c.as_slice-changes.ensures) (c.requires.2)))

pub loop-change-preserved : goal.loop-change-preserved
loop-change-preserved c =
    zip_more (AreSitePatterns c.as_slice-queries.result.now) c.as_slice-changes.result.now c.loop-change.updates c.push.new.self c.loop-change.change-index c.change-item.result c.in_ok-site_patterns.field-0
    c.loop-change-test.true c.change-item.is c.loop-change.invariant c.in_ok-site_patterns.ensures c.in_ok-push.ensures.ok

pub returns : goal.returns
returns c =
    let updates : Patterns = record { updates = c.loop-change.updates } in
    let are = all_patterns c.as_slice-queries.result.now c.args.queries.now c.as_slice-changes.result.now c.args.changes.now c.loop-change.change-index c.loop-change.updates c.as_slice-queries.ensures c.as_slice-changes.ensures
    c.loop-change-test.false c.loop-change.invariant in
    record { patterns = are; sound = λ schema queries changes. c.patterns_keep_answers.ensures schema c.args.queries.now c.args.changes.now updates queries changes are }

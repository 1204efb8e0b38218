use Rattle.std.proofs.Common.{◌∙◌, sym, ap, arith}
use Rattle.std.proofs.lemmas.List.{length-take-le}
use Rattle.ur_load.specs.Project.{is_directive}
use Rattle.ur_load.proofs.Listed.{all_named, named_behind, directive_more, not_directive, front_item}
use Rattle.ur_load.proofs.Refusing.{line_refused}
use Rattle.ur_load.proofs.modules.past_directives.Goals as goal

pub returns-then-empty-lines-clause-found : goal.returns-then-empty-lines-clause-found
returns-then-empty-lines-clause-found c = all_named c.args.lines.now c.first_empty-empty.result c.first_empty-empty.ensures.first c.if-empty-lines.true

pub returns-then-not-is_directive-clause-refused : goal.returns-then-not-is_directive-clause-refused
returns-then-not-is_directive-clause-refused c = let item = front_item c.args.lines.now c.first_empty-empty.result c.loop-line.line-index c.line-item.result c.first_empty-empty.ensures.within (omega arith) c.line-item.is in
    line_refused c.args.lines.now c.loop-line.line-index c.line-item.result c.bad_line.result item.within item.is
    (not_directive c.args.lines.now c.first_empty-empty.result c.loop-line.line-index c.line-item.result c.first_empty-empty.ensures.first (omega arith) item.before item.is (sym (c.is_directive.ensures ∙ ap is_directive c.as_slice.ensures) ∙ c.if-not-is_directive.true) c.loop-line.invariant) c.bad_line.ensures

pub loop-line-preserved : goal.loop-line-preserved
loop-line-preserved c = let item = front_item c.args.lines.now c.first_empty-empty.result c.loop-line.line-index c.line-item.result c.first_empty-empty.ensures.within (omega arith) c.line-item.is in
    directive_more c.args.lines.now c.loop-line.line-index c.line-item.result item.within item.is (sym (c.is_directive.ensures ∙ ap is_directive c.as_slice.ensures) ∙ c.if-not-is_directive.false) c.loop-line.invariant

pub returns-clause-found : goal.returns-clause-found
returns-clause-found c = named_behind c.args.lines.now c.first_empty-empty.result c.loop-line.line-index c.first_empty-empty.ensures.first c.first_empty-empty.ensures.within c.if-empty-lines.false
    (omega (arith, length-take-le c.first_empty-empty.result c.args.lines.now c.first_empty-empty.ensures.within)) c.loop-line.invariant

use Rattle.std.proofs.Common.{◌≡◌, true, Option, sym, subst, refl, ◌∙◌}
use Rattle.std.specs.Prelude.{IsSome}
use Rattle.ur_values.specs.declared.schema.Schema.{Schema}
use Rattle.ur_keeper_kept.proofs.Ends.{again-answers, again-same, again-text, first-answers, first-same}
use Rattle.ur_keeper_kept.proofs.Finding.{err-at}
use Rattle.ur_keeper_kept.proofs.attach.attach_to.Goals as goal

pub attach_known-requires-clause-text : goal.attach_known-requires-clause-text
attach_known-requires-clause-text g c =
    let there = c.requires.opens (subst (λ (o : Option Schema). IsSome o) (sym c.in-Some.is) refl) in
    again-text c.in-Some.known c.in_ok-known-in-Some.known _ _ c.args.kept.now c.in-Some.is c.in_ok-known-in-Some.ensures
    (c.in_ok-open.ensures.again there).0 c.requires.good

pub returns-in_ok-answer-in-Some-clause-answer : goal.returns-in_ok-answer-in-Some-clause-answer
returns-in_ok-answer-in-Some-clause-answer g c =
    let there = c.requires.opens (subst (λ (o : Option Schema). IsSome o) (sym c.in-Some.is) refl) in
    let end = c.in_ok-answer-in-Some.ensures in
    again-answers c.args.schema.now c.in-Some.known c.in_ok-known-in-Some.known c.in_ok-answer-in-Some.answer _ _ _ _ _ c.args.kept.now _ c.in-Some.is
    c.in_ok-known-in-Some.ensures (end.first ∙ c.in_ok-open.ensures.first) (c.in_ok-open.ensures.again there).0 c.requires.good end.answer end.kept

pub returns-in_err-answer-in-Some-clause-same : goal.returns-in_err-answer-in-Some-clause-same
returns-in_err-answer-in-Some-clause-same g c =
    let there = c.requires.opens (subst (λ (o : Option Schema). IsSome o) (sym c.in-Some.is) refl) in
    let end = c.in_err-answer-in-Some.ensures in
    err-at _ _
    (again-same c.in-Some.known c.in_ok-known-in-Some.known _ _ _ _ _ c.args.kept.now _ c.in-Some.is c.in_ok-known-in-Some.ensures
    (end.first ∙ c.in_ok-open.ensures.first) (c.in_ok-open.ensures.again there).0 end.same.0 end.same.1 c.requires.good)

pub returns-in_ok-answer-in-None-clause-answer : goal.returns-in_ok-answer-in-None-clause-answer
returns-in_ok-answer-in-None-clause-answer g c =
    let end = c.in_ok-answer-in-None.ensures in
    first-answers _ _ _ _ _ _ c.in_ok-open.ensures.first end.first c.in_ok-open.ensures.told (g.met.B.Bodies.is_told _) (g.met.B.Bodies.is_told _)
    c.args.schema.now c.in_ok-answer-in-None.answer c.args.kept.now _ c.in-None.is end.answer end.kept

pub returns-in_err-answer-in-None-clause-same : goal.returns-in_err-answer-in-None-clause-same
returns-in_err-answer-in-None-clause-same g c =
    let end = c.in_err-answer-in-None.ensures in
    err-at _ _
    (first-same _ _ _ _ _ _ c.in_ok-open.ensures.first end.first c.in_ok-open.ensures.told (g.met.B.Bodies.is_told _) (g.met.B.Bodies.is_told _)
    c.args.kept.now _ c.in-None.is end.same.0 end.same.1)

use Rattle.std.proofs.Common.{◌≡◌, Option, Some, None, pos, sym, subst, ◌∙◌}
use Rattle.ur_base.specs.Told.{WhereTold}
use Rattle.ur_keeper_bodies.specs.Bodies.{BodyMap, body_at}
use Rattle.ur_keeper_kept.specs.Laid.{text_at}
use Rattle.ur_keeper_kept.specs.Attach.{Starts, Reads}
use Rattle.ur_keeper_kept.proofs.Told.{told-one}
use Rattle.ur_keeper_kept.proofs.Ends.{started-takes, read-first}
use Rattle.ur_keeper_kept.proofs.attach.attach_first.Goals as goal

pub returns-in_ok-start-in-None-clause-answer : goal.returns-in_ok-start-in-None-clause-answer
returns-in_ok-start-in-None-clause-answer g c =
    let none = told-one _ (λ (m : BodyMap). c.in_ok-stored.stored ≡ body_at m (pos 0) (pos 0)) (λ m. None ≡ text_at m) c.in_ok-stored.ensures.body (λ m h. sym c.in-None.is ∙ h) in
    started-takes c.args.schema.now _ _ none
    (subst (λ (o : Option BodyMap). Starts c.args.schema.now o (g.B.Bodies.bodies c.start.new.stock.bodies)) c.in_ok-stored.ensures.same.same c.in_ok-start-in-None.ensures.starts)

pub returns-in_ok-answer-in-Some-clause-answer : goal.returns-in_ok-answer-in-Some-clause-answer
returns-in_ok-answer-in-Some-clause-answer g c =
    let answer = c.in_ok-answer-in-Some.answer in
    let stored = c.in-Some.stored in
    let text = told-one _ (λ (m : BodyMap). c.in_ok-stored.stored ≡ body_at m (pos 0) (pos 0)) (λ m. Some stored ≡ text_at m) c.in_ok-stored.ensures.body (λ m h. sym c.in-Some.is ∙ h) in
    read-first c.args.schema.now stored answer _ _ text
    (subst (λ (o : Option BodyMap). Reads c.args.schema.now stored answer o (g.B.Bodies.bodies c.attach_text.new.stock.bodies)) c.in_ok-stored.ensures.same.same c.in_ok-answer-in-Some.ensures.answer)

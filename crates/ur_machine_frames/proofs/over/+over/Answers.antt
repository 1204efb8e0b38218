use Rattle.std.proofs.Common.{◌∷◌, sym, ap, subst, ◌∙◌, arith}
use Rattle.std.specs.Prelude.{reverse}
use Rattle.ur_machine_frames.specs.Places.{AreLed}
use Rattle.ur_machine_frames.specs.Over.{IsOver}
use Rattle.ur_machine_frames.proofs.Placing.{last_first}
use Rattle.ur_machine_frames.proofs.Ending.{no_items, outside_within, outside_past, led_known}
use Rattle.ur_machine_frames.proofs.over.+over.Goals as goal

pub is_over-returns-in-Some : goal.is_over-returns-in-Some
is_over-returns-in-Some t c = λ fs h e.
    subst (λ l. IsOver fs l c.args.number) (sym (ap reverse c.in-Some.ensures.cases.0 ∙ last_first c.in-Some.under.now c.in-Some.frame.now))
    (c.is_over_with.ensures fs (subst (λ l. AreLed fs l (reverse c.args.places.now)) (ap reverse c.in-Some.ensures.cases.0 ∙ last_first c.in-Some.under.now c.in-Some.frame.now) h) e)

pub is_over_with-returns-in-Some : goal.is_over_with-returns-in-Some
is_over_with-returns-in-Some t c = λ fs h e.
    c.is_over_from.ensures fs (led_known fs (c.args.frame.now ∷ reverse c.args.under.now) c.in-Some.known.now c.in-Some._nearest.now (subst (λ l. AreLed fs (c.args.frame.now ∷ reverse c.args.under.now) (reverse l)) c.in-Some.ensures.cases.0 h)) e

pub is_over-returns-in-None : goal.is_over-returns-in-None
is_over-returns-in-None t c = λ fs h e. subst (λ l. IsOver fs (reverse l) c.args.number) (sym (no_items c.args.frames.now (sym c.in-None.ensures.cases))) tt

pub is_over_outside-returns-then-number-bound : goal.is_over_outside-returns-then-number-bound
is_over_outside-returns-then-number-bound t c = λ fs h e. outside_within c.args.bound c.args.number (IsOver fs (reverse c.args.under.now)) c.if-number-bound.true

pub is_over_outside-returns-else-number-bound : goal.is_over_outside-returns-else-number-bound
is_over_outside-returns-else-number-bound t c = λ fs h e. outside_past c.args.bound c.args.number (IsOver fs (reverse c.args.under.now)) (λ l. omega arith) (c.is_over.ensures fs h e)

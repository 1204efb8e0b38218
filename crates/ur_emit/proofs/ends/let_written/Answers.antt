use Rattle.std.proofs.Common.{◌≡◌, ◌<◌, ℕ, Some, [], ◌∷◌, length, sym, ap, subst, ◌∙◌, arith, drop}
use Rattle.std.specs.Prelude.{reverse}
use Rattle.ur_terms.specs.declared.term.Term.TheVariants as term
use Rattle.ur_machine_frames.specs.declared.frame.Frame.TheVariants as frame
use Rattle.ur_machine_frames.specs.Rest.{standing}
use Rattle.ur_emit.specs.declared.slots.Slot.TheVariants as slot
use Rattle.ur_emit.specs.Slots.{ComesTo}
use Rattle.ur_emit.specs.Ends.{Passes}
use Rattle.ur_emit.proofs.Passing.{passes_let, one_or_none, no_values}
use Rattle.ur_emit.proofs.ends.let_written.Goals as goal

pub returns-in-Let : goal.returns-in-Let
returns-in-Let c =
    let h = c.args.handlers.now in
    let fs = c.args.functions.now in
    let frames = reverse c.args.under.now in
    let slots = c.args.slots.now in
    let given = c.args.given in
    let chunk = c.in_ok-chunk-in-Let.chunk in
    let none : c.args.done.now ≡ [] = no_values c.args.done.now (λ l. omega arith) in
    let long : length c.in-Let.args ≡ 1 = omega arith in
    let only = one_or_none c.in-Let.args long in
    let stands : standing fs frames ≡ Some (term.Let (only.0 ∷ []) c.in-Let.body) =
    sym c.in-Some.ensures ∙ ap Some (c.in-Let.is ∙ ap (λ l. term.Let l c.in-Let.body) only.1) in
    let comes : ComesTo h (given ∷ slots) c.in-Let.body chunk =
    subst (λ b. ComesTo h (given ∷ slots) b chunk) c.get.ensures
    (subst (λ s. ComesTo h s c.get.result.now chunk) c.in_ok-push-in-Let.ensures.ok c.in_ok-chunk-in-Let.ensures.comes) in
    let same : c.drop_nearest.new.self ≡ slots = c.drop_nearest.ensures ∙ ap (drop 1) (c.in_ok-chunk-in-Let.ensures.slots ∙ c.in_ok-push-in-Let.ensures.ok) in
    subst (λ d. Passes h fs (frame.Args d) frames slots c.drop_nearest.new.self given (slot.Chunk chunk)) (sym none)
    (passes_let h fs frames slots c.drop_nearest.new.self given only.0 c.in-Let.body chunk stands comes same)

use Rattle.std.proofs.Common.{◌≡◌, Some, sym, ap, subst, ◌∙◌}
use Rattle.std.specs.Prelude.{reverse}
use Rattle.ur_values.specs.declared.value.Value.TheVariants as v
use Rattle.ur_terms.specs.declared.term.Term.TheVariants as term
use Rattle.ur_machine_frames.specs.declared.frame.Frame.TheVariants as frame
use Rattle.ur_machine_frames.specs.Rest.{standing}
use Rattle.ur_emit.specs.declared.slots.Slot.TheVariants as slot
use Rattle.ur_emit.specs.Slots.{ComesToEach}
use Rattle.ur_emit.specs.Ends.{Passes}
use Rattle.ur_emit.proofs.Passing.{passes_listed, passes_rows}
use Rattle.ur_emit.proofs.ends.rows_written.Goals as goal

pub returns-in-Many : goal.returns-in-Many
returns-in-Many c =
    let h = c.args.handlers.now in
    let fs = c.args.functions.now in
    let frames = reverse c.args.under.now in
    let slots = c.args.slots.now in
    let chunk = c.in_ok-chunk-in-Many.chunk in
    let stands : standing fs frames ≡ Some (term.Each c.in-Each.field-0 c.in-Each.body) = sym c.in-Some.ensures ∙ ap Some c.in-Each.is in
    let comes : ComesToEach h slots c.in-Each.body c.in-Many.items chunk =
    subst (λ b. ComesToEach h slots b c.in-Many.items chunk) c.get.ensures
    (subst (λ xs. ComesToEach h slots c.get.result.now xs chunk) c.as_slice.ensures c.in_ok-chunk-in-Many.ensures.comes) in
    subst (λ g. Passes h fs frame.Rows frames slots c.written_items.new.slots g (slot.Chunk chunk)) (sym c.in-Value.is)
    (passes_rows h fs frames slots c.written_items.new.slots c.in-Value.value c.in-Each.field-0 c.in-Each.body c.in-Many.items chunk stands c.in-Many.is comes
    c.in_ok-chunk-in-Many.ensures.slots)

pub returns-in-Rows : goal.returns-in-Rows
returns-in-Rows c =
    let h = c.args.handlers.now in
    let fs = c.args.functions.now in
    let frames = reverse c.args.under.now in
    let slots = c.args.slots.now in
    let chunk = c.in_ok-chunk-in-Rows.chunk in
    let stands : standing fs frames ≡ Some (term.Each c.in-Each.field-0 c.in-Each.body) = sym c.in-Some.ensures ∙ ap Some c.in-Each.is in
    let comes : ComesToEach h slots c.in-Each.body c.in-Rows.items.now chunk =
    subst (λ b. ComesToEach h slots b c.in-Rows.items.now chunk) c.get-in-Rows.ensures c.in_ok-chunk-in-Rows.ensures.comes in
    subst (λ g. Passes h fs frame.Rows frames slots c.written_items-in-Rows.new.slots g (slot.Chunk chunk)) (sym c.in-Rows.is)
    (passes_listed h fs frames slots c.written_items-in-Rows.new.slots c.in-Rows.items c.in-Each.field-0 c.in-Each.body chunk stands comes
    c.in_ok-chunk-in-Rows.ensures.slots)

-- The end of a run that is written at once.
use Rattle.std.proofs.Common.{◌≡◌, ℕ, List, Some, None, Option, ap, sym, subst, refl, ◌∙◌, Bor}
use Rattle.ur_values.specs.declared.value.Value.{Value}
use Rattle.ur_values.specs.declared.value.Value.TheVariants as v
use Rattle.ur_terms.specs.Run.{eval, outcome_of}
use Rattle.ur_tags.specs.Show.{document, show, show_nodes, show_markup}
use Rattle.ur_tags.proofs.Equations.{show_markup-Markup}
use Rattle.ur_machine_frames.specs.declared.control.Pause.TheVariants as pause
use Rattle.ur_machine_frames.specs.Rest.{standing, resume, state_of}
use Rattle.ur_emit.specs.declared.slots.Chunk.{Chunk}
use Rattle.ur_emit.specs.declared.slots.Slot.{Slot}
use Rattle.ur_emit.specs.declared.slots.Slot.TheVariants as slot
use Rattle.ur_emit.specs.Ends.{EndsAt}
use Rattle.ur_emit.specs.Slots.{IsSlot, Stand}
use Rattle.ur_code.specs.declared.code.Code.{Code}
use Rattle.ur_machine.specs.declared.machine.Machine.{Machine}
use Rattle.ur_machine.specs.Left.{EndsAs, begun}
use Rattle.ur_machine.specs.Rest.{IsBegun, IsEnd}

module _ (code : Code) (m : Machine) (slots : List Slot) (last : Slot) (stands : Stand code.handlers slots m.frames.values) where
  -- the value that was given goes through the frames
  pub given_ends : (x : Value) (b : Bor Value) → m.given ≡ Some x → b.now ≡ x
      → EndsAt code.handlers code.functions m.frames.frames slots (slot.Value b) last → IsEnd code m last
  given_ends x b given is ends =
      let (page, shows, end) = ends m.frames.values x stands is in (
        page,
        shows,
        λ d p store events. ap (λ g. resume d code.functions m.frames.frames m.frames.values
            (begun d code.functions g (standing code.functions m.frames.frames) m.frames.values (state_of m.frames store events))) given
            ∙ end d p (state_of m.frames store events),
      )

  -- XML of the term where the run stands goes through them
  pub begun_ends : (c : Chunk) → m.given ≡ None → IsBegun code m slots c → EndsAt code.handlers code.functions m.frames.frames slots (slot.Chunk c) last
      → IsEnd code m last
  begun_ends c none (a, place, comes) ends =
      let (x, is, reads) = comes m.frames.values stands in
      let (page, shows, end) = ends m.frames.values x stands is in (
        page,
        shows,
        λ d p store events. ap (λ g. resume d code.functions m.frames.frames m.frames.values
            (begun d code.functions g (standing code.functions m.frames.frames) m.frames.values (state_of m.frames store events))) none
            ∙ ap (λ o. resume d code.functions m.frames.frames m.frames.values
            (begun d code.functions None o m.frames.values (state_of m.frames store events))) place
            ∙ ap (resume d code.functions m.frames.frames m.frames.values) (reads d p (outcome_of d code.functions) (state_of m.frames store events))
            ∙ end d p (state_of m.frames store events),
      )

-- the bytes of the page
pub page_written : (code : Code) (m : Machine) (c : Chunk) (bytes : List ℕ) → bytes ≡ document c.bytes → IsEnd code m (slot.Chunk c)
    → (page : Value) × EndsAs code m m (pause.Page page) × (bytes ≡ show code.handlers page)
page_written code m c bytes is (page, (nodes, markup, shows, size, nesting), ends) =
    (page, ends, is ∙ ap document (shows ∙ sym (show_markup-Markup code.handlers nodes)) ∙ ap (λ x. document (show_markup code.handlers x)) (sym markup))

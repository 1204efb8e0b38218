-- What each frame passes on.
use Rattle.std.proofs.Common.{◌≡◌, ℕ, zero, suc, ◌+◌, ◌<◌, List, [], ◌∷◌, ◌++◌, length, drop, Some, refl, sym, ap, subst, ◌∙◌, arith, Bor}
use Rattle.ur_values.specs.declared.value.Value.{Value}
use Rattle.ur_values.specs.declared.value.Value.TheVariants as v
use Rattle.ur_terms.specs.declared.term.Function.{Function}
use Rattle.ur_terms.specs.declared.term.Term.{Term}
use Rattle.ur_terms.specs.declared.term.Term.TheVariants as t
use Rattle.ur_machine_frames.specs.declared.frame.Frame.{Frame}
use Rattle.ur_machine_frames.specs.declared.frame.Frame.TheVariants as frame
use Rattle.ur_machine_frames.specs.Rest.{standing}
use Rattle.ur_tags.specs.declared.routes.Handlers.{Handlers}
use Rattle.ur_emit.specs.declared.slots.Chunk.{Chunk}
use Rattle.ur_emit.specs.declared.slots.Slot.{Slot}
use Rattle.ur_emit.specs.declared.slots.Slot.TheVariants as slot
use Rattle.ur_emit.specs.Slots.{Stand, IsSlot, ComesTo, ComesToEach}
use Rattle.ur_emit.specs.Ends.{EndsAt, Passes, EndsIn}
use Rattle.ur_emit.proofs.Frames.{ends_here, ends_body, ends_let_body, ends_side, ends_branch, ends_let, ends_rows}

pub stand_drop : (h : Handlers) (n : ℕ) (slots : List Slot) (env : List Value) → Stand h slots env → Stand h (drop n slots) (drop n env)
stand_drop h zero slots env st = st
stand_drop h (suc n) [] env e = subst (λ z. Stand h [] (drop (suc n) z)) (sym e) refl
stand_drop h (suc n) (s ∷ slots) env (x, rest, e, is, st) = subst (λ z. Stand h (drop n slots) (drop (suc n) z)) (sym e) (stand_drop h n slots rest st)

module _ (h : Handlers) (fs : List Function) (frames : List Frame) (slots : List Slot) (given : Slot) where
  pub passes_body : (f : ℕ) (caller : List Value) (slots' : List Slot) → ((k : Handlers) → Stand k slots' caller)
      → Passes h fs (frame.Body f caller) frames slots slots' given given
  passes_body f caller slots' st env x is g = (x, g, st h, λ page e. ends_body fs frames f caller env x page e)

  pub passes_let_body : (n : ℕ) (slots' : List Slot) → slots' ≡ drop n slots → Passes h fs (frame.LetBody n) frames slots slots' given given
  passes_let_body n slots' same env x is g =
      (x, g, subst (λ z. Stand h z (drop n env)) (sym same) (stand_drop h n slots env is), λ page e. ends_let_body fs frames n env x page e)

  pub passes_side : (side : _) → Passes h fs (frame.Side side) frames slots slots given given
  passes_side side env x is g = (x, g, is, λ page e. ends_side fs frames side env x page e)

  pub passes_branch : (k n : ℕ) (slots' : List Slot) → slots' ≡ drop n slots → Passes h fs (frame.Branch k n) frames slots slots' given given
  passes_branch k n slots' same env x is g =
      (x, g, subst (λ z. Stand h z (drop n env)) (sym same) (stand_drop h n slots env is), λ page e. ends_branch fs frames k n env x page e)

pub passes_rows : (h : Handlers) (fs : List Function) (frames : List Frame) (slots slots' : List Slot) (r : Bor Value) (rows body : Term)
    (items : List Value) (c : Chunk)
    → standing fs frames ≡ Some (t.Each rows body) → r.now ≡ v.Many items → ComesToEach h slots body items c → slots' ≡ slots
    → Passes h fs frame.Rows frames slots slots' (slot.Value r) (slot.Chunk c)
passes_rows h fs frames slots slots' r rows body items c stands many comes same env x is g =
    let (nodes, chunk, makes, small) = comes env is in (
      v.Markup nodes,
      chunk,
      subst (λ z. Stand h z env) (sym same) is,
      λ page e. subst (λ z. EndsIn fs (frame.Rows ∷ frames) env z page) (sym many ∙ g)
          (ends_rows fs frames rows body items env nodes page stands makes small e),
    )

-- rows that are given where they stand
pub passes_listed : (h : Handlers) (fs : List Function) (frames : List Frame) (slots slots' : List Slot) (rs : Bor (List Value)) (rows body : Term) (c : Chunk)
    → standing fs frames ≡ Some (t.Each rows body) → ComesToEach h slots body rs.now c → slots' ≡ slots
    → Passes h fs frame.Rows frames slots slots' (slot.Rows rs) (slot.Chunk c)
passes_listed h fs frames slots slots' rs rows body c stands comes same env x is g =
    let (nodes, chunk, makes, small) = comes env is in (
      v.Markup nodes,
      chunk,
      subst (λ z. Stand h z env) (sym same) is,
      λ page e. subst (λ z. EndsIn fs (frame.Rows ∷ frames) env z page) g (ends_rows fs frames rows body rs.now env nodes page stands makes small e),
    )

pub passes_let : (h : Handlers) (fs : List Function) (frames : List Frame) (slots slots' : List Slot) (given : Slot) (a body : Term) (c : Chunk)
    → standing fs frames ≡ Some (t.Let (a ∷ []) body) → ComesTo h (given ∷ slots) body c → slots' ≡ slots
    → Passes h fs (frame.Args []) frames slots slots' given (slot.Chunk c)
passes_let h fs frames slots slots' given a body c stands comes same env x is g =
    let (y, chunk, reads) = comes (x ∷ env) (x, env, refl, g, is) in
    (y, chunk, subst (λ z. Stand h z env) (sym same) is, λ page e. ends_let fs frames (a ∷ []) body [] env x y page stands refl reads e)

-- ---- all frames

pub ends_none : (h : Handlers) (fs : List Function) (slots : List Slot) (given : Slot) → EndsAt h fs [] slots given given
ends_none h fs slots given env x st g = (x, g, ends_here fs env x)

pub ends_more : (h : Handlers) (fs : List Function) (f : Frame) (frames : List Frame) (slots slots' : List Slot) (given next last : Slot)
    → Passes h fs f frames slots slots' given next → EndsAt h fs frames slots' next last → EndsAt h fs (f ∷ frames) slots given last
ends_more h fs f frames slots slots' given next last pass ends env x st g =
    let (y, is, stands, to) = pass env x st g in
    let (page, shows, end) = ends _ y stands is in
    (page, shows, to page end)

pub one_or_none : (xs : List Term) → length xs ≡ 1 → (a : Term) × (xs ≡ a ∷ [])
one_or_none [] e = absurd (omega arith)
one_or_none (a ∷ []) e = (a, refl)
one_or_none (a ∷ b ∷ more) e = absurd (omega arith)

pub no_values : (xs : List Value) → (0 < length xs → ⊥) → xs ≡ []
no_values [] h = refl
no_values (x ∷ xs) h = absurd (h (omega arith))

-- Folds as they are opened.
use Rattle.std.proofs.Common.{◌≡◌, ℕ, suc, List, [], ◌∷◌, length, reverse, Option, None, Some, Result, Ok, Err, refl, sym, ap, subst, ◌∙◌, append-nil, arith}
use Rattle.std.specs.Prelude.{slice_get, option_and_then}
use Rattle.std.specs.List.{AllZip}
use Rattle.std.proofs.lemmas.List.{take_all}
use Rattle.ur_rows.specs.declared.normal.NormalType.{NormalType}
use Rattle.ur_rows.specs.declared.normal.Part.{Part}
use Rattle.ur_tree.specs.declared.exp.Exp.{Exp}
use Rattle.ur_tree.specs.declared.exp.Exp.TheVariants as x
use Rattle.ur_tree.specs.declared.exp.Param.{Param}
use Rattle.ur_meaning.specs.Form.{same_form, let_form}
use Rattle.ur_source.specs.Reading.{Cons, fold_steps}
use Rattle.ur_source.specs.Items as i
use Rattle.ur_source.specs.Items.{Source, Scope, ItemForm, form_of, form_with, in_step, static_in}
use Rattle.ur_source.specs.Source.{source_of}
use Rattle.ur_unfold_static.specs.declared.node.Step.{Step}
use Rattle.ur_unfold_static.specs.Held.{Grows}
use Rattle.ur_unfold_static.specs.Scopes.{MayBeAt, StepIs, StepsMayBe}
use Rattle.ur_unfold_static.proofs.Laws.{grows_so}
use Rattle.ur_unfold_static.proofs.Standing.{steps_grown}
use Rattle.ur_meaning.specs.declared.head.Head.TheVariants as head
use Rattle.ur_meaning.specs.declared.head.Opened.{Opened}
use Rattle.ur_meaning.specs.declared.halt.Halt.{Halt}
use Rattle.ur_meaning.specs.Heads as heads
use Rattle.ur_unfold_pieces.specs.declared.piece.Piece.{Piece}
use Rattle.ur_unfold_pieces.specs.declared.opening.Opening.{Opening}
use Rattle.ur_unfold_pieces.specs.Told.{exp, closed, folding}
use Rattle.ur_unfold_pieces.specs.Keys.{Added}
use Rattle.ur_unfold_pieces.specs.Standing.{ScopeIs, StepsLeft, IsWhole}
use Rattle.ur_unfold_pieces.specs.Moving.{Stays}
use Rattle.ur_unfold_pieces.specs.Forming.{FormedAs}
use Rattle.ur_unfold_pieces.proofs.Staying.{scope_stays, steps_stay, stays_then, instances_stay}
use Rattle.ur_unfold_pieces.proofs.Scoped.{added_at, added_more}
use Rattle.ur_unfold_table.specs.Opened.{IsOpened}
use Rattle.ur_unfold_table.specs.Folding.{FoldsOver}
use Rattle.ur_unfold_table.proofs.Stepping.{next_step, no_step}
use Rattle.ur_unfold_table.proofs.Forming.{opened_formed, same_formed, none_formed, no_memory, static_formed, formed_after}
use Rattle.ur_unfold_table.proofs.Forms.{form-Fold}

-- ---- a fold over all of its steps

pub folds_stay : (old new : Opening) (ss : List Step) (r : Result ℕ Halt) → new.typed ≡ old.typed → new.vals ≡ old.vals → new.closing ≡ old.closing → new.scopes ≡ old.scopes
    → Added old.folds new.folds ss r → new.instances ≡ old.instances → Stays old new
folds_stay old new ss r t v c s f k =
    let more = added_more old.folds new.folds ss r f in
    record {
      widens = record {
        typed = ap (λ x. x.now) t;
        vals = v;
        closing = subst (Grows old.closing) (sym c) (grows_so old.closing);
        scopes = [];
        more_scopes = s ∙ sym (append-nil old.scopes);
        folds = more.0;
        more_folds = more.1;
      };
      keys = ap (λ x. x.keys) k;
    }

pub folds_over : (old new : Opening) (n j : ℕ) (step start : Exp) (ss : List Step) (r : Result (Opened Piece) Halt) → Added old.folds new.folds ss (Ok j)
    → IsOpened head.Same (folding n step start j (length ss) ∷ []) r → FoldsOver new n step start ss r
folds_over old new n j step start ss (Ok o) a opened = (j, added_at old.folds new.folds ss j a, opened.0, opened.1)
folds_over old new n j step start ss (Err e) a opened = opened

pub fold_formed : (old mid new : Opening) → Stays old mid → Stays mid new → IsWhole old → (n : ℕ) (step start : Exp) (around : Scope) (ss : List Step) (ks : Option (List Cons))
    → (r : Result (Opened Piece) Halt) → ScopeIs old n around → StepsMayBe mid.closing (Some ss) ks → FoldsOver new n step start ss r
    → FormedAs old new (form_with ks (λ ks. same_form (i.folding around step start ks))) r
fold_formed old mid new g w whole n step start around ss ks (Err e) at are f = no_memory old new (form_with ks (λ ks. same_form (i.folding around step start ks))) e f
fold_formed old mid new g w whole n step start around ss ks (Ok o) at are f =
    let stays = stays_then old mid new g w in
    let zip = steps_grown mid.closing new.closing w.widens.closing ss (reverse are.0) are.1 in
    let left : StepsLeft new f.0 (length ss) are.0 =
    (ss, f.1, omega arith, subst (λ l. AllZip (StepIs new.closing) l (reverse are.0)) (sym (take_all (length ss) ss (omega arith))) zip) in
    subst (λ ks. FormedAs old new (form_with ks (λ ks. same_form (i.folding around step start ks))) (Ok o)) (sym are.2)
    (same_formed old new (instances_stay old new stays whole) (folding n step start f.0 (length ss)) (i.folding around step start are.0) (Ok o) (f.2, f.3)
    (around, are.0, scope_stays old new stays.widens n around at, left, refl))

pub no_fold : (old new : Opening) → Stays old new → IsWhole old → (step start : Exp) (around : Scope) (ks : Option (List Cons)) (r : Result (Opened Piece) Halt)
    → StepsMayBe new.closing None ks → IsOpened head.Nothing [] r → FormedAs old new (form_with ks (λ ks. same_form (i.folding around step start ks))) r
no_fold old new g whole step start around ks r are opened =
    subst (λ ks. FormedAs old new (form_with ks (λ ks. same_form (i.folding around step start ks))) r) (sym are) (none_formed old new (instances_stay old new g whole) r opened)

-- ---- a fold as an expression

module _ (old new : Opening) (e step start : Exp) (of : NormalType) (acc : Param) (row : List Part) (is : e ≡ x.Fold of acc step start row) (around : Scope) where
  the_form : form_of (source_of old.typed.now) (i.exp around e)
      ≡ i.if_static (static_in (source_of old.typed.now) around e) (form_with (fold_steps around.cons row) (λ ks. same_form (i.folding around step start ks)))
  the_form =
      subst (λ e. form_of (source_of old.typed.now) (i.exp around e)
      ≡ i.if_static (static_in (source_of old.typed.now) around e) (form_with (fold_steps around.cons row) (λ ks. same_form (i.folding around step start ks))))
      (sym is) (form-Fold (source_of old.typed.now) around of acc step start row)

  pub static_fold : (j : ℕ) (r : Result (Opened Piece) Halt) → Stays old new → IsWhole old → MayBeAt new.closing.statics (Some j) (static_in (source_of old.typed.now) around e)
      → IsOpened head.Same (closed j ∷ []) r → FormedAs old new (form_of (source_of old.typed.now) (i.exp around e)) r
  static_fold j r g whole at opened =
      subst (λ f. FormedAs old new f r) (sym the_form)
      (static_formed old new (instances_stay old new g whole) j (static_in (source_of old.typed.now) around e) (form_with (fold_steps around.cons row) (λ ks. same_form (i.folding around step start ks))) r at opened)

  pub value_fold : (mid : Opening) (r : Result (Opened Piece) Halt) (step2 start2 : Exp) → step2 ≡ step → start2 ≡ start → Stays old mid → IsWhole old → static_in (source_of old.typed.now) around e ≡ None
      → FormedAs mid new (form_with (fold_steps around.cons row) (λ ks. same_form (i.folding around step2 start2 ks))) r → FormedAs old new (form_of (source_of old.typed.now) (i.exp around e)) r
  value_fold mid r step2 start2 a b g whole none formed =
      let form : ItemForm = form_with (fold_steps around.cons row) (λ ks. same_form (i.folding around step start ks)) in
      subst (λ f. FormedAs old new f r) (sym (the_form ∙ ap (λ c. i.if_static c form) none))
      (formed_after old mid new form r g.widens.typed (instances_stay old mid g whole)
      (subst (λ t. FormedAs mid new (form_with (fold_steps around.cons row) (λ ks. same_form (i.folding around step t ks))) r) b
      (subst (λ t. FormedAs mid new (form_with (fold_steps around.cons row) (λ ks. same_form (i.folding around t start2 ks))) r) a formed)))

-- ---- a fold over the fields that are left

pub start_formed : (s : Opening) (p : Source) (n steps left : ℕ) (step start : Exp) (around : Scope) (ks : List Cons) (r : Result (Opened Piece) Halt) → left ≡ 0 → ScopeIs s n around
    → StepsLeft s steps left ks → IsOpened head.Same (exp n start ∷ []) r → FormedAs s s (form_of p (i.folding around step start ks)) r
start_formed s p n steps left step start around ks r e at h opened =
    subst (λ ks. FormedAs s s (form_of p (i.folding around step start ks)) r) (sym (no_step s steps left ks e h))
    (same_formed s s refl (exp n start) (i.exp around start) r opened (around, at, refl))

pub step_formed : (old new : Opening) → Stays old new → IsWhole old → (p : Source) (n steps left l within : ℕ) (step start : Exp) (around : Scope) (ks : List Cons) (at : Step)
    → (r : Result (Opened Piece) Halt) → left ≡ suc l → ScopeIs old n around → StepsLeft old steps left ks → option_and_then (λ ss. slice_get ss l) (slice_get old.folds steps) ≡ Some at
    → ((k : Cons) → StepIs old.closing at k → ScopeIs new within (in_step k around)) → IsOpened head.Let (folding n step start steps l ∷ exp within step ∷ []) r
    → FormedAs old new (form_of p (i.folding around step start ks)) r
step_formed old new g whole p n steps left l within step start around ks at r e there h found go opened =
    let next = next_step old steps left l at ks e found h in
    let others = i.folding around step start next.rest in
    let inner = i.exp (in_step next.first around) step in
    subst (λ ks. FormedAs old new (form_of p (i.folding around step start ks)) r) (sym next.are)
    (opened_formed old new (instances_stay old new g whole) head.Let (folding n step start steps l ∷ exp within step ∷ []) (others ∷ inner ∷ []) (let_form (others ∷ []) inner) r opened (
      (around, next.rest, scope_stays old new g.widens n around there, steps_stay old new g.widens steps l next.rest next.others, refl),
      ((in_step next.first around, go next.first next.here, refl), tt),
    ) (heads.bound (others ∷ []) inner) refl)

-- The end of a run, frame by frame.
use Rattle.std.proofs.Common.{◌≡◌, ℕ, zero, suc, ◌+◌, true, false, List, [], ◌∷◌, ◌++◌, length, drop, Some, None, Option, refl, sym, ap, subst, ◌∙◌, arith, Bor}
use Rattle.ur_values.specs.declared.value.Value.{Value}
use Rattle.ur_values.specs.declared.value.Value.TheVariants as v
use Rattle.ur_values.specs.declared.value.Node.{Node}
use Rattle.ur_values.specs.Event.{Event}
use Rattle.ur_values.specs.Store.{Store}
use Rattle.ur_terms.specs.declared.term.Function.{Function}
use Rattle.ur_terms.specs.declared.term.Term.{Term, out-Term}
use Rattle.ur_terms.specs.declared.term.Term.TheVariants as t
use Rattle.ur_terms.specs.declared.term.Term.TheOpen as o
use Rattle.ur_terms.specs.State.{State, Outcome, Done, after}
use Rattle.ur_terms.specs.Values.{as_items, open_items}
use Rattle.ur_terms.specs.Ops.{given, markup}
use Rattle.ur_terms.specs.Run.{Does, Calls, eval, eval_list, for_each, joined, outcome_of}
use Rattle.ur_machine_frames.specs.declared.frame.Frame.{Frame}
use Rattle.ur_machine_frames.specs.declared.frame.Frame.TheVariants as frame
use Rattle.ur_machine_frames.specs.declared.frame.Frames.{Frames}
use Rattle.ur_machine_frames.specs.declared.control.Control.TheVariants as control
use Rattle.ur_machine_frames.specs.declared.control.Pause.TheVariants as pause
use Rattle.ur_machine_frames.specs.Rest.{standing, outer, resume, state_of, leaves_or, goes_on, frame_goes_on, args_from, items_from, applied}
use Rattle.ur_machine_frames.specs.Plays.{Plays}
use Rattle.ur_machine_frames.specs.Fields.{ReadsAs}
use Rattle.ur_machine_frames.specs.Steps.{Ends}
use Rattle.ur_emit.specs.Makes.{AreSmall, Makes, MakeEach}
use Rattle.ur_emit.specs.Ends.{EndsIn}
use Rattle.ur_emit.proofs.Makes.{builds, come_each}

drop_all : {A : Type 0} (xs : List A) → drop (length xs) xs ≡ []
drop_all [] = refl
drop_all (x ∷ xs) = drop_all xs

append_nil : {A : Type 0} (xs : List A) → xs ++ [] ≡ xs
append_nil [] = refl
append_nil (x ∷ xs) = ap (λ z. x ∷ z) (append_nil xs)

drop_last : {A B : Type 0} (xs : List A) (ys : List B) → length xs ≡ length ys → drop (length ys) xs ≡ []
drop_last xs ys e = ap (λ n. drop n xs) (sym e) ∙ drop_all xs

pub ends_here : (fs : List Function) (env : List Value) (x : Value) → EndsIn fs [] env x x
ends_here fs env x d p s = refl

pub ends_body : (fs : List Function) (frames : List Frame) (f : ℕ) (caller env : List Value) (x page : Value) → EndsIn fs frames caller x page
    → EndsIn fs (frame.Body f caller ∷ frames) env x page
ends_body fs frames f caller env x page h d p s = h d p s

pub ends_let_body : (fs : List Function) (frames : List Frame) (n : ℕ) (env : List Value) (x page : Value) → EndsIn fs frames (drop n env) x page
    → EndsIn fs (frame.LetBody n ∷ frames) env x page
ends_let_body fs frames n env x page h d p s = h d p s

pub ends_side : (fs : List Function) (frames : List Frame) (side : _) (env : List Value) (x page : Value) → EndsIn fs frames env x page
    → EndsIn fs (frame.Side side ∷ frames) env x page
ends_side fs frames side env x page h d p s = h d p s

pub ends_branch : (fs : List Function) (frames : List Frame) (k n : ℕ) (env : List Value) (x page : Value) → EndsIn fs frames (drop n env) x page
    → EndsIn fs (frame.Branch k n ∷ frames) env x page
ends_branch fs frames k n env x page h d p s = h d p s

-- the last value that a `let` binds
pub ends_let : (fs : List Function) (frames : List Frame) (args : List Term) (body : Term) (done env : List Value) (x y page : Value)
    → standing fs frames ≡ Some (t.Let args body) → length args ≡ length (done ++ x ∷ []) → ReadsAs ((done ++ x ∷ []) ++ env) body y
    → EndsIn fs frames env y page
    → EndsIn fs (frame.Args done ∷ frames) env x page
ends_let fs frames args body done env x y page stands last reads rest d p s =
    let calls = outcome_of d fs in
    let all = done ++ x ∷ [] in
    ap (λ z. resume d fs frames env (given z (λ a. goes_on d calls (frame.Args done) (out-Term a) env x s))) stands
    ∙ ap (λ a. resume d fs frames env (args_from d calls a env all s)) (t.outs-Let args body)
    ∙ ap (λ l. resume d fs frames env (after (eval_list d calls l env s) (λ ys u. applied d calls (o.Let args body) env (all ++ ys) u)))
    (drop_last args all last)
    ∙ ap (λ l. resume d fs frames env (eval d calls body (l ++ env) s)) (append_nil all)
    ∙ ap (resume d fs frames env) (reads d p calls s)
    ∙ rest d p s

-- the rows for which a body stands
pub ends_rows : (fs : List Function) (frames : List Frame) (rows body : Term) (items env : List Value) (nodes : List Node) (page : Value)
    → standing fs frames ≡ Some (t.Each rows body) → MakeEach env body items nodes → AreSmall nodes → EndsIn fs frames env (v.Markup nodes) page
    → EndsIn fs (frame.Rows ∷ frames) env (v.Many items) page
ends_rows fs frames rows body items env nodes page stands makes small rest d p s =
    let calls = outcome_of d fs in
    let c = come_each env body items nodes makes small in
    ap (λ z. resume d fs frames env (given z (λ a. goes_on d calls frame.Rows (out-Term a) env (v.Many items) s))) stands
    ∙ ap (λ a. resume d fs frames env (goes_on d calls frame.Rows a env (v.Many items) s)) (t.outs-Each rows body)
    ∙ ap (λ z. resume d fs frames env (given z (λ xs. items_from d calls body env [] xs s))) (ap open_items (v.outs-Many items))
    ∙ ap (λ r. resume d fs frames env (after r (λ ys u. joined ys u))) (c.comes d p calls s)
    ∙ ap (λ z. resume d fs frames env (given z (λ ns. markup ns s))) c.all
    ∙ ap (resume d fs frames env) (builds nodes small s)
    ∙ rest d p s

-- what is left of a machine's run is the page, and the machine is as it was
pub is_end : (fs : List Function) (m : Frames) (x page : Value) → EndsIn fs m.frames m.values x page → Ends fs m (control.Give x) m (pause.Page page)
is_end fs m x page h d p store events = h d p (state_of m store events)

pub is_end_of : (fs : List Function) (m : Frames) (a : Bor Term) (x page : Value) → ReadsAs m.values a.now x → EndsIn fs m.frames m.values x page
    → Ends fs m (control.Enter a) m (pause.Page page)
is_end_of fs m a x page reads h d p store events =
    ap (resume d fs m.frames m.values) (reads d p (outcome_of d fs) (state_of m store events)) ∙ h d p (state_of m store events)

-- Code without operations on tables comes to the same whatever those do, and its runs never stop at one.
use Rattle.std.proofs.Common.{◌≡◌, ℕ, zero, suc, List, [], ◌∷◌, ◌++◌, Option, Some, None, refl, sym, ap, ◌∙◌, Bor}
use Rattle.std.specs.Prelude.{slice_get, nat_le, if◌then◌else◌}
use Rattle.ur_values.specs.declared.value.Value.{Value}
use Rattle.ur_terms.specs.declared.term.Op.{Op}
use Rattle.ur_terms.specs.declared.term.Function.{Function}
use Rattle.ur_terms.specs.declared.term.Term.{Term, Row_of-Term, end_of-Term, more_of-Term, Row_of-Branch, end_of-Branch, more_of-Branch}
use Rattle.ur_terms.specs.declared.term.Term.TheVariants as t
use Rattle.ur_terms.specs.State.{State, Outcome, Done, Spent, Stuck, after, charge}
use Rattle.ur_terms.specs.Values.{as_items}
use Rattle.ur_terms.specs.Ops.{given}
use Rattle.ur_terms.specs.Run.{Does, Calls, eval, eval_one, eval_all, eval_branches, for_each, joined, choose, matched, on_match, run, outcome_of}
use Rattle.ur_terms.proofs.Equations.{after_same, given_same}
use Rattle.ur_terms.specs.Ops.{does}
use Rattle.ur_terms.specs.Run.{NeverRaises}
use Rattle.ur_terms.specs.declared.term.Op.TheVariants as op
use Rattle.ur_terms.proofs.Bound.{does_never_raises}
use Rattle.ur_machine_frames.specs.declared.frame.Frames.{Frames}
use Rattle.ur_machine_frames.specs.declared.control.Pause.TheVariants as pause
use Rattle.ur_machine_frames.specs.Rest.{resume, state_of}
use Rattle.ur_machine_frames.specs.Plays.{Plays, IsLocal, nothing, until, held, no_store}
use Rattle.ur_machine_frames.specs.Steps.{ComesTo}
use Rattle.ur_machine_frames.specs.Pure.{IsPure, ArePure, BranchesArePure}
use Rattle.ur_machine_frames.proofs.Leading.{stays_stuck}
use Rattle.ur_machine_frames.proofs.Playing.{until_plays}

each_same : (go come : Value → State → Outcome Value) → ((x : Value) (s : State) → go x s ≡ come x s) → (xs : List Value) (s : State) → for_each go xs s ≡ for_each come xs s
each_same go come h [] s = refl
each_same go come h (x ∷ xs) s = ap (λ w. after w (λ y u. after (for_each go xs u) (λ ys w. Done (y ∷ ys) w))) (h x s)
    ∙ after_same (come x s) _ _ (λ y u. ap (λ w. after w (λ ys w. Done (y ∷ ys) w)) (each_same go come h xs u))

matches_same : (m : Option (List Value)) (go come : List Value → Outcome Value) (a b : Outcome Value) → ((xs : List Value) → go xs ≡ come xs) → a ≡ b → on_match m go a ≡ on_match m come b
matches_same None go come a b h e = e
matches_same (Some xs) go come a b h e = h xs

module _ (d d' : Does) (p : Plays d) (p' : Plays d') (c c' : Calls) (calls : (f : ℕ) (xs : List Value) (s : State) → c f xs s ≡ c' f xs s) where
  mutual
    pub pure_eval : (a : Term) → IsPure a → (env : List Value) (s : State) → eval d c a env s ≡ eval d' c' a env s
    pure_eval (t.Variable i) h env s = refl
    pure_eval (t.Int i) h env s = refl
    pure_eval (t.Str text) h env s = refl
    pure_eval (t.Bool b) h env s = refl
    pure_eval (t.Make' o _ args) h env s = ap (λ w. after w (d o)) (pure_all args h.1 env s)
        ∙ after_same (eval_all d' c' args env s) _ _ (λ xs u. p.plain o h.0 xs u ∙ sym (p'.plain o h.0 xs u))
    pure_eval (t.Call' f _ args) h env s = ap (λ w. after w (λ xs u. charge 1 u (c f xs))) (pure_all args h env s)
        ∙ after_same (eval_all d' c' args env s) _ _ (λ xs u. ap (λ z. if nat_le 1 u.units then z else Spent u.events) (calls f xs _))
    pure_eval (t.Let' _ args _ body) h env s = ap (λ w. after w (λ xs u. eval_one d c body (xs ++ env) u)) (pure_all args h.0 env s)
        ∙ after_same (eval_all d' c' args env s) _ _ (λ xs u. pure_one body h.1 (xs ++ env) u)
    pure_eval (t.If' _ x _ a _ b) h env s = ap (λ w. after w (λ y u. choose y (eval_one d c a env u) (eval_one d c b env u))) (pure_one x h.0 env s)
        ∙ after_same (eval_one d' c' x env s) _ _ (λ y u. ap (λ z. choose y z (eval_one d c b env u)) (pure_one a h.1 env u) ∙ ap (choose y (eval_one d' c' a env u)) (pure_one b h.2 env u))
    pure_eval (t.Case' _ x _ bs) h env s = ap (λ w. after w (λ y u. eval_branches d c bs y env u)) (pure_one x h.0 env s)
        ∙ after_same (eval_one d' c' x env s) _ _ (λ y u. pure_branches bs h.1 y env u)
    pure_eval (t.Each' _ rows _ body) h env s =
        ap (λ w. after w (λ x u. given (as_items x) (λ items. after (for_each (λ item. eval_one d c body (item ∷ env)) items u) joined))) (pure_one rows h.0 env s)
        ∙ after_same (eval_one d' c' rows env s) _ _ (λ x u. given_same (as_items x) _ _ (λ items. ap (λ w. after w joined) (each_same _ _ (λ y s. pure_one body h.1 (y ∷ env) s) items u)))

    pub pure_one : {m : _} (a : Row_of-Term m) → ArePure a → (env : List Value) (s : State) → eval_one d c a env s ≡ eval_one d' c' a env s
    pure_one end_of-Term h env s = refl
    pure_one (more_of-Term x rest) h env s = pure_eval x h.0 env s

    pub pure_all : {m : _} (a : Row_of-Term m) → ArePure a → (env : List Value) (s : State) → eval_all d c a env s ≡ eval_all d' c' a env s
    pure_all end_of-Term h env s = refl
    pure_all (more_of-Term x rest) h env s = ap (λ w. after w (λ y u. after (eval_all d c rest env u) (λ ys w. Done (y ∷ ys) w))) (pure_eval x h.0 env s)
        ∙ after_same (eval d' c' x env s) _ _ (λ y u. ap (λ w. after w (λ ys w. Done (y ∷ ys) w)) (pure_all rest h.1 env u))

    pub pure_branches : {m : _} (bs : Row_of-Branch m) → BranchesArePure bs → (x : Value) (env : List Value) (s : State) → eval_branches d c bs x env s ≡ eval_branches d' c' bs x env s
    pure_branches end_of-Branch h x env s = refl
    pure_branches (more_of-Branch pattern body rest) h x env s =
        matches_same (matched pattern x) _ _ _ _ (λ bound. pure_eval body h.0 (bound ++ env) s) (pure_branches rest h.1 x env s)

module _ (fs : List Function) (pure : (f : ℕ) (function : Function) → slice_get fs f ≡ Some function → IsPure function.body) (d d' : Does) (p : Plays d) (p' : Plays d') where
  body_same : (f : ℕ) (c c' : Calls) (xs : List Value) (s : State) → ((g : ℕ) (ys : List Value) (u : State) → c g ys u ≡ c' g ys u) → (o : Option Function) → slice_get fs f ≡ o
      → given o (λ function. eval d c function.body xs s) ≡ given o (λ function. eval d' c' function.body xs s)
  body_same f c c' xs s calls None e = refl
  body_same f c c' xs s calls (Some function) e = pure_eval d d' p p' c c' calls function.body (pure f function e) xs s

  pure_run : (n f : ℕ) (xs : List Value) (s : State) → run d fs n f xs s ≡ run d' fs n f xs s
  pure_run zero f xs s = refl
  pure_run (suc n) f xs s = body_same f (run d fs n) (run d' fs n) xs s (λ g ys u. pure_run n g ys u) (slice_get fs f) refl

  -- Pure code comes to the same by all of them.
  pub pure_outcome : (f : ℕ) (xs : List Value) (s : State) → outcome_of d fs f xs s ≡ outcome_of d' fs f xs s
  pure_outcome f xs s = pure_run (suc s.units) f xs s

-- operations that get stuck at tables
abbrev stuck_at_tables : Does
stuck_at_tables (op.Ask how site) xs s = Stuck
stuck_at_tables (op.Write update) xs s = Stuck
stuck_at_tables (op.Next q) xs s = Stuck
stuck_at_tables o xs s = does nothing o xs s

stuck_plain : (o : Op) → IsLocal o → (xs : List Value) (s : State) → stuck_at_tables o xs s ≡ does nothing o xs s
stuck_plain (op.Ask how site) l xs s = absurd l
stuck_plain (op.Write update) l xs s = absurd l
stuck_plain (op.Next q) l xs s = absurd l
stuck_plain o l xs s = refl

stuck_units : NeverRaises stuck_at_tables
stuck_units (op.Ask how site) xs s = tt
stuck_units (op.Write update) xs s = tt
stuck_units (op.Next q) xs s = tt
stuck_units o xs s = does_never_raises nothing o xs s

stuck_at : (o : Op) → (IsLocal o → ⊥) → (xs : List Value) (s : State) → stuck_at_tables o xs s ≡ Stuck
stuck_at (op.Ask how site) l xs s = refl
stuck_at (op.Write update) l xs s = refl
stuck_at (op.Next q) l xs s = refl
stuck_at o l xs s = absurd (l tt)

-- A run of pure code that does not get stuck never stops at an operation on tables.
pub pure_never_pauses : (fs : List Function) → ((f : ℕ) (function : Function) → slice_get fs f ≡ Some function → IsPure function.body)
    → (f : ℕ) (args carried : List Value) (units : ℕ) (m : Frames) (r : Bor Op) (xs : List Value)
    → (outcome_of until fs f args (held carried [] no_store [] units) ≡ Stuck → ⊥)
    → ComesTo fs f args carried units m (pause.Store r xs) → (IsLocal r.now → ⊥) → ⊥
pure_never_pauses fs pure f args carried units m r xs safe comes store_call =
    let plays : Plays stuck_at_tables = record { plain = stuck_plain; units = stuck_units } in
    safe (pure_outcome fs pure until stuck_at_tables until_plays plays f args (held carried [] no_store [] units)
    ∙ comes stuck_at_tables plays no_store []
    ∙ ap (resume stuck_at_tables fs m.frames m.values) (stuck_at r.now store_call xs (state_of m no_store []))
    ∙ stays_stuck fs stuck_at_tables m.frames m.values)

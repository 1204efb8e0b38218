-- The first branch that matches.
use Rattle.std.proofs.Common.{◌≡◌, ℕ, suc, ◌+◌, ◌≤◌, List, ◌++◌, length, drop, Some, None, refl, sym, ap, ◌∙◌, add-one}
use Rattle.std.specs.Prelude.{slice_get}
use Rattle.std.proofs.lemmas.Option.{slice_get_past}
use Rattle.ur_values.specs.declared.value.Value.{Value}
use Rattle.ur_terms.specs.declared.term.Branch.{Branch}
use Rattle.ur_terms.specs.State.{State, Stuck}
use Rattle.ur_terms.specs.Run.{Does, Calls, eval, first_branch, matched, on_match}
use Rattle.ur_terms.specs.Cost.{CallsCost, cost, first_cost, match_cost}
use Rattle.ur_machine_frames.proofs.Forms.{drop_at, drop_past}

-- the branches before a place do not match
pub record Skips (bs : List Branch) (n : ℕ) (x : Value) : Type 0 where
  pub runs : (d : Does) (c : Calls) (env : List Value) (s : State) → first_branch d c bs x env s ≡ first_branch d c (drop n bs) x env s
  pub costs : (d : Does) (c : Calls) (k : CallsCost) (env : List Value) (s : State) → first_cost d c k bs x env s ≡ first_cost d c k (drop n bs) x env s

pub skips_none : (bs : List Branch) (x : Value) → Skips bs 0 x
skips_none bs x = record { runs = λ d c env s. refl; costs = λ d c k env s. refl }

pub skips_next : (bs : List Branch) (n : ℕ) (x : Value) (b : Branch) → slice_get bs n ≡ Some b → matched b.pattern x ≡ None → Skips bs n x → Skips bs (n + 1) x
skips_next bs n x b e m h = record {
  runs = λ d c env s. h.runs d c env s ∙ ap (λ l. first_branch d c l x env s) (drop_at n bs b e)
      ∙ ap (λ o. on_match o (λ bound. eval d c b.body (bound ++ env) s) (first_branch d c (drop (suc n) bs) x env s)) m ∙ ap (λ k. first_branch d c (drop k bs) x env s) (sym (add-one n));
  costs = λ d c k env s. h.costs d c k env s ∙ ap (λ l. first_cost d c k l x env s) (drop_at n bs b e)
      ∙ ap (λ o. match_cost o (λ bound. cost d c k b.body (bound ++ env) s) (first_cost d c k (drop (suc n) bs) x env s)) m ∙ ap (λ j. first_cost d c k (drop j bs) x env s) (sym (add-one n));
}

pub found_runs : (bs : List Branch) (n : ℕ) (x : Value) (b : Branch) (xs : List Value) → slice_get bs n ≡ Some b → matched b.pattern x ≡ Some xs → Skips bs n x
    → (d : Does) (c : Calls) (env : List Value) (s : State) → first_branch d c bs x env s ≡ eval d c b.body (xs ++ env) s
found_runs bs n x b xs e m h d c env s = h.runs d c env s ∙ ap (λ l. first_branch d c l x env s) (drop_at n bs b e)
    ∙ ap (λ o. on_match o (λ bound. eval d c b.body (bound ++ env) s) (first_branch d c (drop (suc n) bs) x env s)) m

pub found_costs : (bs : List Branch) (n : ℕ) (x : Value) (b : Branch) (xs : List Value) → slice_get bs n ≡ Some b → matched b.pattern x ≡ Some xs → Skips bs n x
    → (d : Does) (c : Calls) (k : CallsCost) (env : List Value) (s : State) → first_cost d c k bs x env s ≡ suc (suc (cost d c k b.body (xs ++ env) s))
found_costs bs n x b xs e m h d c k env s = h.costs d c k env s ∙ ap (λ l. first_cost d c k l x env s) (drop_at n bs b e)
    ∙ ap (λ o. match_cost o (λ bound. cost d c k b.body (bound ++ env) s) (first_cost d c k (drop (suc n) bs) x env s)) m

pub found_none : (bs : List Branch) (n : ℕ) (x : Value) → length bs ≤ n → Skips bs n x → (d : Does) (c : Calls) (env : List Value) (s : State) → first_branch d c bs x env s ≡ Stuck
found_none bs n x past h d c env s = h.runs d c env s ∙ ap (λ l. first_branch d c l x env s) (drop_past n bs (slice_get_past bs n past))

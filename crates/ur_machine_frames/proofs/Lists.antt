-- The same over plain lists of terms and of branches.
use Rattle.std.proofs.Common.{◌≡◌, ℕ, suc, ◌+◌, List, [], ◌∷◌, ◌++◌, length, refl, sym, ap, subst, ◌∙◌}
use mathlib.Core.Former.{Count}
use denote.Hole.Carrier
use Rattle.ur_values.specs.declared.value.Value.{Value}
use Rattle.ur_terms.specs.declared.term.Op.{Op}
use Rattle.ur_terms.specs.declared.term.Branch.{Branch}
use Rattle.ur_terms.specs.declared.term.Term.TheBlock as block
use Rattle.ur_terms.specs.declared.term.Term.{Term, Row_of-Term, end_of-Term, more_of-Term, Row_of-Branch, end_of-Branch, more_of-Branch, items-the_row-Term, items_hidden-the_row-Term-0, items-the_row-Branch, items_hidden-the_row-Branch-2}
use Rattle.ur_terms.specs.declared.term.Term.TheVariants as t
use Rattle.ur_terms.specs.State.{State, Done, after}
use Rattle.ur_terms.specs.Run.{Does, Calls, eval, eval_list, first_branch, matched}
use Rattle.ur_terms.specs.Cost.{CallsCost, after_cost, cost, cost_list, first_cost}
use Rattle.ur_terms.proofs.Equations.{after_same, row_of, branches_of}
use Rattle.ur_terms.proofs.Cost.{after_cost_same}
use Rattle.ur_machine_frames.specs.Unread.{under, count_of, Unread, AllUnread, BranchesUnread, AreUnread, BranchUnread, AreBranchesUnread, SameBut}
use Rattle.ur_machine_frames.proofs.Bound.{bound_same, pattern_bound}
use Rattle.ur_machine_frames.proofs.Alike.{IsLong, long_after, one_longer, eval_alike, cost_alike, match_alike, match_cost_alike}

-- ---- rows

pub from_items : (i : ℕ) (m : Count) (row : Row_of-Term m) → AreUnread i (items-the_row-Term m row) → AllUnread i row
from_items i m end_of-Term h = tt
from_items i m (more_of-Term x rest) h = (h.0, from_items i _ rest h.1)

from_branches : (i : ℕ) (m : Count) (row : Row_of-Branch m) → AreBranchesUnread i (items-the_row-Branch m row) → BranchesUnread i row
from_branches i m end_of-Branch h = tt
from_branches i m (more_of-Branch pattern body rest) h = (h.0, from_branches i _ rest h.1)

count_items : (m : Count) (row : Row_of-Term m) → count_of row ≡ length (items-the_row-Term m row)
count_items m end_of-Term = refl
count_items m (more_of-Term x rest) = ap suc (count_items _ rest)

-- ---- what is run

module _ (d : Does) (c : Calls) where
  pub list_long : (xs : List Term) (env : List Value) (s : State) → IsLong (length xs) (eval_list d c xs env s)
  list_long [] env s = refl
  list_long (a ∷ more) env s = long_after (suc (length more)) (eval d c a env s) (λ y u. after (eval_list d c more env u) (λ ys w. Done (y ∷ ys) w))
      (λ y u. one_longer (length more) y (eval_list d c more env u) (list_long more env u))

  pub list_alike : (xs : List Term) (i : ℕ) (env env' : List Value) (s : State) → AreUnread i xs → SameBut i env env' → eval_list d c xs env s ≡ eval_list d c xs env' s
  list_alike [] i env env' s u h = refl
  list_alike (a ∷ more) i env env' s u h =
      ap (λ o. after o (λ y w. after (eval_list d c more env w) (λ ys v. Done (y ∷ ys) v))) (eval_alike d c a i env env' s u.0 h)
      ∙ after_same (eval d c a env' s) _ _ (λ y w. ap (λ o. after o (λ ys v. Done (y ∷ ys) v)) (list_alike more i env env' w u.1 h))

  pub first_alike : (bs : List Branch) (x : Value) (i : ℕ) (env env' : List Value) (s : State) → AreBranchesUnread i bs → SameBut i env env'
      → first_branch d c bs x env s ≡ first_branch d c bs x env' s
  first_alike [] x i env env' s u h = refl
  first_alike (b ∷ bs) x i env env' s u h =
      match_alike (matched b.pattern x) _ _ _ _
      (λ bound e. eval_alike d c b.body (under (length bound) i) (bound ++ env) (bound ++ env') s
      (pattern_bound (λ n. Unread (under n i) b.body) b.pattern x bound e u.0) (bound_same bound i env env' h))
      (first_alike bs x i env env' s u.1 h)

  module _ (k : CallsCost) where
    pub list_cost_alike : (xs : List Term) (i : ℕ) (env env' : List Value) (s : State) → AreUnread i xs → SameBut i env env' → cost_list d c k xs env s ≡ cost_list d c k xs env' s
    list_cost_alike [] i env env' s u h = refl
    list_cost_alike (a ∷ more) i env env' s u h =
        ap (λ n. n + after_cost (eval d c a env s) (λ y w. suc (cost_list d c k more env w))) (cost_alike d c k a i env env' s u.0 h)
        ∙ ap (λ n. cost d c k a env' s + n)
        (ap (λ o. after_cost o (λ y w. suc (cost_list d c k more env w))) (eval_alike d c a i env env' s u.0 h)
        ∙ after_cost_same (eval d c a env' s) _ _ (λ y w. ap suc (list_cost_alike more i env env' w u.1 h)))

    pub first_cost_alike : (bs : List Branch) (x : Value) (i : ℕ) (env env' : List Value) (s : State) → AreBranchesUnread i bs → SameBut i env env'
        → first_cost d c k bs x env s ≡ first_cost d c k bs x env' s
    first_cost_alike [] x i env env' s u h = refl
    first_cost_alike (b ∷ bs) x i env env' s u h =
        match_cost_alike (matched b.pattern x) _ _ _ _
        (λ bound e. cost_alike d c k b.body (under (length bound) i) (bound ++ env) (bound ++ env') s
        (pattern_bound (λ n. Unread (under n i) b.body) b.pattern x bound e u.0) (bound_same bound i env env' h))
        (first_cost_alike bs x i env env' s u.1 h)

-- ---- each form of term

pub unread-Variable : (i j : ℕ) → (j ≡ i → ⊥) → Unread i (t.Variable j)
unread-Variable i j h = h

pub unread-Make : (i : ℕ) (op : Op) (args : List Term) → AreUnread i args → Unread i (t.Make op args)
unread-Make i op args h =
    let row = row_of (t.Make op args) in
    from_items i row.0 row.1 (subst (AreUnread i) (sym (items_hidden-the_row-Term-0 args)) h)

pub unread-Call : (i f : ℕ) (args : List Term) → AreUnread i args → Unread i (t.Call f args)
unread-Call i f args h =
    let row = row_of (t.Call f args) in
    from_items i row.0 row.1 (subst (AreUnread i) (sym (items_hidden-the_row-Term-0 args)) h)

pub unread-Let : (i : ℕ) (args : List Term) (body : Term) → AreUnread i args → Unread (under (length args) i) body → Unread i (t.Let args body)
unfolding block.hidden-the_row-Term-1 Carrier.hidden
unread-Let i args body h k =
    let row = row_of (t.Let args body) in (
      from_items i row.0 row.1 (subst (AreUnread i) (sym (items_hidden-the_row-Term-0 args)) h),
      (subst (λ n. Unread (under n i) body) (sym (count_items row.0 row.1 ∙ ap length (items_hidden-the_row-Term-0 args))) k, tt),
    )

pub unread-If : (i : ℕ) (q a b : Term) → Unread i q → Unread i a → Unread i b → Unread i (t.If q a b)
unfolding block.hidden-the_row-Term-1 Carrier.hidden
unread-If i q a b h k l = ((h, tt), (k, tt), (l, tt))

pub unread-Case : (i : ℕ) (x : Term) (bs : List Branch) → Unread i x → AreBranchesUnread i bs → Unread i (t.Case x bs)
unfolding block.hidden-the_row-Term-1 Carrier.hidden
unread-Case i x bs h k =
    let row = branches_of (t.Case x bs) in
    ((h, tt), from_branches i row.0 row.1 (subst (AreBranchesUnread i) (sym (items_hidden-the_row-Branch-2 bs)) k))

pub unread-Each : (i : ℕ) (rows body : Term) → Unread i rows → Unread (suc i) body → Unread i (t.Each rows body)
unfolding block.hidden-the_row-Term-1 Carrier.hidden
unread-Each i rows body h k = ((h, tt), (k, tt))

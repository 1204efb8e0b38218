-- Links, fields and buttons.
use Rattle.std.proofs.Common.{◌≡◌, ℕ, zero, suc, ◌+◌, ◌≤◌, Bool, List, [], ◌∷◌, ◌++◌, length, take, drop, Option, Some, None, refl, sym, ap, ap₂, subst, ◌∙◌}
use Rattle.std.proofs.Common.{arith}
use Rattle.ur_base.specs.declared.names.Name.{Name}
use Rattle.ur_values.specs.declared.value.Value.{Value}
use Rattle.ur_values.specs.declared.value.Node.{Node}
use Rattle.ur_values.specs.declared.value.Node.TheVariants as n
use Rattle.ur_values.specs.declared.value.FieldKind.{FieldKind}
use Rattle.ur_values.proofs.Equations.{size-Link, nesting-Link}
use Rattle.ur_terms.specs.declared.term.Op.TheVariants as op
use Rattle.ur_terms.specs.declared.term.Term.{Term}
use Rattle.ur_terms.specs.declared.term.Term.TheVariants as t
use Rattle.ur_terms.specs.State.{State, Done, after}
use Rattle.ur_terms.specs.Values.{all_nodes}
use Rattle.ur_terms.specs.Ops.{given, markup, optional_text, with_unit}
use Rattle.ur_terms.specs.Run.{Does, Calls, eval_list}
use Rattle.ur_machine_frames.specs.Plays.{Plays}
use Rattle.ur_emit.specs.Makes.{AreSmall, Makes, MakeAll, ReadAll}
use Rattle.ur_emit.proofs.Makes.{Come, come, done_by, builds, sizes_of_one, reads_all}

eval_both : (env : List Value) (args more : List Term) (xs ys : List Value) → ReadAll env args xs → (d : Does) → Plays d → (calls : Calls) (s : State)
    → eval_list d calls more env s ≡ Done ys s → eval_list d calls (args ++ more) env s ≡ Done (xs ++ ys) s
eval_both env [] more xs ys e d p calls s h = h ∙ ap (λ z. Done (z ++ ys) s) (sym e)
eval_both env (a ∷ args) more xs ys (x, rest, e, r, rs) d p calls s h =
    ap (λ o. after o (λ y u. after (eval_list d calls (args ++ more) env u) (λ zs w. Done (y ∷ zs) w))) (r d p calls s)
    ∙ ap (λ o. after o (λ zs w. Done (x ∷ zs) w)) (eval_both env args more rest ys rs d p calls s h) ∙ ap (λ z. Done (z ++ ys) s) (sym e)

take_first : (k : ℕ) (xs ys : List Value) → length xs ≡ k → take k (xs ++ ys) ≡ xs
take_first zero [] ys e = refl
take_first zero (x ∷ xs) ys e = absurd (omega arith)
take_first (suc k) [] ys e = absurd (omega arith)
take_first (suc k) (x ∷ xs) ys e = ap (λ z. x ∷ z) (take_first k xs ys (omega arith))

drop_first : (k : ℕ) (xs ys : List Value) → length xs ≡ k → drop k (xs ++ ys) ≡ ys
drop_first zero [] ys e = refl
drop_first zero (x ∷ xs) ys e = absurd (omega arith)
drop_first (suc k) [] ys e = absurd (omega arith)
drop_first (suc k) (x ∷ xs) ys e = drop_first k xs ys (omega arith)

-- a link whose first arguments are read where they stand
pub makes-Link : (env : List Value) (route k : ℕ) (args parts : List Term) (xs : List Value) (nodes : List Node) → ReadAll env args xs → length xs ≡ k
    → MakeAll env parts nodes
    → Makes env (t.Make (op.Link route k) (args ++ parts)) (n.Link (record { route = route; args = xs }) nodes ∷ [])
makes-Link env route k args parts xs nodes r long m small d p calls s =
    let node = n.Link (record { route = route; args = xs }) nodes in
    let one = sizes_of_one node in
    let two = size-Link (record { route = route; args = xs }) nodes in
    let three = nesting-Link (record { route = route; args = xs }) nodes in
    let inner : AreSmall nodes = (omega arith, omega arith) in
    let c = come env parts nodes m inner in
    let all = xs ++ c.values in
    done_by env (op.Link route k) (args ++ parts) all d calls s _ (eval_both env args parts xs c.values r d p calls s (c.comes d p calls s))
    (p.plain (op.Link route k) tt all s
    ∙ ap (λ z. given (all_nodes z) (λ kids. markup (n.Link (record { route = route; args = take k all }) kids ∷ []) s)) (drop_first k xs c.values long)
    ∙ ap (λ z. given (all_nodes c.values) (λ kids. markup (n.Link (record { route = route; args = z }) kids ∷ []) s)) (take_first k xs c.values long)
    ∙ ap (λ z. given z (λ kids. markup (n.Link (record { route = route; args = xs }) kids ∷ []) s)) c.all
    ∙ builds (node ∷ []) small s)

-- a form's field, with a value or without
pub makes-Input : (env : List Value) (kind : FieldKind) (name : Name) (text : List ℕ) (args : List Term) (xs : List Value) (value : Option (List ℕ))
    → ReadAll env args xs
    → optional_text xs ≡ Some value → Makes env (t.Make (op.Input kind name text) args) (n.Field kind text value ∷ [])
makes-Input env kind name text args xs value r e small d p calls s =
    done_by env (op.Input kind name text) args xs d calls s _ (reads_all env args xs r d p calls s)
    (p.plain (op.Input kind name text) tt xs s ∙ ap (λ z. given z (λ w. markup (n.Field kind text w ∷ []) s)) e ∙ builds (n.Field kind text value ∷ []) small s)

-- a button whose first arguments are its call's
pub makes-Submit : (env : List Value) (route k : ℕ) (unit : Bool) (args rest : List Term) (xs ys : List Value) (label : Option (List ℕ))
    → ReadAll env args xs → length xs ≡ k
    → ReadAll env rest ys → optional_text ys ≡ Some label
    → Makes env (t.Make (op.Submit route k unit) (args ++ rest)) (n.Submit (record { route = route; args = with_unit unit xs }) label ∷ [])
makes-Submit env route k unit args rest xs ys label r long q e small d p calls s =
    let all = xs ++ ys in
    done_by env (op.Submit route k unit) (args ++ rest) all d calls s _ (eval_both env args rest xs ys r d p calls s (reads_all env rest ys q d p calls s))
    (p.plain (op.Submit route k unit) tt all s
    ∙ ap (λ z. given (optional_text z) (λ l. markup (n.Submit (record { route = route; args = with_unit unit (take k all) }) l ∷ []) s))
    (drop_first k xs ys long)
    ∙ ap (λ z. given (optional_text ys) (λ l. markup (n.Submit (record { route = route; args = with_unit unit z }) l ∷ []) s)) (take_first k xs ys long)
    ∙ ap (λ z. given z (λ l. markup (n.Submit (record { route = route; args = with_unit unit xs }) l ∷ []) s)) e
    ∙ builds (n.Submit (record { route = route; args = with_unit unit xs }) label ∷ []) small s)
